-- A serial write below the fifth enters its bit and moves no register, an idle call leaves the board, and five bits shifted in from the top are their
-- sum, the first one lowest. Assumes nothing.
use Prim.Native.Nat.{ℕ, ◌+◌, ◌≤◌, ◌<◌}
use mathlib.Core.Path.{◌≡◌, refl, ap, ◌∙◌, subst⁻¹}
use mathlib.Core.Bool.{true, false, cond, ◌&&◌}
use mathlib.Core.List.{List, [], ◌∷◌, ◌++◌}
use native.Mathlib.Omega.{arith}
use lib.Dec.{ltb}
use lib.ListN.{length}
use borrow.Author.Tests.{ltb-false, lt-ltb, le-ltb}
use Rattle.rules.proofs.Bools.{either}
use Rattle.common.specs.Common.{is_signed}
use Rattle.common.specs.declared.Mode.{Mode}
use Rattle.common.specs.declared.Mode.TheVariants.{House, Board as OnBoard}
use Rattle.cartridge.specs.Mappers.{is_mapper}
use Rattle.cartridge.specs.declared.Cartridge.{Cartridge}
use Rattle.cartridge.specs.declared.MapperType.TheVariants.{Mmc1}
use Rattle.mmc1.specs.Write.{empty, shifted, register_at, move_of, applied}
use Rattle.mmc1.specs.declared.Mmc1 as mmc1-type
use Rattle.mmc1.specs.declared.Move.{Move}
use Rattle.mmc1.specs.declared.Move.TheVariants.{Nothing, Enter, Fill}
use Rattle.mmc1.specs.declared.Regs.{Regs}
use Rattle.mmc1.specs.declared.Serial.{Serial}
use Rattle.boards.specs.Runs as runs
use Rattle.boards.specs.Runs.{Lent, Call, call, next, after}
use Rattle.boards.specs.declared.Board.{Board}
use Rattle.boards.specs.declared.Event.{Event}
use Rattle.boards.specs.declared.Event.TheVariants.{Read, Write, Clock}
use Rattle.laws.specs.Calls.{LentWrite, wrote}
use Rattle.laws.specs.Loads.{accepts, made, moves}
use Rattle.laws.specs.PLines.{mmc1 as mmc1_image, ram, load_of, with_rams}
use Rattle.laws.specs.SettlesMmc1.{Clears}
use Rattle.laws.specs.FiveBits.{IsSerialWrite, Idle, Bit, calls_of, AllEnter, Five, first_four, before_fifth, five_bits, chosen, FiveEnter, OnlyEnter, FifthLoads}
use Rattle.laws.proofs.Loads.{a_call_makes_its_move}
use Rattle.laws.proofs.Mmc1Moves.{own_move}
use Rattle.laws.proofs.Opened.{opened}
use Rattle.laws.proofs.Positions.{after_append}
use Rattle.laws.proofs.Ranges.{next_keeps_cart}
use Rattle.laws.proofs.SettlesMmc1.{emptied}

-- reads and clocks are idle, and so are refused writes: `a_refused_write_completes_nothing`
pub a_write_below_8000_is_idle : (b : Board) (l : Lent) (a v : ℕ) → a < 0x8000 → made b l (Write a v) ≡ Nothing
unfolding made move_of
a_write_below_8000_is_idle b l a v h = rw (lt-ltb a 0x8000 h) (either (λ (k : Move). k ≡ Nothing) (is_mapper b.cart.mapper Mmc1 && accepts b l a) refl refl)

-- the registers of a board, and a bit more in its serial register
abbrev entered : Serial → ℕ → Serial
entered s v = record { count = s.count + 1; value = shifted s v }

abbrev holding : Serial → Regs → mmc1-type.Mmc1
holding s r = record { serial = s; regs = r }

-- where calls have left a board: what was loaded, and MMC1's registers
record At (c : Cartridge) (m : mmc1-type.Mmc1) (b : Board) : Type 0 where
  cart : b.cart ≡ c
  mmc1 : b.registers.mmc1 ≡ m

module _ (c : Cartridge) (is-mmc1 : c.mapper ≡ Mmc1) where
  own : {m : mmc1-type.Mmc1} {b : Board} → At c m b → b.cart.mapper ≡ Mmc1
  own p = ap (λ (x : Cartridge). x.mapper) p.cart ∙ is-mmc1

  -- a call takes the registers where its move does
  moved : {m : mmc1-type.Mmc1} {b : Board} → At c m b → (l : Lent) (e : Event) (k : Move) → made b l e ≡ k → At c (applied c.mode k m) (next b l e)
  moved {m} {b} p l e k f =
      record {
        cart = next_keeps_cart b l e ∙ p.cart;
        mmc1 = a_call_makes_its_move b (own p) l e
            ∙ (λ i. applied (p.cart i).mode (f i) (p.mmc1 i));
      }

  idle : {m : mmc1-type.Mmc1} {b : Board} → At c m b → (cs : List Call) → Idle b cs → At c m (after b cs)
  unfolding after applied
  idle p [] i = p
  idle {m} {b} p (call l e ∷ cs) i = idle {m = m} {b = next b l e} (moved p l e Nothing i.0) cs i.1

  -- the move of a serial write
  serial_move : {m : mmc1-type.Mmc1} {b : Board} → At c m b → (w : LentWrite) → IsSerialWrite w b → made b w.lent (Write w.address w.byte)
      ≡ cond (ltb m.serial.count 4) (Enter (entered m.serial w.byte)) (Fill (register_at w.address) (shifted m.serial w.byte))
  unfolding move_of
  serial_move {m} {b} p w h =
      own_move b (own p) w.lent w.address w.byte
      ∙ rw (h.accepted, le-ltb w.address 0x8000 h.to_8000_ffff, h.bit_7_clear)
      (ap (λ (x : mmc1-type.Mmc1). cond (ltb x.serial.count 4) (Enter (entered x.serial w.byte)) (Fill (register_at w.address) (shifted x.serial w.byte))) p.mmc1)

  bit_enters : {m : mmc1-type.Mmc1} {b : Board} → At c m b → (w : LentWrite) → IsSerialWrite w b → m.serial.count < 4
      → made b w.lent (Write w.address w.byte) ≡ Enter (entered m.serial w.byte)
  bit_enters {m} p w h n = serial_move p w h ∙ rw (lt-ltb m.serial.count 4 n) refl

  fifth_fills : {m : mmc1-type.Mmc1} {b : Board} → At c m b → (w : LentWrite) → IsSerialWrite w b → 4 ≤ m.serial.count
      → made b w.lent (Write w.address w.byte) ≡ Fill (register_at w.address) (shifted m.serial w.byte)
  fifth_fills {m} p w h n = serial_move p w h ∙ rw (le-ltb m.serial.count 4 n) refl

-- the serial register after some bits
abbrev all_entered : Serial → List Bit → Serial
all_entered s [] = s
all_entered s (t ∷ ts) = all_entered (entered s t.write.byte) ts

one_move_more : (b : Board) (l : Lent) (e : Event) (cs : List Call) (k : Move) → made b l e ≡ k → OnlyEnter (k ∷ moves (next b l e) cs) → OnlyEnter (moves b (call l e ∷ cs))
unfolding moves
one_move_more b l e cs k f h = subst⁻¹ (λ (x : Move). OnlyEnter (x ∷ moves (next b l e) cs)) f h

idle_first : (b : Board) (cs : List Call) → Idle b cs → (ds : List Call) → OnlyEnter (moves (after b cs) ds) → OnlyEnter (moves b (cs ++ ds))
unfolding after
idle_first b [] i ds h = h
idle_first b (call l e ∷ cs) i ds h = one_move_more b l e (cs ++ ds) Nothing i.0 (idle_first (next b l e) cs i.1 ds h)

idle_only : (b : Board) (cs : List Call) → Idle b cs → OnlyEnter (moves b cs)
unfolding moves
idle_only b [] i = tt
idle_only b (call l e ∷ cs) i = one_move_more b l e cs Nothing i.0 (idle_only (next b l e) cs i.1)

-- up to four bits enter, one after the other, and nothing is loaded
module _ (c : Cartridge) (is-mmc1 : c.mapper ≡ Mmc1) (r : Regs) where
  bits_enter : {s : Serial} {b : Board} → At c (holding s r) b → (ts : List Bit) (cs : List Call) → AllEnter b ts cs → s.count + length ts ≤ 4
      → At c (holding (all_entered s ts) r) (after b (calls_of ts cs))
  unfolding after applied
  bits_enter p [] cs h n = idle c is-mmc1 p cs h
  bits_enter {s} {b} p (t ∷ ts) cs h n =
      let w = t.write in
      let q = idle c is-mmc1 p t.before h.0 in
      let k = bit_enters c is-mmc1 q w h.1 (omega arith) in
      subst⁻¹ (At c (holding (all_entered s (t ∷ ts)) r)) (after_append b t.before (call w.lent (Write w.address w.byte) ∷ calls_of ts cs))
      (bits_enter {s = entered s w.byte} {b = next (after b t.before) w.lent (Write w.address w.byte)}
      (moved c is-mmc1 q w.lent (Write w.address w.byte) (Enter (entered s w.byte)) k) ts cs h.2 (omega arith))

  nothing_loaded : {s : Serial} {b : Board} → At c (holding s r) b → (ts : List Bit) (cs : List Call) → AllEnter b ts cs → s.count + length ts ≤ 4
      → OnlyEnter (moves b (calls_of ts cs))
  unfolding after applied
  nothing_loaded {s} {b} p [] cs h n = idle_only b cs h
  nothing_loaded {s} {b} p (t ∷ ts) cs h n =
      let w = t.write in
      let e = Write w.address w.byte in
      let d = after b t.before in
      let q = idle c is-mmc1 p t.before h.0 in
      let k = bit_enters c is-mmc1 q w h.1 (omega arith) in
      idle_first b t.before h.0 (call w.lent e ∷ calls_of ts cs)
      (one_move_more d w.lent e (calls_of ts cs) (Enter (entered s w.byte)) k
      (nothing_loaded {s = entered s w.byte} {b = next d w.lent e} (moved c is-mmc1 q w.lent e (Enter (entered s w.byte)) k) ts cs h.2 (omega arith)))

-- the five bits, shifted in from the top
summed : (f : Five) → shifted (all_entered empty (first_four f)) f.fifth.write.byte ≡ five_bits f
summed f = omega arith

-- five serial writes to a board whose serial register is empty
pub five_bits_lem : (b : Board) → b.cart.mapper ≡ Mmc1 → b.registers.mmc1.serial ≡ empty → (f : Five) → FiveEnter b f → FifthLoads b f
unfolding applied
five_bits_lem b is-mmc1 none f h =
    record {
      none_before = nothing_loaded b.cart is-mmc1 r start (first_four f) f.fifth.before h.four_enter (omega arith);
      the_load = load_is;
      registers = (moved b.cart is-mmc1 four w.lent (Write w.address w.byte) (Fill (chosen f) (five_bits f)) load_is).mmc1;
    }
  where
    w : LentWrite
    w = f.fifth.write

    r : Regs
    r = b.registers.mmc1.regs

    start : At b.cart (holding empty r) b
    start = record { cart = refl; mmc1 = λ i. record { serial = none i; regs = r } }

    four : At b.cart (holding (all_entered empty (first_four f)) r) (after b (before_fifth f))
    four = bits_enter b.cart is-mmc1 r start (first_four f) f.fifth.before h.four_enter (omega arith)

    load_is : made (after b (before_fifth f)) w.lent (Write w.address w.byte) ≡ Fill (chosen f) (five_bits f)
    load_is = fifth_fills b.cart is-mmc1 four w h.the_fifth (omega arith) ∙ ap (Fill (chosen f)) (summed f)

-- as it is after an accepted bit 7 write, whatever was in it
pub five_bits_after_a_clear : (b : Board) → b.cart.mapper ≡ Mmc1 → (w : LentWrite) → Clears w b → (f : Five) → FiveEnter (wrote b w) f → FifthLoads (wrote b w) f
five_bits_after_a_clear b is-mmc1 w clears f h =
    five_bits_lem (wrote b w) (ap (λ (c : Cartridge). c.mapper) (next_keeps_cart b w.lent (Write w.address w.byte)) ∙ is-mmc1)
    (emptied w b is-mmc1 clears) f h

-- such a run, with idle calls of every kind: its bits are 1, 0, 1, 1, 0, its last address is CHR 0's, and it loads 13
abbrev lent : Lent
lent = with_rams mmc1_image

abbrev bit : List Call → ℕ → ℕ → Bit
bit cs a v = record { before = cs; write = record { lent = lent; address = a; byte = v } }

abbrev run : Five
run =
    record {
      first = bit (call lent (Read 0x8000) ∷ call (runs.lent mmc1_image [] ram) (Write 0x8000 1) ∷ []) 0xE000 0x7F;
      second = bit [] 0x8000 0;
      third = bit (call lent Clock ∷ call lent (Write 0x6000 0xFF) ∷ []) 0x8000 1;
      fourth = bit [] 0xC000 3;
      fifth = bit (call lent (Write 0x0000 1) ∷ []) 0xBFFF 0x40;
    }

abbrev fresh : Mode → Board
fresh mode = (load_of mode mmc1_image).left

is_serial : {w : LentWrite} {b : Board} → ltb w.address 0x8000 ≡ false → is_signed w.byte ≡ false → accepts b w.lent w.address ≡ true → IsSerialWrite w b
is_serial {w} a v e = record { to_8000_ffff = ltb-false w.address 0x8000 a; bit_7_clear = v; accepted = e }

pub met_five : (mode : Mode) → FiveEnter (fresh mode) run
unfolding opened
met_five House =
    record {
      four_enter = ((refl, (refl, tt)), is_serial refl refl refl, (tt, is_serial refl refl refl, ((refl, (refl, tt)), is_serial refl refl refl, (tt, is_serial refl refl refl, (refl, tt)))));
      the_fifth = is_serial refl refl refl;
    }
met_five OnBoard =
    record {
      four_enter = ((refl, (refl, tt)), is_serial refl refl refl, (tt, is_serial refl refl refl, ((refl, (refl, tt)), is_serial refl refl refl, (tt, is_serial refl refl refl, (refl, tt)))));
      the_fifth = is_serial refl refl refl;
    }

pub met_thirteen : five_bits run ≡ 13
met_thirteen = refl

pub met : (mode : Mode) → FifthLoads (fresh mode) run
unfolding opened
met House = five_bits_lem (fresh House) refl refl run (met_five House)
met OnBoard = five_bits_lem (fresh OnBoard) refl refl run (met_five OnBoard)
