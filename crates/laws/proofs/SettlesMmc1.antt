-- Two MMC1 boards with one serial register make the same moves. A control load makes their modes one; from then on a CHR 0 load stores one value,
-- and so does a CHR 1 load in 4 KB mode, and a PRG load always; what is one stays one under the same moves. Assumes nothing.
use Prim.Native.Nat.{ℕ, zero, suc, ◌+◌, ◌≤◌}
use mathlib.Core.Path.{◌≡◌, refl, sym, ap, ap₂, ◌∙◌, subst, subst⁻¹}
use mathlib.Core.Bool.{true, cond, ◌&&◌}
use mathlib.Core.List.{List, [], ◌∷◌}
use native.Mathlib.Numerals.{add-one}
use native.Mathlib.Omega.{arith}
use lib.Dec.{ltb}
use lib.ListN.{take}
use borrow.Author.Tests.{ltb-false, le-ltb}
use Rattle.std.proofs.lemmas.Bool.{cond_both}
use Rattle.rules.proofs.Bools.{either}
use Rattle.common.specs.Common.{is_signed}
use Rattle.common.proofs.Answers.{same_is}
use Rattle.common.specs.declared.Mode.{Mode}
use Rattle.common.specs.declared.Mode.TheVariants.{House, Board as OnBoard}
use Rattle.common.specs.declared.Mirroring.{Mirroring}
use Rattle.cartridge.specs.Mappers.{is_mapper}
use Rattle.cartridge.specs.declared.Cartridge.{Cartridge}
use Rattle.cartridge.specs.declared.MapperType.TheVariants.{Mmc1}
use Rattle.mmc1.specs.Write.{empty, move_of, stored_chr0, stored_chr1, load, applied, mirrors_of}
use Rattle.mmc1.specs.declared.Mmc1 as mmc1-type
use Rattle.mmc1.specs.declared.Move.{Move}
use Rattle.mmc1.specs.declared.Move.TheVariants.{Fill, Clear}
use Rattle.mmc1.specs.declared.Register.{Register}
use Rattle.mmc1.specs.declared.Register.TheVariants.{Control, Chr0, Chr1, Prg}
use Rattle.mmc1.specs.declared.Serial.{Serial}
use Rattle.boards.specs.Range.{in_range, screens_fit, mirroring_fits}
use Rattle.boards.specs.Write.{next_mirroring}
use Rattle.boards.specs.Runs.{Lent, next, Call, call, after}
use Rattle.boards.specs.declared.Board.{Board}
use Rattle.boards.specs.declared.Event.{Event}
use Rattle.boards.specs.declared.Event.TheVariants.{Read, Write, Clock}
use Rattle.laws.specs.Calls.{OneImage, LentWrite, wrote, SameCalls}
use Rattle.laws.specs.Loads.{accepts, made, moves}
use Rattle.laws.specs.SettlesMmc1.{Clears, move_at, is_serial, serial_writes, Settled, Agree, Settles}
use Rattle.laws.proofs.Positions.{same_after, same_moves, Preserved, Makes, Any, once, twice}
use Rattle.laws.proofs.Ranges.{next_keeps_cart}
use Rattle.laws.proofs.OneImage.{swapped, after_one, wrote_one}
use Rattle.laws.proofs.Mmc1Moves.{board_after, own_move, next_is, chosen, one_prgmode, one_chrmode, one_chr0, one_chr1, one_prg, Common, one_move, by_move, next_common}
use Rattle.laws.proofs.Mmc1Answers.{Alike, answers_alike, played_alike, ended_alike}

one_moves : {b d : Board} → Common b d → (cs : List Call) → moves b cs ≡ moves d cs
unfolding moves
one_moves r [] = refl
one_moves {b} {d} r (call l e ∷ cs) = ap₂ ◌∷◌ (one_move r l e) (one_moves {b = next b l e} {d = next d l e} (next_common r l e) cs)

-- in house mode the current mirroring is the header's
house_screens : (b : Board) → in_range b ≡ true → b.cart.mode ≡ House → b.mirroring ≡ b.cart.mirroring
unfolding in_range mirroring_fits screens_fit
house_screens b h e =
    same_is b.mirroring b.cart.mirroring
    (subst (λ (m : Mode). screens_fit m b.cart.mapper b.cart.mirroring b.mirroring ≡ true) e
    (grind arith))

-- what a control load makes one, and then CHR 0, CHR 1 and PRG loads
record Modes (b d : Board) : Type 0 where
  common : Common b d
  prgmode : b.registers.mmc1.regs.prgmode ≡ d.registers.mmc1.regs.prgmode
  chrmode : b.registers.mmc1.regs.chrmode ≡ d.registers.mmc1.regs.chrmode
  mirroring : b.mirroring ≡ d.mirroring

record First (b d : Board) : Type 0 where
  modes : Modes b d
  chr0 : b.registers.mmc1.regs.chr0 ≡ d.registers.mmc1.regs.chr0

record Second (b d : Board) : Type 0 where
  modes : Modes b d
  chr1 : b.registers.mmc1.regs.chr1 ≡ d.registers.mmc1.regs.chr1

record Program (b d : Board) : Type 0 where
  common : Common b d
  prg : b.registers.mmc1.regs.prg ≡ d.registers.mmc1.regs.prg

-- one move keeps each of them
keep_common : Preserved Common
keep_common b d r l e = next_common r l e

keep_modes : Preserved Modes
keep_modes b d r l e =
    let k = made b l e in
    let m = b.cart.mode in
    let x = b.registers.mmc1 in
    let y = d.registers.mmc1 in
    record {
      common = next_common r.common l e;
      prgmode = by_move r.common (λ (x : Board). x.registers.mmc1.regs.prgmode) l e (one_prgmode x y m k r.prgmode);
      chrmode = by_move r.common (λ (x : Board). x.registers.mmc1.regs.chrmode) l e (one_chrmode x y m k r.chrmode);
      mirroring = by_move r.common (λ (x : Board). x.mirroring) l e (ap (λ (s : Mirroring). next_mirroring m s (mirrors_of k)) r.mirroring);
    }

keep_first : Preserved First
keep_first b d r l e =
    record {
      modes = keep_modes b d r.modes l e;
      chr0 =
          by_move r.modes.common (λ (x : Board). x.registers.mmc1.regs.chr0) l e
          (one_chr0 b.registers.mmc1 d.registers.mmc1 b.cart.mode (made b l e) r.modes.chrmode r.chr0);
    }

keep_second : Preserved Second
keep_second b d r l e =
    record {
      modes = keep_modes b d r.modes l e;
      chr1 =
          by_move r.modes.common (λ (x : Board). x.registers.mmc1.regs.chr1) l e
          (one_chr1 b.registers.mmc1 d.registers.mmc1 b.cart.mode (made b l e) r.modes.chrmode r.chr1);
    }

keep_program : Preserved Program
keep_program b d r l e =
    record {
      common = next_common r.common l e;
      prg =
          by_move r.common (λ (x : Board). x.registers.mmc1.regs.prg) l e
          (one_prg b.registers.mmc1 d.registers.mmc1 b.cart.mode (made b l e) r.prg);
    }

-- what a load makes of the boards, read off its move
module _ {b d : Board} (r : Common b d) (w : Register) (l : Lent) (e : Event) (v : ℕ) (f : made b l e ≡ Fill w v) where
  by_load : {A : Type 0} (g : Board → A) → g (board_after (Fill w v) b.cart.mode b) ≡ g (board_after (Fill w v) b.cart.mode d) → g (next b l e) ≡ g (next d l e)
  by_load g h = by_move r g l e (subst⁻¹ (λ (k : Move). g (board_after k b.cart.mode b) ≡ g (board_after k b.cart.mode d)) f h)

-- a control load on the real board sets the mirroring, and in house mode both boards have the header's
screens : {b d : Board} → Common b d → (v : ℕ) (m : Mode) → b.cart.mode ≡ m → next_mirroring m b.mirroring (mirrors_of (Fill Control v)) ≡ next_mirroring m d.mirroring (mirrors_of (Fill Control v))
unfolding next_mirroring mirrors_of
screens {b} {d} r v House e =
    house_screens b r.one.first e ∙ ap (λ (c : Cartridge). c.mirroring) r.one.cart
    ∙ sym (house_screens d r.one.second (ap (λ (c : Cartridge). c.mode) (sym r.one.cart) ∙ e))
screens r v OnBoard e = refl

control_makes : Makes Common Any Control Modes
unfolding applied load
control_makes b d r x l e v f =
    record {
      common = next_common r l e;
      prgmode = by_load r Control l e v f (λ (x : Board). x.registers.mmc1.regs.prgmode) refl;
      chrmode = by_load r Control l e v f (λ (x : Board). x.registers.mmc1.regs.chrmode) refl;
      mirroring = by_load r Control l e v f (λ (x : Board). x.mirroring) (screens r v b.cart.mode refl);
    }

-- CHR 0 is stored by the CHR mode of the moment, which a control load has made one
chr0_makes : Makes Modes Any Chr0 First
unfolding applied load
chr0_makes b d r x l e v f =
    record {
      modes = keep_modes b d r l e;
      chr0 =
          by_load r.common Chr0 l e v f (λ (x : Board). x.registers.mmc1.regs.chr0)
          (ap (λ (n : ℕ). stored_chr0 b.cart.mode n v) r.chrmode);
    }

-- CHR 1 is stored in 4 KB mode
abbrev Wide : Board → Type 0
Wide b = b.registers.mmc1.regs.chrmode ≡ 1

wide_stored : (m : Mode) (n old v : ℕ) → n ≡ 1 → stored_chr1 m n old v ≡ v
unfolding stored_chr1
wide_stored m n old v e = grind arith

chr1_makes : Makes Modes Wide Chr1 Second
unfolding applied load
chr1_makes b d r x l e v f =
    let m = b.cart.mode in
    record {
      modes = keep_modes b d r l e;
      chr1 =
          by_load r.common Chr1 l e v f (λ (x : Board). x.registers.mmc1.regs.chr1)
          (wide_stored m b.registers.mmc1.regs.chrmode b.registers.mmc1.regs.chr1 v x
          ∙ sym (wide_stored m d.registers.mmc1.regs.chrmode d.registers.mmc1.regs.chr1 v (sym r.chrmode ∙ x)));
    }

prg_makes : Makes Common Any Prg Program
unfolding applied load
prg_makes b d r x l e v f =
    record { common = next_common r l e; prg = by_load r Prg l e v f (λ (x : Board). x.registers.mmc1.regs.prg) refl }

-- the four loads make the boards one
settles : (b d : Board) → Common b d → (cs : List Call) → Settled b cs → Agree (after b cs) (after d cs)
settles b d r cs s =
    record {
      cart = first.modes.common.one.cart;
      mirroring = first.modes.mirroring;
      mmc1 = λ i. record {
        serial = first.modes.common.serial i;
        regs = record {
          prgmode = first.modes.prgmode i;
          chrmode = first.modes.chrmode i;
          chr0 = first.chr0 i;
          chr1 = second.chr1 i;
          prg = program.prg i;
        };
      };
    }
  where
    first : First (after b cs) (after d cs)
    first =
        twice Common Modes First keep_common keep_modes keep_first Any Control Chr0 control_makes chr0_makes
        b d r cs s.control s.chr0 s.chr0_after_it s.control_load s.chr0_load tt

    second : Second (after b cs) (after d cs)
    second =
        twice Common Modes Second keep_common keep_modes keep_second Wide Control Chr1 control_makes chr1_makes
        b d r cs s.control s.chr1 s.chr1_after_it s.control_load s.chr1_load s.while_bit_4_is_set

    program : Program (after b cs) (after d cs)
    program = once Common Program keep_common keep_program Any Prg prg_makes b d r cs s.prg s.prg_load tt

-- a bit 7 write clears, so the two serial registers are one
clear_move : (w : LentWrite) (b : Board) → b.cart.mapper ≡ Mmc1 → Clears w b → made b w.lent (Write w.address w.byte) ≡ Clear
unfolding move_of
clear_move w b e p =
    own_move b e w.lent w.address w.byte ∙ rw (p.accepted, le-ltb w.address 0x8000 p.to_8000_ffff, p.bit_7) refl

pub emptied : (w : LentWrite) (b : Board) → b.cart.mapper ≡ Mmc1 → Clears w b → (wrote b w).registers.mmc1.serial ≡ empty
unfolding applied
emptied w b e p =
    ap (λ (x : Board). x.registers.mmc1.serial) (next_is b e w.lent (Write w.address w.byte))
    ∙ ap (λ (k : Move). (applied b.cart.mode k b.registers.mmc1).serial) (clear_move w b e p)

start_common : (b d : Board) → OneImage Mmc1 b d → (w u : LentWrite) → Clears w b → Clears u d → Common (wrote b w) (wrote d u)
start_common b d one w u p q =
    record {
      one = swapped (wrote_one (swapped (wrote_one one w)) u);
      serial = emptied w b one.mapper p ∙ sym (emptied u d (swapped one).mapper q);
    }

-- a move counts up by one at most, and only as a serial write
abbrev Counts : Mode → mmc1-type.Mmc1 → Move → Type 0
Counts m x k = (applied m k x).serial.count ≤ x.serial.count + cond (is_serial k) 1 0

counts : (m : Mode) (x : mmc1-type.Mmc1) (v a : ℕ) → Counts m x (move_of x.serial v a)
unfolding move_of applied
counts m x v a =
    either (Counts m x) (ltb a 0x8000) (omega arith)
    (either (Counts m x) (is_signed v) (omega arith) (either (Counts m x) (ltb x.serial.count 4) (omega arith) (omega arith)))

counted : (b : Board) → b.cart.mapper ≡ Mmc1 → (l : Lent) (e : Event) → Counts b.cart.mode b.registers.mmc1 (made b l e)
unfolding made applied
counted b h l (Read a) = omega arith
counted b h l (Write a v) =
    let P = Counts b.cart.mode b.registers.mmc1 in
    subst⁻¹ P (own_move b h l a v) (either P (accepts b l a) (counts b.cart.mode b.registers.mmc1 v a) (omega arith))
counted b h l Clock = omega arith

next_count : (b : Board) → b.cart.mapper ≡ Mmc1 → (l : Lent) (e : Event) → (next b l e).registers.mmc1.serial.count ≤ b.registers.mmc1.serial.count + cond (is_serial (made b l e)) 1 0
next_count b h l e = subst⁻¹ (λ (x : Board). x.registers.mmc1.serial.count ≤ b.registers.mmc1.serial.count + cond (is_serial (made b l e)) 1 0) (next_is b h l e) (counted b h l e)

-- where a register is filled, four bits were there
full : (s : Serial) (v a : ℕ) (r : Register) (u : ℕ) → move_of s v a ≡ Fill r u → 4 ≤ s.count
unfolding move_of
full s v a r u =
    cond_both (ltb a 0x8000) _ _ Full (λ t e. cc)
    (λ t. cond_both (is_signed v) _ _ Full (λ t e. cc)
    (λ t. cond_both (ltb s.count 4) _ _ Full (λ t e. cc) (λ t e. ltb-false s.count 4 t)))
  where
    Full : Move → Type 0
    Full k = k ≡ Fill r u → 4 ≤ s.count

fifth : (b : Board) (l : Lent) (e : Event) (r : Register) (v : ℕ) → made b l e ≡ Fill r v → 4 ≤ b.registers.mmc1.serial.count
unfolding made
fifth b l (Read a) r v f = cc
fifth b l (Write a u) r v f =
    let s = b.registers.mmc1.serial in
    full s u a r v (chosen (is_mapper b.cart.mapper Mmc1 && accepts b l a) (move_of s u a) r v f).1
fifth b l Clock r v f = cc

fifth_at : (b : Board) → b.cart.mapper ≡ Mmc1 → (cs : List Call) (i : ℕ) (r : Register) (v : ℕ) → move_at b cs i ≡ Fill r v
    → 5 ≤ b.registers.mmc1.serial.count + serial_writes (take (suc i) (moves b cs))
unfolding moves
fifth_at b m [] i r v h = cc
fifth_at b m (call l e ∷ cs) zero r v h = rw h (omega (arith, fifth b l e r v h))
fifth_at b m (call l e ∷ cs) (suc i) r v h =
    omega (arith, next_count b m l e, fifth_at (next b l e) (ap (λ (x : Cartridge). x.mapper) (next_keeps_cart b l e) ∙ m) cs i r v h)

-- two boards of one image, cleared by bit 7 writes that they accept, and the same calls
pub mmc1_settles : (b d : Board) → OneImage Mmc1 b d → (w u : LentWrite) → Clears w b → Clears u d → (cs ds : List Call) → SameCalls cs ds
    → Settles (wrote b w) (wrote d u) cs ds
mmc1_settles b d one w u p q cs ds same_calls =
    record {
      the_same_loads = one_moves common cs ∙ same_moves (wrote d u) cs ds same_calls;
      none_before_the_fifth = λ i r l.
          rw (add-one i)
          (omega (arith, ap (λ (s : Serial). s.count) (emptied w b one.mapper p), fifth_at (wrote b w) common.one.mapper cs i r l.bits l.done));
      the_boards_agree = agree;
      later_answers_agree = λ s l es. played_alike (alike s) l es;
      rams_stay_equal = λ s l es. ended_alike (alike s) l es;
      whatever_is_lent = λ s later. answers_alike (alike s) later;
    }
  where
    common : Common (wrote b w) (wrote d u)
    common = start_common b d one w u p q

    agree : Settled (wrote b w) cs → Agree (after (wrote b w) cs) (after (wrote d u) ds)
    agree s = subst (Agree (after (wrote b w) cs)) (same_after (wrote d u) cs ds same_calls) (settles (wrote b w) (wrote d u) common cs s)

    alike : Settled (wrote b w) cs → Alike (after (wrote b w) cs) (after (wrote d u) ds)
    alike s = record { agree = agree s; one = after_one common.one cs ds }
