-- The NES 2.0 mark changes nothing in house mode, nor the low nibble of byte 7 in board mode where the mark is the same: a load asks of that nibble only
-- whether the image is read as NES 2.0, a call asks it of the mark for its range alone, and looks at no byte of the header. Assumes nothing.
use Rattle.std.specs.Prelude.{Ok, Err}
use Prim.Native.Nat.{ℕ, zero, suc, ◌+◌, ◌/◌, ◌<◌}
use mathlib.Core.Path.{◌≡◌, refl, ap, ◌∙◌, subst⁻¹}
use mathlib.Core.Bool.{Bool, true, false, cond, ◌&&◌}
use mathlib.Core.List.{List, [], ◌∷◌, map}
use native.Mathlib.Nat.{not-suc-le-zero, le_of_suc-le-suc}
use native.Mathlib.Omega.{arith}
use lib.Dec.{eqb}
use lib.ListN.{length, set, drop, length-set}
use lib.Seq.{get_or-set_other}
use Rattle.common.specs.declared.Mode.{Mode}
use Rattle.common.specs.declared.Mode.TheVariants.{House, Board as OnBoard}
use Rattle.common.specs.declared.Refusal.TheVariants.{StateOutOfRange}
use Rattle.memory.specs.Memory.{byte}
use Rattle.cartridge.specs.Header.{is_ines, header_of, mirroring_of, is_nes2}
use Rattle.cartridge.specs.Nes2.{is_nes2_in, extended, mapper_in, prg_in, chr_in, has_submapper, has_exponent, nes2_not_taken, has_prg_ram}
use Rattle.cartridge.specs.Load.{verdict, cartridge_of, loaded_as, ram_after, counts_end, prg_ram_fits, could_load, prg_total, prg_rom, chr_rom, chr_total}
use Rattle.cartridge.specs.declared.Cartridge.{Cartridge}
use Rattle.cartridge.specs.declared.MapperType.{MapperType}
use Rattle.cartridge.specs.Refusals.{Verdict}
use Rattle.places.specs.Places.{in_prg, in_chr, byte_of, byte_at}
use Rattle.places.specs.Windows.{Window, lands_in}
use Rattle.places.specs.declared.Place.{Place}
use Rattle.places.specs.declared.Place.TheVariants.{Prg, Chr, PrgRam as InPrgRam, ChrRam as InChrRam, Nowhere}
use Rattle.places.specs.Places.{Landing}
use Rattle.boards.specs.Start.{start_of, loaded_board, load_answer, board_of}
use Rattle.boards.specs.Range.{mirroring_fits, in_range, is_loaded}
use Rattle.boards.specs.Read.{read_window_on, read_landing}
use Rattle.boards.specs.Read as reads
use Rattle.boards.specs.Write.{write_window_on, write_landing, turned, accepted_write, written_as, landing}
use Rattle.boards.specs.Clock.{accepted_clock, clock}
use Rattle.boards.specs.Runs.{Lent, next, answer, left, Call, call, after, answers}
use Rattle.boards.specs.declared.Board.{Board}
use Rattle.boards.specs.declared.Event.{Event}
use Rattle.boards.specs.declared.Event.TheVariants.{Read, Write, Clock}
use Rattle.boards.specs.declared.Registers.{Registers}
use Rattle.boards.specs.Clock.{Clocked}
use Rattle.boards.specs.Write.{Written}
use Rattle.laws.specs.Mark.{marked, cart_marked, with_byte, lent_with, call_with, ReadAlike, SameLoad, SameCall, SameRun}
use Rattle.laws.proofs.Ranges.{next_keeps_cart}
use Rattle.laws.proofs.Opened.{opened}

-- what a write or a clock leaves, with this mark
abbrev written : Bool → Written → Written
written mark w = record { left = marked mark w.left; answer = w.answer }

abbrev clocked : Bool → Clocked → Clocked
clocked mark t = record { left = marked mark t.left; answer = t.answer }

-- a cartridge with this mode and mark
abbrev cart_in : Mode → Bool → Cartridge → Cartridge
cart_in mode mark c =
    record { mode = mode; mapper = c.mapper; nes2 = mark; mirroring = c.mirroring; prgram = c.prgram; prg = c.prg; chr = c.chr; length = c.length }

-- what reads and writes find, by mode and mapper, and where they land: the definitions look at other fields only
windows_alike : (mode : Mode) (k : MapperType) (x y : Bool) (r : Registers) (c : Cartridge) (a : ℕ)
    → (read_window_on k r (cart_in mode x c) a ≡ read_window_on k r (cart_in mode y c) a) × (write_window_on k r (cart_in mode x c) a ≡ write_window_on k r (cart_in mode y c) a)
unfolding opened
windows_alike mode k x y r c a = grind arith

lands_alike : (x : Bool) (c : Cartridge) (w : Window) (a : ℕ) → lands_in (cart_marked x c) w a ≡ lands_in c w a
unfolding lands_in in_prg in_chr chr_total
lands_alike x c w a = grind arith

-- what follows a place past byte i does not see it
drop_set : (k i : ℕ) (s : List ℕ) (v : ℕ) → i < k → drop k (set s i v) ≡ drop k s
drop_set zero i s v h = absurd (not-suc-le-zero h)
drop_set (suc k) i [] v h = refl
drop_set (suc k) zero (x ∷ s) v h = refl
drop_set (suc k) (suc i) (x ∷ s) v h = drop_set k i s v (le_of_suc-le-suc h)

-- the byte at a place, and where a read lands
of_alike : (x : Bool) (i v : ℕ) → i < 16 → (c : Cartridge) (p : Place) (image prg chr : List ℕ) → byte_of (cart_marked x c) p (with_byte i v image) prg chr ≡ byte_of c p image prg chr
unfolding byte_of prg_rom chr_rom
of_alike x i v h c (Prg k) image prg chr = ap (λ (t : List ℕ). byte t k) (drop_set 16 i image v h)
of_alike x i v h c (Chr k) image prg chr = ap (λ (t : List ℕ). byte t k) (drop_set (16 + prg_total c) i image v (omega (arith, h)))
of_alike x i v h c (InPrgRam k) image prg chr = refl
of_alike x i v h c (InChrRam k) image prg chr = refl
of_alike x i v h c Nowhere image prg chr = refl

byte_alike : (x : Bool) (i v : ℕ) → i < 16 → (c : Cartridge) (l : Landing) (image prg chr : List ℕ) → byte_at (cart_marked x c) l (with_byte i v image) prg chr ≡ byte_at c l image prg chr
unfolding byte_at
byte_alike x i v h c (Ok p) image prg chr = of_alike x i v h c p image prg chr
byte_alike x i v h c (Err why) image prg chr = refl

-- one board and its likeness, both read as NES 2.0 or neither
module _ (x : Bool) (i u : ℕ) (small : i < 16) (b : Board) (same : ReadAlike x b) where
  range_alike : in_range (marked x b) ≡ in_range b
  unfolding in_range could_load counts_end prg_ram_fits mirroring_fits
  range_alike = rw same refl

  reads_alike : (a : ℕ) → read_landing (marked x b) a ≡ read_landing b a
  unfolding read_landing
  reads_alike a =
      lands_alike x b.cart _ a
      ∙ ap (λ (w : Window). lands_in b.cart w a) (windows_alike b.cart.mode b.cart.mapper x b.cart.nes2 b.registers b.cart a).0

  writes_alike : (a : ℕ) → write_landing (marked x b) a ≡ write_landing b a
  unfolding write_landing
  writes_alike a =
      lands_alike x b.cart _ a
      ∙ ap (λ (w : Window). lands_in b.cart w a) (windows_alike b.cart.mode b.cart.mapper x b.cart.nes2 b.registers b.cart a).1

  moves_alike : (v a : ℕ) → accepted_write (marked x b) v a ≡ written x (accepted_write b v a)
  unfolding accepted_write turned
  moves_alike v a = refl

  loaded : (image : List ℕ) → is_loaded (marked x b) (length (with_byte i u image)) ≡ is_loaded b (length image)
  unfolding is_loaded
  loaded image =
      ap (λ (n : ℕ). is_loaded (marked x b) n) (length-set image i u)
      ∙ ap (λ (t : Bool). t && eqb (length image) b.cart.length) range_alike

  lands : (l : Lent) (a : ℕ) → landing (marked x b) (with_byte i u l.image) l.prg l.chr a ≡ landing b l.image l.prg l.chr a
  unfolding landing
  lands l a = simp (loaded l.image, writes_alike)

  leaves : (p : Landing) (v a : ℕ) → written_as (marked x b) p v a ≡ written x (written_as b p v a)
  unfolding written_as
  leaves (Err why) v a = refl
  leaves (Ok p) v a = moves_alike v a

  ticks_alike : clock (marked x b) ≡ clocked x (clock b)
  unfolding clock accepted_clock
  ticks_alike = simp range_alike (go (in_range b))
    where
      go : (t : Bool) → cond t (accepted_clock (marked x b)) (record { left = marked x b; answer = Err StateOutOfRange }) ≡ clocked x (cond t (accepted_clock b) (record { left = b; answer = Err StateOutOfRange }))
      go true = refl
      go false = refl

  answer_alike : (l : Lent) (e : Event) → answer (marked x b) (lent_with i u l) e ≡ answer b l e
  unfolding answer reads.read
  answer_alike l (Read a) = simp (loaded l.image, reads_alike, byte_alike x i u small b.cart)
  answer_alike l (Write a v) = simp (lands, leaves)
  answer_alike l Clock = simp (ticks_alike)

  next_alike : (l : Lent) (e : Event) → next (marked x b) (lent_with i u l) e ≡ marked x (next b l e)
  unfolding next
  next_alike l (Read a) = refl
  next_alike l (Write a v) =
      ap (λ (p : Landing). (written_as (marked x b) p v a).left) (lands l a)
      ∙ ap (λ (w : Written). w.left) (leaves (landing b l.image l.prg l.chr a) v a)
  next_alike l Clock = ap (λ (t : Clocked). t.left) ticks_alike

  left_alike : (l : Lent) (e : Event) → left (marked x b) (lent_with i u l) e ≡ lent_with i u (left b l e)
  unfolding left
  left_alike l (Read a) = refl
  left_alike l (Write a v) = simp (lands)
  left_alike l Clock = refl

-- a call
pub mark_changes_no_call : (mark : Bool) (i v : ℕ) → i < 16 → (b : Board) (l : Lent) (e : Event) → ReadAlike mark b → SameCall mark i v b l e
mark_changes_no_call mark i v s b l e h =
    record { the_answer = answer_alike mark i v s b h l e; the_next_board = next_alike mark i v s b h l e; the_buffers = left_alike mark i v s b h l e }

-- with its own mark: no byte of the header changes a call
pub no_header_byte_changes_a_call : (i v : ℕ) → i < 16 → (b : Board) (l : Lent) (e : Event) → SameCall b.cart.nes2 i v b l e
no_header_byte_changes_a_call i v s b l e = mark_changes_no_call b.cart.nes2 i v s b l e refl

run_alike : (x : Bool) (i v : ℕ) → i < 16 → (cs : List Call) (b : Board) → ReadAlike x b → (answers (marked x b) (map (call_with i v) cs) ≡ answers b cs) × (after (marked x b) (map (call_with i v) cs) ≡ marked x (after b cs))
unfolding answers after
run_alike x i v s [] b h = (refl, refl)
run_alike x i v s (call l e ∷ cs) b h =
    let r = run_alike x i v s cs (next b l e) (subst⁻¹ (λ (c : Cartridge). is_nes2_in c.mode x ≡ is_nes2_in c.mode c.nes2) (next_keeps_cart b l e) h) in
    (simp (answer_alike x i v s b h, next_alike x i v s b h, r.0), ap (λ (d : Board). after d (map (call_with i v) cs)) (next_alike x i v s b h l e) ∙ r.1)

-- a run of calls
pub mark_changes_no_run : (mark : Bool) (i v : ℕ) → i < 16 → (b : Board) (cs : List Call) → ReadAlike mark b → SameRun mark i v b cs
mark_changes_no_run mark i v s b cs h = let r = run_alike mark i v s cs b h in record { the_answers = r.0; the_board = r.1 }

-- in house mode no board is read as NES 2.0, so any mark is alike
pub any_mark_in_house_mode : (mark : Bool) (b : Board) → b.cart.mode ≡ House → ReadAlike mark b
unfolding is_nes2_in
any_mark_in_house_mode mark b e = rw e refl

-- the high nibble of a byte that is put there, or not where there is none
high_nibble : (i : ℕ) (s : List ℕ) (v : ℕ) → v / 16 ≡ byte s i / 16 → byte (set s i v) i / 16 ≡ byte s i / 16
high_nibble i [] v h = refl
high_nibble zero (x ∷ s) v h = h
high_nibble (suc i) (x ∷ s) v h = high_nibble i s v h

module _ (s : List ℕ) (v : ℕ) (h : v / 16 ≡ byte s 7 / 16) (mode : Mode) (same : extended mode (header_of (with_byte 7 v s)) ≡ extended mode (header_of s)) where
  at : (j : ℕ) → (j ≡ 7 → ⊥) → byte (set s 7 v) j ≡ byte s j
  at j n = get_or-set_other s 7 j v 0 n

  before : (j : ℕ) → j < 7 → byte (set s 7 v) j ≡ byte s j
  before j l = at j (λ e. omega (arith, l, e))

  behind : (j : ℕ) → 7 < j → byte (set s 7 v) j ≡ byte s j
  behind j l = at j (λ e. omega (arith, l, e))

  same_verdict : (p c : ℕ) → verdict (set s 7 v) mode p c ≡ verdict s mode p c
  unfolding verdict is_ines header_of mapper_in prg_in chr_in has_submapper has_exponent nes2_not_taken
  same_verdict p c =
      simp (same, before 0 (omega arith), before 1 (omega arith), before 2 (omega arith), before 3 (omega arith), before 4 (omega arith), before 5 (omega arith), before 6 (omega arith), behind 8 (omega arith), behind 9 (omega arith), behind 10 (omega arith), behind 11 (omega arith), high_nibble 7 s v h, length-set)

  same_start : start_of (cartridge_of (header_of (set s 7 v)) mode (length (set s 7 v))) ≡ marked (is_nes2 (header_of (set s 7 v))) (start_of (cartridge_of (header_of s) mode (length s)))
  unfolding cartridge_of start_of header_of mirroring_of mapper_in prg_in chr_in has_prg_ram
  same_start =
      simp (same, before 4 (omega arith), before 5 (omega arith), before 6 (omega arith), behind 8 (omega arith), behind 9 (omega arith), behind 10 (omega arith), high_nibble 7 s v h, length-set)

-- a load
pub mark_changes_no_load : (mode : Mode) (s prg chr : List ℕ) (v : ℕ) → v / 16 ≡ byte s 7 / 16 → extended mode (header_of (with_byte 7 v s)) ≡ extended mode (header_of s) → SameLoad mode s prg chr v
unfolding loaded_board load_answer board_of loaded_as
mark_changes_no_load mode s prg chr v h e =
    let w = same_verdict s v h mode e (length prg) (length chr) in
    record {
      the_answer = rw w (answers_so (verdict s mode (length prg) (length chr)));
      the_board = λ a. rw w (boards_so (verdict s mode (length prg) (length chr)) a);
      the_prg_ram = ap (λ (x : Verdict). ram_after x prg) w;
      the_chr_ram = ap (λ (x : Verdict). ram_after x chr) w;
    }
  where
    answers_so : (w : Verdict) → load_answer (loaded_board (loaded_as w (cartridge_of (header_of (set s 7 v)) mode (length (set s 7 v))))) ≡ load_answer (loaded_board (loaded_as w (cartridge_of (header_of s) mode (length s))))
    answers_so (Ok tt) = refl
    answers_so (Err why) = refl

    boards_so : (w : Verdict) → load_answer (loaded_board (loaded_as w (cartridge_of (header_of s) mode (length s)))) ≡ Ok tt
        → board_of (loaded_board (loaded_as w (cartridge_of (header_of (set s 7 v)) mode (length (set s 7 v))))) ≡ marked (is_nes2 (header_of (set s 7 v))) (board_of (loaded_board (loaded_as w (cartridge_of (header_of s) mode (length s)))))
    boards_so (Ok tt) a = same_start s v h mode e
    boards_so (Err why) a = cc

-- in house mode no image is read as NES 2.0
pub mark_changes_no_house_load : (s prg chr : List ℕ) (v : ℕ) → v / 16 ≡ byte s 7 / 16 → SameLoad House s prg chr v
unfolding is_nes2_in
mark_changes_no_house_load s prg chr v h = mark_changes_no_load House s prg chr v h refl

-- in board mode two images without the mark, or two with it
pub same_mark_same_board_load : (s prg chr : List ℕ) (v : ℕ) → v / 16 ≡ byte s 7 / 16 → is_nes2 (header_of (with_byte 7 v s)) ≡ is_nes2 (header_of s) → SameLoad OnBoard s prg chr v
unfolding is_nes2_in
same_mark_same_board_load s prg chr v h e = mark_changes_no_load OnBoard s prg chr v h e
