-- The marks of RAM, as an author asks of them: set by an odd write to A000-BFFF, moved by nothing else (where they are at their start, `Idle` says); and without such a
-- write every call answers and leaves what it did before M-111. Assumes nothing.
use Rattle.std.specs.Prelude.{Ok, Err}
use Prim.Native.Nat.{ℕ, ◌≤◌}
use mathlib.Core.Path.{◌≡◌, refl, sym, ap, ◌∙◌, subst⁻¹}
use mathlib.Core.Bool.{Bool, true, false, false≢true, cond, not, ◌&&◌, and-false}
use mathlib.Core.List.{List, [], ◌∷◌}
use native.Mathlib.Omega.{arith}
use lib.Dec.{ltb, leb}
use lib.ListN.{length}
use borrow.Author.Tests.{leb-true, le-leb, ltb-false, le-ltb, not-true}
use Rattle.std.proofs.lemmas.Bool.{and_parts, cond_both}
use Rattle.rules.proofs.Bools.{split_3, either}
use Rattle.common.specs.declared.Mode.{Mode}
use Rattle.common.specs.declared.Mode.TheVariants.{House, Board as OnBoard}
use Rattle.cartridge.specs.Load.{rams_fit}
use Rattle.cartridge.specs.Mappers.{is_mapper}
use Rattle.cartridge.specs.declared.Cartridge.{Cartridge}
use Rattle.cartridge.specs.declared.MapperType.{MapperType}
use Rattle.cartridge.specs.declared.MapperType.TheVariants.{Nrom, Mmc1, Uxrom, Cnrom, Mmc3}
use Rattle.cartridge.proofs.Mappers.{is_this}
use Rattle.places.specs.Places.{byte_at, answer_at, stored_prg, stored_chr}
use Rattle.places.specs.Windows.{Window, lands_in, in_windows}
use Rattle.places.specs.Places.{Landing}
use Rattle.mmc3.specs.Ram.{ram_start, marks_in, marks_after, ram_read, ram_written}
use Rattle.mmc3.specs.Clock.{with_irq, clocked, is_pending}
use Rattle.mmc3.specs.Read as mmc3
use Rattle.mmc3.specs.Write.{is_even, move_of, with_ram, applied, mirrors_of, written}
use Rattle.mmc3.specs.declared.Mmc3 as mmc3-type
use Rattle.mmc3.specs.declared.Move.{Move}
use Rattle.mmc3.specs.declared.Move.TheVariants.{Protect}
use Rattle.boards.specs.Registers.{with_mmc3, moved, ticked}
use Rattle.boards.specs.Range.{in_range, is_loaded, guarded}
use Rattle.boards.specs.Read.{read_window_on, read_landing, read}
use Rattle.boards.specs.Write.{write_window_on, write_landing, next_mirroring, notice, with_registers, turned, accepted_write, written_as, landing}
use Rattle.boards.specs.Clock.{accepted_clock, clock}
use Rattle.boards.specs.Runs.{Lent, lent, next, answer, left, Call, call, after}
use Rattle.boards.specs.declared.Board.{Board}
use Rattle.boards.specs.Clock.{Clocked}
use Rattle.boards.specs.Registers.{Ticked}
use Rattle.boards.specs.declared.Registers.{Registers}
use Rattle.boards.specs.declared.Event.{Event}
use Rattle.boards.specs.declared.Event.TheVariants.{Read, Write, Clock}
use Rattle.boards.specs.Write.{WriteAnswer}
use Rattle.boards.specs.declared.Answer.TheVariants.{Read as toRead, Write as toWrite}
use Rattle.laws.specs.Calls.{load_with, LentWrite, wrote}
use Rattle.laws.specs.Clocks.{Plays}
use Rattle.laws.specs.Loads.{accepts}
use Rattle.laws.specs.Protection.{marks, is_protecting, in_board_mode, is_for_marks, protects, none_protects, read_window_before, write_window_before, read_before, write_before, guarded_before, quiet_at, next_before, answer_before, left_before, CallAsBefore, RunAsBefore}
use Rattle.laws.proofs.Accepting.{after_write}
use Rattle.laws.proofs.Idle.{idle_at_load, idle_in_house_mode}
use Rattle.laws.proofs.Ranges.{run_keeps_cart}

-- an odd write to A000-BFFF is that move; every other move leaves the marks
module _ (v a : ℕ) where
  pub is_protect : is_protecting a ≡ true → move_of v a ≡ Protect v
  unfolding move_of
  is_protect h =
      let p = split_3 (leb 0xA000 a) (ltb a 0xC000) (not (is_even a)) h in
      let low = leb-true 0xA000 a p.0 in
      rw (le-ltb a 0x8000 (omega arith), le-ltb a 0xA000 low, p.1, not-true (is_even a) p.2) refl

  marks_kept : (mode : Mode) (m : mmc3-type.Mmc3) → (is_protecting a ≡ true → marks_after mode m.ram v ≡ m.ram) → (applied mode (move_of v a) m).ram ≡ m.ram
  unfolding move_of applied with_irq
  marks_kept mode m sets =
      let P : Move → Type 0 = λ k. (applied mode k m).ram ≡ m.ram in
      either P (ltb a 0x8000) refl
      (cond_both (ltb a 0xA000) _ _ P (λ e. either P (is_even a) refl refl)
      (λ low. cond_both (ltb a 0xC000) _ _ P
      (λ high. cond_both (is_even a) _ _ P (λ e. refl) (λ odd. sets (rw (le-leb 0xA000 a (ltb-false a 0xA000 low), high, odd) refl)))
      (λ e. either P (ltb a 0xE000) (either P (is_even a) refl refl) (either P (is_even a) refl refl))))

  pub moved_marks : (k : MapperType) (mode : Mode) (r : Registers) → (is_mapper k Mmc3 && is_protecting a && in_board_mode mode) ≡ false → (moved k mode r v a).left.mmc3.ram ≡ r.mmc3.ram
  unfolding moved written is_mapper marks_after
  moved_marks Nrom mode r h = refl
  moved_marks Mmc1 mode r h = refl
  moved_marks Uxrom mode r h = refl
  moved_marks Cnrom mode r h = refl
  moved_marks Mmc3 House r h = marks_kept House r.mmc3 (λ t. refl)
  moved_marks Mmc3 OnBoard r h = marks_kept OnBoard r.mmc3 (λ t. absurd (false≢true (sym h ∙ rw t refl)))

  -- in house mode the write does nothing
  nothing_in_house : (b : Board) → b.cart.mapper ≡ Mmc3 → b.cart.mode ≡ House → is_protecting a ≡ true → (p : Landing) → (written_as b p v a).left ≡ b
  unfolding written_as accepted_write turned moved written applied marks_after mirrors_of next_mirroring
  nothing_in_house b e f h (Ok p) = rw (e, f, is_protect h) refl
  nothing_in_house b e f h (Err why) = refl

-- no other call moves them: any event of any board in any state, refused or not
pub no_other_call_moves_them : (b : Board) (l : Lent) (e : Event) → protects b.cart e ≡ false → marks (next b l e) ≡ marks b
unfolding next written_as accepted_write turned clock accepted_clock ticked clocked with_irq
no_other_call_moves_them b l (Read a) h = refl
no_other_call_moves_them b l (Write a v) h = go (landing b l.image l.prg l.chr a)
  where
    go : (p : Landing) → marks (written_as b p v a).left ≡ marks b
    go (Ok p) = moved_marks v a b.cart.mapper b.cart.mode b.registers h
    go (Err why) = refl
no_other_call_moves_them b l Clock h =
    either (λ (c : Clocked). marks c.left ≡ marks b) (in_range b)
    (either (λ (t : Ticked). t.left.mmc3.ram ≡ marks b) (is_mapper b.cart.mapper Mmc3) refl refl) refl

-- "sets bit 7, RAM enabled, and bit 6, writes denied": both, whatever they were, and nothing else of the board
pub that_write_sets_both : (b : Board) → Plays OnBoard b → (w : LentWrite) → accepts b w.lent w.address ≡ true → is_protecting w.address ≡ true
    → wrote b w ≡ with_registers b (with_mmc3 b.registers (with_ram b.registers.mmc3 (marks_in w.byte)))
unfolding next accepted_write turned moved written applied marks_after mirrors_of next_mirroring
that_write_sets_both b p w ok h =
    let l = w.lent in
    after_write b (landing b l.image l.prg l.chr w.address) w.byte w.address
    ∙ ap (λ (t : Bool). cond t (accepted_write b w.byte w.address).left b) ok
    ∙ rw (p.is_mmc3, p.in_mode, is_protect w.byte w.address h) refl

-- where nothing is stored both RAMs are as before
abbrev Still : ℕ → Lent → Landing → Type 0
Still v l p = lent l.image (stored_prg p v l.prg) (stored_chr p v l.chr) ≡ l

-- it changes no byte: on MMC3 no write to 8000-FFFF does
pub no_byte_changes : (b : Board) → b.cart.mapper ≡ Mmc3 → (l : Lent) (v a : ℕ) → 0x8000 ≤ a → left b l (Write a v) ≡ l
unfolding left landing guarded write_landing write_window_on mmc3.write_window_in in_windows mmc3.rom_write_in mmc3.acknowledged lands_in stored_prg stored_chr
no_byte_changes b e l v a h = go (rams_fit (length l.prg) (length l.chr)) (is_loaded b (length l.image))
  where
    rom : (mode : Mode) → Still v l (lands_in b.cart (mmc3.write_window_in mode b.registers.mmc3 b.cart a) a)
    rom House = rw (le-ltb a 0x2000 (omega arith), le-ltb a 0x6000 (omega arith), le-ltb a 0x8000 h) (either (λ (w : Window). Still v l (lands_in b.cart w a)) (is_pending b.registers.mmc3.irq && leb 0xE000 a && is_even a) refl refl)
    rom OnBoard = rw (le-ltb a 0x2000 (omega arith), le-ltb a 0x6000 (omega arith), le-ltb a 0x8000 h) refl

    go : (rams state : Bool) → Still v l (guarded rams state (write_landing b a))
    go true true = subst⁻¹ (λ (k : MapperType). Still v l (lands_in b.cart (write_window_on k b.registers b.cart a) a)) e (rom b.cart.mode)
    go true false = refl
    go false state = refl

-- with the marks at their start the windows are what they were
module _ (r : Registers) (c : Cartridge) (a : ℕ) (e : r.mmc3.ram ≡ ram_start) where
  reads_before : (k : MapperType) → read_window_on k r c a ≡ read_window_before k r c a
  unfolding read_window_on is_mapper mmc3.read_window ram_read
  reads_before k = grind arith

  writes_before : (k : MapperType) → write_window_on k r c a ≡ write_window_before k r c a
  unfolding write_window_on is_mapper mmc3.write_window_in ram_written
  writes_before k = grind arith

-- that write is quiet, in either mode
pub quiet_if_accepted : (b : Board) (v a : ℕ) → is_for_marks b.cart a ≡ true → (p : Landing) → (written_as b p v a).answer ≡ quiet_at p
unfolding written_as accepted_write turned moved written mirrors_of notice
quiet_if_accepted b v a t (Ok p) =
    rw (is_this b.cart.mapper Mmc3 (and_parts (is_mapper b.cart.mapper Mmc3) (is_protecting a) t).0, is_protect v a (and_parts (is_mapper b.cart.mapper Mmc3) (is_protecting a) t).1) refl
quiet_if_accepted b v a t (Err why) = refl

house_of : (mode : Mode) → in_board_mode mode ≡ false → mode ≡ House
house_of mode h = grind arith

module _ (b : Board) (e : marks b ≡ ram_start) (l : Lent) where
  reads_there : (a : ℕ) → read_landing b a ≡ read_before b a
  unfolding read_landing
  reads_there a = ap (λ (w : Window). lands_in b.cart w a) (reads_before b.registers b.cart a e b.cart.mapper)

  writes_there : (a : ℕ) → landing b l.image l.prg l.chr a ≡ guarded_before b l (write_before b a)
  unfolding landing write_landing
  writes_there a = ap (λ (w : Window). guarded_before b l (lands_in b.cart w a)) (writes_before b.registers b.cart a e b.cart.mapper)

  next_before_lem : (a v : ℕ) → protects b.cart (Write a v) ≡ false → next b l (Write a v) ≡ next_before b l (Write a v)
  unfolding next next_before
  next_before_lem a v h =
      cond_both (is_for_marks b.cart a) _ _ (λ (x : Board). (written_as b (landing b l.image l.prg l.chr a) v a).left ≡ x)
      (λ t. nothing_in_house v a b (is_this b.cart.mapper Mmc3 (and_parts (is_mapper b.cart.mapper Mmc3) (is_protecting a) t).0) (house_of b.cart.mode (sym (rw t refl) ∙ h))
      (and_parts (is_mapper b.cart.mapper Mmc3) (is_protecting a) t).1 (landing b l.image l.prg l.chr a))
      (λ f. ap (λ (p : Landing). (written_as b p v a).left) (writes_there a))

  says_before : (a v : ℕ) (p : Landing) → (written_as b p v a).answer ≡ cond (is_for_marks b.cart a) (quiet_at p) (written_as b p v a).answer
  says_before a v p = cond_both (is_for_marks b.cart a) _ _ (λ (x : WriteAnswer). (written_as b p v a).answer ≡ x) (λ t. quiet_if_accepted b v a t p) (λ f. refl)

  -- with the marks at their start, and no such write, every answer is what it was: of one call, with the board and the buffers that it leaves
  pub a_call_is_as_before : (v : Event) → protects b.cart v ≡ false → CallAsBefore b l v
  unfolding answer left next read answer_before left_before next_before
  a_call_is_as_before (Read a) h =
      record {
        the_answer = ap (λ (p : Landing). toRead (answer_at (guarded_before b l p) (byte_at b.cart p l.image l.prg l.chr))) (reads_there a);
        the_board = refl;
        the_buffers = refl;
      }
  a_call_is_as_before (Write a v) h =
      record {
        the_answer = ap (λ (p : Landing). toWrite (written_as b p v a).answer) (writes_there a) ∙ ap toWrite (says_before a v (guarded_before b l (write_before b a)));
        the_board = next_before_lem a v h;
        the_buffers = ap (λ (p : Landing). lent l.image (stored_prg p v l.prg) (stored_chr p v l.chr)) (writes_there a);
      }
  a_call_is_as_before Clock h = record { the_answer = refl; the_board = refl; the_buffers = refl }

-- the first call of such a list is no such write, nor is any after it
none_first : (b : Board) (l : Lent) (e : Event) (cs : List Call) → none_protects b.cart (call l e ∷ cs) ≡ true
    → (protects b.cart e ≡ false) × (none_protects (next b l e).cart cs ≡ true)
unfolding after none_protects
none_first b l e cs h = (
  not-true (protects b.cart e) (and_parts (not (protects b.cart e)) (none_protects b.cart cs) h).0,
  ap (λ (c : Cartridge). none_protects c cs) (run_keeps_cart b (call l e ∷ [])) ∙ (and_parts (not (protects b.cart e)) (none_protects b.cart cs) h).1,
)

-- without such a write among any calls the marks stay
pub marks_stay : (b : Board) (cs : List Call) → none_protects b.cart cs ≡ true → marks (after b cs) ≡ marks b
unfolding after none_protects
marks_stay b [] h = refl
marks_stay b (call l e ∷ cs) h =
    let n = none_first b l e cs h in
    marks_stay (next b l e) cs n.1 ∙ no_other_call_moves_them b l e n.0

-- and of any calls
pub a_run_is_as_before : (b : Board) → marks b ≡ ram_start → (cs : List Call) → none_protects b.cart cs ≡ true → RunAsBefore b cs
a_run_is_as_before b m [] h = tt
a_run_is_as_before b m (call l e ∷ cs) h =
    let n = none_first b l e cs h in
    (a_call_is_as_before b m l e n.0, a_run_is_as_before (next b l e) (no_other_call_moves_them b l e n.0 ∙ m) cs n.1)

-- no call of house mode is such a write
none_in_house : (c : Cartridge) → c.mode ≡ House → (cs : List Call) → none_protects c cs ≡ true
unfolding none_protects
none_in_house c e [] = refl
none_in_house c e (call l (Read a) ∷ cs) = none_in_house c e cs
none_in_house c e (call l (Write a v) ∷ cs) = ap (λ (mode : Mode). not (is_for_marks c a && in_board_mode mode) && none_protects c cs) e ∙ rw (and-false (is_for_marks c a)) (none_in_house c e cs)
none_in_house c e (call l Clock ∷ cs) = none_in_house c e cs

-- so every run of house mode is as before
pub every_house_run_is_as_before : (b : Board) → in_range b ≡ true → b.cart.mode ≡ House → (cs : List Call) → RunAsBefore b cs
every_house_run_is_as_before b h e cs = a_run_is_as_before b (idle_in_house_mode b e h).open_ram cs (none_in_house b.cart e cs)

-- a released title that never writes there: from its load on every answer is what it was
pub a_title_that_never_writes_there : (mode : Mode) (s prg chr : List ℕ) (cs : List Call) → none_protects (load_with mode s prg chr).left.cart cs ≡ true
    → RunAsBefore (load_with mode s prg chr).left cs
a_title_that_never_writes_there mode s prg chr cs h = a_run_is_as_before (load_with mode s prg chr).left (idle_at_load mode s prg chr).open_ram cs h
