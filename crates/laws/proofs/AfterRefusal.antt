-- After a refusal everything is as before: a write that lands nowhere stores and moves nothing, a refused clock hands its board back, a read changes nothing,
-- and only an accepted load clears. Assumes nothing.
use Rattle.std.specs.Prelude.{Ok, Err}
use Prim.Native.Nat.{ℕ}
use mathlib.Core.Path.{◌≡◌, refl, sym, ap, ◌∙◌}
use mathlib.Core.Bool.{Bool, true, false, false≢true}
use mathlib.Core.List.{List, [], ◌∷◌}
use native.Mathlib.Omega.{arith}
use borrow.Author.Tests.{not-true}
use lib.ListN.{length, replicate}
use Rattle.std.proofs.lemmas.Bool.{and_parts}
use Rattle.common.specs.declared.Mode.{Mode}
use Rattle.common.specs.declared.Refusal.{Refusal}
use Rattle.cartridge.specs.Header.{header_of}
use Rattle.cartridge.specs.Load.{verdict, cartridge_of, loaded_as, ram_after}
use Rattle.cartridge.specs.declared.Cartridge.{Cartridge}
use Rattle.cartridge.specs.Refusals.{Verdict}
use Rattle.places.specs.Places.{stored_prg, stored_chr}
use Rattle.places.specs.Places.{Landing}
use Rattle.boards.specs.Start.{loaded_board, load_answer}
use Rattle.boards.specs.Range.{in_range}
use Rattle.boards.specs.Write.{written_as, landing}
use Rattle.boards.specs.Clock.{clock}
use Rattle.boards.specs.Runs.{Lent, lent, next, answer, left, Moment, said, stepped, played, ended}
use Rattle.boards.specs.declared.Board.{Board}
use Rattle.boards.specs.declared.Event.{Event}
use Rattle.boards.specs.declared.Event.TheVariants.{Read, Write, Clock}
use Rattle.laws.specs.Calls.{load_with}
use Rattle.laws.specs.Loads.{is_accepted, accepts}
use Rattle.laws.specs.Calls.{is_refusal}
use Rattle.laws.specs.AfterRefusal.{AsBefore, RamsAsBefore, RamsCleared, all_refused}
use Rattle.laws.proofs.Loads.{accepted_is_not_refused, a_clock_is_not_refused}

-- a byte that lands nowhere moves and stores nothing
nothing_moves : (b : Board) (p : Landing) (v a : ℕ) → is_accepted p ≡ false → (written_as b p v a).left ≡ b
unfolding written_as is_accepted
nothing_moves b p v a h = grind arith

nothing_is_stored : (p : Landing) (v : ℕ) (l : Lent) → is_accepted p ≡ false → lent l.image (stored_prg p v l.prg) (stored_chr p v l.chr) ≡ l
unfolding stored_prg stored_chr is_accepted
nothing_is_stored p v l h = grind arith

-- a refused write is one that is not accepted
not_accepted : (b : Board) (l : Lent) (a v : ℕ) → is_refusal (answer b l (Write a v)) ≡ true → accepts b l a ≡ false
not_accepted b l a v h = not-true (accepts b l a) (sym (accepted_is_not_refused b l a v) ∙ h)

-- a refused clock is that of a board out of range
clock_stays : (b : Board) (l : Lent) → is_refusal (answer b l Clock) ≡ true → (clock b).left ≡ b
unfolding clock
clock_stays b l h = go (in_range b) refl
  where
    go : (t : Bool) → in_range b ≡ t → (clock b).left ≡ b
    go true e = absurd (false≢true (sym (a_clock_is_not_refused b l e) ∙ h))
    go false e = rw e refl

-- a read, a write or a clock that answers a refusal, on any board and with any buffers
pub a_refused_call_changes_nothing : (b : Board) (l : Lent) (e : Event) → is_refusal (answer b l e) ≡ true → AsBefore b l e
unfolding next left
a_refused_call_changes_nothing b l (Read a) h = record { the_board = refl; the_buffers = refl }
a_refused_call_changes_nothing b l (Write a v) h =
    let p = landing b l.image l.prg l.chr a in
    let n = not_accepted b l a v h in
    record { the_board = nothing_moves b p v a n; the_buffers = nothing_is_stored p v l n }
a_refused_call_changes_nothing b l Clock h = record { the_board = clock_stays b l h; the_buffers = refl }

-- in a run: the moment after a refused event is the one before it
pub a_refused_event_leaves_the_moment : (m : Moment) (e : Event) → is_refusal (said m e) ≡ true → stepped m e ≡ m
unfolding stepped
a_refused_event_leaves_the_moment m e h =
    let r = a_refused_call_changes_nothing m.board m.lent e h in
    λ i. record { board = r.the_board i; lent = r.the_buffers i }

-- so what follows it goes as if it had not been asked
pub a_refused_event_may_be_left_out : (m : Moment) (e : Event) (es : List Event) → is_refusal (said m e) ≡ true
    → (played m (e ∷ es) ≡ said m e ∷ played m es) × (ended m (e ∷ es) ≡ ended m es)
unfolding played ended
a_refused_event_may_be_left_out m e es h =
    let s = a_refused_event_leaves_the_moment m e h in
    (ap (λ (n : Moment). said m e ∷ played n es) s, ap (λ (n : Moment). ended n es) s)

-- and a run of refusals ends where it began
pub a_refused_run_changes_nothing : (m : Moment) (es : List Event) → all_refused (played m es) ≡ true → ended m es ≡ m
unfolding played ended
a_refused_run_changes_nothing m [] h = refl
a_refused_run_changes_nothing m (e ∷ es) h =
    let s = a_refused_event_leaves_the_moment m e (and_parts (is_refusal (said m e)) (all_refused (played (stepped m e) es)) h).0 in
    a_refused_run_changes_nothing (stepped m e) es (and_parts (is_refusal (said m e)) (all_refused (played (stepped m e) es)) h).1 ∙ s

-- the verdict behind a load's answer
refused_so : (w : Verdict) (c : Cartridge) (why : Refusal) (ram : List ℕ) → load_answer (loaded_board (loaded_as w c)) ≡ Err why → ram_after w ram ≡ ram
unfolding loaded_board load_answer loaded_as ram_after
refused_so w c why ram e = grind arith

-- a refused load, of any image in either mode and whatever both RAMs hold
pub a_refused_load_changes_nothing : (mode : Mode) (s prg chr : List ℕ) (why : Refusal) → (load_with mode s prg chr).answer ≡ Err why → RamsAsBefore mode s prg chr
a_refused_load_changes_nothing mode s prg chr why h =
    let w = verdict s mode (length prg) (length chr) in
    let c = cartridge_of (header_of s) mode (length s) in
    record { the_prg_ram = refused_so w c why prg h; the_chr_ram = refused_so w c why chr h }

cleared_so : (w : Verdict) (c : Cartridge) (ram : List ℕ) → load_answer (loaded_board (loaded_as w c)) ≡ Ok tt → ram_after w ram ≡ replicate (length ram) 0
unfolding loaded_board load_answer loaded_as ram_after
cleared_so w c ram e = grind arith

-- and an accepted one
pub an_accepted_load_clears_both : (mode : Mode) (s prg chr : List ℕ) → (load_with mode s prg chr).answer ≡ Ok tt → RamsCleared mode s prg chr
an_accepted_load_clears_both mode s prg chr h =
    let w = verdict s mode (length prg) (length chr) in
    let c = cartridge_of (header_of s) mode (length s) in
    record { the_prg_ram = cleared_so w c prg h; the_chr_ram = cleared_so w c chr h }
