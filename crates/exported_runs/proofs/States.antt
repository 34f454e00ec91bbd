-- After a list of exported calls the lent state is the bytes of the board after the same calls, and the numbers are those of its answers: each call does what
-- the board's own call does, and leaves a board in range. Assumes nothing.
use Prim.Native.Nat.{ℕ}
use mathlib.Core.Path.{◌≡◌, refl, sym, ap, ap₂, subst, ◌∙◌}
use mathlib.Core.Bool.{Bool, true, false, not}
use mathlib.Core.List.{List, [], ◌∷◌, map}
use native.Mathlib.Omega.{arith}
use Rattle.places.specs.Places.{stored_prg, stored_chr}
use Rattle.boards.specs.Write as boards
use Rattle.boards.specs.Clock.{clock}
use Rattle.boards.specs.Runs.{Lent, lent, Call, call, next, answer, after, answers}
use Rattle.boards.specs.declared.Board.{Board}
use Rattle.boards.specs.declared.Event.{Event}
use Rattle.boards.specs.declared.Event.TheVariants.{Read, Write, Clock}
use Rattle.boards.specs.declared.Answer.TheVariants.{Write as toWrite}
use Rattle.boards.specs.Write.{WriteAnswer}
use Rattle.laws.specs.Loads.{accepts}
use Rattle.laws.specs.PLines.{answer_number}
use Rattle.laws.specs.SettlesMmc3.{irq_answers}
use Rattle.laws.specs.Calls.{is_refusal}
use Rattle.laws.proofs.Loads.{accepted_is_not_refused}
use Rattle.exports.specs.Numbers.{refused, write_number, clock_number}
use Rattle.exports.specs.Bytes.{board_in}
use Rattle.exports.specs.Calls.{writing, WriteOwes, ClockOwes}
use Rattle.exports.proofs.RoundTrip.{there_and_back}
use Rattle.exports.proofs.AsBoards.{writes_as, clocks_as}
use Rattle.exported_runs.specs.Holds.{Holds}
use Rattle.exported_runs.specs.Runs.{number, next_state, left, state_after, numbers, clock_numbers, IsByte, WriteBytes}
use Rattle.exported_runs.specs.Demand3.{is_refused}
use Rattle.exported_runs.proofs.Runs as one-call

-- a write and a clock, as what they owe
write_owes : (s : List ℕ) (l : Lent) (a v : ℕ) → WriteOwes s l.image l.prg l.chr a v (number s l (Write a v)) (next_state s l (Write a v))
    (stored_prg (writing s l.image l.prg l.chr a) v l.prg) (stored_chr (writing s l.image l.prg l.chr a) v l.chr)
unfolding number next_state
write_owes s l a v = record { reply = refl; state = refl; prg_ram = refl; chr_ram = refl }

clock_owes : (s : List ℕ) (l : Lent) → ClockOwes s (number s l Clock) (next_state s l Clock)
unfolding number next_state
clock_owes s l = record { reply = refl; state = refl }

-- and nothing else meets what they owe: these are the answers, the states and the buffers of the exported calls; a read owes its number and leaves all as it is
pub writes_so : (s : List ℕ) (l : Lent) (a v r : ℕ) (s' prg' chr' : List ℕ) → WriteOwes s l.image l.prg l.chr a v r s' prg' chr'
    → (r ≡ number s l (Write a v)) × (s' ≡ next_state s l (Write a v)) × (lent l.image prg' chr' ≡ left s l (Write a v))
unfolding number next_state left
writes_so s l a v r s' prg' chr' o = (o.reply, rw (← o.reply) o.state, λ i. lent l.image (o.prg_ram i) (o.chr_ram i))

pub clocks_so : (s : List ℕ) (l : Lent) (r : ℕ) (s' : List ℕ) → ClockOwes s r s' → (r ≡ number s l Clock) × (s' ≡ next_state s l Clock)
unfolding number next_state
clocks_so s l r s' o = (o.reply, rw (← o.reply) o.state)

module _ {s : List ℕ} {b : Board} (h : Holds s b) where
  -- the board that they hold
  pub holds_it : board_in s ≡ b
  holds_it = ap board_in h.bytes ∙ there_and_back b h.of_its_types h.is_in_range

  -- a write answers as the board's, and so does a clock
  pub write_of : (l : Lent) (a v r : ℕ) (s' prg' chr' : List ℕ) → WriteOwes s l.image l.prg l.chr a v r s' prg' chr'
      → r ≡ write_number (boards.written_as b (boards.landing b l.image l.prg l.chr a) v a).answer
  write_of l a v r s' prg' chr' o =
      (writes_as b h.of_its_types h.is_in_range l.image l.prg l.chr a v (boards.written_as b (boards.landing b l.image l.prg l.chr a) v a) _ _ r s' prg' chr'
      (record { reply = refl; prg_ram = refl; chr_ram = refl })
      (subst (λ (x : List ℕ). WriteOwes x l.image l.prg l.chr a v r s' prg' chr') h.bytes o)).reply

  pub clock_of : (r : ℕ) (s' : List ℕ) → ClockOwes s r s' → r ≡ clock_number (clock b).answer
  clock_of r s' o = (clocks_as b h.of_its_types h.is_in_range r s' (subst (λ (x : List ℕ). ClockOwes x r s') h.bytes o)).reply

  -- one call
  pub number_of : (l : Lent) (e : Event) → number s l e ≡ answer_number (answer b l e)
  unfolding number answer
  number_of l (Read a) = one-call.read_of s b h l.image l.prg l.chr a
  number_of l (Write a v) = write_of l a v _ _ _ _ (write_owes s l a v)
  number_of l Clock = clock_of _ _ (clock_owes s l)

  pub next_holds : (l : Lent) (e : Event) → IsByte e → Holds (next_state s l e) (next b l e)
  unfolding next_state next
  next_holds l (Read a) v = h
  next_holds l (Write a v) small = one-call.after_write s b h l.image l.prg l.chr a v _ _ _ _ small (write_owes s l a v)
  next_holds l Clock v = one-call.after_clock_lem s b h l _ _ (clock_owes s l)

-- any list of calls
pub run_holds : {s : List ℕ} {b : Board} → Holds s b → (cs : List Call) → WriteBytes cs → Holds (state_after s cs) (after b cs)
unfolding state_after after
run_holds h [] v = h
run_holds {s} {b} h (call l e ∷ cs) v = run_holds {s = next_state s l e} {b = next b l e} (next_holds h l e v.0) cs v.1

pub numbers_of : {s : List ℕ} {b : Board} → Holds s b → (cs : List Call) → WriteBytes cs → numbers s cs ≡ map answer_number (answers b cs)
unfolding numbers answers
numbers_of h [] v = refl
numbers_of {s} {b} h (call l e ∷ cs) v =
    ap₂ ◌∷◌ (number_of h l e) (numbers_of {s = next_state s l e} {b = next b l e} (next_holds h l e v.0) cs v.1)

-- and its clocks
pub clocks_of : {s : List ℕ} {b : Board} → Holds s b → (cs : List Call) → WriteBytes cs → clock_numbers s cs ≡ map clock_number (irq_answers b cs)
unfolding clock_numbers answers answer
clocks_of h [] v = refl
clocks_of {s} {b} h (call l (Read a) ∷ cs) v =
    clocks_of {s = next_state s l (Read a)} {b = next b l (Read a)} (next_holds h l (Read a) v.0) cs v.1
clocks_of {s} {b} h (call l (Write a x) ∷ cs) v =
    clocks_of {s = next_state s l (Write a x)} {b = next b l (Write a x)} (next_holds h l (Write a x) v.0) cs v.1
clocks_of {s} {b} h (call l Clock ∷ cs) v =
    ap₂ ◌∷◌ (number_of h l Clock) (clocks_of {s = next_state s l Clock} {b = next b l Clock} (next_holds h l Clock v.0) cs v.1)

-- a write is accepted exactly when its number is no refusal
told : (r : WriteAnswer) → is_refused (write_number r) ≡ is_refusal (toWrite r)
unfolding write_number refused
told r = grind arith

pub refused_of : {s : List ℕ} {b : Board} → Holds s b → (l : Lent) (a v : ℕ) → is_refused (number s l (Write a v)) ≡ not (accepts b l a)
unfolding answer
refused_of {s} {b} h l a v =
    ap is_refused (number_of h l (Write a v))
    ∙ told (boards.written_as b (boards.landing b l.image l.prg l.chr a) v a).answer
    ∙ accepted_is_not_refused b l a v

not_not : (x : Bool) → not x ≡ false → x ≡ true
not_not x e = grind arith

pub accepted_of : {s : List ℕ} {b : Board} → Holds s b → (l : Lent) (a v : ℕ) → is_refused (number s l (Write a v)) ≡ false → accepts b l a ≡ true
accepted_of {s} {b} h l a v n = not_not (accepts b l a) (sym (refused_of h l a v) ∙ n)
