-- An event after the first i gives the moment and the lines of the first i + 1. Assumes nothing.
use Rattle.std.proofs.Common.{◌≡◌, ℕ, zero, suc, ◌+◌, ◌<◌, true, ◌&&◌, eqb, Some, List, length, refl, ◌∙◌, arith, add-one, below_more}
use Rattle.std.proofs.lemmas.Bool.{and_parts}
use Rattle.boards.specs.declared.Answer.{Answer}
use Rattle.boards.specs.declared.Event.{Event}
use Rattle.traces.specs.declared.Machine.{Machine}
use Rattle.traces.specs.declared.Text.{Text}
use Rattle.traces.specs.Format.{is_trace, head_fits, fits_at, events_fit, event_at, event_count, event_start}
use Rattle.traces.specs.Text.{line}
use Rattle.traces.specs.Run.{after, lines}
use Rattle.traces.specs.Steps.{event_in, Puts, EventOwes, EventsOwe}
use Rattle.traces.proofs.Laid.{put_none, join}

-- each of the events that fit fits
fits_below : (t : List ℕ) (n : ℕ) → events_fit t n ≡ true → (i : ℕ) → i < n → fits_at t i ≡ true
unfolding events_fit
fits_below t zero e i h = absurd (omega arith)
fits_below t (suc n) e i h =
    below_more (λ k. fits_at t k ≡ true) n (fits_below t n (and_parts (events_fit t n) (fits_at t n) e).0) (and_parts (events_fit t n) (fits_at t n) e).1 i (omega arith)

-- of a well-formed trace each event is there
pub is_there : (t : List ℕ) → is_trace t ≡ true → (i : ℕ) → i < event_count t → event_in t i ≡ Some (event_at t i)
unfolding is_trace event_in
is_there t e i h =
    let fit = (and_parts (head_fits t && eqb (length t) (event_start t (event_count t))) (events_fit t (event_count t)) e).1 in
    rw (fits_below t (event_count t) fit i h) refl

pub no_turn : (t : List ℕ) (m : Machine) (text : Text) → EventsOwe t 0 m text m text
unfolding after lines
no_turn t m text = record { says = put_none text; moves = refl; same = record { prg = refl; chr = refl } }

module _ {t : List ℕ} {i : ℕ} {e : Event} {r : Answer} {m m₁ m₂ : Machine} {text text₁ text₂ : Text} where
  pub next_turn : e ≡ event_at t i → EventsOwe t i m text m₁ text₁ → EventOwes e m₁ r m₂ → Puts (line i r) text₁ text₂ → EventsOwe t (i + 1) m text m₂ text₂
  unfolding after lines
  next_turn k o p q =
      rw (add-one i)
      (record {
        says = join o.says (rw (← o.moves, ← k, ← p.says) q);
        moves = p.moves ∙ rw (o.moves, k) refl;
        same = record { prg = p.same.prg ∙ o.same.prg; chr = p.same.chr ∙ o.same.chr };
      })
