-- All events below a count fit just if each number of the range is that of one that fits. Assumes nothing.
use Rattle.std.proofs.Common.{List, ◌≡◌, ℕ, zero, suc, ◌+◌, Bool, ◌&&◌, refl, sym, ap, ◌∙◌, arith}
use Rattle.std.proofs.Math.Bool.{and_assoc, and-true}
use Rattle.std.specs.List.{list_all, range_with_len}
use Rattle.traces.specs.Format.{fits_at, events_fit}

-- one number more
one_more : (p : ℕ → Bool) (a n : ℕ) → list_all p (range_with_len a (suc n)) ≡ (list_all p (range_with_len a n) && p (a + n))
one_more p a zero = and-true (p a) ∙ ap p (omega arith)
one_more p a (suc n) =
    ap (λ b. p a && b) (one_more p (a + 1) n)
    ∙ sym (and_assoc (p a) (list_all p (range_with_len (a + 1) n)) (p (a + 1 + n)))
    ∙ ap (λ k. list_all p (range_with_len a (suc n)) && p k) (omega arith)

pub all_fit : (t : List ℕ) (n : ℕ) → list_all (fits_at t) (range_with_len 0 n) ≡ events_fit t n
unfolding events_fit
all_fit t zero = refl
all_fit t (suc n) = one_more (fits_at t) 0 n ∙ rw (all_fit t n) (ap (λ k. events_fit t n && fits_at t k) (omega arith))
