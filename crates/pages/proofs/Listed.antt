-- As many items as are asked for, each what a function gives one further from p on, are its numbers, and no others. Assumes nothing.
use Rattle.std.proofs.Common.{◌≡◌, ℕ, zero, suc, ◌+◌, ◌<◌, List, [], ◌∷◌, length, get_or, refl, ap, arith, ◌∙◌}
use mathlib.Core.Path.{ap₂}
use Rattle.pages.specs.Pages.{numbers}

pub numbers_by : (f : ℕ → ℕ) (p n : ℕ) (l : List ℕ) → length l ≡ n → ((k : ℕ) → k < length l → get_or l k 0 ≡ f (p + k)) → l ≡ numbers f p n
unfolding numbers
numbers_by f p zero [] e h = refl
numbers_by f p zero (x ∷ l) e h = absurd (omega arith)
numbers_by f p (suc n) [] e h = absurd (omega arith)
numbers_by f p (suc n) (x ∷ l) e h =
    ap₂ ◌∷◌ (h 0 (omega arith) ∙ ap f (omega arith)) (numbers_by f (suc p) n l (omega arith) (λ k g. h (suc k) (omega arith) ∙ ap f (omega arith)))

pub counted : (f : ℕ → ℕ) (p n : ℕ) → length (numbers f p n) ≡ n
unfolding numbers
counted f p zero = refl
counted f p (suc n) = ap suc (counted f (suc p) n)

pub found : (f : ℕ → ℕ) (p n i : ℕ) → i < n → get_or (numbers f p n) i 0 ≡ f (p + i)
unfolding numbers
found f p zero i h = absurd (omega arith)
found f p (suc n) zero h = ap f (omega arith)
found f p (suc n) (suc i) h = found f (suc p) n i (omega arith) ∙ ap f (omega arith)
