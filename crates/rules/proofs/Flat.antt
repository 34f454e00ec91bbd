-- The flat forms are the rows'. Assumes nothing.
use Prim.Native.Nat.{ℕ, ◌+◌, ◌*◌, ◌/◌, ◌%◌, ◌<◌}
use mathlib.Core.Path.{◌≡◌, refl, sym, ap, subst⁻¹, ◌∙◌}
use mathlib.Core.List.{List, [], ◌∷◌}
use native.Mathlib.Nat.{div-div-eq-div-mul, add-zero, add_assoc, mul_assoc, mul-add, mul_comm, mul-zero}
use Rattle.rules.specs.Rows.{word, digits, Fits}
use Rattle.rules.proofs.Rows.{there, product, small, back}
use Rattle.rules.specs.Flat.{digits_from, flat_digits, word_from, flat_word}

from_there : (p : ℕ) (ss : List ℕ) (w : ℕ) → digits_from p ss w ≡ digits ss (w / p)
from_there p [] w = refl
from_there p (s ∷ ss) w = ap (λ (t : List ℕ). w / p % s ∷ t) (from_there (p * s) ss w ∙ ap (digits ss) (sym (div-div-eq-div-mul w p s)))

pub flat_digits_lem : (ss : List ℕ) (w : ℕ) → flat_digits ss w ≡ digits ss w
flat_digits_lem [] w = refl
flat_digits_lem (s ∷ ss) w = ap (λ (t : List ℕ). w % s ∷ t) (from_there s ss w)

sum_from : (n p : ℕ) (ss ds : List ℕ) → word_from n p ss ds ≡ n + p * word ss ds
sum_from n p [] ds = rw (mul-zero, add-zero) refl
sum_from n p (s ∷ ss) [] = rw (mul-zero, add-zero) refl
sum_from n p (s ∷ ss) (d ∷ ds) =
    sum_from (n + d * p) (p * s) ss ds ∙ rw (mul-add p d (s * word ss ds), add_assoc n (d * p) (p * s * word ss ds), mul_assoc p s (word ss ds), mul_comm d p) refl

pub flat_word_lem : (ss ds : List ℕ) → flat_word ss ds ≡ word ss ds
flat_word_lem [] ds = refl
flat_word_lem (s ∷ ss) [] = refl
flat_word_lem (s ∷ ss) (d ∷ ds) = sum_from d s ss ds

pub flat_there : (ss ds : List ℕ) → Fits ss ds → flat_digits ss (flat_word ss ds) ≡ ds
flat_there ss ds f = flat_digits_lem ss (flat_word ss ds) ∙ ap (digits ss) (flat_word_lem ss ds) ∙ there ss ds f

pub flat_back : (ss : List ℕ) (w : ℕ) → w < product ss → flat_word ss (flat_digits ss w) ≡ w
flat_back ss w h = flat_word_lem ss (flat_digits ss w) ∙ ap (word ss) (flat_digits_lem ss w) ∙ back ss w h

pub flat_small : (ss ds : List ℕ) → Fits ss ds → flat_word ss ds < product ss
flat_small ss ds f = subst⁻¹ (λ (w : ℕ). w < product ss) (flat_word_lem ss ds) (small ss ds f)
