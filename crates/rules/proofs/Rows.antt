-- A word gives back its digits, and the digits of a word give it back, in every row. Assumes nothing.
use Prim.Native.Nat.{ℕ, zero, suc, ◌+◌, ◌*◌, ◌/◌, ◌%◌, ◌<◌}
use mathlib.Core.Path.{◌≡◌, refl, ap, ap₂, subst⁻¹, ◌∙◌}
use mathlib.Core.Bool.{Bool, true, false, false≢true, ◌&&◌}
use mathlib.Core.List.{List, [], ◌∷◌}
use native.Mathlib.Nat.{add-mul-mod_self_left, mod-eq_of_lt, add-mul-div_left, div-eq_of_lt, zero-add, zero-lt-suc, zero-mul, mul-suc, mul_comm, mul-le-mul_left, mod-add-div, div-lt_iff_lt-mul}
use native.Mathlib.Omega.{arith}
use borrow.Author.Tests.{ltb-true}
use lib.Dec.{ltb, eqb}
use mir.Val.{bool_byte}
use Rattle.std.proofs.lemmas.Bool.{and_parts}
use Rattle.rules.specs.Rows.{word, digits, digit, Fits, below_too, below}

pub there : (ss ds : List ℕ) → Fits ss ds → digits ss (word ss ds) ≡ ds
there [] [] f = refl
there [] (d ∷ ds) f = absurd f
there (s ∷ ss) [] f = absurd f
there (s ∷ ss) (d ∷ ds) f =
    ap₂ ◌∷◌ (add-mul-mod_self_left d s (word ss ds) ∙ mod-eq_of_lt f.0)
    (ap (digits ss) (add-mul-div_left d (word ss ds) (omega (arith, f.0)) ∙ ap (λ (x : ℕ). x + word ss ds) (div-eq_of_lt f.0) ∙ zero-add (word ss ds)) ∙ there ss ds f.1)

-- how many words a row has
abbrev pub product : List ℕ → ℕ
product [] = 1
product (s ∷ ss) = s * product ss

-- the word of digits that fit is one of them
pub small : (ss ds : List ℕ) → Fits ss ds → word ss ds < product ss
small [] [] f = omega arith
small [] (d ∷ ds) f = absurd f
small (s ∷ ss) [] f = absurd f
small (s ∷ ss) (d ∷ ds) f = omega (arith, f.0, mul-le-mul_left s (small ss ds f.1), mul-suc s (word ss ds))

pub back : (ss : List ℕ) (w : ℕ) → w < product ss → word ss (digits ss w) ≡ w
back [] w h = omega arith
back (zero ∷ ss) w h = absurd (omega (arith, h, zero-mul (product ss)))
back (suc s ∷ ss) w h =
    ap (λ (x : ℕ). w % suc s + suc s * x) (back ss (w / suc s) ((div-lt_iff_lt-mul (zero-lt-suc s)).1 (rw mul_comm h))) ∙ mod-add-div w (suc s)

-- what is tested holds
both : (b : Bool) (ss ds : List ℕ) → below_too b ss ds ≡ true → (b ≡ true) × Fits ss ds
both b [] [] e = (e, tt)
both b [] (d ∷ ds) e = absurd (false≢true e)
both b (s ∷ ss) [] e = absurd (false≢true e)
both b (s ∷ ss) (d ∷ ds) e =
    let p = both (b && ltb d s) ss ds e in
    ((and_parts b (ltb d s) p.0).0, (ltb-true d s (and_parts b (ltb d s) p.0).1, p.1))

pub tested : (ss ds : List ℕ) → below ss ds ≡ true → Fits ss ds
tested ss ds e = (both true ss ds e).1

-- a row that fits is the list of its digits, as many as there are sizes from place i on
abbrev pub listed : List ℕ → ℕ → List ℕ → List ℕ
listed [] i ds = []
listed (s ∷ ss) i ds = digit ds i ∷ listed ss (suc i) ds

shifted : (ss : List ℕ) (i d : ℕ) (ds : List ℕ) → listed ss (suc i) (d ∷ ds) ≡ listed ss i ds
shifted [] i d ds = refl
shifted (s ∷ ss) i d ds = ap (λ (t : List ℕ). digit ds i ∷ t) (shifted ss (suc i) d ds)

pub whole : (ss ds : List ℕ) → Fits ss ds → listed ss 0 ds ≡ ds
whole [] [] f = refl
whole [] (d ∷ ds) f = absurd f
whole (s ∷ ss) [] f = absurd f
whole (s ∷ ss) (d ∷ ds) f = ap (λ (t : List ℕ). d ∷ t) (shifted ss 0 d ds ∙ whole ss ds f.1)

pub each : (ss ds : List ℕ) → Fits ss ds → Fits ss (listed ss 0 ds)
each ss ds f = subst⁻¹ (Fits ss) (whole ss ds f) f

-- a bool's digit
pub mark_small : (b : Bool) → bool_byte b < 2
mark_small true = omega arith
mark_small false = omega arith

pub mark_there : (b : Bool) → eqb (bool_byte b) 1 ≡ b
mark_there true = refl
mark_there false = refl
