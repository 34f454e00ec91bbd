-- Two choices by one test. Assumes nothing.
use native.Mathlib.Omega.{arith}
use mathlib.Core.Bool.{Bool, cond}

-- what two choices by one test have in common, arm by arm
pub alike : {A B : Type 0} (R : A → B → Type 0) (t : Bool) {x y : A} {x' y' : B} → R x x' → R y y' → R (cond t x y) (cond t x' y')
alike R t p q = grind arith
