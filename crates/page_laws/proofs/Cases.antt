-- What holds in both modes holds in each; what a test or a bound decides. Assumes nothing.
use Prim.Native.Nat.{ℕ, ◌≤◌, ◌<◌}
use mathlib.Core.Path.{◌≡◌, refl}
use mathlib.Core.Bool.{Bool, true, false, cond, ◌&&◌}
use native.Mathlib.Omega.{arith}
use lib.Dec.{ltb, leb}
use borrow.Author.Tests.{ltb-true, ltb-false}
use Rattle.std.proofs.lemmas.Bool.Decides.{nat_tests}
use Rattle.common.specs.declared.Mode.{Mode}
use Rattle.common.specs.declared.Mode.TheVariants.{House, Board as OnBoard}

pub in_mode : (P : Mode → Type 0) (m : Mode) → P House → P OnBoard → P m
in_mode P House h b = h
in_mode P OnBoard h b = b

-- two choices by one test agree where their arms do
pub alike : {A : Type 0} (t : Bool) {x y x' y' : A} → (t ≡ true → x ≡ x') → (t ≡ false → y ≡ y') → cond t x y ≡ cond t x' y'
alike true f g = f refl
alike false f g = g refl

-- and two by one bound, where each does on its side of it
pub pick : {A : Type 0} (a k : ℕ) {x y x' y' : A} → (a < k → x ≡ x') → (k ≤ a → y ≡ y') → cond (ltb a k) x y ≡ cond (ltb a k) x' y'
pick a k f g = alike (ltb a k) (λ e. f (ltb-true a k e)) (λ e. g (ltb-false a k e))

-- a page where no register is written lies below 8000, unless the board is NROM
pub below : (p : ℕ) → (leb 32 p && true) ≡ false → p < 32
below p f = grind (arith, nat_tests)
