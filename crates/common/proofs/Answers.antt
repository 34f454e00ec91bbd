-- A refusal is the one under its number, and its number the one that it stands under; two mirrorings are one exactly when `same` says so, or `==` of the code: by all cases. Assumes nothing.
use Prim.Native.Nat.{ℕ}
use mathlib.Core.Path.{◌≡◌, refl, ◌∙◌}
use mathlib.Core.Bool.{true}
use borrow.Author.Rules.{rules}
use native.Mathlib.Omega.{arith}
use lib.Dec.{eqb}
use mathlib.Core.List.{[], ◌∷◌, map}
use denote.Enum.Bare.{sameb, same_true}
use Rattle.common.specs.Answers.{mirroring_letter, refusal_number, no, same}
use Rattle.common.specs.declared.Refusal.{Refusal}
use Rattle.common.specs.declared.Refusal.TheVariants.{HeaderTooShort, HeaderNotInes, ImageNotInes, MapperNotTaken, TrainerOrFourScreen, PrgCountNotTaken, ImageTooShort, CountNoPowerOfTwo, RamNot8K, StateOutOfRange, BankPastData, NoChrRam, NoSuchPlace, IrqPending, TraceMalformed, Nes2NotTaken}
use Rattle.common.specs.contracts.Mirroring.{the_type}
use Rattle.common.specs.declared.Mirroring.{Mirroring}
use Rattle.common.specs.declared.Mirroring.TheVariants.{Horizontal, Vertical, SingleScreenUpper, SingleScreenLower}

pub no_is_its_number : (why : Refusal) → no (refusal_number why) ≡ why
no_is_its_number HeaderTooShort = refl
no_is_its_number HeaderNotInes = refl
no_is_its_number ImageNotInes = refl
no_is_its_number MapperNotTaken = refl
no_is_its_number TrainerOrFourScreen = refl
no_is_its_number PrgCountNotTaken = refl
no_is_its_number ImageTooShort = refl
no_is_its_number CountNoPowerOfTwo = refl
no_is_its_number RamNot8K = refl
no_is_its_number StateOutOfRange = refl
no_is_its_number BankPastData = refl
no_is_its_number NoChrRam = refl
no_is_its_number NoSuchPlace = refl
no_is_its_number IrqPending = refl
no_is_its_number TraceMalformed = refl
no_is_its_number Nes2NotTaken = refl

-- each of the numbers 1 to 16 is that of the refusal under it
pub numbers_are_their_own : map (λ (n : ℕ). refusal_number (no n)) (1 ∷ 2 ∷ 3 ∷ 4 ∷ 5 ∷ 6 ∷ 7 ∷ 8 ∷ 9 ∷ 10 ∷ 11 ∷ 12 ∷ 13 ∷ 14 ∷ 15 ∷ 16 ∷ [])
    ≡ 1 ∷ 2 ∷ 3 ∷ 4 ∷ 5 ∷ 6 ∷ 7 ∷ 8 ∷ 9 ∷ 10 ∷ 11 ∷ 12 ∷ 13 ∷ 14 ∷ 15 ∷ 16 ∷ []
numbers_are_their_own = refl

-- what holds of each of the four holds of all
pub by_mirroring : (P : Mirroring → Type 0) → P Horizontal → P Vertical → P SingleScreenUpper → P SingleScreenLower → (m : Mirroring) → P m
by_mirroring P h v u l Horizontal = h
by_mirroring P h v u l Vertical = v
by_mirroring P h v u l SingleScreenUpper = u
by_mirroring P h v u l SingleScreenLower = l

-- `==` of the code
pub by_equality : (a b : Mirroring) → sameb the_type a b ≡ same a b
unfolding same
by_equality Horizontal b = by_mirroring (λ (m : Mirroring). sameb the_type Horizontal m ≡ same Horizontal m) refl refl refl refl b
by_equality Vertical b = by_mirroring (λ (m : Mirroring). sameb the_type Vertical m ≡ same Vertical m) refl refl refl refl b
by_equality SingleScreenUpper b = by_mirroring (λ (m : Mirroring). sameb the_type SingleScreenUpper m ≡ same SingleScreenUpper m) refl refl refl refl b
by_equality SingleScreenLower b = by_mirroring (λ (m : Mirroring). sameb the_type SingleScreenLower m ≡ same SingleScreenLower m) refl refl refl refl b

-- no two of the four have one letter
pub by_letters : (a b : Mirroring) → eqb (mirroring_letter a) (mirroring_letter b) ≡ same a b
unfolding same
by_letters a b = grind arith

pub same_self : (m : Mirroring) → same m m ≡ true
unfolding same
same_self m = by_mirroring (λ (x : Mirroring). same x x ≡ true) refl refl refl refl m

pub same_is : (a b : Mirroring) → same a b ≡ true → a ≡ b
same_is a b e = same_true the_type (search rules) a b (by_equality a b ∙ e)
