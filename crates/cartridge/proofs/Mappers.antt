-- A mapper that is this one equals it: each has a number of its own. The code's `==` says so too. Assumes nothing.
use mathlib.Core.Path.{◌≡◌, refl, sym, ap, ◌∙◌}
use mathlib.Core.Bool.{true}
use native.Mathlib.Omega.{arith}
use lib.Dec.{eqb}
use borrow.Author.Tests.{eqb-true, eq-eqb}
use Rattle.cartridge.specs.Mappers.{mapper_number, is_mapper, mapper_type}
use denote.Enum.Bare.{sameb}
use Rattle.cartridge.specs.contracts.MapperType.{the_type}
use Rattle.cartridge.specs.declared.MapperType.{MapperType}
use Rattle.cartridge.specs.declared.MapperType.TheVariants.{Nrom, Mmc1, Uxrom, Cnrom, Mmc3}

-- its number leads back to it
pub by_number : (k : MapperType) → mapper_type (mapper_number k) ≡ k
unfolding mapper_type
by_number k = grind arith

pub is_this : (k this : MapperType) → is_mapper k this ≡ true → k ≡ this
unfolding is_mapper
is_this k this e = sym (by_number k) ∙ ap mapper_type (eqb-true (mapper_number k) (mapper_number this) e) ∙ by_number this

pub this_is : (k : MapperType) → is_mapper k k ≡ true
unfolding is_mapper
this_is k = eq-eqb (mapper_number k) (mapper_number k) refl

-- what holds of each of the five holds of all
pub by_mapper : (P : MapperType → Type 0) → P Nrom → P Mmc1 → P Uxrom → P Cnrom → P Mmc3 → (k : MapperType) → P k
by_mapper P n a u c b k = grind arith

-- `==` of the code
pub by_equality : (k this : MapperType) → sameb the_type k this ≡ is_mapper k this
unfolding is_mapper
by_equality k this =
    by_mapper (λ (x : MapperType). sameb the_type x this ≡ eqb (mapper_number x) (mapper_number this))
    (by_mapper (λ (y : MapperType). sameb the_type Nrom y ≡ eqb 0 (mapper_number y)) refl refl refl refl refl this)
    (by_mapper (λ (y : MapperType). sameb the_type Mmc1 y ≡ eqb 1 (mapper_number y)) refl refl refl refl refl this)
    (by_mapper (λ (y : MapperType). sameb the_type Uxrom y ≡ eqb 2 (mapper_number y)) refl refl refl refl refl this)
    (by_mapper (λ (y : MapperType). sameb the_type Cnrom y ≡ eqb 3 (mapper_number y)) refl refl refl refl refl this)
    (by_mapper (λ (y : MapperType). sameb the_type Mmc3 y ≡ eqb 4 (mapper_number y)) refl refl refl refl refl this)
    k
