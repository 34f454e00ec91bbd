-- The modulo rule, once for all bank sizes: a number taken modulo the count of banks is below the count, so that bank lies within the data.
-- Assumes nothing.
use Rattle.std.specs.Prelude.{Some}
use Prim.Native.Nat.{ℕ, ◌+◌, ◌*◌, ◌/◌, ◌%◌, ◌≤◌, ◌<◌}
use mathlib.Core.Path.{◌≡◌, refl}
use native.Mathlib.Nat.{mod-lt, div-mul-le_self, le-div_iff_mul-le, mul-le-mul_right, le_trans, suc-mul, one-mul}
use Rattle.common.specs.declared.Mode.TheVariants.{Board}
use Rattle.banks.specs.Banks.{shown, start_at, bank_start}
use borrow.Author.Tests.{le-leb}

-- a bank below the count of banks ends within the data
pub ends_within : (n size total : ℕ) → n < total / size → n * size + size ≤ total
ends_within n size total h = rw (← suc-mul) (le_trans (mul-le-mul_right size h) (div-mul-le_self total size))

-- there is a bank where the data has the size of one
pub some_bank : (size total : ℕ) → 0 < size → size ≤ total → 0 < total / size
some_bank size total p h = (le-div_iff_mul-le {k = size} {x = 1} {y = total} p).1 (rw one-mul h)

-- the bank that board mode shows for the number n
pub record Shown (n size total : ℕ) : Type 0 where
  pub number : ℕ
  pub modulo : number ≡ n % (total / size)
  pub start : bank_start Board n size total ≡ Some (number * size)
  pub below : number < total / size
  pub within : number * size + size ≤ total

pub modulo_rule : (n size total : ℕ) → 0 < size → size ≤ total → Shown n size total
unfolding bank_start shown start_at
modulo_rule n size total p h =
    let b = mod-lt n (some_bank size total p h) in
    let w = ends_within (n % (total / size)) size total b in
    record { number = n % (total / size); modulo = refl; start = rw (le-leb _ _ w) refl; below = b; within = w }
