-- Every row of M-100's table computes to what it wants; so do the images that are too long for it, once their length is said. Assumes nothing.
use Prim.Native.Nat.{ℕ, ◌-◌, ◌≤◌}
use mathlib.Core.Path.{◌≡◌, refl, ◌∙◌}
use mathlib.Core.List.{map}
use native.Mathlib.Omega.{arith}
use lib.ListN.{length, length-replicate}
use Rattle.cartridge.specs.Load.{needed}
use Rattle.boards.specs.Numbers.{refused_by}
use Rattle.laws.specs.FurtherRows.{Row, answer_to}
use Rattle.laws.specs.Nes2Rows.{Bytes, image_of, rows, uxrom256, uxrom768, uxrom257, chr257, loaded_at}
use Rattle.laws.proofs.Opened.{opened}

pub nes2_rows : map (λ (r : Row). answer_to r.asked) rows ≡ map (λ (r : Row). r.wanted) rows
unfolding opened
nes2_rows = refl

its_length : (size : ℕ) (b : Bytes) → 16 ≤ size → length (image_of size b) ≡ size
its_length size b h = let n = length-replicate {A = ℕ} (size - 16) 0 in omega (arith, n, h)

-- by its length alone, as a number
sized : (size n : ℕ) (b : Bytes) → size ≡ n → 16 ≤ n → length (image_of size b) ≡ n
sized size n b e h = its_length size b (omega (arith, e, h)) ∙ e

-- the sizes stand as numbers that compute, and come to the images at the end
module _ (size : ℕ) where
  taken_256 : size ≡ 4194320 → loaded_at size uxrom256 ≡ 0
  unfolding opened
  taken_256 e = rw (sized size 4194320 uxrom256 e (omega arith)) refl

  refused_768 : size ≡ 12582928 → loaded_at size uxrom768 ≡ refused_by 8
  unfolding opened
  refused_768 e = rw (sized size 12582928 uxrom768 e (omega arith)) refl

  refused_257 : size ≡ 4194320 → loaded_at size uxrom257 ≡ refused_by 7
  unfolding opened
  refused_257 e = rw (sized size 4194320 uxrom257 e (omega arith)) refl

  refused_chr_257 : size ≡ 2113552 → loaded_at size chr257 ≡ refused_by 7
  unfolding opened
  refused_chr_257 e = rw (sized size 2113552 chr257 e (omega arith)) refl

-- "PRG count 256" on UxROM is taken
pub prg_count_256_is_taken : loaded_at (needed 256 0) uxrom256 ≡ 0
prg_count_256_is_taken = taken_256 (needed 256 0) refl

-- 3 x 256 is refused by 8
pub prg_count_768_is_8 : loaded_at (needed 768 0) uxrom768 ≡ refused_by 8
prg_count_768_is_8 = refused_768 (needed 768 0) refl

-- 257 blocks do not fit where 256 do: byte 9 extends a count, and stands not in its place
pub prg_count_257_is_7 : loaded_at (needed 256 0) uxrom257 ≡ refused_by 7
prg_count_257_is_7 = refused_257 (needed 256 0) refl

pub chr_count_257_is_7 : loaded_at (needed 1 256) chr257 ≡ refused_by 7
chr_count_257_is_7 = refused_chr_257 (needed 1 256) refl
