-- On a board in range no remainder changes an offset, and no offset reaches the kind above it. Assumes nothing.
use Prim.Native.Nat.{ℕ, ◌+◌, ◌*◌, ◌%◌, ◌<◌}
use mathlib.Core.Path.{◌≡◌}
use mathlib.Core.Bool.{true}
use mathlib.Core.List.{List}
use native.Mathlib.Omega.{arith}
use lib.ListN.{length}
use Rattle.std.proofs.lemmas.Bool.Decides.{nat_tests}
use Rattle.common.specs.Common.{KB8}
use Rattle.common.specs.Answers.{refusal_number}
use Rattle.common.specs.declared.Refusal.{Refusal}
use Rattle.cartridge.specs.Load.{rams_fit}
use Rattle.cartridge.proofs.Range.{fields, counts_end_small}
use Rattle.boards.specs.Range.{in_range, is_loaded}
use Rattle.boards.specs.declared.Board.{Board}
use Rattle.pages.specs.Pages.{refused_page}
use Rattle.pages.proofs.Refusals.{refusals_few}
use Rattle.page_laws.specs.Through.{kind, offset}

-- a number of this kind and offset
abbrev Is : ℕ → ℕ → ℕ → Type 0
Is n k x = (kind n ≡ k) × (offset n ≡ x)

pub image_number : (d i : ℕ) → d + i < 0x10000000 → Is (d + i % 0x10000000) 0 (d + i)
image_number d i h = (omega arith, omega arith)

pub ram_number : (k i : ℕ) → i < KB8 → Is (k * 0x10000000 + i % KB8) k i
ram_number k i h = (omega arith, omega arith)

-- the counts are no more than a header can say
counts : (b : Board) → in_range b ≡ true → (b.cart.prg < 4096) × (b.cart.chr < 4096)
unfolding in_range
counts b h =
    let c = b.cart in
    let f = fields c (grind arith) in
    let e = counts_end_small c.mode c.nes2 in
    (omega (arith, e, f.prg_small), omega (arith, e, f.chr_small))

-- what is known where a call is neither refused by 9 nor by 10
pub record Served (b : Board) (image prg chr : List ℕ) : Type 0 where
  pub is_in_range : in_range b ≡ true
  pub prg_blocks : b.cart.prg < 4096
  pub chr_blocks : b.cart.chr < 4096
  pub image_length : length image ≡ b.cart.length
  pub prg_length : length prg ≡ 8192
  pub chr_length : length chr ≡ 8192

pub served : (b : Board) (image prg chr : List ℕ) → is_loaded b (length image) ≡ true → rams_fit (length prg) (length chr) ≡ true → Served b image prg chr
unfolding is_loaded rams_fit
served b image prg chr loaded rams =
    let h : in_range b ≡ true = grind (arith, nat_tests) in
    let n = counts b h in
    record {
      is_in_range = h;
      prg_blocks = n.0;
      chr_blocks = n.1;
      image_length = grind (arith, nat_tests);
      prg_length = grind (arith, nat_tests);
      chr_length = grind (arith, nat_tests);
    }

pub refused_number : (why : Refusal) → Is (refused_page why) 4 (refusal_number why)
unfolding refused_page
refused_number why = (omega (arith, refusals_few why), omega (arith, refusals_few why))
