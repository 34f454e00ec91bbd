-- The banks that MMC1 and MMC3 show, and the marks of RAM, are the same where the registers of their part are. Assumes nothing.
use Prim.Native.Nat.{ℕ, zero, suc, ◌+◌, ◌<◌}
use mathlib.Core.Path.{◌≡◌, refl, ap}
use mathlib.Core.Bool.{Bool, true, ◌&&◌}
use mathlib.Core.List.{List, [], ◌∷◌}
use native.Mathlib.Omega.{arith}
use lib.Dec.{ltb}
use lib.ListN.{get_or}
use borrow.Author.Tests.{ltb-true}
use Rattle.std.proofs.lemmas.Bool.Decides.{nat_tests}
use Rattle.std.proofs.lemmas.Bool.{and_parts}
use Rattle.cartridge.specs.declared.Cartridge.{Cartridge}
use Rattle.mmc1.specs.Read as mmc1
use Rattle.mmc1.specs.declared.Mmc1.{Mmc1}
use Rattle.mmc3.specs.Read as mmc3
use Rattle.mmc3.specs.declared.Choice.{Choice}
use Rattle.mmc3.specs.declared.Choice.TheVariants.{R, After}
use Rattle.mmc3.specs.declared.Mmc3.{Mmc3}
use Rattle.pages.specs.Parts.{same_chr1, same_prg1, same_mark, same_chr3, same_prg3, same_ram3}

module _ (m n : Mmc1) (c : Cartridge) (a : ℕ) where
  pub mmc1_chr : same_chr1 m.regs n.regs ≡ true → mmc1.chr_bank m c a ≡ mmc1.chr_bank n c a
  unfolding same_chr1 mmc1.chr_bank mmc1.lower_chr mmc1.upper_chr
  mmc1_chr e = grind (arith, nat_tests)

  pub mmc1_prg : same_prg1 m.regs n.regs ≡ true → mmc1.prg_bank m c a ≡ mmc1.prg_bank n c a
  unfolding same_prg1 mmc1.prg_bank mmc1.lower_prg mmc1.upper_prg
  mmc1_prg e = grind (arith, nat_tests)

-- no choice of a CHR slot names R6 or R7
abbrev register_of : Choice → ℕ
register_of (R n) = n
register_of (After n) = n

small : List Choice → Bool
small [] = true
small (x ∷ l) = ltb (register_of x) 6 && small l

in_row : (l : List Choice) (i : ℕ) → small l ≡ true → register_of (get_or l i (R 0)) < 6
unfolding small
in_row [] i e = omega arith
in_row (x ∷ l) zero e = ltb-true (register_of x) 6 (and_parts (ltb (register_of x) 6) (small l) e).0
in_row (x ∷ l) (suc i) e = in_row l i (and_parts (ltb (register_of x) 6) (small l) e).1

choices_small : (mode slot : ℕ) → register_of (mmc3.choice_at mode slot) < 6
unfolding mmc3.choice_at small
choices_small zero slot = in_row (get_or mmc3.choices 0 []) slot refl
choices_small (suc zero) slot = in_row (get_or mmc3.choices 1 []) slot refl
choices_small (suc (suc n)) slot = in_row [] slot refl

-- a choice names the same bank where its register is the same
chosen_alike : (m n : Mmc3) (x : Choice) → mmc3.register m (register_of x) ≡ mmc3.register n (register_of x) → mmc3.chosen m x ≡ mmc3.chosen n x
unfolding mmc3.chosen
chosen_alike m n (R k) e = e
chosen_alike m n (After k) e = ap (λ (t : ℕ). t + 1) e

module _ (m n : Mmc3) where
  up_to_5 : same_chr3 m n ≡ true → (k : ℕ) → k < 6 → mmc3.register m k ≡ mmc3.register n k
  unfolding same_chr3
  up_to_5 e zero l = grind (arith, nat_tests)
  up_to_5 e (suc zero) l = grind (arith, nat_tests)
  up_to_5 e (suc (suc zero)) l = grind (arith, nat_tests)
  up_to_5 e (suc (suc (suc zero))) l = grind (arith, nat_tests)
  up_to_5 e (suc (suc (suc (suc zero)))) l = grind (arith, nat_tests)
  up_to_5 e (suc (suc (suc (suc (suc zero))))) l = grind (arith, nat_tests)
  up_to_5 e (suc (suc (suc (suc (suc (suc k)))))) l = absurd (omega arith)

  same_mode : same_chr3 m n ≡ true → m.chrmode ≡ n.chrmode
  unfolding same_chr3
  same_mode e = grind (arith, nat_tests)

  pub mmc3_chr : same_chr3 m n ≡ true → (slot : ℕ) → mmc3.chr_bank m slot ≡ mmc3.chr_bank n slot
  unfolding mmc3.chr_bank
  mmc3_chr e slot = grind (arith, same_mode e, chosen_alike m n, up_to_5 e, choices_small)

  pub mmc3_prg : same_prg3 m n ≡ true → (c : Cartridge) (a : ℕ) → mmc3.prg_bank m c a ≡ mmc3.prg_bank n c a
  unfolding same_prg3 mmc3.prg_bank mmc3.register
  mmc3_prg e c a = grind (arith, nat_tests)

-- a mark is the same where its byte is
same_mark_lem : (s t : Bool) → same_mark s t ≡ true → s ≡ t
same_mark_lem s t e = grind (arith, nat_tests)

pub mmc3_ram : (m n : Mmc3) → same_ram3 m n ≡ true → m.ram ≡ n.ram
unfolding same_ram3
mmc3_ram m n e = grind (arith, nat_tests, same_mark_lem)
