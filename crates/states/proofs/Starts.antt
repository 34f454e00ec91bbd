-- A part that passes the test for its start is the start. Assumes nothing.
use Prim.Native.Nat.{ℕ}
use mathlib.Core.Path.{◌≡◌, refl, ap, ap₂}
use mathlib.Core.Bool.{Bool, true, ◌&&◌}
use mathlib.Core.List.{List, [], ◌∷◌}
use mathlib.Core.Logic.{◌↔◌}
use native.Mathlib.Omega.{arith}
use borrow.Author.Tests.{eqb-true, not-true}
use lib.Dec.{eqb}
use Rattle.rules.specs.Rows.{digit}
use Rattle.std.proofs.lemmas.Bool.{and_parts}
use Rattle.uxrom.specs.Uxrom as uxrom
use Rattle.uxrom.specs.declared.Uxrom as uxrom-type
use Rattle.cnrom.specs.Cnrom as cnrom
use Rattle.cnrom.specs.declared.Cnrom as cnrom-type
use Rattle.mmc1.specs.Range as mmc1
use Rattle.mmc1.specs.declared.Mmc1 as mmc1-type
use Rattle.mmc3.specs.Range as mmc3
use Rattle.mmc3.specs.Read.{register}
use Rattle.states.specs.Words.{mmc1_of, regs_digits, mmc3_of}

pub uxrom_start : (u : uxrom-type.Uxrom) → (uxrom.is_start u ≡ true) ↔ (u ≡ uxrom.start)
uxrom_start u = (λ h i. record { bank = eqb-true u.bank 0 h i }, λ e. ap uxrom.is_start e)

pub cnrom_start : (u : cnrom-type.Cnrom) → (cnrom.is_start u ≡ true) ↔ (u ≡ cnrom.start)
cnrom_start u = (λ h i. record { bank = eqb-true u.bank 0 h i }, λ e. ap cnrom.is_start e)

-- tests for 0, after another one
abbrev zero_too : Bool → List ℕ → Bool
zero_too b [] = b
zero_too b (d ∷ ds) = zero_too (b && eqb d 0) ds

abbrev zeros : List ℕ → List ℕ
zeros [] = []
zeros (d ∷ ds) = 0 ∷ zeros ds

are_zero : (b : Bool) (ds : List ℕ) → zero_too b ds ≡ true → (b ≡ true) × (ds ≡ zeros ds)
are_zero b [] e = (e, refl)
are_zero b (d ∷ ds) e =
    let p = are_zero (b && eqb d 0) ds e in
    ((and_parts b (eqb d 0) p.0).0, ap₂ ◌∷◌ (eqb-true d 0 (and_parts b (eqb d 0) p.0).1) p.1)

pub mmc1_unused : (m : mmc1-type.Mmc1) → (mmc1.is_unused m ≡ true) ↔ (m ≡ mmc1.unused)
unfolding mmc1.is_unused
mmc1_unused m = (
  λ h. ap (λ (t : List ℕ). mmc1_of (0 ∷ 0 ∷ 0 ∷ 0 ∷ 0 ∷ t))
      (are_zero true (m.serial.count ∷ m.serial.value ∷ m.regs.prgmode ∷ m.regs.chrmode ∷ m.regs.chr0 ∷ m.regs.chr1 ∷ m.regs.prg ∷ []) h).1,
  λ e. ap mmc1.is_unused e,
)

-- of MMC3 as its digits give it
pub mmc3_start : (d e : List ℕ) → mmc3.is_start (mmc3_of d e) ≡ true → mmc3_of d e ≡ mmc3.start
unfolding mmc3.is_start mmc3.irq_is_start mmc3.ram_is_start mmc3.start register
mmc3_start d e h =
    let z : (k : ℕ) → eqb (digit e k) 0 ≡ true → digit e k ≡ 0 = λ k t. eqb-true (digit e k) 0 t in
    let select = z 2 (grind arith) in
    let prgmode = z 3 (grind arith) in
    let chrmode = z 4 (grind arith) in
    let regs = (are_zero true (regs_digits d) (grind arith)).1 in
    let enabled = not-true (eqb (digit e 5) 1) (grind arith) in
    let latch = z 0 (grind arith) in
    let counter = z 1 (grind arith) in
    let reload = not-true (eqb (digit e 6) 1) (grind arith) in
    let line = not-true (eqb (digit e 7) 1) (grind arith) in
    let ram : eqb (digit e 8) 1 ≡ true = grind arith in
    let denied = not-true (eqb (digit e 9) 1) (grind arith) in
    λ i. record {
      select = select i;
      prgmode = prgmode i;
      chrmode = chrmode i;
      regs = regs i;
      irq = record { enabled = enabled i; latch = latch i; counter = counter i; reload = reload i };
      line = line i;
      ram = record { enabled = ram i; denied = denied i };
    }
