-- A board equals the start board, field by field, exactly when each of its fields is at its start. Assumes nothing.
use Prim.Native.Nat.{ℕ}
use mathlib.Core.Path.{◌≡◌}
use mathlib.Core.Bool.{Bool, true, false, ◌&&◌, beq}
use mathlib.Core.List.{List, [], ◌∷◌}
use native.Mathlib.Omega.{arith}
use lib.Dec.{eqb}
use lib.ListN.{length, get_or}
use lib.Pointwise.{pointwise}
use Rattle.mmc3.specs.Range.{irq_is_start, ram_is_start, is_start}
use Rattle.mmc3.specs.Read.{register}
use Rattle.mmc3.specs.declared.Irq.{Irq}
use Rattle.mmc3.specs.declared.Mmc3.{Mmc3}
use Rattle.mmc3.specs.declared.RamMarks.{RamMarks}

abbrev zeros : List ℕ
zeros = 0 ∷ 0 ∷ 0 ∷ 0 ∷ 0 ∷ 0 ∷ 0 ∷ 0 ∷ []

-- eight registers, each 0
abbrev all_zero : List ℕ → Bool
all_zero r = eqb (get_or r 0 0) 0 && eqb (get_or r 1 0) 0 && eqb (get_or r 2 0) 0 && eqb (get_or r 3 0) 0 && eqb (get_or r 4 0) 0 && eqb (get_or r 5 0) 0 && eqb (get_or r 6 0) 0 && eqb (get_or r 7 0) 0

registers : (r : List ℕ) → length r ≡ 8 → pointwise eqb r zeros ≡ all_zero r
registers (a ∷ b ∷ c ∷ d ∷ e ∷ f ∷ g ∷ h ∷ []) n = grind arith
registers [] n = absurd (omega arith)
registers (a ∷ []) n = absurd (omega arith)
registers (a ∷ b ∷ []) n = absurd (omega arith)
registers (a ∷ b ∷ c ∷ []) n = absurd (omega arith)
registers (a ∷ b ∷ c ∷ d ∷ []) n = absurd (omega arith)
registers (a ∷ b ∷ c ∷ d ∷ e ∷ []) n = absurd (omega arith)
registers (a ∷ b ∷ c ∷ d ∷ e ∷ f ∷ []) n = absurd (omega arith)
registers (a ∷ b ∷ c ∷ d ∷ e ∷ f ∷ g ∷ []) n = absurd (omega arith)
registers (a ∷ b ∷ c ∷ d ∷ e ∷ f ∷ g ∷ h ∷ x ∷ r) n = absurd (omega arith)

abbrev irq_equal : Irq → Bool
irq_equal i = beq i.enabled false && (eqb i.latch 0 && (eqb i.counter 0 && beq i.reload false))

abbrev ram_equal : RamMarks → Bool
ram_equal r = beq r.enabled true && beq r.denied false

pub at_start : (m : Mmc3) → length m.regs ≡ 8
    → (eqb m.select 0 && (eqb m.prgmode 0 && (eqb m.chrmode 0 && (pointwise eqb m.regs zeros && (irq_equal m.irq && (beq m.line false && ram_equal m.ram)))))) ≡ is_start m
unfolding is_start irq_is_start ram_is_start register
at_start m h = let r = registers m.regs h in grind arith
