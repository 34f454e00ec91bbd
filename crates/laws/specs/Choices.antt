-- The rule behind MMC3's table of CHR choices, and the table in numbers.
use Rattle.std.specs.Prelude.{ℕ, ◌+◌, ◌-◌, ◌*◌, ◌/◌, ◌%◌, cond, List, [], ◌∷◌, ltb, eqb, get_or}
use Rattle.mmc3.specs.declared.Choice.{Choice}
use Rattle.mmc3.specs.declared.Choice.TheVariants.{R, After}

-- half a screen of pairs, R0, R0+1, R1, R1+1, then half of single banks, R2 to R5
abbrev pub paired : ℕ → Choice
paired s = cond (ltb s 4) (cond (eqb (s % 2) 0) (R (s / 2)) (After (s / 2))) (R (s - 2))

-- CHR mode 1 exchanges the two halves
abbrev pub ruled : ℕ → ℕ → Choice
ruled mode slot = paired ((slot + 4 * mode) % 8)

-- Rn as 2n, the bank after it as 2n + 1
abbrev pub choice_number : Choice → ℕ
choice_number (R n) = n * 2
choice_number (After n) = n * 2 + 1

-- both rows in these numbers
abbrev pub choice_numbers : List (List ℕ)
choice_numbers = (0 ∷ 1 ∷ 2 ∷ 3 ∷ 4 ∷ 6 ∷ 8 ∷ 10 ∷ []) ∷ (4 ∷ 6 ∷ 8 ∷ 10 ∷ 0 ∷ 1 ∷ 2 ∷ 3 ∷ []) ∷ []

-- the entry of a CHR mode and a 1 KB slot, 0 past the table
unfoldable pub choice : ℕ → ℕ → ℕ
choice mode slot = get_or (get_or choice_numbers mode []) slot 0
