-- Both rows of the table of CHR choices follow one rule, by one test computed over the whole table; in numbers half of an entry with its remainder names the bank, and past the table an entry is 0. Assumes nothing.
use Prim.Native.Nat.{ℕ, zero, suc, ◌+◌, ◌/◌, ◌%◌, ◌≤◌, ◌<◌}
use mathlib.Core.Path.{◌≡◌, refl, sym, ap, ◌∙◌}
use mathlib.Core.Bool.{Bool, cond, ◌&&◌}
use mathlib.Core.List.{List, [], ◌∷◌, map}
use native.Mathlib.Omega.{arith}
use lib.Dec.{T, eqb, eqb→eq}
use lib.ListN.{length, get_or, get_or-eq_default}
use Rattle.mmc3.specs.Read.{choices, choice_at, register, chosen, chr_bank}
use Rattle.mmc3.specs.declared.Choice.{Choice}
use Rattle.mmc3.specs.declared.Choice.TheVariants.{R, After}
use Rattle.mmc3.specs.declared.Mmc3.{Mmc3}
use Rattle.laws.specs.Choices.{ruled, choice_number, choice_numbers, choice}
use Rattle.laws.proofs.Tables.{every, at, left, right}

-- a choice's number leads back to it
numbered : ℕ → Choice
numbered n = cond (eqb (n % 2) 0) (R (n / 2)) (After (n / 2))

back : (x : Choice) → numbered (choice_number x) ≡ x
unfolding numbered
back x = grind arith

abbrev entry : ℕ → ℕ → Choice → Bool
entry mode slot x = eqb (choice_number x) (choice_number (ruled mode slot))

abbrev row : ℕ → List Choice → Bool
row mode xs = eqb (length xs) 8 && every (entry mode) 0 xs

pub choices_follow : (mode slot : ℕ) → mode < 2 → slot < 8 → choice_at mode slot ≡ ruled mode slot
unfolding choice_at
choices_follow mode slot h g =
    let xs = get_or choices mode [] in
    let r : T (row mode xs) = at [] row choices tt mode h in
    let n : length xs ≡ 8 = eqb→eq (length xs) 8 (left (eqb (length xs) 8) (every (entry mode) 0 xs) r) in
    let e : choice_number (get_or xs slot (R 0)) ≡ choice_number (ruled mode slot) = eqb→eq (choice_number (get_or xs slot (R 0))) (choice_number (ruled mode slot)) (at (R 0) (entry mode) xs (right (eqb (length xs) 8) (every (entry mode) 0 xs) r) slot (omega arith)) in
    sym (back (get_or xs slot (R 0))) ∙ ap numbered e ∙ back (ruled mode slot)

-- past two rows of eight an entry is 0
pub past_slots : (mode slot : ℕ) → 8 ≤ slot → choice mode slot ≡ 0
unfolding choice
past_slots zero slot h = get_or-eq_default (get_or choice_numbers 0 []) 0 h
past_slots (suc zero) slot h = get_or-eq_default (get_or choice_numbers 1 []) 0 h
past_slots (suc (suc mode)) slot h = refl

pub past_modes : (mode slot : ℕ) → 2 ≤ mode → choice mode slot ≡ 0
unfolding choice
past_modes zero slot h = absurd (omega arith)
past_modes (suc zero) slot h = absurd (omega arith)
past_modes (suc (suc mode)) slot h = refl

-- the numbers of a row, entry by entry
in_row : (xs : List Choice) (k : ℕ) → get_or (map choice_number xs) k 0 ≡ choice_number (get_or xs k (R 0))
in_row [] k = refl
in_row (x ∷ xs) zero = refl
in_row (x ∷ xs) (suc k) = in_row xs k

in_numbers : (mode slot : ℕ) → choice mode slot ≡ choice_number (choice_at mode slot)
unfolding choice choice_at
in_numbers zero slot = in_row (get_or choices 0 []) slot
in_numbers (suc zero) slot = in_row (get_or choices 1 []) slot
in_numbers (suc (suc mode)) slot = refl

taken_apart : (m : Mmc3) (x : Choice) → register m (choice_number x / 2) + choice_number x % 2 ≡ chosen m x
unfolding chosen
taken_apart m x = grind arith

pub bank_by_number : (m : Mmc3) (slot : ℕ) → register m (choice m.chrmode slot / 2) + choice m.chrmode slot % 2 ≡ chr_bank m slot
unfolding chr_bank
bank_by_number m slot =
    ap (λ (k : ℕ). register m (k / 2) + k % 2) (in_numbers m.chrmode slot) ∙ taken_apart m (choice_at m.chrmode slot)
