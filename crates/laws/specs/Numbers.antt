-- The refusals by the paper's numbers: the first of a list that is due, and what is answered then.
use Rattle.std.specs.Prelude.{ℕ, cond, List, [], ◌∷◌, eqb}
use Rattle.cartridge.specs.Refusals.{Row}
use Rattle.boards.specs.Numbers.{refused_by}

-- the number of the first row that is due, 0 where none is
abbrev pub first_number : List Row → ℕ
first_number [] = 0
first_number (r ∷ rs) = cond r.due r.number (first_number rs)

-- an answer as a number: 0 where nothing is refused, else 256 and the number of the refusal
abbrev pub answer_of : ℕ → ℕ
answer_of n = cond (eqb n 0) 0 (refused_by n)
