-- Every row of the second table computes to what it wants. Assumes nothing.
use mathlib.Core.Path.{◌≡◌, refl}
use mathlib.Core.List.{map}
use Rattle.laws.specs.FurtherRows.{Row, rows, answer_to}
use Rattle.laws.proofs.Opened.{opened}

pub further_rows : map (λ (r : Row). answer_to r.asked) rows ≡ map (λ (r : Row). r.wanted) rows
unfolding opened
further_rows = refl
