-- Every row of M-101's table computes to what it wants. Assumes nothing.
use mathlib.Core.Path.{◌≡◌, refl}
use mathlib.Core.List.{map}
use Rattle.laws.specs.FurtherRows.{Row, answer_to}
use Rattle.laws.specs.LineRows.{rows}
use Rattle.laws.proofs.Opened.{opened}

pub line_rows : map (λ (r : Row). answer_to r.asked) rows ≡ map (λ (r : Row). r.wanted) rows
unfolding opened
line_rows = refl
