-- Every row of the table of P lines computes to what it wants. Assumes nothing.
use mathlib.Core.Path.{◌≡◌, refl}
use mathlib.Core.List.{map}
use Rattle.laws.specs.PLines.{Row, rows, answer_to}
use Rattle.laws.proofs.Opened.{opened}

pub p_lines : map (λ (r : Row). answer_to r.asked) rows ≡ map (λ (r : Row). r.wanted) rows
unfolding opened
p_lines = refl
