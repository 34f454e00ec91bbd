-- The `load` line prints a count of more than a byte whole: of 256 PRG and 2,048 CHR blocks it ends in "256 2048". Assumes nothing.
use mathlib.Core.Path.{◌≡◌, refl}
use mathlib.Core.List.{[], ◌∷◌}
use Rattle.traces.specs.Text.{five_digits, leading, decimal, counts}

pub longer_counts : counts 256 2048 ≡ 0x32 ∷ 0x35 ∷ 0x36 ∷ 0x20 ∷ 0x32 ∷ 0x30 ∷ 0x34 ∷ 0x38 ∷ 0x0A ∷ []
unfolding counts decimal leading five_digits
longer_counts = refl
