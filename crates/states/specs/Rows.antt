-- What the sizes of a row owe the code that takes it apart and puts it together.
use Rattle.std.specs.Prelude.{ℕ, ◌<◌, ◌*◌, List, [], ◌∷◌}

-- each size is above 0
abbrev pub AllAbove0 : List ℕ → Type 0
AllAbove0 [] = Unit {0}
AllAbove0 (s ∷ ss) = (0 < s) × AllAbove0 ss

-- how many words a row has
abbrev pub count : List ℕ → ℕ
count [] = 1
count (s ∷ ss) = s * count ss
