-- docs/ABI.md: "with digits of size s, t, .. the word is a + s × (b + t × (c + ..))".
use Rattle.std.specs.Prelude.{ℕ, ◌+◌, ◌*◌, ◌/◌, ◌%◌, ◌<◌, Bool, true, false, ◌&&◌, List, [], ◌∷◌, ltb, get_or}

-- the word of a row of digits
abbrev pub word : List ℕ → List ℕ → ℕ
word [] ds = 0
word (s ∷ ss) [] = 0
word (s ∷ ss) (d ∷ ds) = d + s * word ss ds

-- the digits of a word
abbrev pub digits : List ℕ → ℕ → List ℕ
digits [] w = []
digits (s ∷ ss) w = w % s ∷ digits ss (w / s)

-- a digit for each size, below it
abbrev pub Fits : List ℕ → List ℕ → Type 0
Fits [] [] = Unit {0}
Fits [] (d ∷ ds) = ⊥
Fits (s ∷ ss) [] = ⊥
Fits (s ∷ ss) (d ∷ ds) = (d < s) × Fits ss ds

-- a digit for each size, below it, as a test after another one
abbrev pub below_too : Bool → List ℕ → List ℕ → Bool
below_too b [] [] = b
below_too b [] (d ∷ ds) = false
below_too b (s ∷ ss) [] = false
below_too b (s ∷ ss) (d ∷ ds) = below_too (b && ltb d s) ss ds

abbrev pub below : List ℕ → List ℕ → Bool
below = below_too true

-- a digit of a row, by its place
abbrev pub digit : List ℕ → ℕ → ℕ
digit ds k = get_or ds k 0

-- the sizes of the eight bytes of a word
abbrev pub bytes : List ℕ
bytes = 0x100 ∷ 0x100 ∷ 0x100 ∷ 0x100 ∷ 0x100 ∷ 0x100 ∷ 0x100 ∷ 0x100 ∷ []
