-- What stands in lent bytes.
use Rattle.std.specs.Prelude.{ℕ, ◌<◌, cond, List, eqb, length, get_or, take, drop}

-- the byte at a place, 0 past the end
abbrev pub byte : List ℕ → ℕ → ℕ
byte s i = get_or s i 0

-- every entry is a byte
abbrev pub AreBytes : List ℕ → Type 0
AreBytes s = (i : ℕ) → byte s i < 0x100

-- the data from a place on
abbrev pub tail : List ℕ → ℕ → List ℕ
tail s a = drop a s

-- size bytes from a place on
abbrev pub part : List ℕ → ℕ → ℕ → List ℕ
part s a size = take size (drop a s)

-- a copy of src, where it has just the length of dst; else what dst held
unfoldable pub copied : {A : Type 0} → List A → List A → List A
copied dst src = cond (eqb (length dst) (length src)) src dst
