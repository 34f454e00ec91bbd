-- Facts about lists that the kit leaves out. Assumes nothing.
use mathlib.Core.Path.{◌≡◌}
use mathlib.Core.List.{List}
use Prim.Native.Nat.{ℕ, ◌+◌, ◌<◌}
use lib.ListN.{take, drop, get_or}
use lib.Seq.{get_or-take, get_or-drop}

-- the byte at a place of a part is the byte at that place of the whole, counted from the part's start
pub get_d_part : (n a : ℕ) (s : List ℕ) (i : ℕ) → i < n → get_or (take n (drop a s)) i 0 ≡ get_or s (a + i) 0
get_d_part n a s i h = rw (get_or-take, get_or-drop)
