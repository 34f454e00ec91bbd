-- Lists of bytes, entry by entry: so every place has a byte, and closed lists are told by a test. Assumes nothing.
use Prim.Native.Nat.{ℕ, zero, suc, ◌<◌}
use mathlib.Core.Path.{◌≡◌}
use mathlib.Core.Bool.{Bool, true, ◌&&◌}
use mathlib.Core.List.{List, [], ◌∷◌}
use native.Mathlib.Omega.{arith}
use borrow.Author.Tests.{ltb-true}
use lib.Dec.{ltb}
use lib.ListN.{replicate}
use Rattle.std.proofs.lemmas.Bool.{and_parts}
use Rattle.memory.specs.Memory.{AreBytes}

unfoldable pub Bytes : List ℕ → Type 0
Bytes [] = Unit {0}
Bytes (v ∷ s) = (v < 0x100) × Bytes s

pub at_each_place : (s : List ℕ) → Bytes s → AreBytes s
unfolding Bytes
at_each_place [] h i = omega arith
at_each_place (v ∷ s) h zero = h.0
at_each_place (v ∷ s) h (suc i) = at_each_place s h.1 i

pub zeros : (n : ℕ) → Bytes (replicate n 0)
unfolding Bytes
zeros zero = tt
zeros (suc n) = (omega arith, zeros n)

unfoldable pub all_bytes : List ℕ → Bool
all_bytes [] = true
all_bytes (v ∷ s) = ltb v 0x100 && all_bytes s

tested : (s : List ℕ) → all_bytes s ≡ true → Bytes s
unfolding Bytes all_bytes
tested [] h = tt
tested (v ∷ s) h = (ltb-true v 0x100 (and_parts (ltb v 0x100) (all_bytes s) h).0, tested s (and_parts (ltb v 0x100) (all_bytes s) h).1)

pub are_bytes : (s : List ℕ) → all_bytes s ≡ true → AreBytes s
are_bytes s h = at_each_place s (tested s h)
