-- Two readings of the definitions of the text, for who checks them: laid bytes stand at the start of a buffer that has room, and the digits of a number give it back.
-- Assumes nothing.
use mathlib.Core.Path.{◌≡◌, refl, ap, ◌∙◌}
use mathlib.Core.Bool.{Bool, true, false}
use mathlib.Core.List.{List, [], ◌∷◌, ◌++◌}
use Prim.Native.Nat.{ℕ, suc, ◌+◌, ◌-◌, ◌*◌, ◌/◌, ◌%◌, ◌≤◌, ◌<◌}
use native.Mathlib.Nat.{add-sub_cancel_left}
use native.Mathlib.Omega.{arith}
use borrow.Author.Tests.{ltb-true}
use lib.Dec.{ltb}
use lib.ListN.{length, drop, set}
use lib.Seq.{sets, sets-eq}
use Rattle.traces.specs.Text.{laid, decimal, leading, five_digits}

is_sets : (s : List ℕ) (at : ℕ) (xs : List ℕ) → laid s at xs ≡ sets s at xs
unfolding laid
is_sets s at [] = refl
is_sets s at (x ∷ xs) = is_sets (set s at x) (suc at) xs

-- the text, and after it what the buffer held
pub in_full : (s xs : List ℕ) → length xs ≤ length s → laid s 0 xs ≡ xs ++ drop (length xs) s
in_full s xs h =
    let z : 0 + length xs ≡ length xs = omega arith in
    is_sets s 0 xs ∙ sets-eq xs s 0 (omega arith) ∙ ap (λ (n : ℕ). xs ++ drop n s) z

-- a number read from its digits
abbrev pub value : ℕ → List ℕ → ℕ
value n [] = n
value n (d ∷ ds) = value (n * 10 + (d - 0x30)) ds

-- the digits one by one
abbrev Split : ℕ → Type 0
Split n =
    (n ≡ n / 10 * 10 + n % 10)
    × (n / 10 ≡ n / 100 * 10 + n / 10 % 10)
    × (n / 100 ≡ n / 1000 * 10 + n / 100 % 10)
    × (n / 1000 ≡ n / 10000 * 10 + n / 1000 % 10)
    × (n / 10000 ≡ n / 10000 % 10)

split : (n : ℕ) → n < 65536 → Split n
split n h = (omega arith, omega arith, omega arith, omega arith, omega arith)

-- the value of digits, most significant first
four : (n b c d e : ℕ) → n ≡ ((b * 10 + c) * 10 + d) * 10 + e → value 0 ((0x30 + b) ∷ (0x30 + c) ∷ (0x30 + d) ∷ (0x30 + e) ∷ []) ≡ n
four n b c d e h = simp add-sub_cancel_left (omega arith)

five : (n a b c d e : ℕ) → n ≡ (((a * 10 + b) * 10 + c) * 10 + d) * 10 + e → value 0 ((0x30 + a) ∷ (0x30 + b) ∷ (0x30 + c) ∷ (0x30 + d) ∷ (0x30 + e) ∷ []) ≡ n
five n a b c d e h = simp add-sub_cancel_left (omega arith)

pub gives_back : (n : ℕ) → n < 65536 → value 0 (decimal n) ≡ n
unfolding decimal leading five_digits
gives_back n h = go (ltb n 10) (ltb n 100) (ltb n 1000) (ltb n 10000) refl refl refl refl (split n h)
  where
    go : (a b c d : Bool) → ltb n 10 ≡ a → ltb n 100 ≡ b → ltb n 1000 ≡ c → ltb n 10000 ≡ d → Split n → value 0 (decimal n) ≡ n
    go true b c d e f g k t = rw e (omega (arith, ltb-true n 10 e))
    go false true c d e f g k t = rw (e, f) (omega (arith, ltb-true n 100 f))
    go false false true d e f g k t = rw (e, f, g) (omega (arith, ltb-true n 1000 g))
    go false false false true e f g k t =
        let z : n / 10000 ≡ 0 = omega (arith, ltb-true n 10000 k) in
        rw (e, f, g, k) (four n (n / 1000 % 10) (n / 100 % 10) (n / 10 % 10) (n % 10) (omega arith))
    go false false false false e f g k t =
        rw (e, f, g, k) (five n (n / 10000 % 10) (n / 1000 % 10) (n / 100 % 10) (n / 10 % 10) (n % 10) (omega arith))
