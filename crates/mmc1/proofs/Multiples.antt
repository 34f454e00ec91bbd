-- A value that is moved up by `count` places leaves the low five bits empty exactly when it is a multiple of 2^(5 - count). Assumes nothing.
use Prim.Native.Nat.{ℕ, zero, suc, ◌+◌, ◌-◌, ◌*◌, ◌%◌, ◌^◌, ◌<◌}
use mathlib.Core.Path.{◌≡◌, refl, sym, ap, ◌∙◌}
use mathlib.Core.Bool.{Bool, true, false, ◌&&◌}
use native.Mathlib.Nat.{suc-mul, zero-mul, add-zero, mul-mod_left, mod-eq_of_lt}
use native.Mathlib.Omega.{arith}
use lib.Dec.{ltb, eqb}
use lib.Pow.{pow_pos, shl-shr, mod-pow-add}
use borrow.Author.Tests.{ltb-true, ne_eqb}

-- in the byte the low five bits are whole
five_of_eight : (n : ℕ) → n % 256 % 32 ≡ n % 32
five_of_eight n = omega arith

-- the other bits of the value move past them
low_five : (v k : ℕ) → k < 5 → v * 2 ^ k % 32 ≡ v % 2 ^ (5 - k) * 2 ^ k
low_five v k h =
    let e : 5 ≡ 5 - k + k = omega arith in
    ap (λ (n : ℕ). v * 2 ^ k % 2 ^ n) e ∙ mod-pow-add (v * 2 ^ k) (5 - k) k ∙ rw (shl-shr v k, mul-mod_left v (2 ^ k), add-zero) refl

no_part : (a f : ℕ) → 0 < f → eqb (a * f) 0 ≡ eqb a 0
no_part zero f h = rw zero-mul refl
no_part (suc a) f h = ne_eqb (suc a * f) 0 (λ e. omega (arith, suc-mul a f)) ∙ sym (ne_eqb (suc a) 0 (λ e. omega arith))

pub moved_up : (count v : ℕ) → (ltb count 5 && ltb v 32 && eqb (v * 2 ^ (count % 8) % 256 % 32) 0) ≡ (ltb count 5 && ltb v 32 && eqb (v % 2 ^ (5 - count)) 0)
moved_up count v = go (ltb count 5) refl
  where
    go : (b : Bool) → ltb count 5 ≡ b → (b && ltb v 32 && eqb (v * 2 ^ (count % 8) % 256 % 32) 0) ≡ (b && ltb v 32 && eqb (v % 2 ^ (5 - count)) 0)
    go true e =
        let h = ltb-true count 5 e in
        let g : count < 8 = omega arith in
        rw (mod-eq_of_lt g, five_of_eight (v * 2 ^ count), low_five v count h, no_part (v % 2 ^ (5 - count)) (2 ^ count) (pow_pos count)) refl
    go false e = refl
