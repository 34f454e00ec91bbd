-- Exactly one bit is set in a power of two, and in no other number; so below 2^k refusal 8 lets pass what a list of the first k had. Assumes nothing.
use Prim.Native.Nat.{ℕ, zero, suc, ◌*◌, ◌/◌, ◌%◌, ◌^◌, ◌≤◌, ◌<◌}
use mathlib.Core.Path.{◌≡◌, refl, sym, ap, ap₂, ◌∙◌, subst, subst⁻¹}
use mathlib.Core.Bool.{Bool, true, false, false≢true, not, ◌&&◌, ◌||◌, or-true}
use mathlib.Core.Logic.{◌↔◌}
use native.Mathlib.Nat.{pow-suc, le_trans, le_of_eq, le_of_suc-le-suc, lt_of_not-le, not-le_of_lt}
use native.Mathlib.Omega.{arith}
use borrow.Author.Tests.{eqb-true, eqb-false, eq-eqb}
use lib.Count.{ones, ones_step}
use lib.Dec.{eqb}
use lib.Pow.{pow_mono}
use Rattle.rules.proofs.Bools.{both_ways}
use Rattle.common.specs.declared.Mode.{Mode}
use Rattle.common.specs.declared.Mode.TheVariants.{House, Board}
use Rattle.cartridge.specs.Load.{is_power, no_powers}

below_its_power : (n : ℕ) → n < 2 ^ n
below_its_power zero = omega arith
below_its_power (suc n) = omega (arith, below_its_power n, pow-suc 2 n)

no_bits : (k n : ℕ) → n < 2 ^ k → ones n ≡ 0 → n ≡ 0
no_bits zero n l e = omega arith
no_bits (suc k) n l e =
    let s = ones_step n in
    let z = no_bits k (n / 2) (omega (arith, pow-suc 2 k)) (omega (arith, s)) in
    omega (arith, z, s)

one_of_a_power : (j : ℕ) → ones (2 ^ j) ≡ 1
unfolding ones
one_of_a_power zero = refl
one_of_a_power (suc j) =
    let h : 2 ^ j * 2 / 2 ≡ 2 ^ j = omega arith in
    ap ones (pow-suc 2 j) ∙ ones_step (2 ^ j * 2) ∙ rw h (omega (arith, one_of_a_power j))

its_power : (k n : ℕ) → n < 2 ^ k → ones n ≡ 1 → (j : ℕ) × (n ≡ 2 ^ j)
unfolding ones
its_power zero n l e = absurd (let z : n ≡ 0 = omega arith in omega (arith, e, ap ones z))
its_power (suc k) n l e =
    let half : n / 2 < 2 ^ k = omega (arith, pow-suc 2 k) in
    lowest (n % 2) refl half (λ o. its_power k (n / 2) half (omega (arith, ones_step n, o)))
  where
    lowest : (b : ℕ) → n % 2 ≡ b → n / 2 < 2 ^ k → (n % 2 ≡ 0 → (j : ℕ) × (n / 2 ≡ 2 ^ j)) → (j : ℕ) × (n ≡ 2 ^ j)
    lowest zero o half above = let i = above o in (suc i.0, omega (arith, i.1, pow-suc 2 i.0))
    lowest (suc b) o half above = (0, omega (arith, no_bits k (n / 2) half (omega (arith, ones_step n))))

-- refusal 8's powers of two are the powers of two, for every number
pub powers_of_two : (n : ℕ) → (is_power n ≡ true) ↔ ((j : ℕ) × (n ≡ 2 ^ j))
unfolding is_power
powers_of_two n = (
  λ h. its_power n n (below_its_power n) (eqb-true (ones n) 1 h),
  λ p. eq-eqb (ones n) 1 (ap ones p.1 ∙ one_of_a_power p.0),
)

-- whether a number is among the first k of a list of them
abbrev pub is_listed : ℕ → ℕ → Bool
is_listed zero n = false
is_listed (suc k) n = is_listed k n || eqb (2 ^ k) n

exponent_below : (j k : ℕ) → 2 ^ j < 2 ^ k → j < k
exponent_below j k l = lt_of_not-le (λ (g : k ≤ j). not-le_of_lt l (pow_mono g))

listed : (k j : ℕ) → j < k → is_listed k (2 ^ j) ≡ true
listed zero j l = absurd (omega arith)
listed (suc k) j l = go (λ (m : j < k). listed k j m) (eqb j k) refl
  where
    go : (j < k → is_listed k (2 ^ j) ≡ true) → (t : Bool) → eqb j k ≡ t → (is_listed k (2 ^ j) || eqb (2 ^ k) (2 ^ j)) ≡ true
    go below true e = rw (eqb-true j k e, eq-eqb (2 ^ k) (2 ^ k) refl) (or-true (is_listed k (2 ^ k)))
    go below false e = rw (below (let z = eqb-false j k e in omega arith)) refl

a_power : (k n : ℕ) → is_listed k n ≡ true → (j : ℕ) × (n ≡ 2 ^ j)
a_power zero n h = absurd (false≢true h)
a_power (suc k) n h = go (λ (e : is_listed k n ≡ true). a_power k n e) (is_listed k n) refl h
  where
    go : (is_listed k n ≡ true → (j : ℕ) × (n ≡ 2 ^ j)) → (t : Bool) → is_listed k n ≡ t → (t || eqb (2 ^ k) n) ≡ true → (j : ℕ) × (n ≡ 2 ^ j)
    go before true e q = before e
    go before false e q = (k, sym (eqb-true (2 ^ k) n q))

-- below 2 ^ k they are the first k of the list
as_the_list : (k n : ℕ) → n < 2 ^ k → is_power n ≡ is_listed k n
as_the_list k n l =
    both_ways (is_power n) (is_listed k n)
    (λ h. let p = (powers_of_two n).0 h in
    subst⁻¹ (λ (m : ℕ). is_listed k m ≡ true) p.1 (listed k p.0 (exponent_below p.0 k (subst (λ (m : ℕ). m < 2 ^ k) p.1 l))))
    (λ h. (powers_of_two n).1 (a_power k n h))

-- "a list of the powers of two from 1 to 128"
pub the_list_to_128 : (n : ℕ) → n < 256 → is_power n ≡ (eqb 1 n || eqb 2 n || eqb 4 n || eqb 8 n || eqb 16 n || eqb 32 n || eqb 64 n || eqb 128 n)
the_list_to_128 n l = as_the_list 8 n l

-- "The answer for each count is as now": by the list as M-100 had lengthened it
pub the_list_to_2048 : (n : ℕ) → n < 4096
    → is_power n ≡ (eqb 1 n || eqb 2 n || eqb 4 n || eqb 8 n || eqb 16 n || eqb 32 n || eqb 64 n || eqb 128 n || eqb 256 n || eqb 512 n || eqb 1024 n || eqb 2048 n)
the_list_to_2048 n l = as_the_list 12 n l

-- refusal 8 as it consulted that list
abbrev pub not_listed : Mode → ℕ → ℕ → Bool
not_listed House prg chr = false
not_listed Board prg chr = not (is_listed 12 prg) || (not (eqb chr 0) && not (is_listed 12 chr))

-- and so it is of both counts of every header
pub counts_as_before : (mode : Mode) (prg chr : ℕ) → prg < 4096 → chr < 4096 → no_powers mode prg chr ≡ not_listed mode prg chr
unfolding no_powers
counts_as_before House prg chr p c = refl
counts_as_before Board prg chr p c = ap₂ (λ (x y : Bool). not x || (not (eqb chr 0) && not y)) (as_the_list 12 prg p) (as_the_list 12 chr c)

-- of the counts below 4,096
pub power_small : (n : ℕ) → n < 4096 → is_power n ≡ true → n ≤ 2048
power_small n l h =
    let p = (powers_of_two n).0 h in
    let j : p.0 < 12 = exponent_below p.0 12 (subst (λ (m : ℕ). m < 2 ^ 12) p.1 l) in
    le_trans (le_of_eq p.1) (pow_mono (le_of_suc-le-suc j))
