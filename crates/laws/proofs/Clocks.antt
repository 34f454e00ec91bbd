-- When a run of clocks of one unit answers yes; in board mode that raises the line. Both modes move the unit alike, through the latch n, n - 1, .., 0 and round again, so one induction
-- serves both. Assumes nothing.
use Prim.Native.Nat.{ℕ, zero, suc, ◌-◌, ◌%◌, ◌+◌, ◌≤◌, ◌<◌, ◌∣◌}
use mathlib.Core.Path.{◌≡◌, refl, ◌∙◌, sym, ap}
use mathlib.Core.Logic.{◌↔◌}
use mathlib.Core.Bool.{Bool, true, false, false≢true, ◌&&◌}
use native.Mathlib.Nat.{mod-lt, mod_self, mod-eq_of_lt, suc-mod, dvd_iff_mod-eq-zero}
use native.Mathlib.Numerals.{add-one}
use native.Mathlib.Omega.{arith}
use lib.Dec.{eqb}
use borrow.Author.Tests.{eqb-true, eqb-false}
use Rattle.common.specs.declared.Mode.{Mode}
use Rattle.common.specs.declared.Mode.TheVariants.{House, Board}
use Rattle.mmc3.specs.Clock.{house_clock, next_counter, board_clock, clock_in}
use Rattle.mmc3.specs.declared.Irq.{Irq}

-- the unit after k clocks
abbrev pub unit_after : Mode → ℕ → Irq → Irq
unit_after mode zero u = u
unit_after mode (suc k) u = (clock_in mode (unit_after mode k u)).left

-- whether clock k, counted from one, answers yes
abbrev pub unit_says : Mode → ℕ → Irq → Bool
unit_says mode zero u = false
unit_says mode (suc k) u = (clock_in mode (unit_after mode k u)).answer

-- the counter j clocks after it became the latch n: n, n - 1, .., 0, n, ..
abbrev shown : ℕ → ℕ → ℕ
shown n j = n - j % suc n

-- the unit that the runs pass through, and the one that they start with
abbrev unit : ℕ → ℕ → Irq
unit n c = record { enabled = true; latch = n; counter = c; reload = false }

abbrev pub ready : ℕ → ℕ → Irq
ready n c = record { enabled = true; latch = n; counter = c; reload = true }

-- in either mode the same move
moves : (mode : Mode) (u : Irq) → (clock_in mode u).left ≡ (board_clock u).left
unfolding clock_in house_clock board_clock next_counter
moves mode u = grind arith

-- a clock leaves the latch and the enable
pub clock_keeps : (P : Irq → Type 0) (mode : Mode) (u : Irq) → ((c : ℕ) → P (record { enabled = u.enabled; latch = u.latch; counter = c; reload = false })) → P (clock_in mode u).left
unfolding clock_in house_clock board_clock
clock_keeps P mode u h = grind arith

wraps : (n j : ℕ) → shown n j ≡ 0 → suc j % suc n ≡ 0
wraps n j h =
    let b : j % suc n < suc n = mod-lt j (omega arith) in
    let e : j % suc n ≡ n = omega arith in
    suc-mod j (suc n) ∙ ap (λ (r : ℕ). suc r % suc n) e ∙ mod_self (suc n)

counts : (n j : ℕ) → (shown n j ≡ 0 → ⊥) → suc j % suc n ≡ suc (j % suc n)
counts n j h = let b : suc (j % suc n) < suc n = omega arith in suc-mod j (suc n) ∙ mod-eq_of_lt b

-- one clock takes the unit from one place of the row to the next
step : (n j : ℕ) → (board_clock (unit n (shown n j))).left ≡ unit n (shown n (suc j))
unfolding board_clock next_counter
step n j = go (eqb (shown n j) 0) refl
  where
    go : (b : Bool) → eqb (shown n j) 0 ≡ b → (board_clock (unit n (shown n j))).left ≡ unit n (shown n (suc j))
    go true e = rw e (ap (unit n) (omega (arith, wraps n j (eqb-true _ _ e))))
    go false e = rw e (ap (unit n) (omega (arith, counts n j (eqb-false _ _ e))))

first : (n c : ℕ) → (board_clock (ready n c)).left ≡ unit n (shown n 0)
unfolding board_clock next_counter
first n c = ap (unit n) (omega (arith, mod-eq_of_lt {n = 0} {m = suc n} (omega arith)))

passes : (mode : Mode) (n c j : ℕ) → unit_after mode (suc j) (ready n c) ≡ unit n (shown n j)
passes mode n c zero = moves mode (ready n c) ∙ first n c
passes mode n c (suc j) =
    moves mode (unit_after mode (suc j) (ready n c)) ∙ ap (λ (i : Irq). (board_clock i).left) (passes mode n c j) ∙ step n j

-- where the row shows 0
zero_at : (n j : ℕ) → (eqb (shown n j) 0 ≡ true) ↔ (suc n ∣ suc j)
zero_at n j = (λ e. (dvd_iff_mod-eq-zero (suc n)).1 (wraps n j (eqb-true _ _ e)), λ d. go (eqb (shown n j) 0) refl d)
  where
    go : (b : Bool) → eqb (shown n j) 0 ≡ b → suc n ∣ suc j → eqb (shown n j) 0 ≡ true
    go true e d = e
    go false e d = absurd (omega (arith, counts n j (eqb-false _ _ e), (dvd_iff_mod-eq-zero (suc n)).0 d))

-- board mode's unit says yes where, after the clock, it shows 0 and is enabled
after_it : (i : Irq) → (board_clock i).answer ≡ ((board_clock i).left.enabled && eqb (board_clock i).left.counter 0)
unfolding board_clock
after_it i = refl

-- a house clock without the mark answers yes where the unit before it shows 0
before_it : (n c : ℕ) → (house_clock (unit n c)).answer ≡ eqb c 0
unfolding house_clock
before_it n c = grind arith

marked_no : (n c : ℕ) → (house_clock (ready n c)).answer ≡ false
unfolding house_clock
marked_no n c = refl

module _ (n c : ℕ) where
  board_answer : (k : ℕ) → unit_says Board (suc k) (ready n c) ≡ eqb (shown n k) 0
  unfolding clock_in
  board_answer k =
      after_it (unit_after Board k (ready n c))
      ∙ ap (λ (i : Irq). i.enabled && eqb i.counter 0) (sym (moves Board (unit_after Board k (ready n c))) ∙ passes Board n c k)

  house_answer : (k : ℕ) → unit_says House (suc (suc k)) (ready n c) ≡ eqb (shown n k) 0
  unfolding clock_in
  house_answer k = ap (λ (i : Irq). (house_clock i).answer) (passes House n c k) ∙ before_it n (shown n k)

  house_first : unit_says House 1 (ready n c) ≡ false
  unfolding clock_in
  house_first = marked_no n c

  -- board, of the unit: "clock k answers yes exactly when n + 1 divides k"
  pub board_unit_raises : (k : ℕ) → 1 ≤ k → (unit_says Board k (ready n c) ≡ true) ↔ (n + 1 ∣ k)
  board_unit_raises zero h = absurd (omega arith)
  board_unit_raises (suc k) h =
      let e = board_answer k in
      rw (add-one n) (λ a. (zero_at n k).0 (sym e ∙ a), λ d. e ∙ (zero_at n k).1 d)

  -- house: "clock k (from one) answers yes exactly when k is 2 or more and n + 1 divides k - 1"
  pub house_clocks : (k : ℕ) → (unit_says House k (ready n c) ≡ true) ↔ ((2 ≤ k) × (n + 1 ∣ k - 1))
  house_clocks zero = (λ e. absurd (false≢true e), λ p. absurd (omega arith))
  house_clocks (suc zero) = (λ e. absurd (false≢true (sym house_first ∙ e)), λ p. absurd (omega arith))
  house_clocks (suc (suc k)) =
      let e = house_answer k in
      let s : suc (suc k) - 1 ≡ suc k = omega arith in
      rw (add-one n, s) (λ a. (omega arith, (zero_at n k).0 (sym e ∙ a)), λ d. e ∙ (zero_at n k).1 d.1)
