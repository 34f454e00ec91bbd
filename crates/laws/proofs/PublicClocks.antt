-- The clock rules through the public calls. A clock of a board in range is one of its unit: in house mode the rule of the unit is the board's, in board mode it says
-- when the line is raised, and the line stays. Assumes nothing.
use Prim.Native.Nat.{ℕ, zero, suc, ◌+◌, ◌-◌, ◌≤◌, ◌∣◌}
use mathlib.Core.Path.{◌≡◌, refl, sym, ap, ◌∙◌, subst}
use mathlib.Core.Logic.{◌↔◌}
use mathlib.Core.Bool.{Bool, true, false, false≢true, ◌||◌}
use native.Mathlib.Nat.{dvd_refl, le_of_dvd}
use native.Mathlib.Omega.{arith}
use borrow.Author.Tests.{leb-true, leb-false, le-leb, lt-leb}
use lib.Dec.{leb}
use Rattle.rules.proofs.Bools.{both_ways}
use Rattle.common.specs.declared.Mode.{Mode}
use Rattle.common.specs.declared.Mode.TheVariants.{House, Board as OnBoard}
use Rattle.cartridge.specs.declared.Cartridge.{Cartridge}
use Rattle.cartridge.specs.declared.MapperType.TheVariants.{Mmc3}
use Rattle.mmc3.specs.Clock as mmc3-clock
use Rattle.mmc3.specs.declared.Irq.{Irq}
use Rattle.mmc3.specs.declared.Mmc3 as mmc3-type
use Rattle.boards.specs.Clock.{yes_no, clock}
use Rattle.boards.specs.declared.Board.{Board}
use Rattle.laws.specs.Calls.{OneImage}
use Rattle.laws.specs.Clocks.{Plays, Ready, ticked, is_yes, says_yes, line_up, raises}
use Rattle.laws.specs.SettlesMmc3.{Arming, armed, Accepts}
use Rattle.laws.proofs.Arming.{tick_mmc3, tick_answer, armed_one, armed_irq}
use Rattle.laws.proofs.Clocks.{unit_after, unit_says, ready, house_clocks, board_unit_raises}
use Rattle.laws.proofs.OneImage.{clock_one}

pub itself : {mode : Mode} {b : Board} → Plays mode b → OneImage Mmc3 b b
itself p = record { cart = refl; mapper = p.is_mmc3; first = p.is_in_range; second = p.is_in_range }

pub plays_on : {mode : Mode} {b d : Board} → Plays mode d → OneImage Mmc3 b d → Plays mode b
plays_on p o = record { in_mode = ap (λ (t : Cartridge). t.mode) o.cart ∙ p.in_mode; is_mmc3 = o.mapper; is_in_range = o.first }

pub plays_ticked : {mode : Mode} {b : Board} → Plays mode b → (k : ℕ) → Plays mode (ticked k b)
plays_ticked p zero = p
plays_ticked p (suc k) = let q = plays_ticked p k in plays_on q (clock_one (itself q))

-- what a clock leaves and answers, in the mode of the board
module _ {mode : Mode} {b : Board} (p : Plays mode b) where
  pub tick_leaves : (clock b).left.registers.mmc3 ≡ (mmc3-clock.clocked mode b.registers.mmc3).left
  tick_leaves = tick_mmc3 b p.is_in_range p.is_mmc3 ∙ ap (λ (m : Mode). (mmc3-clock.clocked m b.registers.mmc3).left) p.in_mode

  tick_says : (clock b).answer ≡ yes_no (mmc3-clock.clocked mode b.registers.mmc3).answer
  tick_says = tick_answer b p.is_in_range p.is_mmc3 ∙ ap (λ (m : Mode). yes_no (mmc3-clock.clocked m b.registers.mmc3).answer) p.in_mode

-- after k clocks the board has the unit that k clocks leave
follows : {mode : Mode} {b : Board} → Plays mode b → (k : ℕ) → (ticked k b).registers.mmc3.irq ≡ unit_after mode k b.registers.mmc3.irq
unfolding mmc3-clock.clocked mmc3-clock.with_irq
follows p zero = refl
follows {mode} {b} p (suc k) =
    ap (λ (m : mmc3-type.Mmc3). m.irq) (tick_leaves (plays_ticked p k)) ∙ ap (λ (u : Irq). (mmc3-clock.clock_in mode u).left) (follows p k)

pub yes_no_lem : (t : Bool) → is_yes (yes_no t) ≡ t
unfolding yes_no
yes_no_lem t = grind arith

-- in house mode it answers as that unit does
house_says : {b : Board} → Plays House b → (k : ℕ) → says_yes k b ≡ unit_says House k b.registers.mmc3.irq
unfolding mmc3-clock.clocked mmc3-clock.clock_answer
house_says p zero = refl
house_says {b} p (suc k) =
    ap is_yes (tick_says (plays_ticked p k)) ∙ yes_no_lem _ ∙ ap (λ (u : Irq). (mmc3-clock.clock_in House u).answer) (follows p k)

-- in board mode a clock answers the level that it leaves, which is up where it was or the unit raises it
module _ {b : Board} (p : Plays OnBoard b) where
  pub level_said : (clock b).answer ≡ yes_no (line_up (clock b).left)
  unfolding mmc3-clock.clocked mmc3-clock.clock_answer
  level_said = tick_says p ∙ sym (ap (λ (m : mmc3-type.Mmc3). yes_no m.line) (tick_leaves p))

  pub level_after : line_up (clock b).left ≡ (line_up b || (mmc3-clock.board_clock b.registers.mmc3.irq).answer)
  unfolding mmc3-clock.clocked mmc3-clock.line_after mmc3-clock.clock_in
  level_after = ap (λ (m : mmc3-type.Mmc3). m.line) (tick_leaves p)

board_says : {b : Board} → Plays OnBoard b → (k : ℕ) → says_yes (suc k) b ≡ line_up (ticked (suc k) b)
board_says p k = ap is_yes (level_said (plays_ticked p k)) ∙ yes_no_lem _

unit_raises : {b : Board} → Plays OnBoard b → (k : ℕ) → raises k b ≡ unit_says OnBoard k b.registers.mmc3.irq
unfolding mmc3-clock.clock_in
unit_raises p zero = refl
unit_raises p (suc k) = ap (λ (u : Irq). (mmc3-clock.board_clock u).answer) (follows p k)

-- the unit of a board that is ready
module _ {mode : Mode} {b : Board} {n : ℕ} (r : Ready mode n b) where
  unit_ready : b.registers.mmc3.irq ≡ ready n b.registers.mmc3.irq.counter
  unit_ready = λ i. record { enabled = r.enabled i; latch = r.latch i; counter = b.registers.mmc3.irq.counter; reload = r.reload i }

-- house: "clock k (from one) answers yes exactly when k is 2 or more and n + 1 divides k - 1"
pub house_rule : (b : Board) (n k : ℕ) → Ready House n b → (says_yes k b ≡ true) ↔ ((2 ≤ k) × (n + 1 ∣ k - 1))
house_rule b n k r =
    let e = house_says r.plays k ∙ ap (unit_says House k) (unit_ready r) in
    let h = house_clocks n b.registers.mmc3.irq.counter k in
    (λ t. h.0 (sym e ∙ t), λ d. e ∙ h.1 d)

-- board, the rule of document 01, which is one about raising now: "clock k answers yes exactly when n + 1 divides k"
pub board_raises : (b : Board) (n k : ℕ) → Ready OnBoard n b → 1 ≤ k → (raises k b ≡ true) ↔ (n + 1 ∣ k)
board_raises b n k r l =
    let e = unit_raises r.plays k ∙ ap (unit_says OnBoard k) (unit_ready r) in
    let h = board_unit_raises n b.registers.mmc3.irq.counter k l in
    (λ t. h.0 (sym e ∙ t), λ d. e ∙ h.1 d)

-- where the first raise comes at clock n + 1, the line is up from there on
up_from : (n k : ℕ) (raised : Bool) → (raised ≡ true) ↔ (n + 1 ∣ suc k) → (leb (n + 1) k || raised) ≡ leb (n + 1) (suc k)
up_from n k raised h = go (leb (n + 1) k) refl
  where
    go : (t : Bool) → leb (n + 1) k ≡ t → (leb (n + 1) k || raised) ≡ leb (n + 1) (suc k)
    go true e = rw e (sym (le-leb (n + 1) (suc k) (omega (arith, leb-true (n + 1) k e))))
    go false e = rw e (both_ways raised (leb (n + 1) (suc k)) first last)
      where
        first : raised ≡ true → leb (n + 1) (suc k) ≡ true
        first t = le-leb (n + 1) (suc k) (le_of_dvd (omega arith) (h.0 t))

        last : leb (n + 1) (suc k) ≡ true → raised ≡ true
        last t = h.1 (subst (λ (x : ℕ). n + 1 ∣ x) (omega (arith, leb-true (n + 1) (suc k) t, leb-false (n + 1) k e)) (dvd_refl (n + 1)))

-- board, M-101, of the line itself: "it is up from clock n + 1 onward"
pub board_level : (b : Board) (n k : ℕ) → Ready OnBoard n b → line_up b ≡ false → line_up (ticked k b) ≡ leb (n + 1) k
board_level b n zero r low = low ∙ sym (lt-leb (n + 1) 0 (omega arith))
board_level b n (suc k) r low =
    level_after (plays_ticked r.plays k)
    ∙ ap (λ (t : Bool). t || raises (suc k) b) (board_level b n k r low)
    ∙ up_from n k (raises (suc k) b) (board_raises b n (suc k) r (omega arith))

-- and so is the answer: "With the line low at the start, latch n and no writes after reload and enable" yes from clock n + 1 onward
pub board_rule : (b : Board) (n k : ℕ) → Ready OnBoard n b → line_up b ≡ false → (says_yes k b ≡ true) ↔ (n + 1 ≤ k)
board_rule b n zero r low = (λ t. absurd (false≢true t), λ l. absurd (omega arith))
board_rule b n (suc k) r low =
    let e = board_says r.plays k ∙ board_level b n (suc k) r low in
    (λ t. leb-true (n + 1) (suc k) (sym e ∙ t), λ l. e ∙ le-leb (n + 1) (suc k) l)

-- "With latch n, reload and enable written": accepted writes to any of their addresses, each with its own buffers, make a board ready
pub written_ready : (mode : Mode) (b : Board) → Plays mode b → (w : Arming) → Accepts b w → Ready mode w.latch.byte (armed b w)
written_ready mode b p w a =
    let u = armed_irq (itself p) w a in
    record {
      plays = plays_on p (armed_one (itself p) w);
      latch = ap (λ (x : Irq). x.latch) u;
      reload = ap (λ (x : Irq). x.reload) u;
      enabled = ap (λ (x : Irq). x.enabled) u;
    }
