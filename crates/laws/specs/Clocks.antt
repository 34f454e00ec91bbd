-- Runs of clocks on an MMC3 board, and the level of its line.
use Rattle.std.specs.Prelude.{ℕ, zero, suc, ◌≡◌, Bool, true, false, Ok, Err}
use Rattle.common.specs.declared.Mode.{Mode}
use Rattle.cartridge.specs.declared.MapperType.TheVariants.{Mmc3}
use Rattle.mmc3.specs.Clock.{board_clock}
use Rattle.boards.specs.Range.{in_range}
use Rattle.boards.specs.Clock.{clock}
use Rattle.boards.specs.declared.Board.{Board}
use Rattle.boards.specs.Clock.{ClockAnswer}

-- an MMC3 board in range, in this mode
pub record Plays (mode : Mode) (b : Board) : Type 0 where
  pub in_mode : b.cart.mode ≡ mode
  pub is_mmc3 : b.cart.mapper ≡ Mmc3
  pub is_in_range : in_range b ≡ true

-- "With latch n, reload and enable written": such a board after them
pub record Ready (mode : Mode) (n : ℕ) (b : Board) : Type 0 where
  pub plays : Plays mode b
  pub latch : b.registers.mmc3.irq.latch ≡ n
  pub reload : b.registers.mmc3.irq.reload ≡ true
  pub enabled : b.registers.mmc3.irq.enabled ≡ true

-- the board after k clocks, "and nothing after"
abbrev pub ticked : ℕ → Board → Board
ticked zero b = b
ticked (suc k) b = (clock (ticked k b)).left

-- an answer that is yes
abbrev pub is_yes : ClockAnswer → Bool
is_yes (Ok true) = true
is_yes (Ok false) = false
is_yes (Err why) = false

-- whether "clock k (from one) answers yes"
abbrev pub says_yes : ℕ → Board → Bool
says_yes zero b = false
says_yes (suc k) b = is_yes (clock (ticked k b)).answer

-- "the level of the line": whether it is up
abbrev pub line_up : Board → Bool
line_up b = b.registers.mmc3.line

-- whether the unit of the real board raises the line at clock k, be it up already or not
abbrev pub raises : ℕ → Board → Bool
raises zero b = false
raises (suc k) b = (board_clock (ticked k b).registers.mmc3.irq).answer
