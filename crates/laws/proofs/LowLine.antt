-- What follows of the level of board mode's line after three writes: from a line that was low before them, and of a run that does them.
-- Assumes nothing.
use Prim.Native.Nat.{ℕ, ◌+◌, ◌≤◌}
use mathlib.Core.Path.{◌≡◌, refl}
use mathlib.Core.Logic.{◌↔◌}
use mathlib.Core.Bool.{true, false}
use mathlib.Core.List.{List}
use Rattle.common.specs.declared.Mode.TheVariants.{Board as OnBoard}
use Rattle.boards.specs.Runs.{Call, after}
use Rattle.boards.specs.declared.Board.{Board}
use Rattle.laws.specs.Clocks.{Plays, says_yes, line_up}
use Rattle.laws.specs.Deeds.{NoneAmong}
use Rattle.laws.specs.Deeds.Deed.{clocks}
use Rattle.laws.specs.ThreeWrites.{Written}
use Rattle.laws.proofs.Line.{only_a_clock_raises}
use Rattle.laws.proofs.Opened.{opened}
use Rattle.laws.proofs.ThreeWrites.{board_clocks_after_three_writes, fresh, calls, plays, met_writes}

-- the same from a line that was low before the writes, where no clock is among them
pub board_clocks_from_a_low_line : (b : Board) → Plays OnBoard b → (cs : List Call) (n : ℕ) → Written n b cs → NoneAmong b cs clocks → line_up b ≡ false → (k : ℕ)
    → (says_yes k (after b cs) ≡ true) ↔ (n + 1 ≤ k)
board_clocks_from_a_low_line b p cs n w none low k = board_clocks_after_three_writes b p cs n w (only_a_clock_raises OnBoard b p cs none low) k

-- so in board mode the line is up from clock 3 onward
met_low : line_up (after (fresh OnBoard) calls) ≡ false
unfolding opened
met_low = refl

pub met_on_board : (k : ℕ) → (says_yes k (after (fresh OnBoard) calls) ≡ true) ↔ (3 ≤ k)
met_on_board k = board_clocks_after_three_writes (fresh OnBoard) (plays OnBoard) calls 2 (met_writes OnBoard) met_low k
