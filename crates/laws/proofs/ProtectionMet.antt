-- Boards and runs that meet the laws of the marks: a locked board that one write opens, a title that never makes that write, a house title that does; and that in board mode
-- the condition is needed. Assumes nothing.
use Rattle.std.specs.Prelude.{Ok}
use mathlib.Core.Path.{◌≡◌, refl}
use mathlib.Core.Bool.{true, false}
use mathlib.Core.List.{List, [], ◌∷◌}
use lib.ListN.{replicate}
use Rattle.common.specs.declared.Mode.TheVariants.{House, Board as OnBoard}
use Rattle.boards.specs.Runs.{Lent, lent, answer, Call, after}
use Rattle.boards.specs.declared.Board.{Board}
use Rattle.boards.specs.declared.Event.{Event}
use Rattle.boards.specs.declared.Event.TheVariants.{Read, Write, Clock}
use Rattle.boards.specs.declared.Answer.TheVariants.{Read as toRead}
use Rattle.laws.specs.Calls.{reached, LentWrite, wrote}
use Rattle.laws.specs.Clocks.{Plays}
use Rattle.laws.specs.PLines.{mmc3 as mmc3_image, ram, load_of, calls_of}
use Rattle.laws.specs.Protection.{marks, answer_before, RunAsBefore}
use Rattle.laws.proofs.Opened.{opened}
use Rattle.laws.proofs.Protection.{that_write_sets_both, every_house_run_is_as_before, a_title_that_never_writes_there}
use Rattle.laws.proofs.SettlesMmc3Met.{risen, others}

-- a game whose RAM is locked
abbrev locked : Board
locked = reached (risen OnBoard)

plays : Plays OnBoard locked
unfolding opened
plays = record { in_mode = refl; is_mmc3 = refl; is_in_range = refl }

-- bit 7 set and bit 6 clear
abbrev opening : LentWrite
opening = record { lent = others; address = 0xBFFF; byte = 0xBF }

pub met_opens : marks (wrote locked opening) ≡ record { enabled = true; denied = false }
unfolding opened
met_opens = λ i. (that_write_sets_both locked plays opening refl refl i).registers.mmc3.ram

-- a title that writes to every register but there
abbrev elsewhere : List Event
elsewhere =
    Write 0x6000 5 ∷ Read 0x6000 ∷ Write 0x8000 0xC6 ∷ Write 0x9FFF 3 ∷ Write 0xA000 0 ∷ Write 0xBFFE 1 ∷ Write 0xC000 9 ∷ Write 0xC001 0 ∷ Write 0xE001 0 ∷ Clock ∷ Write 0xFFFE 0
    ∷ []

pub met_title : RunAsBefore (load_of OnBoard mmc3_image).left (calls_of mmc3_image elsewhere)
unfolding opened
met_title = a_title_that_never_writes_there OnBoard mmc3_image ram ram (calls_of mmc3_image elsewhere) refl

-- and one that locks its RAM, where house mode takes no notice
abbrev there : List Call
there = calls_of mmc3_image (Write 0xA001 0 ∷ Read 0x6000 ∷ Write 0x6000 5 ∷ [])

pub met_house : RunAsBefore (load_of House mmc3_image).left there
unfolding opened
met_house = every_house_run_is_as_before (load_of House mmc3_image).left refl refl there

-- in board mode that one is not as before: lent a PRG RAM of fives, a read found 5 and finds 0
abbrev fives : Lent
fives = lent mmc3_image (replicate 8192 5) ram

pub needed-on-board :
    let b = after (load_of OnBoard mmc3_image).left (calls_of mmc3_image (Write 0xA001 0 ∷ [])) in
    (answer b fives (Read 0x6000) ≡ toRead (Ok 0)) × (answer_before b fives (Read 0x6000) ≡ toRead (Ok 5))
unfolding opened
needed-on-board = (refl, refl)
