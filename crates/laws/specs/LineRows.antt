-- M-101's own table, worked out by hand: what a clock of the real board answers while its line is up, what lowers it and what leaves it, and where it may be up.
use Rattle.std.specs.Prelude.{ℕ, true, List, [], ◌∷◌, map}
use Rattle.common.specs.declared.Mode.{Mode}
use Rattle.common.specs.declared.Mode.TheVariants.{House, Board as OnBoard}
use Rattle.mmc3.specs.Clock.{with_line}
use Rattle.boards.specs.Registers.{with_mmc3}
use Rattle.boards.specs.Numbers.{refused_by}
use Rattle.boards.specs.Write.{with_registers}
use Rattle.boards.specs.declared.Board.{Board}
use Rattle.boards.specs.declared.Event.{Event}
use Rattle.boards.specs.declared.Event.TheVariants.{Read, Write, Clock}
use Rattle.laws.specs.PLines as paper
use Rattle.laws.specs.PLines.{armed, load_of, with_rams}
use Rattle.laws.specs.PLines.Question.{when_played}
use Rattle.laws.specs.FurtherRows.{Question, Seen, Row, row}
use Rattle.laws.specs.FurtherRows.Question.{as_plines, calls_on}
use Rattle.laws.specs.FurtherRows.Seen.{number}

-- MMC3 played from its load on
abbrev pub plays : Mode → List Event → Question
plays mode es = as_plines (when_played mode paper.mmc3 es)

-- nothing to the three writes, then these numbers
abbrev pub after_arming : List ℕ → List Seen
after_arming ns = map number (0 ∷ 0 ∷ 0 ∷ ns)

-- a board with its line up
abbrev pub up : Board → Board
up b = with_registers b (with_mmc3 b.registers (with_line b.registers.mmc3 true))

-- a call of the board that an image's load leaves, with the line put up
abbrev pub while_up : Mode → List ℕ → Event → Question
while_up mode s e = calls_on (up (load_of mode s).left) (with_rams s) e

-- the table
abbrev pub rows : List Row
rows =
    -- "the line, once raised, stays raised": at the clock after it, where the counter is reloaded to 1, and at the one where it comes to 0 again
    row (plays OnBoard (armed 1 (Clock ∷ Clock ∷ Clock ∷ Clock ∷ Clock ∷ []))) (after_arming (0 ∷ 1 ∷ 1 ∷ 1 ∷ 1 ∷ []))
    -- house: the answer is the unit's, as it was
    ∷ row (plays House (armed 1 (Clock ∷ Clock ∷ Clock ∷ Clock ∷ Clock ∷ []))) (after_arming (0 ∷ 0 ∷ 1 ∷ 0 ∷ 1 ∷ []))
    -- "an odd write doesn't lower it": at the clock after each the counter is reloaded to 1, and nothing raises
    ∷ row (plays OnBoard (armed 1 (Clock ∷ Clock ∷ Write 0xE001 0 ∷ Clock ∷ Clock ∷ Write 0xFFFF 0 ∷ Clock ∷ []))) (after_arming (0 ∷ 1 ∷ 0 ∷ 1 ∷ 1 ∷ 0 ∷ 1 ∷ []))
    -- nor does a write to another register, to PRG RAM or to CHR RAM, nor a read
    ∷ row (plays OnBoard (armed 1 (Clock ∷ Clock ∷ Write 0x8000 0 ∷ Write 0x8001 0 ∷ Write 0xA001 0 ∷ Write 0xDFFE 9 ∷ Write 0xDFFF 0 ∷ Write 0x6000 3 ∷ Write 0x0000 4 ∷ Read 0x8000 ∷ Clock ∷ [])))
    (after_arming (0 ∷ 1 ∷ 0 ∷ 0 ∷ 0 ∷ 0 ∷ 0 ∷ 0 ∷ 0 ∷ 0 ∷ 1 ∷ []))
    -- "until an even write to E000-FFFF, which lowers it and disables": the counter comes to 0 and nothing is raised, until an odd write enables
    ∷ row (plays OnBoard (armed 1 (Clock ∷ Clock ∷ Write 0xE000 0 ∷ Clock ∷ Clock ∷ Write 0xE001 0 ∷ Clock ∷ Clock ∷ []))) (after_arming (0 ∷ 1 ∷ 0 ∷ 0 ∷ 0 ∷ 0 ∷ 0 ∷ 1 ∷ []))
    -- at any even address there, with any byte; straight after it an odd one: the unit runs on, and raises at its next 0
    ∷ row (plays OnBoard (armed 1 (Clock ∷ Clock ∷ Write 0xFFFE 0xFF ∷ Write 0xE001 0 ∷ Clock ∷ Clock ∷ Clock ∷ []))) (after_arming (0 ∷ 1 ∷ 0 ∷ 0 ∷ 0 ∷ 1 ∷ 1 ∷ []))
    -- an even write below E000 leaves it
    ∷ row (plays OnBoard (armed 1 (Clock ∷ Clock ∷ Write 0xC000 5 ∷ Clock ∷ []))) (after_arming (0 ∷ 1 ∷ 0 ∷ 1 ∷ []))
    -- "by 10 it may be up on MMC3 here, enabled or not": after a load the IRQ is not enabled
    ∷ row (while_up OnBoard paper.mmc3 Clock) (number 1 ∷ [])
    ∷ row (while_up OnBoard paper.mmc3 (Write 0xE000 0)) (number 0 ∷ [])
    -- "always low in house mode and on other boards": 10 by a clock, a read and a write of MMC3 in house mode, and by a clock of each other board
    ∷ row (while_up House paper.mmc3 Clock) (number (refused_by 10) ∷ [])
    ∷ row (while_up House paper.mmc3 (Read 0x8000)) (number (refused_by 10) ∷ [])
    ∷ row (while_up House paper.mmc3 (Write 0xE000 0)) (number (refused_by 10) ∷ [])
    ∷ row (while_up OnBoard paper.nrom Clock) (number (refused_by 10) ∷ [])
    ∷ row (while_up OnBoard paper.mmc1 Clock) (number (refused_by 10) ∷ [])
    ∷ row (while_up OnBoard paper.uxrom Clock) (number (refused_by 10) ∷ [])
    ∷ row (while_up OnBoard paper.cnrom Clock) (number (refused_by 10) ∷ [])
    ∷ row (while_up House paper.nrom Clock) (number (refused_by 10) ∷ [])
    ∷ row (while_up House paper.mmc1 Clock) (number (refused_by 10) ∷ [])
    ∷ row (while_up House paper.uxrom Clock) (number (refused_by 10) ∷ [])
    ∷ row (while_up House paper.cnrom Clock) (number (refused_by 10) ∷ [])
    ∷ []
