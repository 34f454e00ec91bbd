-- M-111's own table, worked out by hand: what each setting of the marks shows and takes at 6000-7FFF, which writes set them, where another setting than the start's
-- may stand; and runs in which each call is lent the RAM that the one before left.
use Rattle.std.specs.Prelude.{ℕ, Bool, true, false, List, [], ◌∷◌, ◌++◌, map, None, Ok}
use Rattle.common.specs.declared.Mode.{Mode}
use Rattle.common.specs.declared.Mode.TheVariants.{House, Board as OnBoard}
use Rattle.cartridge.specs.declared.Cartridge.{Cartridge}
use Rattle.cartridge.specs.declared.MapperType.TheVariants.{Mmc1, Mmc3}
use Rattle.mmc3.specs.Write.{with_ram}
use Rattle.boards.specs.Registers.{with_mmc3}
use Rattle.boards.specs.Numbers.{refused_by}
use Rattle.boards.specs.Write.{with_registers}
use Rattle.boards.specs.Runs.{moment, played}
use Rattle.boards.specs.declared.Board.{Board}
use Rattle.boards.specs.declared.Event.{Event}
use Rattle.boards.specs.declared.Event.TheVariants.{Read, Write, Clock}
use Rattle.laws.specs.PLines as paper
use Rattle.laws.specs.PLines.{load_of, with_rams, answer_number}
use Rattle.laws.specs.FurtherRows.{Poke, poke, Question, Seen, Row, row, cart, house_cart, prg8, chr_ram, prg_ram, none}
use Rattle.laws.specs.FurtherRows.Question.{calls_on, shows, stores, says}
use Rattle.laws.specs.FurtherRows.Seen.{number, answered}
use Rattle.laws.specs.Nes2Rows.{ramless}

-- the byte before PRG RAM, its first, its last, and the byte after it
abbrev pub edges : List ℕ
edges = 0x5FFF ∷ 0x6000 ∷ 0x7FFF ∷ 0x8000 ∷ []

-- what a read finds there where RAM is enabled
abbrev pub open_read : List Seen
open_read = none ∷ prg_ram 0 ∷ prg_ram 8191 ∷ prg8 0 ∷ []

-- and where it is disabled: 0, and the PRG bank after it
abbrev pub shut_read : List Seen
shut_read = none ∷ none ∷ none ∷ prg8 0 ∷ []

-- what a write finds there where RAM takes it
abbrev pub open_written : List Seen
open_written = none ∷ prg_ram 0 ∷ prg_ram 8191 ∷ none ∷ []

-- and where it does not
abbrev pub shut_written : List Seen
shut_written = none ∷ none ∷ none ∷ none ∷ []

-- MMC3 in board mode, with CHR RAM
abbrev pub mmc3 : Cartridge
mmc3 = cart Mmc3 1 0

-- a write of this byte to A001
abbrev pub set : ℕ → List Poke
set v = poke 0xA001 v ∷ []

-- a board with these marks
abbrev pub with_marks : Bool → Bool → Board → Board
with_marks enabled denied b = with_registers b (with_mmc3 b.registers (with_ram b.registers.mmc3 (record { enabled = enabled; denied = denied })))

-- a clock of the board that an image's load leaves, with the marks put so
abbrev pub while_marked : Mode → List ℕ → Bool → Bool → Question
while_marked mode s enabled denied = calls_on (with_marks enabled denied (load_of mode s).left) (with_rams s) Clock

-- a setting that no board but MMC3's in board mode may have: a row for each mode and each other board, and for MMC3 in house mode
abbrev pub nowhere_else : Bool → Bool → List Row
nowhere_else enabled denied =
    map (λ (q : Question). row q (number (refused_by 10) ∷ []))
    (while_marked House paper.mmc3 enabled denied
    ∷ while_marked House paper.nrom enabled denied ∷ while_marked House paper.mmc1 enabled denied ∷ while_marked House paper.uxrom enabled denied ∷ while_marked House paper.cnrom enabled denied
    ∷ while_marked OnBoard paper.nrom enabled denied ∷ while_marked OnBoard paper.mmc1 enabled denied ∷ while_marked OnBoard paper.uxrom enabled denied ∷ while_marked OnBoard paper.cnrom enabled denied
    ∷ [])

-- the table
abbrev pub rows : List Row
rows =
    -- "We start it enabled and writable"
    row (shows mmc3 [] edges) open_read
    ∷ row (stores mmc3 [] edges) open_written
    -- "bit 7, RAM enabled": without it "Disabled RAM reads 0" and "ignores writes", whatever bit 6 says
    ∷ row (shows mmc3 (set 0x00) edges) shut_read
    ∷ row (stores mmc3 (set 0x00) edges) shut_written
    ∷ row (shows mmc3 (set 0x40) edges) shut_read
    ∷ row (stores mmc3 (set 0x40) edges) shut_written
    -- "and bit 6, writes denied": enabled and "denied RAM ignores writes", and is read
    ∷ row (shows mmc3 (set 0xC0) edges) open_read
    ∷ row (stores mmc3 (set 0xC0) edges) shut_written
    ∷ row (shows mmc3 (set 0x80) edges) open_read
    ∷ row (stores mmc3 (set 0x80) edges) open_written
    -- no other bit counts
    ∷ row (shows mmc3 (set 0x7F) edges) shut_read
    ∷ row (stores mmc3 (set 0xBF) edges) open_written
    ∷ row (shows mmc3 (set 0xFF) edges) open_read
    ∷ row (stores mmc3 (set 0xFF) edges) shut_written
    -- each such write sets both anew
    ∷ row (stores mmc3 (set 0xC0 ++ set 0x80) edges) open_written
    ∷ row (shows mmc3 (set 0x40 ++ set 0xC0) edges) open_read
    ∷ row (stores mmc3 (set 0x00 ++ set 0x80) edges) open_written
    -- "an odd write to A000-BFFF": the last one; an even one, and those beside them, leave the marks
    ∷ row (shows mmc3 (poke 0xBFFF 0x00 ∷ []) edges) shut_read
    ∷ row (shows mmc3 (poke 0xA000 0x00 ∷ poke 0xBFFE 0x00 ∷ poke 0x9FFF 0x00 ∷ poke 0xC001 0x00 ∷ poke 0xE001 0x00 ∷ poke 0xFFFF 0x00 ∷ []) edges) open_read
    ∷ row (stores mmc3 (poke 0xA000 0x40 ∷ poke 0xBFFE 0x40 ∷ poke 0x9FFF 0x40 ∷ poke 0xC001 0x40 ∷ poke 0xE001 0x40 ∷ poke 0xFFFF 0x40 ∷ []) edges) open_written
    -- it answers nothing, and a write that is ignored is quiet
    ∷ row (says mmc3 (poke 0xA001 0x40 ∷ poke 0x6000 5 ∷ poke 0xBFFF 0xC0 ∷ poke 0x7FFF 5 ∷ [])) (answered (Ok None) ∷ answered (Ok None) ∷ answered (Ok None) ∷ answered (Ok None) ∷ [])
    -- CHR RAM is not concerned
    ∷ row (shows mmc3 (set 0x40) (0x0000 ∷ 0x1FFF ∷ [])) (chr_ram 0 ∷ chr_ram 1023 ∷ [])
    ∷ row (stores mmc3 (set 0x40) (0x0000 ∷ 0x1FFF ∷ [])) (chr_ram 0 ∷ chr_ram 1023 ∷ [])
    -- "Where M-100 says that no PRG RAM exists, these marks change nothing"
    ∷ row (shows (ramless Mmc3 1 1) (set 0x80) edges) shut_read
    ∷ row (stores (ramless Mmc3 1 1) (set 0x80) edges) shut_written
    ∷ row (shows (ramless Mmc3 1 1) (set 0xC0) edges) shut_read
    ∷ row (shows (ramless Mmc3 1 1) (set 0x00) edges) shut_read
    ∷ row (stores (ramless Mmc3 1 1) (set 0x40) edges) shut_written
    -- in house mode the write does nothing, and on MMC1 it is MMC1's own
    ∷ row (shows (house_cart Mmc3 1 0) (set 0x00) edges) open_read
    ∷ row (stores (house_cart Mmc3 1 0) (set 0x40) edges) open_written
    ∷ row (shows (cart Mmc1 1 0) (set 0x00) (0x6000 ∷ 0x7FFF ∷ [])) (prg_ram 0 ∷ prg_ram 8191 ∷ [])
    ∷ row (stores (cart Mmc1 1 0) (set 0x40) (0x6000 ∷ 0x7FFF ∷ [])) (prg_ram 0 ∷ prg_ram 8191 ∷ [])
    -- on MMC3 in board mode every setting may stand, "and any other setting is out of range" elsewhere
    ∷ row (while_marked OnBoard paper.mmc3 false false) (number 0 ∷ [])
    ∷ row (while_marked OnBoard paper.mmc3 false true) (number 0 ∷ [])
    ∷ row (while_marked OnBoard paper.mmc3 true true) (number 0 ∷ [])
    ∷ (nowhere_else false false ++ nowhere_else false true ++ nowhere_else true true)

-- what each event of a run answers, from a load on, where each is lent what the one before left
abbrev pub played_from : Mode → List ℕ → List Event → List ℕ
played_from mode s es = map answer_number (played (moment (load_of mode s).left (with_rams s)) es)

-- a byte before a lock, what is read and written while RAM is disabled, while it is denied, and what is there afterwards
abbrev pub lock_and_unlock : List Event
lock_and_unlock =
    Write 0x6000 5
    ∷ Write 0xA001 0x00 ∷ Read 0x6000 ∷ Write 0x6000 7 ∷ Read 0x6000
    ∷ Write 0xA001 0xC0 ∷ Read 0x6000 ∷ Write 0x6000 9 ∷ Read 0x6000
    ∷ Write 0xA001 0x80 ∷ Read 0x6000 ∷ Write 0x6000 11 ∷ Read 0x6000
    ∷ []

-- disabled, 0 is read and 7 is lost; denied, 5 is read and 9 is lost; open, 5 is still there and 11 is stored
abbrev pub when_protected : List ℕ
when_protected = 0 ∷ 0 ∷ 0 ∷ 0 ∷ 0 ∷ 0 ∷ 5 ∷ 0 ∷ 5 ∷ 0 ∷ 5 ∷ 0 ∷ 11 ∷ []

-- house mode stores each byte
abbrev pub when_not : List ℕ
when_not = 0 ∷ 0 ∷ 5 ∷ 0 ∷ 7 ∷ 0 ∷ 7 ∷ 0 ∷ 9 ∷ 0 ∷ 9 ∷ 0 ∷ 11 ∷ []
