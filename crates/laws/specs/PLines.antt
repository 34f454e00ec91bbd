-- The P lines of document 01 (P10's board row as M-101 has it), as rows of one table: what is asked, and what is wanted.
use Rattle.std.specs.Prelude.{ℕ, ◌-◌, List, [], ◌∷◌, ◌++◌, map, replicate}
use Rattle.common.specs.declared.Mode.{Mode}
use Rattle.common.specs.declared.Mode.TheVariants.{House, Board as OnBoard}
use Rattle.mmc1.specs.declared.Move.{Move}
use Rattle.mmc1.specs.declared.Move.TheVariants.{Nothing, Clear, Enter, Fill}
use Rattle.mmc1.specs.declared.Register.{Register}
use Rattle.mmc1.specs.declared.Register.TheVariants.{Control, Chr0, Chr1, Prg}
use Rattle.boards.specs.Numbers.{refused_by, read_number, write_number, clock_number, load_number}
use Rattle.boards.specs.Runs.{Lent, lent, Call, call, after, answers}
use Rattle.boards.specs.declared.Board as state
use Rattle.boards.specs.Start.{LoadAnswer}
use Rattle.common.specs.declared.Outcome.{Outcome}
use Rattle.boards.specs.declared.Event.{Event}
use Rattle.boards.specs.declared.Event.TheVariants.{Read, Write, Clock}
use Rattle.boards.specs.declared.Answer.{Answer}
use Rattle.boards.specs.declared.Answer.TheVariants.{Read as toRead, Write as toWrite, Clock as toClock}
use Rattle.laws.specs.Calls.{load_with}
use Rattle.laws.specs.Loads.{moves}

-- a header: PRG count, CHR count, bytes 6 and 7
abbrev pub header : ℕ → ℕ → ℕ → ℕ → List ℕ
header p c b6 b7 = 0x4E ∷ 0x45 ∷ 0x53 ∷ 0x1A ∷ p ∷ c ∷ b6 ∷ b7 ∷ 0 ∷ 0 ∷ 0 ∷ 0 ∷ 0 ∷ 0 ∷ 0 ∷ 0 ∷ []

-- an image of a length, zero after its header
abbrev pub image : ℕ → ℕ → ℕ → ℕ → List ℕ
image size p c b6 = header p c b6 0 ++ replicate (size - 16) 0

-- a lent RAM
abbrev pub ram : List ℕ
ram = replicate 8192 0

-- the load of an image, with both RAMs lent
abbrev pub load_of : Mode → List ℕ → Outcome state.Board LoadAnswer
load_of mode s = load_with mode s ram ram

-- the image and both RAMs, lent to a call
abbrev pub with_rams : List ℕ → Lent
with_rams s = lent s ram ram

-- events as calls, each lent the image and both RAMs
abbrev pub calls_of : List ℕ → List Event → List Call
calls_of s es = map (call (with_rams s)) es

-- what a row asks: a load, or of a loaded board its answers, the loads that it completes, or a register
pub data Question : Type 0 where
  when_loaded : Mode → List ℕ → Question
  when_played : Mode → List ℕ → List Event → Question
  loads_of : Mode → List ℕ → List Event → Question
  modes_after : Mode → List ℕ → List Event → Question
  prg_after : Mode → List ℕ → List Event → Question

-- the number of any call's answer
abbrev pub answer_number : Answer → ℕ
answer_number (toRead r) = read_number r
answer_number (toWrite r) = write_number r
answer_number (toClock r) = clock_number r

-- MMC1's registers in the order of their addresses
abbrev pub register_number : Register → ℕ
register_number Control = 0
register_number Chr0 = 1
register_number Chr1 = 2
register_number Prg = 3

-- the loads alone: for each its register, then its five bits
abbrev pub listed : List Move → List ℕ
listed [] = []
listed (Nothing ∷ ks) = listed ks
listed (Clear ∷ ks) = listed ks
listed (Enter s ∷ ks) = listed ks
listed (Fill w v ∷ ks) = register_number w ∷ v ∷ listed ks

-- the answer to a question
abbrev pub answer_to : Question → List ℕ
answer_to (when_loaded mode s) = load_number (load_of mode s).answer ∷ []
answer_to (when_played mode s es) = map answer_number (answers (load_of mode s).left (calls_of s es))
answer_to (loads_of mode s es) = listed (moves (load_of mode s).left (calls_of s es))
answer_to (modes_after mode s es) =
    let r = (after (load_of mode s).left (calls_of s es)).registers.mmc1.regs in
    r.prgmode ∷ r.chrmode ∷ []
answer_to (prg_after mode s es) = (after (load_of mode s).left (calls_of s es)).registers.mmc1.regs.prg ∷ []

-- a row: what is asked, and what is wanted
pub record Row : Type 0 where
  pub asked : Question
  pub wanted : List ℕ

-- a row by its two parts
abbrev pub row : Question → List ℕ → Row
row q w = record { asked = q; wanted = w }

-- NROM, one PRG block, CHR RAM
abbrev pub nrom : List ℕ
nrom = image 16400 1 0 0x00

-- UxROM, two PRG blocks, the first byte 7
abbrev pub uxrom : List ℕ
uxrom = header 2 0 0x20 0 ++ 7 ∷ replicate 32767 0

-- CNROM, one PRG block, the last byte 9
abbrev pub cnrom : List ℕ
cnrom = header 1 0 0x30 0 ++ replicate 16383 0 ++ 9 ∷ []

-- MMC1, header vertical
abbrev pub mmc1 : List ℕ
mmc1 = image 16400 1 0 0x11

-- MMC3, one PRG block, CHR RAM
abbrev pub mmc3 : List ℕ
mmc3 = image 16400 1 0 0x40

-- the five writes that P7 names
abbrev pub five_bits : List Event
five_bits = Write 0x8000 1 ∷ Write 0x8000 1 ∷ Write 0x8000 0 ∷ Write 0x8000 0 ∷ Write 0x8000 1 ∷ []

-- five ones, which load PRG 15
abbrev pub five_ones : List Event
five_ones = Write 0xE000 1 ∷ Write 0xE000 1 ∷ Write 0xE000 1 ∷ Write 0xE000 1 ∷ Write 0xE000 1 ∷ []

-- the writes that P8 names: four bits, byte 80, five zeros
abbrev pub four_and_five : List Event
four_and_five =
    Write 0xE000 1 ∷ Write 0xE000 1 ∷ Write 0xE000 1 ∷ Write 0xE000 1 ∷ Write 0xE000 0x80
    ∷ Write 0xE000 0 ∷ Write 0xE000 0 ∷ Write 0xE000 0 ∷ Write 0xE000 0 ∷ Write 0xE000 0 ∷ []

-- latch n, reload and enable written, then clocks
abbrev pub armed : ℕ → List Event → List Event
armed n es = Write 0xC000 n ∷ Write 0xC001 0 ∷ Write 0xE001 0 ∷ es

-- clocks 1-3
abbrev pub three : List Event
three = Clock ∷ Clock ∷ Clock ∷ []

-- clocks 1-7
abbrev pub seven : List Event
seven = Clock ∷ Clock ∷ Clock ∷ Clock ∷ Clock ∷ Clock ∷ Clock ∷ []

-- the table
abbrev pub rows : List Row
rows =
    -- P1: 16,399 bytes, good magic: 3
    row (when_loaded House (image 16399 1 0 0x00)) (refused_by 3 ∷ [])
    -- P2: 16,400 bytes, PRG 1, CHR 0, NROM: accepted
    ∷ row (when_loaded House nrom) (0 ∷ [])
    -- P3: P2 with byte 6 = 54: 4, not 5
    ∷ row (when_loaded House (image 16400 1 0 0x54)) (refused_by 4 ∷ [])
    -- P4: with 08: 5
    ∷ row (when_loaded House (image 16400 1 0 0x08)) (refused_by 5 ∷ [])
    -- P5: P2 with PRG 3: 6, not 7
    ∷ row (when_loaded House (image 16400 3 0 0x00)) (refused_by 6 ∷ [])
    -- P6: UxROM, PRG 2, CHR 0, 32,783 bytes: 7; 32,784: accepted
    ∷ row (when_loaded House (image 32783 2 0 0x20)) (refused_by 7 ∷ [])
    ∷ row (when_loaded House (image 32784 2 0 0x20)) (0 ∷ [])
    -- P7: MMC1 serial bits 1, 1, 0, 0, 1 at 8000, header vertical: control 19, notice horizontal
    ∷ row (loads_of House mmc1 five_bits) (0 ∷ 19 ∷ [])
    ∷ row (when_played House mmc1 five_bits) (0 ∷ 0 ∷ 0 ∷ 0 ∷ 0x48 ∷ [])
    ∷ row (modes_after House mmc1 five_bits) (0 ∷ 1 ∷ [])
    -- P8: MMC1, four bits, byte 80, five zeros, all at E000: one load, PRG 0
    ∷ row (loads_of House mmc1 four_and_five) (3 ∷ 0 ∷ [])
    ∷ row (prg_after House mmc1 five_ones) (15 ∷ [])
    ∷ row (prg_after House mmc1 (five_ones ++ four_and_five)) (0 ∷ [])
    -- P9: MMC3 latch 0, clocks 1-3: no yes yes; board: yes yes yes
    ∷ row (when_played House mmc3 (armed 0 three)) (0 ∷ 0 ∷ 0 ∷ 0 ∷ 1 ∷ 1 ∷ [])
    ∷ row (when_played OnBoard mmc3 (armed 0 three)) (0 ∷ 0 ∷ 0 ∷ 1 ∷ 1 ∷ 1 ∷ [])
    -- P10: latch 2, clocks 1-7: yes at 4 and 7; board, M-101: "up from 3 to 7"
    ∷ row (when_played House mmc3 (armed 2 seven)) (0 ∷ 0 ∷ 0 ∷ 0 ∷ 0 ∷ 0 ∷ 1 ∷ 0 ∷ 0 ∷ 1 ∷ [])
    ∷ row (when_played OnBoard mmc3 (armed 2 seven)) (0 ∷ 0 ∷ 0 ∷ 0 ∷ 0 ∷ 1 ∷ 1 ∷ 1 ∷ 1 ∷ 1 ∷ [])
    -- P11: UxROM, PRG 2, bank 2, read 8000: 11; board: PRG byte 0
    ∷ row (when_played House uxrom (Write 0x8000 2 ∷ Read 0x8000 ∷ [])) (0 ∷ refused_by 11 ∷ [])
    ∷ row (when_played OnBoard uxrom (Write 0x8000 2 ∷ Read 0x8000 ∷ [])) (0 ∷ 7 ∷ [])
    -- P12: CNROM, PRG 1, read BFFF: 13; board: PRG byte 16,383
    ∷ row (when_played House cnrom (Read 0xBFFF ∷ [])) (refused_by 13 ∷ [])
    ∷ row (when_played OnBoard cnrom (Read 0xBFFF ∷ [])) (9 ∷ [])
    ∷ []
