-- P lines of our own for M-100, worked out by hand from document 02 and held under one claim; and the images that are too long for a table.
use Rattle.std.specs.Prelude.{ℕ, ◌-◌, Bool, true, false, List, [], ◌∷◌, ◌++◌, map, replicate}
use Rattle.common.specs.declared.Mode.{Mode}
use Rattle.common.specs.declared.Mode.TheVariants.{House, Board as OnBoard}
use Rattle.common.specs.declared.Mirroring.TheVariants.{Horizontal}
use Rattle.cartridge.specs.Load.{needed}
use Rattle.cartridge.specs.declared.Cartridge.{Cartridge}
use Rattle.cartridge.specs.declared.MapperType.{MapperType}
use Rattle.cartridge.specs.declared.MapperType.TheVariants.{Nrom, Mmc1, Uxrom, Cnrom, Mmc3}
use Rattle.boards.specs.Start.{start_of, load, load_answer}
use Rattle.boards.specs.Numbers.{refused_by, load_number}
use Rattle.boards.specs.Runs.{lent}
use Rattle.boards.specs.declared.Event.TheVariants.{Read, Clock}
use Rattle.laws.specs.PLines.{with_rams, load_of, ram}
use Rattle.laws.specs.PLines.Question.{when_loaded}
use Rattle.laws.specs.FurtherRows.{Question, Row, row, Seen, poke, filled, halves, quarters, prg16, prg8, chr8, chr1_k, prg_ram, none}
use Rattle.laws.specs.FurtherRows.Question.{as_plines, loads_with, calls_on, shows, stores}
use Rattle.laws.specs.FurtherRows.Seen.{number}

-- the bytes that M-100 reads: 4 and 5, 6 and 7, and 8 to 11
pub record Bytes : Type 0 where
  pub prg : ℕ
  pub chr : ℕ
  pub six : ℕ
  pub seven : ℕ
  pub eight : ℕ
  pub nine : ℕ
  pub ten : ℕ
  pub eleven : ℕ

-- a marked header with these bytes 4, 5 and 6, and 8 to 11
abbrev pub marked : ℕ → ℕ → ℕ → ℕ → ℕ → ℕ → ℕ → Bytes
marked p c b6 b8 b9 b10 b11 = record { prg = p; chr = c; six = b6; seven = 0x08; eight = b8; nine = b9; ten = b10; eleven = b11 }

-- the same header without the mark
abbrev pub unmarked : ℕ → ℕ → ℕ → ℕ → ℕ → ℕ → ℕ → Bytes
unmarked p c b6 b8 b9 b10 b11 = record { prg = p; chr = c; six = b6; seven = 0x04; eight = b8; nine = b9; ten = b10; eleven = b11 }

-- MMC1 with these bytes 7 and 8, nothing else amiss
abbrev pub with_seven : ℕ → ℕ → Bytes
with_seven b7 b8 = record { prg = 1; chr = 0; six = 0x10; seven = b7; eight = b8; nine = 0x00; ten = 0x07; eleven = 0x07 }

-- an image of so many bytes, zero after its header
abbrev pub image_of : ℕ → Bytes → List ℕ
image_of size b =
    (0x4E ∷ 0x45 ∷ 0x53 ∷ 0x1A ∷ b.prg ∷ b.chr ∷ b.six ∷ b.seven ∷ b.eight ∷ b.nine ∷ b.ten ∷ b.eleven ∷ 0 ∷ 0 ∷ 0 ∷ 0 ∷ [])
    ++ replicate (size - 16) 0

-- a load of an image of one PRG block
abbrev pub loads : Mode → Bytes → Question
loads mode b = as_plines (when_loaded mode (image_of 16400 b))

-- a read of 6000 from the board that its load gives, lent a PRG RAM full of fives
abbrev pub reads_ram : Mode → Bytes → Question
reads_ram mode b =
    let s = image_of 16400 b in
    calls_on (load_of mode s).left (lent s (replicate 8192 5) ram) (Read 0x6000)

-- a row for each of some bytes: a load in board mode of the header that has the byte
abbrev pub each : (ℕ → Bytes) → List ℕ → List Seen → List Row
each header bytes wanted = map (λ (v : ℕ). row (loads OnBoard (header v)) wanted) bytes

-- MMC1 with this byte 8, nothing else amiss
abbrev pub with_eight : ℕ → Bytes
with_eight v = marked 1 0 0x10 v 0x00 0x07 0x07

-- with this byte 10
abbrev pub with_ten : ℕ → Bytes
with_ten v = marked 1 0 0x10 0x00 0x00 v 0x07

-- with this byte 11
abbrev pub with_eleven : ℕ → Bytes
with_eleven v = marked 1 0 0x10 0x00 0x00 0x07 v

-- a cartridge with this mark and this note of PRG RAM
abbrev pub cart_of : Mode → Bool → Bool → MapperType → ℕ → ℕ → Cartridge
cart_of mode mark ram k prg chr =
    record { mode = mode; mapper = k; nes2 = mark; mirroring = Horizontal; prgram = ram; prg = prg; chr = chr; length = needed prg chr }

-- a board-mode cartridge of a marked image without PRG RAM
abbrev pub ramless : MapperType → ℕ → ℕ → Cartridge
ramless k prg chr = cart_of OnBoard true false k prg chr

-- a clock of a board at its start
abbrev pub clocks : Cartridge → Question
clocks c = calls_on (start_of c) (with_rams []) Clock

-- MMC1, one PRG block, CHR RAM, no PRG RAM
abbrev pub ramless_mmc1 : List ℕ
ramless_mmc1 = image_of 16400 (marked 1 0 0x10 0x00 0x00 0x00 0x07)

-- a refusal that is wanted
abbrev pub refusal : ℕ → List Seen
refusal n = number (refused_by n) ∷ []

-- what is wanted of a load that is taken, and of a clock that answers no
abbrev pub taken : List Seen
taken = number 0 ∷ []

-- the table
abbrev pub rows : List Row
rows =
    -- "the low nibble of byte 8 extends the mapper number": 256 + 1 is 4, not 16, whatever the submapper
    each with_eight (0x01 ∷ 0x08 ∷ 0x1F ∷ []) (refusal 4)
    -- "its high nibble is the submapper and is to be 0"
    ++ each with_eight (0x10 ∷ 0x80 ∷ 0xF0 ∷ []) (refusal 16)
    -- "in each byte the two nibbles are both 0, or one is 0 and the other 7": of byte 10, and of byte 11
    ++ each with_ten (0x06 ∷ 0x08 ∷ 0x17 ∷ 0x60 ∷ 0x71 ∷ 0x77 ∷ 0x80 ∷ []) (refusal 16)
    ++ each with_ten (0x00 ∷ 0x07 ∷ 0x70 ∷ []) taken
    ++ each with_eleven (0x06 ∷ 0x08 ∷ 0x17 ∷ 0x60 ∷ 0x71 ∷ 0x77 ∷ 0x80 ∷ []) (refusal 16)
    ++ each with_eleven (0x07 ∷ 0x70 ∷ []) taken
    -- byte 7's own nibble counts as before; its low bits are not asked for
    ++ row (loads OnBoard (with_seven 0x18 0x00)) (refusal 4)
    ∷ row (loads OnBoard (with_seven 0x0B 0x10)) (refusal 16)
    ∷ row (loads OnBoard (with_seven 0x0B 0x00)) taken
    -- the submapper: 16, not 6, and after 5
    ∷ row (loads OnBoard (marked 0 0 0x10 0x10 0x00 0x07 0x07)) (refusal 16)
    ∷ row (loads OnBoard (marked 1 0 0x14 0x10 0x00 0x07 0x07)) (refusal 5)
    -- "a nibble of 15 is the exponent form, which we do not take": 16, not 6 by a PRG count of 0, and not 7
    ∷ row (loads OnBoard (marked 0 0 0x20 0x00 0xF0 0x07 0x00)) (refusal 16)
    ∷ row (loads OnBoard (marked 0 0 0x20 0x00 0x0F 0x07 0x07)) (refusal 16)
    ∷ row (loads OnBoard (marked 0 0 0x20 0x00 0xE0 0x07 0x00)) (refusal 6)
    ∷ row (loads OnBoard (marked 0 0 0x20 0x00 0x0E 0x07 0x07)) (refusal 7)
    -- "CHR RAM is present exactly when the CHR count is 0, and byte 11 has to say the same": said not at all; said twice, of a count that byte 9 has alone too
    ∷ row (loads OnBoard (marked 1 0 0x10 0x00 0x00 0x07 0x00)) (refusal 16)
    ∷ row (loads OnBoard (marked 1 1 0x10 0x00 0x00 0x07 0x07)) (refusal 16)
    ∷ row (loads OnBoard (marked 1 1 0x10 0x00 0x00 0x07 0x70)) (refusal 16)
    ∷ row (loads OnBoard (marked 1 0 0x10 0x00 0x10 0x07 0x07)) (refusal 16)
    ∷ row (loads OnBoard (marked 1 0 0x10 0x00 0x10 0x07 0x00)) (refusal 7)
    ∷ row (as_plines (when_loaded OnBoard (image_of 24592 (marked 1 1 0x10 0x00 0x00 0x07 0x00)))) taken
    -- "6 to 8 the longer counts": 257 blocks are too many for NROM, and too long
    ∷ row (loads OnBoard (marked 1 0 0x00 0x00 0x01 0x07 0x07)) (refusal 6)
    ∷ row (loads OnBoard (marked 1 0 0x20 0x00 0x01 0x07 0x07)) (refusal 7)
    -- "House mode .. untouched", and so is an image without the mark
    ∷ row (loads House (marked 1 0 0x10 0xFF 0xFF 0xFF 0xFF)) taken
    ∷ row (loads OnBoard (unmarked 1 0 0x10 0xFF 0xFF 0xFF 0xFF)) taken
    -- "Without PRG RAM .. 6000-7FFF reads 0": what a load leaves, seen by a read that is lent a RAM full of fives; byte 10 of 00, 07 and 70
    ∷ row (reads_ram OnBoard (marked 1 0 0x10 0x00 0x00 0x00 0x07)) (number 0 ∷ [])
    ∷ row (reads_ram OnBoard (marked 1 0 0x10 0x00 0x00 0x07 0x07)) (number 5 ∷ [])
    ∷ row (reads_ram OnBoard (marked 1 0 0x10 0x00 0x00 0x70 0x07)) (number 5 ∷ [])
    ∷ row (reads_ram OnBoard (marked 1 0 0x40 0x00 0x00 0x00 0x70)) (number 0 ∷ [])
    ∷ row (reads_ram OnBoard (marked 1 0 0x40 0x00 0x00 0x70 0x70)) (number 5 ∷ [])
    -- house mode has it, and so has an image without the mark
    ∷ row (reads_ram House (marked 1 0 0x10 0x00 0x00 0x00 0x07)) (number 5 ∷ [])
    ∷ row (reads_ram OnBoard (unmarked 1 0 0x10 0x00 0x00 0x00 0x07)) (number 5 ∷ [])
    -- both RAMs are lent all the same
    ∷ row (loads_with OnBoard ramless_mmc1 0 8192) (refusal 9)
    ∷ row (calls_on (load_of OnBoard ramless_mmc1).left (lent ramless_mmc1 [] ram) (Read 0x6000)) (refusal 9)
    -- "and ignores writes": where reads and writes land
    ∷ row (shows (ramless Mmc1 1 1) [] (0x5FFF ∷ 0x6000 ∷ 0x7FFF ∷ 0x8000 ∷ [])) (none ∷ none ∷ none ∷ prg16 0 ∷ [])
    ∷ row (stores (ramless Mmc1 1 1) [] (0x5FFF ∷ 0x6000 ∷ 0x7FFF ∷ 0x8000 ∷ [])) (none ∷ none ∷ none ∷ none ∷ [])
    ∷ row (shows (ramless Mmc3 1 1) [] (0x5FFF ∷ 0x6000 ∷ 0x7FFF ∷ 0x8000 ∷ [])) (none ∷ none ∷ none ∷ prg8 0 ∷ [])
    ∷ row (stores (ramless Mmc3 1 1) [] (0x5FFF ∷ 0x6000 ∷ 0x7FFF ∷ 0x8000 ∷ [])) (none ∷ none ∷ none ∷ none ∷ [])
    ∷ row (shows (cart_of OnBoard true true Mmc1 1 1) [] (0x6000 ∷ 0x7FFF ∷ [])) (prg_ram 0 ∷ prg_ram 8191 ∷ [])
    ∷ row (stores (cart_of OnBoard true true Mmc3 1 1) [] (0x6000 ∷ 0x7FFF ∷ [])) (prg_ram 0 ∷ prg_ram 8191 ∷ [])
    -- "which the board notes and 10 covers": a clock of each board in range, and 10 where the mode or the mark is another
    ∷ row (clocks (ramless Nrom 1 1)) taken
    ∷ row (clocks (ramless Uxrom 1 1)) taken
    ∷ row (clocks (ramless Cnrom 1 1)) taken
    ∷ row (clocks (ramless Mmc1 1 1)) taken
    ∷ row (clocks (ramless Mmc3 1 1)) taken
    ∷ row (clocks (cart_of OnBoard false false Mmc1 1 1)) (refusal 10)
    ∷ row (clocks (cart_of House true false Mmc1 1 1)) (refusal 10)
    ∷ row (clocks (cart_of House false false Mmc1 1 1)) (refusal 10)
    -- counts above 255: 10 but in board mode with the mark, up to 2,048
    ∷ row (clocks (cart_of OnBoard true true Uxrom 256 256)) taken
    ∷ row (clocks (cart_of OnBoard true true Uxrom 512 1024)) taken
    ∷ row (clocks (cart_of OnBoard true true Uxrom 1024 512)) taken
    ∷ row (clocks (cart_of OnBoard true true Uxrom 2048 2048)) taken
    ∷ row (clocks (cart_of OnBoard true true Uxrom 4096 1)) (refusal 10)
    ∷ row (clocks (cart_of OnBoard true true Uxrom 1 4096)) (refusal 10)
    ∷ row (clocks (cart_of OnBoard true true Uxrom 768 1)) (refusal 10)
    ∷ row (clocks (cart_of OnBoard false true Uxrom 256 1)) (refusal 10)
    ∷ row (clocks (cart_of OnBoard false true Uxrom 1 256)) (refusal 10)
    ∷ row (clocks (cart_of House true true Uxrom 256 1)) (refusal 10)
    ∷ row (clocks (cart_of House true true Uxrom 1 256)) (refusal 10)
    -- PRG count 256: the last bank of UxROM is bank 255, the last two of MMC3 are 510 and 511; of 256 CHR blocks CNROM reaches bank 3
    ∷ row (shows (cart_of OnBoard true true Uxrom 256 0) (poke 0x8000 0xFE ∷ []) halves) (prg16 254 ∷ prg16 255 ∷ [])
    ∷ row (shows (cart_of OnBoard true true Uxrom 2048 0) (poke 0x8000 0xFF ∷ []) halves) (prg16 255 ∷ prg16 2047 ∷ [])
    ∷ row (shows (cart_of OnBoard true true Mmc3 256 256) (filled 0) (0x1C00 ∷ quarters)) (chr1_k 255 ∷ prg8 13 ∷ prg8 1 ∷ prg8 510 ∷ prg8 511 ∷ [])
    ∷ row (shows (cart_of OnBoard true true Cnrom 1 256) (poke 0x8000 0xFF ∷ []) (0x0000 ∷ [])) (chr8 3 ∷ [])
    ∷ []

-- an UxROM image of 256 PRG blocks and CHR RAM: byte 4 is 0, byte 9 has the 256
abbrev pub uxrom256 : Bytes
uxrom256 = marked 0 0 0x20 0x00 0x01 0x07 0x07

-- one of 3 x 256 blocks
abbrev pub uxrom768 : Bytes
uxrom768 = marked 0 0 0x20 0x00 0x03 0x07 0x07

-- one of 256 + 1 PRG blocks: byte 4 counts beside byte 9
abbrev pub uxrom257 : Bytes
uxrom257 = marked 1 0 0x20 0x00 0x01 0x07 0x07

-- one of 256 + 1 CHR blocks
abbrev pub chr257 : Bytes
chr257 = marked 1 1 0x20 0x00 0x10 0x07 0x00

-- what a load of an image of so many bytes answers in board mode, both RAMs lent whole
abbrev pub loaded_at : ℕ → Bytes → ℕ
loaded_at size b = load_number (load_answer (load (image_of size b) OnBoard 8192 8192))
