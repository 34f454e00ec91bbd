-- Further rows beside the P lines, worked out by hand from document 01 (one row of clocks as M-101 has it) and held under one claim: what each window of board mode shows, at counts where the
-- modulo bites, where a byte is stored, and which notices come; house mode's oddities; every refusal with its place in the order; the size and the mark.
use Rattle.std.specs.Prelude.{ℕ, ◌+◌, ◌*◌, ◌/◌, ◌%◌, Bool, true, false, List, [], ◌∷◌, ◌++◌, map, replicate, take, Some, None, Ok}
use Rattle.common.specs.declared.Mode.{Mode}
use Rattle.common.specs.declared.Mode.TheVariants.{House, Board as OnBoard}
use Rattle.common.specs.declared.Mirroring.TheVariants.{Horizontal, Vertical, SingleScreenUpper, SingleScreenLower}
use Rattle.cartridge.specs.Header.{header_read, total_size, is_nes2}
use Rattle.cartridge.specs.Load.{needed}
use Rattle.cartridge.specs.declared.Cartridge.{Cartridge}
use Rattle.cartridge.specs.declared.Header.{Header}
use Rattle.cartridge.specs.declared.MapperType.{MapperType}
use Rattle.cartridge.specs.declared.MapperType.TheVariants.{Nrom, Mmc1, Uxrom, Cnrom, Mmc3}
use Rattle.places.specs.declared.Place.TheVariants.{Prg, Chr, PrgRam, ChrRam, Nowhere}
use Rattle.places.specs.Places.{Landing}
use Rattle.boards.specs.Start.{start_of, no_board, load, load_answer}
use Rattle.boards.specs.Numbers.{refused_by, header_number, load_number}
use Rattle.boards.specs.Runs.{Lent, lent, answer}
use Rattle.boards.specs.Read.{read_landing}
use Rattle.boards.specs.Write.{write_landing, accepted_write}
use Rattle.boards.specs.declared.Board.{Board}
use Rattle.boards.specs.declared.Event.{Event}
use Rattle.boards.specs.declared.Event.TheVariants.{Read, Write, Clock}
use Rattle.boards.specs.Write.{WriteAnswer}
use Rattle.laws.specs.PLines as paper
use Rattle.laws.specs.PLines.{header, image, ram, load_of, with_rams, answer_number}
use Rattle.laws.specs.PLines.Question.{when_loaded, when_played}

-- a cartridge: its mode, its mapper, its PRG and CHR counts; the header horizontal
abbrev pub cart_in : Mode → MapperType → ℕ → ℕ → Cartridge
cart_in mode k prg chr =
    record { mode = mode; mapper = k; nes2 = false; mirroring = Horizontal; prgram = true; prg = prg; chr = chr; length = needed prg chr }

-- a cartridge in board mode
abbrev pub cart : MapperType → ℕ → ℕ → Cartridge
cart k prg chr = cart_in OnBoard k prg chr

-- a cartridge in house mode
abbrev pub house_cart : MapperType → ℕ → ℕ → Cartridge
house_cart k prg chr = cart_in House k prg chr

-- a write: its address, then its byte
pub data Poke : Type 0 where
  poke : ℕ → ℕ → Poke

-- the five bits of a number, least bit first, to an MMC1 address
abbrev pub five : ℕ → ℕ → List Poke
five a v = poke a (v % 2) ∷ poke a (v / 2 % 2) ∷ poke a (v / 4 % 2) ∷ poke a (v / 8 % 2) ∷ poke a (v / 16 % 2) ∷ []

-- MMC1: a load at 8000, control
abbrev pub control : ℕ → List Poke
control v = five 0x8000 v

-- MMC1: a load at A000, CHR 0
abbrev pub chr0 : ℕ → List Poke
chr0 v = five 0xA000 v

-- MMC1: a load at C000, CHR 1
abbrev pub chr1 : ℕ → List Poke
chr1 v = five 0xC000 v

-- MMC1: a load at E000, PRG
abbrev pub prg : ℕ → List Poke
prg v = five 0xE000 v

-- MMC3: a select, which has the modes in bits 6 and 7, and the data of the register that it selects
abbrev pub fill : ℕ → ℕ → List Poke
fill select v = poke 0x8000 select ∷ poke 0x8001 v ∷ []

-- the board after accepted writes
abbrev pub poked : Board → List Poke → Board
poked b [] = b
poked b (poke a v ∷ ps) = poked (accepted_write b v a).left ps

-- what a row asks: what a P line may ask, of a load with RAMs of these lengths, of a call, of a header, of a board after writes, or of what stands by itself
pub data Question : Type 0 where
  as_plines : paper.Question → Question
  loads_with : Mode → List ℕ → ℕ → ℕ → Question
  calls_on : Board → Lent → Event → Question
  reads_header : List ℕ → Question
  shows : Cartridge → List Poke → List ℕ → Question
  stores : Cartridge → List Poke → List ℕ → Question
  says : Cartridge → List Poke → Question
  size_of : ℕ → ℕ → Question
  is_marked : ℕ → Question

-- an answer: where an address lands, what a write answers, a number, or whether
pub data Seen : Type 0 where
  lands : Landing → Seen
  answered : WriteAnswer → Seen
  number : ℕ → Seen
  whether : Bool → Seen

-- the answers to writes, one after another
abbrev pub replies : Board → List Poke → List Seen
replies b [] = []
replies b (poke a v ∷ ps) = answered (accepted_write b v a).answer ∷ replies (accepted_write b v a).left ps

-- a header with these counts and this byte 7
abbrev pub headed : ℕ → ℕ → ℕ → Header
headed p c b7 =
    record {
      prg = p;
      chr = c;
      flags6 = 0;
      flags7 = b7;
      flags8 = 0;
      flags9 = 0;
      flags10 = 0;
      flags11 = 0;
      flags12 = 0;
      flags13 = 0;
      flags14 = 0;
      flags15 = 0;
    }

-- the answer to a question
abbrev pub answer_to : Question → List Seen
answer_to (as_plines q) = map number (paper.answer_to q)
answer_to (loads_with mode s prgs chrs) = number (load_number (load_answer (load s mode prgs chrs))) ∷ []
answer_to (calls_on b l e) = number (answer_number (answer b l e)) ∷ []
answer_to (reads_header s) = number (header_number (header_read s)) ∷ []
answer_to (shows c ps addresses) = map (λ (a : ℕ). lands (read_landing (poked (start_of c) ps) a)) addresses
answer_to (stores c ps addresses) = map (λ (a : ℕ). lands (write_landing (poked (start_of c) ps) a)) addresses
answer_to (says c ps) = replies (start_of c) ps
answer_to (size_of p c) = number (total_size (headed p c 0)) ∷ []
answer_to (is_marked b7) = whether (is_nes2 (headed 1 1 b7)) ∷ []

-- a row: what is asked, and what is wanted
pub record Row : Type 0 where
  pub asked : Question
  pub wanted : List Seen

-- a row by its two parts
abbrev pub row : Question → List Seen → Row
row q w = record { asked = q; wanted = w }

-- the first byte of a 16 KB PRG bank
abbrev pub prg16 : ℕ → Seen
prg16 n = lands (Ok (Prg (n * 16384)))

-- the first byte of an 8 KB PRG bank
abbrev pub prg8 : ℕ → Seen
prg8 n = lands (Ok (Prg (n * 8192)))

-- the first byte of an 8 KB CHR bank
abbrev pub chr8 : ℕ → Seen
chr8 n = lands (Ok (Chr (n * 8192)))

-- the first byte of a 4 KB CHR bank
abbrev pub chr4 : ℕ → Seen
chr4 n = lands (Ok (Chr (n * 4096)))

-- the first byte of a 1 KB CHR bank
abbrev pub chr1_k : ℕ → Seen
chr1_k n = lands (Ok (Chr (n * 1024)))

-- a byte of CHR RAM
abbrev pub chr_ram : ℕ → Seen
chr_ram i = lands (Ok (ChrRam i))

-- a byte of PRG RAM
abbrev pub prg_ram : ℕ → Seen
prg_ram i = lands (Ok (PrgRam i))

-- "a read answers 0, a write does nothing"
abbrev pub none : Seen
none = lands (Ok Nowhere)

-- four bits that are quiet, then what the fifth answers
abbrev pub fifth : WriteAnswer → List Seen
fifth w = answered (Ok None) ∷ answered (Ok None) ∷ answered (Ok None) ∷ answered (Ok None) ∷ answered w ∷ []

-- the first addresses of MMC1's and UxROM's PRG windows
abbrev pub halves : List ℕ
halves = 0x8000 ∷ 0xC000 ∷ []

-- the first addresses of MMC1's CHR windows
abbrev pub screens : List ℕ
screens = 0x0000 ∷ 0x1000 ∷ []

-- the first addresses of MMC3's PRG windows
abbrev pub quarters : List ℕ
quarters = 0x8000 ∷ 0xA000 ∷ 0xC000 ∷ 0xE000 ∷ []

-- the first addresses of MMC3's CHR slots
abbrev pub slots : List ℕ
slots = 0x0000 ∷ 0x0400 ∷ 0x0800 ∷ 0x0C00 ∷ 0x1000 ∷ 0x1400 ∷ 0x1800 ∷ 0x1C00 ∷ []

-- MMC1 with 4 PRG banks of 16 KB and 8 CHR banks of 4 KB
abbrev pub mmc1 : Cartridge
mmc1 = cart Mmc1 4 4

-- MMC3 with 8 PRG banks of 8 KB and 32 CHR banks of 1 KB
abbrev pub mmc3 : Cartridge
mmc3 = cart Mmc3 4 4

-- MMC3's eight registers filled, in a PRG and a CHR mode that bits 6 and 7 of each select say
abbrev pub filled : ℕ → List Poke
filled modes =
    fill (modes + 0) 5 ++ fill (modes + 1) 63 ++ fill (modes + 2) 40 ++ fill (modes + 3) 9 ++ fill (modes + 4) 10 ++ fill (modes + 5) 0xFF ++ fill (modes + 6) 13
    ++ fill (modes + 7) 0xC1

-- NROM, one PRG block and one CHR block
abbrev pub chr_rom : List ℕ
chr_rom = image 24592 1 1 0x00

-- sixteen bytes whose byte 3 is wrong
abbrev pub bad_magic : List ℕ
bad_magic = 0x4E ∷ 0x45 ∷ 0x53 ∷ 0x1B ∷ 1 ∷ replicate 11 0

-- the table
abbrev pub rows : List Row
rows =
    -- MMC1, "Start: PRG mode 3, 8 KB CHR"
    row (shows mmc1 [] (halves ++ screens)) (prg16 0 ∷ prg16 3 ∷ chr4 0 ∷ chr4 1 ∷ [])
    -- PRG modes 0 and 1 "clear p's low bit and show that bank and the next": of p 7 banks 6 and 7, modulo 4; of p 5 banks 4 and 5
    ∷ row (shows mmc1 (control 0x00 ++ prg 7) halves) (prg16 2 ∷ prg16 3 ∷ [])
    ∷ row (shows mmc1 (control 0x04 ++ prg 7) halves) (prg16 2 ∷ prg16 3 ∷ [])
    ∷ row (shows mmc1 (control 0x04 ++ prg 5) halves) (prg16 0 ∷ prg16 1 ∷ [])
    -- "mode 2: bank 0, then p"
    ∷ row (shows mmc1 (control 0x08 ++ prg 6) halves) (prg16 0 ∷ prg16 2 ∷ [])
    -- "mode 3: p, then last"
    ∷ row (shows mmc1 (control 0x0C ++ prg 5) halves) (prg16 1 ∷ prg16 3 ∷ [])
    -- "PRG (low four bits)", of 16 banks
    ∷ row (shows (cart Mmc1 16 1) (prg 31) halves) (prg16 15 ∷ prg16 15 ∷ [])
    -- "a bit 7 write also sets PRG mode 3"
    ∷ row (shows mmc1 (control 0x00 ++ prg 5 ++ poke 0xFFFF 0x80 ∷ []) halves) (prg16 1 ∷ prg16 3 ∷ [])
    -- and nothing else: CHR mode and both CHR registers stay
    ∷ row (shows mmc1 (control 0x10 ++ chr0 13 ++ chr1 30 ++ prg 5 ++ poke 0x8000 0xFF ∷ []) (halves ++ screens)) (prg16 1 ∷ prg16 3 ∷ chr4 5 ∷ chr4 6 ∷ [])
    -- "8 KB mode shows CHR 0 with its low bit clear, then the next bank, and does not use CHR 1": of 13 banks 12 and 13, modulo 8
    ∷ row (shows mmc1 (control 0x00 ++ chr0 13 ++ chr1 2) screens) (chr4 4 ∷ chr4 5 ∷ [])
    -- 4 KB mode: CHR 0, then CHR 1
    ∷ row (shows mmc1 (control 0x10 ++ chr0 13 ++ chr1 30) screens) (chr4 5 ∷ chr4 6 ∷ [])
    -- all five bits, of 32 banks
    ∷ row (shows (cart Mmc1 1 16) (control 0x10 ++ chr0 31 ++ chr1 17) screens) (chr4 31 ∷ chr4 17 ∷ [])
    -- "both CHR registers are stored whole in either CHR mode"
    ∷ row (shows mmc1 (control 0x00 ++ chr0 13 ++ chr1 11 ++ control 0x10) screens) (chr4 5 ∷ chr4 3 ∷ [])
    -- "CHR RAM is read and written through the banks": two banks of 4 KB
    ∷ row (shows (cart Mmc1 1 0) (control 0x10 ++ chr0 3 ++ chr1 2) screens) (chr_ram 4096 ∷ chr_ram 0 ∷ [])
    ∷ row (stores (cart Mmc1 1 0) (control 0x10 ++ chr0 3 ++ chr1 2) screens) (chr_ram 4096 ∷ chr_ram 0 ∷ [])
    -- "CHR ROM ignores writes"; "6000-7FFF is PRG RAM"
    ∷ row (stores mmc1 [] (0x0000 ∷ 0x1FFF ∷ 0x2000 ∷ 0x6000 ∷ 0x7FFF ∷ 0x8000 ∷ [])) (none ∷ none ∷ none ∷ prg_ram 0 ∷ prg_ram 8191 ∷ none ∷ [])
    ∷ row (shows mmc1 [] (0x2000 ∷ 0x5FFF ∷ 0x6000 ∷ 0x7FFF ∷ [])) (none ∷ none ∷ prg_ram 0 ∷ prg_ram 8191 ∷ [])
    -- "Notices compare with the current mirroring, which starts as the header's"
    ∷ row (says mmc1 (control 3 ++ control 2 ++ control 2 ++ control 0 ++ control 1 ++ control 3)) (fifth (Ok None) ++ fifth (Ok (Some Vertical)) ++ fifth (Ok None) ++ fifth (Ok (Some SingleScreenLower)) ++ fifth (Ok (Some SingleScreenUpper)) ++ fifth (Ok (Some Horizontal)))
    -- NROM: "8000-BFFF first PRG block; C000-FFFF second, or first again if only one"
    ∷ row (shows (cart Nrom 2 1) [] (0x0000 ∷ 0x2000 ∷ 0x7FFF ∷ halves)) (chr8 0 ∷ none ∷ none ∷ prg16 0 ∷ prg16 1 ∷ [])
    ∷ row (shows (cart Nrom 1 1) [] halves) (prg16 0 ∷ prg16 0 ∷ [])
    ∷ row (stores (cart Nrom 1 0) [] (0x0000 ∷ 0x1FFF ∷ 0x2000 ∷ 0x8000 ∷ [])) (chr_ram 0 ∷ chr_ram 8191 ∷ none ∷ none ∷ [])
    ∷ row (stores (cart Nrom 1 1) [] (0x0000 ∷ 0x1FFF ∷ [])) (none ∷ none ∷ [])
    -- UxROM: "8000-BFFF that bank; C000-FFFF the last"
    ∷ row (shows (cart Uxrom 4 1) (poke 0x8000 6 ∷ []) (0x0000 ∷ halves)) (chr8 0 ∷ prg16 2 ∷ prg16 3 ∷ [])
    -- "sets the bank to the whole byte"
    ∷ row (shows (cart Uxrom 128 0) (poke 0xFFFF 0xFE ∷ []) (0x1FFF ∷ halves)) (chr_ram 8191 ∷ prg16 126 ∷ prg16 127 ∷ [])
    ∷ row (shows (cart Uxrom 128 0) (poke 0xFFFF 0x80 ∷ []) halves) (prg16 0 ∷ prg16 127 ∷ [])
    ∷ row (stores (cart Uxrom 4 0) (poke 0x8000 6 ∷ []) (0x0000 ∷ 0x1FFF ∷ 0x2000 ∷ 0xC000 ∷ [])) (chr_ram 0 ∷ chr_ram 8191 ∷ none ∷ none ∷ [])
    ∷ row (stores (cart Uxrom 4 1) [] (0x0000 ∷ [])) (none ∷ [])
    -- CNROM: "one PRG block shows twice; 2000-7FFF reads 0, ignores writes"; "the low two bits"
    ∷ row (shows (cart Cnrom 1 2) (poke 0x8000 7 ∷ []) (0x0000 ∷ 0x2000 ∷ 0x7FFF ∷ halves)) (chr8 1 ∷ none ∷ none ∷ prg16 0 ∷ prg16 0 ∷ [])
    ∷ row (shows (cart Cnrom 2 4) (poke 0xFFFF 6 ∷ []) (0x0000 ∷ halves)) (chr8 2 ∷ prg16 0 ∷ prg16 1 ∷ [])
    ∷ row (stores (cart Cnrom 1 0) (poke 0x8000 3 ∷ []) (0x0000 ∷ 0x1FFF ∷ 0x2000 ∷ 0x7FFF ∷ 0x8000 ∷ [])) (chr_ram 0 ∷ chr_ram 8191 ∷ none ∷ none ∷ none ∷ [])
    ∷ row (stores (cart Cnrom 1 2) [] (0x0000 ∷ [])) (none ∷ [])
    -- MMC3, "PRG, 8 KB each: R6, R7, last but one, last; mode 1: last but one, R7, R6, last": R6 is 13, R7 of C1 "keep six bits", 1; modulo 8
    ∷ row (shows mmc3 (filled 0) quarters) (prg8 5 ∷ prg8 1 ∷ prg8 6 ∷ prg8 7 ∷ [])
    ∷ row (shows mmc3 (filled 0x40) quarters) (prg8 6 ∷ prg8 1 ∷ prg8 5 ∷ prg8 7 ∷ [])
    -- R7 at its greatest, of 64 banks
    ∷ row (shows (cart Mmc3 32 1) (fill 7 0xFF) quarters) (prg8 0 ∷ prg8 63 ∷ prg8 62 ∷ prg8 63 ∷ [])
    ∷ row (shows (cart Mmc3 32 1) (fill 0x47 0xFF) quarters) (prg8 62 ∷ prg8 63 ∷ prg8 0 ∷ prg8 63 ∷ [])
    -- "R0, R0+1, R1, R1+1, R2, R3, R4, R5; then R2, R3, R4, R5, R0, R0+1, R1, R1+1": "R0 and R1 lose bit 0", so 4 and 62; modulo 32
    ∷ row (shows mmc3 (filled 0) slots) (chr1_k 4 ∷ chr1_k 5 ∷ chr1_k 30 ∷ chr1_k 31 ∷ chr1_k 8 ∷ chr1_k 9 ∷ chr1_k 10 ∷ chr1_k 31 ∷ [])
    ∷ row (shows mmc3 (filled 0x80) slots) (chr1_k 8 ∷ chr1_k 9 ∷ chr1_k 10 ∷ chr1_k 31 ∷ chr1_k 4 ∷ chr1_k 5 ∷ chr1_k 30 ∷ chr1_k 31 ∷ [])
    -- R2 keeps its whole byte, R0 all but bit 0, of 256 banks
    ∷ row (shows (cart Mmc3 1 32) (fill 2 0xFF ++ fill 0 0xFF) (0x0000 ∷ 0x0400 ∷ 0x1000 ∷ [])) (chr1_k 254 ∷ chr1_k 255 ∷ chr1_k 255 ∷ [])
    -- CHR RAM, 8 banks of 1 KB: 4, 5, 62, 63, 40, 9, 10, 255
    ∷ row (shows (cart Mmc3 1 0) (filled 0) slots) (chr_ram 0x1000 ∷ chr_ram 0x1400 ∷ chr_ram 0x1800 ∷ chr_ram 0x1C00 ∷ chr_ram 0 ∷ chr_ram 0x400 ∷ chr_ram 0x800 ∷ chr_ram 0x1C00 ∷ [])
    ∷ row (stores (cart Mmc3 1 0) (filled 0) slots) (chr_ram 0x1000 ∷ chr_ram 0x1400 ∷ chr_ram 0x1800 ∷ chr_ram 0x1C00 ∷ chr_ram 0 ∷ chr_ram 0x400 ∷ chr_ram 0x800 ∷ chr_ram 0x1C00 ∷ [])
    ∷ row (stores mmc3 [] (0x0000 ∷ 0x1FFF ∷ 0x2000 ∷ 0x6000 ∷ 0x7FFF ∷ 0xE000 ∷ [])) (none ∷ none ∷ none ∷ prg_ram 0 ∷ prg_ram 8191 ∷ none ∷ [])
    ∷ row (shows mmc3 [] (0x2000 ∷ 0x5FFF ∷ 0x6000 ∷ 0x7FFF ∷ [])) (none ∷ none ∷ prg_ram 0 ∷ prg_ram 8191 ∷ [])
    -- "A000-BFFF even: bit 0 set horizontal, else vertical", against the current mirroring
    ∷ row (says mmc3 (poke 0xA000 1 ∷ poke 0xA000 0 ∷ poke 0xBFFE 2 ∷ poke 0xA001 1 ∷ poke 0xA000 3 ∷ [])) (answered (Ok None) ∷ answered (Ok (Some Vertical)) ∷ answered (Ok None) ∷ answered (Ok None) ∷ answered (Ok (Some Horizontal)) ∷ [])
    -- "`total_size_excluding_header` is the sum of both in bytes"
    ∷ row (size_of 1 1) (number 24576 ∷ [])
    ∷ row (size_of 3 0) (number 49152 ∷ [])
    ∷ row (size_of 255 255) (number 6266880 ∷ [])
    -- "Byte 7 AND 0C equal to 08 marks NES 2.0"
    ∷ row (is_marked 0x00) (whether false ∷ [])
    ∷ row (is_marked 0x04) (whether false ∷ [])
    ∷ row (is_marked 0x08) (whether true ∷ [])
    ∷ row (is_marked 0x0C) (whether false ∷ [])
    ∷ row (is_marked 0xFB) (whether true ∷ [])
    ∷ row (is_marked 0xF7) (whether false ∷ [])
    -- the board that stands for none is refused by every call; "In read and write: 9, 10"
    ∷ row (calls_on no_board (with_rams paper.nrom) (Read 0x8000)) (number (refused_by 10) ∷ [])
    ∷ row (calls_on no_board (with_rams paper.nrom) (Write 0x8000 0)) (number (refused_by 10) ∷ [])
    ∷ row (calls_on no_board (with_rams paper.nrom) Clock) (number (refused_by 10) ∷ [])
    ∷ row (calls_on no_board (lent paper.nrom [] ram) (Read 0x8000)) (number (refused_by 9) ∷ [])
    ∷ row (calls_on no_board (lent paper.nrom ram []) (Write 0x8000 0)) (number (refused_by 9) ∷ [])
    -- "or (read, write) the image length is not the one loaded"
    ∷ row (calls_on (load_of House paper.nrom).left (with_rams (image 16401 1 0 0x00)) (Read 0x8000)) (number (refused_by 10) ∷ [])
    -- 12 and 13: house writes; in board mode CHR ROM ignores them
    ∷ row (calls_on (load_of House chr_rom).left (with_rams chr_rom) (Write 0x0000 1)) (number (refused_by 12) ∷ [])
    ∷ row (calls_on (load_of OnBoard chr_rom).left (with_rams chr_rom) (Write 0x0000 1)) (number 0 ∷ [])
    ∷ row (calls_on (load_of House paper.cnrom).left (with_rams paper.cnrom) (Write 0x2000 0)) (number (refused_by 13) ∷ [])
    -- 14: "even address in E000-FFFF, IRQ enabled, counter 0 or 1"; in board mode it is taken
    ∷ row (as_plines (when_played House paper.mmc3 (Write 0xE001 0 ∷ Write 0xE000 0 ∷ []))) (number 0 ∷ number (refused_by 14) ∷ [])
    ∷ row (as_plines (when_played OnBoard paper.mmc3 (Write 0xE001 0 ∷ Write 0xE000 0 ∷ []))) (number 0 ∷ number 0 ∷ [])
    -- a clock: "yes exactly when the counter is 0 and IRQ enabled"; the counter runs while it is not; in board mode the line that it raises stays up
    ∷ row (as_plines (when_played OnBoard paper.mmc3 (Write 0xC000 0 ∷ Write 0xC001 0 ∷ Clock ∷ Clock ∷ []))) (number 0 ∷ number 0 ∷ number 0 ∷ number 0 ∷ [])
    ∷ row (as_plines (when_played OnBoard paper.mmc3 (Write 0xC000 2 ∷ Write 0xC001 0 ∷ Clock ∷ Clock ∷ Write 0xE001 0 ∷ Clock ∷ Clock ∷ []))) (number 0 ∷ number 0 ∷ number 0 ∷ number 0 ∷ number 0 ∷ number 1 ∷ number 1 ∷ [])
    ∷ row (as_plines (when_played House paper.mmc3 (Write 0xC000 2 ∷ Write 0xC001 0 ∷ Clock ∷ Clock ∷ Write 0xE001 0 ∷ Clock ∷ Clock ∷ []))) (number 0 ∷ number 0 ∷ number 0 ∷ number 0 ∷ number 0 ∷ number 0 ∷ number 1 ∷ [])
    -- header reader: 1 before 2; byte 3 counts
    ∷ row (reads_header (take 15 (header 1 0 0 0))) (number (refused_by 1) ∷ [])
    ∷ row (reads_header (replicate 15 0)) (number (refused_by 1) ∷ [])
    ∷ row (reads_header bad_magic) (number (refused_by 2) ∷ [])
    ∷ row (reads_header (header 1 0 0 0)) (number 0 ∷ [])
    -- "Order in load: 9, 3, 4, 5, 6, 7, 8": 9, not 3; 3 by the length and by byte 3, not 4
    ∷ row (loads_with House (image 16399 1 0 0x00) 8191 8192) (number (refused_by 9) ∷ [])
    ∷ row (loads_with House paper.nrom 8192 8193) (number (refused_by 9) ∷ [])
    ∷ row (as_plines (when_loaded House (image 16399 1 0 0x50))) (number (refused_by 3) ∷ [])
    ∷ row (as_plines (when_loaded House (bad_magic ++ replicate 16384 0))) (number (refused_by 3) ∷ [])
    -- 4 by byte 7, 5 by either bit and not 6
    ∷ row (as_plines (when_loaded House (header 1 0 0x00 0x10 ++ replicate 16384 0))) (number (refused_by 4) ∷ [])
    ∷ row (as_plines (when_loaded House (image 16400 1 0 0x04))) (number (refused_by 5) ∷ [])
    ∷ row (as_plines (when_loaded House (image 16400 0 0 0x28))) (number (refused_by 5) ∷ [])
    ∷ row (as_plines (when_loaded House (image 16400 0 0 0x20))) (number (refused_by 6) ∷ [])
    -- 7, not 8; 8 in board mode only, by the PRG count and by the CHR count
    ∷ row (as_plines (when_loaded OnBoard (image 16400 3 0 0x20))) (number (refused_by 7) ∷ [])
    ∷ row (as_plines (when_loaded OnBoard (image 49168 3 0 0x20))) (number (refused_by 8) ∷ [])
    ∷ row (as_plines (when_loaded House (image 49168 3 0 0x20))) (number 0 ∷ [])
    ∷ row (as_plines (when_loaded OnBoard (image 40976 1 3 0x00))) (number (refused_by 8) ∷ [])
    ∷ row (as_plines (when_loaded House (image 40976 1 3 0x00))) (number 0 ∷ [])
    -- "Bytes after the data are ignored"
    ∷ row (as_plines (when_loaded OnBoard (image 16408 1 0 0x00))) (number 0 ∷ [])
    -- house MMC1: "CHR 0 is stored halved in 8 KB mode, whole in 4 KB mode. CHR 1 is ignored in 8 KB mode"
    ∷ row (shows (house_cart Mmc1 4 4) (control 0x00 ++ chr0 6) screens) (chr4 3 ∷ chr4 4 ∷ [])
    ∷ row (shows (house_cart Mmc1 4 4) (control 0x10 ++ chr0 6 ++ chr1 5 ++ control 0x00 ++ chr1 7 ++ control 0x10) screens) (chr4 6 ∷ chr4 5 ∷ [])
    -- "PRG modes 0 and 1: 16 KB banks p/2 and p/2 + 1 with p halved down"; "a write with bit 7 clears the serial register and nothing else"
    ∷ row (shows (house_cart Mmc1 4 4) (control 0x00 ++ prg 3 ++ poke 0x8000 0x80 ∷ []) halves) (prg16 1 ∷ prg16 2 ∷ [])
    -- "PPU writes go to CHR RAM unbanked"; MMC3: "PPU writes do nothing, even with CHR RAM"
    ∷ row (stores (house_cart Mmc1 1 0) (control 0x10 ++ chr0 1 ++ chr1 0) screens) (chr_ram 0 ∷ chr_ram 4096 ∷ [])
    ∷ row (stores (house_cart Mmc3 1 0) [] (0x0000 ∷ 0x6000 ∷ [])) (none ∷ prg_ram 0 ∷ [])
    -- house CNROM: "PPU writes land in PRG RAM at the same number"
    ∷ row (stores (house_cart Cnrom 1 1) [] (0x0000 ∷ 0x1FFF ∷ 0x8000 ∷ [])) (prg_ram 0 ∷ prg_ram 8191 ∷ none ∷ [])
    ∷ []
