-- What a board shows at an address, the windows that boards share, and where an address lands in one.
use Rattle.std.specs.Prelude.{ℕ, ◌%◌, cond, ltb, eqb, Ok, Err}
use Rattle.common.specs.Common.{KB1, KB4, KB8, KB16}
use Rattle.common.specs.declared.Refusal.{Refusal}
use Rattle.common.specs.Answers.{no}
use Rattle.cartridge.specs.Load.{has_chr_ram}
use Rattle.cartridge.specs.declared.Cartridge.{Cartridge}
use Rattle.places.specs.Places.{in_prg, in_chr}
use Rattle.places.specs.Places.{Landing}
use Rattle.places.specs.declared.Place.TheVariants.{PrgRam as InPrgRam, ChrRam as InChrRam, Nowhere}

-- a bank by its number, counted in banks of its size; a RAM; nothing; or a refusal
pub data Window : Type 0 where
  Prg16K : ℕ → Window
  Prg8K : ℕ → Window
  Chr8K : ℕ → Window
  Chr4K : ℕ → Window
  Chr1K : ℕ → Window
  PrgRam : Window
  ChrRam : Window
  Empty : Window
  Refused : Refusal → Window

-- where an address lands in a window: every window lies on a multiple of its size
unfoldable pub lands_in : Cartridge → Window → ℕ → Landing
lands_in c (Prg16K n) a = in_prg c KB16 n (a % KB16)
lands_in c (Prg8K n) a = in_prg c KB8 n (a % KB8)
lands_in c (Chr8K n) a = in_chr c KB8 n (a % KB8)
lands_in c (Chr4K n) a = in_chr c KB4 n (a % KB4)
lands_in c (Chr1K n) a = in_chr c KB1 n (a % KB1)
lands_in c PrgRam a = Ok (InPrgRam (a % KB8))
lands_in c ChrRam a = Ok (InChrRam (a % KB8))
lands_in c Empty a = Ok Nowhere
lands_in c (Refused why) a = Err why

-- "8000-BFFF first PRG block; C000-FFFF second, or first again if only one"
unfoldable pub fixed_block : Cartridge → ℕ → ℕ
fixed_block c a = cond (ltb a 0xC000) 0 (cond (eqb c.prg 1) 0 1)

-- NROM's and CNROM's PRG, which no write moves; "Not mentioned: a read answers 0, a write does nothing"
unfoldable pub fixed_prg : Cartridge → ℕ → Window
fixed_prg c a = cond (ltb a 0x8000) Empty (Prg16K (fixed_block c a))

-- house, PPU "writes CHR RAM", "unbanked"; refusal 12: "NROM, MMC1, UxROM at 0000-1FFF with no CHR RAM"
unfoldable pub house_chr : Cartridge → Window
house_chr c = cond (has_chr_ram c) ChrRam (Refused (no 12))

-- the writes of house NROM, and of house UxROM: "PPU as NROM"; "Not mentioned: .. a write does nothing"
unfoldable pub house_chr_ram : Cartridge → ℕ → Window
house_chr_ram c a = cond (ltb a 0x2000) (house_chr c) Empty

-- board: "CHR RAM is read and written through the banks, on all boards; CHR ROM ignores writes"
unfoldable pub board_chr : Cartridge → Window → Window
board_chr c bank = cond (has_chr_ram c) bank Empty

-- the writes of NROM, UxROM and CNROM in board mode, of an 8 KB CHR bank; "Not mentioned: .. a write does nothing"
unfoldable pub board_chr_ram : Cartridge → ℕ → ℕ → Window
board_chr_ram c n a = cond (ltb a 0x2000) (board_chr c (Chr8K n)) Empty

-- MMC1 and MMC3: "6000-7FFF PRG RAM"; M-100: "Without PRG RAM .. 6000-7FFF reads 0 and ignores writes"
unfoldable pub prg_ram_of : Cartridge → Window
prg_ram_of c = cond c.prgram PrgRam Empty

-- MMC1 and MMC3, of three windows: "PPU" means 0000-1FFF; RAM, if any, is at 6000-7FFF; 8000-FFFF is ROM; "Not mentioned: a read answers 0, a write does nothing"
unfoldable pub in_windows : Window → Window → Window → ℕ → Window
in_windows ppu ram rom a = cond (ltb a 0x2000) ppu (cond (ltb a 0x6000) Empty (cond (ltb a 0x8000) ram rom))
