-- MMC1: what a read and a write find at an address.
use Rattle.std.specs.Prelude.{ℕ, ◌+◌, ◌*◌, ◌/◌, Bool, cond, List, ltb, eqb}
use Rattle.common.specs.Common.{KB4, KB16}
use Rattle.common.specs.declared.Mode.{Mode}
use Rattle.common.specs.declared.Mode.TheVariants.{House, Board}
use Rattle.banks.specs.Banks.{bank_start, bank_of}
use Rattle.cartridge.specs.Load.{last_prg, prg_total, chr_total, prg_rom, chr_data}
use Rattle.cartridge.specs.declared.Cartridge.{Cartridge}
use Rattle.places.specs.Windows.{Window, prg_ram_of, in_windows, house_chr, board_chr}
use Rattle.places.specs.Windows.Window.{Prg16K, Chr4K, Empty}
use Rattle.mmc1.specs.Write.{switches8_kb}
use Rattle.mmc1.specs.declared.Regs.{Regs}
use Rattle.mmc1.specs.declared.Mmc1.{Mmc1}

-- "PRG modes 0 and 1"
abbrev pub switches32_kb : ℕ → Bool
switches32_kb prgmode = ltb prgmode 2

-- PRG modes 0 and 1, house: "p/2 .. with p halved down"; board: "clear p's low bit and show that bank and the next"
unfoldable pub prg_pair : Mode → ℕ → ℕ
prg_pair House p = p / 2
prg_pair Board p = p / 2 * 2

-- 8 KB CHR mode, house: "4 KB bank CHR 0"; board: "CHR 0 with its low bit clear, then the next bank"
unfoldable pub chr_pair : Mode → ℕ → ℕ
chr_pair House n = n
chr_pair Board n = n / 2 * 2

-- "PRG modes 0 and 1: 16 KB banks p/2 and p/2 + 1 ..; mode 2: bank 0, then p; mode 3: p, then last"
unfoldable pub lower_prg : Mode → Regs → ℕ
lower_prg mode r = cond (switches32_kb r.prgmode) (prg_pair mode r.prg) (cond (eqb r.prgmode 2) 0 r.prg)

-- the second bank of the same sentence
unfoldable pub upper_prg : Mode → Regs → ℕ → ℕ
upper_prg mode r last = cond (switches32_kb r.prgmode) (prg_pair mode r.prg + 1) (cond (eqb r.prgmode 2) r.prg last)

-- "PPU lower half: 4 KB bank CHR 0"
unfoldable pub lower_chr : Mode → Regs → ℕ
lower_chr mode r = cond (switches8_kb r.chrmode) (chr_pair mode r.chr0) r.chr0

-- "Upper half: CHR 0 + 1 in 8 KB mode, else CHR 1"
unfoldable pub upper_chr : Mode → Regs → ℕ
upper_chr mode r = cond (switches8_kb r.chrmode) (chr_pair mode r.chr0 + 1) r.chr1

-- the bank that a PPU address is in
unfoldable pub chr_bank : Mmc1 → Cartridge → ℕ → ℕ
chr_bank m c a = cond (ltb a 0x1000) (lower_chr c.mode m.regs) (upper_chr c.mode m.regs)

-- the bank that an address in 8000-FFFF is in
unfoldable pub prg_bank : Mmc1 → Cartridge → ℕ → ℕ
prg_bank m c a = cond (ltb a 0xC000) (lower_prg c.mode m.regs) (upper_prg c.mode m.regs (last_prg c))

-- what a read finds
unfoldable pub read_window : Mmc1 → Cartridge → ℕ → Window
read_window m c a = in_windows (Chr4K (chr_bank m c a)) (prg_ram_of c) (Prg16K (prg_bank m c a)) a

-- house: "PPU writes go to CHR RAM unbanked"; board: "CHR RAM is read and written through the banks, on all boards; CHR ROM ignores writes"
unfoldable pub ppu_write_in : Mode → Mmc1 → Cartridge → ℕ → Window
ppu_write_in House m c a = house_chr c
ppu_write_in Board m c a = board_chr c (Chr4K (chr_bank m c a))

-- what a write finds in each mode; at 8000-FFFF it stores no byte, and only moves registers
unfoldable pub write_window_in : Mode → Mmc1 → Cartridge → ℕ → Window
write_window_in mode m c a = in_windows (ppu_write_in mode m c a) (prg_ram_of c) Empty a

-- what a write finds, in the mode that the cartridge has
abbrev pub write_window : Mmc1 → Cartridge → ℕ → Window
write_window m c a = write_window_in c.mode m c a

-- the banks themselves: "MMC1's lower and upper PRG and CHR bank functions return a sub-slice of the lent image"
unfoldable pub lower_prg_bank : Mmc1 → Cartridge → List ℕ → List ℕ
lower_prg_bank m c image = bank_of (prg_rom image) (bank_start c.mode (lower_prg c.mode m.regs) KB16 (prg_total c)) KB16

-- the bank at C000-FFFF
unfoldable pub upper_prg_bank : Mmc1 → Cartridge → List ℕ → List ℕ
upper_prg_bank m c image = bank_of (prg_rom image) (bank_start c.mode (upper_prg c.mode m.regs (last_prg c)) KB16 (prg_total c)) KB16

-- the bank of the PPU lower half
unfoldable pub lower_chr_bank : Mmc1 → Cartridge → List ℕ → List ℕ → List ℕ
lower_chr_bank m c image ram = bank_of (chr_data c image ram) (bank_start c.mode (lower_chr c.mode m.regs) KB4 (chr_total c)) KB4

-- the bank of the PPU upper half
unfoldable pub upper_chr_bank : Mmc1 → Cartridge → List ℕ → List ℕ → List ℕ
upper_chr_bank m c image ram = bank_of (chr_data c image ram) (bank_start c.mode (upper_chr c.mode m.regs) KB4 (chr_total c)) KB4
