-- MMC3: what a read and a write find at an address.
use Rattle.std.specs.Prelude.{ℕ, ◌+◌, ◌-◌, ◌*◌, ◌/◌, cond, ◌&&◌, List, [], ◌∷◌, ltb, leb, eqb, get_or}
use Rattle.common.specs.Answers.{no}
use Rattle.common.specs.declared.Mode.{Mode}
use Rattle.common.specs.declared.Mode.TheVariants.{House, Board}
use Rattle.cartridge.specs.declared.Cartridge.{Cartridge}
use Rattle.places.specs.Windows.{Window, in_windows, board_chr}
use Rattle.places.specs.Windows.Window.{Prg8K, Chr1K, Empty, Refused}
use Rattle.mmc3.specs.Clock.{is_pending}
use Rattle.mmc3.specs.Ram.{ram_read, ram_written}
use Rattle.mmc3.specs.Write.{is_even}
use Rattle.mmc3.specs.declared.Choice.{Choice}
use Rattle.mmc3.specs.declared.Choice.TheVariants.{R, After}
use Rattle.mmc3.specs.declared.Mmc3.{Mmc3}

-- "two rows of eight register choices, one row per CHR mode: R0, R0+1, R1, R1+1, R2, R3, R4, R5; then R2, R3, R4, R5, R0, R0+1, R1, R1+1"
abbrev pub choices : List (List Choice)
choices =
    (R 0 ∷ After 0 ∷ R 1 ∷ After 1 ∷ R 2 ∷ R 3 ∷ R 4 ∷ R 5 ∷ [])
    ∷ (R 2 ∷ R 3 ∷ R 4 ∷ R 5 ∷ R 0 ∷ After 0 ∷ R 1 ∷ After 1 ∷ [])
    ∷ []

-- the choice (`After n` is Rn+1) of a CHR mode for a 1 KB slot
unfoldable pub choice_at : ℕ → ℕ → Choice
choice_at mode slot = get_or (get_or choices mode []) slot (R 0)

-- a bank register
unfoldable pub register : Mmc3 → ℕ → ℕ
register m k = get_or m.regs k 0

-- the bank that a choice names
unfoldable pub chosen : Mmc3 → Choice → ℕ
chosen m (R n) = register m n
chosen m (After n) = register m n + 1

-- "CHR choices, 1 KB each"
unfoldable pub chr_bank : Mmc3 → ℕ → ℕ
chr_bank m slot = chosen m (choice_at m.chrmode slot)

-- the last of the 8 KB PRG banks
unfoldable pub last_bank : Cartridge → ℕ
last_bank c = c.prg * 2 - 1

-- the last but one
unfoldable pub last_but_one : Cartridge → ℕ
last_but_one c = c.prg * 2 - 2

-- "PRG, 8 KB each: R6, R7, last but one, last; mode 1: last but one, R7, R6, last"
unfoldable pub prg_bank : Mmc3 → Cartridge → ℕ → ℕ
prg_bank m c a =
    cond (ltb a 0xA000) (cond (eqb m.prgmode 0) (register m 6) (last_but_one c))
    (cond (ltb a 0xC000) (register m 7)
    (cond (ltb a 0xE000) (cond (eqb m.prgmode 0) (last_but_one c) (register m 6))
    (last_bank c)))

-- what a read finds: of CHR a slot of 1 KB, of PRG a window of 8 KB
unfoldable pub read_window : Mmc3 → Cartridge → ℕ → Window
read_window m c a = in_windows (Chr1K (chr_bank m (a / 1024))) (ram_read m.ram c) (Prg8K (prg_bank m c a)) a

-- refusal 14: "even address in E000-FFFF, IRQ enabled, counter 0 or 1"
unfoldable pub acknowledged : Mmc3 → ℕ → Window
acknowledged m a = cond (is_pending m.irq && leb 0xE000 a && is_even a) (Refused (no 14)) Empty

-- house: "PPU writes do nothing, even with CHR RAM"; board: "CHR RAM is read and written through the banks, on all boards; CHR ROM ignores writes"
unfoldable pub ppu_write_in : Mode → Mmc3 → Cartridge → ℕ → Window
ppu_write_in House m c a = Empty
ppu_write_in Board m c a = board_chr c (Chr1K (chr_bank m (a / 1024)))

-- 8000-FFFF: no byte is stored, and in house mode 14 may be due; board: "Refusals 11 to 14 do not occur"
unfoldable pub rom_write_in : Mode → Mmc3 → ℕ → Window
rom_write_in House m a = acknowledged m a
rom_write_in Board m a = Empty

-- what a write finds in each mode
unfoldable pub write_window_in : Mode → Mmc3 → Cartridge → ℕ → Window
write_window_in mode m c a = in_windows (ppu_write_in mode m c a) (ram_written m.ram c) (rom_write_in mode m a) a

-- what a write finds, in the mode that the cartridge has
abbrev pub write_window : Mmc3 → Cartridge → ℕ → Window
write_window m c a = write_window_in c.mode m c a
