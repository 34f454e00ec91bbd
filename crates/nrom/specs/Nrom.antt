-- NROM: what a read and a write find at an address.
use Rattle.std.specs.Prelude.{ℕ, cond, ltb}
use Rattle.common.specs.declared.Mode.{Mode}
use Rattle.common.specs.declared.Mode.TheVariants.{House, Board}
use Rattle.cartridge.specs.declared.Cartridge.{Cartridge}
use Rattle.places.specs.Windows.{Window, fixed_prg, house_chr_ram, board_chr_ram}
use Rattle.places.specs.Windows.Window.{Chr8K}

-- "PPU reads CHR"; "8000-BFFF first PRG block; C000-FFFF second, or first again if only one"
unfoldable pub read_window : Cartridge → ℕ → Window
read_window c a = cond (ltb a 0x2000) (Chr8K 0) (fixed_prg c a)

-- house: PPU "writes CHR RAM"; board: "CHR RAM is read and written through the banks, on all boards; CHR ROM ignores writes"
unfoldable pub write_window_in : Mode → Cartridge → ℕ → Window
write_window_in House c a = house_chr_ram c a
write_window_in Board c a = board_chr_ram c 0 a

-- what a write finds, in the mode that the cartridge has
abbrev pub write_window : Cartridge → ℕ → Window
write_window c a = write_window_in c.mode c a
