-- CNROM: what a read and a write find at an address, and what a write leaves.
use Rattle.std.specs.Prelude.{ℕ, ◌%◌, Bool, cond, ltb, eqb}
use Rattle.common.specs.Answers.{no}
use Rattle.common.specs.declared.Mode.{Mode}
use Rattle.common.specs.declared.Mode.TheVariants.{House, Board}
use Rattle.cartridge.specs.declared.Cartridge.{Cartridge}
use Rattle.places.specs.Windows.{Window, fixed_prg, board_chr_ram}
use Rattle.places.specs.Windows.Window.{Chr8K, PrgRam, Empty, Refused}
use Rattle.cnrom.specs.declared.Cnrom.{Cnrom}

-- "Registers start at 0"
abbrev pub start : Cnrom
start = record { bank = 0 }

-- "A field that the board doesn't use holds its start value"
abbrev pub is_start : Cnrom → Bool
is_start u = eqb u.bank 0

-- state ranges: "CNROM 0-3"
abbrev pub fits : Cnrom → Bool
fits u = ltb u.bank 4

-- house: "Two PRG blocks fill 8000-FFFF; one fills C000-FFFF only"; refusal 13: "a read of 8000-BFFF with one PRG block"
unfoldable pub house_prg : Cartridge → ℕ → Window
house_prg c a = cond (eqb c.prg 1) (cond (ltb a 0xC000) (Refused (no 13)) (fixed_prg c a)) (fixed_prg c a)

-- house: "PPU reads CHR in 8 KB bank"; refusal 13: "2000-7FFF"
unfoldable pub house_read_window : Cnrom → Cartridge → ℕ → Window
house_read_window u c a =
    cond (ltb a 0x2000) (Chr8K u.bank)
    (cond (ltb a 0x8000) (Refused (no 13))
    (house_prg c a))

-- board: "one PRG block shows twice; 2000-7FFF reads 0"
unfoldable pub board_read_window : Cnrom → Cartridge → ℕ → Window
board_read_window u c a = cond (ltb a 0x2000) (Chr8K u.bank) (fixed_prg c a)

-- what a read finds at an address, in each mode
unfoldable pub read_window_in : Mode → Cnrom → Cartridge → ℕ → Window
read_window_in House u c a = house_read_window u c a
read_window_in Board u c a = board_read_window u c a

-- what a read finds, in the mode that the cartridge has
abbrev pub read_window : Cnrom → Cartridge → ℕ → Window
read_window u c a = read_window_in c.mode u c a

-- house: "PPU writes land in PRG RAM at the same number"; refusal 13: "2000-7FFF"
unfoldable pub house_write_window : ℕ → Window
house_write_window a = cond (ltb a 0x2000) PrgRam (cond (ltb a 0x8000) (Refused (no 13)) Empty)

-- board: "CHR RAM is read and written through the banks, on all boards; CHR ROM ignores writes"; "2000-7FFF .. ignores writes"
unfoldable pub write_window_in : Mode → Cnrom → Cartridge → ℕ → Window
write_window_in House u c a = house_write_window a
write_window_in Board u c a = board_chr_ram c u.bank a

-- what a write finds, in the mode that the cartridge has
abbrev pub write_window : Cnrom → Cartridge → ℕ → Window
write_window u c a = write_window_in c.mode u c a

-- "the low two bits of the last write to 8000-FFFF"
unfoldable pub written : Cnrom → ℕ → ℕ → Cnrom
written u v a = cond (ltb a 0x8000) u (record { bank = v % 4 })
