-- UxROM: what a read and a write find at an address, and what a write leaves.
use Rattle.std.specs.Prelude.{ℕ, Bool, cond, ltb, eqb}
use Rattle.common.specs.declared.Mode.{Mode}
use Rattle.common.specs.declared.Mode.TheVariants.{House, Board}
use Rattle.cartridge.specs.Load.{last_prg}
use Rattle.cartridge.specs.declared.Cartridge.{Cartridge}
use Rattle.places.specs.Windows.{Window, house_chr_ram, board_chr_ram}
use Rattle.places.specs.Windows.Window.{Chr8K, Prg16K, Empty}
use Rattle.uxrom.specs.declared.Uxrom.{Uxrom}

-- "Registers start at 0"
abbrev pub start : Uxrom
start = record { bank = 0 }

-- "PPU as NROM"; "8000-BFFF that bank; C000-FFFF the last"
unfoldable pub read_window : Uxrom → Cartridge → ℕ → Window
read_window u c a =
    cond (ltb a 0x2000) (Chr8K 0)
    (cond (ltb a 0x8000) Empty
    (cond (ltb a 0xC000) (Prg16K u.bank) (Prg16K (last_prg c))))

-- house: "PPU as NROM"; board: "CHR RAM is read and written through the banks, on all boards; CHR ROM ignores writes"
unfoldable pub write_window_in : Mode → Uxrom → Cartridge → ℕ → Window
write_window_in House u c a = house_chr_ram c a
write_window_in Board u c a = board_chr_ram c 0 a

-- what a write finds, in the mode that the cartridge has
abbrev pub write_window : Uxrom → Cartridge → ℕ → Window
write_window u c a = write_window_in c.mode u c a

-- "Any write to 8000-FFFF sets the bank to the whole byte"
unfoldable pub written : Uxrom → ℕ → ℕ → Uxrom
written u v a = cond (ltb a 0x8000) u (record { bank = v })

-- "A field that the board doesn't use holds its start value"
abbrev pub is_start : Uxrom → Bool
is_start u = eqb u.bank 0
