-- GxROM, document 02, M-106: what a read and a write find at an address, and what a write leaves. Board mode only.
use Rattle.std.specs.Prelude.{ℕ, ◌/◌, ◌%◌, Bool, cond, ◌&&◌, ltb, eqb}
use Rattle.cartridge.specs.declared.Cartridge.{Cartridge}
use Rattle.places.specs.Whole.{whole_banks}
use Rattle.places.specs.Windows.{Window, board_chr_ram}
use Rattle.places.specs.Places.{Landing}
use Rattle.gxrom.specs.declared.Gxrom.{Gxrom}

-- document 01: "Registers start at 0"
abbrev pub start : Gxrom
start = record { prg = 0; chr = 0 }

-- document 01: "A field that the board doesn't use holds its start value"
abbrev pub is_start : Gxrom → Bool
is_start g = eqb g.prg 0 && eqb g.chr 0

-- "The fields range as these bits allow": two each
abbrev pub fits : Gxrom → Bool
fits g = ltb g.prg 4 && ltb g.chr 4

-- a "CHR bank" and a "32 KB PRG bank"
abbrev pub read_place : Gxrom → Cartridge → ℕ → Landing
read_place g c a = whole_banks c g.chr g.prg a

-- "CHR is as on the other boards; 2000-7FFF .. ignores writes"
abbrev pub write_window : Gxrom → Cartridge → ℕ → Window
write_window g c a = board_chr_ram c g.chr a

-- "on the same writes, CHR bank in bits 0-1, 32 KB PRG bank in bits 4-5"
unfoldable pub written : Gxrom → ℕ → ℕ → Gxrom
written g v a = cond (ltb a 0x8000) g (record { prg = v / 16 % 4; chr = v % 4 })
