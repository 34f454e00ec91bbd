-- AxROM, document 02, M-106: what a read and a write find at an address, and what a write leaves. Board mode only.
use Rattle.std.specs.Prelude.{ℕ, ◌/◌, ◌%◌, Bool, cond, ltb, eqb, Some, None, Option}
use Rattle.common.specs.declared.Mirroring.{Mirroring}
use Rattle.common.specs.declared.Mirroring.TheVariants.{SingleScreenUpper, SingleScreenLower}
use Rattle.cartridge.specs.declared.Cartridge.{Cartridge}
use Rattle.places.specs.Whole.{whole_banks}
use Rattle.places.specs.Windows.{Window, board_chr_ram}
use Rattle.places.specs.Places.{Landing}
use Rattle.axrom.specs.declared.Axrom.{Axrom}
use Rattle.common.specs.declared.Outcome.{Outcome}

-- "it starts at bank 0"
abbrev pub start : Axrom
start = record { bank = 0 }

-- document 01: "A field that the board doesn't use holds its start value"
abbrev pub is_start : Axrom → Bool
is_start u = eqb u.bank 0

-- "The fields range as these bits allow": three
abbrev pub fits : Axrom → Bool
fits u = ltb u.bank 8

-- "a 32 KB PRG bank"; CHR has no register: its bank is the first
abbrev pub read_place : Axrom → Cartridge → ℕ → Landing
read_place u c a = whole_banks c 0 u.bank a

-- "CHR is as on the other boards; 2000-7FFF .. ignores writes"
abbrev pub write_window : Cartridge → ℕ → Window
write_window c a = board_chr_ram c 0 a

-- "the lower or upper screen from bit 4"
unfoldable pub screen : ℕ → Mirroring
screen v = cond (eqb (v / 16 % 2) 1) SingleScreenUpper SingleScreenLower

-- the board after a write, and what the write asks of the screens
abbrev pub Wrote : Type 0
Wrote = Outcome Axrom (Option Mirroring)

-- "a write to 8000-FFFF takes a 32 KB PRG bank from bits 0-2 and the lower or upper screen from bit 4"
unfoldable pub written : Axrom → ℕ → ℕ → Wrote
written u v a =
    cond (ltb a 0x8000) (record { left = u; answer = None }) (record { left = record { bank = v % 8 }; answer = Some (screen v) })
