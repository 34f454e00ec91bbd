-- MMC3: the two marks that protect PRG RAM on the real board. "M-111" is that request of document 02; its words are quoted.
use Rattle.std.specs.Prelude.{ℕ, ◌/◌, ◌%◌, true, false, cond, not, ◌&&◌, eqb}
use Rattle.common.specs.declared.Mode.{Mode}
use Rattle.common.specs.declared.Mode.TheVariants.{House, Board}
use Rattle.cartridge.specs.declared.Cartridge.{Cartridge}
use Rattle.places.specs.Windows.{Window, prg_ram_of}
use Rattle.places.specs.Windows.Window.{Empty}
use Rattle.mmc3.specs.declared.RamMarks.{RamMarks}

-- "We start it enabled and writable"
abbrev pub ram_start : RamMarks
ram_start = record { enabled = true; denied = false }

-- what a byte says of both: "bit 7, RAM enabled, and bit 6, writes denied"
abbrev pub marks_in : ℕ → RamMarks
marks_in v = record { enabled = eqb (v / 128 % 2) 1; denied = eqb (v / 64 % 2) 1 }

-- the marks after a write that sets them; house: "they stay at enabled and writable"; "In board mode" the byte says both
unfoldable pub marks_after : Mode → RamMarks → ℕ → RamMarks
marks_after House r v = r
marks_after Board r v = marks_in v

-- what a read finds at 6000-7FFF: "Disabled RAM reads 0"; "Where M-100 says that no PRG RAM exists, these marks change nothing"
unfoldable pub ram_read : RamMarks → Cartridge → Window
ram_read r c = cond r.enabled (prg_ram_of c) Empty

-- what a write finds there: "disabled or denied RAM ignores writes"
unfoldable pub ram_written : RamMarks → Cartridge → Window
ram_written r c = cond (r.enabled && not r.denied) (prg_ram_of c) Empty
