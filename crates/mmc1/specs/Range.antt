-- MMC1: its start, and the ranges of its fields.
use Rattle.std.specs.Prelude.{◌-◌, ◌%◌, ◌^◌, Bool, ◌&&◌, ltb, eqb}
use Rattle.mmc1.specs.Write.{empty}
use Rattle.mmc1.specs.declared.Serial.{Serial}
use Rattle.mmc1.specs.declared.Regs.{Regs}
use Rattle.mmc1.specs.declared.Mmc1.{Mmc1}

-- "Start: PRG mode 3, 8 KB CHR"
abbrev pub start : Mmc1
start = record { serial = empty; regs = record { prgmode = 3; chrmode = 0; chr0 = 0; chr1 = 0; prg = 0 } }

-- "A field that the board doesn't use holds its start value", on other boards 0
abbrev pub unused : Mmc1
unused = record { serial = empty; regs = record { prgmode = 0; chrmode = 0; chr0 = 0; chr1 = 0; prg = 0 } }

-- every field is at that value
unfoldable pub is_unused : Mmc1 → Bool
is_unused m =
    eqb m.serial.count 0
    && eqb m.serial.value 0
    && eqb m.regs.prgmode 0
    && eqb m.regs.chrmode 0
    && eqb m.regs.chr0 0
    && eqb m.regs.chr1 0
    && eqb m.regs.prg 0

-- "serial count 0-4, serial value up to 31 and a multiple of 2^(5 - count)"
unfoldable pub serial_fits : Serial → Bool
serial_fits s = ltb s.count 5 && ltb s.value 32 && eqb (s.value % 2 ^ (5 - s.count)) 0

-- "CHR up to 31; PRG up to 15; .. PRG mode 0-3 on MMC1 ..; CHR mode 0-1"
unfoldable pub regs_fits : Regs → Bool
regs_fits r = ltb r.prgmode 4 && ltb r.chrmode 2 && ltb r.chr0 32 && ltb r.chr1 32 && ltb r.prg 16

-- the serial register and the others are in their ranges
unfoldable pub fits : Mmc1 → Bool
fits m = serial_fits m.serial && regs_fits m.regs
