-- MMC3: its start, and the ranges of its fields.
use Rattle.std.specs.Prelude.{◌%◌, Bool, true, false, not, ◌&&◌, [], ◌∷◌, ltb, eqb}
use Rattle.common.specs.declared.Mode.{Mode}
use Rattle.common.specs.declared.Mode.TheVariants.{House, Board}
use Rattle.mmc3.specs.Ram.{ram_start}
use Rattle.mmc3.specs.Read.{register}
use Rattle.mmc3.specs.declared.Irq.{Irq}
use Rattle.mmc3.specs.declared.Mmc3.{Mmc3}
use Rattle.mmc3.specs.declared.RamMarks.{RamMarks}

-- "Registers start at 0 except as said"; M-101: "The line is low at load"; M-111: "We start it enabled and writable"
unfoldable pub start : Mmc3
start =
    record {
      select = 0;
      prgmode = 0;
      chrmode = 0;
      regs = 0 ∷ 0 ∷ 0 ∷ 0 ∷ 0 ∷ 0 ∷ 0 ∷ 0 ∷ [];
      irq = record { enabled = false; latch = 0; counter = 0; reload = false };
      line = false;
      ram = ram_start;
    }

-- the unit at its start
unfoldable pub irq_is_start : Irq → Bool
irq_is_start i = not i.enabled && eqb i.latch 0 && eqb i.counter 0 && not i.reload

-- the marks of RAM at their start
unfoldable pub ram_is_start : RamMarks → Bool
ram_is_start r = r.enabled && not r.denied

-- "A field that the board doesn't use holds its start value"
unfoldable pub is_start : Mmc3 → Bool
is_start m =
    eqb m.select 0
    && eqb m.prgmode 0
    && eqb m.chrmode 0
    && (eqb (register m 0) 0
    && eqb (register m 1) 0
    && eqb (register m 2) 0
    && eqb (register m 3) 0
    && eqb (register m 4) 0
    && eqb (register m 5) 0
    && eqb (register m 6) 0
    && eqb (register m 7) 0)
    && not m.line
    && irq_is_start m.irq
    && ram_is_start m.ram

-- M-101: "always low in house mode"; "it may be up on MMC3 here, enabled or not"
unfoldable pub line_fits : Mode → Bool → Bool
line_fits House line = not line
line_fits Board line = true

-- M-111: "in house mode they stay at enabled and writable, and any other setting is out of range"
unfoldable pub ram_fits : Mode → RamMarks → Bool
ram_fits House r = ram_is_start r
ram_fits Board r = true

-- "PRG mode .. 0-1 on MMC3; CHR mode 0-1; select 0-7; R0, R1 even; R6, R7 up to 63"; and the line and RAM's marks by the mode
unfoldable pub fits : Mode → Mmc3 → Bool
fits mode m =
    (ltb m.select 8 && ltb m.prgmode 2 && ltb m.chrmode 2)
    && (eqb (register m 0 % 2) 0 && eqb (register m 1 % 2) 0 && ltb (register m 6) 64 && ltb (register m 7) 64)
    && line_fits mode m.line
    && ram_fits mode m.ram
