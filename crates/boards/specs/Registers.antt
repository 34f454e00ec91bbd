-- The registers of all boards, a part for each: their start, their ranges, and what a write and a clock leave of them.
use Rattle.std.specs.Prelude.{ℕ, Bool, true, false, cond, ◌&&◌, Option, None}
use Rattle.common.specs.declared.Outcome.{Outcome}
use Rattle.common.specs.declared.Mode.{Mode}
use Rattle.cartridge.specs.Mappers.{is_mapper}
use Rattle.cartridge.specs.declared.MapperType.{MapperType}
use Rattle.cartridge.specs.declared.MapperType.TheVariants.{Nrom, Mmc1, Uxrom, Cnrom, Mmc3}
use Rattle.uxrom.specs.Uxrom as uxrom
use Rattle.uxrom.specs.declared.Uxrom as uxrom-type
use Rattle.cnrom.specs.Cnrom as cnrom
use Rattle.cnrom.specs.declared.Cnrom as cnrom-type
use Rattle.mmc1.specs.Range as mmc1
use Rattle.mmc1.specs.Write as mmc1-write
use Rattle.mmc1.specs.declared.Mmc1 as mmc1-type
use Rattle.mmc3.specs.Range as mmc3
use Rattle.mmc3.specs.Write as mmc3-write
use Rattle.mmc3.specs.Clock as mmc3-clock
use Rattle.mmc3.specs.declared.Mmc3 as mmc3-type
use Rattle.boards.specs.declared.Registers.{Registers}
use Rattle.common.specs.declared.Mirroring.{Mirroring}

-- what a write leaves of the registers, and what it asks of the screens
abbrev pub Moved : Type 0
Moved = Outcome Registers (Option Mirroring)

-- what a clock leaves of them, and whether its answer is yes
abbrev pub Ticked : Type 0
Ticked = Outcome Registers Bool

-- registers with another UxROM bank
abbrev pub with_uxrom : Registers → uxrom-type.Uxrom → Registers
with_uxrom r u = record { uxrom = u; cnrom = r.cnrom; mmc1 = r.mmc1; mmc3 = r.mmc3 }

-- registers with another CNROM bank
abbrev pub with_cnrom : Registers → cnrom-type.Cnrom → Registers
with_cnrom r u = record { uxrom = r.uxrom; cnrom = u; mmc1 = r.mmc1; mmc3 = r.mmc3 }

-- registers with others for MMC1
abbrev pub with_mmc1 : Registers → mmc1-type.Mmc1 → Registers
with_mmc1 r m = record { uxrom = r.uxrom; cnrom = r.cnrom; mmc1 = m; mmc3 = r.mmc3 }

-- registers with others for MMC3
abbrev pub with_mmc3 : Registers → mmc3-type.Mmc3 → Registers
with_mmc3 r m = record { uxrom = r.uxrom; cnrom = r.cnrom; mmc1 = r.mmc1; mmc3 = m }

-- PRG mode 3 is MMC1's start value only
unfoldable pub mmc1_start : MapperType → mmc1-type.Mmc1
mmc1_start k = cond (is_mapper k Mmc1) mmc1.start mmc1.unused

-- "Registers start at 0 except as said"
unfoldable pub start : MapperType → Registers
start k = record { uxrom = uxrom.start; cnrom = cnrom.start; mmc1 = mmc1_start k; mmc3 = mmc3.start }

-- a part is in its range where it is this board's; "A field that the board doesn't use holds its start value"
unfoldable pub part_fits : MapperType → MapperType → Bool → Bool → Bool
part_fits k owner in_range at_start = cond (is_mapper k owner) in_range at_start

-- every part of the registers is in its range, or at its start
unfoldable pub fits : MapperType → Mode → Registers → Bool
fits k mode r =
    part_fits k Uxrom true (uxrom.is_start r.uxrom)
    && part_fits k Cnrom (cnrom.fits r.cnrom) (cnrom.is_start r.cnrom)
    && part_fits k Mmc1 (mmc1.fits r.mmc1) (mmc1.is_unused r.mmc1)
    && part_fits k Mmc3 (mmc3.fits mode r.mmc3) (mmc3.is_start r.mmc3)

-- the registers, and what is asked of the screens
abbrev pub asking : Registers → Option Mirroring → Moved
asking r mirrors = record { left = r; answer = mirrors }

-- what an accepted write leaves of the registers and asks of the screens, on each board
unfoldable pub moved : MapperType → Mode → Registers → ℕ → ℕ → Moved
moved Nrom mode r v a = asking r None
moved Mmc1 mode r v a = let w = mmc1-write.written mode r.mmc1 v a in asking (with_mmc1 r w.left) w.answer
moved Uxrom mode r v a = asking (with_uxrom r (uxrom.written r.uxrom v a)) None
moved Cnrom mode r v a = asking (with_cnrom r (cnrom.written r.cnrom v a)) None
moved Mmc3 mode r v a = let w = mmc3-write.written mode r.mmc3 v a in asking (with_mmc3 r w.left) w.answer

-- the registers after a clock of MMC3, whose unit and line move
abbrev pub mmc3_ticked : Mode → Registers → Ticked
mmc3_ticked mode r = let t = mmc3-clock.clocked mode r.mmc3 in record { left = with_mmc3 r t.left; answer = t.answer }

-- what a clock leaves of them and answers; "Other boards: no"
unfoldable pub ticked : MapperType → Mode → Registers → Ticked
ticked k mode r = cond (is_mapper k Mmc3) (mmc3_ticked mode r) (record { left = r; answer = false })
