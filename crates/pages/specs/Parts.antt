-- Which pages a change of registers may have moved: those of 0000-1FFF, those of 8000-FFFF, and on MMC3 those of 6000-7FFF. No register is seen elsewhere.
use Rattle.std.specs.Prelude.{ℕ, Bool, true, not, cond, ◌&&◌, eqb}
use mir.Val.{bool_byte}
use Rattle.cartridge.specs.Mappers.{is_mapper}
use Rattle.cartridge.specs.declared.MapperType.{MapperType}
use Rattle.cartridge.specs.declared.MapperType.TheVariants.{Nrom, Mmc1, Uxrom, Cnrom, Mmc3}
use Rattle.mmc1.specs.declared.Regs.{Regs}
use Rattle.mmc3.specs.Read.{register}
use Rattle.mmc3.specs.declared.Mmc3 as mmc3-type
use Rattle.boards.specs.declared.Registers.{Registers}
use Rattle.pages.specs.declared.Parts.{Parts}

-- two MMC1 boards have the same CHR mode and CHR banks
unfoldable pub same_chr1 : Regs → Regs → Bool
same_chr1 r s = eqb r.chrmode s.chrmode && eqb r.chr0 s.chr0 && eqb r.chr1 s.chr1

-- two MMC1 boards have the same PRG mode and PRG bank
unfoldable pub same_prg1 : Regs → Regs → Bool
same_prg1 r s = eqb r.prgmode s.prgmode && eqb r.prg s.prg

-- two MMC3 boards have the same Rn
abbrev pub same_r : mmc3-type.Mmc3 → mmc3-type.Mmc3 → ℕ → Bool
same_r m n k = eqb (register m k) (register n k)

-- two MMC3 boards have the same CHR mode, and R0 to R5
unfoldable pub same_chr3 : mmc3-type.Mmc3 → mmc3-type.Mmc3 → Bool
same_chr3 m n = eqb m.chrmode n.chrmode && same_r m n 0 && same_r m n 1 && same_r m n 2 && same_r m n 3 && same_r m n 4 && same_r m n 5

-- two MMC3 boards have the same PRG mode, R6 and R7
unfoldable pub same_prg3 : mmc3-type.Mmc3 → mmc3-type.Mmc3 → Bool
same_prg3 m n = eqb m.prgmode n.prgmode && same_r m n 6 && same_r m n 7

-- two boards have the same mark
abbrev pub same_mark : Bool → Bool → Bool
same_mark s t = eqb (bool_byte s) (bool_byte t)

-- two MMC3 boards have the same marks of RAM
unfoldable pub same_ram3 : mmc3-type.Mmc3 → mmc3-type.Mmc3 → Bool
same_ram3 m n = same_mark m.ram.enabled n.ram.enabled && same_mark m.ram.denied n.ram.denied

-- on each board: all that 0000-1FFF hangs on beside the cartridge is the same
unfoldable pub same_chr : MapperType → Registers → Registers → Bool
same_chr Nrom r s = true
same_chr Mmc1 r s = same_chr1 r.mmc1.regs s.mmc1.regs
same_chr Uxrom r s = true
same_chr Cnrom r s = eqb r.cnrom.bank s.cnrom.bank
same_chr Mmc3 r s = same_chr3 r.mmc3 s.mmc3

-- on each board: all that 8000-FFFF hangs on beside the cartridge is the same
unfoldable pub same_prg : MapperType → Registers → Registers → Bool
same_prg Nrom r s = true
same_prg Mmc1 r s = same_prg1 r.mmc1.regs s.mmc1.regs
same_prg Uxrom r s = eqb r.uxrom.bank s.uxrom.bank
same_prg Cnrom r s = true
same_prg Mmc3 r s = same_prg3 r.mmc3 s.mmc3

-- all that 6000-7FFF hangs on beside the cartridge is the same: the marks, on MMC3
unfoldable pub same_ram : MapperType → Registers → Registers → Bool
same_ram k r s = cond (is_mapper k Mmc3) (same_ram3 r.mmc3 s.mmc3) true

-- the parts whose registers differ
unfoldable pub parts_moved : MapperType → Registers → Registers → Parts
parts_moved k before after = record { chr = not (same_chr k before after); prg = not (same_prg k before after); ram = not (same_ram k before after) }
