-- The mappers and their iNES numbers.
use Rattle.std.specs.Prelude.{ℕ, Bool, cond, eqb}
use Rattle.cartridge.specs.declared.MapperType.{MapperType}
use Rattle.cartridge.specs.declared.MapperType.TheVariants.{Nrom, Mmc1, Uxrom, Cnrom, Mmc3}

-- the iNES numbers of "the five boards NROM, MMC1, UxROM, CNROM, MMC3"
abbrev pub mapper_number : MapperType → ℕ
mapper_number Nrom = 0
mapper_number Mmc1 = 1
mapper_number Uxrom = 2
mapper_number Cnrom = 3
mapper_number Mmc3 = 4

-- whether a mapper is this one
unfoldable pub is_mapper : MapperType → MapperType → Bool
is_mapper k this = eqb (mapper_number k) (mapper_number this)

-- the board of a mapper number up to 4
unfoldable pub mapper_type : ℕ → MapperType
mapper_type n = cond (eqb n 0) Nrom (cond (eqb n 1) Mmc1 (cond (eqb n 2) Uxrom (cond (eqb n 3) Cnrom Mmc3)))
