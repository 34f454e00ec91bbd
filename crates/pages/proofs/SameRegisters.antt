-- Registers that are the same have moved no part, since each of them equals itself. Assumes nothing.
use Prim.Native.Nat.{ℕ}
use mathlib.Core.Path.{◌≡◌, refl}
use mathlib.Core.Bool.{true, false}
use lib.Dec.{eqb}
use borrow.Author.Tests.{eq-eqb}
use Rattle.cartridge.specs.Mappers.{is_mapper}
use Rattle.cartridge.specs.declared.MapperType.{MapperType}
use Rattle.cartridge.specs.declared.MapperType.TheVariants.{Nrom, Mmc1, Uxrom, Cnrom, Mmc3}
use Rattle.boards.specs.declared.Registers.{Registers}
use Rattle.pages.specs.Parts.{same_chr1, same_prg1, same_chr3, same_prg3, same_ram3, same_chr, same_prg, same_ram, parts_moved}

equals : (n : ℕ) → eqb n n ≡ true
equals n = eq-eqb n n refl

pub parts_self : (k : MapperType) (r : Registers) → parts_moved k r r ≡ record { chr = false; prg = false; ram = false }
unfolding parts_moved same_chr same_prg same_ram is_mapper same_chr1 same_prg1 same_chr3 same_prg3 same_ram3
parts_self Nrom r = refl
parts_self Mmc1 r = simp equals
parts_self Uxrom r = simp equals
parts_self Cnrom r = simp equals
parts_self Mmc3 r = simp equals
