-- The code's two tests of the current mirroring say what its range says, by the modes and the mappers. Assumes nothing.
use mathlib.Core.Path.{◌≡◌, refl}
use Rattle.common.specs.Answers.{same, is_headers}
use Rattle.common.specs.declared.Mode.{Mode}
use Rattle.common.specs.declared.Mode.TheVariants.{House, Board as OnBoard}
use Rattle.common.specs.declared.Mirroring.{Mirroring}
use Rattle.cartridge.specs.Mappers.{is_mapper}
use Rattle.cartridge.specs.declared.MapperType.{MapperType}
use Rattle.cartridge.specs.declared.MapperType.TheVariants.{Nrom, Mmc1, Uxrom, Cnrom, Mmc3}
use Rattle.boards.specs.Range.{screens_fit}
use Rattle.boards.specs.Steps.{turned_fit, screens_by}

pub by_two_tests : (mode : Mode) (k : MapperType) (headers now : Mirroring) → screens_by mode k (same now headers) (is_headers now) ≡ screens_fit mode k headers now
unfolding screens_by turned_fit screens_fit is_mapper
by_two_tests House k headers now = refl
by_two_tests OnBoard Nrom headers now = refl
by_two_tests OnBoard Mmc1 headers now = refl
by_two_tests OnBoard Uxrom headers now = refl
by_two_tests OnBoard Cnrom headers now = refl
by_two_tests OnBoard Mmc3 headers now = refl
