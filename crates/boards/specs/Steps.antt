-- What the code tests in place of a definition; `Screens` of proofs/ joins the two.
use Rattle.std.specs.Prelude.{Bool, true, cond}
use Rattle.common.specs.Answers.{same, is_headers}
use Rattle.common.specs.declared.Mode.{Mode}
use Rattle.common.specs.declared.Mode.TheVariants.{House, Board as OnBoard}
use Rattle.common.specs.declared.Mirroring.{Mirroring}
use Rattle.cartridge.specs.Mappers.{is_mapper}
use Rattle.cartridge.specs.declared.Cartridge.{Cartridge}
use Rattle.cartridge.specs.declared.MapperType.{MapperType}
use Rattle.cartridge.specs.declared.MapperType.TheVariants.{Mmc1, Mmc3}

-- board mode: by whether the current mirroring is the header's, and whether it is one that a header can ask for
unfoldable pub turned_fit : MapperType → Bool → Bool → Bool
turned_fit k same headers = cond (is_mapper k Mmc1) true (cond (is_mapper k Mmc3) headers same)

-- in either mode, by the same two
unfoldable pub screens_by : Mode → MapperType → Bool → Bool → Bool
screens_by House k same headers = same
screens_by OnBoard k same headers = turned_fit k same headers

-- of a cartridge and the current mirroring
abbrev pub screens_tested : Cartridge → Mirroring → Bool
screens_tested c now = screens_by c.mode c.mapper (same now c.mirroring) (is_headers now)
