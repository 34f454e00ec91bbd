-- What the code does in place of a definition; `Windows` of proofs/ joins the two.
use Rattle.std.specs.Prelude.{cond, Ok}
use Rattle.cartridge.specs.Load.{has_chr_ram}
use Rattle.cartridge.specs.declared.Cartridge.{Cartridge}
use Rattle.places.specs.declared.Place.TheVariants.{Nowhere}
use Rattle.places.specs.Places.{Landing}

-- where a CHR address lands, if there is CHR RAM
unfoldable pub if_chr_ram : Cartridge → Landing → Landing
if_chr_ram c l = cond (has_chr_ram c) l (Ok Nowhere)
