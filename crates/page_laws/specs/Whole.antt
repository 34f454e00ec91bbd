-- What follows the first byte of a page.
use Rattle.std.specs.Prelude.{ℕ, ◌+◌, Ok, Err}
use Rattle.places.specs.declared.Place.{Place}
use Rattle.places.specs.declared.Place.TheVariants.{Prg, Chr, PrgRam, ChrRam, Nowhere}
use Rattle.places.specs.Places.{Landing}

-- the place that many bytes on
unfoldable pub moved_on : Place → ℕ → Place
moved_on (Prg i) o = Prg (i + o)
moved_on (Chr i) o = Chr (i + o)
moved_on (PrgRam i) o = PrgRam (i + o)
moved_on (ChrRam i) o = ChrRam (i + o)
moved_on Nowhere o = Nowhere

-- the landing that many bytes on; a refusal stays one
unfoldable pub shifted : Landing → ℕ → Landing
shifted (Ok p) o = Ok (moved_on p o)
shifted (Err why) o = Err why
