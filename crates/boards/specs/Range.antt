-- "State ranges", and the refusals that come before the board's own: 9 and 10.
use Rattle.std.specs.Prelude.{ℕ, Bool, true, not, ◌&&◌, List, [], ◌∷◌, eqb, Ok, Err}
use Rattle.common.specs.Answers.{same, is_headers}
use Rattle.common.specs.declared.Mode.{Mode}
use Rattle.common.specs.declared.Mode.TheVariants.{House, Board as OnBoard}
use Rattle.common.specs.declared.Mirroring.{Mirroring}
use Rattle.cartridge.specs.Refusals.{Row, given, first}
use Rattle.cartridge.specs.Load.{could_load}
use Rattle.cartridge.specs.declared.MapperType.{MapperType}
use Rattle.cartridge.specs.declared.MapperType.TheVariants.{Nrom, Mmc1, Uxrom, Cnrom, Mmc3}
use Rattle.cartridge.specs.Refusals.{Verdict}
use Rattle.places.specs.Places.{Landing}
use Rattle.boards.specs.Registers.{fits}
use Rattle.boards.specs.declared.Board.{Board}

-- "Current mirroring equals the header's, except in board mode: any of the four on MMC1, horizontal or vertical on MMC3"
unfoldable pub screens_fit : Mode → MapperType → Mirroring → Mirroring → Bool
screens_fit House k headers now = same now headers
screens_fit OnBoard Nrom headers now = same now headers
screens_fit OnBoard Mmc1 headers now = true
screens_fit OnBoard Uxrom headers now = same now headers
screens_fit OnBoard Cnrom headers now = same now headers
screens_fit OnBoard Mmc3 headers now = is_headers now

-- the current mirroring of a board is in that range
unfoldable pub mirroring_fits : Board → Bool
mirroring_fits b = screens_fit b.cart.mode b.cart.mapper b.cart.mirroring b.mirroring

-- refusal 10: "a state field is out of its range"
unfoldable pub in_range : Board → Bool
in_range b = could_load b.cart && fits b.cart.mapper b.cart.mode b.registers && mirroring_fits b

-- refusal 10: "or (read, write) the image length is not the one loaded"
unfoldable pub is_loaded : Board → ℕ → Bool
is_loaded b length = in_range b && eqb length b.cart.length

-- "In read and write: 9, 10, then the board's own": the two that come before it
abbrev pub call_refusals : Bool → Bool → List Row
call_refusals rams state =
    given 9 (not rams)
    ∷ given 10 (not state)
    ∷ []

-- where an address lands, unless a refusal is given
abbrev pub unless_refused : Verdict → Landing → Landing
unless_refused (Ok tt) l = l
unless_refused (Err why) l = Err why

-- where an address lands: unless 9 or 10 is given, where the board itself says, which may be a refusal of its own
unfoldable pub guarded : Bool → Bool → Landing → Landing
guarded rams state l = unless_refused (first (call_refusals rams state)) l
