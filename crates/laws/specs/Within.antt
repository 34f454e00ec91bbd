-- What a place names, and whether it lies inside.
use Rattle.std.specs.Prelude.{◌+◌, ◌*◌, ◌<◌, Bool, false, cond, Ok, Err}
use Rattle.common.specs.Common.{KB8}
use Rattle.cartridge.specs.Load.{prg_total}
use Rattle.cartridge.specs.Mappers.{is_mapper}
use Rattle.cartridge.specs.declared.Cartridge.{Cartridge}
use Rattle.cartridge.specs.declared.MapperType.{MapperType}
use Rattle.cartridge.specs.declared.MapperType.TheVariants.{Mmc3}
use Rattle.places.specs.declared.Place.TheVariants.{Prg, Chr, PrgRam, ChrRam, Nowhere}
use Rattle.places.specs.Places.{Landing}
use Rattle.boards.specs.declared.Registers.{Registers}

-- a place of the image lies among the bytes of its kind and before the image's end, a place of a RAM among its 8,192 bytes
abbrev pub Lies : Cartridge → Landing → Type 0
Lies c (Ok (Prg i)) = (i < prg_total c) × (16 + i < c.length)
Lies c (Ok (Chr i)) = (i < c.chr * KB8) × (16 + prg_total c + i < c.length)
Lies c (Ok (PrgRam i)) = i < 8192
Lies c (Ok (ChrRam i)) = i < 8192
Lies c (Ok Nowhere) = Unit {0}
Lies c (Err why) = Unit {0}

-- whether writes to PRG RAM are denied: on MMC3 by its mark, M-111: "denied RAM ignores writes"
abbrev pub writes_denied : MapperType → Registers → Bool
writes_denied k r = cond (is_mapper k Mmc3) r.mmc3.ram.denied false

-- where a byte goes that is written where it would be read: RAM takes it, PRG RAM unless it is denied; "CHR ROM ignores writes", and so does PRG ROM
abbrev pub ram_at : Bool → Landing → Landing
ram_at denied (Ok (Prg i)) = Ok Nowhere
ram_at denied (Ok (Chr i)) = Ok Nowhere
ram_at denied (Ok (PrgRam i)) = cond denied (Ok Nowhere) (Ok (PrgRam i))
ram_at denied (Ok (ChrRam i)) = Ok (ChrRam i)
ram_at denied (Ok Nowhere) = Ok Nowhere
ram_at denied (Err why) = Err why

-- a landing that is no refusal
abbrev pub Found : Landing → Type 0
Found (Ok p) = Unit {0}
Found (Err why) = ⊥
