-- M-106, AxROM and GxROM: where an address lands, of a CHR and a PRG bank.
use Rattle.std.specs.Prelude.{ℕ, ◌%◌, cond, ltb, Ok}
use Rattle.common.specs.Common.{KB32}
use Rattle.cartridge.specs.declared.Cartridge.{Cartridge}
use Rattle.places.specs.Places.{in_prg}
use Rattle.places.specs.Windows.{lands_in}
use Rattle.places.specs.Windows.Window.{Chr8K}
use Rattle.places.specs.Places.{Landing}
use Rattle.places.specs.declared.Place.TheVariants.{Nowhere}

-- "a 32 KB PRG bank", which lies on a multiple of its size
unfoldable pub in_prg_32k : Cartridge → ℕ → ℕ → Landing
in_prg_32k c n a = in_prg c KB32 n (a % KB32)

-- "CHR is as on the other boards; 2000-7FFF reads 0"; at 8000-FFFF "a 32 KB PRG bank"; "Banks are taken modulo their count"
unfoldable pub whole_banks : Cartridge → ℕ → ℕ → ℕ → Landing
whole_banks c chr prg a = cond (ltb a 0x2000) (lands_in c (Chr8K chr) a) (cond (ltb a 0x8000) (Ok Nowhere) (in_prg_32k c prg a))
