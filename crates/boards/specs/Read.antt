-- The public read.
use Rattle.std.specs.Prelude.{ℕ, Bool, List, length}
use Rattle.cartridge.specs.Load.{rams_fit}
use Rattle.cartridge.specs.declared.Cartridge.{Cartridge}
use Rattle.cartridge.specs.declared.MapperType.{MapperType}
use Rattle.cartridge.specs.declared.MapperType.TheVariants.{Nrom, Mmc1, Uxrom, Cnrom, Mmc3}
use Rattle.places.specs.Places.{byte_at, answer_at}
use Rattle.places.specs.Windows.{Window, lands_in}
use Rattle.places.specs.Places.{Landing}
use Rattle.places.specs.Places.{ReadAnswer}
use Rattle.nrom.specs.Nrom as nrom
use Rattle.uxrom.specs.Uxrom as uxrom
use Rattle.cnrom.specs.Cnrom as cnrom
use Rattle.mmc1.specs.Read as mmc1
use Rattle.mmc3.specs.Read as mmc3
use Rattle.boards.specs.Range.{is_loaded, guarded}
use Rattle.boards.specs.declared.Board.{Board}
use Rattle.boards.specs.declared.Registers.{Registers}

-- what a read finds at an address, on each board
unfoldable pub read_window_on : MapperType → Registers → Cartridge → ℕ → Window
read_window_on Nrom r c a = nrom.read_window c a
read_window_on Mmc1 r c a = mmc1.read_window r.mmc1 c a
read_window_on Uxrom r c a = uxrom.read_window r.uxrom c a
read_window_on Cnrom r c a = cnrom.read_window r.cnrom c a
read_window_on Mmc3 r c a = mmc3.read_window r.mmc3 c a

-- where a read lands, on the board of the mapper that the cartridge names
unfoldable pub read_landing : Board → ℕ → Landing
read_landing b a = lands_in b.cart (read_window_on b.cart.mapper b.registers b.cart a) a

-- the byte there, or the refusal: 9, 10 unless the state may be served, then the board's own
abbrev pub read_if : Bool → Board → List ℕ → List ℕ → List ℕ → ℕ → ReadAnswer
read_if state b image prg chr a =
    answer_at (guarded (rams_fit (length prg) (length chr)) state (read_landing b a)) (byte_at b.cart (read_landing b a) image prg chr)

-- the read: served exactly where the board is in range and has this image
unfoldable pub read : Board → List ℕ → List ℕ → List ℕ → ℕ → ReadAnswer
read b image prg chr a = read_if (is_loaded b (length image)) b image prg chr a
