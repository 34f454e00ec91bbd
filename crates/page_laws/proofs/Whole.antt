-- Every page of 1 KB lies whole where its first byte lies: no bound of a window falls inside a page, and no bank ends inside one. Assumes nothing.
use Rattle.std.specs.Prelude.{Option, Some, None, Ok}
use Prim.Native.Nat.{ℕ, ◌+◌, ◌*◌, ◌/◌, ◌%◌, ◌<◌}
use mathlib.Core.Path.{◌≡◌, refl, ◌∙◌, ap}
use mathlib.Core.Bool.{Bool, true, false}
use native.Mathlib.Omega.{arith}
use lib.Dec.{ltb}
use borrow.Author.Tests.{lt-ltb}
use Rattle.std.proofs.lemmas.Bool.Decides.{nat_tests}
use Rattle.common.specs.Common.{KB1, KB4, KB8, KB16}
use Rattle.common.specs.declared.Mode.{Mode}
use Rattle.common.specs.declared.Mode.TheVariants.{House, Board as OnBoard}
use Rattle.banks.specs.Banks.{bank_start}
use Rattle.cartridge.specs.Load.{prg_total, chr_total, has_chr_ram}
use Rattle.cartridge.specs.Mappers.{is_mapper}
use Rattle.cartridge.specs.declared.Cartridge.{Cartridge}
use Rattle.cartridge.specs.declared.MapperType.{MapperType}
use Rattle.cartridge.specs.declared.MapperType.TheVariants.{Nrom, Mmc1, Uxrom, Cnrom, Mmc3}
use Rattle.places.specs.Places.{prg_at, chr_at, in_prg, in_chr}
use Rattle.places.specs.Windows.{Window, lands_in, fixed_block, fixed_prg, house_chr_ram, board_chr_ram, in_windows}
use Rattle.places.specs.Windows.Window.{Prg16K, Prg8K, Chr8K, Chr4K, Chr1K, PrgRam, ChrRam, Empty, Refused}
use Rattle.places.specs.declared.Place.TheVariants as place
use Rattle.nrom.specs.Nrom as nrom
use Rattle.uxrom.specs.Uxrom as uxrom
use Rattle.cnrom.specs.Cnrom as cnrom
use Rattle.mmc1.specs.Read as mmc1
use Rattle.mmc3.specs.Read as mmc3
use Rattle.boards.specs.Read.{read_window_on, read_landing}
use Rattle.boards.specs.Write.{write_window_on, write_landing}
use Rattle.boards.specs.declared.Board.{Board}
use Rattle.boards.specs.declared.Registers.{Registers}
use Rattle.pages.specs.Pages.{has_registers}
use Rattle.page_laws.specs.Whole.{moved_on, shifted}
use Rattle.page_laws.proofs.Cases.{in_mode, below}

-- a byte of a bank is its first one moved on, for any bank size
module _ (c : Cartridge) (size n i o : ℕ) where
  prg_on : in_prg c size n (i + o) ≡ shifted (in_prg c size n i) o
  unfolding in_prg prg_at shifted moved_on
  prg_on = go (bank_start c.mode n size (prg_total c))
    where
      go : (s : Option ℕ) → prg_at s (i + o) ≡ shifted (prg_at s i) o
      go (Some s) = ap (λ (k : ℕ). Ok (place.Prg k)) (omega arith)
      go None = refl

  chr_on : in_chr c size n (i + o) ≡ shifted (in_chr c size n i) o
  unfolding in_chr chr_at shifted moved_on
  chr_on = go (has_chr_ram c) (bank_start c.mode n size (chr_total c))
    where
      go : (ram : Bool) (s : Option ℕ) → chr_at ram s (i + o) ≡ shifted (chr_at ram s i) o
      go true (Some s) = ap (λ (k : ℕ). Ok (place.ChrRam k)) (omega arith)
      go false (Some s) = ap (λ (k : ℕ). Ok (place.Chr k)) (omega arith)
      go true None = refl
      go false None = refl

-- byte o of page p
module _ (p o : ℕ) (h : o < KB1) where
  -- no bound lies inside a page
  side : (k : ℕ) → ltb (p * KB1 + o) (k * KB1) ≡ ltb (p * KB1) (k * KB1)
  side k = grind (arith, nat_tests)

  -- so that a page shows one window
  abbrev Stays : (ℕ → Window) → Type 0
  Stays window = window (p * KB1 + o) ≡ window (p * KB1)

  slot : (p * KB1 + o) / KB1 ≡ p * KB1 / KB1
  slot = omega arith

  module _ (c : Cartridge) where
    -- nor does a bank end inside one
    lands_on : (w : Window) → lands_in c w (p * KB1 + o) ≡ shifted (lands_in c w (p * KB1)) o
    unfolding lands_in shifted moved_on
    lands_on (Prg16K n) = ap (in_prg c KB16 n) (omega arith) ∙ prg_on c KB16 n (p * KB1 % KB16) o
    lands_on (Prg8K n) = ap (in_prg c KB8 n) (omega arith) ∙ prg_on c KB8 n (p * KB1 % KB8) o
    lands_on (Chr8K n) = ap (in_chr c KB8 n) (omega arith) ∙ chr_on c KB8 n (p * KB1 % KB8) o
    lands_on (Chr4K n) = ap (in_chr c KB4 n) (omega arith) ∙ chr_on c KB4 n (p * KB1 % KB4) o
    lands_on (Chr1K n) = ap (in_chr c KB1 n) (omega arith) ∙ chr_on c KB1 n (p * KB1 % KB1) o
    lands_on PrgRam = ap (λ (k : ℕ). Ok (place.PrgRam k)) (omega arith)
    lands_on ChrRam = ap (λ (k : ℕ). Ok (place.ChrRam k)) (omega arith)
    lands_on Empty = refl
    lands_on (Refused why) = refl

    fixed_stays : Stays (fixed_prg c)
    unfolding fixed_prg fixed_block
    fixed_stays = rw (side 32, side 48) refl

    cnrom_stays : (mode : Mode) (u : _) → Stays (cnrom.read_window_in mode u c)
    unfolding cnrom.read_window_in cnrom.house_read_window cnrom.board_read_window cnrom.house_prg
    cnrom_stays House u = rw (side 8, side 32, side 48, fixed_stays) refl
    cnrom_stays OnBoard u = rw (side 8, fixed_stays) refl

    -- what each board shows for reads
    read_window_lem : (k : MapperType) (r : Registers) → Stays (read_window_on k r c)
    unfolding read_window_on nrom.read_window uxrom.read_window mmc1.read_window mmc1.chr_bank mmc1.prg_bank mmc3.read_window mmc3.prg_bank in_windows
    read_window_lem Nrom r = rw (side 8, fixed_stays) refl
    read_window_lem Mmc1 r = rw (side 4, side 8, side 24, side 32, side 48) refl
    read_window_lem Uxrom r = rw (side 8, side 32, side 48) refl
    read_window_lem Cnrom r = cnrom_stays c.mode r.cnrom
    read_window_lem Mmc3 r = rw (side 8, side 24, side 32, side 40, side 48, side 56, slot) refl

    -- and for writes, where no register is written: house MMC3 shows two windows in a page of E000-FFFF, since only an even address acknowledges
    write_window : (k : MapperType) (r : Registers) → has_registers k p ≡ false → Stays (write_window_on k r c)
    unfolding write_window_on has_registers is_mapper nrom.write_window_in uxrom.write_window_in house_chr_ram board_chr_ram cnrom.write_window_in cnrom.house_write_window mmc1.write_window_in mmc1.ppu_write_in mmc1.chr_bank mmc3.write_window_in mmc3.ppu_write_in mmc3.rom_write_in in_windows
    write_window Nrom r f = in_mode (λ (m : Mode). Stays (nrom.write_window_in m c)) c.mode (rw (side 8) refl) (rw (side 8) refl)
    write_window Mmc1 r f = in_mode (λ (m : Mode). Stays (mmc1.write_window_in m r.mmc1 c)) c.mode (rw (side 8, side 24, side 32) refl) (rw (side 4, side 8, side 24, side 32) refl)
    write_window Uxrom r f = in_mode (λ (m : Mode). Stays (uxrom.write_window_in m r.uxrom c)) c.mode (rw (side 8) refl) (rw (side 8) refl)
    write_window Cnrom r f = in_mode (λ (m : Mode). Stays (cnrom.write_window_in m r.cnrom c)) c.mode (rw (side 8, side 32) refl) (rw (side 8) refl)
    write_window Mmc3 r f =
        let l : p * KB1 < 0x8000 = omega (arith, below p f) in
        in_mode (λ (m : Mode). Stays (mmc3.write_window_in m r.mmc3 c)) c.mode (rw (side 8, side 24, side 32, lt-ltb (p * KB1) 0x8000 l) refl) (rw (side 8, side 24, side 32, slot) refl)

-- every page of every board, in each mode
module _ (b : Board) where
  pub page_whole : (p o : ℕ) → o < KB1 → read_landing b (p * KB1 + o) ≡ shifted (read_landing b (p * KB1)) o
  unfolding read_landing
  page_whole p o h = rw (read_window_lem p o h b.cart b.cart.mapper b.registers) (lands_on p o h b.cart (read_window_on b.cart.mapper b.registers b.cart (p * KB1)))

  -- where no register is written: below page 32, and on NROM everywhere
  pub write_whole : (p o : ℕ) → o < KB1 → has_registers b.cart.mapper p ≡ false → write_landing b (p * KB1 + o) ≡ shifted (write_landing b (p * KB1)) o
  unfolding write_landing
  write_whole p o h f = rw (write_window p o h b.cart b.cart.mapper b.registers f) (lands_on p o h b.cart (write_window_on b.cart.mapper b.registers b.cart (p * KB1)))

  -- the same of an address
  by_page : (a : ℕ) → a ≡ a / KB1 * KB1 + a % KB1
  by_page a = omega arith

  pub address_whole : (a : ℕ) → read_landing b a ≡ shifted (read_landing b (a / KB1 * KB1)) (a % KB1)
  address_whole a = ap (read_landing b) (by_page a) ∙ page_whole (a / KB1) (a % KB1) (omega arith)

  pub written_whole : (a : ℕ) → has_registers b.cart.mapper (a / KB1) ≡ false → write_landing b a ≡ shifted (write_landing b (a / KB1 * KB1)) (a % KB1)
  written_whole a f = ap (write_landing b) (by_page a) ∙ write_whole (a / KB1) (a % KB1) (omega arith) f
