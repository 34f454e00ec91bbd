-- A byte read from a bank, which is a part of the data, is the byte at the place of that bank: the part starts where the place counts from. A window that is
-- there only with CHR RAM lands by the same test.
-- Assumes nothing.
use Rattle.std.specs.Prelude.{Option, Some, None, Ok}
use Prim.Native.Nat.{ℕ, ◌<◌}
use mathlib.Core.Path.{◌≡◌, refl}
use mathlib.Core.Bool.{Bool, true, false, cond}
use mathlib.Core.List.{List}
use Rattle.rules.proofs.Lists.{get_d_part}
use Rattle.memory.specs.Memory.{byte}
use Rattle.banks.specs.Banks.{bank_start, bank_of}
use Rattle.cartridge.specs.Load.{prg_total, chr_total, has_chr_ram, prg_rom, chr_rom, chr_data}
use Rattle.cartridge.specs.declared.Cartridge.{Cartridge}
use Rattle.places.specs.Windows.{Window, lands_in, board_chr}
use Rattle.places.specs.Windows.Window.{Empty}
use Rattle.places.specs.Steps.{if_chr_ram}
use Rattle.places.specs.declared.Place.TheVariants.{Nowhere}
use Rattle.places.specs.Places.{prg_at, chr_at, in_prg, in_chr, byte_at, byte_of}

-- a window of CHR that board mode writes lands where it is read, if there is CHR RAM
pub lands_in_ram : (c : Cartridge) (w : Window) (a : ℕ) → if_chr_ram c (lands_in c w a) ≡ lands_in c (board_chr c w) a
unfolding if_chr_ram board_chr lands_in
lands_in_ram c w a = go (has_chr_ram c)
  where
    go : (ram : Bool) → cond ram (lands_in c w a) (Ok Nowhere) ≡ lands_in c (cond ram w Empty) a
    go true = refl
    go false = refl

module _ (c : Cartridge) (image prg chr : List ℕ) (size n i : ℕ) (h : i < size) where
  pub prg_byte : byte (bank_of (prg_rom image) (bank_start c.mode n size (prg_total c)) size) i ≡ byte_at c (in_prg c size n i) image prg chr
  unfolding in_prg bank_of prg_at byte_at byte_of
  prg_byte = go (bank_start c.mode n size (prg_total c))
    where
      go : (s : Option ℕ) → byte (bank_of (prg_rom image) s size) i ≡ byte_at c (prg_at s i) image prg chr
      go (Some a) = get_d_part size a (prg_rom image) i h
      go None = refl

  pub chr_byte : byte (bank_of (chr_data c image chr) (bank_start c.mode n size (chr_total c)) size) i ≡ byte_at c (in_chr c size n i) image prg chr
  unfolding in_chr chr_data bank_of chr_at byte_at byte_of
  chr_byte = go (has_chr_ram c) (bank_start c.mode n size (chr_total c))
    where
      go : (ram : Bool) (s : Option ℕ) → byte (bank_of (cond ram chr (chr_rom c image)) s size) i ≡ byte_at c (chr_at ram s i) image prg chr
      go true (Some a) = get_d_part size a chr i h
      go false (Some a) = get_d_part size a (chr_rom c image) i h
      go true None = refl
      go false None = refl
