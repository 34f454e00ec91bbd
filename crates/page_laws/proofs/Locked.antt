-- The pages of 6000-7FFF on MMC3, locked or not: PRG RAM or nothing, as its marks and its cartridge say. Assumes nothing.
use Prim.Native.Nat.{ℕ, ◌+◌, ◌*◌, ◌%◌, ◌≤◌, ◌<◌}
use mathlib.Core.Path.{◌≡◌, refl, ap, ◌∙◌}
use mathlib.Core.Bool.{Bool, true, false, cond, not, ◌&&◌}
use native.Mathlib.Omega.{arith}
use borrow.Author.Tests.{lt-leb}
use Rattle.std.proofs.lemmas.Bool.Decides.{nat_tests}
use Rattle.common.specs.Common.{KB1, KB8}
use Rattle.cartridge.specs.declared.Cartridge.{Cartridge}
use Rattle.cartridge.specs.declared.MapperType.{MapperType}
use Rattle.cartridge.specs.declared.MapperType.TheVariants.{Mmc3}
use Rattle.places.specs.Windows.{Window, lands_in, prg_ram_of, in_windows}
use Rattle.places.specs.Windows.Window.{PrgRam, Empty}
use Rattle.mmc3.specs.Ram.{ram_read, ram_written}
use Rattle.mmc3.specs.Read as mmc3
use Rattle.boards.specs.Read.{read_window_on, read_landing}
use Rattle.boards.specs.Write.{write_window_on, write_landing}
use Rattle.boards.specs.declared.Board.{Board}
use Rattle.pages.specs.Pages.{place_read, place_written, read_from, written_to, has_registers, read_page, write_page}
use Rattle.page_laws.specs.Locked.{ram_page, is_read, is_written}

-- the middle of three windows
in_ram : (a : ℕ) (ppu ram rom : Window) → 0x6000 ≤ a → a < 0x8000 → in_windows ppu ram rom a ≡ ram
unfolding in_windows
in_ram a ppu ram rom g l = grind (arith, nat_tests)

module _ (c : Cartridge) (a : ℕ) where
  -- PRG RAM, if a mark opens it and there is one
  opened : (isOpen : Bool) → cond isOpen (prg_ram_of c) Empty ≡ cond (isOpen && c.prgram) PrgRam Empty
  unfolding prg_ram_of
  opened true = refl
  opened false = refl

  read_ram : (isOpen : Bool) → read_from c (lands_in c (cond isOpen PrgRam Empty) a) ≡ cond isOpen (0x10000000 + a % KB8) 0x30000000
  unfolding read_from place_read lands_in
  read_ram true = ap (λ (n : ℕ). 0x10000000 + n) (omega arith)
  read_ram false = refl

  write_ram : (isOpen : Bool) → written_to (lands_in c (cond isOpen PrgRam Empty) a) ≡ cond isOpen (0x10000000 + a % KB8) 0x30000000
  unfolding written_to place_written lands_in
  write_ram true = ap (λ (n : ℕ). 0x10000000 + n) (omega arith)
  write_ram false = refl

module _ (b : Board) (e : b.cart.mapper ≡ Mmc3) (p : ℕ) (g : 24 ≤ p) (l : p < 32) where
  abbrev c : Cartridge
  c = b.cart

  -- what such a page shows, where a mark opens it
  shows : (on : MapperType → Window) (ppu rom : Window) (isOpen : Bool) → on Mmc3 ≡ in_windows ppu (cond isOpen (prg_ram_of c) Empty) rom (p * KB1)
      → on c.mapper ≡ cond (isOpen && c.prgram) PrgRam Empty
  shows on ppu rom isOpen s = ap on e ∙ s ∙ in_ram (p * KB1) ppu (cond isOpen (prg_ram_of c) Empty) rom (omega arith) (omega arith) ∙ opened c (p * KB1) isOpen

  -- for reads
  shown : read_window_on c.mapper b.registers c (p * KB1) ≡ cond (is_read b) PrgRam Empty
  unfolding read_window_on mmc3.read_window ram_read
  shown = shows (λ (k : MapperType). read_window_on k b.registers c (p * KB1)) _ _ b.registers.mmc3.ram.enabled refl

  -- and for writes, in either mode
  taken : write_window_on c.mapper b.registers c (p * KB1) ≡ cond (is_written b) PrgRam Empty
  unfolding write_window_on mmc3.write_window_in ram_written
  taken = shows (λ (k : MapperType). write_window_on k b.registers c (p * KB1)) _ _ (b.registers.mmc3.ram.enabled && not b.registers.mmc3.ram.denied) refl

  pub ram_page_read : read_page b p ≡ ram_page (is_read b) p
  unfolding read_page read_landing
  ram_page_read = ap (λ (w : Window). read_from c (lands_in c w (p * KB1))) shown ∙ read_ram c (p * KB1) (is_read b)

  pub ram_page_written : write_page b p ≡ ram_page (is_written b) p
  unfolding write_page write_landing has_registers
  ram_page_written = rw (lt-leb 32 p l) (ap (λ (w : Window). written_to (lands_in c w (p * KB1))) taken ∙ write_ram c (p * KB1) (is_written b))
