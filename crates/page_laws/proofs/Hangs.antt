-- What a page hangs on beside the cartridge: below 2000, at 6000-7FFF, and for reads at 8000 and above, a part of the registers; else nothing. Assumes nothing.
use Prim.Native.Nat.{ℕ, ◌*◌, ◌/◌, ◌≤◌, ◌<◌}
use mathlib.Core.Path.{◌≡◌, refl, ◌∙◌, ap}
use mathlib.Core.Bool.{true, false, cond}
use native.Mathlib.Omega.{arith}
use borrow.Author.Tests.{eqb-true}
use Rattle.std.proofs.lemmas.Bool.Decides.{nat_tests}
use Rattle.common.specs.Common.{KB1}
use Rattle.common.specs.declared.Mode.{Mode}
use Rattle.common.specs.declared.Mode.TheVariants.{House, Board as OnBoard}
use Rattle.cartridge.specs.Mappers.{is_mapper}
use Rattle.cartridge.specs.declared.Cartridge.{Cartridge}
use Rattle.cartridge.specs.declared.MapperType.{MapperType}
use Rattle.cartridge.specs.declared.MapperType.TheVariants.{Nrom, Mmc1, Uxrom, Cnrom, Mmc3}
use Rattle.places.specs.Windows.{Window, lands_in, board_chr, board_chr_ram, in_windows}
use Rattle.places.specs.Windows.Window.{Prg16K, Prg8K, Chr8K, Chr4K, Chr1K}
use Rattle.nrom.specs.Nrom as nrom
use Rattle.uxrom.specs.Uxrom as uxrom
use Rattle.cnrom.specs.Cnrom as cnrom
use Rattle.mmc1.specs.Read as mmc1
use Rattle.mmc3.specs.Ram.{ram_read, ram_written}
use Rattle.mmc3.specs.Read as mmc3
use Rattle.mmc3.specs.declared.RamMarks.{RamMarks}
use Rattle.boards.specs.Read.{read_window_on, read_landing}
use Rattle.boards.specs.Write.{write_window_on, write_landing}
use Rattle.boards.specs.declared.Board.{Board}
use Rattle.boards.specs.declared.Registers.{Registers}
use Rattle.pages.specs.Pages.{read_from, written_to, has_registers, call_page, read_page, write_page}
use Rattle.pages.specs.Parts.{same_chr, same_prg, same_ram}
use Rattle.page_laws.proofs.Cases.{in_mode, alike, pick, below}
use Rattle.page_laws.proofs.Banks.{mmc1_chr, mmc1_prg, mmc3_chr, mmc3_prg, mmc3_ram}

windows_alike : (a : ℕ) {ppu ram rom ppu' ram' rom' : Window} → (a < 0x2000 → ppu ≡ ppu') → (0x6000 ≤ a → a < 0x8000 → ram ≡ ram') → (0x8000 ≤ a → rom ≡ rom')
    → in_windows ppu ram rom a ≡ in_windows ppu' ram' rom' a
unfolding in_windows
windows_alike a f h g = grind (arith, nat_tests)

-- the window at an address
module _ (r s : Registers) (c : Cartridge) (a : ℕ) where
  cnrom_hangs : (mode : Mode) → (a < 0x2000 → same_chr Cnrom r s ≡ true) → cnrom.read_window_in mode r.cnrom c a ≡ cnrom.read_window_in mode s.cnrom c a
  unfolding same_chr cnrom.read_window_in cnrom.house_read_window cnrom.board_read_window
  cnrom_hangs House chr = pick a 0x2000 (λ l. ap Chr8K (eqb-true r.cnrom.bank s.cnrom.bank (chr l))) (λ m. refl)
  cnrom_hangs OnBoard chr = pick a 0x2000 (λ l. ap Chr8K (eqb-true r.cnrom.bank s.cnrom.bank (chr l))) (λ m. refl)

  reads_hang : (k : MapperType) → (a < 0x2000 → same_chr k r s ≡ true) → (0x6000 ≤ a → a < 0x8000 → same_ram k r s ≡ true) → (0x8000 ≤ a → same_prg k r s ≡ true)
      → read_window_on k r c a ≡ read_window_on k s c a
  unfolding same_chr same_prg same_ram is_mapper read_window_on uxrom.read_window mmc1.read_window mmc3.read_window
  reads_hang Nrom chr ram prg = refl
  reads_hang Mmc1 chr ram prg =
      windows_alike a
      (λ l. ap Chr4K (mmc1_chr r.mmc1 s.mmc1 c a (chr l)))
      (λ m l. refl)
      (λ g. ap Prg16K (mmc1_prg r.mmc1 s.mmc1 c a (prg g)))
  reads_hang Uxrom chr ram prg =
      pick a 0x2000 (λ l. refl)
      (λ m. pick a 0x8000 (λ l. refl)
      (λ g. pick a 0xC000 (λ l. ap Prg16K (eqb-true r.uxrom.bank s.uxrom.bank (prg g))) (λ h. refl)))
  reads_hang Cnrom chr ram prg = cnrom_hangs c.mode chr
  reads_hang Mmc3 chr ram prg =
      windows_alike a
      (λ l. ap Chr1K (mmc3_chr r.mmc3 s.mmc3 (chr l) (a / 1024)))
      (λ m l. ap (λ (t : RamMarks). ram_read t c) (mmc3_ram r.mmc3 s.mmc3 (ram m l)))
      (λ g. ap Prg8K (mmc3_prg r.mmc3 s.mmc3 (prg g) c a))

-- of a write to a page that has no register: below 2000 in board mode on the CHR bank, at 6000-7FFF of MMC3 on the marks of RAM, else on no register
module _ (r s : Registers) (c : Cartridge) (a p : ℕ) (page : a ≡ p * KB1) where
  writes_hang : (k : MapperType) → (a < 0x2000 → same_chr k r s ≡ true) → (0x6000 ≤ a → a < 0x8000 → same_ram k r s ≡ true) → has_registers k p ≡ false
      → write_window_on k r c a ≡ write_window_on k s c a
  unfolding same_chr same_ram write_window_on has_registers is_mapper board_chr_ram nrom.write_window_in uxrom.write_window_in cnrom.write_window_in mmc1.write_window_in mmc1.ppu_write_in mmc3.write_window_in mmc3.ppu_write_in mmc3.rom_write_in
  writes_hang Nrom chr ram f = refl
  writes_hang Mmc1 chr ram f = in_mode (λ (m : Mode). mmc1.write_window_in m r.mmc1 c a ≡ mmc1.write_window_in m s.mmc1 c a) c.mode refl
      (windows_alike a (λ l. ap (λ (n : ℕ). board_chr c (Chr4K n)) (mmc1_chr r.mmc1 s.mmc1 c a (chr l))) (λ m l. refl) (λ g. refl))
  writes_hang Uxrom chr ram f = in_mode (λ (m : Mode). uxrom.write_window_in m r.uxrom c a ≡ uxrom.write_window_in m s.uxrom c a) c.mode refl refl
  writes_hang Cnrom chr ram f = in_mode (λ (m : Mode). cnrom.write_window_in m r.cnrom c a ≡ cnrom.write_window_in m s.cnrom c a) c.mode refl
      (pick a 0x2000 (λ l. ap (λ (n : ℕ). board_chr c (Chr8K n)) (eqb-true r.cnrom.bank s.cnrom.bank (chr l))) (λ m. refl))
  writes_hang Mmc3 chr ram f =
      let written : 0x6000 ≤ a → a < 0x8000 → ram_written r.mmc3.ram c ≡ ram_written s.mmc3.ram c = λ m l. ap (λ (t : RamMarks). ram_written t c) (mmc3_ram r.mmc3 s.mmc3 (ram m l)) in
      in_mode (λ (m : Mode). mmc3.write_window_in m r.mmc3 c a ≡ mmc3.write_window_in m s.mmc3 c a) c.mode
      (windows_alike a (λ l. refl) written (λ g. absurd (omega (arith, below p f))))
      (windows_alike a (λ l. ap (λ (n : ℕ). board_chr c (Chr1K n)) (mmc3_chr r.mmc3 s.mmc3 (chr l) (a / 1024))) written (λ g. refl))

-- the pages of two boards of one cartridge
module _ (b d : Board) (e : b.cart ≡ d.cart) (p : ℕ) (chr : p < 8 → same_chr b.cart.mapper b.registers d.registers ≡ true)
    (ram : 24 ≤ p → p < 32 → same_ram b.cart.mapper b.registers d.registers ≡ true) where
  low : p * KB1 < 0x2000 → same_chr b.cart.mapper b.registers d.registers ≡ true
  low l = chr (omega arith)

  mid : 0x6000 ≤ p * KB1 → p * KB1 < 0x8000 → same_ram b.cart.mapper b.registers d.registers ≡ true
  mid m l = ram (omega arith) (omega arith)

  pub reads_alike : (32 ≤ p → same_prg b.cart.mapper b.registers d.registers ≡ true) → read_page b p ≡ read_page d p
  unfolding read_page read_landing
  reads_alike prg =
      let a = p * KB1 in
      ap (λ (w : Window). read_from b.cart (lands_in b.cart w a)) (reads_hang b.registers d.registers b.cart a b.cart.mapper low mid (λ g. prg (omega arith)))
      ∙ ap (λ (c : Cartridge). read_from c (lands_in c (read_window_on c.mapper d.registers c a) a)) e

  pub writes_alike : write_page b p ≡ write_page d p
  unfolding write_page write_landing
  writes_alike =
      let a = p * KB1 in
      alike (has_registers b.cart.mapper p) (λ t. refl)
      (λ f. ap (λ (w : Window). written_to (lands_in b.cart w a)) (writes_hang b.registers d.registers b.cart a p refl b.cart.mapper low mid f))
      ∙ ap (λ (c : Cartridge). cond (has_registers c.mapper p) call_page (written_to (lands_in c (write_window_on c.mapper d.registers c a) a))) e

module _ (b d : Board) (e : b.cart ≡ d.cart) (p : ℕ) where
  -- pages 8 to 23 hang on the cartridge alone
  pub middle_reads : 8 ≤ p → p < 24 → read_page b p ≡ read_page d p
  middle_reads g l = reads_alike b d e p (λ h. absurd (omega arith)) (λ h. absurd (omega arith)) (λ h. absurd (omega arith))

  pub middle_writes : 8 ≤ p → p < 24 → write_page b p ≡ write_page d p
  middle_writes g l = writes_alike b d e p (λ h. absurd (omega arith)) (λ h. absurd (omega arith))

  -- and so do the write pages from 32 on
  pub upper_writes : 32 ≤ p → write_page b p ≡ write_page d p
  upper_writes g = writes_alike b d e p (λ h. absurd (omega arith)) (λ h m. absurd (omega arith))

  -- pages 0 to 7
  pub chr_reads : same_chr b.cart.mapper b.registers d.registers ≡ true → p < 8 → read_page b p ≡ read_page d p
  chr_reads s l = reads_alike b d e p (λ h. s) (λ h. absurd (omega arith)) (λ h. absurd (omega arith))

  pub chr_writes : same_chr b.cart.mapper b.registers d.registers ≡ true → p < 8 → write_page b p ≡ write_page d p
  chr_writes s l = writes_alike b d e p (λ h. s) (λ h. absurd (omega arith))

  -- pages 24 to 31, on every board but MMC3 on the cartridge alone
  pub ram_reads : same_ram b.cart.mapper b.registers d.registers ≡ true → 24 ≤ p → p < 32 → read_page b p ≡ read_page d p
  ram_reads s g l = reads_alike b d e p (λ h. absurd (omega arith)) (λ h m. s) (λ h. absurd (omega arith))

  pub ram_writes : same_ram b.cart.mapper b.registers d.registers ≡ true → 24 ≤ p → p < 32 → write_page b p ≡ write_page d p
  ram_writes s g l = writes_alike b d e p (λ h. absurd (omega arith)) (λ h m. s)

  -- the read pages from 32 on
  pub prg_reads : same_prg b.cart.mapper b.registers d.registers ≡ true → 32 ≤ p → read_page b p ≡ read_page d p
  prg_reads s g = reads_alike b d e p (λ h. absurd (omega arith)) (λ h m. absurd (omega arith)) (λ h. s)
