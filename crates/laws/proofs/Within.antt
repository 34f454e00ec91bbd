-- For a board in range every place of a read or a write lies inside what it names, since a bank that ends past its data is refused.
-- In board mode none is refused, by the modulo rule, and a byte is stored where it would be read, if that is RAM and not denied. Assumes nothing.
use Rattle.std.specs.Prelude.{Option, Some, None, Ok}
use Prim.Native.Nat.{ℕ, ◌+◌, ◌*◌, ◌/◌, ◌%◌, ◌≤◌, ◌<◌}
use mathlib.Core.Path.{◌≡◌, refl, sym, ◌∙◌, subst⁻¹}
use mathlib.Core.Bool.{Bool, true, false, cond, not, ◌&&◌}
use native.Mathlib.Omega.{arith}
use lib.Dec.{ltb, leb, eqb}
use borrow.Author.Tests.{leb-true, eqb-false}
use Rattle.std.proofs.lemmas.Bool.Decides.{nat_tests}
use Rattle.std.proofs.lemmas.Bool.{cond_both}
use Rattle.rules.proofs.Bools.{either}
use Rattle.common.specs.Common.{KB1, KB4, KB8, KB16}
use Rattle.common.specs.declared.Mode.{Mode}
use Rattle.common.specs.declared.Mode.TheVariants.{Board as OnBoard}
use Rattle.banks.specs.Banks.{shown, start_at, bank_start}
use Rattle.banks.proofs.Range.{modulo_rule}
use Rattle.cartridge.specs.Load.{bad_prg, prg_total, chr_total, has_chr_ram, last_prg}
use Rattle.cartridge.specs.Mappers.{is_mapper}
use Rattle.cartridge.specs.declared.Cartridge.{Cartridge}
use Rattle.cartridge.specs.declared.MapperType.{MapperType}
use Rattle.cartridge.specs.declared.MapperType.TheVariants.{Nrom, Mmc1, Uxrom, Cnrom, Mmc3}
use Rattle.cartridge.proofs.Range.{fields}
use Rattle.places.specs.Places.{prg_at, chr_at, in_prg, in_chr}
use Rattle.places.specs.Windows.{Window, lands_in, fixed_block, fixed_prg, board_chr, board_chr_ram, prg_ram_of, in_windows}
use Rattle.places.specs.Windows.Window.{Prg16K, Prg8K, Chr8K, Chr4K, Chr1K, PrgRam, ChrRam, Empty, Refused}
use Rattle.places.specs.Steps.{if_chr_ram}
use Rattle.places.specs.declared.Place.TheVariants.{Nowhere}
use Rattle.places.specs.Places.{Landing}
use Rattle.places.proofs.Windows.{lands_in_ram}
use Rattle.nrom.specs.Nrom as nrom
use Rattle.uxrom.specs.Uxrom as uxrom
use Rattle.cnrom.specs.Cnrom as cnrom
use Rattle.mmc1.specs.Read as mmc1
use Rattle.mmc3.specs.Ram.{ram_start, ram_read, ram_written}
use Rattle.mmc3.specs.Read as mmc3
use Rattle.mmc3.specs.declared.RamMarks.{RamMarks}
use Rattle.boards.specs.Range.{in_range}
use Rattle.boards.specs.Read.{read_window_on, read_landing}
use Rattle.boards.specs.Write.{write_window_on, write_landing}
use Rattle.boards.specs.declared.Board.{Board}
use Rattle.boards.specs.declared.Registers.{Registers}
use Rattle.laws.specs.Within.{Lies, writes_denied, ram_at, Found}
use Rattle.laws.proofs.Cases.{alike}

-- what the range of a board says of its cartridge: some PRG, and room for all blocks
record Roomy (c : Cartridge) : Type 0 where
  some : 0 < c.prg
  room : 16 + c.prg * KB16 + c.chr * KB8 ≤ c.length

roomy : (b : Board) → in_range b ≡ true → Roomy b.cart
unfolding in_range bad_prg
roomy b h =
    let c = b.cart in
    let f = fields c (grind arith) in
    let taken = f.prg_taken in
    record { some = grind (arith, nat_tests); room = f.room }

-- the two kinds of place, for any bank size
module _ (c : Cartridge) (r : Roomy c) (size n i : ℕ) (h : i < size) where
  prg_lies : Lies c (in_prg c size n i)
  unfolding in_prg prg_at bank_start start_at
  prg_lies = go (leb (shown c.mode n (prg_total c / size) * size + size) (prg_total c)) refl
    where
      go : (t : Bool) → leb (shown c.mode n (prg_total c / size) * size + size) (prg_total c) ≡ t → Lies c (prg_at (cond t (Some (shown c.mode n (prg_total c / size) * size)) None) i)
      go true e = omega (arith, leb-true (shown c.mode n (prg_total c / size) * size + size) (prg_total c) e, r.room)
      go false e = tt

  chr_lies : Lies c (in_chr c size n i)
  unfolding in_chr chr_at bank_start start_at chr_total
  chr_lies = go (eqb c.chr 0) refl (leb (shown c.mode n (chr_total c / size) * size + size) (chr_total c)) refl
    where
      go : (ram : Bool) → eqb c.chr 0 ≡ ram → (t : Bool) → leb (shown c.mode n (chr_total c / size) * size + size) (chr_total c) ≡ t
          → Lies c (chr_at ram (cond t (Some (shown c.mode n (chr_total c / size) * size)) None) i)
      go true f true e =
          let d : chr_total c ≡ KB8 = rw f refl in
          omega (arith, leb-true (shown c.mode n (chr_total c / size) * size + size) (chr_total c) e)
      go false f true e =
          let d : chr_total c ≡ c.chr * KB8 = rw f refl in
          omega (arith, leb-true (shown c.mode n (chr_total c / size) * size + size) (chr_total c) e, r.room)
      go true f false e = tt
      go false f false e = tt

-- so wherever an address lands, in whatever window of whatever board
lies_in : (c : Cartridge) → Roomy c → (w : Window) (a : ℕ) → Lies c (lands_in c w a)
unfolding lands_in
lies_in c r (Prg16K n) a = prg_lies c r KB16 n (a % KB16) (omega arith)
lies_in c r (Prg8K n) a = prg_lies c r KB8 n (a % KB8) (omega arith)
lies_in c r (Chr8K n) a = chr_lies c r KB8 n (a % KB8) (omega arith)
lies_in c r (Chr4K n) a = chr_lies c r KB4 n (a % KB4) (omega arith)
lies_in c r (Chr1K n) a = chr_lies c r KB1 n (a % KB1) (omega arith)
lies_in c r PrgRam a = omega arith
lies_in c r ChrRam a = omega arith
lies_in c r Empty a = tt
lies_in c r (Refused why) a = tt

-- every place of a read
pub read_within : (b : Board) (a : ℕ) → in_range b ≡ true → Lies b.cart (read_landing b a)
unfolding read_landing
read_within b a e = lies_in b.cart (roomy b e) (read_window_on b.cart.mapper b.registers b.cart a) a

-- and of a write
pub write_within : (b : Board) (a : ℕ) → in_range b ≡ true → Lies b.cart (write_landing b a)
unfolding write_landing
write_within b a e = lies_in b.cart (roomy b e) (write_window_on b.cart.mapper b.registers b.cart a) a

-- a window that is no refusal
abbrev Opens : Window → Type 0
Opens (Prg16K n) = Unit {0}
Opens (Prg8K n) = Unit {0}
Opens (Chr8K n) = Unit {0}
Opens (Chr4K n) = Unit {0}
Opens (Chr1K n) = Unit {0}
Opens PrgRam = Unit {0}
Opens ChrRam = Unit {0}
Opens Empty = Unit {0}
Opens (Refused why) = ⊥

-- board mode: "Refusals 11 to 14 do not occur": no bank ends past its data, by the modulo rule
module _ (c : Cartridge) (r : Roomy c) (e : c.mode ≡ OnBoard) where
  prg_found : (size n i : ℕ) → 0 < size → size ≤ KB16 → Found (in_prg c size n i)
  unfolding in_prg prg_at
  prg_found size n i p h =
      let f : size ≤ prg_total c = omega (arith, r.some) in
      subst⁻¹ (λ (m : Mode). Found (prg_at (bank_start m n size (prg_total c)) i)) e
      (subst⁻¹ (λ (s : Option ℕ). Found (prg_at s i)) (modulo_rule n size (prg_total c) p f).start tt)

  some_chr : KB8 ≤ chr_total c
  unfolding chr_total
  some_chr = cond_both (has_chr_ram c) _ _ (λ (t : ℕ). KB8 ≤ t) (λ f. omega arith) (λ f. let n : c.chr ≡ 0 → ⊥ = eqb-false c.chr 0 f in omega arith)

  chr_found : (size n i : ℕ) → 0 < size → size ≤ KB8 → Found (in_chr c size n i)
  unfolding in_chr chr_at
  chr_found size n i p h =
      let f : size ≤ chr_total c = omega (arith, some_chr) in
      subst⁻¹ (λ (m : Mode). Found (chr_at (has_chr_ram c) (bank_start m n size (chr_total c)) i)) e
      (subst⁻¹ (λ (s : Option ℕ). Found (chr_at (has_chr_ram c) s i)) (modulo_rule n size (chr_total c) p f).start (either Found (has_chr_ram c) tt tt))

  found_in : (w : Window) → Opens w → (a : ℕ) → Found (lands_in c w a)
  unfolding lands_in
  found_in (Prg16K n) o a = prg_found KB16 n (a % KB16) (omega arith) (omega arith)
  found_in (Prg8K n) o a = prg_found KB8 n (a % KB8) (omega arith) (omega arith)
  found_in (Chr8K n) o a = chr_found KB8 n (a % KB8) (omega arith) (omega arith)
  found_in (Chr4K n) o a = chr_found KB4 n (a % KB4) (omega arith) (omega arith)
  found_in (Chr1K n) o a = chr_found KB1 n (a % KB1) (omega arith) (omega arith)
  found_in PrgRam o a = tt
  found_in ChrRam o a = tt
  found_in Empty o a = tt
  found_in (Refused why) o a = absurd o

  -- and the board itself refuses none
  fixed_opens : (a : ℕ) → Opens (fixed_prg c a)
  unfolding fixed_prg
  fixed_opens a = either Opens (ltb a 0x8000) tt tt

  -- of both boards with PRG RAM: MMC1 shows it as MMC3 does at its start
  windows_open : (r : RamMarks) (ppu rom : Window) (a : ℕ) → Opens ppu → Opens rom → Opens (in_windows ppu (ram_read r c) rom a)
  unfolding in_windows ram_read prg_ram_of
  windows_open r ppu rom a p q =
      either Opens (ltb a 0x2000) p
      (either Opens (ltb a 0x6000) tt
      (either Opens (ltb a 0x8000) (either Opens r.enabled (either Opens c.prgram tt tt) tt) q))

  reads_open : (k : MapperType) (x : Registers) (a : ℕ) → Opens (read_window_on k x c a)
  unfolding read_window_on nrom.read_window uxrom.read_window cnrom.read_window_in cnrom.board_read_window mmc1.read_window mmc3.read_window ram_read
  reads_open Nrom x a = either Opens (ltb a 0x2000) tt (fixed_opens a)
  reads_open Mmc1 x a = windows_open ram_start _ _ a tt tt
  reads_open Uxrom x a = either Opens (ltb a 0x2000) tt (either Opens (ltb a 0x8000) tt (either Opens (ltb a 0xC000) tt tt))
  reads_open Cnrom x a =
      subst⁻¹ (λ (m : Mode). Opens (cnrom.read_window_in m x.cnrom c a)) e (either Opens (ltb a 0x2000) tt (fixed_opens a))
  reads_open Mmc3 x a = windows_open x.mmc3.ram _ _ a tt tt

  module _ (a : ℕ) (denied : Bool) where
    -- a byte that is written to one window goes where the other is read, if that is RAM, and PRG RAM not denied
    abbrev Stores : Window → Window → Type 0
    Stores w v = lands_in c w a ≡ ram_at denied (lands_in c v a)

    no_rom : (s : Option ℕ) (i : ℕ) → Found (prg_at s i) → Ok Nowhere ≡ ram_at denied (prg_at s i)
    unfolding prg_at
    no_rom s i f = grind arith

    if_ram : (ram : Bool) (s : Option ℕ) (i : ℕ) → Found (chr_at ram s i) → cond ram (chr_at ram s i) (Ok Nowhere) ≡ ram_at denied (chr_at ram s i)
    unfolding chr_at
    if_ram ram s i f = grind arith

    prg_ignores : (size n : ℕ) → 0 < size → size ≤ KB16 → Ok Nowhere ≡ ram_at denied (in_prg c size n (a % size))
    unfolding in_prg
    prg_ignores size n p h = no_rom (bank_start c.mode n size (prg_total c)) (a % size) (prg_found size n (a % size) p h)

    chr_stores : (size n : ℕ) → 0 < size → size ≤ KB8 → if_chr_ram c (in_chr c size n (a % size)) ≡ ram_at denied (in_chr c size n (a % size))
    unfolding if_chr_ram in_chr
    chr_stores size n p h = if_ram (has_chr_ram c) (bank_start c.mode n size (chr_total c)) (a % size) (chr_found size n (a % size) p h)

    rom_16_k : (n : ℕ) → Stores Empty (Prg16K n)
    unfolding lands_in
    rom_16_k n = prg_ignores KB16 n (omega arith) (omega arith)

    rom_8_k : (n : ℕ) → Stores Empty (Prg8K n)
    unfolding lands_in
    rom_8_k n = prg_ignores KB8 n (omega arith) (omega arith)

    chr_8_k : (n : ℕ) → Stores (board_chr c (Chr8K n)) (Chr8K n)
    unfolding lands_in
    chr_8_k n = sym (lands_in_ram c (Chr8K n) a) ∙ chr_stores KB8 n (omega arith) (omega arith)

    chr_4_k : (n : ℕ) → Stores (board_chr c (Chr4K n)) (Chr4K n)
    unfolding lands_in
    chr_4_k n = sym (lands_in_ram c (Chr4K n) a) ∙ chr_stores KB4 n (omega arith) (omega arith)

    chr_1_k : (n : ℕ) → Stores (board_chr c (Chr1K n)) (Chr1K n)
    unfolding lands_in
    chr_1_k n = sym (lands_in_ram c (Chr1K n) a) ∙ chr_stores KB1 n (omega arith) (omega arith)

    no_window : Stores Empty Empty
    unfolding lands_in
    no_window = refl

    prg_ram : (r : RamMarks) → r.denied ≡ denied → Stores (ram_written r c) (ram_read r c)
    unfolding ram_written ram_read prg_ram_of lands_in
    prg_ram r e = go r.enabled r.denied c.prgram e
      where
        shows : Bool → Window
        shows ram = cond ram PrgRam Empty

        go : (enabled d ram : Bool) → d ≡ denied → Stores (cond (enabled && not d) (shows ram) Empty) (cond enabled (shows ram) Empty)
        go true true true e = rw (sym e) refl
        go true false true e = rw (sym e) refl
        go true true false e = refl
        go true false false e = refl
        go false d ram e = refl

    fixed : Stores Empty (fixed_prg c a)
    unfolding fixed_prg
    fixed = either (Stores Empty) (ltb a 0x8000) no_window (rom_16_k (fixed_block c a))

    windows_store : (r : RamMarks) → r.denied ≡ denied → (w v rom : Window) → Stores w v → Stores Empty rom
        → Stores (in_windows w (ram_written r c) Empty a) (in_windows v (ram_read r c) rom a)
    unfolding in_windows
    windows_store r e w v rom p q = alike Stores (ltb a 0x2000) p (alike Stores (ltb a 0x6000) no_window (alike Stores (ltb a 0x8000) (prg_ram r e) q))

    stored_where_read : (k : MapperType) (x : Registers) → writes_denied k x ≡ denied → Stores (write_window_on k x c a) (read_window_on k x c a)
    unfolding write_window_on read_window_on is_mapper ram_read ram_written board_chr_ram nrom.read_window nrom.write_window_in uxrom.read_window uxrom.write_window_in cnrom.write_window_in cnrom.read_window_in cnrom.board_read_window mmc1.write_window_in mmc1.ppu_write_in mmc1.read_window mmc3.write_window_in mmc3.ppu_write_in mmc3.rom_write_in mmc3.read_window
    stored_where_read Nrom x d = subst⁻¹ (λ (m : Mode). Stores (nrom.write_window_in m c a) (nrom.read_window c a)) e (alike Stores (ltb a 0x2000) (chr_8_k 0) fixed)
    stored_where_read Mmc1 x d =
        subst⁻¹ (λ (m : Mode). Stores (mmc1.write_window_in m x.mmc1 c a) (mmc1.read_window x.mmc1 c a)) e
        (windows_store ram_start d _ _ _ (chr_4_k (mmc1.chr_bank x.mmc1 c a)) (rom_16_k (mmc1.prg_bank x.mmc1 c a)))
    stored_where_read Uxrom x d =
        subst⁻¹ (λ (m : Mode). Stores (uxrom.write_window_in m x.uxrom c a) (uxrom.read_window x.uxrom c a)) e
        (alike Stores (ltb a 0x2000) (chr_8_k 0) (either (Stores Empty) (ltb a 0x8000) no_window (either (Stores Empty) (ltb a 0xC000) (rom_16_k x.uxrom.bank) (rom_16_k (last_prg c)))))
    stored_where_read Cnrom x d =
        subst⁻¹ (λ (m : Mode). Stores (cnrom.write_window_in m x.cnrom c a) (cnrom.read_window_in m x.cnrom c a)) e
        (alike Stores (ltb a 0x2000) (chr_8_k x.cnrom.bank) fixed)
    stored_where_read Mmc3 x d =
        subst⁻¹ (λ (m : Mode). Stores (mmc3.write_window_in m x.mmc3 c a) (mmc3.read_window x.mmc3 c a)) e
        (windows_store x.mmc3.ram d _ _ _ (chr_1_k (mmc3.chr_bank x.mmc3 (a / 1024))) (rom_8_k (mmc3.prg_bank x.mmc3 c a)))

-- no refusal comes of leaving ROM out
still_found : (denied : Bool) (l : Landing) → Found l → Found (ram_at denied l)
still_found denied l f = grind arith

module _ (b : Board) (e : b.cart.mode ≡ OnBoard) (ok : in_range b ≡ true) (a : ℕ) where
  pub board_reads : Found (read_landing b a)
  unfolding read_landing
  board_reads = found_in b.cart (roomy b ok) e _ (reads_open b.cart (roomy b ok) e b.cart.mapper b.registers a) a

  -- "CHR RAM is read and written through the banks, on all boards; CHR ROM ignores writes": a byte is stored where it would be read, if that is RAM, and PRG RAM not denied
  pub board_stores_where_it_reads : write_landing b a ≡ ram_at (writes_denied b.cart.mapper b.registers) (read_landing b a)
  unfolding write_landing read_landing
  board_stores_where_it_reads = stored_where_read b.cart (roomy b ok) e a (writes_denied b.cart.mapper b.registers) b.cart.mapper b.registers refl

  pub board_writes : Found (write_landing b a)
  board_writes = subst⁻¹ Found board_stores_where_it_reads (still_found (writes_denied b.cart.mapper b.registers) (read_landing b a) board_reads)
