-- In each window of the address, the byte of the bank that shows it is the byte that a read finds. Assumes nothing.
use Prim.Native.Nat.{ℕ, ◌%◌, ◌≤◌, ◌<◌}
use mathlib.Core.Path.{◌≡◌, refl}
use mathlib.Core.Bool.{Bool, true, false, cond}
use mathlib.Core.List.{List}
use native.Mathlib.Omega.{arith}
use borrow.Author.Tests.{lt-ltb, le-ltb}
use Rattle.common.specs.Common.{KB4, KB8, KB16}
use Rattle.memory.specs.Memory.{byte}
use Rattle.cartridge.specs.Load.{last_prg}
use Rattle.cartridge.specs.declared.Cartridge.{Cartridge}
use Rattle.places.specs.Places.{byte_of, byte_at}
use Rattle.places.specs.Windows.{in_windows, lands_in, prg_ram_of}
use Rattle.places.specs.Windows.Window.{PrgRam, Empty}
use Rattle.places.proofs.Windows.{prg_byte, chr_byte}
use Rattle.mmc1.specs.Read.{lower_prg, upper_prg, lower_chr, upper_chr, chr_bank, prg_bank, lower_prg_bank, upper_prg_bank, lower_chr_bank, upper_chr_bank, read_window}
use Rattle.mmc1.specs.declared.Mmc1.{Mmc1}

module _ (m : Mmc1) (c : Cartridge) (image prg chr : List ℕ) (a : ℕ) where
  -- the byte that a read finds
  abbrev found : ℕ
  found = byte_at c (lands_in c (read_window m c a) a) image prg chr

  pub below_1000 : a < 0x1000 → byte (lower_chr_bank m c image chr) (a % KB4) ≡ found
  unfolding lands_in read_window in_windows chr_bank lower_chr_bank
  below_1000 h =
      let g : a < 0x2000 = omega arith in
      rw (lt-ltb a 0x2000 g, lt-ltb a 0x1000 h) (chr_byte c image prg chr KB4 (lower_chr c.mode m.regs) (a % KB4) (omega arith))

  pub below_2000 : 0x1000 ≤ a → a < 0x2000 → byte (upper_chr_bank m c image chr) (a % KB4) ≡ found
  unfolding lands_in read_window in_windows chr_bank upper_chr_bank
  below_2000 g h =
      rw (lt-ltb a 0x2000 h, le-ltb a 0x1000 g) (chr_byte c image prg chr KB4 (upper_chr c.mode m.regs) (a % KB4) (omega arith))

  pub below_6000 : 0x2000 ≤ a → a < 0x6000 → 0 ≡ found
  unfolding lands_in read_window in_windows byte_at byte_of
  below_6000 g h = rw (le-ltb a 0x2000 g, lt-ltb a 0x6000 h) refl

  pub below_8000 : 0x6000 ≤ a → a < 0x8000 → cond c.prgram (byte prg (a % KB8)) 0 ≡ found
  unfolding lands_in read_window in_windows prg_ram_of byte_at byte_of
  below_8000 g h =
      let f : 0x2000 ≤ a = omega arith in
      rw (le-ltb a 0x2000 f, le-ltb a 0x6000 g, lt-ltb a 0x8000 h) (go c.prgram)
    where
      go : (t : Bool) → cond t (byte prg (a % KB8)) 0 ≡ byte_at c (lands_in c (cond t PrgRam Empty) a) image prg chr
      go true = refl
      go false = refl

  pub below_c000 : 0x8000 ≤ a → a < 0xC000 → byte (lower_prg_bank m c image) (a % KB16) ≡ found
  unfolding lands_in read_window in_windows prg_bank lower_prg_bank
  below_c000 g h =
      let e : 0x2000 ≤ a = omega arith in
      let f : 0x6000 ≤ a = omega arith in
      rw (le-ltb a 0x2000 e, le-ltb a 0x6000 f, le-ltb a 0x8000 g, lt-ltb a 0xC000 h)
      (prg_byte c image prg chr KB16 (lower_prg c.mode m.regs) (a % KB16) (omega arith))

  pub above_c000 : 0xC000 ≤ a → byte (upper_prg_bank m c image) (a % KB16) ≡ found
  unfolding lands_in read_window in_windows prg_bank upper_prg_bank
  above_c000 g =
      let d : 0x8000 ≤ a = omega arith in
      let e : 0x2000 ≤ a = omega arith in
      let f : 0x6000 ≤ a = omega arith in
      rw (le-ltb a 0x2000 e, le-ltb a 0x6000 f, le-ltb a 0x8000 d, le-ltb a 0xC000 g)
      (prg_byte c image prg chr KB16 (upper_prg c.mode m.regs (last_prg c)) (a % KB16) (omega arith))
