-- The numbers of a board keep the widths of their types: the start's, and those after any write of a byte and any clock. Assumes nothing.
use Rattle.std.specs.Prelude.{Ok, Err}
use Prim.Native.Nat.{ℕ, zero, suc, ◌-◌, ◌<◌}
use mathlib.Core.List.{List, [], ◌∷◌}
use native.Mathlib.Omega.{arith}
use lib.Dec.{ltb, leb, eqb}
use lib.ListN.{set, replicate}
use Rattle.rules.specs.Rows.{Fits, bytes}
use Rattle.rules.proofs.Bools.{either}
use Rattle.common.specs.declared.Mode.{Mode}
use Rattle.common.specs.declared.Mode.TheVariants.{House, Board as OnBoard}
use Rattle.cartridge.specs.Mappers.{is_mapper}
use Rattle.cartridge.specs.declared.Cartridge.{Cartridge}
use Rattle.cartridge.specs.declared.MapperType.{MapperType}
use Rattle.cartridge.specs.declared.MapperType.TheVariants.{Nrom, Mmc1, Uxrom, Cnrom, Mmc3}
use Rattle.places.specs.Places.{Landing}
use Rattle.uxrom.specs.Uxrom as uxrom
use Rattle.uxrom.specs.declared.Uxrom as uxrom-type
use Rattle.mmc3.specs.Clock.{house_clock, next_counter, board_clock, clock_in, with_irq, clocked}
use Rattle.mmc3.specs.Range as mmc3
use Rattle.mmc3.specs.Write.{is_even, move_of, data_bits, applied, written}
use Rattle.mmc3.specs.Clock.{Clocked}
use Rattle.mmc3.specs.declared.Irq.{Irq}
use Rattle.mmc3.specs.declared.Mmc3 as mmc3-type
use Rattle.mmc3.specs.declared.Move.{Move}
use Rattle.boards.specs.Registers.{start, moved, ticked}
use Rattle.boards.specs.Range.{in_range}
use Rattle.boards.specs.Start.{start_of}
use Rattle.boards.specs.Write.{turned, accepted_write, written_as}
use Rattle.boards.specs.Clock as boards
use Rattle.boards.specs.declared.Board.{Board}
use Rattle.boards.specs.declared.Registers.{Registers}
use Rattle.boards.specs.Registers.{Ticked}
use Rattle.states.specs.Kept.{OfItsTypes}

abbrev Byte : ℕ → Type 0
Byte n = n < 0x100

abbrev TypedIrq : Irq → Type 0
TypedIrq i = Byte i.latch × Byte i.counter

abbrev TypedMmc3 : mmc3-type.Mmc3 → Type 0
TypedMmc3 m = Fits bytes m.regs × TypedIrq m.irq

-- the numbers of `OfItsTypes` that a call can change
abbrev Typed : Registers → Type 0
Typed r = Byte r.uxrom.bank × TypedMmc3 r.mmc3

-- a byte put among bytes
put_fits : (n : ℕ) (s : List ℕ) (i x : ℕ) → Byte x → Fits (replicate n 0x100) s → Fits (replicate n 0x100) (set s i x)
put_fits zero [] i x h f = f
put_fits zero (d ∷ s) i x h f = absurd f
put_fits (suc n) [] i x h f = absurd f
put_fits (suc n) (d ∷ s) zero x h f = (h, f.1)
put_fits (suc n) (d ∷ s) (suc i) x h f = (f.0, put_fits n s i x h f.1)

kept_byte : (n v : ℕ) → Byte v → Byte (data_bits n v)
unfolding data_bits
kept_byte n v h = either Byte (ltb n 2) (omega arith) (either Byte (leb 6 n) (omega arith) h)

-- only a data write and the latch's put a byte into MMC3
written_typed : (mode : Mode) (m : mmc3-type.Mmc3) → TypedMmc3 m → (v a : ℕ) → Byte v → TypedMmc3 (written mode m v a).left
unfolding written move_of applied with_irq
written_typed mode m t v a h =
    let P : Move → Type 0 = λ w. TypedMmc3 (applied mode w m) in
    either P (ltb a 0x8000) t
    (either P (ltb a 0xA000) (either P (is_even a) t (put_fits 8 m.regs m.select (data_bits m.select v) (kept_byte m.select v h) t.0, t.1))
    (either P (ltb a 0xC000) (either P (is_even a) t t)
    (either P (ltb a 0xE000) (either P (is_even a) (t.0, (h, t.1.1)) t)
    (either P (is_even a) t t))))

less : (n : ℕ) → Byte n → Byte (n - 1)
less n h = omega arith

-- a clock keeps the latch and gives the counter a value of the same width
clock_typed : (mode : Mode) (i : Irq) → TypedIrq i → TypedIrq (clock_in mode i).left
unfolding clock_in house_clock board_clock next_counter
clock_typed House i t =
    let P : Clocked → Type 0 = λ c. TypedIrq c.left in
    either P i.reload (t.0, t.0) (either P (eqb i.counter 0) (t.0, t.0) (t.0, less i.counter t.1))
clock_typed OnBoard i t =
    (t.0, either Byte i.reload t.0 (either Byte (eqb i.counter 0) t.0 (less i.counter t.1)))

moved_typed : (k : MapperType) (mode : Mode) (r : Registers) (v a : ℕ) → Byte v → Typed r → Typed (moved k mode r v a).left
unfolding moved uxrom.written
moved_typed Nrom mode r v a h t = t
moved_typed Mmc1 mode r v a h t = t
moved_typed Uxrom mode r v a h t = (either (λ (u : uxrom-type.Uxrom). Byte u.bank) (ltb a 0x8000) t.0 h, t.1)
moved_typed Cnrom mode r v a h t = t
moved_typed Mmc3 mode r v a h t = (t.0, written_typed mode r.mmc3 t.1 v a h)

ticked_typed : (k : MapperType) (mode : Mode) (r : Registers) → Typed r → Typed (ticked k mode r).left
unfolding ticked clocked with_irq
ticked_typed k mode r t =
    either (λ (x : Ticked). Typed x.left) (is_mapper k Mmc3) (t.0, (t.1.0, clock_typed mode r.mmc3.irq t.1.1)) t

-- the registers of a board, and the length that no call changes
typed : (b : Board) → OfItsTypes b → Typed b.registers
typed b t = (t.uxrom_bank, (t.registers, (t.latch, t.counter)))

of_its_types : (b : Board) → b.cart.length < 0x10000000000000000 → Typed b.registers → OfItsTypes b
of_its_types b l t = record { image = l; uxrom_bank = t.0; registers = t.1.0; latch = t.1.1.0; counter = t.1.1.1 }

-- the board that a load starts
pub start_typed : (c : Cartridge) → c.length < 0x10000000000000000 → OfItsTypes (start_of c)
unfolding start_of start mmc3.start
start_typed c h = search (arith, h)

module _ (b : Board) (t : OfItsTypes b) where
  accepted_typed : (v a : ℕ) → Byte v → OfItsTypes (accepted_write b v a).left
  unfolding accepted_write turned
  accepted_typed v a h =
      of_its_types (accepted_write b v a).left t.image (moved_typed b.cart.mapper b.cart.mode b.registers v a h (typed b t))

  -- the board after a write of a byte
  pub write_typed : (p : Landing) (v a : ℕ) → Byte v → OfItsTypes (written_as b p v a).left
  unfolding written_as
  write_typed (Err why) v a h = t
  write_typed (Ok p) v a h = accepted_typed v a h

  -- and after a clock
  pub clocked_typed : OfItsTypes (boards.clock b).left
  unfolding boards.clock boards.accepted_clock
  clocked_typed =
      either (λ (c : boards.Clocked). OfItsTypes c.left) (in_range b)
      (of_its_types (boards.accepted_clock b).left t.image (ticked_typed b.cart.mapper b.cart.mode b.registers (typed b t))) t
