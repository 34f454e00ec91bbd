-- Every digit of a board in range is below its size: those of another board's registers are at their start. Assumes nothing.
use Prim.Native.Nat.{◌<◌}
use mathlib.Core.Path.{◌≡◌, subst⁻¹}
use mathlib.Core.Bool.{Bool, true}
use mathlib.Core.List.{[], ◌∷◌}
use native.Mathlib.Omega.{arith}
use borrow.Author.Tests.{ltb-true, eqb-true}
use mir.Val.{bool_byte}
use Rattle.rules.specs.Rows.{Fits, bytes}
use Rattle.rules.proofs.Bools.{either}
use Rattle.rules.proofs.Rows.{each, mark_small}
use Rattle.common.specs.Common.{mode_number, mode_of}
use Rattle.common.specs.declared.Mode.{Mode}
use Rattle.common.specs.declared.Mirroring.{Mirroring}
use Rattle.cartridge.specs.Load.{could_load}
use Rattle.cartridge.specs.Mappers.{mapper_number, is_mapper, mapper_type}
use Rattle.cartridge.specs.declared.Cartridge.{Cartridge}
use Rattle.cartridge.proofs.Range.{fields, counts_end_small}
use Rattle.cartridge.specs.declared.MapperType.{MapperType}
use Rattle.cartridge.specs.declared.MapperType.TheVariants.{Mmc1, Cnrom, Mmc3}
use Rattle.cnrom.specs.Cnrom as cnrom
use Rattle.cnrom.specs.declared.Cnrom as cnrom-type
use Rattle.mmc1.specs.Range as mmc1
use Rattle.mmc1.specs.declared.Mmc1 as mmc1-type
use Rattle.mmc3.specs.Range as mmc3
use Rattle.mmc3.specs.declared.Mmc3 as mmc3-type
use Rattle.boards.specs.Registers.{part_fits, fits}
use Rattle.boards.specs.Range.{in_range}
use Rattle.boards.specs.declared.Board.{Board}
use Rattle.states.specs.Words.{mirroring_digit, mirroring_of, cart_sizes, cart_digits, banks_sizes, banks_digits, regs_digits, irq_sizes, irq_digits}
use Rattle.states.specs.Kept.{OfItsTypes}
use Rattle.states.proofs.Starts.{mmc1_unused}

-- each enum is the one of its digit
pub mode_small : (m : Mode) → mode_number m < 2
mode_small m = grind arith

pub mode_there : (m : Mode) → mode_of (mode_number m) ≡ m
unfolding mode_of
mode_there m = grind arith

pub mapper_small : (m : MapperType) → mapper_number m < 0x100
mapper_small m = grind arith

pub mapper_there : (m : MapperType) → mapper_type (mapper_number m) ≡ m
unfolding mapper_type
mapper_there m = grind arith

-- PRG RAM has two bits
pub note_small : (t : Bool) → bool_byte t < 4
note_small t = omega (arith, mark_small t)

pub screens_small : (m : Mirroring) → mirroring_digit m < 4
screens_small m = grind arith

pub screens_there : (m : Mirroring) → mirroring_of (mirroring_digit m) ≡ m
unfolding mirroring_of
screens_there m = grind arith

-- what follows of a part in its range and of a part at its start follows of every part that fits
part : (A : Type 0) (k owner : MapperType) {in_range at_start : Bool} → (in_range ≡ true → A) → (at_start ≡ true → A) → part_fits k owner in_range at_start ≡ true → A
unfolding part_fits
part A k owner f g = either (λ (x : Bool). x ≡ true → A) (is_mapper k owner) f g

cnrom_small : (k : MapperType) (u : cnrom-type.Cnrom) → part_fits k Cnrom (cnrom.fits u) (cnrom.is_start u) ≡ true → u.bank < 4
cnrom_small k u = part (u.bank < 4) k Cnrom (ltb-true u.bank 4) (λ e. omega (arith, eqb-true u.bank 0 e))

-- the seven digits of MMC1
abbrev Mmc1Small : mmc1-type.Mmc1 → Type 0
Mmc1Small m =
    Fits (8 ∷ 32 ∷ 4 ∷ 2 ∷ 32 ∷ 32 ∷ 16 ∷ [])
    (m.serial.count ∷ m.serial.value ∷ m.regs.prgmode ∷ m.regs.chrmode ∷ m.regs.chr0 ∷ m.regs.chr1 ∷ m.regs.prg ∷ [])

mmc1_used : (m : mmc1-type.Mmc1) → mmc1.fits m ≡ true → Mmc1Small m
unfolding mmc1.fits mmc1.serial_fits mmc1.regs_fits
mmc1_used m h =
    let c : m.serial.count < 5 = grind (arith, ltb-true) in
    (omega arith, grind (arith, ltb-true))

mmc1_small : (k : MapperType) (m : mmc1-type.Mmc1) → part_fits k Mmc1 (mmc1.fits m) (mmc1.is_unused m) ≡ true → Mmc1Small m
mmc1_small k m = part (Mmc1Small m) k Mmc1 (mmc1_used m) (λ e. subst⁻¹ Mmc1Small ((mmc1_unused m).0 e) (search arith))

-- three digits of MMC3; the others fit by their types
abbrev Mmc3Small : mmc3-type.Mmc3 → Type 0
Mmc3Small m = Fits (8 ∷ 2 ∷ 2 ∷ []) (m.select ∷ m.prgmode ∷ m.chrmode ∷ [])

mmc3_unused : (m : mmc3-type.Mmc3) → mmc3.is_start m ≡ true → Mmc3Small m
unfolding mmc3.is_start
mmc3_unused m h =
    let s : m.select ≡ 0 = grind (arith, eqb-true) in
    let p : m.prgmode ≡ 0 = grind (arith, eqb-true) in
    let c : m.chrmode ≡ 0 = grind (arith, eqb-true) in
    search arith

mmc3_small : (k : MapperType) (mode : Mode) (m : mmc3-type.Mmc3) → part_fits k Mmc3 (mmc3.fits mode m) (mmc3.is_start m) ≡ true → Mmc3Small m
unfolding mmc3.fits
mmc3_small k mode m = part (Mmc3Small m) k Mmc3 (λ (h : mmc3.fits mode m ≡ true). grind (arith, ltb-true)) (mmc3_unused m)

-- both counts are below 4,096 where a load could leave them
counts : (c : Cartridge) → could_load c ≡ true → (c.prg < 0x1000) × (c.chr < 0x1000)
counts c h =
    let f = fields c h in
    let e = counts_end_small c.mode c.nes2 in
    (omega (arith, e, f.prg_small), omega (arith, e, f.chr_small))

-- every digit of a board is below its size
pub record InRows (b : Board) : Type 0 where
  pub cart : Fits cart_sizes (cart_digits b.cart b.mirroring)
  pub banks : Fits banks_sizes (banks_digits b.registers.uxrom b.registers.cnrom b.registers.mmc1)
  pub regs : Fits bytes (regs_digits b.registers.mmc3.regs)
  pub irq : Fits irq_sizes (irq_digits b.registers.mmc3)

pub in_rows : (b : Board) → OfItsTypes b → in_range b ≡ true → InRows b
unfolding in_range fits
in_rows b t h =
    let k = b.cart.mapper in
    let r = b.registers in
    let c = counts b.cart (grind arith) in
    let n = cnrom_small k r.cnrom (grind arith) in
    let o = mmc1_small k r.mmc1 (grind arith) in
    let m = mmc3_small k b.cart.mode r.mmc3 (grind arith) in
    record {
      cart = search (arith, mode_small, mark_small, note_small, mapper_small, screens_small, c);
      banks = search (arith, n, o, t);
      regs = each bytes r.mmc3.regs t.registers;
      irq = search (arith, mark_small, m, t);
    }
