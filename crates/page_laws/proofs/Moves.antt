-- When pages move: only with their part of the registers, so never with a clock, and not with the writes of MMC1 and MMC3 that move no bank and no mark. Assumes nothing.
use Rattle.std.specs.Prelude.{Ok, Err}
use Prim.Native.Nat.{ℕ, ◌≤◌, ◌<◌}
use mathlib.Core.Path.{◌≡◌, refl, sym, ap, ◌∙◌, subst⁻¹}
use mathlib.Core.Bool.{Bool, true, false, false≢true, cond, not, ◌&&◌}
use native.Mathlib.Omega.{arith}
use lib.Dec.{ltb}
use borrow.Author.Tests.{lt-ltb, le-ltb, lt-leb, le-leb}
use Rattle.std.proofs.lemmas.Bool.{not-false, cond_both}
use Rattle.rules.proofs.Bools.{either}
use Rattle.cartridge.specs.Mappers.{is_mapper}
use Rattle.common.specs.declared.Mode.{Mode}
use Rattle.common.specs.declared.Refusal.{Refusal}
use Rattle.cartridge.specs.declared.MapperType.{MapperType}
use Rattle.cartridge.specs.declared.MapperType.TheVariants.{Nrom, Mmc1, Uxrom, Cnrom, Mmc3}
use Rattle.places.specs.Places.{Landing}
use Rattle.mmc1.specs.Write as mmc1-write
use Rattle.mmc1.specs.declared.Move as mmc1-move
use Rattle.mmc3.specs.Read as mmc3
use Rattle.mmc3.specs.Clock as mmc3-clock
use Rattle.mmc3.specs.Write as mmc3-write
use Rattle.mmc3.specs.declared.Move as mmc3-move
use Rattle.mmc3.specs.declared.RamMarks.{RamMarks}
use Rattle.boards.specs.Registers.{with_mmc1, with_mmc3, moved, ticked}
use Rattle.boards.specs.Range.{in_range}
use Rattle.boards.specs.Write.{turned, accepted_write, written_as}
use Rattle.boards.specs.Clock.{accepted_clock, clock}
use Rattle.boards.specs.declared.Board.{Board}
use Rattle.boards.specs.Clock.{Clocked}
use Rattle.boards.specs.declared.Event.TheVariants.{Write}
use Rattle.boards.specs.declared.Registers.{Registers}
use Rattle.pages.specs.Pages.{read_page, write_page}
use Rattle.pages.specs.Parts.{same_mark, same_chr3, same_prg3, same_ram3, same_chr, same_prg, same_ram, parts_moved}
use Rattle.pages.specs.declared.Parts.{Parts}
use Rattle.pages.proofs.SameRegisters.{parts_self}
use Rattle.laws.specs.Protection.{is_protecting, protects}
use Rattle.laws.proofs.Protection.{is_protect, moved_marks}
use Rattle.page_laws.specs.Moves.{moved_parts, unmoved}
use Rattle.page_laws.proofs.Hangs.{reads_alike, writes_alike}

-- a part that has not moved is the same, and its pages are what they were; pages 8 to 23 are of no part, nor are the write pages from 32 on
module _ (b d : Board) (e : b.cart ≡ d.cart) (p : ℕ) (chr : p < 8 → (moved_parts b d).chr ≡ false) (ram : 24 ≤ p → p < 32 → (moved_parts b d).ram ≡ false) where
  same_chr_lem : p < 8 → same_chr b.cart.mapper b.registers d.registers ≡ true
  unfolding parts_moved
  same_chr_lem l = not-false (same_chr b.cart.mapper b.registers d.registers) (chr l)

  same_ram_lem : 24 ≤ p → p < 32 → same_ram b.cart.mapper b.registers d.registers ≡ true
  unfolding parts_moved
  same_ram_lem g l = not-false (same_ram b.cart.mapper b.registers d.registers) (ram g l)

  pub reads_stay : (32 ≤ p → (moved_parts b d).prg ≡ false) → read_page d p ≡ read_page b p
  unfolding parts_moved
  reads_stay prg = sym (reads_alike b d e p same_chr_lem same_ram_lem (λ g. not-false (same_prg b.cart.mapper b.registers d.registers) (prg g)))

  pub writes_stay : write_page d p ≡ write_page b p
  writes_stay = sym (writes_alike b d e p same_chr_lem same_ram_lem)

-- a clock moves none
clock_parts : (k : MapperType) (mode : Mode) (r : Registers) → parts_moved k r (ticked k mode r).left ≡ unmoved
unfolding ticked is_mapper mmc3-clock.clocked mmc3-clock.with_irq parts_moved same_chr same_prg same_ram same_chr3 same_prg3 same_ram3 mmc3.register
clock_parts Nrom mode r = parts_self Nrom r
clock_parts Mmc1 mode r = parts_self Mmc1 r
clock_parts Uxrom mode r = parts_self Uxrom r
clock_parts Cnrom mode r = parts_self Cnrom r
clock_parts Mmc3 mode r = parts_self Mmc3 r

module _ (b : Board) where
  pub clock_unmoved : moved_parts b (clock b).left ≡ unmoved
  unfolding clock accepted_clock
  clock_unmoved =
      either (λ (x : Clocked). moved_parts b x.left ≡ unmoved) (in_range b)
      (clock_parts b.cart.mapper b.cart.mode b.registers)
      (parts_self b.cart.mapper b.registers)

  clock_cart : b.cart ≡ (clock b).left.cart
  unfolding clock accepted_clock
  clock_cart = either (λ (x : Clocked). b.cart ≡ x.left.cart) (in_range b) refl refl

  pub clock_reads : (p : ℕ) → read_page (clock b).left p ≡ read_page b p
  clock_reads p =
      reads_stay b (clock b).left clock_cart p (λ l. ap (λ (x : Parts). x.chr) clock_unmoved) (λ g l. ap (λ (x : Parts). x.ram) clock_unmoved) (λ g. ap (λ (x : Parts). x.prg) clock_unmoved)

  pub clock_writes : (p : ℕ) → write_page (clock b).left p ≡ write_page b p
  clock_writes p = writes_stay b (clock b).left clock_cart p (λ l. ap (λ (x : Parts). x.chr) clock_unmoved) (λ g l. ap (λ (x : Parts). x.ram) clock_unmoved)

-- a write, wherever it lands and by whatever it is refused
module _ (b : Board) (l : Landing) (v a : ℕ) where
  accepted_or_not : (P : Board → Type 0) → P b → P (accepted_write b v a).left → P (written_as b l v a).left
  unfolding written_as
  accepted_or_not P stays moves = go l
    where
      go : (l : Landing) → P (written_as b l v a).left
      go (Ok p) = moves
      go (Err why) = stays

  pub write_keeps_cart : b.cart ≡ (written_as b l v a).left.cart
  unfolding accepted_write turned
  write_keeps_cart = accepted_or_not (λ (d : Board). b.cart ≡ d.cart) refl refl

  module _ (p : ℕ) (chr : p < 8 → (moved_parts b (written_as b l v a).left).chr ≡ false) (ram : 24 ≤ p → p < 32 → (moved_parts b (written_as b l v a).left).ram ≡ false) where
    pub write_reads : (32 ≤ p → (moved_parts b (written_as b l v a).left).prg ≡ false) → read_page (written_as b l v a).left p ≡ read_page b p
    write_reads prg = reads_stay b (written_as b l v a).left write_keeps_cart p chr ram prg

    pub write_writes : write_page (written_as b l v a).left p ≡ write_page b p
    write_writes = writes_stay b (written_as b l v a).left write_keeps_cart p chr ram

  -- by the mapper
  moves_as : (k : MapperType) → b.cart.mapper ≡ k → parts_moved k b.registers (moved k b.cart.mode b.registers v a).left ≡ unmoved
      → moved_parts b (written_as b l v a).left ≡ unmoved
  unfolding accepted_write turned
  moves_as k e f =
      accepted_or_not (λ (d : Board). moved_parts b d ≡ unmoved) (parts_self b.cart.mapper b.registers)
      (subst⁻¹ (λ (x : MapperType). parts_moved x b.registers (moved x b.cart.mode b.registers v a).left ≡ unmoved) e f)

  -- a refused write moves none
  pub refused_unmoved : (why : Refusal) → l ≡ Err why → moved_parts b (written_as b l v a).left ≡ unmoved
  unfolding written_as
  refused_unmoved why e = rw e (parts_self b.cart.mapper b.registers)

  -- the first four bits in MMC1's serial register move no part
  pub mmc1_unmoved : b.cart.mapper ≡ Mmc1 → b.registers.mmc1.serial.count < 4 → v < 128 → moved_parts b (written_as b l v a).left ≡ unmoved
  unfolding moved mmc1-write.written mmc1-write.move_of mmc1-write.applied parts_moved same_chr same_prg same_ram is_mapper
  mmc1_unmoved e n h =
      let r = b.registers in
      let P : mmc1-move.Move → Type 0 = λ t. parts_moved Mmc1 r (with_mmc1 r (mmc1-write.applied b.cart.mode t r.mmc1)) ≡ unmoved in
      moves_as Mmc1 e (rw (lt-leb 128 v h, lt-ltb r.mmc1.serial.count 4 (omega (arith, n))) (either P (ltb a 0x8000) (parts_self Mmc1 r) (parts_self Mmc1 r)))

  -- nor does what MMC3 takes at A000-FFFF, but for the marks of RAM: the screens and the interrupt unit
  pub mmc3_unmoved : b.cart.mapper ≡ Mmc3 → 0xA000 ≤ a → is_protecting a ≡ false → moved_parts b (written_as b l v a).left ≡ unmoved
  unfolding moved mmc3-write.written mmc3-write.move_of mmc3-write.applied mmc3-clock.with_irq parts_moved same_chr same_prg same_ram is_mapper same_chr3 same_prg3 same_ram3 mmc3.register
  mmc3_unmoved e g other =
      let r = b.registers in
      let P : mmc3-move.Move → Type 0 = λ t. parts_moved Mmc3 r (with_mmc3 r (mmc3-write.applied b.cart.mode t r.mmc3)) ≡ unmoved in
      let self = parts_self Mmc3 r in
      let even = mmc3-write.is_even a in
      moves_as Mmc3 e
      (rw (le-ltb a 0x8000 (omega arith), le-ltb a 0xA000 g)
      (cond_both (ltb a 0xC000) _ _ P (λ low. cond_both even _ _ P (λ t. self) (λ odd. absurd (false≢true (sym other ∙ rw (le-leb 0xA000 a g, low, odd) refl))))
      (λ h. either P (ltb a 0xE000) (either P even self self) (either P even self self))))

  -- no other write sets their bit, none of house mode and none of another board
  pub ram_unmoved : protects b.cart (Write a v) ≡ false → (moved_parts b (written_as b l v a).left).ram ≡ false
  unfolding accepted_write turned parts_moved same_ram same_ram3
  ram_unmoved h =
      let r = b.registers in
      let k = b.cart.mapper in
      let Moved : RamMarks → Bool = λ m. not (cond (is_mapper k Mmc3) (same_mark r.mmc3.ram.enabled m.enabled && same_mark r.mmc3.ram.denied m.denied) true) in
      let self : Moved r.mmc3.ram ≡ false = ap (λ (x : Parts). x.ram) (parts_self k r) in
      accepted_or_not (λ (d : Board). Moved d.registers.mmc3.ram ≡ false) self (ap Moved (moved_marks v a k b.cart.mode r h) ∙ self)

  -- and the marks move pages 24 to 31 alone
  pub mmc3_protects : b.cart.mapper ≡ Mmc3 → is_protecting a ≡ true → ((moved_parts b (written_as b l v a).left).chr ≡ false) × ((moved_parts b (written_as b l v a).left).prg ≡ false)
  unfolding accepted_write turned moved mmc3-write.written mmc3-write.applied parts_moved same_chr same_prg same_chr3 same_prg3 mmc3.register
  mmc3_protects e h =
      let r = b.registers in
      let self = parts_self Mmc3 r in
      let Others : MapperType → Board → Type 0 = λ k d. ((parts_moved k r d.registers).chr ≡ false) × ((parts_moved k r d.registers).prg ≡ false) in
      let none : (k : MapperType) → Others k b = λ k. (ap (λ (x : Parts). x.chr) (parts_self k r), ap (λ (x : Parts). x.prg) (parts_self k r)) in
      accepted_or_not (λ (d : Board). Others b.cart.mapper d) (none b.cart.mapper)
      (subst⁻¹ (λ (k : MapperType). Others k (turned b (moved k b.cart.mode r v a)).left) e
      (rw (is_protect v a h) (ap (λ (x : Parts). x.chr) self, ap (λ (x : Parts). x.prg) self)))
