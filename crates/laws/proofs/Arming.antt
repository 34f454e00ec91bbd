-- What a clock and an accepted write do to an MMC3 board: latch, reload and enable leave its unit ready, whatever it was, and an acknowledging write its line low.
-- Assumes nothing.
use Prim.Native.Nat.{ℕ}
use mathlib.Core.Path.{◌≡◌, ap, ◌∙◌}
use mathlib.Core.Bool.{Bool, true, false, cond}
use Rattle.cartridge.specs.Mappers.{is_mapper}
use Rattle.cartridge.specs.declared.MapperType.{MapperType}
use Rattle.cartridge.specs.declared.MapperType.TheVariants.{Mmc3}
use Rattle.mmc3.specs.Clock as mmc3-clock
use Rattle.mmc3.specs.Write.{move_of, applied, written}
use Rattle.mmc3.specs.declared.Mmc3 as mmc3-type
use Rattle.mmc3.specs.declared.Move.{Move}
use Rattle.mmc3.specs.declared.Move.TheVariants.{Latch, Reload, Enable, Disable}
use Rattle.boards.specs.Range.{in_range}
use Rattle.boards.specs.Registers.{moved, mmc3_ticked, ticked}
use Rattle.boards.specs.Write.{turned, accepted_write, landing}
use Rattle.boards.specs.Clock.{yes_no, accepted_clock, clock}
use Rattle.boards.specs.Runs.{next}
use Rattle.boards.specs.declared.Board.{Board}
use Rattle.boards.specs.Registers.{Ticked}
use Rattle.laws.specs.Calls.{OneImage, LentWrite, wrote}
use Rattle.laws.specs.Clocks.{line_up}
use Rattle.laws.specs.Loads.{accepts}
use Rattle.laws.specs.SettlesMmc3.{Arming, latched, reloaded, armed, Accepts, Acknowledges}
use Rattle.laws.proofs.Accepting.{after_write}
use Rattle.laws.proofs.Clocks.{ready}
use Rattle.laws.proofs.OneImage.{wrote_one}

pub moved_mmc3 : (b : Board) → b.cart.mapper ≡ Mmc3 → (v a : ℕ) → (accepted_write b v a).left.registers.mmc3 ≡ applied b.cart.mode (move_of v a) b.registers.mmc3
unfolding accepted_write turned moved written
moved_mmc3 b e v a = ap (λ (k : MapperType). (moved k b.cart.mode b.registers v a).left.mmc3) e

-- a clock of a board in range is MMC3's
module _ (b : Board) (ok : in_range b ≡ true) (is_mmc3 : b.cart.mapper ≡ Mmc3) where
  ticked_is : ticked b.cart.mapper b.cart.mode b.registers ≡ mmc3_ticked b.cart.mode b.registers
  unfolding ticked is_mapper
  ticked_is = ap (λ (k : MapperType). ticked k b.cart.mode b.registers) is_mmc3

  pub tick_mmc3 : (clock b).left.registers.mmc3 ≡ (mmc3-clock.clocked b.cart.mode b.registers.mmc3).left
  unfolding clock accepted_clock
  tick_mmc3 = rw ok (ap (λ (t : Ticked). t.left.mmc3) ticked_is)

  pub tick_answer : (clock b).answer ≡ yes_no (mmc3-clock.clocked b.cart.mode b.registers.mmc3).answer
  unfolding clock accepted_clock
  tick_answer = rw ok (ap (λ (t : Ticked). yes_no t.answer) ticked_is)

-- an accepted write leaves what its move makes
pub accepted_mmc3 : (b : Board) → b.cart.mapper ≡ Mmc3 → (w : LentWrite) (k : Move) → accepts b w.lent w.address ≡ true → move_of w.byte w.address ≡ k
    → (wrote b w).registers.mmc3 ≡ applied b.cart.mode k b.registers.mmc3
unfolding next
accepted_mmc3 b is_mmc3 w k e f =
    let l = w.lent in
    ap (λ (x : Board). x.registers.mmc3) (after_write b (landing b l.image l.prg l.chr w.address) w.byte w.address)
    ∙ ap (λ (t : Bool). (cond t (accepted_write b w.byte w.address).left b).registers.mmc3) e
    ∙ moved_mmc3 b is_mmc3 w.byte w.address
    ∙ ap (λ (x : Move). applied b.cart.mode x b.registers.mmc3) f

-- an acknowledging write leaves the line low and IRQ disabled
pub acknowledged : (b : Board) → b.cart.mapper ≡ Mmc3 → (w : LentWrite) → Acknowledges b w → (line_up (wrote b w) ≡ false) × ((wrote b w).registers.mmc3.irq.enabled ≡ false)
unfolding applied mmc3-clock.with_irq
acknowledged b is_mmc3 w a =
    let e = accepted_mmc3 b is_mmc3 w Disable a.accepted a.is_acknowledging in
    (ap (λ (m : mmc3-type.Mmc3). m.line) e, ap (λ (m : mmc3-type.Mmc3). m.irq.enabled) e)

-- the three writes leave a unit that is ready, and the line as it was
module _ {b d : Board} (o : OneImage Mmc3 b d) (w : Arming) where
  latched_one : OneImage Mmc3 (latched b w) d
  latched_one = wrote_one o w.latch

  reloaded_one : OneImage Mmc3 (reloaded b w) d
  reloaded_one = wrote_one latched_one w.reload

  pub armed_one : OneImage Mmc3 (armed b w) d
  armed_one = wrote_one reloaded_one w.enable

  module _ (p : Accepts b w) where
    armed_mmc3 : (armed b w).registers.mmc3 ≡ applied (reloaded b w).cart.mode Enable (applied (latched b w).cart.mode Reload (applied b.cart.mode (Latch w.latch.byte) b.registers.mmc3))
    armed_mmc3 =
        accepted_mmc3 (reloaded b w) reloaded_one.mapper w.enable Enable p.enable p.is_enable
        ∙ ap (applied (reloaded b w).cart.mode Enable)
        (accepted_mmc3 (latched b w) latched_one.mapper w.reload Reload p.reload p.is_reload
        ∙ ap (applied (latched b w).cart.mode Reload) (accepted_mmc3 b o.mapper w.latch (Latch w.latch.byte) p.latch p.is_latch))

    pub armed_irq : (armed b w).registers.mmc3.irq ≡ ready w.latch.byte b.registers.mmc3.irq.counter
    unfolding applied mmc3-clock.with_irq
    armed_irq = ap (λ (m : mmc3-type.Mmc3). m.irq) armed_mmc3

    pub armed_line : line_up (armed b w) ≡ line_up b
    unfolding applied mmc3-clock.with_irq
    armed_line = ap (λ (m : mmc3-type.Mmc3). m.line) armed_mmc3
