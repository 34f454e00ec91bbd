-- What a deed makes of an MMC3 board; and that what each safe deed keeps holds at the end. Assumes nothing.
use Prim.Native.Nat.{ℕ, zero, suc, ◌<◌}
use mathlib.Core.Path.{◌≡◌, refl, ap, ◌∙◌, subst⁻¹}
use mathlib.Core.List.{List, [], ◌∷◌}
use native.Mathlib.Omega.{arith}
use Rattle.common.specs.declared.Mode.{Mode}
use Rattle.cartridge.specs.declared.Cartridge.{Cartridge}
use Rattle.mmc3.specs.Clock.{clocked}
use Rattle.mmc3.specs.Write.{move_of, applied}
use Rattle.mmc3.specs.declared.Mmc3 as mmc3-type
use Rattle.boards.specs.Write.{landing}
use Rattle.boards.specs.Runs.{Lent, next, Call, call, after}
use Rattle.boards.specs.declared.Board.{Board}
use Rattle.boards.specs.declared.Event.{Event}
use Rattle.boards.specs.declared.Event.TheVariants.{Read, Write, Clock}
use Rattle.laws.specs.Clocks.{Plays}
use Rattle.laws.specs.Deeds.{Deed, deed, deeds, deed_at}
use Rattle.laws.specs.Deeds.Deed.{rests, writes, clocks}
use Rattle.laws.specs.Loads.{accepts}
use Rattle.laws.proofs.Accepting.{after_write}
use Rattle.laws.proofs.Arming.{moved_mmc3, tick_mmc3}
use Rattle.laws.proofs.Cases.{alike}
use Rattle.laws.proofs.Ranges.{run_in_range, run_keeps_cart}

pub plays_after : {mode : Mode} {b : Board} → Plays mode b → (cs : List Call) → Plays mode (after b cs)
plays_after {mode} {b} p cs =
    record {
      in_mode = ap (λ (c : Cartridge). c.mode) (run_keeps_cart b cs) ∙ p.in_mode;
      is_mmc3 = ap (λ (c : Cartridge). c.mapper) (run_keeps_cart b cs) ∙ p.is_mmc3;
      is_in_range = run_in_range b cs p.is_in_range;
    }

pub plays_next : {mode : Mode} {b : Board} → Plays mode b → (l : Lent) (e : Event) → Plays mode (next b l e)
unfolding after
plays_next p l e = plays_after p (call l e ∷ [])

-- the board after a deed
abbrev pub mmc3_after : Mode → Deed → mmc3-type.Mmc3 → mmc3-type.Mmc3
mmc3_after mode rests m = m
mmc3_after mode (writes k) m = applied mode k m
mmc3_after mode clocks m = (clocked mode m).left

next_mmc3 : {mode : Mode} {b : Board} → Plays mode b → (l : Lent) (e : Event) → (next b l e).registers.mmc3 ≡ mmc3_after mode (deed b l e) b.registers.mmc3
unfolding next deed
next_mmc3 p l (Read a) = refl
next_mmc3 {mode} {b} p l (Write a v) =
    ap (λ (x : Board). x.registers.mmc3) (after_write b (landing b l.image l.prg l.chr a) v a)
    ∙ alike (λ (x : Board) (d : Deed). x.registers.mmc3 ≡ mmc3_after mode d b.registers.mmc3) (accepts b l a)
    (moved_mmc3 b p.is_mmc3 v a ∙ ap (λ (m : Mode). applied m (move_of v a) b.registers.mmc3) p.in_mode) refl
next_mmc3 {mode} {b} p l Clock =
    tick_mmc3 b p.is_in_range p.is_mmc3 ∙ ap (λ (m : Mode). (clocked m b.registers.mmc3).left) p.in_mode

-- what holds at the start, or is made by the deed at a position, and is kept by each safe deed, holds at the end if all deeds, or all after that one, are safe
module _ {mode : Mode} (P : mmc3-type.Mmc3 → Type 0) (Safe : Deed → Type 0) (keep : (d : Deed) (m : mmc3-type.Mmc3) → Safe d → P m → P (mmc3_after mode d m)) where
  pub stays : (b : Board) → Plays mode b → P b.registers.mmc3 → (cs : List Call) → ((j : ℕ) → Safe (deed_at b cs j)) → P (after b cs).registers.mmc3
  unfolding after deeds
  stays b p h [] s = h
  stays b p h (call l e ∷ cs) s =
      stays (next b l e) (plays_next p l e) (subst⁻¹ P (next_mmc3 p l e) (keep (deed b l e) b.registers.mmc3 (s 0) h)) cs (λ j. s (suc j))

  pub made : (k : Deed) → (rests ≡ k → ⊥) → ((m : mmc3-type.Mmc3) → P (mmc3_after mode k m)) → (b : Board) → Plays mode b → (cs : List Call) (i : ℕ) → deed_at b cs i ≡ k
      → ((j : ℕ) → i < j → Safe (deed_at b cs j)) → P (after b cs).registers.mmc3
  unfolding after deeds
  made k some make b p [] i d s = absurd (some d)
  made k some make b p (call l e ∷ cs) zero d s =
      stays (next b l e) (plays_next p l e) (subst⁻¹ P (next_mmc3 p l e) (subst⁻¹ (λ (x : Deed). P (mmc3_after mode x b.registers.mmc3)) d (make b.registers.mmc3))) cs
      (λ j. s (suc j) (omega arith))
  made k some make b p (call l e ∷ cs) (suc i) d s =
      made k some make (next b l e) (plays_next p l e) cs i d (λ j h. s (suc j) (omega arith))
