-- The CHR mode that a call finds is bit 4 of the last control load before it, since no other load moves it. Assumes nothing.
use Prim.Native.Nat.{ℕ, zero, suc, ◌/◌, ◌%◌, ◌<◌}
use mathlib.Core.Path.{◌≡◌, refl, ap, ◌∙◌}
use mathlib.Core.List.{List, [], ◌∷◌}
use native.Mathlib.Nat.{le_of_suc-le-suc}
use native.Mathlib.Omega.{arith}
use Rattle.common.specs.declared.Mode.{Mode}
use Rattle.cartridge.specs.declared.Cartridge.{Cartridge}
use Rattle.cartridge.specs.declared.MapperType.TheVariants.{Mmc1}
use Rattle.mmc1.specs.Write.{reset, load, applied}
use Rattle.mmc1.specs.declared.Mmc1 as mmc1-type
use Rattle.mmc1.specs.declared.Move.{Move}
use Rattle.mmc1.specs.declared.Move.TheVariants.{Fill}
use Rattle.mmc1.specs.declared.Register.{Register}
use Rattle.mmc1.specs.declared.Register.TheVariants.{Control}
use Rattle.boards.specs.Runs.{Lent, next, Call, call, after}
use Rattle.boards.specs.declared.Board.{Board}
use Rattle.boards.specs.declared.Event.{Event}
use Rattle.laws.specs.Loads.{made, moves}
use Rattle.laws.specs.SettlesMmc1.{bit4_at, LoadsAt}
use Rattle.laws.proofs.Ranges.{next_keeps_cart}
use Rattle.laws.proofs.Mmc1Moves.{next_is}

-- the position of a load, one call further on
later : {b : Board} {l : Lent} {e : Event} {cs : List Call} {r : Register} {i : ℕ} → LoadsAt (next b l e) cs r i → LoadsAt b (call l e ∷ cs) r (suc i)
unfolding moves
later l = record { bits = l.bits; done = l.done }

still : (m : Mode) (k : Move) (x : mmc1-type.Mmc1) → ((v : ℕ) → k ≡ Fill Control v → ⊥) → (applied m k x).regs.chrmode ≡ x.regs.chrmode
unfolding applied reset load
still m k x h = grind arith

module _ (b : Board) (is-mmc1 : b.cart.mapper ≡ Mmc1) (l : Lent) (e : Event) where
  next_mmc1 : (next b l e).cart.mapper ≡ Mmc1
  next_mmc1 = ap (λ (x : Cartridge). x.mapper) (next_keeps_cart b l e) ∙ is-mmc1

  moved_mode : (next b l e).registers.mmc1.regs.chrmode ≡ (applied b.cart.mode (made b l e) b.registers.mmc1).regs.chrmode
  moved_mode = ap (λ (x : Board). x.registers.mmc1.regs.chrmode) (next_is b is-mmc1 l e)

  same_mode : ((v : ℕ) → made b l e ≡ Fill Control v → ⊥) → (next b l e).registers.mmc1.regs.chrmode ≡ b.registers.mmc1.regs.chrmode
  same_mode h = moved_mode ∙ still b.cart.mode (made b l e) b.registers.mmc1 h

  set_mode : (v : ℕ) → made b l e ≡ Fill Control v → (next b l e).registers.mmc1.regs.chrmode ≡ v / 16 % 2
  unfolding applied load
  set_mode v f = moved_mode ∙ ap (λ (k : Move). (applied b.cart.mode k b.registers.mmc1).regs.chrmode) f

-- with no control load the mode stays
stays : (b : Board) → b.cart.mapper ≡ Mmc1 → (cs : List Call) (j : ℕ) → ((k : ℕ) → k < j → LoadsAt b cs Control k → ⊥) → bit4_at b cs j ≡ b.registers.mmc1.regs.chrmode
unfolding after moves
stays b m cs zero h = refl
stays b m [] (suc j) h = refl
stays b m (call l e ∷ cs) (suc j) h =
    stays (next b l e) (next_mmc1 b m l e) cs j (λ k p n. h (suc k) (omega arith) (later n))
    ∙ same_mode b m l e (λ v q. h zero (omega arith) (record { bits = v; done = q }))

-- "while control bit 4 is set" by positions: the control load at i is the last before j
pub bit_4_is_the_last_control_loads : (b : Board) → b.cart.mapper ≡ Mmc1 → (cs : List Call) (i j : ℕ) → i < j → (l : LoadsAt b cs Control i)
    → ((k : ℕ) → i < k → k < j → LoadsAt b cs Control k → ⊥) → bit4_at b cs j ≡ l.bits / 16 % 2
unfolding after moves
bit_4_is_the_last_control_loads b m [] i j p l h = cc
bit_4_is_the_last_control_loads b m (call k e ∷ cs) i zero p l h = absurd (omega arith)
bit_4_is_the_last_control_loads b m (call k e ∷ cs) zero (suc j) p l h =
    stays (next b k e) (next_mmc1 b m k e) cs j (λ n q o. h (suc n) (omega arith) (omega arith) (later o)) ∙ set_mode b m k e l.bits l.done
bit_4_is_the_last_control_loads b m (call k e ∷ cs) (suc i) (suc j) p l h =
    bit_4_is_the_last_control_loads (next b k e) (next_mmc1 b m k e) cs i j (le_of_suc-le-suc p) (record { bits = l.bits; done = l.done }) (λ n q s o. h (suc n) (omega arith) (omega arith) (later o))
