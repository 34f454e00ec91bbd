-- A clock and a write leave the words as they were that they don't pack anew: of the first a write moves one digit. Assumes nothing.
use Prim.Native.Nat.{ℕ}
use mathlib.Core.Path.{◌≡◌, refl, sym, ap, ◌∙◌}
use mathlib.Core.Bool.{Bool, true, false}
use native.Mathlib.Omega.{arith}
use Rattle.rules.specs.Rows.{Fits}
use Rattle.rules.specs.Flat.{flat_digits}
use Rattle.rules.proofs.Rows.{mark_small}
use Rattle.common.specs.declared.Mirroring.{Mirroring}
use Rattle.cartridge.specs.Mappers.{is_mapper}
use Rattle.cartridge.specs.declared.Cartridge.{Cartridge}
use Rattle.cartridge.specs.declared.MapperType.{MapperType}
use Rattle.cartridge.specs.declared.MapperType.TheVariants.{Mmc3}
use Rattle.mmc3.specs.Clock as mmc3
use Rattle.boards.specs.Registers.{moved, ticked}
use Rattle.boards.specs.Write.{turned, accepted_write}
use Rattle.boards.specs.Clock.{accepted_clock}
use Rattle.boards.specs.declared.Board.{Board}
use Rattle.states.specs.Words.{cart_sizes, cart_digits, cart_word, mapper_of, words_of, board_in}
use Rattle.states.specs.Kept.{is_kept}
use Rattle.states.specs.Steps.{with_screens, after_write, after_clock}
use Rattle.states.specs.declared.Words.{Words}
use Rattle.states.proofs.Digits.{mode_small, note_small, mapper_small, screens_small}
use Rattle.states.proofs.RoundTrip.{back_and_there}

screens_moved : (c : Cartridge) (m : Mirroring) → Fits cart_sizes (cart_digits c m) → (n : Mirroring) → with_screens (cart_word c m) n ≡ cart_word c n
screens_moved c m f n = omega arith

-- of the words of any board
clock_own : (b : Board) → after_clock (words_of b) (accepted_clock b).left ≡ words_of (accepted_clock b).left
unfolding words_of accepted_clock ticked mmc3.clocked mmc3.with_irq
clock_own b = go (is_mapper b.cart.mapper Mmc3) refl
  where
    go : (t : Bool) → is_mapper b.cart.mapper Mmc3 ≡ t → after_clock (words_of b) (accepted_clock b).left ≡ words_of (accepted_clock b).left
    go true e = simp (e)
    go false e = simp (e)

write_own : (k : MapperType) (b : Board) (v a : ℕ) → Fits cart_sizes (cart_digits b.cart b.mirroring)
    → let n = (turned b (moved k b.cart.mode b.registers v a)).left in after_write k (words_of b) n ≡ words_of n
unfolding words_of after_write turned moved is_mapper
write_own k b v a f = grind arith

module _ (w : Words) (h : is_kept w ≡ true) where
  pub after_clock_lem : after_clock w (accepted_clock (board_in w)).left ≡ words_of (accepted_clock (board_in w)).left
  after_clock_lem = ap (λ (v : Words). after_clock v (accepted_clock (board_in w)).left) (sym (back_and_there w h)) ∙ clock_own (board_in w)

  pub after_write_lem : (v a : ℕ) → after_write (mapper_of (flat_digits cart_sizes w.cart)) w (accepted_write (board_in w) v a).left ≡ words_of (accepted_write (board_in w) v a).left
  unfolding board_in accepted_write
  after_write_lem v a =
      let k = mapper_of (flat_digits cart_sizes w.cart) in
      ap (λ (x : Words). after_write k x (accepted_write (board_in w) v a).left) (sym (back_and_there w h))
      ∙ write_own k (board_in w) v a (search (arith, mode_small, mark_small, note_small, mapper_small, screens_small))
