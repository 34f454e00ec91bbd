-- Whether a write is accepted depends on what was loaded, on the lent lengths and on whether the board refuses the address; the real board refuses none.
-- Assumes nothing.
use native.Mathlib.Omega.{arith}
use Prim.Native.Nat.{ℕ}
use mathlib.Core.Path.{◌≡◌, sym, ap, ◌∙◌}
use mathlib.Core.Bool.{Bool, true, cond, ◌&&◌}
use lib.Dec.{eqb}
use lib.ListN.{length}
use Rattle.common.specs.declared.Mode.TheVariants.{Board as OnBoard}
use Rattle.cartridge.specs.Load.{rams_fit}
use Rattle.cartridge.specs.declared.Cartridge.{Cartridge}
use Rattle.cartridge.specs.declared.MapperType.{MapperType}
use Rattle.places.specs.Places.{Landing}
use Rattle.boards.specs.Range.{in_range, is_loaded, guarded}
use Rattle.boards.specs.Write.{write_landing, accepted_write, written_as, landing}
use Rattle.boards.specs.Runs.{Lent}
use Rattle.boards.specs.declared.Board.{Board}
use Rattle.laws.specs.Calls.{OneImage}
use Rattle.laws.specs.Loads.{is_accepted, accepts}
use Rattle.laws.specs.Within.{Found}
use Rattle.laws.proofs.Within.{board_writes}

found_accepted : (p : Landing) → Found p → is_accepted p ≡ true
unfolding is_accepted
found_accepted p f = grind arith

guarded_alike : (rams s t : Bool) (p q : Landing) → s ≡ t → is_accepted p ≡ is_accepted q → is_accepted (guarded rams s p) ≡ is_accepted (guarded rams t q)
unfolding guarded
guarded_alike rams s t p q e f = grind arith

-- two boards of one image
module _ {k : MapperType} {b d : Board} (o : OneImage k b d) where
  pub loaded_alike : (n : ℕ) → is_loaded b n ≡ is_loaded d n
  unfolding is_loaded
  loaded_alike n =
      ap (λ (t : Bool). t && eqb n b.cart.length) (o.first ∙ sym o.second) ∙ ap (λ (c : Cartridge). in_range d && eqb n c.length) o.cart

  pub board_alike : b.cart.mode ≡ OnBoard → (a : ℕ) → is_accepted (write_landing b a) ≡ is_accepted (write_landing d a)
  board_alike e a =
      let f = ap (λ (c : Cartridge). c.mode) (sym o.cart) ∙ e in
      found_accepted (write_landing b a) (board_writes b e o.first a) ∙ sym (found_accepted (write_landing d a) (board_writes d f o.second a))

  pub accepted_alike : (l : Lent) (a : ℕ) → is_accepted (write_landing b a) ≡ is_accepted (write_landing d a) → accepts b l a ≡ accepts d l a
  unfolding landing
  accepted_alike l a e =
      guarded_alike (rams_fit (length l.prg) (length l.chr)) (is_loaded b (length l.image)) (is_loaded d (length l.image)) (write_landing b a) (write_landing d a)
      (loaded_alike (length l.image)) e

-- the board after a write, by whether it is accepted
pub after_write : (b : Board) (p : Landing) (v a : ℕ) → (written_as b p v a).left ≡ cond (is_accepted p) (accepted_write b v a).left b
unfolding written_as is_accepted
after_write b p v a = grind arith
