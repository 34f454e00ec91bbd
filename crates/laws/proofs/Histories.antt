-- Any two histories of one image in one mode leave two boards of one image: a load starts the board of its cartridge, and no call changes what was loaded.
-- Assumes nothing.
use Rattle.std.specs.Prelude.{Ok}
use Prim.Native.Nat.{ℕ}
use mathlib.Core.Path.{◌≡◌, sym, ap, ◌∙◌}
use mathlib.Core.Bool.{true}
use mathlib.Core.List.{List}
use native.Mathlib.Omega.{arith}
use lib.ListN.{length}
use Rattle.common.specs.declared.Mode.{Mode}
use Rattle.memory.specs.Memory.{AreBytes}
use Rattle.cartridge.specs.Header.{header_of}
use Rattle.cartridge.specs.Nes2.{mapper_in}
use Rattle.cartridge.specs.Load.{verdict, cartridge_of, loaded_as}
use Rattle.cartridge.specs.Mappers.{mapper_type}
use Rattle.cartridge.specs.declared.Cartridge.{Cartridge}
use Rattle.cartridge.specs.declared.MapperType.{MapperType}
use Rattle.cartridge.specs.Refusals.{Verdict}
use Rattle.boards.specs.Range.{in_range}
use Rattle.boards.specs.Start.{start_of, loaded_board, load_answer, board_of}
use Rattle.boards.specs.declared.Board.{Board}
use Rattle.laws.specs.Calls.{load_with, History, reached, OneImage}
use Rattle.laws.proofs.Ranges.{run_in_range, run_keeps_cart, loaded_in_range}

-- an accepted load starts the board of the cartridge that it read
started : (v : Verdict) (c : Cartridge) → load_answer (loaded_board (loaded_as v c)) ≡ Ok tt → board_of (loaded_board (loaded_as v c)) ≡ start_of c
unfolding loaded_board load_answer board_of loaded_as
started v c e = grind arith

module _ {mode : Mode} {s : List ℕ} where
  start_of_lem : (h : History mode s) → (load_with mode s h.prg h.chr).left ≡ start_of (cartridge_of (header_of s) mode (length s))
  start_of_lem h = started (verdict s mode (length h.prg) (length h.chr)) (cartridge_of (header_of s) mode (length s)) h.accepted

  -- so any two histories of one image in one mode start from one board
  pub one_start : (x y : History mode s) → (load_with mode s x.prg x.chr).left ≡ (load_with mode s y.prg y.chr).left
  one_start x y = start_of_lem x ∙ sym (start_of_lem y)

module _ (mode : Mode) (s : List ℕ) (bytes : AreBytes s) where
  cart_of_lem : (h : History mode s) → (reached h).cart ≡ cartridge_of (header_of s) mode (length s)
  unfolding start_of
  cart_of_lem h =
      run_keeps_cart (load_with mode s h.prg h.chr).left h.calls
      ∙ ap (λ (b : Board). b.cart) (start_of_lem h)

  is_in_range : (h : History mode s) → in_range (reached h) ≡ true
  is_in_range h =
      run_in_range (load_with mode s h.prg h.chr).left h.calls
      (loaded_in_range s mode (length h.prg) (length h.chr) bytes h.accepted)

  pub mode_of_lem : (h : History mode s) → (reached h).cart.mode ≡ mode
  unfolding cartridge_of
  mode_of_lem h = ap (λ (c : Cartridge). c.mode) (cart_of_lem h)

  mapper_of : (h : History mode s) → (reached h).cart.mapper ≡ mapper_type (mapper_in mode (header_of s))
  unfolding cartridge_of
  mapper_of h = ap (λ (c : Cartridge). c.mapper) (cart_of_lem h)

  -- the image is of bytes, and its mapper is k
  pub any_two_histories : (k : MapperType) → mapper_type (mapper_in mode (header_of s)) ≡ k → (x y : History mode s) → OneImage k (reached x) (reached y)
  any_two_histories k e x y =
      record { cart = cart_of_lem x ∙ sym (cart_of_lem y); mapper = mapper_of x ∙ e; first = is_in_range x; second = is_in_range y }
