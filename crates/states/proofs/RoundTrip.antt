-- The round trip of a board through its words, and of kept words through their board. Assumes nothing.
use Prim.Native.Nat.{ℕ, ◌<◌, ◌≤◌}
use mathlib.Core.Path.{◌≡◌, refl, sym, ap, subst, ◌∙◌}
use mathlib.Core.Bool.{true}
use mathlib.Core.List.{List, [], ◌∷◌, ◌++◌}
use mathlib.Core.Logic.{◌↔◌}
use native.Mathlib.Omega.{arith}
use borrow.Author.Tests.{eqb-true, eq-eqb}
use lib.Dec.{eqb}
use lib.ListN.{take, drop}
use Rattle.rules.specs.Rows.{digit, Fits, bytes}
use Rattle.rules.specs.Flat.{flat_word}
use Rattle.std.proofs.lemmas.Bool.{and_parts}
use Rattle.rules.proofs.Bools.{split_5}
use Rattle.rules.proofs.Rows.{product, whole, mark_there}
use Rattle.rules.proofs.Flat.{flat_there, flat_small}
use Rattle.rules.proofs.Kept.{comes_back, is_kept_lem, just_those}
use Rattle.boards.specs.Range.{in_range}
use Rattle.boards.specs.declared.Board.{Board}
use Rattle.states.specs.Words.{cart_sizes, cart_digits, banks_sizes, banks_digits, regs_digits, irq_sizes, irq_digits, board_of, board_in, words_of, digits_of, same}
use Rattle.states.specs.Kept.{is_kept, board_digits, OfItsTypes, OfWords}
use Rattle.states.specs.declared.Words.{Words}
use Rattle.states.proofs.Digits.{mode_there, mapper_there, screens_there, in_rows}

-- a word of a row of at most 64 bits
in_64 : (ss ds : List ℕ) → product ss ≤ 0x10000000000000000 → Fits ss ds → flat_word ss ds < 0x10000000000000000
in_64 ss ds l f = omega (arith, l, flat_small ss ds f)

-- what all digits say
abbrev told : List ℕ → Board
told d = board_of (take 9 d) (digit d 9) (take 12 (drop 10 d)) (take 8 (drop 22 d)) (drop 30 d)

module _ (b : Board) (t : OfItsTypes b) (h : in_range b ≡ true) where
  -- the digits of a board's words are the board's
  pub digits_there : digits_of (words_of b) ≡ board_digits b
  unfolding words_of
  digits_there =
      let f = in_rows b t h in
      λ i. flat_there cart_sizes (cart_digits b.cart b.mirroring) f.cart i
      ++ (b.cart.length ∷ [])
      ++ flat_there banks_sizes (banks_digits b.registers.uxrom b.registers.cnrom b.registers.mmc1) f.banks i
      ++ flat_there bytes (regs_digits b.registers.mmc3.regs) f.regs i
      ++ flat_there irq_sizes (irq_digits b.registers.mmc3) f.irq i

  -- so the board that its words hold is the board
  pub there_and_back : board_in (words_of b) ≡ b
  unfolding board_in
  there_and_back = ap told digits_there ∙ simp (mode_there, mark_there, mapper_there, screens_there, whole bytes b.registers.mmc3.regs t.registers)

  -- and they are words of 64 bits
  pub words_of_64 : OfWords (words_of b)
  unfolding words_of
  words_of_64 =
      let f = in_rows b t h in
      record {
        cart = in_64 cart_sizes (cart_digits b.cart b.mirroring) (omega arith) f.cart;
        length = t.image;
        banks = in_64 banks_sizes (banks_digits b.registers.uxrom b.registers.cnrom b.registers.mmc1) (omega arith) f.banks;
        regs = in_64 bytes (regs_digits b.registers.mmc3.regs) (omega arith) f.regs;
        irq = in_64 irq_sizes (irq_digits b.registers.mmc3) (omega arith) f.irq;
      }

same_is : (v w : Words) → same v w ≡ true → v ≡ w
unfolding same
same_is v w h =
    let p = split_5 (eqb v.cart w.cart) (eqb v.length w.length) (eqb v.banks w.banks) (eqb v.regs w.regs) (eqb v.irq w.irq) h in
    λ i. record {
      cart = eqb-true v.cart w.cart p.0 i;
      length = eqb-true v.length w.length p.1 i;
      banks = eqb-true v.banks w.banks p.2 i;
      regs = eqb-true v.regs w.regs p.3 i;
      irq = eqb-true v.irq w.irq p.4 i;
    }

equal : (n : ℕ) → eqb n n ≡ true
equal n = eq-eqb n n refl

same_self : (w : Words) → same w w ≡ true
unfolding same
same_self w = simp (equal)

-- kept words are those of the board that they hold
pub back_and_there : (w : Words) → is_kept w ≡ true → words_of (board_in w) ≡ w
unfolding is_kept
back_and_there = comes_back words_of board_in in_range same same_is

-- so no two kept rows of words hold one board
pub one_row_each : (v w : Words) → is_kept v ≡ true → is_kept w ≡ true → board_in v ≡ board_in w → v ≡ w
one_row_each v w h k e = sym (back_and_there v h) ∙ ap words_of e ∙ back_and_there w k

-- or have the same digits
pub digits_tell : (v w : Words) → is_kept v ≡ true → is_kept w ≡ true → digits_of v ≡ digits_of w → v ≡ w
unfolding board_in
digits_tell v w h k e = one_row_each v w h k (ap told e)

-- the board that kept words hold is in range
pub held_in_range : (w : Words) → is_kept w ≡ true → in_range (board_in w) ≡ true
unfolding is_kept
held_in_range w h = (and_parts (in_range (board_in w)) (same (words_of (board_in w)) w) h).0

-- and of its types, where word 1 is one of 64 bits
pub held_of_its_types : (w : Words) → w.length < 0x10000000000000000 → OfItsTypes (board_in w)
unfolding board_in
held_of_its_types w h = search (arith, h)

-- a board's words are kept
pub words_are_kept : (b : Board) → OfItsTypes b → in_range b ≡ true → is_kept (words_of b) ≡ true
unfolding is_kept
words_are_kept b t h = is_kept_lem words_of board_in in_range same same_self b (there_and_back b t h) h

-- and no others
pub exactly : (w : Words) → w.length < 0x10000000000000000
    → (is_kept w ≡ true) ↔ ((b : Board) × OfItsTypes b × (in_range b ≡ true) × (words_of b ≡ w))
unfolding is_kept
exactly w l = just_those words_of board_in in_range same same_is same_self OfItsTypes there_and_back w (held_of_its_types w l)

-- kept words are words of 64 bits, whatever of them the length is
pub kept_of_words : (w : Words) → is_kept w ≡ true → w.length < 0x10000000000000000 → OfWords w
kept_of_words w h l = subst OfWords (back_and_there w h) (words_of_64 (board_in w) (held_of_its_types w l) (held_in_range w h))
