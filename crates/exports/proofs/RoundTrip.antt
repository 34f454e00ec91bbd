-- The round trip of a board through its forty bytes, and of the bytes of a state through their board. Assumes nothing.
use Prim.Native.Nat.{ℕ, ◌+◌}
use mathlib.Core.Path.{◌≡◌, refl, sym, ap, ◌∙◌}
use mathlib.Core.Bool.{Bool, true, false, false≢true, cond}
use mathlib.Core.List.{List, [], ◌∷◌, ◌++◌}
use native.Mathlib.Omega.{arith}
use borrow.Author.Tests.{eqb-true, eq-eqb, ne_eqb}
use lib.Dec.{eqb}
use lib.ListN.{length}
use Rattle.rules.specs.Rows.{bytes}
use Rattle.rules.specs.Flat.{flat_digits}
use Rattle.rules.proofs.Flat.{flat_there, flat_back}
use Rattle.std.proofs.lemmas.Bool.{and_parts}
use Rattle.common.specs.declared.Refusal.TheVariants.{StateOutOfRange}
use Rattle.memory.specs.Memory.{byte, AreBytes}
use Rattle.cartridge.specs.Load.{bad_prg, could_load}
use Rattle.boards.specs.Range.{in_range}
use Rattle.boards.specs.declared.Board.{Board}
use Rattle.states.specs.Words as states-specs
use Rattle.states.specs.Words.{words_of, digits_of}
use Rattle.states.specs.Kept.{is_kept, OfItsTypes, OfWords}
use Rattle.states.specs.declared.Words.{Words}
use Rattle.states.proofs.RoundTrip as states
use Rattle.exports.specs.Bytes.{word_at, five_words, words_in, bytes_of, board_in, is_state, encoded}
use Rattle.exports.specs.Calls.{is_shown, DigitsOwes}
use Rattle.exports.specs.Numbers.{refused}
use Rattle.exports.proofs.Put.{all_entries}

-- the words of what is not forty bytes
abbrev none : Words
none = record { cart = 0; length = 0; banks = 0; regs = 0; irq = 0 }

-- the words of forty bytes made of words are these
pub words_there : (w : Words) → OfWords w → words_in (bytes_of w) ≡ w
unfolding words_in five_words word_at bytes_of
words_there w h =
    λ i. record {
      cart = flat_back bytes w.cart h.cart i;
      length = flat_back bytes w.length h.length i;
      banks = flat_back bytes w.banks h.banks i;
      regs = flat_back bytes w.regs h.regs i;
      irq = flat_back bytes w.irq h.irq i;
    }

module _ (s : List ℕ) (b : AreBytes s) where
  eight_back : (k : ℕ) → flat_digits bytes (word_at s k)
      ≡ byte s k ∷ byte s (k + 1) ∷ byte s (k + 2) ∷ byte s (k + 3) ∷ byte s (k + 4) ∷ byte s (k + 5) ∷ byte s (k + 6) ∷ byte s (k + 7) ∷ []
  unfolding word_at
  eight_back k = flat_there bytes _ (b k, (b (k + 1), (b (k + 2), (b (k + 3), (b (k + 4), (b (k + 5), (b (k + 6), (b (k + 7), tt))))))))

  -- the bytes of words made of forty bytes are these
  pub forty_back : length s ≡ 40 → bytes_of (words_in s) ≡ s
  unfolding words_in five_words bytes_of
  forty_back n =
      ap (λ (t : Bool). bytes_of (cond t (five_words s) none)) (eq-eqb (length s) 40 n)
      ∙ (λ i. eight_back 0 i ++ eight_back 8 i ++ eight_back 16 i ++ eight_back 24 i ++ eight_back 32 i)
      ∙ sym (all_entries 40 s n)

-- bytes that are not forty are no state
pub not_forty : (s : List ℕ) → (length s ≡ 40 → ⊥) → is_state s ≡ false
unfolding words_in is_kept states-specs.board_in in_range could_load bad_prg
not_forty s n = ap (λ (t : Bool). is_kept (cond t (five_words s) none)) (ne_eqb (length s) 40 n)

pub is_forty : (s : List ℕ) → is_state s ≡ true → length s ≡ 40
unfolding words_in is_kept states-specs.board_in in_range could_load bad_prg
is_forty s h = eqb-true (length s) 40 (judged (eqb (length s) 40) h)
  where
    judged : (t : Bool) → is_kept (cond t (five_words s) none) ≡ true → t ≡ true
    judged true e = refl
    judged false e = absurd (false≢true e)

module _ (b : Board) (t : OfItsTypes b) (h : in_range b ≡ true) where
  -- the words of a board's bytes are the board's
  pub encoded_words : words_in (encoded b) ≡ words_of b
  encoded_words = words_there (words_of b) (states.words_of_64 b t h)

  -- the board that a board's bytes hold is that board
  pub there_and_back : board_in (encoded b) ≡ b
  there_and_back = ap states-specs.board_in encoded_words ∙ states.there_and_back b t h

  -- and they are a state: no call refuses them by 10
  pub is_a_state : is_state (encoded b) ≡ true
  is_a_state = ap is_kept encoded_words ∙ states.words_are_kept b t h

-- the bytes of any words are forty
pub forty : (w : Words) → length (bytes_of w) ≡ 40
unfolding bytes_of
forty w = refl

-- a state is the bytes of the board that it holds, so bytes that no board could have are refused
pub back_and_there : (s : List ℕ) → AreBytes s → is_state s ≡ true → encoded (board_in s) ≡ s
back_and_there s b h = ap bytes_of (states.back_and_there (words_in s) h) ∙ forty_back s b (is_forty s h)

-- so no two states hold one board
pub one_state_each : (s s' : List ℕ) → AreBytes s → AreBytes s' → is_state s ≡ true → is_state s' ≡ true → board_in s ≡ board_in s' → s ≡ s'
one_state_each s s' b b' h h' e = sym (back_and_there s b h) ∙ ap encoded e ∙ back_and_there s' b' h'

shown : (s d : List ℕ) → cond (is_shown s d) 0 (refused StateOutOfRange) ≡ 0 → is_shown s d ≡ true
unfolding refused
shown s d = go (is_shown s d)
  where
    go : (t : Bool) → cond t 0 (refused StateOutOfRange) ≡ 0 → t ≡ true
    go true e = refl
    go false e = absurd (omega (arith, e))

-- nor show the same digits: what the call answers tells the state
pub digits_tell : (s s' d e d' : List ℕ) → AreBytes s → AreBytes s' → DigitsOwes s d 0 d' → DigitsOwes s' e 0 d' → s ≡ s'
digits_tell s s' d e d' b b' o p =
    let h = shown s d (sym o.reply) in
    let h' = shown s' e (sym p.reply) in
    let k = (and_parts (is_state s) (eqb (length d) 40) h).0 in
    let k' = (and_parts (is_state s') (eqb (length e) 40) h').0 in
    let same : digits_of (words_in s) ≡ digits_of (words_in s') =
    ap (λ (t : Bool). cond t (digits_of (words_in s)) d) (sym h) ∙ sym o.digits ∙ p.digits ∙ ap (λ (t : Bool). cond t (digits_of (words_in s')) e) h' in
    one_state_each s s' b b' k k' (ap states-specs.board_in (states.digits_tell (words_in s) (words_in s') k k' same))
