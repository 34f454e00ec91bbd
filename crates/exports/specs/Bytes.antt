-- The state as bytes: docs/ABI.md, "The state".
use Rattle.std.specs.Prelude.{ℕ, ◌+◌, Bool, cond, ◌&&◌, List, [], ◌∷◌, ◌++◌, ltb, eqb, length}
use Rattle.rules.specs.Rows.{bytes}
use Rattle.rules.specs.Flat.{flat_word, flat_digits}
use Rattle.memory.specs.Memory.{byte}
use Rattle.boards.specs.declared.Board.{Board}
use Rattle.states.specs.Words as states
use Rattle.states.specs.Kept.{is_kept}
use Rattle.states.specs.declared.Words.{Words}

-- the word that starts at a byte: eight of them, "little-endian"
unfoldable pub word_at : List ℕ → ℕ → ℕ
word_at s i =
    flat_word bytes
    (byte s i ∷ byte s (i + 1) ∷ byte s (i + 2) ∷ byte s (i + 3) ∷ byte s (i + 4) ∷ byte s (i + 5) ∷ byte s (i + 6) ∷ byte s (i + 7) ∷ [])

-- "five words of 64 bits"
unfoldable pub five_words : List ℕ → Words
five_words s = record { cart = word_at s 0; length = word_at s 8; banks = word_at s 16; regs = word_at s 24; irq = word_at s 32 }

-- the words of a state; of what is "not 40 bytes" they are 0, and no board has version 0
unfoldable pub words_in : List ℕ → Words
words_in s = cond (eqb (length s) 40) (five_words s) (record { cart = 0; length = 0; banks = 0; regs = 0; irq = 0 })

-- the bytes of five words
unfoldable pub bytes_of : Words → List ℕ
bytes_of w =
    flat_digits bytes w.cart
    ++ flat_digits bytes w.length
    ++ flat_digits bytes w.banks
    ++ flat_digits bytes w.regs
    ++ flat_digits bytes w.irq

-- the board that the bytes hold
abbrev pub board_in : List ℕ → Board
board_in s = states.board_in (words_in s)

-- 10: not where "`state` is not 40 bytes, or no board could have it"
abbrev pub is_state : List ℕ → Bool
is_state s = is_kept (words_in s)

-- 10 in read and write: nor where "the image's length is not the one loaded"
abbrev pub is_state_for : List ℕ → ℕ → Bool
is_state_for s image = is_state s && eqb image (words_in s).length

-- a board as the bytes that are lent
abbrev pub encoded : Board → List ℕ
encoded b = bytes_of (states.words_of b)

-- after an answer the next board's bytes, into a buffer of 40 (no other comes with an answer below 256); "After a refusal every lent buffer holds what it held"
unfoldable pub state_left : List ℕ → ℕ → Words → List ℕ
state_left s answer w = cond (ltb answer 256) (cond (eqb (length s) 40) (bytes_of w) s) s
