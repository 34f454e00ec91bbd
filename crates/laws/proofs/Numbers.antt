-- A load, the header reader, a read and a write answer by the number of the first refusal of their list that is due: by its tests, one after another. A clock has one.
-- Assumes nothing.
use Prim.Native.Nat.{ℕ}
use mathlib.Core.Path.{◌≡◌, refl}
use mathlib.Core.Bool.{Bool, false, not, ◌||◌}
use mathlib.Core.List.{List, [], ◌∷◌}
use lib.Dec.{ltb}
use lib.ListN.{length}
use native.Mathlib.Omega.{arith}
use Rattle.common.specs.declared.Mode.{Mode}
use Rattle.cartridge.specs.Refusals.{given, first}
use Rattle.cartridge.specs.Header.{is_ines, header_of, is_special, header_refusals, header_as, header_read}
use Rattle.cartridge.specs.Nes2.{mapper_in, prg_in, chr_in, nes2_not_taken}
use Rattle.cartridge.specs.Load.{bad_prg, needed, no_powers, rams_fit, load_refusals, verdict, cartridge_of, loaded_as}
use Rattle.cartridge.specs.declared.Cartridge.{Cartridge}
use Rattle.cartridge.specs.declared.Header.{Header}
use Rattle.places.specs.Places.{byte_at, answer_at}
use Rattle.places.specs.Places.{Landing}
use Rattle.boards.specs.Numbers.{refused, refused_by, header_number, load_number, read_number, write_number, clock_number}
use Rattle.boards.specs.Start.{loaded_board, load, load_answer}
use Rattle.boards.specs.Range.{in_range, is_loaded, call_refusals, guarded}
use Rattle.boards.specs.Read.{read_landing, read}
use Rattle.boards.specs.Write.{write_landing, landing, written_as}
use Rattle.boards.specs.Clock.{clock}
use Rattle.boards.specs.declared.Board.{Board}
use Rattle.laws.specs.Numbers.{first_number, answer_of}

eight : (c : Cartridge) (b9 b3 b4 b5 b16 b6 b7 b8 : Bool)
    → load_number (load_answer (loaded_board (loaded_as (first (given 9 b9 ∷ given 3 b3 ∷ given 4 b4 ∷ given 5 b5 ∷ given 16 b16 ∷ given 6 b6 ∷ given 7 b7 ∷ given 8 b8 ∷ [])) c)))
    ≡ answer_of (first_number (given 9 b9 ∷ given 3 b3 ∷ given 4 b4 ∷ given 5 b5 ∷ given 16 b16 ∷ given 6 b6 ∷ given 7 b7 ∷ given 8 b8 ∷ []))
unfolding load_number refused loaded_board loaded_as load_answer
eight c b9 b3 b4 b5 b16 b6 b7 b8 = grind arith

-- "Order in load: 9, 3, 4, 5, 6, 7, 8", with 16 "after 5 and before 6"
pub a_load_answers_the_first_number : (s : List ℕ) (mode : Mode) (prg chr : ℕ) → load_number (load_answer (load s mode prg chr)) ≡ answer_of (first_number (load_refusals s mode prg chr))
unfolding verdict
a_load_answers_the_first_number s mode prg chr =
    let h = header_of s in
    eight (cartridge_of h mode (length s)) (not (rams_fit prg chr)) (ltb (length s) 16400 || not (is_ines s)) (ltb 4 (mapper_in mode h)) (is_special h) (nes2_not_taken mode h)
    (bad_prg (mapper_in mode h) (prg_in mode h)) (ltb (length s) (needed (prg_in mode h) (chr_in mode h))) (no_powers mode (prg_in mode h) (chr_in mode h))

two : (h : Header) (b1 b2 : Bool) → header_number (header_as (first (given 1 b1 ∷ given 2 b2 ∷ [])) h) ≡ answer_of (first_number (given 1 b1 ∷ given 2 b2 ∷ []))
unfolding header_number header_as refused
two h b1 b2 = grind arith

pub the_header_reader_answers_the_first_number : (s : List ℕ) → header_number (header_read s) ≡ answer_of (first_number (header_refusals s))
unfolding header_read
the_header_reader_answers_the_first_number s = two (header_of s) (ltb (length s) 16) (not (is_ines s))

read_first : (l : Landing) (byte : ℕ) (rams state : Bool) → (first_number (call_refusals rams state) ≡ 0 → ⊥)
    → read_number (answer_at (guarded rams state l) byte) ≡ refused_by (first_number (call_refusals rams state))
unfolding guarded answer_at read_number refused
read_first l byte rams state n = grind arith

write_first : (b : Board) (v a : ℕ) (l : Landing) (rams state : Bool) → (first_number (call_refusals rams state) ≡ 0 → ⊥)
    → write_number (written_as b (guarded rams state l) v a).answer ≡ refused_by (first_number (call_refusals rams state))
unfolding guarded written_as write_number refused
write_first b v a l rams state n = grind arith

-- "In read and write: 9, 10, then the board's own"
module _ (b : Board) (image prg chr : List ℕ) (a : ℕ) where
  abbrev due : ℕ
  due = first_number (call_refusals (rams_fit (length prg) (length chr)) (is_loaded b (length image)))

  pub a_read_answers_the_first_number : (due ≡ 0 → ⊥) → read_number (read b image prg chr a) ≡ refused_by due
  unfolding read
  a_read_answers_the_first_number n =
      read_first (read_landing b a) (byte_at b.cart (read_landing b a) image prg chr) (rams_fit (length prg) (length chr)) (is_loaded b (length image)) n

  pub a_write_answers_the_first_number : (v : ℕ) → (due ≡ 0 → ⊥) → write_number (written_as b (landing b image prg chr a) v a).answer ≡ refused_by due
  unfolding landing
  a_write_answers_the_first_number v n = write_first b v a (write_landing b a) (rams_fit (length prg) (length chr)) (is_loaded b (length image)) n

-- "10, read, write, clock"
pub a_clock_answers_10 : (b : Board) → in_range b ≡ false → clock_number (clock b).answer ≡ refused_by 10
unfolding clock clock_number refused
a_clock_answers_10 b h = rw h refl
