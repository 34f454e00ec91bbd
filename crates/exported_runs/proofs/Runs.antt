-- From an accepted load on, the lent state is the bytes of the board that the same calls reach in Rattle; so no call of a run is refused by 10 for its state.
-- Assumes nothing.
use Rattle.std.specs.Prelude.{Ok, Err}
use Prim.Native.Nat.{ℕ, ◌<◌}
use mathlib.Core.Path.{◌≡◌, refl, sym, ap, ap₂, subst, subst⁻¹, ◌∙◌}
use mathlib.Core.Bool.{Bool, true, false, cond, ◌&&◌}
use mathlib.Core.List.{List}
use native.Mathlib.Omega.{arith}
use borrow.Author.Tests.{eqb-true}
use lib.Dec.{ltb, eqb}
use lib.ListN.{length}
use Rattle.std.proofs.lemmas.Bool.{and_parts}
use Rattle.common.specs.Common.{mode_of}
use Rattle.common.specs.declared.Mode.{Mode}
use Rattle.common.specs.declared.Refusal.TheVariants.{RamNot8K, StateOutOfRange}
use Rattle.memory.specs.Memory.{AreBytes}
use Rattle.cartridge.specs.Header.{header_of}
use Rattle.cartridge.specs.Load.{verdict, cartridge_of, loaded_as, rams_fit}
use Rattle.cartridge.specs.declared.Cartridge.{Cartridge}
use Rattle.cartridge.specs.declared.Header.{Header}
use Rattle.cartridge.specs.Refusals.{Verdict}
use Rattle.boards.specs.Read.{read}
use Rattle.boards.specs.Start.{start_of, loaded_board, load_answer, board_of}
use Rattle.boards.specs.Write as boards
use Rattle.boards.specs.Runs.{Lent, lent, next}
use Rattle.boards.specs.declared.Board.{Board}
use Rattle.boards.specs.declared.Event.TheVariants.{Write, Clock}
use Rattle.states.specs.Words.{words_of}
use Rattle.exports.specs.Numbers.{refused, read_number, load_number}
use Rattle.exports.specs.Bytes.{bytes_of, is_state, state_left}
use Rattle.exports.specs.Calls.{read_bytes, WriteOwes, ClockOwes, decision, LoadOwes, DigitsOwes}
use Rattle.exports.specs.RoundTrip.{ShowsAs}
use Rattle.exports.proofs.RoundTrip.{is_a_state}
use Rattle.exports.proofs.AsBoards.{reads_as, writes_as, clocks_as, shows_as}
use Rattle.laws.proofs.Ranges.{load_in_range, next_in_range}
use Rattle.exported_runs.specs.Holds.{Holds}
use Rattle.exported_runs.proofs.Typed.{start_typed, write_typed, clocked_typed}

module _ (s : List ℕ) (b : Board) (h : Holds s b) where
  -- what holds a board is a state
  pub holds_a_state : is_state s ≡ true
  holds_a_state = subst⁻¹ (λ (x : List ℕ). is_state x ≡ true) h.bytes (is_a_state b h.of_its_types h.is_in_range)

  -- a read answers as the board's
  pub read_of : (image prg chr : List ℕ) (a : ℕ) → read_bytes s image prg chr a ≡ read_number (read b image prg chr a)
  read_of image prg chr a = ap (λ (x : List ℕ). read_bytes x image prg chr a) h.bytes ∙ reads_as b h.of_its_types h.is_in_range image prg chr a

  -- and the digits are the board's
  pub digits_of : (d : List ℕ) (r : ℕ) (d' : List ℕ) → length d ≡ 40 → DigitsOwes s d r d' → ShowsAs b r d'
  digits_of d r d' n o = shows_as b h.of_its_types h.is_in_range d r d' n (subst (λ (x : List ℕ). DigitsOwes x d r d') h.bytes o)

  -- after a write of a byte: what is lent is the next board's
  pub after_write : (image prg chr : List ℕ) (a v r : ℕ) (s' prg' chr' : List ℕ) → v < 0x100 → WriteOwes s image prg chr a v r s' prg' chr'
      → Holds s' (next b (lent image prg chr) (Write a v))
  unfolding next
  after_write image prg chr a v r s' prg' chr' l o =
      let w = boards.written_as b (boards.landing b image prg chr a) v a in
      let z =
      writes_as b h.of_its_types h.is_in_range image prg chr a v w _ _ r s' prg' chr' (record { reply = refl; prg_ram = refl; chr_ram = refl })
      (subst (λ (x : List ℕ). WriteOwes x image prg chr a v r s' prg' chr') h.bytes o)
      in
      record {
        bytes = z.state;
        is_in_range = next_in_range b (lent image prg chr) (Write a v) h.is_in_range;
        of_its_types = write_typed b h.of_its_types (boards.landing b image prg chr a) v a l;
      }

  -- after a clock, which looks at nothing that is lent
  pub after_clock_lem : (l : Lent) (r : ℕ) (s' : List ℕ) → ClockOwes s r s' → Holds s' (next b l Clock)
  unfolding next
  after_clock_lem l r s' o =
      let z = clocks_as b h.of_its_types h.is_in_range r s' (subst (λ (x : List ℕ). ClockOwes x r s') h.bytes o) in
      record { bytes = z.state; is_in_range = next_in_range b l Clock h.is_in_range; of_its_types = clocked_typed b h.of_its_types }

-- a load that answers 0 has taken the image
taken : (d : Verdict) (c : Cartridge) → load_number (load_answer (loaded_board (loaded_as d c))) ≡ 0 → d ≡ Ok tt
unfolding load_number loaded_board load_answer board_of loaded_as refused
taken d c e = grind arith

-- and found the state's room, and a mode
record Decided (image : List ℕ) (mode s p c : ℕ) : Type 0 where
  room : s ≡ 40
  found : verdict image (mode_of mode) p c ≡ Ok tt

decided : (image : List ℕ) (mode s p c : ℕ) → decision image mode s p c ≡ Ok tt → Decided image mode s p c
decided image mode s p c e = go (rams_fit p c) (eqb s 40 && ltb mode 2) refl e
  where
    go : (x y : Bool) → (eqb s 40 && ltb mode 2) ≡ y → cond x (cond y (verdict image (mode_of mode) p c) (Err StateOutOfRange)) (Err RamNot8K) ≡ Ok tt
        → Decided image mode s p c
    go true true f e = record { room = eqb-true s 40 (and_parts (eqb s 40) (ltb mode 2) f).0; found = e }
    go true false f e = cc
    go false y f e = cc

-- so an accepted load has taken the image in that mode
pub accepted_verdict : (image : List ℕ) (mode : ℕ) (s prg chr : List ℕ) (r : ℕ) (s' prg' chr' : List ℕ) → LoadOwes image mode s prg chr r s' prg' chr' → r ≡ 0
    → verdict image (mode_of mode) (length prg) (length chr) ≡ Ok tt
accepted_verdict image mode s prg chr r s' prg' chr' o z =
    (decided image mode (length s) (length prg) (length chr)
    (taken (decision image mode (length s) (length prg) (length chr)) (cartridge_of (header_of image) (mode_of mode) (length image)) (sym o.reply ∙ z))
    ).found

length_of : (h : Header) (m : Mode) (n : ℕ) → n < 0x10000000000000000 → (cartridge_of h m n).length < 0x10000000000000000
unfolding cartridge_of
length_of h m n l = l

-- after an accepted load: what is lent is the start of the board that the image asks for
pub after_load : (image : List ℕ) (mode : ℕ) (s prg chr : List ℕ) (r : ℕ) (s' prg' chr' : List ℕ) → AreBytes image → length image < 0x10000000000000000
    → LoadOwes image mode s prg chr r s' prg' chr' → r ≡ 0 → Holds s' (start_of (cartridge_of (header_of image) (mode_of mode) (length image)))
unfolding state_left loaded_board load_answer board_of loaded_as load_number
after_load image mode s prg chr r s' prg' chr' b l o z =
    let c = cartridge_of (header_of image) (mode_of mode) (length image) in
    let d = decision image mode (length s) (length prg) (length chr) in
    let e : d ≡ Ok tt = taken d c (sym o.reply ∙ z) in
    let f = decided image mode (length s) (length prg) (length chr) e in
    record {
      bytes = o.state ∙ ap₂ (λ (n : ℕ) (x : Verdict). state_left s n (words_of (board_of (loaded_board (loaded_as x c))))) z e
          ∙ ap (λ (n : ℕ). cond (eqb n 40) (bytes_of (words_of (start_of c))) s) f.room;
      is_in_range = load_in_range image (mode_of mode) (length prg) (length chr) b f.found;
      of_its_types = start_typed c (length_of (header_of image) (mode_of mode) (length image) l);
    }
