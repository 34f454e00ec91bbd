-- The exported calls on the bytes of a board in range do what the board's own calls do. Assumes nothing.
use native.Mathlib.Omega.{arith}
use Rattle.std.specs.Prelude.{Option, Some, None, Ok, Err}
use Prim.Native.Nat.{ℕ, ◌<◌}
use mathlib.Core.Path.{◌≡◌, refl, sym, ap, ap₂, ◌∙◌}
use mathlib.Core.Bool.{Bool, true, false, cond, ◌&&◌}
use mathlib.Core.List.{List}
use borrow.Author.Tests.{lt-ltb, eq-eqb}
use lib.Dec.{ltb, eqb}
use lib.ListN.{length}
use Rattle.std.proofs.lemmas.Bool.{and_from}
use Rattle.rules.proofs.Bools.{either}
use Rattle.common.specs.Common.{mode_of}
use Rattle.common.specs.Answers.{mirroring_letter, same}
use Rattle.common.specs.declared.Mirroring.{Mirroring}
use Rattle.cartridge.specs.Header.{header_of}
use Rattle.cartridge.specs.Load.{verdict, cartridge_of, loaded_as, ram_after, rams_fit}
use Rattle.cartridge.specs.Refusals.{Verdict}
use Rattle.places.specs.Places.{stored_prg, stored_chr}
use Rattle.places.specs.Places.{Landing}
use Rattle.boards.specs.Range.{in_range, is_loaded}
use Rattle.boards.specs.Read.{read_if, read}
use Rattle.boards.specs.Write as boards
use Rattle.boards.specs.Clock.{yes_no, accepted_clock, clock_if, clock}
use Rattle.boards.specs.Start as start
use Rattle.boards.specs.declared.Board.{Board}
use Rattle.boards.specs.Write.{Written}
use Rattle.boards.specs.Clock.{Clocked}
use Rattle.boards.specs.Start.{Loaded}
use Rattle.states.specs.Words.{words_of, digits_of}
use Rattle.states.specs.Kept.{OfItsTypes}
use Rattle.states.specs.declared.Words.{Words}
use Rattle.states.proofs.RoundTrip.{digits_there}
use Rattle.exports.specs.Numbers.{read_number, write_number, clock_number, load_number}
use Rattle.exports.specs.Bytes.{bytes_of, board_in, is_state, is_state_for, encoded, state_left}
use Rattle.exports.specs.Calls.{read_bytes, writing, WriteOwes, ClockOwes, decision, loading, LoadOwes, DigitsOwes}
use Rattle.exports.specs.RoundTrip.{WritesAs, ClocksAs, LoadsAs, ShowsAs}
use Rattle.exports.proofs.RoundTrip.{encoded_words, there_and_back, is_a_state}

-- an answer that is no refusal is below 256
letter_small : (m : Mirroring) → ltb (mirroring_letter m) 256 ≡ true
letter_small m = grind arith

unless_small : (t : Bool) (m : Mirroring) → ltb (write_number (boards.notice_unless t m)) 256 ≡ true
unfolding boards.notice_unless write_number
unless_small t m = grind arith

pub notice_small : (old : Mirroring) (m : Option Mirroring) → ltb (write_number (boards.notice old m)) 256 ≡ true
unfolding boards.notice write_number
notice_small old None = refl
notice_small old (Some m) = unless_small (same old m) m

yes_no_small : (x : Bool) → ltb (clock_number (yes_no x)) 256 ≡ true
unfolding clock_number yes_no
yes_no_small x = grind arith

taken : {A : Type 0} {t : Bool} (x y : A) → t ≡ true → cond t x y ≡ x
taken x y e = ap (λ b. cond b x y) e

module _ (b : Board) where
  -- what is kept after an answer below 256 is the next board's bytes
  kept_next : (n : ℕ) (w : Words) → ltb n 256 ≡ true → state_left (encoded b) n w ≡ bytes_of w
  unfolding state_left bytes_of
  kept_next n w l = taken (bytes_of w) (encoded b) l

  kept_accepted : (v a : ℕ)
      → state_left (encoded b) (write_number (boards.accepted_write b v a).answer) (words_of (boards.accepted_write b v a).left) ≡ encoded (boards.accepted_write b v a).left
  unfolding boards.accepted_write boards.turned
  kept_accepted v a = kept_next _ _ (notice_small _ _)

  -- so after a write, also after a refusal, which leaves the board
  kept_written : (p : Landing) (v a : ℕ)
      → state_left (encoded b) (write_number (boards.written_as b p v a).answer) (words_of (boards.written_as b p v a).left) ≡ encoded (boards.written_as b p v a).left
  unfolding state_left bytes_of boards.written_as
  kept_written (Err why) v a = either (λ (s : List ℕ). s ≡ encoded b) (ltb (write_number (boards.written_as b (Err why) v a).answer) 256) refl refl
  kept_written (Ok p) v a = kept_accepted v a

module _ (b : Board) (t : OfItsTypes b) (h : in_range b ≡ true) where
  -- the bytes are a state for an image exactly where the board is loaded with it
  for_image : (n : ℕ) → is_state_for (encoded b) n ≡ is_loaded b n
  unfolding is_loaded words_of
  for_image n = ap₂ ◌&&◌ (is_a_state b t h ∙ sym h) (ap (λ (w : Words). eqb n w.length) (encoded_words b t h))

  -- a read
  pub reads_as : (image prg chr : List ℕ) (a : ℕ) → read_bytes (encoded b) image prg chr a ≡ read_number (read b image prg chr a)
  unfolding read_bytes read
  reads_as image prg chr a =
      ap₂ (λ (x : Bool) (y : Board). read_number (read_if x y image prg chr a)) (for_image (length image)) (there_and_back b t h)

  pub landed : (image prg chr : List ℕ) (a : ℕ) → writing (encoded b) image prg chr a ≡ boards.landing b image prg chr a
  unfolding boards.landing
  landed image prg chr a =
      ap₂ (λ (x : Bool) (y : Board). boards.landing_if x y prg chr a) (for_image (length image)) (there_and_back b t h)

  -- a write: of any reply, board and RAMs that the board's own write may give
  pub writes_as : (image prg chr : List ℕ) (a v : ℕ) (w : Written) (prg'' chr'' : List ℕ) (r : ℕ) (s' prg' chr' : List ℕ)
      → boards.WriteOwes b image prg chr a v w prg'' chr'' → WriteOwes (encoded b) image prg chr a v r s' prg' chr' → WritesAs w prg'' chr'' r s' prg' chr'
  writes_as image prg chr a v w prg'' chr'' r s' prg' chr' o e =
      let p = boards.landing b image prg chr a in
      let z : boards.written_as (board_in (encoded b)) (writing (encoded b) image prg chr a) v a ≡ boards.written_as b p v a
      = ap₂ (λ (x : Board) (q : Landing). boards.written_as x q v a) (there_and_back b t h) (landed image prg chr a) in
      let y : r ≡ write_number (boards.written_as b p v a).answer = e.reply ∙ ap (λ (x : Written). write_number x.answer) z in
      record {
        reply = y ∙ ap (λ (x : Written). write_number x.answer) (sym o.reply);
        state = e.state ∙ ap₂ (λ (n : ℕ) (x : Written). state_left (encoded b) n (words_of x.left)) y z ∙ kept_written b p v a
            ∙ ap (λ (x : Written). encoded x.left) (sym o.reply);
        prg_ram = e.prg_ram ∙ ap (λ (q : Landing). stored_prg q v prg) (landed image prg chr a) ∙ sym o.prg_ram;
        chr_ram = e.chr_ram ∙ ap (λ (q : Landing). stored_chr q v chr) (landed image prg chr a) ∙ sym o.chr_ram;
      }

  -- a clock
  pub clocks_as : (r : ℕ) (s' : List ℕ) → ClockOwes (encoded b) r s' → ClocksAs (clock b) r s'
  unfolding clock accepted_clock
  clocks_as r s' e =
      let z : clock_if (is_state (encoded b)) (board_in (encoded b)) ≡ clock_if (in_range b) b
      = ap₂ clock_if (is_a_state b t h ∙ sym h) (there_and_back b t h) in
      let c : clock_if (in_range b) b ≡ accepted_clock b = taken _ _ h in
      let y : r ≡ clock_number (accepted_clock b).answer = e.reply ∙ ap (λ (x : Clocked). clock_number x.answer) (z ∙ c) in
      record {
        reply = y ∙ ap (λ (x : Clocked). clock_number x.answer) (sym c);
        state = e.state ∙ ap₂ (λ (n : ℕ) (x : Clocked). state_left (encoded b) n (words_of x.left)) y (z ∙ c) ∙ kept_next b _ _ (yes_no_small _)
            ∙ ap (λ (x : Clocked). encoded x.left) (sym c);
      }

  -- and the digits, into forty numbers
  pub shows_as : (d : List ℕ) (r : ℕ) (d' : List ℕ) → length d ≡ 40 → DigitsOwes (encoded b) d r d' → ShowsAs b r d'
  shows_as d r d' n e =
      let s = and_from (is_state (encoded b)) (eqb (length d) 40) (is_a_state b t h) (eq-eqb (length d) 40 n) in
      record {
        reply = e.reply ∙ taken _ _ s;
        digits = e.digits ∙ taken _ _ s ∙ ap digits_of (encoded_words b t h) ∙ digits_there b t h;
      }

-- a load of a mode that is one, with room for the state
decided : (image : List ℕ) (mode p c : ℕ) → mode < 2 → decision image mode 40 p c ≡ verdict image (mode_of mode) p c
unfolding rams_fit verdict
decided image mode p c h = go (rams_fit p c) refl
  where
    go : (x : Bool) → rams_fit p c ≡ x → decision image mode 40 p c ≡ verdict image (mode_of mode) p c
    go true e = taken _ _ e ∙ taken _ _ (lt-ltb mode 2 h)
    go false e = simp (e)

pub loads_as : (image : List ℕ) (mode : ℕ) (s prg chr : List ℕ) (l : Loaded) (prg'' chr'' : List ℕ) (r : ℕ) (s' prg' chr' : List ℕ) → mode < 2 → length s ≡ 40
    → start.LoadOwes image (mode_of mode) prg chr l prg'' chr'' → LoadOwes image mode s prg chr r s' prg' chr' → LoadsAs l s prg'' chr'' r s' prg' chr'
loads_as image mode s prg chr l prg'' chr'' r s' prg' chr' m n o e =
    let d : decision image mode (length s) (length prg) (length chr) ≡ verdict image (mode_of mode) (length prg) (length chr)
    = ap (λ (x : ℕ). decision image mode x (length prg) (length chr)) n ∙ decided image mode (length prg) (length chr) m in
    let z : loading image mode (length s) (length prg) (length chr) ≡ l
    = ap (λ (x : Verdict). start.loaded_board (loaded_as x (cartridge_of (header_of image) (mode_of mode) (length image)))) d ∙ sym o.reply in
    let y : r ≡ load_number (start.load_answer l) = e.reply ∙ ap (λ (x : Loaded). load_number (start.load_answer x)) z in
    record {
      reply = y;
      state = e.state ∙ ap₂ (λ (n : ℕ) (x : Loaded). state_left s n (words_of (start.board_of x))) y z;
      prg_ram = e.prg_ram ∙ ap (λ (x : Verdict). ram_after x prg) d ∙ sym o.prg_ram;
      chr_ram = e.chr_ram ∙ ap (λ (x : Verdict). ram_after x chr) d ∙ sym o.chr_ram;
    }
