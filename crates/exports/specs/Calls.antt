-- What each exported call owes its caller: docs/ABI.md, "Answers and refusals". Load, read, write and clock are the board's own, on the board that the bytes hold.
use Rattle.std.specs.Prelude.{ℕ, ◌+◌, ◌≡◌, Bool, cond, ◌&&◌, List, ltb, eqb, length, Err}
use Rattle.common.specs.Common.{mode_of}
use Rattle.common.specs.Answers.{no}
use Rattle.cartridge.specs.Header.{header_of, header_read}
use Rattle.cartridge.specs.Load.{verdict, cartridge_of, loaded_as, ram_after, rams_fit}
use Rattle.cartridge.specs.Refusals.{Verdict}
use Rattle.places.specs.Places.{Landing, stored_prg, stored_chr}
use Rattle.boards.specs.Start.{Loaded, loaded_board, board_of, load_answer}
use Rattle.boards.specs.Read.{read_if}
use Rattle.boards.specs.Write.{landing_if, written_as}
use Rattle.boards.specs.Clock.{clock_if}
use Rattle.pages.specs.Pages.{read_page, write_page, numbers, is_told}
use Rattle.pages.specs.Parts.{parts_moved}
use Rattle.pages.specs.declared.Parts.{Parts}
use Rattle.states.specs.Words.{words_of, digits_of}
use Rattle.exports.specs.Numbers.{refused, read_number, write_number, clock_number, load_number, moved_number, header_number, fields_after}
use Rattle.exports.specs.Bytes.{words_in, board_in, is_state, is_state_for, state_left}

-- load: "9, 10 (`state` is not 40 bytes, or `mode` is neither 0 house nor 1 board), 3, 4, 5, 16, 6, 7, 8"
abbrev pub decision : List ℕ → ℕ → ℕ → ℕ → ℕ → Verdict
decision image mode s prg chr =
    cond (rams_fit prg chr)
    (cond (eqb s 40 && ltb mode 2) (verdict image (mode_of mode) prg chr) (Err (no 10)))
    (Err (no 9))

-- the board that the load gives, or its refusal
abbrev pub loading : List ℕ → ℕ → ℕ → ℕ → ℕ → Loaded
loading image mode s prg chr =
    loaded_board (loaded_as (decision image mode s prg chr) (cartridge_of (header_of image) (mode_of mode) (length image)))

-- what a load owes: the answer, the state and both RAMs
pub record LoadOwes (image : List ℕ) (mode : ℕ) (s prg chr : List ℕ) (r : ℕ) (s' prg' chr' : List ℕ) : Type 0 where
  pub reply : r ≡ load_number (load_answer (loading image mode (length s) (length prg) (length chr)))
  pub state : s' ≡ state_left s r (words_of (board_of (loading image mode (length s) (length prg) (length chr))))
  pub prg_ram : prg' ≡ ram_after (decision image mode (length s) (length prg) (length chr)) prg
  pub chr_ram : chr' ≡ ram_after (decision image mode (length s) (length prg) (length chr)) chr

-- what a read answers: the board's own call, "9, 10, then the board's own"
unfoldable pub read_bytes : List ℕ → List ℕ → List ℕ → List ℕ → ℕ → ℕ
read_bytes s image prg chr a = read_number (read_if (is_state_for s (length image)) (board_in s) image prg chr a)

-- where the byte of a write lands
abbrev pub writing : List ℕ → List ℕ → List ℕ → List ℕ → ℕ → Landing
writing s image prg chr a = landing_if (is_state_for s (length image)) (board_in s) prg chr a

-- what a write owes: the answer, the state and both RAMs
pub record WriteOwes (s image prg chr : List ℕ) (a v r : ℕ) (s' prg' chr' : List ℕ) : Type 0 where
  pub reply : r ≡ write_number (written_as (board_in s) (writing s image prg chr a) v a).answer
  pub state : s' ≡ state_left s r (words_of (written_as (board_in s) (writing s image prg chr a) v a).left)
  pub prg_ram : prg' ≡ stored_prg (writing s image prg chr a) v prg
  pub chr_ram : chr' ≡ stored_chr (writing s image prg chr a) v chr

-- the pages that a write may have moved: those whose registers it left with another value
abbrev pub moved_pages : List ℕ → List ℕ → List ℕ → List ℕ → ℕ → ℕ → Parts
moved_pages s image prg chr a v =
    parts_moved (board_in s).cart.mapper (board_in s).registers (written_as (board_in s) (writing s image prg chr a) v a).left.registers

-- what the write that tells them owes: the answer of the write with them above it; the state and both RAMs as the write leaves them
pub record WriteMovedOwes (s image prg chr : List ℕ) (a v r : ℕ) (s' prg' chr' : List ℕ) : Type 0 where
  pub reply : r ≡ write_number (written_as (board_in s) (writing s image prg chr a) v a).answer + moved_number (moved_pages s image prg chr a v)
  pub left : WriteOwes s image prg chr a v (write_number (written_as (board_in s) (writing s image prg chr a) v a).answer) s' prg' chr'

-- what a clock owes: the answer and the state
pub record ClockOwes (s : List ℕ) (r : ℕ) (s' : List ℕ) : Type 0 where
  pub reply : r ≡ clock_number (clock_if (is_state s) (board_in s)).answer
  pub state : s' ≡ state_left s r (words_of (clock_if (is_state s) (board_in s)).left)

-- the digits are shown: no 10 is due, since a board could have the state and there is room for 40 numbers
abbrev pub is_shown : List ℕ → List ℕ → Bool
is_shown s d = is_state s && eqb (length d) 40

-- what the call that shows the digits owes: the answer, and the forty numbers
pub record DigitsOwes (s d : List ℕ) (r : ℕ) (d' : List ℕ) : Type 0 where
  pub reply : r ≡ cond (is_shown s d) 0 (refused (no 10))
  pub digits : d' ≡ cond (is_shown s d) (digits_of (words_in s)) d

-- the pages are told of a state that a board could have, as far as there is room up to page 63
abbrev pub told : List ℕ → ℕ → List ℕ → List ℕ → Bool
told s first reads writes = is_told (is_state s) first (length reads) (length writes)

-- what the pages owe: the answer, where each page is read from, and where a write to it goes
pub record PagesOwes (s : List ℕ) (first : ℕ) (reads writes : List ℕ) (r : ℕ) (reads' writes' : List ℕ) : Type 0 where
  pub reply : r ≡ cond (told s first reads writes) 0 (refused (no 10))
  pub read_pages : reads' ≡ cond (told s first reads writes) (numbers (read_page (board_in s)) first (length reads)) reads
  pub write_pages : writes' ≡ cond (told s first reads writes) (numbers (write_page (board_in s)) first (length writes)) writes

-- what the header reader owes: the answer and the twelve fields; "10 (`fields` is not 12 bytes), 1, 2"
pub record HeaderOwes (image f : List ℕ) (r : ℕ) (f' : List ℕ) : Type 0 where
  pub reply : r ≡ cond (eqb (length f) 12) (header_number (header_read image)) (refused (no 10))
  pub fields : f' ≡ cond (eqb (length f) 12) (fields_after (header_read image) f) f
