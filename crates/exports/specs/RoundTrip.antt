-- The exported calls beside the calls of the board that the bytes hold.
use Rattle.std.specs.Prelude.{ℕ, ◌≡◌, List}
use Rattle.boards.specs.declared.Board.{Board}
use Rattle.boards.specs.Write.{Written}
use Rattle.boards.specs.Clock.{Clocked}
use Rattle.boards.specs.Start.{Loaded, load_answer, board_of}
use Rattle.states.specs.Kept.{board_digits}
use Rattle.states.specs.Words.{words_of}
use Rattle.exports.specs.Numbers.{write_number, clock_number, load_number}
use Rattle.exports.specs.Bytes.{encoded, state_left}

-- a write as the board's: the number of its answer, the bytes of its next board, its RAMs
pub record WritesAs (w : Written) (prg chr : List ℕ) (r : ℕ) (s' prg' chr' : List ℕ) : Type 0 where
  pub reply : r ≡ write_number w.answer
  pub state : s' ≡ encoded w.left
  pub prg_ram : prg' ≡ prg
  pub chr_ram : chr' ≡ chr

-- a clock as the board's
pub record ClocksAs (c : Clocked) (r : ℕ) (s' : List ℕ) : Type 0 where
  pub reply : r ≡ clock_number c.answer
  pub state : s' ≡ encoded c.left

-- a load as the board's: the bytes of its board after an accepted one, what they were after a refusal
pub record LoadsAs (l : Loaded) (s prg chr : List ℕ) (r : ℕ) (s' prg' chr' : List ℕ) : Type 0 where
  pub reply : r ≡ load_number (load_answer l)
  pub state : s' ≡ state_left s (load_number (load_answer l)) (words_of (board_of l))
  pub prg_ram : prg' ≡ prg
  pub chr_ram : chr' ≡ chr

-- the digits as the board's
pub record ShowsAs (b : Board) (r : ℕ) (d' : List ℕ) : Type 0 where
  pub reply : r ≡ 0
  pub digits : d' ≡ board_digits b
