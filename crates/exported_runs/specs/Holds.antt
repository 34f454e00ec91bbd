-- What a caller of the exported functions has between two calls.
use Rattle.std.specs.Prelude.{ℕ, ◌≡◌, true, List, length}
use Rattle.boards.specs.Range.{in_range}
use Rattle.boards.specs.declared.Board.{Board}
use Rattle.pages.specs.Pages.{read_page, write_page, numbers}
use Rattle.states.specs.Kept.{OfItsTypes}
use Rattle.exports.specs.Bytes.{encoded}

-- the lent bytes are those of a board that the calls take
pub record Holds (s : List ℕ) (b : Board) : Type 0 where
  pub bytes : s ≡ encoded b
  pub is_in_range : in_range b ≡ true
  pub of_its_types : OfItsTypes b

-- the pages told are that board's, as many as there is room for
pub record Tells (b : Board) (first : ℕ) (reads writes : List ℕ) (r : ℕ) (reads' writes' : List ℕ) : Type 0 where
  pub reply : r ≡ 0
  pub read_pages : reads' ≡ numbers (read_page b) first (length reads)
  pub write_pages : writes' ≡ numbers (write_page b) first (length writes)
