-- The steps of the code; the calls' promises don't cite them.
use Rattle.std.specs.Prelude.{ℕ, ◌+◌, ◌≡◌, List, ◌++◌, take, drop}
use Rattle.rules.specs.Rows.{bytes}
use Rattle.rules.specs.Flat.{flat_digits}
use Rattle.cartridge.specs.Header.{HeaderAnswer}
use Rattle.exports.specs.Numbers.{header_number, fields_after}
use Rattle.exports.specs.Calls.{WriteOwes, moved_pages}
use Rattle.exports.specs.declared.Wrote.{Wrote}

-- the bytes with a word put over them at a place
unfoldable pub word_put : List ℕ → ℕ → ℕ → List ℕ
word_put s i w = take i s ++ (flat_digits bytes w ++ drop (i + 8) s)

-- the header reader's answer, with its fields
pub record FieldsPut (h : HeaderAnswer) (f : List ℕ) (r : ℕ) (f' : List ℕ) : Type 0 where
  pub reply : r ≡ header_number h
  pub fields : f' ≡ fields_after h f

-- what the one write owes: the write's answer, state and RAMs, and the pages that it may have moved
pub record WroteOwes (s image prg chr : List ℕ) (a v : ℕ) (r : Wrote) (s' prg' chr' : List ℕ) : Type 0 where
  pub write : WriteOwes s image prg chr a v r.answer s' prg' chr'
  pub parts : r.parts ≡ moved_pages s image prg chr a v
