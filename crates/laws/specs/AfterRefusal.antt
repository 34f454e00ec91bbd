-- "A refusal yields its number only; the state and every lent buffer hold what they held. An accepted load fills both RAMs with zero."
use Rattle.std.specs.Prelude.{ℕ, ◌≡◌, Bool, true, ◌&&◌, List, [], ◌∷◌, length, replicate}
use Rattle.common.specs.declared.Mode.{Mode}
use Rattle.boards.specs.Runs.{Lent, next, left}
use Rattle.boards.specs.declared.Board.{Board}
use Rattle.boards.specs.declared.Event.{Event}
use Rattle.boards.specs.declared.Answer.{Answer}
use Rattle.laws.specs.Calls.{ram_left, is_refusal}

-- after an event "the state and every lent buffer hold what they held"
pub record AsBefore (b : Board) (l : Lent) (e : Event) : Type 0 where
  pub the_board : next b l e ≡ b
  pub the_buffers : left b l e ≡ l

-- after a load both RAMs hold what they held
pub record RamsAsBefore (mode : Mode) (s prg chr : List ℕ) : Type 0 where
  pub the_prg_ram : ram_left mode s prg chr prg ≡ prg
  pub the_chr_ram : ram_left mode s prg chr chr ≡ chr

-- a load "fills both RAMs with zero"
pub record RamsCleared (mode : Mode) (s prg chr : List ℕ) : Type 0 where
  pub the_prg_ram : ram_left mode s prg chr prg ≡ replicate (length prg) 0
  pub the_chr_ram : ram_left mode s prg chr chr ≡ replicate (length chr) 0

-- whether every answer is a refusal
abbrev pub all_refused : List Answer → Bool
all_refused [] = true
all_refused (x ∷ xs) = is_refusal x && all_refused xs
