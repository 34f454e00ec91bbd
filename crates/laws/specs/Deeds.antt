-- What each call of a list does to an MMC3 board.
use Rattle.std.specs.Prelude.{ℕ, ◌<◌, ◌≡◌, cond, List, [], ◌∷◌, get_or}
use Rattle.mmc3.specs.Write.{move_of}
use Rattle.mmc3.specs.declared.Move.{Move}
use Rattle.boards.specs.Runs.{Lent, Call, call, next}
use Rattle.boards.specs.declared.Board.{Board}
use Rattle.boards.specs.declared.Event.{Event}
use Rattle.boards.specs.declared.Event.TheVariants.{Read, Write, Clock}
use Rattle.laws.specs.Loads.{accepts}

-- what a call does to an MMC3 board: it rests, makes the move of a write that it accepts, or clocks
pub data Deed : Type 0 where
  rests : Deed
  writes : Move → Deed
  clocks : Deed

-- at a read it rests, and at a write that it refuses
unfoldable pub deed : Board → Lent → Event → Deed
deed b l (Read a) = rests
deed b l (Write a v) = cond (accepts b l a) (writes (move_of v a)) rests
deed b l Clock = clocks

-- what each call of a list does, in order
unfoldable pub deeds : Board → List Call → List Deed
deeds b [] = []
deeds b (call l e ∷ cs) = deed b l e ∷ deeds (next b l e) cs

-- what the call at a position does
abbrev pub deed_at : Board → List Call → ℕ → Deed
deed_at b cs i = get_or (deeds b cs) i rests

-- no call after that position does this
abbrev pub NoneAfter : Board → List Call → ℕ → Deed → Type 0
NoneAfter b cs i d = (j : ℕ) → i < j → deed_at b cs j ≡ d → ⊥

-- no call at all does this; said of a write or a clock, since past the end of the list there is rest
abbrev pub NoneAmong : Board → List Call → Deed → Type 0
NoneAmong b cs d = (j : ℕ) → deed_at b cs j ≡ d → ⊥
