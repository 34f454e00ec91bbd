-- Which writes a board accepts, and the moves that the calls of a run make on an MMC1 board.
use Rattle.std.specs.Prelude.{ℕ, Bool, true, false, cond, ◌&&◌, List, [], ◌∷◌, Ok, Err}
use Rattle.cartridge.specs.Mappers.{is_mapper}
use Rattle.cartridge.specs.declared.MapperType.TheVariants.{Mmc1}
use Rattle.places.specs.Places.{Landing}
use Rattle.mmc1.specs.Write.{move_of}
use Rattle.mmc1.specs.declared.Move.{Move}
use Rattle.mmc1.specs.declared.Move.TheVariants.{Nothing}
use Rattle.boards.specs.Write.{landing}
use Rattle.boards.specs.Runs.{Lent, Call, call, next}
use Rattle.boards.specs.declared.Board.{Board}
use Rattle.boards.specs.declared.Event.{Event}
use Rattle.boards.specs.declared.Event.TheVariants.{Read, Write, Clock}

-- whether a write that lands there is accepted
unfoldable pub is_accepted : Landing → Bool
is_accepted (Err why) = false
is_accepted (Ok p) = true

-- whether the board accepts a write; it answers a refusal exactly when not
abbrev pub accepts : Board → Lent → ℕ → Bool
accepts b l a = is_accepted (landing b l.image l.prg l.chr a)

-- the move that an event makes on an MMC1 board; a refused write, any other event and any other board make none
unfoldable pub made : Board → Lent → Event → Move
made b l (Read a) = Nothing
made b l (Write a v) = cond (is_mapper b.cart.mapper Mmc1 && accepts b l a) (move_of b.registers.mmc1.serial v a) Nothing
made b l Clock = Nothing

-- the moves of a list of calls, in order: each `Fill` is a completed load, with its register and its five bits
unfoldable pub moves : Board → List Call → List Move
moves b [] = []
moves b (call l e ∷ cs) = made b l e ∷ moves (next b l e) cs
