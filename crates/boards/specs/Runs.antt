-- Runs: one call after another, the board and the buffers that each leaves, and its answer, refused calls included.
use Rattle.std.specs.Prelude.{ℕ, ◌≡◌, List, [], ◌∷◌}
use Rattle.places.specs.Places.{stored_prg, stored_chr}
use Rattle.boards.specs.Read.{read}
use Rattle.boards.specs.Write.{written_as, landing}
use Rattle.boards.specs.Clock.{clock}
use Rattle.boards.specs.declared.Board.{Board}
use Rattle.boards.specs.declared.Event.{Event}
use Rattle.boards.specs.declared.Event.TheVariants.{Read, Write, Clock}
use Rattle.boards.specs.declared.Answer.{Answer}
use Rattle.boards.specs.declared.Answer.TheVariants.{Read as toRead, Write as toWrite, Clock as toClock}
use Rattle.common.specs.declared.Outcome.{Outcome}

-- the buffers lent to a call
pub record Lent : Type 0 where
  pub image : List ℕ
  pub prg : List ℕ
  pub chr : List ℕ

-- the buffers by their three parts
abbrev pub lent : List ℕ → List ℕ → List ℕ → Lent
lent image prg chr = record { image = image; prg = prg; chr = chr }

-- the board after an event: a read of an address, a write of a byte to an address, a clock; a read changes nothing
unfoldable pub next : Board → Lent → Event → Board
next b l (Read a) = b
next b l (Write a v) = (written_as b (landing b l.image l.prg l.chr a) v a).left
next b l Clock = (clock b).left

-- what the event answers
unfoldable pub answer : Board → Lent → Event → Answer
answer b l (Read a) = toRead (read b l.image l.prg l.chr a)
answer b l (Write a v) = toWrite (written_as b (landing b l.image l.prg l.chr a) v a).answer
answer b l Clock = toClock (clock b).answer

-- the buffers as it leaves them: only a write stores, and only in RAM
unfoldable pub left : Board → Lent → Event → Lent
left b l (Read a) = l
left b l (Write a v) =
    let p = landing b l.image l.prg l.chr a in
    lent l.image (stored_prg p v l.prg) (stored_chr p v l.chr)
left b l Clock = l

-- a call: an event, and what is lent to it; a clock looks at none of it
pub data Call : Type 0 where
  call : Lent → Event → Call

-- the board after a list of calls, whatever is lent to each
unfoldable pub after : Board → List Call → Board
after b [] = b
after b (call l e ∷ cs) = after (next b l e) cs

-- the answers to a list of calls
unfoldable pub answers : Board → List Call → List Answer
answers b [] = []
answers b (call l e ∷ cs) = answer b l e ∷ answers (next b l e) cs

-- where each event is lent what the one before left: the board and the buffers between two events
pub record Moment : Type 0 where
  pub board : Board
  pub lent : Lent

-- a moment by its two parts
abbrev pub moment : Board → Lent → Moment
moment b l = record { board = b; lent = l }

-- what an event answers in a moment
abbrev pub said : Moment → Event → Answer
said m e = answer m.board m.lent e

-- the moment after an event
unfoldable pub stepped : Moment → Event → Moment
stepped m e = moment (next m.board m.lent e) (left m.board m.lent e)

-- the answers to a list of events
unfoldable pub played : Moment → List Event → List Answer
played m [] = []
played m (e ∷ es) = said m e ∷ played (stepped m e) es

-- the moment after the last of them
unfoldable pub ended : Moment → List Event → Moment
ended m [] = m
ended m (e ∷ es) = ended (stepped m e) es

-- what the call of an event owes: its answer, and the moment after it
pub record PlayOwes (m : Moment) (e : Event) (r : Outcome Board Answer) (prg' chr' : List ℕ) : Type 0 where
  pub says : r.answer ≡ said m e
  pub moves : moment r.left (lent m.lent.image prg' chr') ≡ stepped m e
