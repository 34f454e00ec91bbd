-- Runs of the exported calls over one lent state: what their promises (exports specs/Calls.antt) leave of the forty bytes, and what they answer.
use Rattle.std.specs.Prelude.{ℕ, ◌<◌, List, [], ◌∷◌}
use Rattle.places.specs.Places.{stored_prg, stored_chr}
use Rattle.boards.specs.Runs.{Lent, lent, Call, call}
use Rattle.boards.specs.Write.{written_as}
use Rattle.boards.specs.Clock.{clock_if}
use Rattle.boards.specs.Write.{Written}
use Rattle.boards.specs.Clock.{Clocked}
use Rattle.boards.specs.declared.Event.{Event}
use Rattle.boards.specs.declared.Event.TheVariants.{Read, Write, Clock}
use Rattle.states.specs.Words.{words_of}
use Rattle.exports.specs.Numbers.{write_number, clock_number}
use Rattle.exports.specs.Bytes.{board_in, is_state, state_left}
use Rattle.exports.specs.Calls.{read_bytes, writing}

-- the write that an exported write makes
abbrev pub written : List ℕ → Lent → ℕ → ℕ → Written
written s l a v = written_as (board_in s) (writing s l.image l.prg l.chr a) v a

-- the clock that an exported clock makes
abbrev pub clocked : List ℕ → Clocked
clocked s = clock_if (is_state s) (board_in s)

-- the number that an exported call answers
unfoldable pub number : List ℕ → Lent → Event → ℕ
number s l (Read a) = read_bytes s l.image l.prg l.chr a
number s l (Write a v) = write_number (written s l a v).answer
number s l Clock = clock_number (clocked s).answer

-- the state as an exported call leaves it; a read has it to look at only
unfoldable pub next_state : List ℕ → Lent → Event → List ℕ
next_state s l (Read a) = s
next_state s l (Write a v) = state_left s (write_number (written s l a v).answer) (words_of (written s l a v).left)
next_state s l Clock = state_left s (clock_number (clocked s).answer) (words_of (clocked s).left)

-- the state after a list of calls, whatever is lent to each
unfoldable pub state_after : List ℕ → List Call → List ℕ
state_after s [] = s
state_after s (call l e ∷ cs) = state_after (next_state s l e) cs

-- the numbers that the calls of a list answer
unfoldable pub numbers : List ℕ → List Call → List ℕ
numbers s [] = []
numbers s (call l e ∷ cs) = number s l e ∷ numbers (next_state s l e) cs

-- the buffers as a call leaves them: only a write stores, and only in RAM
unfoldable pub left : List ℕ → Lent → Event → Lent
left s l (Read a) = l
left s l (Write a v) =
    let p = writing s l.image l.prg l.chr a in
    lent l.image (stored_prg p v l.prg) (stored_chr p v l.chr)
left s l Clock = l

-- the numbers of a list of events, each lent what the one before left
unfoldable pub played : List ℕ → Lent → List Event → List ℕ
played s l [] = []
played s l (e ∷ es) = number s l e ∷ played (next_state s l e) (left s l e) es

-- the buffers after the last of them
unfoldable pub ended : List ℕ → Lent → List Event → Lent
ended s l [] = l
ended s l (e ∷ es) = ended (next_state s l e) (left s l e) es

-- one answer more, which counts if it is a clock's
abbrev pub if_clock : Event → ℕ → List ℕ → List ℕ
if_clock (Read a) n ns = ns
if_clock (Write a v) n ns = ns
if_clock Clock n ns = n ∷ ns

-- the IRQ answers of a list of calls, which are those of clocks
unfoldable pub clock_numbers : List ℕ → List Call → List ℕ
clock_numbers s [] = []
clock_numbers s (call l e ∷ cs) = if_clock e (number s l e) (clock_numbers (next_state s l e) cs)

-- what a call of an event may be given: a write writes a byte
abbrev pub IsByte : Event → Type 0
IsByte (Read a) = Unit {0}
IsByte (Write a v) = v < 0x100
IsByte Clock = Unit {0}

-- every write of a list writes a byte
abbrev pub WriteBytes : List Call → Type 0
WriteBytes [] = Unit {0}
WriteBytes (call l e ∷ cs) = IsByte e × WriteBytes cs
