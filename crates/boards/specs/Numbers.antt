-- The answers of the calls as numbers; the cases have document 01's numbers and letters.
use Rattle.std.specs.Prelude.{ℕ, ◌+◌, Some, None, Ok, Err, true, false}
use Rattle.common.specs.Answers.{refusal_number, mirroring_letter}
use Rattle.common.specs.declared.Refusal.{Refusal}
use Rattle.cartridge.specs.Header.{HeaderAnswer}
use Rattle.places.specs.Places.{ReadAnswer}
use Rattle.boards.specs.Start.{LoadAnswer}
use Rattle.boards.specs.Write.{WriteAnswer}
use Rattle.boards.specs.Clock.{ClockAnswer}

-- a refusal stands above every other answer: 256 and its number
abbrev pub refused_by : ℕ → ℕ
refused_by n = 256 + n

-- the answer of any call that is refused
unfoldable pub refused : Refusal → ℕ
refused why = refused_by (refusal_number why)

-- the header reader: 0 where it reads
unfoldable pub header_number : HeaderAnswer → ℕ
header_number (Ok h) = 0
header_number (Err why) = refused why

-- a read: the byte
unfoldable pub read_number : ReadAnswer → ℕ
read_number (Ok b) = b
read_number (Err why) = refused why

-- a write: 0 where it is quiet, or the letter of the notice
unfoldable pub write_number : WriteAnswer → ℕ
write_number (Ok None) = 0
write_number (Ok (Some m)) = mirroring_letter m
write_number (Err why) = refused why

-- a clock: 1 or 0
unfoldable pub clock_number : ClockAnswer → ℕ
clock_number (Ok false) = 0
clock_number (Ok true) = 1
clock_number (Err why) = refused why

-- a load: 0 where it is accepted
unfoldable pub load_number : LoadAnswer → ℕ
load_number (Ok tt) = 0
load_number (Err why) = refused why
