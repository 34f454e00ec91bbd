-- The text of a run: document 01, "Trace program", from "prints" on. Each line ends in a newline.
use Rattle.std.specs.Prelude.{ℕ, suc, ◌+◌, ◌/◌, ◌%◌, cond, List, [], ◌∷◌, ◌++◌, ltb, drop, set, Some, None, Ok, Err, true, false}
use Rattle.common.specs.Answers.{refusal_number, mirroring_letter}
use Rattle.common.specs.declared.Mirroring.{Mirroring}
use Rattle.common.specs.declared.Refusal.{Refusal}
use Rattle.cartridge.specs.Mappers.{mapper_number}
use Rattle.cartridge.specs.declared.Cartridge.{Cartridge}
use Rattle.places.specs.Places.{ReadAnswer}
use Rattle.boards.specs.Write.{WriteAnswer}
use Rattle.boards.specs.Clock.{ClockAnswer}
use Rattle.boards.specs.declared.Answer.{Answer}
use Rattle.boards.specs.declared.Answer.TheVariants.{Read, Write, Clock}

-- the last decimal digit of a number
abbrev pub digit : ℕ → ℕ
digit n = 0x30 + n % 10

-- the digits of a number of 16 bits, zeros in front
unfoldable pub five_digits : ℕ → List ℕ
five_digits n = digit (n / 10000) ∷ digit (n / 1000) ∷ digit (n / 100) ∷ digit (n / 10) ∷ digit n ∷ []

-- how many of those zeros there are
unfoldable pub leading : ℕ → ℕ
leading n = cond (ltb n 10) 4 (cond (ltb n 100) 3 (cond (ltb n 1000) 2 (cond (ltb n 10000) 1 0)))

-- a number as the text has it
unfoldable pub decimal : ℕ → List ℕ
decimal n = drop (leading n) (five_digits n)

-- one upper-case hex digit
unfoldable pub hex_digit : ℕ → ℕ
hex_digit n = cond (ltb n 10) (0x30 + n) (0x37 + n)

-- "two upper-case hex digits"
unfoldable pub hex : ℕ → List ℕ
hex b = hex_digit (b / 16) ∷ hex_digit (b % 16) ∷ []

-- "or `!N`"
unfoldable pub refusal : Refusal → List ℕ
refusal why = (0x21 ∷ []) ++ decimal (refusal_number why)

-- a read's answer
unfoldable pub read_text : ReadAnswer → List ℕ
read_text (Ok b) = hex b
read_text (Err why) = refusal why

-- "a notice letter H, V, U (upper), L (lower)"
unfoldable pub notice_text : Mirroring → List ℕ
notice_text m = mirroring_letter m ∷ []

-- a write's: the letter "or `-`"
unfoldable pub write_text : WriteAnswer → List ℕ
write_text (Ok (Some m)) = notice_text m
write_text (Ok None) = 0x2D ∷ []
write_text (Err why) = refusal why

-- a clock's: "1 or 0"
unfoldable pub clock_text : ClockAnswer → List ℕ
clock_text (Ok true) = 0x31 ∷ []
clock_text (Ok false) = 0x30 ∷ []
clock_text (Err why) = refusal why

-- "R, W or C"
unfoldable pub letter : Answer → ℕ
letter (Read a) = 0x52
letter (Write a) = 0x57
letter (Clock a) = 0x43

-- "and the answer"
unfoldable pub answer_text : Answer → List ℕ
answer_text (Read a) = read_text a
answer_text (Write a) = write_text a
answer_text (Clock a) = clock_text a

-- a letter between two spaces
unfoldable pub between : ℕ → List ℕ
between c = 0x20 ∷ c ∷ 0x20 ∷ []

-- "then per event its number from 0, R, W or C, and the answer"
unfoldable pub line : ℕ → Answer → List ℕ
line i a = decimal i ++ (between (letter a) ++ (answer_text a ++ (0x0A ∷ [])))

-- "prints only `refused 15`", "prints `refused N`"
unfoldable pub refused_line : Refusal → List ℕ
refused_line why =
    (0x72 ∷ 0x65 ∷ 0x66 ∷ 0x75 ∷ 0x73 ∷ 0x65 ∷ 0x64 ∷ 0x20 ∷ []) ++ (decimal (refusal_number why) ++ (0x0A ∷ []))

-- "PRG count, CHR count"
unfoldable pub counts : ℕ → ℕ → List ℕ
counts prg chr = decimal prg ++ ((0x20 ∷ []) ++ (decimal chr ++ (0x0A ∷ [])))

-- "`load`, mapper, mirroring letter (H or V), PRG count, CHR count"
unfoldable pub load_line : Cartridge → List ℕ
load_line c =
    (0x6C ∷ 0x6F ∷ 0x61 ∷ 0x64 ∷ 0x20 ∷ []) ++
    (decimal (mapper_number c.mapper) ++ (between (mirroring_letter c.mirroring) ++ counts c.prg c.chr))

-- the text laid over a buffer from a place on; what runs past the end is dropped
unfoldable pub laid : List ℕ → ℕ → List ℕ → List ℕ
laid s at [] = s
laid s at (b ∷ bs) = laid (set s at b) (suc at) bs
