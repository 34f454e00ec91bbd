-- The paper's number or letter for each refusal and mirroring.
use Rattle.std.specs.Prelude.{ℕ, Bool, true, false, cond, eqb}
use Rattle.common.specs.declared.Refusal.{Refusal}
use Rattle.common.specs.declared.Refusal.TheVariants.{HeaderTooShort, HeaderNotInes, ImageNotInes, MapperNotTaken, TrainerOrFourScreen, PrgCountNotTaken, ImageTooShort, CountNoPowerOfTwo, RamNot8K, StateOutOfRange, BankPastData, NoChrRam, NoSuchPlace, IrqPending, TraceMalformed, Nes2NotTaken}
use Rattle.common.specs.declared.Mirroring.{Mirroring}
use Rattle.common.specs.declared.Mirroring.TheVariants.{Horizontal, Vertical, SingleScreenUpper, SingleScreenLower}

-- the table "Numbers of refusal"
abbrev pub refusal_number : Refusal → ℕ
refusal_number HeaderTooShort = 1
refusal_number HeaderNotInes = 2
refusal_number ImageNotInes = 3
refusal_number MapperNotTaken = 4
refusal_number TrainerOrFourScreen = 5
refusal_number PrgCountNotTaken = 6
refusal_number ImageTooShort = 7
refusal_number CountNoPowerOfTwo = 8
refusal_number RamNot8K = 9
refusal_number StateOutOfRange = 10
refusal_number BankPastData = 11
refusal_number NoChrRam = 12
refusal_number NoSuchPlace = 13
refusal_number IrqPending = 14
refusal_number TraceMalformed = 15
-- document 02, M-100
refusal_number Nes2NotTaken = 16

-- the refusal that the table has under a number from 1 to 16: definitions name refusals by it
abbrev pub no : ℕ → Refusal
no n =
    cond (eqb n 1) HeaderTooShort
    (cond (eqb n 2) HeaderNotInes
    (cond (eqb n 3) ImageNotInes
    (cond (eqb n 4) MapperNotTaken
    (cond (eqb n 5) TrainerOrFourScreen
    (cond (eqb n 6) PrgCountNotTaken
    (cond (eqb n 7) ImageTooShort
    (cond (eqb n 8) CountNoPowerOfTwo
    (cond (eqb n 9) RamNot8K
    (cond (eqb n 10) StateOutOfRange
    (cond (eqb n 11) BankPastData
    (cond (eqb n 12) NoChrRam
    (cond (eqb n 13) NoSuchPlace
    (cond (eqb n 14) IrqPending
    (cond (eqb n 15) TraceMalformed Nes2NotTaken))))))))))))))

-- trace: "a notice letter H, V, U (upper), L (lower)"
abbrev pub mirroring_letter : Mirroring → ℕ
mirroring_letter Horizontal = 0x48
mirroring_letter Vertical = 0x56
mirroring_letter SingleScreenUpper = 0x55
mirroring_letter SingleScreenLower = 0x4C

-- one of four, by the mirroring
abbrev pub among : {A : Type 0} → A → A → A → A → Mirroring → A
among h v u l Horizontal = h
among h v u l Vertical = v
among h v u l SingleScreenUpper = u
among h v u l SingleScreenLower = l

-- whether two mirrorings are one
unfoldable pub same : Mirroring → Mirroring → Bool
same Horizontal m = among true false false false m
same Vertical m = among false true false false m
same SingleScreenUpper m = among false false true false m
same SingleScreenLower m = among false false false true m

-- the mirrorings that byte 6 can ask for, "horizontal or vertical"
abbrev pub is_headers : Mirroring → Bool
is_headers m = among true true false false m

-- M-106, AxROM: "either screen"
abbrev pub is_one_screen : Mirroring → Bool
is_one_screen m = among false false true true m
