-- The two modes, the sizes and bit 7.
use Rattle.std.specs.Prelude.{ℕ, Bool, cond, leb, eqb}
use Rattle.common.specs.declared.Mode.{Mode}
use Rattle.common.specs.declared.Mode.TheVariants.{House, Board}

-- trace: "mode (0 house, 1 board)"
abbrev pub mode_number : Mode → ℕ
mode_number House = 0
mode_number Board = 1

-- the mode of such a number
unfoldable pub mode_of : ℕ → Mode
mode_of n = cond (eqb n 0) House Board

-- "The KB constants missing from our copy of the text are 1,024, 4,096 and 8,192"; the fourth is the PRG block's 16,384
abbrev pub KB1 : ℕ
KB1 = 1024

-- a 4 KB CHR bank
abbrev pub KB4 : ℕ
KB4 = 4096

-- a CHR block, a RAM, an 8 KB PRG bank
abbrev pub KB8 : ℕ
KB8 = 8192

-- a PRG block
abbrev pub KB16 : ℕ
KB16 = 16384

-- M-106: "a 32 KB PRG bank", two blocks
abbrev pub KB32 : ℕ
KB32 = 32768

-- a byte "with bit 7"
abbrev pub is_signed : ℕ → Bool
is_signed n = leb 128 n
