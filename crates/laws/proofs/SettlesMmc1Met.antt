-- Two histories that meet all that the theorems of `Demand3` ask of MMC1, in each mode, and two runs that fall short by one hypothesis and leave the boards
-- apart: each is computed. Assumes nothing.
use Rattle.std.specs.Prelude.{Ok, Err}
use Prim.Native.Nat.{ℕ, ◌/◌, ◌%◌}
use mathlib.Core.Path.{◌≡◌, refl}
use mathlib.Core.List.{List, [], ◌∷◌, ◌++◌, map}
use native.Mathlib.Omega.{arith}
use lib.ListN.{replicate}
use Rattle.common.specs.declared.Mode.{Mode}
use Rattle.common.specs.declared.Mode.TheVariants.{House, Board as OnBoard}
use Rattle.common.specs.declared.Mirroring.TheVariants.{SingleScreenUpper}
use Rattle.common.specs.declared.Refusal.TheVariants.{BankPastData}
use Rattle.memory.proofs.Bytes.{all_bytes, are_bytes}
use Rattle.cartridge.specs.declared.MapperType.TheVariants.{Mmc1}
use Rattle.mmc1.specs.declared.Move.TheVariants.{Fill}
use Rattle.mmc1.specs.declared.Register.TheVariants.{Control, Chr0, Chr1, Prg}
use Rattle.boards.specs.Runs as runs
use Rattle.boards.specs.Runs.{Lent, Call, call, after, answers}
use Rattle.boards.specs.declared.Board.{Board}
use Rattle.boards.specs.declared.Event.{Event}
use Rattle.boards.specs.declared.Event.TheVariants.{Read, Write, Clock}
use Rattle.boards.specs.declared.Answer.{Answer}
use Rattle.boards.specs.declared.Answer.TheVariants.{Read as toRead}
use Rattle.laws.specs.Calls.{History, reached, LentWrite, wrote}
use Rattle.laws.specs.Demand3.{ImageOf, BothCleared}
use Rattle.laws.specs.PLines.{mmc1 as mmc1_image, ram, load_of, with_rams, calls_of}
use Rattle.laws.specs.SettlesMmc1.{Clears, move_at, bit4_at, Settled, Settles}
use Rattle.laws.proofs.Demand3.{mmc1_histories_settle, mmc1_histories_join}
use Rattle.laws.proofs.Opened.{opened}

-- buffers for one board, and of the same lengths for the other
abbrev pub lent : Lent
lent = with_rams mmc1_image

abbrev pub others : Lent
others = runs.lent mmc1_image (replicate 8192 7) (replicate 8192 9)

-- the bit 7 write, for each with its own buffers
abbrev pub bit7 : Lent → LentWrite
bit7 l = record { lent = l; address = 0x9000; byte = 0x80 }

-- five bits for one register
abbrev pub five : ℕ → ℕ → List Event
five a v = Write a (v % 2) ∷ Write a (v / 2 % 2) ∷ Write a (v / 4 % 2) ∷ Write a (v / 8 % 2) ∷ Write a (v / 16) ∷ []

-- a refused write, a read, a clock, then PRG 7, control 16, CHR 1 6 and CHR 0 5
abbrev pub calls : Lent → List Call
calls l =
    call (runs.lent l.image [] l.chr) (Write 0x8000 1)
    ∷ map (call l) (Read 0x8000 ∷ Clock ∷ five 0xE000 7 ++ five 0x8000 16 ++ five 0xC000 6 ++ five 0xA000 5)

pub met_loads : (mode : Mode) → (load_of mode mmc1_image).answer ≡ Ok tt
unfolding opened
met_loads House = refl
met_loads OnBoard = refl

pub met_image : (mode : Mode) → ImageOf Mmc1 mode mmc1_image
unfolding opened all_bytes
met_image House = record { mapper = refl; are_bytes = are_bytes mmc1_image refl }
met_image OnBoard = record { mapper = refl; are_bytes = are_bytes mmc1_image refl }

-- a history without calls, and one that is in the midst of a game: other registers, other screens on the real board, and three bits in the serial register
abbrev pub history : (mode : Mode) → List Call → History mode mmc1_image
history mode cs = record { prg = ram; chr = ram; accepted = met_loads mode; calls = cs }

abbrev pub fresh : (mode : Mode) → History mode mmc1_image
fresh mode = history mode []

abbrev pub used : (mode : Mode) → History mode mmc1_image
used mode =
    history mode
    (calls_of mmc1_image
    (five 0x8000 25 ++ five 0xA000 3 ++ five 0xC000 6 ++ five 0xE000 9 ++ (Write 0xE000 1 ∷ Write 0xE000 0 ∷ Write 0xE000 1 ∷ [])))

pub met_fresh : (mode : Mode) → Clears (bit7 lent) (reached (fresh mode))
unfolding opened
met_fresh House = record { to_8000_ffff = omega arith; bit_7 = refl; accepted = refl }
met_fresh OnBoard = record { to_8000_ffff = omega arith; bit_7 = refl; accepted = refl }

pub met_used : (mode : Mode) → Clears (bit7 others) (reached (used mode))
unfolding opened
met_used House = record { to_8000_ffff = omega arith; bit_7 = refl; accepted = refl }
met_used OnBoard = record { to_8000_ffff = omega arith; bit_7 = refl; accepted = refl }

-- where the game has left its board, in either mode and in board mode
pub met_registers : (mode : Mode) → (reached (used mode)).registers.mmc1 ≡ record { serial = record { count = 3; value = 20 }; regs = record { prgmode = 2; chrmode = 1; chr0 = 3; chr1 = 6; prg = 9 } }
unfolding opened
met_registers House = refl
met_registers OnBoard = refl

pub met_screens : (reached (used OnBoard)).mirroring ≡ SingleScreenUpper
unfolding opened
met_screens = refl

-- all that demand 3 asks of MMC1
pub met_both : (mode : Mode) → BothCleared (fresh mode) (used mode) (bit7 lent) (bit7 others) (calls lent) (calls others)
met_both mode =
    record {
      image = met_image mode;
      first_accepts = met_fresh mode;
      second_accepts = met_used mode;
      then_the_same_calls = refl;
    }

-- a run with its control load at call 12, CHR 0 at 22, CHR 1 at 17 and PRG at 7
loads_at : {b : Board} {cs : List Call} → move_at b cs 12 ≡ Fill Control 16 → move_at b cs 22 ≡ Fill Chr0 5 → move_at b cs 17 ≡ Fill Chr1 6 → move_at b cs 7 ≡ Fill Prg 7 → bit4_at b cs 17 ≡ 1 → Settled b cs
loads_at control chr0 chr1 prg bit4 =
    record {
      control = 12;
      chr0 = 22;
      chr1 = 17;
      prg = 7;
      control_load = record { bits = 16; done = control };
      chr0_load = record { bits = 5; done = chr0 };
      chr1_load = record { bits = 6; done = chr1 };
      prg_load = record { bits = 7; done = prg };
      chr0_after_it = omega arith;
      chr1_after_it = omega arith;
      while_bit_4_is_set = bit4;
    }

pub met_settled : (mode : Mode) → Settled (wrote (reached (fresh mode)) (bit7 lent)) (calls lent)
unfolding opened
met_settled House = loads_at refl refl refl refl refl
met_settled OnBoard = loads_at refl refl refl refl refl

-- so the two agree, and are one board
pub met : (mode : Mode) → Settles (wrote (reached (fresh mode)) (bit7 lent)) (wrote (reached (used mode)) (bit7 others)) (calls lent) (calls others)
met mode = mmc1_histories_settle (fresh mode) (used mode) (bit7 lent) (bit7 others) (calls lent) (calls others) (met_both mode)

pub met_one : (mode : Mode) → after (wrote (reached (fresh mode)) (bit7 lent)) (calls lent) ≡ after (wrote (reached (used mode)) (bit7 others)) (calls others)
met_one mode = mmc1_histories_join (fresh mode) (used mode) (bit7 lent) (bit7 others) (calls lent) (calls others) (met_both mode) (met_settled mode)

-- what the two boards of house mode answer to a read after the bit 7 write and a run
abbrev apart : List Event → ℕ → Answer → Answer → Type 0
apart es a x y =
    (answers (after (wrote (reached (fresh House)) (bit7 lent)) (calls_of mmc1_image es)) (call lent (Read a) ∷ []) ≡ x ∷ [])
    × (answers (after (wrote (reached (used House)) (bit7 lent)) (calls_of mmc1_image es)) (call lent (Read a) ∷ []) ≡ y ∷ [])

-- a CHR 0 load before the control load, and all else as asked
pub chr0_before_the_control_load : apart (five 0xA000 2 ++ five 0x8000 16 ++ five 0xC000 0 ++ five 0xE000 0) 0x0000 (toRead (Ok 0)) (toRead (Err BankPastData))
unfolding opened
chr0_before_the_control_load = (refl, refl)

-- a CHR 1 load in 8 KB mode, and all else as asked; a second control load shows CHR 1
pub chr1_in_8_kb_mode : apart (five 0x8000 0 ++ five 0xA000 0 ++ five 0xC000 1 ++ five 0xE000 0 ++ five 0x8000 16) 0x1000 (toRead (Ok 0)) (toRead (Err BankPastData))
unfolding opened
chr1_in_8_kb_mode = (refl, refl)
