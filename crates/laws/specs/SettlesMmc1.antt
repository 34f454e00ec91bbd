-- Demand 3, MMC1: two boards of one image and mode accept a bit 7 write and then get the same calls; which loads are the same, and when the boards agree.
use Rattle.std.specs.Prelude.{ℕ, ◌+◌, ◌≤◌, ◌<◌, ◌≡◌, Bool, true, false, cond, List, [], ◌∷◌, get_or, take}
use Rattle.common.specs.Common.{is_signed}
use Rattle.mmc1.specs.declared.Move.{Move}
use Rattle.mmc1.specs.declared.Move.TheVariants.{Nothing, Clear, Enter, Fill}
use Rattle.mmc1.specs.declared.Register.{Register}
use Rattle.mmc1.specs.declared.Register.TheVariants.{Control, Chr0, Chr1, Prg}
use Rattle.boards.specs.Runs.{Lent, Call, after, answers, moment, played, ended}
use Rattle.boards.specs.declared.Board.{Board}
use Rattle.boards.specs.declared.Event.{Event}
use Rattle.laws.specs.Calls.{LentWrite}
use Rattle.laws.specs.Loads.{accepts, moves}

-- the board accepts the write, and it is "a write with bit 7 set to 8000-FFFF"
pub record Clears (w : LentWrite) (b : Board) : Type 0 where
  pub to_8000_ffff : 0x8000 ≤ w.address
  pub bit_7 : is_signed w.byte ≡ true
  pub accepted : accepts b w.lent w.address ≡ true

-- what the call at a position does
abbrev pub move_at : Board → List Call → ℕ → Move
move_at b cs i = get_or (moves b cs) i Nothing

-- "serial write": a bit enters, or it is the fifth and fills a register
abbrev pub is_serial : Move → Bool
is_serial Nothing = false
is_serial Clear = false
is_serial (Enter s) = true
is_serial (Fill r v) = true

-- how many moves of a list are serial writes
abbrev pub serial_writes : List Move → ℕ
serial_writes [] = 0
serial_writes (k ∷ ks) = cond (is_serial k) 1 0 + serial_writes ks

-- "control bit 4", which is the CHR mode, as it stands when the call at a position is made
abbrev pub bit4_at : Board → List Call → ℕ → ℕ
bit4_at b cs i = (after b (take i cs)).registers.mmc1.regs.chrmode

-- "a control load", "a CHR 0 load" and so on: the call at a position completes a load of that register
pub record LoadsAt (b : Board) (cs : List Call) (r : Register) (i : ℕ) : Type 0 where
  pub bits : ℕ
  pub done : move_at b cs i ≡ Fill r bits

-- "a control load, after it a CHR 0 load and a CHR 1 load made while control bit 4 is set, and anywhere a PRG load": the positions of the four
pub record Settled (b : Board) (cs : List Call) : Type 0 where
  pub control : ℕ
  pub chr0 : ℕ
  pub chr1 : ℕ
  pub prg : ℕ
  pub control_load : LoadsAt b cs Control control
  pub chr0_load : LoadsAt b cs Chr0 chr0
  pub chr1_load : LoadsAt b cs Chr1 chr1
  pub prg_load : LoadsAt b cs Prg prg
  pub chr0_after_it : control < chr0
  pub chr1_after_it : control < chr1
  pub while_bit_4_is_set : bit4_at b cs chr1 ≡ 1

-- "the boards agree in all that answers depend on": what was loaded, the mirroring and MMC1's registers
pub record Agree (b d : Board) : Type 0 where
  pub cart : b.cart ≡ d.cart
  pub mirroring : b.mirroring ≡ d.mirroring
  pub mmc1 : b.registers.mmc1 ≡ d.registers.mmc1

-- what demand 3 says of two boards that accepted such a write, and of the calls that they get then
pub record Settles (b d : Board) (cs ds : List Call) : Type 0 where
  -- "The same writes complete loads, in the same registers, with the same five bits": all moves are the same
  pub the_same_loads : moves b cs ≡ moves d ds
  -- "none before the fifth serial write": up to and with the call that completes one there are at least five
  pub none_before_the_fifth : (i : ℕ) (r : Register) → LoadsAt b cs r i → 5 ≤ serial_writes (take (i + 1) (moves b cs))
  -- "Once there have been a control load, ..": "the boards agree in all that answers depend on"
  pub the_boards_agree : Settled b cs → Agree (after b cs) (after d ds)
  -- "so with equal RAM bytes all later answers agree (reads with their refusals, notices, clocks)": each event is lent what the one before left
  pub later_answers_agree : Settled b cs → (l : Lent) (es : List Event) → played (moment (after b cs) l) es ≡ played (moment (after d ds) l) es
  -- the RAM bytes stay equal
  pub rams_stay_equal : Settled b cs → (l : Lent) (es : List Event) → (ended (moment (after b cs) l) es).lent ≡ (ended (moment (after d ds) l) es).lent
  -- all later answers agree whatever is lent to each call, as long as both boards are lent the same
  pub whatever_is_lent : Settled b cs → (later : List Call) → answers (after b cs) later ≡ answers (after d ds) later
