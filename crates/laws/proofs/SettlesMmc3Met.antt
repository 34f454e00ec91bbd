-- Two histories that meet all that the theorems of `Demand3` ask of MMC3, in each mode, runs that fall short by one write and leave the boards apart, three of house
-- mode and that of board mode without the acknowledging write, and a write that both refuse: each is computed. Assumes nothing.
use Rattle.std.specs.Prelude.{Ok}
use mathlib.Core.Path.{◌≡◌, refl}
use mathlib.Core.Bool.{true, false}
use mathlib.Core.List.{List, [], ◌∷◌, map}
use lib.ListN.{replicate}
use Rattle.common.specs.declared.Mode.{Mode}
use Rattle.common.specs.declared.Mode.TheVariants.{House, Board as OnBoard}
use Rattle.memory.proofs.Bytes.{all_bytes, are_bytes}
use Rattle.cartridge.specs.declared.MapperType.TheVariants.{Mmc3}
use Rattle.boards.specs.Runs as runs
use Rattle.boards.specs.Runs.{Lent, Call, call, after}
use Rattle.boards.specs.declared.Event.{Event}
use Rattle.boards.specs.declared.Event.TheVariants.{Read, Write, Clock}
use Rattle.boards.specs.Clock.{ClockAnswer}
use Rattle.laws.specs.Calls.{History, reached, LentWrite, wrote}
use Rattle.laws.specs.Clocks.{line_up}
use Rattle.laws.specs.Demand3.{ImageOf, BothArmed, BothAcknowledged}
use Rattle.laws.specs.Loads.{accepts}
use Rattle.laws.specs.PLines.{mmc3 as mmc3_image, ram, load_of, with_rams, calls_of}
use Rattle.laws.specs.SettlesMmc3.{irq_answers, Arming, armed, Accepts, Acknowledges, Settles}
use Rattle.laws.proofs.Demand3.{mmc3_house_histories_settle, mmc3_board_histories_settle}
use Rattle.laws.proofs.Opened.{opened}

-- two histories that meet all this: one without calls, and one that is in the midst of a game; and buffers for both
abbrev pub lent : Lent
lent = with_rams mmc3_image

abbrev pub others : Lent
others = runs.lent mmc3_image (replicate 8192 7) (replicate 8192 9)

pub met_loads : (mode : Mode) → (load_of mode mmc3_image).answer ≡ Ok tt
unfolding opened
met_loads House = refl
met_loads OnBoard = refl

pub met_image : (mode : Mode) → ImageOf Mmc3 mode mmc3_image
unfolding opened all_bytes
met_image House = record { mapper = refl; are_bytes = are_bytes mmc3_image refl }
met_image OnBoard = record { mapper = refl; are_bytes = are_bytes mmc3_image refl }

abbrev pub history : (mode : Mode) → List Call → History mode mmc3_image
history mode cs = record { prg = ram; chr = ram; accepted = met_loads mode; calls = cs }

abbrev pub fresh : (mode : Mode) → History mode mmc3_image
fresh mode = history mode []

abbrev pub used : (mode : Mode) → History mode mmc3_image
used mode =
    history mode
    (calls_of mmc3_image
    (Write 0x8000 0xC0 ∷ Write 0x8001 2 ∷ Write 0x8000 0xC3 ∷ Write 0xC000 9 ∷ Write 0xC001 0 ∷ Write 0xE001 0 ∷ Clock ∷ Clock ∷ Clock ∷ []))

abbrev pub arming : Lent → Arming
arming l =
    record {
      latch = record { lent = l; address = 0xC000; byte = 2 };
      reload = record { lent = l; address = 0xC001; byte = 0 };
      enable = record { lent = l; address = 0xE001; byte = 0 };
    }

pub met_fresh : Accepts (reached (fresh House)) (arming lent)
unfolding opened
met_fresh = record { is_latch = refl; is_reload = refl; is_enable = refl; latch = refl; reload = refl; enable = refl }

pub met_used : Accepts (reached (used House)) (arming others)
unfolding opened
met_used = record { is_latch = refl; is_reload = refl; is_enable = refl; latch = refl; reload = refl; enable = refl }

-- where the game has left its unit
pub met_unit : (mode : Mode) → (reached (used mode)).registers.mmc3.irq ≡ record { enabled = true; latch = 9; counter = 7; reload = false }
unfolding opened
met_unit House = refl
met_unit OnBoard = refl

-- in board mode another game stands with its line up and its RAM locked
abbrev pub risen : (mode : Mode) → History mode mmc3_image
risen mode = history mode (calls_of mmc3_image (Write 0xC000 0 ∷ Write 0xC001 0 ∷ Write 0xE001 0 ∷ Write 0xA001 0x40 ∷ Clock ∷ Write 0xC000 9 ∷ []))

pub met_line : line_up (reached (risen OnBoard)) ≡ true
unfolding opened
met_line = refl

pub met_lock : (reached (risen OnBoard)).registers.mmc3.ram ≡ record { enabled = false; denied = true }
unfolding opened
met_lock = refl

abbrev pub acknowledging : Lent → LentWrite
acknowledging l = record { lent = l; address = 0xE000; byte = 0 }

pub met_fresh_acknowledges : Acknowledges (reached (fresh OnBoard)) (acknowledging lent)
unfolding opened
met_fresh_acknowledges = record { is_acknowledging = refl; accepted = refl }

pub met_risen_acknowledges : Acknowledges (reached (risen OnBoard)) (acknowledging others)
unfolding opened
met_risen_acknowledges = record { is_acknowledging = refl; accepted = refl }

pub met_fresh_accepts : Accepts (wrote (reached (fresh OnBoard)) (acknowledging lent)) (arming lent)
unfolding opened
met_fresh_accepts = record { is_latch = refl; is_reload = refl; is_enable = refl; latch = refl; reload = refl; enable = refl }

pub met_risen_accepts : Accepts (wrote (reached (risen OnBoard)) (acknowledging others)) (arming others)
unfolding opened
met_risen_accepts = record { is_latch = refl; is_reload = refl; is_enable = refl; latch = refl; reload = refl; enable = refl }

-- calls for both: a refused write, a read, a clock, and another latch
abbrev pub calls : Lent → List Call
calls l = call (runs.lent l.image [] l.chr) (Write 0xE000 0) ∷ map (call l) (Read 0x8000 ∷ Clock ∷ Write 0xC000 5 ∷ [])

-- all that demand 3 asks of MMC3, in each mode
pub met_both : BothArmed (fresh House) (used House) (arming lent) (arming others) (calls lent) (calls others)
met_both = record { image = met_image House; first_accepts = met_fresh; second_accepts = met_used; one_latch = refl; then_the_same_calls = refl }

pub met_both_on_board : BothAcknowledged (fresh OnBoard) (risen OnBoard) (acknowledging lent) (acknowledging others) (arming lent) (arming others) (calls lent) (calls others)
met_both_on_board =
    record {
      image = met_image OnBoard;
      first_acknowledges = met_fresh_acknowledges;
      second_acknowledges = met_risen_acknowledges;
      first_accepts = met_fresh_accepts;
      second_accepts = met_risen_accepts;
      one_latch = refl;
      then_the_same_calls = refl;
    }

-- so the two agree
pub met : Settles (armed (reached (fresh House)) (arming lent)) (armed (reached (used House)) (arming others)) (calls lent) (calls others)
met = mmc3_house_histories_settle (fresh House) (used House) (arming lent) (arming others) (calls lent) (calls others) met_both

pub met_on_board : Settles (armed (wrote (reached (fresh OnBoard)) (acknowledging lent)) (arming lent)) (armed (wrote (reached (risen OnBoard)) (acknowledging others)) (arming others)) (calls lent) (calls others)
met_on_board =
    mmc3_board_histories_settle (fresh OnBoard) (risen OnBoard) (acknowledging lent) (acknowledging others) (arming lent) (arming others) (calls lent) (calls others) met_both_on_board

-- what two boards answer to clocks after a run that falls short by one write
abbrev apart : {mode : Mode} → History mode mmc3_image → History mode mmc3_image → List Event → List Event → List ClockAnswer → List ClockAnswer → Type 0
apart x y es ticks first second =
    (irq_answers (after (reached x) (calls_of mmc3_image es)) (calls_of mmc3_image ticks) ≡ first) × (irq_answers (after (reached y) (calls_of mmc3_image es)) (calls_of mmc3_image ticks) ≡ second)

-- no reload mark
pub without_the_reload : apart (fresh House) (used House) (Write 0xC000 2 ∷ Write 0xE001 0 ∷ []) (Clock ∷ []) (Ok true ∷ []) (Ok false ∷ [])
unfolding opened
without_the_reload = (refl, refl)

-- no enable
pub without_the_enable : apart (fresh House) (used House) (Write 0xC000 0 ∷ Write 0xC001 0 ∷ []) (Clock ∷ Clock ∷ []) (Ok false ∷ Ok false ∷ []) (Ok false ∷ Ok true ∷ [])
unfolding opened
without_the_enable = (refl, refl)

-- no latch
pub without_the_latch : apart (fresh House) (used House) (Write 0xC001 0 ∷ Write 0xE001 0 ∷ []) (Clock ∷ Clock ∷ []) (Ok false ∷ Ok true ∷ []) (Ok false ∷ Ok false ∷ [])
unfolding opened
without_the_latch = (refl, refl)

-- in board mode no acknowledging write: the line of one is up
pub without_the_acknowledgement : apart (fresh OnBoard) (risen OnBoard) (Write 0xC000 2 ∷ Write 0xC001 0 ∷ Write 0xE001 0 ∷ []) (Clock ∷ Clock ∷ Clock ∷ []) (Ok false ∷ Ok false ∷ (Ok true) ∷ []) (Ok true ∷ Ok true ∷ (Ok true) ∷ [])
unfolding opened
without_the_acknowledgement = (refl, refl)

-- and with it the two agree, as computed
pub with_the_acknowledgement : apart (fresh OnBoard) (risen OnBoard) (Write 0xE000 0 ∷ Write 0xC000 2 ∷ Write 0xC001 0 ∷ Write 0xE001 0 ∷ []) (Clock ∷ Clock ∷ Clock ∷ []) (Ok false ∷ Ok false ∷ (Ok true) ∷ []) (Ok false ∷ Ok false ∷ (Ok true) ∷ [])
unfolding opened
with_the_acknowledgement = (refl, refl)

-- the acknowledging write after latch 1, reload, enable and clock is refused on both in house mode
pub refused_on_both : (accepts (after (reached (fresh House)) (calls_of mmc3_image (Write 0xC000 1 ∷ Write 0xC001 0 ∷ Write 0xE001 0 ∷ Clock ∷ []))) lent 0xE000 ≡ false)
    × (accepts (after (reached (used House)) (calls_of mmc3_image (Write 0xC000 1 ∷ Write 0xC001 0 ∷ Write 0xE001 0 ∷ Clock ∷ []))) lent 0xE000 ≡ false)
unfolding opened
refused_on_both = (refl, refl)
