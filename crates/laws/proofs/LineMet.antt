-- Runs that meet what `the_answer_never_falls` and `then_the_unit_alone` ask, each computed. Assumes nothing.
use Rattle.std.specs.Prelude.{Ok, true, false}
use Prim.Native.Nat.{ℕ, zero, suc}
use mathlib.Core.Path.{◌≡◌, refl, sym, ap, ◌∙◌}
use mathlib.Core.List.{List, [], ◌∷◌}
use lib.ListN.{get_or}
use Rattle.common.specs.declared.Mode.TheVariants.{Board as OnBoard}
use Rattle.mmc3.specs.Clock.{board_clock}
use Rattle.mmc3.specs.declared.Move.TheVariants.{Latch, Enable, Disable}
use Rattle.boards.specs.Clock.{yes_no, clock}
use Rattle.boards.specs.Runs.{Call, after}
use Rattle.boards.specs.declared.Board.{Board}
use Rattle.boards.specs.declared.Event.TheVariants.{Write, Clock}
use Rattle.laws.specs.Calls.{reached, wrote}
use Rattle.laws.specs.Clocks.{Plays}
use Rattle.laws.specs.Deeds.{Deed, deeds, NoneAmong}
use Rattle.laws.specs.Deeds.Deed.{rests, writes, clocks}
use Rattle.laws.specs.PLines.{mmc3 as mmc3_image, calls_of}
use Rattle.laws.proofs.Line.{the_answer_never_falls, then_the_unit_alone}
use Rattle.laws.proofs.Opened.{opened}
use Rattle.laws.proofs.SettlesMmc3Met.{history, risen, others, acknowledging, met_risen_acknowledges}

-- latch 0, reload and enable written: the next clock raises the line
abbrev armed : Board
armed = reached (history OnBoard (calls_of mmc3_image (Write 0xC000 0 ∷ Write 0xC001 0 ∷ Write 0xE001 0 ∷ [])))

plays : Plays OnBoard armed
unfolding opened
plays = record { in_mode = refl; is_mmc3 = refl; is_in_range = refl }

raised : (clock armed).answer ≡ Ok true
unfolding opened
raised = refl

-- after it an odd write, latch 9, and a clock that reloads the counter
abbrev later : List Call
later = calls_of mmc3_image (Write 0xE001 0 ∷ Write 0xC000 9 ∷ Clock ∷ [])

done : deeds (clock armed).left later ≡ writes Enable ∷ writes (Latch 9) ∷ clocks ∷ []
unfolding opened
done = refl

no_disable : (j : ℕ) → get_or (writes Enable ∷ writes (Latch 9) ∷ clocks ∷ []) j rests ≡ writes Disable → ⊥
no_disable zero e = cc
no_disable (suc zero) e = cc
no_disable (suc (suc zero)) e = cc
no_disable (suc (suc (suc j))) e = cc

none : NoneAmong (clock armed).left later (writes Disable)
none j e = no_disable j (ap (λ (ds : List Deed). get_or ds j rests) (sym done) ∙ e)

-- so the next clock answers yes, at which the counter goes from 9 to 8
pub met_never_falls : (clock (after (clock armed).left later)).answer ≡ Ok true
met_never_falls = the_answer_never_falls armed plays raised later none

pub met_counter : (after (clock armed).left later).registers.mmc3.irq.counter ≡ 9
unfolding opened
met_counter = refl

-- a board whose line is up: acknowledged, then enabled again by an odd write
plays_risen : Plays OnBoard (reached (risen OnBoard))
unfolding opened
plays_risen = record { in_mode = refl; is_mmc3 = refl; is_in_range = refl }

abbrev lowered : Board
lowered = wrote (reached (risen OnBoard)) (acknowledging others)

abbrev again : List Call
again = calls_of mmc3_image (Write 0xE001 0 ∷ [])

enabled_again : deeds lowered again ≡ writes Enable ∷ []
unfolding opened
enabled_again = refl

no_clock : (j : ℕ) → get_or (writes Enable ∷ []) j rests ≡ clocks → ⊥
no_clock zero e = cc
no_clock (suc j) e = cc

-- its next answer is the unit's, and that is no: the counter, which was 0, is reloaded with 9
pub met_unit_alone : (clock (after lowered again)).answer ≡ yes_no (board_clock (after lowered again).registers.mmc3.irq).answer
met_unit_alone =
    then_the_unit_alone (reached (risen OnBoard)) plays_risen (acknowledging others) met_risen_acknowledges again
    (λ j e. no_clock j (ap (λ (ds : List Deed). get_or ds j rests) (sym enabled_again) ∙ e))

pub met_no : (clock (after lowered again)).answer ≡ Ok false
unfolding opened
met_no = refl
