-- The level of the line, as an author asks of it: low at load, in house mode and on other boards; a clock raises it, an acknowledging write lowers it, and nothing else
-- moves it. Assumes nothing.
use Rattle.std.specs.Prelude.{Ok}
use Prim.Native.Nat.{ℕ}
use mathlib.Core.Path.{◌≡◌, refl, sym, ap, ◌∙◌}
use mathlib.Core.Bool.{Bool, true, false, false≢true, ◌||◌}
use mathlib.Core.List.{List}
use native.Mathlib.Omega.{arith}
use Rattle.common.specs.declared.Mode.{Mode}
use Rattle.common.specs.declared.Mode.TheVariants.{House, Board as OnBoard}
use Rattle.cartridge.specs.Mappers.{is_mapper}
use Rattle.cartridge.specs.declared.MapperType.TheVariants.{Mmc3}
use Rattle.mmc3.specs.Clock.{with_irq, line_after, board_clock, clock_in, clocked}
use Rattle.mmc3.specs.Write.{applied}
use Rattle.mmc3.specs.declared.Irq.{Irq}
use Rattle.mmc3.specs.declared.Mmc3 as mmc3-type
use Rattle.mmc3.specs.declared.Move.{Move}
use Rattle.mmc3.specs.declared.Move.TheVariants.{Disable}
use Rattle.boards.specs.Range.{in_range}
use Rattle.boards.specs.Clock.{yes_no, clock}
use Rattle.boards.specs.Runs.{Call, after}
use Rattle.boards.specs.declared.Board.{Board}
use Rattle.laws.specs.Calls.{load_with, LentWrite, wrote}
use Rattle.laws.specs.Clocks.{Plays, is_yes, line_up}
use Rattle.laws.specs.Deeds.{Deed, NoneAmong}
use Rattle.laws.specs.Deeds.Deed.{rests, writes, clocks}
use Rattle.laws.specs.SettlesMmc3.{Acknowledges}
use Rattle.laws.proofs.Arming.{acknowledged}
use Rattle.laws.proofs.Clocks.{clock_keeps}
use Rattle.laws.proofs.Deeds.{mmc3_after, stays, plays_after}
use Rattle.laws.proofs.Idle.{idle_at_load, idle_in_house_mode, idle_on_other_boards}
use Rattle.laws.proofs.OneImage.{wrote_one}
use Rattle.laws.proofs.PublicClocks.{itself, plays_on, plays_ticked, yes_no_lem, level_said, level_after}

-- "The line is low at load"
pub low_at_load : (mode : Mode) (s prg chr : List ℕ) → line_up (load_with mode s prg chr).left ≡ false
low_at_load mode s prg chr = (idle_at_load mode s prg chr).low

-- "and always low in house mode"
pub low_in_house_mode : (b : Board) → b.cart.mode ≡ House → in_range b ≡ true → line_up b ≡ false
low_in_house_mode b e h = (idle_in_house_mode b e h).low

-- "and on other boards"
pub low_on_other_boards : (b : Board) → is_mapper b.cart.mapper Mmc3 ≡ false → in_range b ≡ true → line_up b ≡ false
low_on_other_boards b e h = (idle_on_other_boards b e h).low

-- of the line and the enable a move leaves both, sets the second, or clears both
by_move : (P : Bool → Bool → Type 0) (mode : Mode) (k : Move) (m : mmc3-type.Mmc3) → P m.line m.irq.enabled → P m.line true → (k ≡ Disable → P false false)
    → P (applied mode k m).line (applied mode k m).irq.enabled
unfolding applied with_irq
by_move P mode k m left set cleared = grind arith

-- of the writes "an even write to E000-FFFF" alone touches it
pub other_moves_leave_it : (mode : Mode) (k : Move) (m : mmc3-type.Mmc3) → (k ≡ Disable → ⊥) → (applied mode k m).line ≡ m.line
other_moves_leave_it mode k m other = by_move (λ (line enabled : Bool). line ≡ m.line) mode k m refl refl (λ e. absurd (other e))

up_stays : (d : Deed) (m : mmc3-type.Mmc3) → (d ≡ writes Disable → ⊥) → m.line ≡ true → (mmc3_after OnBoard d m).line ≡ true
unfolding clocked line_after
up_stays rests m other h = h
up_stays (writes k) m other h = other_moves_leave_it OnBoard k m (λ e. other (ap writes e)) ∙ h
up_stays clocks m other h = rw h refl

low_stays : (mode : Mode) (d : Deed) (m : mmc3-type.Mmc3) → (d ≡ clocks → ⊥) → m.line ≡ false → (mmc3_after mode d m).line ≡ false
low_stays mode rests m other h = h
low_stays mode (writes k) m other h = by_move (λ (line enabled : Bool). line ≡ false) mode k m h h (λ e. refl)
low_stays mode clocks m other h = absurd (other refl)

-- calls with no clock among them leave a low line low
pub only_a_clock_raises : (mode : Mode) (b : Board) → Plays mode b → (cs : List Call) → NoneAmong b cs clocks → line_up b ≡ false → line_up (after b cs) ≡ false
only_a_clock_raises mode b p cs none low = stays (λ (m : mmc3-type.Mmc3). m.line ≡ false) (λ (d : Deed). d ≡ clocks → ⊥) (low_stays mode) b p low cs none

-- "the line, once raised, stays raised until an even write to E000-FFFF": without one among any calls the level never falls
pub the_level_never_falls : (b : Board) → Plays OnBoard b → (cs : List Call) → NoneAmong b cs (writes Disable) → line_up b ≡ true → line_up (after b cs) ≡ true
the_level_never_falls b p cs none up = stays (λ (m : mmc3-type.Mmc3). m.line ≡ true) (λ (d : Deed). d ≡ writes Disable → ⊥) up_stays b p up cs none

said_up : (b : Board) → Plays OnBoard b → line_up b ≡ true → (clock b).answer ≡ Ok true
unfolding yes_no
said_up b p up = level_said p ∙ ap yes_no (level_after p ∙ ap (λ (t : Bool). t || (board_clock b.registers.mmc3.irq).answer) up)

-- so once a clock has answered yes every later one does, until such a write
pub the_answer_never_falls : (b : Board) → Plays OnBoard b → (clock b).answer ≡ Ok true → (cs : List Call) → NoneAmong (clock b).left cs (writes Disable)
    → (clock (after (clock b).left cs)).answer ≡ Ok true
the_answer_never_falls b p said cs none =
    let up = sym (yes_no_lem (line_up (clock b).left)) ∙ ap is_yes (sym (level_said p) ∙ said) in
    let q = plays_ticked p 1 in
    said_up (after (clock b).left cs) (plays_after q cs) (the_level_never_falls (clock b).left q cs none up)

-- "an even write to E000-FFFF, which lowers it and disables"
pub lowered_and_disabled : (mode : Mode) (b : Board) → Plays mode b → (w : LentWrite) → Acknowledges b w
    → (line_up (wrote b w) ≡ false) × ((wrote b w).registers.mmc3.irq.enabled ≡ false)
lowered_and_disabled mode b p w a = acknowledged b p.is_mmc3 w a

-- so the next answer is what the unit says, whatever the line was and whatever calls but a clock come between
pub then_the_unit_alone : (b : Board) → Plays OnBoard b → (w : LentWrite) → Acknowledges b w → (cs : List Call) → NoneAmong (wrote b w) cs clocks
    → let d = after (wrote b w) cs in (clock d).answer ≡ yes_no (board_clock d.registers.mmc3.irq).answer
then_the_unit_alone b p w a cs none =
    let d = after (wrote b w) cs in
    let q = plays_on p (wrote_one (itself p) w) in
    let low = only_a_clock_raises OnBoard (wrote b w) q cs none (acknowledged b p.is_mmc3 w a).0 in
    level_said (plays_after q cs)
    ∙ ap yes_no (level_after (plays_after q cs) ∙ ap (λ (t : Bool). t || (board_clock d.registers.mmc3.irq).answer) low)

-- IRQ is enabled while the line is up
abbrev EnabledIfUp : mmc3-type.Mmc3 → Type 0
EnabledIfUp m = m.line ≡ true → m.irq.enabled ≡ true

clock_enabled : (mode : Mode) (m : mmc3-type.Mmc3) → EnabledIfUp m → EnabledIfUp (clocked mode m).left
unfolding clocked with_irq line_after clock_in board_clock
clock_enabled House m h up = clock_keeps (λ (u : Irq). u.enabled ≡ true) House m.irq (λ c. h up)
clock_enabled OnBoard m h up = grind arith

stays_enabled : (mode : Mode) (d : Deed) (m : mmc3-type.Mmc3) → Unit {0} → EnabledIfUp m → EnabledIfUp (mmc3_after mode d m)
stays_enabled mode rests m any h = h
stays_enabled mode (writes k) m any h =
    by_move (λ (line enabled : Bool). line ≡ true → enabled ≡ true) mode k m h (λ up. refl) (λ e up. absurd (false≢true up))
stays_enabled mode clocks m any h = clock_enabled mode m h

-- no calls lead from a low line to one that is up with IRQ disabled (such a board is in range, `LineRows`): a clock raises it only where IRQ is enabled, and what
-- disables also lowers
pub up_only_while_enabled : (mode : Mode) (b : Board) → Plays mode b → line_up b ≡ false → (cs : List Call) → line_up (after b cs) ≡ true
    → (after b cs).registers.mmc3.irq.enabled ≡ true
up_only_while_enabled mode b p low cs =
    stays EnabledIfUp (λ (d : Deed). Unit {0}) (stays_enabled mode) b p (λ up. absurd (false≢true (sym low ∙ up))) cs (λ j. tt)
