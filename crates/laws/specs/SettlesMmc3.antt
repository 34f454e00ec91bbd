-- Demand 3, MMC3: two boards of one image and mode that accept the same latch, reload, enable and clock, in board mode after an acknowledging write, agree on every IRQ
-- answer from that clock on.
use Rattle.std.specs.Prelude.{ℕ, ◌≡◌, true, List, [], ◌∷◌}
use Rattle.mmc3.specs.Write.{move_of}
use Rattle.mmc3.specs.declared.Move.TheVariants.{Latch, Reload, Enable, Disable}
use Rattle.boards.specs.Clock.{clock}
use Rattle.boards.specs.Runs.{Lent, Call, call, after, answers}
use Rattle.boards.specs.declared.Board.{Board}
use Rattle.boards.specs.declared.Event.TheVariants.{Clock}
use Rattle.boards.specs.declared.Answer.{Answer}
use Rattle.boards.specs.declared.Answer.TheVariants.{Read as toRead, Write as toWrite, Clock as toClock}
use Rattle.boards.specs.Clock.{ClockAnswer}
use Rattle.laws.specs.Calls.{LentWrite, wrote, wiped_lent}
use Rattle.laws.specs.Clocks.{line_up}
use Rattle.laws.specs.Loads.{accepts}

-- the IRQ answers, which are those of clocks, among answers
abbrev pub clocks_among : List Answer → List ClockAnswer
clocks_among [] = []
clocks_among (toRead r ∷ rs) = clocks_among rs
clocks_among (toWrite r ∷ rs) = clocks_among rs
clocks_among (toClock r ∷ rs) = r ∷ clocks_among rs

-- the IRQ answers of a list of calls
abbrev pub irq_answers : Board → List Call → List ClockAnswer
irq_answers b cs = clocks_among (answers b cs)

-- the three writes, straight after one another
pub record Arming : Type 0 where
  pub latch : LentWrite
  pub reload : LentWrite
  pub enable : LentWrite

-- the board after the first of the three
abbrev pub latched : Board → Arming → Board
latched b w = wrote b w.latch

-- the board after the second of the three
abbrev pub reloaded : Board → Arming → Board
reloaded b w = wrote (latched b w) w.reload

-- the board after all three
abbrev pub armed : Board → Arming → Board
armed b w = wrote (reloaded b w) w.enable

-- they go to the latch, the reload mark and the enable, and the board accepts each; the clock has no line: a clock of a board in range is never refused
pub record Accepts (b : Board) (w : Arming) : Type 0 where
  pub is_latch : move_of w.latch.byte w.latch.address ≡ Latch w.latch.byte
  pub is_reload : move_of w.reload.byte w.reload.address ≡ Reload
  pub is_enable : move_of w.enable.byte w.enable.address ≡ Enable
  pub latch : accepts b w.latch.lent w.latch.address ≡ true
  pub reload : accepts (latched b w) w.reload.lent w.reload.address ≡ true
  pub enable : accepts (reloaded b w) w.enable.lent w.enable.address ≡ true

-- board mode, M-101: the sequence "begins with an even write to E000-FFFF, accepted like the rest"
pub record Acknowledges (b : Board) (w : LentWrite) : Type 0 where
  pub is_acknowledging : move_of w.byte w.address ≡ Disable
  pub accepted : accepts b w.lent w.address ≡ true

-- what demand 3 says of two boards that accepted the three writes, of the clock straight after them and of the calls that they get then
pub record Settles (b d : Board) (cs ds : List Call) : Type 0 where
  -- "agree on every IRQ answer from that clock on"
  pub irq_answers_agree : (l k : Lent) → irq_answers b (call l Clock ∷ cs) ≡ irq_answers d (call k Clock ∷ ds)
  -- so too on the level, where it is asked without a clock
  pub levels_agree : line_up (after (clock b).left cs) ≡ line_up (after (clock d).left ds)
  -- a later write, so too the acknowledging one (14), is refused on both or on neither
  pub both_refuse_or_neither : (l k : Lent) → wiped_lent l ≡ wiped_lent k → (a : ℕ) → accepts (after (clock b).left cs) l a ≡ accepts (after (clock d).left ds) k a
