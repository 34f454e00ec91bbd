-- MMC3: the interrupt unit and its clock, and the line that the real board's unit raises. "M-101" is that request of document 02.
use Rattle.std.specs.Prelude.{ℕ, ◌-◌, Bool, false, cond, ◌&&◌, ◌||◌, ltb, eqb}
use Rattle.common.specs.declared.Outcome.{Outcome}
use Rattle.common.specs.declared.Mode.{Mode}
use Rattle.common.specs.declared.Mode.TheVariants.{House, Board}
use Rattle.mmc3.specs.declared.Irq.{Irq}
use Rattle.mmc3.specs.declared.Mmc3.{Mmc3}

-- the unit after a clock, and whether it raises the line; in house mode, whether an interrupt comes
abbrev pub Clocked : Type 0
Clocked = Outcome Irq Bool

-- the board after a clock, and its answer
abbrev pub Ticked : Type 0
Ticked = Outcome Mmc3 Bool

-- the unit with a new counter and the mark cleared, and an answer
abbrev pub at : Irq → ℕ → Bool → Clocked
at i n answer = record { left = record { enabled = i.enabled; latch = i.latch; counter = n; reload = false }; answer = answer }

-- house: "With the reload mark: counter becomes the latch, mark cleared, answer no. Else at counter 0: counter becomes the latch, answer is `enabled`. Else count down, answer no"
unfoldable pub house_clock : Irq → Clocked
house_clock i =
    cond i.reload (at i i.latch false)
    (cond (eqb i.counter 0) (at i i.latch i.enabled)
    (at i (i.counter - 1) false))

-- board: "with the mark or at 0, counter becomes the latch and the mark clears, else count down"
unfoldable pub next_counter : Irq → ℕ
next_counter i = cond i.reload i.latch (cond (eqb i.counter 0) i.latch (i.counter - 1))

-- board: "then yes exactly when the counter is 0 and IRQ enabled"; since M-101 that yes is the unit's, and raises the line
unfoldable pub board_clock : Irq → Clocked
board_clock i = at i (next_counter i) (i.enabled && eqb (next_counter i) 0)

-- the clock of the unit in each mode
unfoldable pub clock_in : Mode → Irq → Clocked
clock_in House i = house_clock i
clock_in Board i = board_clock i

-- a board with another interrupt unit, its line and its marks as they were
unfoldable pub with_irq : Mmc3 → Irq → Mmc3
with_irq m i = record { select = m.select; prgmode = m.prgmode; chrmode = m.chrmode; regs = m.regs; irq = i; line = m.line; ram = m.ram }

-- a board with its line at another level
abbrev pub with_line : Mmc3 → Bool → Mmc3
with_line m level = record { select = m.select; prgmode = m.prgmode; chrmode = m.chrmode; regs = m.regs; irq = m.irq; line = level; ram = m.ram }

-- the line after a clock whose unit raised it or did not; house: as it was, "always low in house mode"; board, M-101: "the line, once raised, stays raised"
unfoldable pub line_after : Mode → Bool → Bool → Bool
line_after House line raised = line
line_after Board line raised = line || raised

-- what a clock that leaves this level answers; house: what its unit says; board, M-101: "From now on a board clock answers the level of the line"
unfoldable pub clock_answer : Mode → Bool → Bool → Bool
clock_answer House level raised = raised
clock_answer Board level raised = level

-- a clock of the board: of its unit, and of the line by what the unit says
unfoldable pub clocked : Mode → Mmc3 → Ticked
clocked mode m =
    let c = clock_in mode m.irq in
    let level = line_after mode m.line c.answer in
    record { left = with_line (with_irq m c.left) level; answer = clock_answer mode level c.answer }

-- refusal 14: "IRQ enabled, counter 0 or 1"
abbrev pub is_pending : Irq → Bool
is_pending i = i.enabled && ltb i.counter 2
