-- The public clock.
use Rattle.std.specs.Prelude.{Bool, cond, Result, Ok, Err}
use Rattle.common.specs.Answers.{no}
use Rattle.common.specs.declared.Outcome.{Outcome}
use Rattle.common.specs.declared.Refusal.{Refusal}
use Rattle.boards.specs.Registers.{ticked}
use Rattle.boards.specs.Range.{in_range}
use Rattle.boards.specs.Write.{with_registers}
use Rattle.boards.specs.declared.Board.{Board}

-- what a clock answers: yes or no, or its refusal
abbrev pub ClockAnswer : Type 0
ClockAnswer = Result Bool Refusal

-- the next board, and the answer
abbrev pub Clocked : Type 0
Clocked = Outcome Board ClockAnswer

-- a clock's answer, as the trace prints 1 and 0
unfoldable pub yes_no : Bool → ClockAnswer
yes_no says = Ok says

-- what a clock of a board in range leaves and answers
unfoldable pub accepted_clock : Board → Clocked
accepted_clock b =
    let t = ticked b.cart.mapper b.cart.mode b.registers in
    record { left = with_registers b t.left; answer = yes_no t.answer }

-- the clock of a board that has been judged: 10 unless it may be served, and no other refusal
abbrev pub clock_if : Bool → Board → Clocked
clock_if state b = cond state (accepted_clock b) (record { left = b; answer = Err (no 10) })

-- the clock: served exactly where the board is in range
unfoldable pub clock : Board → Clocked
clock b = clock_if (in_range b) b
