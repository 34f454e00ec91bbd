use Rattle.states.proofs.RowSteps.{Read}
use Rattle.states.proofs.rows.digits.Given as goal

abbrev pub invariant-loop-i : goal.invariant-loop-i
invariant-loop-i g l = Read l.sizes l.digits l.i l.rest l.word
