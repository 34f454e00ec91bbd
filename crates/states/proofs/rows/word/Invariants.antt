use Rattle.states.proofs.RowSteps.{Summed}
use Rattle.states.proofs.rows.word.Given as goal

abbrev pub invariant-loop-i : goal.invariant-loop-i
invariant-loop-i g l = Summed l.sizes l.digits l.i l.word l.place
