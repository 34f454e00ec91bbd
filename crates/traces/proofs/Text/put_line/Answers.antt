-- The parts of the line, one after the other. Assumes nothing.
use Rattle.traces.specs.Text.{line}
use Rattle.traces.proofs.Laid.{join, named}
use Rattle.traces.proofs.Text.put_line.Goals as goal

pub returns : goal.returns
unfolding line
returns c = named (cc) (join c.put_decimal.ensures (join c.put_between.ensures (join c.put_answer.ensures c.put.ensures)))
