-- The parts of the line, one after the other. Assumes nothing.
use Rattle.traces.specs.Text.{counts}
use Rattle.traces.proofs.Laid.{join, named}
use Rattle.traces.proofs.Text.put_counts.Goals as goal

pub returns : goal.returns
unfolding counts
returns c = named (cc) (join c.put_decimal.ensures (join c.put.ensures (join c.put_decimal-2.ensures c.put-2.ensures)))
