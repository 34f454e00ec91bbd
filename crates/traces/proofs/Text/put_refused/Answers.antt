-- The parts of the line, one after the other. Assumes nothing.
use Rattle.traces.specs.Text.{refused_line}
use Rattle.traces.proofs.Laid.{join, named}
use Rattle.traces.proofs.Text.put_refused.Goals as goal

pub returns : goal.returns
unfolding refused_line
returns c = named (cc) (join c.put_all.ensures (join c.put_decimal.ensures c.put.ensures))
