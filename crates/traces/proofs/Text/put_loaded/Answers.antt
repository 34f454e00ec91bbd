-- The parts of the line, one after the other. Assumes nothing.
use Rattle.traces.specs.Text.{load_line}
use Rattle.traces.proofs.Laid.{join, named}
use Rattle.traces.proofs.Text.put_loaded.Goals as goal

pub returns : goal.returns
unfolding load_line
returns c = named (cc) (join c.put_all.ensures (join c.put_decimal.ensures (join c.put_between.ensures c.put_counts.ensures)))
