-- The mark, then the number. Assumes nothing.
use Rattle.traces.specs.Text.{refusal}
use Rattle.traces.proofs.Laid.{join, named}
use Rattle.traces.proofs.Text.put_refusal.Goals as goal

pub returns : goal.returns
unfolding refusal
returns c = named (cc) (join c.put.ensures c.put_decimal.ensures)
