-- Each field at its start.
use Rattle.std.proofs.Common.{rules, ◌∙◌}
use Rattle.mmc3.specs.Range.{start}
use Rattle.mmc3.proofs.Starts.{at_start}
use Rattle.mmc3.proofs.Mmc3.is_start.Goals as goal

pub returns : goal.returns
unfolding start
returns c = c.eq.ensures ∙ rw c.new.ensures (at_start c.args.self (search rules))
