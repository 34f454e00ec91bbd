-- What `all` answers of the range is what the definition says. Assumes nothing.
use Rattle.std.proofs.Common.{◌∙◌, refl, rules, tests, arith}
use Rattle.std.proofs.lemmas.Iterator.{YieldsList-from_range}
use Rattle.std.proofs.lemmas.Iterator.Search.{all_from_yields_List}
use Rattle.traces.specs.Format.{fits_at}
use Rattle.traces.specs.Steps.{event_in}
use Rattle.traces.proofs.Fits.{all_fit}
use Rattle.traces.proofs.events_fit.Goals as goal

pub returns : goal.returns
unfolding event_in
returns c =
    all_from_yields_List (fits_at c.args.trace.now) _ _ _ c.all.ensures.ran (YieldsList-from_range 0 c.args.count c.args.count refl (omega arith)) (λ x b q k. search (rules, tests))
    ∙ all_fit c.args.trace.now c.args.count
