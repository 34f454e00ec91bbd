-- A malformed trace is refused; any other is run. Assumes nothing.
use Rattle.std.proofs.Common.{refl, sym, ◌∙◌, rules}
use Rattle.traces.proofs.Lengths.{most}
use Rattle.traces.proofs.Whole.{accepted, malformed, owed}
use Rattle.traces.proofs.run.Goals as goal
use Rattle.traces.proofs.run.Goals.{then-is_trace, else-is_trace}

pub returns : goal.returns
returns c =
    let a = c.args in
    let short = most a.trace.now a.prg.now a.chr.now in
    elim c.if-is_trace.branch [
      | then-is_trace w ↦
          rw (w.out-is, w.prg-is, w.chr-is)
          (owed (accepted a.trace.now a.prg.now a.chr.now (sym c.is_trace.ensures ∙ w.if-is_trace.true) w.run_trace.ensures) short refl refl (search rules))
      | else-is_trace w ↦
          rw (w.out-is, w.prg-is, w.chr-is)
          (owed (malformed a.trace.now (sym c.is_trace.ensures ∙ w.if-is_trace.false) w.put_refused.ensures) short refl refl (search rules))
    ]
