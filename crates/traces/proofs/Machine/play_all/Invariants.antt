-- After i turns the first i events are played, and their lines are put. Assumes nothing.
use Rattle.traces.specs.Steps.{EventsOwe}
use Rattle.traces.proofs.Machine.play_all.Given as goal

abbrev pub invariant-loop-i : goal.invariant-loop-i
invariant-loop-i l = EventsOwe l.trace l.i l.initial.self l.initial.text l.self l.text
