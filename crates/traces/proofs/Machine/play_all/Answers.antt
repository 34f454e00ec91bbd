-- An event that is there is played; each is there. Assumes nothing.
use Rattle.std.proofs.Common.{◌≡◌, Some, ◌∙◌, arith}
use Rattle.traces.specs.Format.{event_at}
use Rattle.traces.specs.Steps.{event_in}
use Rattle.traces.proofs.Turns.{is_there, no_turn, next_turn}
use Rattle.traces.proofs.Machine.play_all.Goals as goal
use Rattle.traces.proofs.Machine.play_all.Goals.{in-Some, in_default}

pub loop-i-init : goal.loop-i-init
loop-i-init c = no_turn _ _ _

pub loop-i-preserved : goal.loop-i-preserved
loop-i-preserved c =
    let t = c.args.trace.now in
    let there : event_in t c.loop-i.i ≡ Some (event_at t c.loop-i.i) = is_there t c.requires _ (omega arith) in
    elim c.match-event_in.branch [
      | in-Some w ↦ rw (w.self-is, w.text-is) (next_turn (cc) c.loop-i.invariant w.play-answer.ensures w.put_line.ensures)
      | in_default w ↦ absurd (w.in_default.not-Some _ (c.event_in.ensures ∙ there))
    ]
