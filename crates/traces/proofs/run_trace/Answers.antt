-- The load, then what follows from its answer. Assumes nothing.
use Rattle.std.proofs.Common.{rules}
use Rattle.boards.specs.Start.{load_answer, board_of}
use Rattle.traces.specs.Run.{loaded_run}
use Rattle.traces.proofs.Whole.{whole, ended, from_load}
use Rattle.traces.proofs.run_trace.Goals as goal

pub returns-in-Ok : goal.returns-in-Ok
unfolding loaded_run load_answer board_of
returns-in-Ok c =
    from_load c.args.trace.now c.image_of-image.ensures c.mode_of.ensures c.load.ensures
    (rw (c.in-Ok.is, ← c.image_of-image.ensures) (whole c.put_loaded.ensures c.play_all.ensures (search rules) (search rules)))

pub returns-in-Err : goal.returns-in-Err
unfolding loaded_run load_answer board_of
returns-in-Err c =
    from_load c.args.trace.now c.image_of-image.ensures c.mode_of.ensures c.load.ensures
    (rw c.in-Err.is (ended c.in-Err.why c.put_refused.ensures))
