-- After i turns the first i bytes are put. Assumes nothing.
use Rattle.traces.proofs.Laid.{put_none, put_more}
use Rattle.traces.proofs.Text.put_all.Goals as goal

pub loop-byte-init : goal.loop-byte-init
loop-byte-init c = put_none _

pub loop-byte-preserved : goal.loop-byte-preserved
loop-byte-preserved c =
    put_more c.args.bytes.now c.loop-byte.byte-index c.loop-byte-test.true c.loop-byte.invariant c.put.ensures
