-- After i turns the first i bytes are put.
use Rattle.std.proofs.Common.{take}
use Rattle.traces.specs.Steps.{Puts}
use Rattle.traces.proofs.Text.put_all.Given as goal

abbrev pub invariant-loop-byte : goal.invariant-loop-byte
invariant-loop-byte l = Puts (take l.byte-index l.bytes) l.initial.self l.self
