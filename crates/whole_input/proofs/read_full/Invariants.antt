-- What came is within the room.
use Rattle.std.proofs.Common.{◌≤◌, length}
use Rattle.whole_input.proofs.read_full.Given as goal

abbrev pub invariant-loop : goal.invariant-loop
invariant-loop g l = l.n ≤ length l.room
