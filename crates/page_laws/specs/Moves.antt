-- The parts of the pages that a call moves.
use Rattle.std.specs.Prelude.{false}
use Rattle.boards.specs.declared.Board.{Board}
use Rattle.pages.specs.Parts.{parts_moved}
use Rattle.pages.specs.declared.Parts.{Parts}

-- the parts that a call has moved, from the board before it to the board after it
abbrev pub moved_parts : Board → Board → Parts
moved_parts b d = parts_moved b.cart.mapper b.registers d.registers

-- a call that has moved no part
abbrev pub unmoved : Parts
unmoved = record { chr = false; prg = false; ram = false }
