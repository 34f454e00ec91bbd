-- The board beside a refused load is out of range, since no load takes a PRG count of 0. Assumes nothing.
use mathlib.Core.Path.{◌≡◌, refl}
use mathlib.Core.Bool.{false}
use Rattle.cartridge.specs.Load.{bad_prg, could_load}
use Rattle.boards.specs.Start.{start_of, no_board}
use Rattle.boards.specs.Range.{in_range}

pub no_board_is_out_of_range : in_range no_board ≡ false
unfolding in_range no_board start_of could_load bad_prg
no_board_is_out_of_range = refl
