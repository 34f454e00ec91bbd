-- What the callees promise, together. Assumes nothing.
use Rattle.boards.specs.Range.{mirroring_fits, in_range}
use Rattle.boards.proofs.Screens.{by_two_tests}
use Rattle.boards.proofs.Board.in_range.Goals as goal

pub returns : goal.returns
unfolding in_range mirroring_fits
returns c = simp (c.screens_fit.ensures, by_two_tests, c.fits.ensures, c.could_load.ensures)
