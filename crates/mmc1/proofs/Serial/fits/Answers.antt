-- A multiple of 2^(5 - count) is what leaves the five bits.
use Rattle.mmc1.specs.Range.{serial_fits}
use Rattle.mmc1.proofs.Multiples.{moved_up}
use Rattle.mmc1.proofs.Serial.fits.Goals as goal

pub returns : goal.returns
unfolding serial_fits
returns c = moved_up c.args.self.count c.args.self.value
