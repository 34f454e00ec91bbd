-- Where it is read, if that is RAM.
use Rattle.std.proofs.Common.{◌∙◌, ap}
use Rattle.places.specs.Steps.{if_chr_ram}
use Rattle.places.proofs.Windows.{lands_in_ram}
use Rattle.mmc3.proofs.Mmc3.board_write_chr.Goals as goal

pub returns : goal.returns
returns c = c.if_chr_ram.ensures ∙ ap (if_chr_ram c.args.cart) c.read_chr.ensures ∙ lands_in_ram c.args.cart _ c.args.address
