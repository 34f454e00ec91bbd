-- Where it is read, if that is RAM.
use Rattle.std.proofs.Common.{◌∙◌, ap}
use Rattle.places.specs.Windows.{lands_in}
use Rattle.places.specs.Windows.Window.{Chr8K}
use Rattle.places.specs.Steps.{if_chr_ram}
use Rattle.places.proofs.Windows.{lands_in_ram}
use Rattle.places.proofs.board_chr_8k.Goals as goal

pub returns : goal.returns
unfolding lands_in
returns c = c.if_chr_ram.ensures ∙ ap (if_chr_ram c.args.cart) c.chr_bank.ensures ∙ lands_in_ram c.args.cart (Chr8K c.args.bank.0) c.args.address
