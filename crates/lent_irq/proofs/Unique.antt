-- A clock of a lent unit has one outcome: the promise gives the answer and the unit at exit each as an equation. Assumes nothing.
use mathlib.Core.Path.{◌≡◌, ◌∙◌, sym}
use mathlib.Core.Bool.{Bool}
use Rattle.common.specs.declared.Mode.{Mode}
use Rattle.mmc3.specs.declared.Irq.{Irq}
use Rattle.lent_irq.specs.Lent.{ClockOwes}

module _ (mode : Mode) (before : Irq) (r r' : Bool) (after after' : Irq) (p : ClockOwes mode before r after) (q : ClockOwes mode before r' after') where
  pub one_reply : r ≡ r'
  one_reply = p.reply ∙ sym q.reply

  pub one_unit : after ≡ after'
  one_unit = p.unit ∙ sym q.unit
