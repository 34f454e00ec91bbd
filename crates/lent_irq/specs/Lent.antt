-- What a clock of a lent interrupt unit owes its owner: the answer of the clock by value, and in place of the unit the one that it hands back.
use Rattle.std.specs.Prelude.{◌≡◌, Bool}
use Rattle.common.specs.declared.Mode.{Mode}
use Rattle.mmc3.specs.declared.Irq.{Irq}
use Rattle.mmc3.specs.Clock.{clock_in}

-- "MMC3's IRQ unit is also lent by its owner, and a clock updates it there"
pub record ClockOwes (mode : Mode) (before : Irq) (answer : Bool) (after : Irq) : Type 0 where
  pub reply : answer ≡ (clock_in mode before).answer
  pub unit : after ≡ (clock_in mode before).left
