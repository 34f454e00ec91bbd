-- Every row of M-111's table computes to what it wants, and so do its runs. Assumes nothing.
use mathlib.Core.Path.{◌≡◌, refl}
use mathlib.Core.List.{map}
use Rattle.common.specs.declared.Mode.TheVariants.{House, Board as OnBoard}
use Rattle.laws.specs.PLines as paper
use Rattle.laws.specs.FurtherRows.{Row, answer_to}
use Rattle.laws.specs.ProtectionRows.{rows, played_from, lock_and_unlock, when_protected, when_not}
use Rattle.laws.proofs.Opened.{opened}

pub protection_rows : map (λ (r : Row). answer_to r.asked) rows ≡ map (λ (r : Row). r.wanted) rows
unfolding opened
protection_rows = refl

pub locked_and_unlocked : played_from OnBoard paper.mmc3 lock_and_unlock ≡ when_protected
unfolding opened
locked_and_unlocked = refl

pub never_locked_in_house_mode : played_from House paper.mmc3 lock_and_unlock ≡ when_not
unfolding opened
never_locked_in_house_mode = refl
