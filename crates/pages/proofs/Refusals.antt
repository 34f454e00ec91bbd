-- The numbers of refusal are few. Assumes nothing.
use Prim.Native.Nat.{◌<◌}
use native.Mathlib.Omega.{arith}
use Rattle.common.specs.Answers.{refusal_number}
use Rattle.common.specs.declared.Refusal.{Refusal}
use Rattle.common.specs.declared.Refusal.TheVariants.{HeaderTooShort, HeaderNotInes, ImageNotInes, MapperNotTaken, TrainerOrFourScreen, PrgCountNotTaken, ImageTooShort, CountNoPowerOfTwo, RamNot8K, StateOutOfRange, BankPastData, NoChrRam, NoSuchPlace, IrqPending, TraceMalformed, Nes2NotTaken}

pub refusals_few : (why : Refusal) → refusal_number why < 32
refusals_few HeaderTooShort = omega arith
refusals_few HeaderNotInes = omega arith
refusals_few ImageNotInes = omega arith
refusals_few MapperNotTaken = omega arith
refusals_few TrainerOrFourScreen = omega arith
refusals_few PrgCountNotTaken = omega arith
refusals_few ImageTooShort = omega arith
refusals_few CountNoPowerOfTwo = omega arith
refusals_few RamNot8K = omega arith
refusals_few StateOutOfRange = omega arith
refusals_few BankPastData = omega arith
refusals_few NoChrRam = omega arith
refusals_few NoSuchPlace = omega arith
refusals_few IrqPending = omega arith
refusals_few TraceMalformed = omega arith
refusals_few Nes2NotTaken = omega arith
