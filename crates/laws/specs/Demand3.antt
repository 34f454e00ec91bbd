-- Demand 3 from the start: what it asks of two histories of one image in one mode, and of what the boards that they reach are given then.
use Rattle.std.specs.Prelude.{ℕ, ◌≡◌, List}
use Rattle.common.specs.declared.Mode.{Mode}
use Rattle.common.specs.declared.Mode.TheVariants.{House, Board as OnBoard}
use Rattle.memory.specs.Memory.{AreBytes}
use Rattle.cartridge.specs.Header.{header_of}
use Rattle.cartridge.specs.Nes2.{mapper_in}
use Rattle.cartridge.specs.Mappers.{mapper_type}
use Rattle.cartridge.specs.declared.MapperType.{MapperType}
use Rattle.cartridge.specs.declared.MapperType.TheVariants.{Mmc1, Mmc3}
use Rattle.boards.specs.Runs.{Call}
use Rattle.laws.specs.Calls.{History, reached, LentWrite, wrote, SameCalls}
use Rattle.laws.specs.SettlesMmc1.{Clears}
use Rattle.laws.specs.SettlesMmc3.{Arming, Accepts, Acknowledges}

-- an image of bytes that has this mapper in a mode
pub record ImageOf (k : MapperType) (mode : Mode) (s : List ℕ) : Type 0 where
  pub mapper : mapper_type (mapper_in mode (header_of s)) ≡ k
  pub are_bytes : AreBytes s

-- MMC1: the boards that the histories x and y reach both accept "a write with bit 7 set to 8000-FFFF", "then get the same calls"
pub record BothCleared {mode : Mode} {s : List ℕ} (x y : History mode s) (w u : LentWrite) (cs ds : List Call) : Type 0 where
  pub image : ImageOf Mmc1 mode s
  pub first_accepts : Clears w (reached x)
  pub second_accepts : Clears u (reached y)
  pub then_the_same_calls : SameCalls cs ds

-- MMC3, house mode: the boards that the histories x and y reach both accept the same latch, reload and enable; after them come the clock and the same calls
pub record BothArmed {s : List ℕ} (x y : History House s) (w u : Arming) (cs ds : List Call) : Type 0 where
  pub image : ImageOf Mmc3 House s
  pub first_accepts : Accepts (reached x) w
  pub second_accepts : Accepts (reached y) u
  pub one_latch : w.latch.byte ≡ u.latch.byte
  pub then_the_same_calls : SameCalls cs ds

-- MMC3, board mode: the same, and before it both accept an acknowledging write, v and t
pub record BothAcknowledged {s : List ℕ} (x y : History OnBoard s) (v t : LentWrite) (w u : Arming) (cs ds : List Call) : Type 0 where
  pub image : ImageOf Mmc3 OnBoard s
  pub first_acknowledges : Acknowledges (reached x) v
  pub second_acknowledges : Acknowledges (reached y) t
  pub first_accepts : Accepts (wrote (reached x) v) w
  pub second_accepts : Accepts (wrote (reached y) t) u
  pub one_latch : w.latch.byte ≡ u.latch.byte
  pub then_the_same_calls : SameCalls cs ds
