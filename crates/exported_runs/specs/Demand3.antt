-- Demand 3 for the exported calls: two lent states of forty bytes, each with its own history of exported calls of one image and mode.
use Rattle.std.specs.Prelude.{ℕ, ◌+◌, ◌<◌, ◌≤◌, ◌≡◌, Bool, true, false, List, ◌∷◌, leb, length, take}
use Rattle.common.specs.Common.{is_signed, mode_of}
use Rattle.memory.specs.Memory.{AreBytes}
use Rattle.cartridge.specs.Header.{header_of}
use Rattle.cartridge.specs.Nes2.{mapper_in}
use Rattle.cartridge.specs.Mappers.{mapper_type}
use Rattle.cartridge.specs.declared.MapperType.{MapperType}
use Rattle.cartridge.specs.declared.MapperType.TheVariants.{Mmc1, Mmc3}
use Rattle.mmc1.specs.declared.Register.{Register}
use Rattle.mmc3.specs.Write.{move_of}
use Rattle.mmc3.specs.declared.Move.TheVariants.{Latch, Reload, Enable, Disable}
use Rattle.boards.specs.Runs.{Lent, Call, call}
use Rattle.boards.specs.declared.Event.{Event}
use Rattle.boards.specs.declared.Event.TheVariants.{Write, Clock}
use Rattle.laws.specs.Calls.{LentWrite, wiped_lent, SameCalls}
use Rattle.laws.specs.Clocks.{line_up}
use Rattle.laws.specs.Loads.{moves}
use Rattle.laws.specs.SettlesMmc1.{serial_writes, LoadsAt, Settled}
use Rattle.laws.specs.SettlesMmc3.{Arming}
use Rattle.exports.specs.Bytes.{board_in}
use Rattle.exports.specs.Calls.{LoadOwes}
use Rattle.exported_runs.specs.Runs.{number, next_state, state_after, numbers, played, ended, clock_numbers, WriteBytes}

-- a lent image that has this mapper in a mode: bytes, of a length that a usize holds
pub record LentImage (k : MapperType) (mode : ℕ) (image : List ℕ) : Type 0 where
  pub mapper : mapper_type (mapper_in (mode_of mode) (header_of image)) ≡ k
  pub are_bytes : AreBytes image
  pub of_a_length : length image < 0x10000000000000000

-- a history of exported calls: a load that answers 0, and calls of any kind
pub record History (mode : ℕ) (image : List ℕ) : Type 0 where
  pub lent : List ℕ
  pub prg : List ℕ
  pub chr : List ℕ
  pub loaded : List ℕ
  pub prg' : List ℕ
  pub chr' : List ℕ
  pub load_owes : LoadOwes image mode lent prg chr 0 loaded prg' chr'
  pub calls : List Call
  pub write_bytes : WriteBytes calls

-- the lent state at its end
abbrev pub reached : {mode : ℕ} {image : List ℕ} → History mode image → List ℕ
reached h = state_after h.loaded h.calls

-- the state after an exported write
abbrev pub wrote : List ℕ → LentWrite → List ℕ
wrote s w = next_state s w.lent (Write w.address w.byte)

-- a number from 256 on is a refusal
abbrev pub is_refused : ℕ → Bool
is_refused n = leb 256 n

-- an exported write of a byte that is accepted: it answers no refusal
pub record IsAccepted (s : List ℕ) (w : LentWrite) : Type 0 where
  pub a_byte : w.byte < 0x100
  pub no_refusal : is_refused (number s w.lent (Write w.address w.byte)) ≡ false

-- "a write with bit 7 set to 8000-FFFF", accepted
pub record Clears (w : LentWrite) (s : List ℕ) : Type 0 where
  pub to_8000_ffff : 0x8000 ≤ w.address
  pub bit_7 : is_signed w.byte ≡ true
  pub accepted : IsAccepted s w

-- calls for both, "the same calls" but for the contents of the buffers
pub record SameBytes (cs ds : List Call) : Type 0 where
  pub same_calls : SameCalls cs ds
  pub first_bytes : WriteBytes cs
  pub second_bytes : WriteBytes ds

-- MMC1: the two states both accept a bit 7 write, then get the same calls
pub record BothCleared {mode : ℕ} {image : List ℕ} (x y : History mode image) (w u : LentWrite) (cs ds : List Call) : Type 0 where
  pub of_mmc1 : LentImage Mmc1 mode image
  pub first_accepts : Clears w (reached x)
  pub second_accepts : Clears u (reached y)
  pub then_the_same_calls : SameBytes cs ds

-- MMC1: what demand 3 says of the states s and t after those writes; no exported answer shows a load, so loads are those of the boards that the bytes hold
pub record SettlesOnMmc1 (s t : List ℕ) (cs ds : List Call) : Type 0 where
  -- "The same writes complete loads, in the same registers, with the same five bits"
  pub the_same_loads : moves (board_in s) cs ≡ moves (board_in t) ds
  -- "none before the fifth serial write"
  pub none_before_the_fifth : (i : ℕ) (r : Register) → LoadsAt (board_in s) cs r i → 5 ≤ serial_writes (take (i + 1) (moves (board_in s) cs))
  -- once there have been the four loads the forty bytes are the same
  pub the_bytes_agree : Settled (board_in s) cs → state_after s cs ≡ state_after t ds
  -- "so with equal RAM bytes all later answers agree": each event is lent what the one before left
  pub later_answers_agree : Settled (board_in s) cs → (l : Lent) (es : List Event) → played (state_after s cs) l es ≡ played (state_after t ds) l es
  -- the RAM bytes stay equal
  pub rams_stay_equal : Settled (board_in s) cs → (l : Lent) (es : List Event) → ended (state_after s cs) l es ≡ ended (state_after t ds) l es
  -- all later answers agree whatever is lent to each call, as long as both are lent the same
  pub whatever_is_lent : Settled (board_in s) cs → (later : List Call) → numbers (state_after s cs) later ≡ numbers (state_after t ds) later

-- the three writes, straight after one another
abbrev pub armed : List ℕ → Arming → List ℕ
armed s w = wrote (wrote (wrote s w.latch) w.reload) w.enable

-- they go to the latch, the reload mark and the enable, and each is accepted
pub record Accepts (s : List ℕ) (w : Arming) : Type 0 where
  pub is_latch : move_of w.latch.byte w.latch.address ≡ Latch w.latch.byte
  pub is_reload : move_of w.reload.byte w.reload.address ≡ Reload
  pub is_enable : move_of w.enable.byte w.enable.address ≡ Enable
  pub latch : IsAccepted s w.latch
  pub reload : IsAccepted (wrote s w.latch) w.reload
  pub enable : IsAccepted (wrote (wrote s w.latch) w.reload) w.enable

-- board mode, M-101: an even write to E000-FFFF, "accepted like the rest"
pub record Acknowledges (s : List ℕ) (w : LentWrite) : Type 0 where
  pub is_acknowledging : move_of w.byte w.address ≡ Disable
  pub accepted : IsAccepted s w

-- MMC3, house mode (0): the two states both accept the same latch, reload and enable; after them come the clock and the same calls
pub record BothArmed {image : List ℕ} (x y : History 0 image) (w u : Arming) (cs ds : List Call) : Type 0 where
  pub of_mmc3 : LentImage Mmc3 0 image
  pub first_accepts : Accepts (reached x) w
  pub second_accepts : Accepts (reached y) u
  pub one_latch : w.latch.byte ≡ u.latch.byte
  pub then_the_same_calls : SameBytes cs ds

-- MMC3, board mode (1): the same, and before it both accept an acknowledging write, v and t
pub record BothAcknowledged {image : List ℕ} (x y : History 1 image) (v t : LentWrite) (w u : Arming) (cs ds : List Call) : Type 0 where
  pub of_mmc3 : LentImage Mmc3 1 image
  pub first_acknowledges : Acknowledges (reached x) v
  pub second_acknowledges : Acknowledges (reached y) t
  pub first_accepts : Accepts (wrote (reached x) v) w
  pub second_accepts : Accepts (wrote (reached y) t) u
  pub one_latch : w.latch.byte ≡ u.latch.byte
  pub then_the_same_calls : SameBytes cs ds

-- MMC3: what demand 3 says of the states s and t after those writes
pub record SettlesOnMmc3 (s t : List ℕ) (cs ds : List Call) : Type 0 where
  -- "agree on every IRQ answer from that clock on"
  pub irq_answers_agree : (l k : Lent) → clock_numbers s (call l Clock ∷ cs) ≡ clock_numbers t (call k Clock ∷ ds)
  -- so too on the level that the bytes hold
  pub levels_agree : (l k : Lent) → line_up (board_in (state_after s (call l Clock ∷ cs))) ≡ line_up (board_in (state_after t (call k Clock ∷ ds)))
  -- a later write, so too the acknowledging one (14), is refused on both or on neither
  pub both_refuse_or_neither : (l k : Lent) → wiped_lent l ≡ wiped_lent k → (a v : ℕ)
      → is_refused (number (state_after s (call l Clock ∷ cs)) l (Write a v)) ≡ is_refused (number (state_after t (call k Clock ∷ ds)) k (Write a v))
