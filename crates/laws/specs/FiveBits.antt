-- MMC1: "bit 0 enters, least bit first; the fifth completes a load chosen by that fifth address", over accepted writes with other calls between them.
use Rattle.std.specs.Prelude.{ℕ, ◌+◌, ◌*◌, ◌%◌, ◌≤◌, ◌≡◌, true, false, List, [], ◌∷◌, ◌++◌}
use Rattle.common.specs.Common.{is_signed}
use Rattle.mmc1.specs.Write.{empty, register_at, load}
use Rattle.mmc1.specs.declared.Move.{Move}
use Rattle.mmc1.specs.declared.Move.TheVariants.{Nothing, Clear, Enter, Fill}
use Rattle.mmc1.specs.declared.Register.{Register}
use Rattle.boards.specs.Runs.{Call, call, next, after}
use Rattle.boards.specs.declared.Board.{Board}
use Rattle.boards.specs.declared.Event.TheVariants.{Write}
use Rattle.laws.specs.Calls.{LentWrite, wrote}
use Rattle.laws.specs.Loads.{accepts, made, moves}

-- the board accepts the write, and it is a serial write: to 8000-FFFF, bit 7 clear
pub record IsSerialWrite (w : LentWrite) (b : Board) : Type 0 where
  pub to_8000_ffff : 0x8000 ≤ w.address
  pub bit_7_clear : is_signed w.byte ≡ false
  pub accepted : accepts b w.lent w.address ≡ true

-- no call makes a move: reads, clocks, writes below 8000 and refused writes, in any number
abbrev pub Idle : Board → List Call → Type 0
Idle b [] = Unit {0}
Idle b (call l e ∷ cs) = (made b l e ≡ Nothing) × Idle (next b l e) cs

-- a serial write, and the calls since the one before it
pub record Bit : Type 0 where
  pub before : List Call
  pub write : LentWrite

-- "bit 0 enters"
abbrev pub bit0 : Bit → ℕ
bit0 t = t.write.byte % 2

-- the calls of such bits in order, and calls after them
abbrev pub calls_of : List Bit → List Call → List Call
calls_of [] cs = cs
calls_of (t ∷ ts) cs = t.before ++ (call t.write.lent (Write t.write.address t.write.byte) ∷ calls_of ts cs)

-- the writes are serial writes, and all other calls are idle
abbrev pub AllEnter : Board → List Bit → List Call → Type 0
AllEnter b [] cs = Idle b cs
AllEnter b (t ∷ ts) cs =
    Idle b t.before × IsSerialWrite t.write (after b t.before) × AllEnter (wrote (after b t.before) t.write) ts cs

-- five serial writes, each with the calls before it
pub record Five : Type 0 where
  pub first : Bit
  pub second : Bit
  pub third : Bit
  pub fourth : Bit
  pub fifth : Bit

-- the first four of the five
abbrev pub first_four : Five → List Bit
first_four f = f.first ∷ f.second ∷ f.third ∷ f.fourth ∷ []

-- all calls before the fifth write
abbrev pub before_fifth : Five → List Call
before_fifth f = calls_of (first_four f) f.fifth.before

-- "least bit first"
abbrev pub five_bits : Five → ℕ
five_bits f = bit0 f.first + 2 * bit0 f.second + 4 * bit0 f.third + 8 * bit0 f.fourth + 16 * bit0 f.fifth

-- the register "chosen by that fifth address"
abbrev pub chosen : Five → Register
chosen f = register_at f.fifth.write.address

-- the board accepts the five, and gets no other serial write and no bit 7 write before the fifth
pub record FiveEnter (b : Board) (f : Five) : Type 0 where
  pub four_enter : AllEnter b (first_four f) f.fifth.before
  pub the_fifth : IsSerialWrite f.fifth.write (after b (before_fifth f))

-- among these moves is no load and no clear
abbrev pub OnlyEnter : List Move → Type 0
OnlyEnter [] = Unit {0}
OnlyEnter (Nothing ∷ ks) = OnlyEnter ks
OnlyEnter (Enter s ∷ ks) = OnlyEnter ks
OnlyEnter (Clear ∷ ks) = ⊥
OnlyEnter (Fill r v ∷ ks) = ⊥

-- what the five do
pub record FifthLoads (b : Board) (f : Five) : Type 0 where
  -- no earlier call loads anything
  pub none_before : OnlyEnter (moves b (before_fifth f))
  -- "the fifth completes a load chosen by that fifth address"
  pub the_load : made (after b (before_fifth f)) f.fifth.write.lent (Write f.fifth.write.address f.fifth.write.byte) ≡ Fill (chosen f) (five_bits f)
  -- which leaves the registers with that load, and the serial register empty
  pub registers : (wrote (after b (before_fifth f)) f.fifth.write).registers.mmc1
      ≡ record { serial = empty; regs = load b.cart.mode b.registers.mmc1.regs (chosen f) (five_bits f) }
