-- Demand 3, what the two boards are given: a history, writes, and the same calls.
use Rattle.std.specs.Prelude.{ℕ, ◌≡◌, Bool, true, false, List, [], map, length, replicate, Some, None, Ok, Err}
use Rattle.common.specs.declared.Mode.{Mode}
use Rattle.cartridge.specs.Load.{verdict, ram_after}
use Rattle.cartridge.specs.declared.MapperType.{MapperType}
use Rattle.boards.specs.Range.{in_range}
use Rattle.boards.specs.Start.{LoadAnswer, load, board_of, load_answer}
use Rattle.boards.specs.Runs.{Lent, lent, Call, call, next, after}
use Rattle.boards.specs.declared.Board.{Board}
use Rattle.boards.specs.declared.Event.{Event}
use Rattle.boards.specs.declared.Event.TheVariants.{Read, Write, Clock}
use Rattle.boards.specs.declared.Answer.{Answer}
use Rattle.boards.specs.declared.Answer.TheVariants.{Read as toRead, Write as toWrite, Clock as toClock}
use Rattle.common.specs.declared.Outcome.{Outcome}

-- the load of an image, with two RAMs lent: its board, or the one that stands for none, and its answer
abbrev pub load_with : Mode → List ℕ → List ℕ → List ℕ → Outcome Board LoadAnswer
load_with mode s prg chr = let l = load s mode (length prg) (length chr) in record { left = board_of l; answer = load_answer l }

-- a RAM as a load of an image leaves it, with both RAMs lent
abbrev pub ram_left : Mode → List ℕ → List ℕ → List ℕ → List ℕ → List ℕ
ram_left mode s prg chr ram = ram_after (verdict s mode (length prg) (length chr)) ram

-- a history of an image in a mode: an accepted load, and calls of any kind
pub record History (mode : Mode) (s : List ℕ) : Type 0 where
  pub prg : List ℕ
  pub chr : List ℕ
  pub accepted : (load_with mode s prg chr).answer ≡ Ok tt
  pub calls : List Call

-- the board at the end of a history
abbrev pub reached : {mode : Mode} {s : List ℕ} → History mode s → Board
reached {mode} {s} h = after (load_with mode s h.prg h.chr).left h.calls

-- "two boards of one image and mode", with this mapper: any two histories leave such boards
pub record OneImage (k : MapperType) (b d : Board) : Type 0 where
  pub cart : b.cart ≡ d.cart
  pub mapper : b.cart.mapper ≡ k
  pub first : in_range b ≡ true
  pub second : in_range d ≡ true

-- whether an answer is a refusal
abbrev pub is_refusal : Answer → Bool
is_refusal (toRead (Ok v)) = false
is_refusal (toRead (Err why)) = true
is_refusal (toWrite (Ok None)) = false
is_refusal (toWrite (Ok (Some m))) = false
is_refusal (toWrite (Err why)) = true
is_refusal (toClock (Ok false)) = false
is_refusal (toClock (Ok true)) = false
is_refusal (toClock (Err why)) = true

-- a write, with the buffers lent to it
pub record LentWrite : Type 0 where
  pub lent : Lent
  pub address : ℕ
  pub byte : ℕ

-- the board after such a write
abbrev pub wrote : Board → LentWrite → Board
wrote b w = next b w.lent (Write w.address w.byte)

-- "lent buffers of the same lengths (contents may differ)": what is left once the contents are wiped
abbrev pub wiped_lent : Lent → Lent
wiped_lent l = lent (replicate (length l.image) 0) (replicate (length l.prg) 0) (replicate (length l.chr) 0)

-- what a call of each kind is lent: a clock nothing
abbrev pub wiped_for : Event → Lent → Lent
wiped_for (Read a) l = wiped_lent l
wiped_for (Write a v) l = wiped_lent l
wiped_for Clock l = lent [] [] []

-- a call of any kind, its buffers wiped
abbrev pub wiped : Call → Call
wiped (call l e) = call (wiped_for e l) e

-- "then get the same calls", but for the contents of the buffers
abbrev pub SameCalls : List Call → List Call → Type 0
SameCalls cs ds = map wiped cs ≡ map wiped ds
