-- `accepts` is what a write answers, and `made` is what an event leaves in MMC1's registers. Assumes nothing.
use native.Mathlib.Omega.{arith}
use Rattle.std.specs.Prelude.{Option, Some, None, Ok, Err}
use Prim.Native.Nat.{ℕ}
use mathlib.Core.Path.{◌≡◌, refl, ap, ◌∙◌}
use mathlib.Core.Bool.{Bool, true, false, not, ◌&&◌}
use lib.Dec.{ltb}
use Rattle.std.proofs.lemmas.Bool.{and_parts}
use Rattle.common.specs.Common.{is_signed}
use Rattle.common.specs.Answers.{same}
use Rattle.common.specs.declared.Mirroring.{Mirroring}
use Rattle.cartridge.specs.Mappers.{is_mapper}
use Rattle.cartridge.specs.declared.MapperType.TheVariants.{Mmc1}
use Rattle.cartridge.proofs.Mappers.{is_this}
use Rattle.places.specs.Places.{Landing}
use Rattle.mmc1.specs.Write.{empty, move_of, load, applied}
use Rattle.mmc1.specs.declared.Move.{Move}
use Rattle.mmc1.specs.declared.Move.TheVariants.{Nothing, Fill}
use Rattle.mmc1.specs.declared.Register.{Register}
use Rattle.boards.specs.Range.{in_range}
use Rattle.boards.specs.Write.{notice_unless, notice, turned, accepted_write, written_as, landing}
use Rattle.boards.specs.Clock.{yes_no, accepted_clock, clock}
use Rattle.boards.specs.Runs.{Lent, next, answer}
use Rattle.boards.specs.declared.Board.{Board}
use Rattle.boards.specs.declared.Event.{Event}
use Rattle.boards.specs.declared.Event.TheVariants.{Read, Write, Clock}
use Rattle.boards.specs.declared.Answer.TheVariants.{Write as toWrite, Clock as toClock}
use Rattle.laws.specs.Loads.{is_accepted, accepts, made}
use Rattle.laws.specs.SettlesMmc1.{is_serial}
use Rattle.laws.specs.Calls.{is_refusal}
use Rattle.laws.proofs.Mmc1Moves.{chosen, next_is}

-- the answer of a board that moves is no refusal
quiet_or_not : (s : Bool) (m : Mirroring) → is_refusal (toWrite (notice_unless s m)) ≡ false
unfolding notice_unless
quiet_or_not s m = grind arith

noticed : (old : Mirroring) (t : Option Mirroring) → is_refusal (toWrite (notice old t)) ≡ false
unfolding notice
noticed old None = refl
noticed old (Some m) = quiet_or_not (same old m) m

by_place : (b : Board) (p : Landing) (v a : ℕ) → is_refusal (toWrite (written_as b p v a).answer) ≡ not (is_accepted p)
unfolding written_as is_accepted accepted_write turned
by_place b (Err why) v a = refl
by_place b (Ok p) v a = noticed _ _

-- a write is accepted exactly when its answer is no refusal
pub accepted_is_not_refused : (b : Board) (l : Lent) (a v : ℕ) → is_refusal (answer b l (Write a v)) ≡ not (accepts b l a)
unfolding answer
accepted_is_not_refused b l a v = by_place b (landing b l.image l.prg l.chr a) v a

yes_or_no : (t : Bool) → is_refusal (toClock (yes_no t)) ≡ false
unfolding yes_no
yes_or_no t = grind arith

-- a clock of a board in range is never refused
pub a_clock_is_not_refused : (b : Board) (l : Lent) → in_range b ≡ true → is_refusal (answer b l Clock) ≡ false
unfolding answer clock accepted_clock
a_clock_is_not_refused b l ok = rw ok (yes_or_no _)

pub a_refused_write_completes_nothing : (b : Board) (l : Lent) (a v : ℕ) → accepts b l a ≡ false → made b l (Write a v) ≡ Nothing
unfolding made
a_refused_write_completes_nothing b l a v e = grind arith

-- "serial write": one to 8000-FFFF without bit 7 that an MMC1 board accepts
pub a_serial_write : (b : Board) (l : Lent) (a v : ℕ)
    → is_serial (made b l (Write a v)) ≡ (is_mapper b.cart.mapper Mmc1 && accepts b l a && not (ltb a 0x8000) && not (is_signed v))
unfolding made move_of
a_serial_write b l a v = grind arith

-- an event leaves in MMC1's registers what its move makes of them
pub a_call_makes_its_move : (b : Board) → b.cart.mapper ≡ Mmc1 → (l : Lent) (e : Event) → (next b l e).registers.mmc1 ≡ applied b.cart.mode (made b l e) b.registers.mmc1
a_call_makes_its_move b k l e = ap (λ (x : Board). x.registers.mmc1) (next_is b k l e)

on_mmc1 : (b : Board) (l : Lent) (e : Event) (r : Register) (v : ℕ) → made b l e ≡ Fill r v → b.cart.mapper ≡ Mmc1
unfolding made
on_mmc1 b l (Read a) r v f = cc
on_mmc1 b l (Write a u) r v f =
    let own = is_mapper b.cart.mapper Mmc1 in
    is_this b.cart.mapper Mmc1 (and_parts own (accepts b l a) (chosen (own && accepts b l a) (move_of b.registers.mmc1.serial u a) r v f).0).0
on_mmc1 b l Clock r v f = cc

-- a completed load is stored as the board's own definition says, and the serial register is empty
pub a_completed_load_is_stored : (b : Board) (l : Lent) (e : Event) (r : Register) (v : ℕ) → made b l e ≡ Fill r v
    → (next b l e).registers.mmc1 ≡ record { serial = empty; regs = load b.cart.mode b.registers.mmc1.regs r v }
unfolding applied
a_completed_load_is_stored b l e r v f =
    a_call_makes_its_move b (on_mmc1 b l e r v f) l e ∙ ap (λ (k : Move). applied b.cart.mode k b.registers.mmc1) f
