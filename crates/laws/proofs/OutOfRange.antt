-- Every call refuses a board that is out of range, so too the one that stands beside a refused load. Assumes nothing.
use Prim.Native.Nat.{ℕ}
use mathlib.Core.Path.{◌≡◌, refl}
use mathlib.Core.Bool.{Bool, true, false}
use lib.ListN.{length}
use native.Mathlib.Omega.{arith}
use Rattle.cartridge.specs.Load.{rams_fit}
use Rattle.places.specs.Places.{byte_at, answer_at}
use Rattle.places.specs.Places.{Landing}
use Rattle.boards.specs.Start.{no_board}
use Rattle.boards.specs.Range.{in_range, is_loaded, guarded}
use Rattle.boards.specs.Read as reads
use Rattle.boards.specs.Write.{write_landing, written_as, landing}
use Rattle.boards.specs.Clock.{clock}
use Rattle.boards.specs.Runs.{Lent, answer}
use Rattle.boards.specs.declared.Board.{Board}
use Rattle.boards.specs.declared.Event.{Event}
use Rattle.boards.specs.declared.Event.TheVariants.{Read, Write, Clock}
use Rattle.boards.specs.declared.Answer.TheVariants.{Read as toRead, Write as toWrite}
use Rattle.boards.proofs.NoBoard.{no_board_is_out_of_range}
use Rattle.laws.specs.Calls.{is_refusal}

no_read : (rams : Bool) (p : Landing) (byte : ℕ) → is_refusal (toRead (answer_at (guarded rams false p) byte)) ≡ true
unfolding answer_at guarded
no_read rams p byte = grind arith

no_write : (rams : Bool) (p : Landing) (b : Board) (v a : ℕ) → is_refusal (toWrite (written_as b (guarded rams false p) v a).answer) ≡ true
unfolding written_as guarded
no_write rams p b v a = grind arith

pub out_of_range_is_refused : (b : Board) → in_range b ≡ false → (l : Lent) (e : Event) → is_refusal (answer b l e) ≡ true
unfolding answer reads.read landing is_loaded clock
out_of_range_is_refused b h l (Read a) =
    rw h (no_read (rams_fit (length l.prg) (length l.chr)) (reads.read_landing b a) (byte_at b.cart (reads.read_landing b a) l.image l.prg l.chr))
out_of_range_is_refused b h l (Write a v) = rw h (no_write (rams_fit (length l.prg) (length l.chr)) (write_landing b a) b v a)
out_of_range_is_refused b h l Clock = rw h refl

pub no_board_is_refused : (l : Lent) (e : Event) → is_refusal (answer no_board l e) ≡ true
no_board_is_refused l e = out_of_range_is_refused no_board no_board_is_out_of_range l e
