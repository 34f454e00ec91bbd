-- "Byte 7 AND 0C equal to 08 marks NES 2.0; it is recorded and changes nothing", but by what M-100 reads: two images that differ in the low nibble of byte 7
-- alone, both read as NES 2.0 or neither, and the boards that they load, which differ in the mark alone. A call looks at no byte of the header.
use Rattle.std.specs.Prelude.{ℕ, ◌≡◌, Bool, List, map, set, Ok}
use Rattle.common.specs.declared.Mode.{Mode}
use Rattle.cartridge.specs.Header.{header_of, is_nes2}
use Rattle.cartridge.specs.Nes2.{is_nes2_in}
use Rattle.cartridge.specs.declared.Cartridge.{Cartridge}
use Rattle.boards.specs.Runs.{Lent, lent, next, answer, left, Call, call, after, answers}
use Rattle.boards.specs.declared.Board.{Board}
use Rattle.boards.specs.declared.Event.{Event}
use Rattle.laws.specs.Calls.{load_with, ram_left}

-- a cartridge with this mark
abbrev pub cart_marked : Bool → Cartridge → Cartridge
cart_marked mark c =
    record { mode = c.mode; mapper = c.mapper; nes2 = mark; mirroring = c.mirroring; prgram = c.prgram; prg = c.prg; chr = c.chr; length = c.length }

-- a board with this mark
abbrev pub marked : Bool → Board → Board
marked mark b = record { cart = cart_marked mark b.cart; mirroring = b.mirroring; registers = b.registers }

-- with this mark a board is read as NES 2.0 or not, as it is with its own: in house mode any mark is such, in board mode its own
abbrev pub ReadAlike : Bool → Board → Type 0
ReadAlike mark b = is_nes2_in b.cart.mode mark ≡ is_nes2_in b.cart.mode b.cart.nes2

-- an image with another byte i
abbrev pub with_byte : ℕ → ℕ → List ℕ → List ℕ
with_byte i v s = set s i v

-- the buffers of a call, with that image
abbrev pub lent_with : ℕ → ℕ → Lent → Lent
lent_with i v l = lent (with_byte i v l.image) l.prg l.chr

-- the call with that image
abbrev pub call_with : ℕ → ℕ → Call → Call
call_with i v (call l e) = call (lent_with i v l) e

-- a load of the image with another byte 7: the same answer, the same RAMs, and where it is accepted the same board, but for the mark
pub record SameLoad (mode : Mode) (s prg chr : List ℕ) (v : ℕ) : Type 0 where
  pub the_answer : (load_with mode (with_byte 7 v s) prg chr).answer ≡ (load_with mode s prg chr).answer
  pub the_board : (load_with mode s prg chr).answer ≡ Ok tt → (load_with mode (with_byte 7 v s) prg chr).left ≡ marked (is_nes2 (header_of (with_byte 7 v s))) (load_with mode s prg chr).left
  pub the_prg_ram : ram_left mode (with_byte 7 v s) prg chr prg ≡ ram_left mode s prg chr prg
  pub the_chr_ram : ram_left mode (with_byte 7 v s) prg chr chr ≡ ram_left mode s prg chr chr

-- a call on a board with another mark, lent an image with another byte i: the answer, the next board and both RAMs are the same, but for the mark and the byte
pub record SameCall (mark : Bool) (i v : ℕ) (b : Board) (l : Lent) (e : Event) : Type 0 where
  pub the_answer : answer (marked mark b) (lent_with i v l) e ≡ answer b l e
  pub the_next_board : next (marked mark b) (lent_with i v l) e ≡ marked mark (next b l e)
  pub the_buffers : left (marked mark b) (lent_with i v l) e ≡ lent_with i v (left b l e)

-- a run of such calls: the same answers, and the same board at its end, but for the mark
pub record SameRun (mark : Bool) (i v : ℕ) (b : Board) (cs : List Call) : Type 0 where
  pub the_answers : answers (marked mark b) (map (call_with i v) cs) ≡ answers b cs
  pub the_board : after (marked mark b) (map (call_with i v) cs) ≡ marked mark (after b cs)
