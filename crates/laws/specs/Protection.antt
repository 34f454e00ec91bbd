-- M-111: which call moves the marks of RAM, and what MMC3 showed and did before that request, whose words are quoted. All that it does not touch, the clock, the other boards,
-- 9 and 10, is as today's definitions have it.
use Rattle.std.specs.Prelude.{ℕ, ◌/◌, ◌≡◌, Bool, true, false, cond, not, ◌&&◌, List, [], ◌∷◌, ltb, leb, length, None, Ok, Err}
use Rattle.common.specs.declared.Mode.{Mode}
use Rattle.common.specs.declared.Mode.TheVariants.{House, Board as OnBoard}
use Rattle.cartridge.specs.Load.{rams_fit}
use Rattle.cartridge.specs.Mappers.{is_mapper}
use Rattle.cartridge.specs.declared.Cartridge.{Cartridge}
use Rattle.cartridge.specs.declared.MapperType.{MapperType}
use Rattle.cartridge.specs.declared.MapperType.TheVariants.{Mmc3}
use Rattle.places.specs.Places.{byte_at, answer_at, stored_prg, stored_chr}
use Rattle.places.specs.Windows.{Window, lands_in, prg_ram_of, in_windows}
use Rattle.places.specs.Windows.Window.{Prg8K, Chr1K}
use Rattle.places.specs.Places.{Landing}
use Rattle.mmc3.specs.Read.{chr_bank, prg_bank, ppu_write_in, rom_write_in}
use Rattle.mmc3.specs.Write.{is_even}
use Rattle.mmc3.specs.declared.RamMarks.{RamMarks}
use Rattle.boards.specs.Range.{is_loaded, guarded}
use Rattle.boards.specs.Read.{read_window_on}
use Rattle.boards.specs.Write.{write_window_on, written_as}
use Rattle.boards.specs.Clock.{clock}
use Rattle.boards.specs.Runs.{Lent, lent, Call, call, next, answer, left}
use Rattle.boards.specs.declared.Board.{Board}
use Rattle.boards.specs.declared.Registers.{Registers}
use Rattle.boards.specs.declared.Event.{Event}
use Rattle.boards.specs.declared.Event.TheVariants.{Read, Write, Clock}
use Rattle.boards.specs.Write.{WriteAnswer}
use Rattle.boards.specs.declared.Answer.{Answer}
use Rattle.boards.specs.declared.Answer.TheVariants.{Read as toRead, Write as toWrite, Clock as toClock}

-- the marks of a board
abbrev pub marks : Board → RamMarks
marks b = b.registers.mmc3.ram

-- "an odd write to A000-BFFF"
abbrev pub is_protecting : ℕ → Bool
is_protecting a = leb 0xA000 a && ltb a 0xC000 && not (is_even a)

-- "In board mode"
abbrev pub in_board_mode : Mode → Bool
in_board_mode House = false
in_board_mode OnBoard = true

-- that write, on MMC3
abbrev pub is_for_marks : Cartridge → ℕ → Bool
is_for_marks c a = is_mapper c.mapper Mmc3 && is_protecting a

-- whether a call sets the marks, if it is accepted: that write, on MMC3 in board mode
abbrev pub protects : Cartridge → Event → Bool
protects c (Read a) = false
protects c (Write a v) = is_for_marks c a && in_board_mode c.mode
protects c Clock = false

-- whether no call of a list does
unfoldable pub none_protects : Cartridge → List Call → Bool
none_protects c [] = true
none_protects c (call l e ∷ cs) = not (protects c e) && none_protects c cs

-- what a read found before M-111: on MMC3 "6000-7FFF PRG RAM", if any, as on MMC1
abbrev pub read_window_before : MapperType → Registers → Cartridge → ℕ → Window
read_window_before k r c a =
    cond (is_mapper k Mmc3) (in_windows (Chr1K (chr_bank r.mmc3 (a / 1024))) (prg_ram_of c) (Prg8K (prg_bank r.mmc3 c a)) a) (read_window_on k r c a)

-- what a write found
abbrev pub write_window_before : MapperType → Registers → Cartridge → ℕ → Window
write_window_before k r c a =
    cond (is_mapper k Mmc3) (in_windows (ppu_write_in c.mode r.mmc3 c a) (prg_ram_of c) (rom_write_in c.mode r.mmc3 a) a) (write_window_on k r c a)

-- where a read landed
abbrev pub read_before : Board → ℕ → Landing
read_before b a = lands_in b.cart (read_window_before b.cart.mapper b.registers b.cart a) a

-- where a write landed
abbrev pub write_before : Board → ℕ → Landing
write_before b a = lands_in b.cart (write_window_before b.cart.mapper b.registers b.cart a) a

-- a landing, unless 9 or 10 was given
abbrev pub guarded_before : Board → Lent → Landing → Landing
guarded_before b l p = guarded (rams_fit (length l.prg) (length l.chr)) (is_loaded b (length l.image)) p

-- the board after an event; before M-111 "an odd write to A000-BFFF" did nothing
unfoldable pub next_before : Board → Lent → Event → Board
next_before b l (Read a) = b
next_before b l (Write a v) = cond (is_for_marks b.cart a) b (written_as b (guarded_before b l (write_before b a)) v a).left
next_before b l Clock = (clock b).left

-- what a write answered that does nothing: quiet, where it was accepted
abbrev pub quiet_at : Landing → WriteAnswer
quiet_at (Ok p) = Ok None
quiet_at (Err why) = Err why

-- what the event answered
unfoldable pub answer_before : Board → Lent → Event → Answer
answer_before b l (Read a) = toRead (answer_at (guarded_before b l (read_before b a)) (byte_at b.cart (read_before b a) l.image l.prg l.chr))
answer_before b l (Write a v) =
    let p = guarded_before b l (write_before b a) in
    toWrite (cond (is_for_marks b.cart a) (quiet_at p) (written_as b p v a).answer)
answer_before b l Clock = toClock (clock b).answer

-- the buffers as it left them
unfoldable pub left_before : Board → Lent → Event → Lent
left_before b l (Read a) = l
left_before b l (Write a v) =
    let p = guarded_before b l (write_before b a) in
    lent l.image (stored_prg p v l.prg) (stored_chr p v l.chr)
left_before b l Clock = l

-- a call answers and leaves what it did before M-111
pub record CallAsBefore (b : Board) (l : Lent) (e : Event) : Type 0 where
  pub the_answer : answer b l e ≡ answer_before b l e
  pub the_board : next b l e ≡ next_before b l e
  pub the_buffers : left b l e ≡ left_before b l e

-- so does each call of a list, on the board that the ones before it have left
abbrev pub RunAsBefore : Board → List Call → Type 0
RunAsBefore b [] = Unit {0}
RunAsBefore b (call l e ∷ cs) = CallAsBefore b l e × RunAsBefore (next b l e) cs
