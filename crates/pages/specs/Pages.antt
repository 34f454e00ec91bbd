-- The address space in 64 pages of 1 KB: where each is read from, and where a write to it goes. docs/ABI.md, "Pages".
use Rattle.std.specs.Prelude.{ℕ, zero, suc, ◌+◌, ◌*◌, ◌%◌, ◌≡◌, Bool, cond, not, ◌&&◌, List, [], ◌∷◌, leb, length, Ok, Err, Result}
use Rattle.common.specs.Common.{KB1, KB8}
use Rattle.common.specs.Answers.{refusal_number, no}
use Rattle.common.specs.declared.Refusal.{Refusal}
use Rattle.cartridge.specs.Load.{prg_total}
use Rattle.cartridge.specs.Mappers.{is_mapper}
use Rattle.cartridge.specs.declared.Cartridge.{Cartridge}
use Rattle.cartridge.specs.declared.MapperType.{MapperType}
use Rattle.cartridge.specs.declared.MapperType.TheVariants.{Nrom}
use Rattle.places.specs.declared.Place.{Place}
use Rattle.places.specs.declared.Place.TheVariants.{Prg, Chr, PrgRam, ChrRam, Nowhere}
use Rattle.places.specs.Places.{Landing}
use Rattle.boards.specs.Range.{in_range}
use Rattle.boards.specs.Read.{read_landing}
use Rattle.boards.specs.Write.{write_landing}
use Rattle.boards.specs.declared.Board.{Board}

-- a page is one number: its kind, 2^28 times, and an offset. Kind 0 is the image, 1 PRG RAM, 2 CHR RAM; of kind 3 a read answers 0. On a board in range no remainder changes an offset (`page_laws`)
unfoldable pub place_read : Cartridge → Place → ℕ
place_read c (Prg i) = 16 + i % 0x10000000
place_read c (Chr i) = 16 + prg_total c + i % 0x10000000
place_read c (PrgRam i) = 0x10000000 + i % KB8
place_read c (ChrRam i) = 0x20000000 + i % KB8
place_read c Nowhere = 0x30000000

-- a byte is stored in a RAM, or of kind 3 nowhere: no ROM takes it
unfoldable pub place_written : Place → ℕ
place_written (Prg i) = 0x30000000
place_written (Chr i) = 0x30000000
place_written (PrgRam i) = 0x10000000 + i % KB8
place_written (ChrRam i) = 0x20000000 + i % KB8
place_written Nowhere = 0x30000000

-- kind 4 is refused, the offset is the refusal's number
unfoldable pub refused_page : Refusal → ℕ
refused_page why = 0x40000000 + refusal_number why

-- kind 5: a write may move a register, so the call is to be made
abbrev pub call_page : ℕ
call_page = 0x50000000

-- where a read that lands there comes from
unfoldable pub read_from : Cartridge → Landing → ℕ
read_from c (Ok p) = place_read c p
read_from c (Err why) = refused_page why

-- where a write that lands there goes
unfoldable pub written_to : Landing → ℕ
written_to (Ok p) = place_written p
written_to (Err why) = refused_page why

-- registers are written at 8000-FFFF, on every board but NROM
unfoldable pub has_registers : MapperType → ℕ → Bool
has_registers k p = leb 32 p && not (is_mapper k Nrom)

-- where a page is read from: what a read of its first byte finds
unfoldable pub read_page : Board → ℕ → ℕ
read_page b p = read_from b.cart (read_landing b (p * KB1))

-- where a write to a page goes
unfoldable pub write_page : Board → ℕ → ℕ
write_page b p = cond (has_registers b.cart.mapper p) call_page (written_to (write_landing b (p * KB1)))

-- the numbers of n pages from page p on
unfoldable pub numbers : (ℕ → ℕ) → ℕ → ℕ → List ℕ
numbers f p zero = []
numbers f p (suc n) = f p ∷ numbers f (suc p) n

-- pages are told of a board that may be served, and only up to page 63
unfoldable pub is_told : Bool → ℕ → ℕ → ℕ → Bool
is_told state first n m = state && leb (first + n) 64 && leb (first + m) 64

-- what a caller that asks for pages is answered: they are told, or the refusal
abbrev pub PagesAnswer : Type 0
PagesAnswer = Result Unit Refusal

-- the answer of the pages: told, or 10
unfoldable pub told : Bool → PagesAnswer
told t = cond t (Ok tt) (Err (no 10))

-- what is owed where the state has been judged: the answer, and the numbers of both, as many as there is room for
pub record PagesIf (state : Bool) (b : Board) (first : ℕ) (reads writes : List ℕ) (r : PagesAnswer) (reads' writes' : List ℕ) : Type 0 where
  pub reply : r ≡ told (is_told state first (length reads) (length writes))
  pub read_pages : reads' ≡ cond (is_told state first (length reads) (length writes)) (numbers (read_page b) first (length reads)) reads
  pub write_pages : writes' ≡ cond (is_told state first (length reads) (length writes)) (numbers (write_page b) first (length writes)) writes

-- what the pages of a board owe
abbrev pub PagesOwes : Board → ℕ → List ℕ → List ℕ → PagesAnswer → List ℕ → List ℕ → Type 0
PagesOwes b first reads writes r reads' writes' = PagesIf (in_range b) b first reads writes r reads' writes'
