-- The board that a load gives.
use Rattle.std.specs.Prelude.{ℕ, ◌≡◌, true, false, List, length, Result, Ok, Err}
use Rattle.common.specs.declared.Refusal.{Refusal}
use Rattle.common.specs.declared.Mode.{Mode}
use Rattle.common.specs.declared.Mode.TheVariants.{House}
use Rattle.common.specs.declared.Mirroring.TheVariants.{Horizontal}
use Rattle.cartridge.specs.Load as Cartridges
use Rattle.cartridge.specs.Load.{verdict, ram_after}
use Rattle.cartridge.specs.declared.Cartridge.{Cartridge}
use Rattle.cartridge.specs.declared.MapperType.TheVariants.{Nrom}
use Rattle.boards.specs.Registers.{start}
use Rattle.boards.specs.declared.Board.{Board}

-- the registers of its mapper at their start; "the current mirroring .. starts as the header's"
unfoldable pub start_of : Cartridge → Board
start_of c = record { cart = c; mirroring = c.mirroring; registers = start c.mapper }

-- what a load answers: the board, or "A refusal yields its number only"
abbrev pub Loaded : Type 0
Loaded = Result Board Refusal

-- of it the answer alone: accepted, or the refusal
abbrev pub LoadAnswer : Type 0
LoadAnswer = Result Unit Refusal

-- a board without an image, which every call refuses: what a caller that has to hold some board holds after a refused load
unfoldable pub no_board : Board
no_board = start_of (record { mode = House; mapper = Nrom; nes2 = false; mirroring = Horizontal; prgram = true; prg = 0; chr = 0; length = 0 })

-- an accepted cartridge starts its board
unfoldable pub loaded_board : Cartridges.Loaded → Loaded
loaded_board (Ok c) = Ok (start_of c)
loaded_board (Err why) = Err why

-- the board that a load gives, or the one that stands for none
unfoldable pub board_of : Loaded → Board
board_of (Ok b) = b
board_of (Err why) = no_board

-- whether it was accepted
unfoldable pub load_answer : Loaded → LoadAnswer
load_answer (Ok b) = Ok tt
load_answer (Err why) = Err why

-- the load of an image, in a mode, with two RAMs of these lengths lent: the board, or the refusal
abbrev pub load : List ℕ → Mode → ℕ → ℕ → Loaded
load s mode prg chr = loaded_board (Cartridges.load s mode prg chr)

-- what a load owes its caller: the board or the refusal, and both RAMs
pub record LoadOwes (s : List ℕ) (mode : Mode) (prg chr : List ℕ) (r : Loaded) (prg' chr' : List ℕ) : Type 0 where
  pub reply : r ≡ load s mode (length prg) (length chr)
  pub prg_ram : prg' ≡ ram_after (verdict s mode (length prg) (length chr)) prg
  pub chr_ram : chr' ≡ ram_after (verdict s mode (length prg) (length chr)) chr
