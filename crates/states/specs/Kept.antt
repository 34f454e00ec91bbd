-- Which words are a board's: docs/ABI.md, "The state". All others are refused with 10.
use Rattle.std.specs.Prelude.{ℕ, ◌<◌, Bool, ◌&&◌, List, [], ◌∷◌, ◌++◌}
use Rattle.rules.specs.Rows.{Fits, bytes}
use Rattle.boards.specs.Range.{in_range}
use Rattle.boards.specs.declared.Board.{Board}
use Rattle.states.specs.Words.{cart_digits, banks_digits, regs_digits, irq_digits, board_in, words_of, same}
use Rattle.states.specs.declared.Words.{Words}

-- every field of the board that they hold is in its range, and packed again it gives them: so "what is above a word's last digit is 0", and a reserved digit has its value
unfoldable pub is_kept : Words → Bool
is_kept w = in_range (board_in w) && same (words_of (board_in w)) w

-- the digits of a board, in the order of the table
abbrev pub board_digits : Board → List ℕ
board_digits b =
    cart_digits b.cart b.mirroring
    ++ (b.cart.length ∷ [])
    ++ banks_digits b.registers.uxrom b.registers.cnrom b.registers.mmc1
    ++ regs_digits b.registers.mmc3.regs
    ++ irq_digits b.registers.mmc3

-- a board of the Rattle program has its numbers from u8, u16 and usize, and eight registers; the range gives the others
pub record OfItsTypes (b : Board) : Type 0 where
  pub image : b.cart.length < 0x10000000000000000
  pub uxrom_bank : b.registers.uxrom.bank < 0x100
  pub registers : Fits bytes b.registers.mmc3.regs
  pub latch : b.registers.mmc3.irq.latch < 0x100
  pub counter : b.registers.mmc3.irq.counter < 0x100

-- five words of 64 bits
pub record OfWords (w : Words) : Type 0 where
  pub cart : w.cart < 0x10000000000000000
  pub length : w.length < 0x10000000000000000
  pub banks : w.banks < 0x10000000000000000
  pub regs : w.regs < 0x10000000000000000
  pub irq : w.irq < 0x10000000000000000
