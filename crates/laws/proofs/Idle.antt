-- What only MMC3 in board mode moves, its line and its marks of RAM, stands at its start at load, in house mode and on other boards. M-101: "The line is low at load and
-- always low in house mode and on other boards"; M-111: "We start it enabled and writable", "on the other boards and in house mode they stay" so. Assumes nothing.
use Prim.Native.Nat.{ℕ}
use mathlib.Core.Path.{◌≡◌, sym, ap, ◌∙◌}
use mathlib.Core.Bool.{Bool, true, false, cond, not}
use mathlib.Core.List.{List}
use native.Mathlib.Omega.{arith}
use lib.ListN.{length}
use borrow.Author.Tests.{not-true}
use Rattle.std.proofs.lemmas.Bool.{and_parts}
use Rattle.rules.proofs.Bools.{either}
use Rattle.common.specs.declared.Mode.{Mode}
use Rattle.common.specs.declared.Mode.TheVariants.{House}
use Rattle.cartridge.specs.Load.{load}
use Rattle.cartridge.specs.Mappers.{is_mapper}
use Rattle.cartridge.specs.Load.{Loaded}
use Rattle.cartridge.specs.declared.MapperType.TheVariants.{Mmc3}
use Rattle.mmc3.specs.Ram.{ram_start}
use Rattle.mmc3.specs.Range.{start, line_fits, ram_is_start, ram_fits, fits, is_start}
use Rattle.mmc3.specs.declared.Mmc3 as mmc3-type
use Rattle.mmc3.specs.declared.RamMarks.{RamMarks}
use Rattle.boards.specs.Registers as registers
use Rattle.boards.specs.Registers.{part_fits}
use Rattle.boards.specs.Range.{in_range}
use Rattle.boards.specs.Start.{start_of, no_board, loaded_board, board_of}
use Rattle.boards.specs.declared.Board.{Board}
use Rattle.laws.specs.Calls.{load_with}
use Rattle.laws.proofs.Mmc3Ranges.{ranged}
use Rattle.laws.proofs.Ranges.{parts, three}

-- the line is low, and RAM enabled and writable
pub record Idle (b : Board) : Type 0 where
  pub low : b.registers.mmc3.line ≡ false
  pub open_ram : b.registers.mmc3.ram ≡ ram_start

are_start : (r : RamMarks) → ram_is_start r ≡ true → r ≡ ram_start
unfolding ram_is_start
are_start r h =
    let p = and_parts r.enabled (not r.denied) h in
    let d = not-true r.denied p.1 in
    λ i. record { enabled = p.0 i; denied = d i }

-- after a load, accepted or not
of_loaded : (x : Loaded) → Idle (board_of (loaded_board x))
unfolding loaded_board board_of no_board start_of registers.start start
of_loaded x = grind arith

pub idle_at_load : (mode : Mode) (s prg chr : List ℕ) → Idle (load_with mode s prg chr).left
idle_at_load mode s prg chr = of_loaded (load s mode (length prg) (length chr))

module _ (b : Board) where
  abbrev mmc3 : mmc3-type.Mmc3
  mmc3 = b.registers.mmc3

  -- by the range of house mode
  of_house : fits House mmc3 ≡ true → Idle b
  unfolding line_fits ram_fits
  of_house h = let r = ranged House mmc3 h in record { low = not-true mmc3.line r.line; open_ram = are_start mmc3.ram r.ram }

  -- by the start that another board asks of it
  of_start : is_start mmc3 ≡ true → Idle b
  unfolding is_start
  of_start h =
      record { low = not-true mmc3.line (grind arith); open_ram = are_start mmc3.ram (grind arith) }

  part : in_range b ≡ true → cond (is_mapper b.cart.mapper Mmc3) (fits b.cart.mode mmc3) (is_start mmc3) ≡ true
  unfolding part_fits
  part h = (parts b.cart.mapper b.cart.mode b.registers (three b h).1).3

  pub idle_in_house_mode : b.cart.mode ≡ House → in_range b ≡ true → Idle b
  idle_in_house_mode e h =
      either (λ (t : Bool). t ≡ true → Idle b) (is_mapper b.cart.mapper Mmc3) (λ f. of_house (ap (λ (mode : Mode). fits mode mmc3) (sym e) ∙ f)) of_start (part h)

  pub idle_on_other_boards : is_mapper b.cart.mapper Mmc3 ≡ false → in_range b ≡ true → Idle b
  idle_on_other_boards e h = of_start (ap (λ (own : Bool). cond own (fits b.cart.mode mmc3) (is_start mmc3)) (sym e) ∙ part h)
