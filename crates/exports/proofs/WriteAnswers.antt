-- What a write tells of the pages stands above its answer: every answer is below 0x10000. Assumes nothing.
use Rattle.std.specs.Prelude.{Some, None, Ok, Err}
use Prim.Native.Nat.{ℕ, ◌+◌, ◌*◌, ◌/◌, ◌%◌, ◌<◌}
use mathlib.Core.Path.{◌≡◌}
use mathlib.Core.Bool.{Bool, true, false, cond}
use native.Mathlib.Omega.{arith}
use Rattle.common.specs.Answers.{mirroring_letter}
use Rattle.common.specs.declared.Mirroring.{Mirroring}
use Rattle.common.specs.declared.Mirroring.TheVariants.{Horizontal, Vertical, SingleScreenUpper, SingleScreenLower}
use Rattle.boards.specs.Write.{WriteAnswer}
use Rattle.pages.specs.declared.Parts.{Parts}
use Rattle.pages.proofs.Refusals.{refusals_few}
use Rattle.exports.specs.Numbers.{refused, write_number, moved_number}

small_letter : (m : Mirroring) → mirroring_letter m < 256
small_letter Horizontal = omega arith
small_letter Vertical = omega arith
small_letter SingleScreenUpper = omega arith
small_letter SingleScreenLower = omega arith

small : (w : WriteAnswer) → write_number w < 0x10000
unfolding write_number refused
small (Ok None) = omega arith
small (Ok (Some m)) = omega (arith, small_letter m)
small (Err why) = omega (arith, refusals_few why)

-- the answer that a caller takes apart: the write's below, a bit for each part above
pub record Apart (r n : ℕ) (p : Parts) : Type 0 where
  pub write : r % 0x10000 ≡ n
  pub chr : r / 0x10000 % 2 ≡ cond p.chr 1 0
  pub prg : r / 0x20000 % 2 ≡ cond p.prg 1 0
  pub ram : r / 0x40000 ≡ cond p.ram 1 0

-- a bit is its value times 0 or 1
as_product : (t : Bool) (v : ℕ) → cond t v 0 ≡ v * cond t 1 0
as_product true v = omega arith
as_product false v = omega arith

one_bit : (t : Bool) → cond t 1 0 < 2
one_bit true = omega arith
one_bit false = omega arith

-- of any answer of a write
pub answer_parts : (w : WriteAnswer) (p : Parts) → Apart (write_number w + moved_number p) (write_number w) p
unfolding moved_number
answer_parts w p =
    rw (as_product p.chr 0x10000, as_product p.prg 0x20000, as_product p.ram 0x40000)
    (record {
      write = omega (arith, small w);
      chr = omega (arith, small w, one_bit p.chr);
      prg = omega (arith, small w, one_bit p.chr, one_bit p.prg);
      ram = omega (arith, small w, one_bit p.chr, one_bit p.prg);
    })
