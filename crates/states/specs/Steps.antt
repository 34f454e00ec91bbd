-- What the code tests in place of `is_kept`, in four parts, and packs in place of `words_of`; `Judged` and `Moved` of proofs/ join them.
use Rattle.std.specs.Prelude.{ℕ, ◌+◌, ◌*◌, ◌/◌, ◌%◌, Bool, cond, not, ◌&&◌, ◌||◌, eqb, ltb, leb}
use Rattle.rules.specs.Rows.{bytes, digit}
use Rattle.rules.specs.Flat.{flat_digits}
use Rattle.common.specs.declared.Mirroring.{Mirroring}
use Rattle.common.specs.declared.Mode.{Mode}
use Rattle.common.specs.declared.Mode.TheVariants.{Board as OnBoard}
use Rattle.cartridge.specs.Load.{bad_prg, needed, no_powers}
use Rattle.cartridge.specs.Mappers.{is_mapper, mapper_number}
use Rattle.cartridge.specs.declared.MapperType.{MapperType}
use Rattle.cartridge.specs.declared.MapperType.TheVariants.{Nrom, Mmc1, Uxrom, Cnrom, Mmc3}
use Rattle.uxrom.specs.Uxrom as uxrom
use Rattle.cnrom.specs.Cnrom as cnrom
use Rattle.mmc1.specs.Range as mmc1
use Rattle.mmc3.specs.Range as mmc3
use Rattle.mmc3.specs.declared.Mmc3 as mmc3-type
use Rattle.boards.specs.Steps.{turned_fit}
use Rattle.boards.specs.declared.Board.{Board}
use Rattle.states.specs.Words.{mirroring_digit, cart_sizes, mapper_of, mode_in, banks_sizes, banks_word, uxrom_of, cnrom_of, mmc1_of, regs_word, irq_sizes, irq_word, mmc3_of}
use Rattle.states.specs.declared.Words.{Words}

-- the first word, in either mode: version 1, this mapper, PRG RAM or none, nothing above the CHR count, a header's mirroring, and counts that the board takes and the image has
unfoldable pub cart_is_kept : MapperType → ℕ → ℕ → Bool
cart_is_kept k c length =
    let d = flat_digits cart_sizes c in
    eqb (digit d 0) 1
    && eqb (digit d 1) (mapper_number k)
    && ltb (digit d 6) 2
    && ltb c 0x1000000000000
    && ltb (digit d 4) 2
    && not (bad_prg (mapper_number k) (digit d 7))
    && leb (needed (digit d 7) (digit d 8)) length

-- what an iNES header says: PRG RAM, and counts of a byte
unfoldable pub is_ines_word : ℕ → Bool
is_ines_word c =
    let d = flat_digits cart_sizes c in
    eqb (digit d 6) 1 && ltb (digit d 7) 256 && ltb (digit d 8) 256

-- what its mode asks of it: in house mode what iNES says, and the header's mirroring; in board mode the mark or what iNES says, a mirroring that the board may have, and counts that are powers of two
unfoldable pub mode_is_kept : MapperType → ℕ → Bool
mode_is_kept k c =
    let d = flat_digits cart_sizes c in
    cond (eqb (digit d 2) 0) (is_ines_word c && eqb (digit d 5) (digit d 4))
    (not (no_powers OnBoard (digit d 7) (digit d 8)) && (eqb (digit d 3) 1 || is_ines_word c) && turned_fit k (eqb (digit d 5) (digit d 4)) (ltb (digit d 5) 2))

-- MMC1's digits in their ranges, and packed again the same word: no digit of another board
unfoldable pub mmc1_is_kept : ℕ → Bool
mmc1_is_kept b = mmc1.fits (mmc1_of (flat_digits banks_sizes b)) && eqb (banks_word uxrom.start cnrom.start (mmc1_of (flat_digits banks_sizes b))) b

-- of the banks, those of the mapper
unfoldable pub banks_are_kept : MapperType → ℕ → Bool
banks_are_kept Nrom b = eqb b 0
banks_are_kept Mmc1 b = mmc1_is_kept b
banks_are_kept Uxrom b = eqb (banks_word (uxrom_of (flat_digits banks_sizes b)) cnrom.start mmc1.unused) b
banks_are_kept Cnrom b = eqb (banks_word uxrom.start (cnrom_of (flat_digits banks_sizes b)) mmc1.unused) b
banks_are_kept Mmc3 b = eqb b 0

-- MMC3's in their ranges, and packed again the same two words
unfoldable pub mmc3_fits : Mode → mmc3-type.Mmc3 → ℕ → ℕ → Bool
mmc3_fits mode m r q = mmc3.fits mode m && eqb (regs_word m.regs) r && eqb (irq_word m) q

-- or, on another board, at their start: all 0 but for RAM, which is enabled
unfoldable pub mmc3_is_kept : MapperType → ℕ → ℕ → ℕ → Bool
mmc3_is_kept k c r q =
    cond (is_mapper k Mmc3) (mmc3_fits (mode_in (flat_digits cart_sizes c)) (mmc3_of (flat_digits bytes r) (flat_digits irq_sizes q)) r q) (eqb r 0 && eqb q 0x1000000)

-- all four parts
abbrev pub fits_on : MapperType → Words → Bool
fits_on k w = cart_is_kept k w.cart w.length && mode_is_kept k w.cart && banks_are_kept k w.banks && mmc3_is_kept k w.cart w.regs w.irq

-- on the board that the words name
abbrev pub in_parts : Words → Bool
in_parts w = fits_on (mapper_of (flat_digits cart_sizes w.cart)) w

-- the first word with another current mirroring
abbrev pub with_screens : ℕ → Mirroring → ℕ
with_screens c m = c / 0x400000 * 0x400000 + mirroring_digit m * 0x100000 + c % 0x100000

-- the words of a board after a write: the length and those of other boards' registers as they were
unfoldable pub after_write : MapperType → Words → Board → Words
after_write k w b =
    cond (is_mapper k Mmc3)
    (record {
      cart = with_screens w.cart b.mirroring;
      length = w.length;
      banks = w.banks;
      regs = regs_word b.registers.mmc3.regs;
      irq = irq_word b.registers.mmc3;
    })
    (record {
      cart = with_screens w.cart b.mirroring;
      length = w.length;
      banks = banks_word b.registers.uxrom b.registers.cnrom b.registers.mmc1;
      regs = w.regs;
      irq = w.irq;
    })

-- the words of a board after a clock: all but the last as they were
abbrev pub after_clock : Words → Board → Words
after_clock w b =
    record { cart = w.cart; length = w.length; banks = w.banks; regs = w.regs; irq = irq_word b.registers.mmc3 }
