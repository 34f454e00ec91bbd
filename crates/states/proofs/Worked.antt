-- Two first words and three last ones, worked out by hand: those of docs/ABI.md's example, one without PRG RAM, and two of a locked board. Assumes nothing.
use mathlib.Core.Path.{◌≡◌, refl}
use mathlib.Core.Bool.{true, false}
use Rattle.common.specs.declared.Mode.TheVariants.{House, Board as OnBoard}
use Rattle.common.specs.declared.Mirroring.TheVariants.{Horizontal, Vertical}
use Rattle.cartridge.specs.declared.MapperType.TheVariants.{Mmc1, Mmc3}
use mathlib.Core.Bool.{Bool}
use mathlib.Core.List.{[]}
use Rattle.mmc3.specs.declared.Mmc3 as mmc3-type
use Rattle.states.specs.Words.{cart_word, irq_word}

-- MMC3 in house mode, header vertical, one block of each, PRG RAM: "Word 0 is 10 0154 0401 hex"
pub the_example : cart_word (record { mode = House; mapper = Mmc3; nes2 = false; mirroring = Vertical; prgram = true; prg = 1; chr = 1; length = 24592 }) Vertical ≡ 0x1001540401
the_example = refl

-- MMC1 in board mode, marked, horizontal, one PRG block, CHR RAM, no PRG RAM: above version and mapper 3 = 1 + 2 x 1, above that 1
pub without_prg_ram : cart_word (record { mode = OnBoard; mapper = Mmc1; nes2 = true; mirroring = Horizontal; prgram = false; prg = 1; chr = 0; length = 16400 }) Horizontal ≡ 0x1030101
without_prg_ram = refl

-- the unit of the example, with these marks of RAM
abbrev marked : Bool → Bool → mmc3-type.Mmc3
marked enabled denied =
    record {
      select = 2;
      prgmode = 0;
      chrmode = 0;
      regs = [];
      irq = record { enabled = true; latch = 1; counter = 1; reload = false };
      line = false;
      ram = record { enabled = enabled; denied = denied };
    }

-- "Word 4 is 122 0101 hex: .. above that 1: RAM enabled, writes not denied"
pub the_last_word : irq_word (marked true false) ≡ 0x1220101
the_last_word = refl

-- disabled, and writes denied: the bit above it alone
pub disabled_and_denied : irq_word (marked false true) ≡ 0x2220101
disabled_and_denied = refl

pub enabled_and_denied : irq_word (marked true true) ≡ 0x3220101
enabled_and_denied = refl
