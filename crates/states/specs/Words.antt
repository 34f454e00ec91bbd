-- A board as five words, each a row of digits, the first one lowest: docs/ABI.md, "The state".
use Rattle.std.specs.Prelude.{ℕ, Bool, cond, ◌&&◌, List, [], ◌∷◌, ◌++◌, eqb}
use mir.Val.{bool_byte}
use Rattle.rules.specs.Rows.{digit, bytes}
use Rattle.rules.specs.Flat.{flat_word, flat_digits}
use Rattle.common.specs.Common.{mode_number, mode_of}
use Rattle.common.specs.declared.Mode.{Mode}
use Rattle.common.specs.declared.Mirroring.{Mirroring}
use Rattle.common.specs.declared.Mirroring.TheVariants.{Horizontal, Vertical, SingleScreenUpper, SingleScreenLower}
use Rattle.cartridge.specs.Mappers.{mapper_number, mapper_type}
use Rattle.cartridge.specs.declared.Cartridge.{Cartridge}
use Rattle.cartridge.specs.declared.MapperType.{MapperType}
use Rattle.uxrom.specs.declared.Uxrom.{Uxrom}
use Rattle.cnrom.specs.declared.Cnrom.{Cnrom}
use Rattle.mmc1.specs.declared.Mmc1.{Mmc1}
use Rattle.mmc3.specs.declared.Mmc3.{Mmc3}
use Rattle.boards.specs.declared.Board.{Board}
use Rattle.boards.specs.declared.Registers.{Registers}
use Rattle.states.specs.declared.Words.{Words}

-- a mirroring's digit: H, V, upper, lower
abbrev pub mirroring_digit : Mirroring → ℕ
mirroring_digit Horizontal = 0
mirroring_digit Vertical = 1
mirroring_digit SingleScreenUpper = 2
mirroring_digit SingleScreenLower = 3

-- the mirroring of a digit
unfoldable pub mirroring_of : ℕ → Mirroring
mirroring_of d = cond (eqb d 0) Horizontal (cond (eqb d 1) Vertical (cond (eqb d 2) SingleScreenUpper SingleScreenLower))

-- word 0: version, mapper, mode, NES 2.0 mark, header's mirroring, current mirroring, PRG RAM, PRG count, CHR count
abbrev pub cart_sizes : List ℕ
cart_sizes = 0x100 ∷ 0x100 ∷ 2 ∷ 2 ∷ 4 ∷ 4 ∷ 4 ∷ 0x1000 ∷ 0x1000 ∷ []

-- "version 1"; PRG RAM 1 where it is there
abbrev pub cart_digits : Cartridge → Mirroring → List ℕ
cart_digits c m =
    1 ∷ mapper_number c.mapper ∷ mode_number c.mode ∷ bool_byte c.nes2 ∷ mirroring_digit c.mirroring ∷ mirroring_digit m ∷ bool_byte c.prgram
    ∷ c.prg ∷ c.chr
    ∷ []

-- word 0 of a cartridge and the current mirroring
abbrev pub cart_word : Cartridge → Mirroring → ℕ
cart_word c m = flat_word cart_sizes (cart_digits c m)

-- what these digits say of the mapper
abbrev pub mapper_of : List ℕ → MapperType
mapper_of d = mapper_type (digit d 1)

-- what they say of the mode
abbrev pub mode_in : List ℕ → Mode
mode_in d = mode_of (digit d 2)

-- what these digits say of the cartridge; word 1 is the image's length
abbrev pub cart_of : List ℕ → ℕ → Cartridge
cart_of d length =
    record {
      mode = mode_in d;
      mapper = mapper_of d;
      nes2 = eqb (digit d 3) 1;
      mirroring = mirroring_of (digit d 4);
      prgram = eqb (digit d 6) 1;
      prg = digit d 7;
      chr = digit d 8;
      length = length;
    }

-- what these digits say of the current mirroring
abbrev pub screens_of : List ℕ → Mirroring
screens_of d = mirroring_of (digit d 5)

-- word 2: UxROM bank, CNROM bank, AxROM bank, GxROM's PRG and CHR bank; MMC1 serial count and value, PRG mode, CHR mode, CHR 0, CHR 1, PRG
abbrev pub banks_sizes : List ℕ
banks_sizes = 0x100 ∷ 4 ∷ 8 ∷ 4 ∷ 4 ∷ 8 ∷ 32 ∷ 4 ∷ 2 ∷ 32 ∷ 32 ∷ 16 ∷ []

-- AxROM's and GxROM's are reserved
abbrev pub banks_digits : Uxrom → Cnrom → Mmc1 → List ℕ
banks_digits u c m =
    u.bank ∷ c.bank ∷ 0 ∷ 0 ∷ 0 ∷ m.serial.count ∷ m.serial.value ∷ m.regs.prgmode ∷ m.regs.chrmode ∷ m.regs.chr0 ∷ m.regs.chr1
    ∷ m.regs.prg
    ∷ []

-- word 2 of the boards' banks
abbrev pub banks_word : Uxrom → Cnrom → Mmc1 → ℕ
banks_word u c m = flat_word banks_sizes (banks_digits u c m)

-- what these digits say of UxROM
abbrev pub uxrom_of : List ℕ → Uxrom
uxrom_of d = record { bank = digit d 0 }

-- what they say of CNROM
abbrev pub cnrom_of : List ℕ → Cnrom
cnrom_of d = record { bank = digit d 1 }

-- what they say of MMC1
abbrev pub mmc1_of : List ℕ → Mmc1
mmc1_of d =
    record {
      serial = record { count = digit d 5; value = digit d 6 };
      regs = record { prgmode = digit d 7; chrmode = digit d 8; chr0 = digit d 9; chr1 = digit d 10; prg = digit d 11 };
    }

-- word 3: MMC3 R0 to R7, a byte each
abbrev pub regs_digits : List ℕ → List ℕ
regs_digits r = digit r 0 ∷ digit r 1 ∷ digit r 2 ∷ digit r 3 ∷ digit r 4 ∷ digit r 5 ∷ digit r 6 ∷ digit r 7 ∷ []

-- word 3 of the eight registers
abbrev pub regs_word : List ℕ → ℕ
regs_word r = flat_word bytes (regs_digits r)

-- word 4: MMC3 latch, counter, select, PRG mode, CHR mode, IRQ enabled, reload mark, IRQ line; RAM enabled, RAM writes denied
abbrev pub irq_sizes : List ℕ
irq_sizes = 0x100 ∷ 0x100 ∷ 8 ∷ 2 ∷ 2 ∷ 2 ∷ 2 ∷ 2 ∷ 2 ∷ 2 ∷ []

-- the digits of that word
abbrev pub irq_digits : Mmc3 → List ℕ
irq_digits m =
    m.irq.latch ∷ m.irq.counter ∷ m.select ∷ m.prgmode ∷ m.chrmode ∷ bool_byte m.irq.enabled ∷ bool_byte m.irq.reload ∷ bool_byte m.line
    ∷ bool_byte m.ram.enabled ∷ bool_byte m.ram.denied
    ∷ []

-- word 4 of the rest of MMC3
abbrev pub irq_word : Mmc3 → ℕ
irq_word m = flat_word irq_sizes (irq_digits m)

-- what the digits of words 3 and 4 say of MMC3
abbrev pub mmc3_of : List ℕ → List ℕ → Mmc3
mmc3_of r q =
    record {
      select = digit q 2;
      prgmode = digit q 3;
      chrmode = digit q 4;
      regs = regs_digits r;
      irq = record { enabled = eqb (digit q 5) 1; latch = digit q 0; counter = digit q 1; reload = eqb (digit q 6) 1 };
      line = eqb (digit q 7) 1;
      ram = record { enabled = eqb (digit q 8) 1; denied = eqb (digit q 9) 1 };
    }

-- the words of a board
unfoldable pub words_of : Board → Words
words_of b =
    record {
      cart = cart_word b.cart b.mirroring;
      length = b.cart.length;
      banks = banks_word b.registers.uxrom b.registers.cnrom b.registers.mmc1;
      regs = regs_word b.registers.mmc3.regs;
      irq = irq_word b.registers.mmc3;
    }

-- what the digits of words 2 to 4 say of all registers
abbrev pub registers_of : List ℕ → List ℕ → List ℕ → Registers
registers_of b r q = record { uxrom = uxrom_of b; cnrom = cnrom_of b; mmc1 = mmc1_of b; mmc3 = mmc3_of r q }

-- the board of four rows of digits and a length
abbrev pub board_of : List ℕ → ℕ → List ℕ → List ℕ → List ℕ → Board
board_of c length b r q = record { cart = cart_of c length; mirroring = screens_of c; registers = registers_of b r q }

-- the board that the digits of any words give
unfoldable pub board_in : Words → Board
board_in w =
    board_of (flat_digits cart_sizes w.cart) w.length (flat_digits banks_sizes w.banks) (flat_digits bytes w.regs)
    (flat_digits irq_sizes w.irq)

-- the digits of all five words, in the order of the table
abbrev pub digits_of : Words → List ℕ
digits_of w =
    flat_digits cart_sizes w.cart
    ++ (w.length ∷ [])
    ++ flat_digits banks_sizes w.banks
    ++ flat_digits bytes w.regs
    ++ flat_digits irq_sizes w.irq

-- whether all five words are the same
unfoldable pub same : Words → Words → Bool
same v w = eqb v.cart w.cart && eqb v.length w.length && eqb v.banks w.banks && eqb v.regs w.regs && eqb v.irq w.irq
