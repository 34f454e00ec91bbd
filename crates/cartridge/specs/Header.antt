-- The header: document 01, "Header (000, iNES)".
use Rattle.std.specs.Prelude.{ℕ, ◌+◌, ◌*◌, ◌/◌, ◌%◌, Bool, cond, not, ◌&&◌, List, [], ◌∷◌, ltb, eqb, length, Result, Ok, Err}
use Rattle.common.specs.Common.{KB8, KB16}
use Rattle.common.specs.declared.Refusal.{Refusal}
use Rattle.common.specs.declared.Mirroring.{Mirroring}
use Rattle.common.specs.declared.Mirroring.TheVariants.{Horizontal, Vertical}
use Rattle.memory.specs.Memory.{byte}
use Rattle.cartridge.specs.Refusals.{Row, given, first}
use Rattle.cartridge.specs.declared.Header.{Header}
use Rattle.cartridge.specs.Refusals.{Verdict}

-- refusals 2 and 3: "bytes 0-3 are not 4E 45 53 1A"
unfoldable pub is_ines : List ℕ → Bool
is_ines s = eqb (byte s 0) 0x4E && eqb (byte s 1) 0x45 && eqb (byte s 2) 0x53 && eqb (byte s 3) 0x1A

-- "The header reader answers bytes 4 to 15 as they stand"
unfoldable pub header_of : List ℕ → Header
header_of s =
    record {
      prg = byte s 4;
      chr = byte s 5;
      flags6 = byte s 6;
      flags7 = byte s 7;
      flags8 = byte s 8;
      flags9 = byte s 9;
      flags10 = byte s 10;
      flags11 = byte s 11;
      flags12 = byte s 12;
      flags13 = byte s 13;
      flags14 = byte s 14;
      flags15 = byte s 15;
    }

-- "header reader": 1 "fewer than 16 bytes", 2 "bytes 0-3 are not 4E 45 53 1A"
abbrev pub header_refusals : List ℕ → List Row
header_refusals s =
    given 1 (ltb (length s) 16)
    ∷ given 2 (not (is_ines s))
    ∷ []

-- what the header reader answers
abbrev pub HeaderAnswer : Type 0
HeaderAnswer = Result Header Refusal

-- "A refusal yields its number only"
unfoldable pub header_as : Verdict → Header → HeaderAnswer
header_as (Ok tt) h = Ok h
header_as (Err why) h = Err why

-- the header reader
unfoldable pub header_read : List ℕ → HeaderAnswer
header_read s = header_as (first (header_refusals s)) (header_of s)

-- "`total_size_excluding_header` is the sum of both in bytes"
abbrev pub total_size : Header → ℕ
total_size h = h.prg * KB16 + h.chr * KB8

-- "Mapper is the high nibble of byte 7 over the high nibble of byte 6"
abbrev pub mapper_of : Header → ℕ
mapper_of h = h.flags7 / 16 * 16 + h.flags6 / 16

-- "Byte 6 bit 0: 1 vertical, 0 horizontal"
unfoldable pub mirroring_of : Header → Mirroring
mirroring_of h = cond (eqb (h.flags6 % 2) 1) Vertical Horizontal

-- "Byte 7 AND 0C equal to 08 marks NES 2.0": of bits 2 and 3 the upper alone
abbrev pub is_nes2 : Header → Bool
is_nes2 h = eqb (h.flags7 / 4 % 4) 2

-- refusal 5: "byte 6 has bit 2 or bit 3"
abbrev pub is_special : Header → Bool
is_special h = not (eqb (h.flags6 / 4 % 4) 0)
