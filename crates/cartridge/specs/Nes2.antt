-- NES 2.0 images: document 02, M-100. House mode reads no image so, board mode one that byte 7 marks: elsewhere each number is what iNES says.
use Rattle.std.specs.Prelude.{ℕ, ◌+◌, ◌*◌, ◌/◌, ◌%◌, Bool, true, false, cond, not, ◌&&◌, ◌||◌, eqb}
use Rattle.common.specs.declared.Mode.{Mode}
use Rattle.common.specs.declared.Mode.TheVariants.{House, Board}
use Rattle.cartridge.specs.Header.{mapper_of, is_nes2}
use Rattle.cartridge.specs.declared.Header.{Header}

-- "In board mode, where byte 7 marks NES 2.0"; of the mode and the mark
unfoldable pub is_nes2_in : Mode → Bool → Bool
is_nes2_in House mark = false
is_nes2_in Board mark = mark

-- a header that is read so
abbrev pub extended : Mode → Header → Bool
extended mode h = is_nes2_in mode (is_nes2 h)

-- a number of iNES, or where the header is read so the longer one: a nibble extends it "by 256 each"
abbrev pub longer : Mode → Header → ℕ → ℕ → ℕ
longer mode h n nibble = cond (extended mode h) (n + nibble * 256) n

-- "the low nibble of byte 8 extends the mapper number"
unfoldable pub mapper_in : Mode → Header → ℕ
mapper_in mode h = longer mode h (mapper_of h) (h.flags8 % 16)

-- "its high nibble is the submapper and is to be 0"
unfoldable pub has_submapper : Header → Bool
has_submapper h = not (eqb (h.flags8 / 16) 0)

-- "Byte 9 extends the PRG count (low nibble)"
unfoldable pub prg_in : Mode → Header → ℕ
prg_in mode h = longer mode h h.prg (h.flags9 % 16)

-- "and CHR count (high nibble)"
unfoldable pub chr_in : Mode → Header → ℕ
chr_in mode h = longer mode h h.chr (h.flags9 / 16)

-- "a nibble of 15 is the exponent form, which we do not take"
unfoldable pub has_exponent : Header → Bool
has_exponent h = eqb (h.flags9 % 16) 15 || eqb (h.flags9 / 16) 15

-- "in each byte the two nibbles are both 0, or one is 0 and the other 7, which means 8,192 bytes"
unfoldable pub is_shifts : ℕ → Bool
is_shifts b = eqb b 0x00 || eqb b 0x07 || eqb b 0x70

-- "CHR RAM is present exactly when the CHR count is 0, and byte 11 has to say the same": of the count and the byte, it says something else
unfoldable pub says_otherwise : ℕ → ℕ → Bool
says_otherwise chr byte11 = (eqb chr 0 && eqb byte11 0) || (not (eqb chr 0) && not (eqb byte11 0))

-- refusal 16: "anything above not taken"
unfoldable pub nes2_not_taken : Mode → Header → Bool
nes2_not_taken mode h =
    extended mode h
    && (has_submapper h || has_exponent h || not (is_shifts h.flags10) || not (is_shifts h.flags11) || says_otherwise (chr_in mode h) h.flags11)

-- "Without PRG RAM, which the board notes": byte 10 has both shifts 0; every other image has PRG RAM
unfoldable pub has_prg_ram : Mode → Header → Bool
has_prg_ram mode h = cond (extended mode h) (not (eqb h.flags10 0)) true
