-- State ranges: "Mapper, counts, length and mirroring as a load could leave them": the image that leaves a cartridge, and how long an image has to be.
use Rattle.std.specs.Prelude.{ℕ, ◌+◌, ◌-◌, ◌*◌, ◌/◌, ◌%◌, ◌≤◌, ◌≡◌, Bool, false, cond, List, [], ◌∷◌, ◌++◌, replicate, Ok}
use Rattle.common.specs.Answers.{among}
use Rattle.memory.specs.Memory.{AreBytes}
use Rattle.cartridge.specs.Nes2.{is_nes2_in}
use Rattle.cartridge.specs.Load.{needed, has_chr_ram, load}
use Rattle.cartridge.specs.Mappers.{mapper_number}
use Rattle.cartridge.specs.declared.Cartridge.{Cartridge}

-- byte 6: the mapper over "bit 0: 1 vertical, 0 horizontal"
abbrev pub byte6 : Cartridge → ℕ
byte6 c = mapper_number c.mapper * 16 + among 0 1 0 0 c.mirroring

-- byte 7: the mark
abbrev pub byte7 : Cartridge → ℕ
byte7 c = cond c.nes2 8 0

-- byte 9: what bytes 4 and 5 have no room for
abbrev pub byte9 : Cartridge → ℕ
byte9 c = c.prg / 256 + c.chr / 256 * 16

-- bytes 10 and 11: a RAM of 8,192 bytes, or none
abbrev pub shifts : Bool → ℕ
shifts there = cond there 7 0

-- the sixteen bytes of its header
abbrev pub header_for : Cartridge → List ℕ
header_for c =
    0x4E ∷ 0x45 ∷ 0x53 ∷ 0x1A ∷ c.prg % 256 ∷ c.chr % 256 ∷ byte6 c ∷ byte7 c ∷ 0 ∷ byte9 c ∷ shifts c.prgram ∷ shifts (has_chr_ram c) ∷ 0 ∷ 0 ∷ 0 ∷ 0
    ∷ []

-- an image of its length, zero after its header
abbrev pub image_for : Cartridge → List ℕ
image_for c = header_for c ++ replicate (c.length - 16) 0

-- an image of bytes whose load in the cartridge's mode, with both RAMs lent whole, leaves the cartridge
pub record Leaves (s : List ℕ) (c : Cartridge) : Type 0 where
  pub are_bytes : AreBytes s
  pub accepted : load s c.mode 8192 8192 ≡ Ok c

-- how long an image has to be for its counts: "Greatest needed length: 6,266,896", and with M-100's counts 50,331,664; and the image is as long
pub record Needs (c : Cartridge) : Type 0 where
  pub as_ines : is_nes2_in c.mode c.nes2 ≡ false → needed c.prg c.chr ≤ 6266896
  pub as_any : needed c.prg c.chr ≤ 50331664
  pub is_there : needed c.prg c.chr ≤ c.length
