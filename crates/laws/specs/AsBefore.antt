-- M-100 leaves every other load as it was: document 01's list and cartridge, which hold of each image that is not read as NES 2.0, so in house mode of all.
use Rattle.std.specs.Prelude.{ℕ, ◌≡◌, true, not, ◌||◌, List, [], ◌∷◌, ltb, length}
use Rattle.common.specs.declared.Mode.{Mode}
use Rattle.cartridge.specs.Refusals.{Row, given, first}
use Rattle.cartridge.specs.Header.{is_ines, header_of, mapper_of, mirroring_of, is_nes2, is_special}
use Rattle.cartridge.specs.Load.{bad_prg, needed, no_powers, rams_fit, verdict, cartridge_of}
use Rattle.cartridge.specs.Mappers.{mapper_type}
use Rattle.cartridge.specs.declared.Header.{Header}
use Rattle.cartridge.specs.declared.Cartridge.{Cartridge}

-- 6, 7 and 8 of document 01
abbrev pub last_three : List ℕ → Mode → List Row
last_three s mode =
    let h = header_of s in
    given 6 (bad_prg (mapper_of h) h.prg)
    ∷ given 7 (ltb (length s) (needed h.prg h.chr))
    ∷ given 8 (no_powers mode h.prg h.chr)
    ∷ []

-- "Order in load: 9, 3, 4, 5, 6, 7, 8"
abbrev pub ines_refusals : List ℕ → Mode → ℕ → ℕ → List Row
ines_refusals s mode prg chr =
    let h = header_of s in
    given 9 (not (rams_fit prg chr))
    ∷ given 3 (ltb (length s) 16400 || not (is_ines s))
    ∷ given 4 (ltb 4 (mapper_of h))
    ∷ given 5 (is_special h)
    ∷ last_three s mode

-- what an accepted load keeps: bytes 4 and 5 as the counts, and PRG RAM
abbrev pub ines_cartridge : Header → Mode → ℕ → Cartridge
ines_cartridge h mode len =
    record {
      mode = mode;
      mapper = mapper_type (mapper_of h);
      nes2 = is_nes2 h;
      mirroring = mirroring_of h;
      prgram = true;
      prg = h.prg;
      chr = h.chr;
      length = len;
    }

-- a load of the image decides and keeps what it did
pub record AsBefore (s : List ℕ) (mode : Mode) (prg chr : ℕ) : Type 0 where
  pub the_verdict : verdict s mode prg chr ≡ first (ines_refusals s mode prg chr)
  pub the_cartridge : cartridge_of (header_of s) mode (length s) ≡ ines_cartridge (header_of s) mode (length s)
