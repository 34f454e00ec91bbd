-- An image that is not read as NES 2.0 has the numbers that iNES says, and PRG RAM. Assumes nothing.
use mathlib.Core.Path.{◌≡◌, refl}
use mathlib.Core.Bool.{true, false}
use Rattle.common.specs.declared.Mode.{Mode}
use Rattle.cartridge.specs.Header.{mapper_of}
use Rattle.cartridge.specs.Nes2.{extended, mapper_in, prg_in, chr_in, nes2_not_taken, has_prg_ram}
use Rattle.cartridge.specs.declared.Header.{Header}

module _ (mode : Mode) (h : Header) (e : extended mode h ≡ false) where
  pub plain_mapper : mapper_in mode h ≡ mapper_of h
  unfolding mapper_in
  plain_mapper = rw e refl

  pub plain_prg : prg_in mode h ≡ h.prg
  unfolding prg_in
  plain_prg = rw e refl

  pub plain_chr : chr_in mode h ≡ h.chr
  unfolding chr_in
  plain_chr = rw e refl

  pub plain_taken : nes2_not_taken mode h ≡ false
  unfolding nes2_not_taken
  plain_taken = rw e refl

  pub plain_ram : has_prg_ram mode h ≡ true
  unfolding has_prg_ram
  plain_ram = rw e refl
