-- The range of a cartridge, taken apart and put together; a count that board mode takes is at most 2,048. Assumes nothing.
use Prim.Native.Nat.{ℕ, ◌≤◌, ◌<◌}
use mathlib.Core.Path.{◌≡◌, refl, subst}
use mathlib.Core.Bool.{Bool, true, false}
use native.Mathlib.Omega.{arith}
use borrow.Author.Tests.{ltb-true, leb-true, lt-ltb, le-leb, eqb-true}
use lib.Dec.{eqb}
use Rattle.common.specs.Answers.{is_headers}
use Rattle.common.specs.declared.Mode.{Mode}
use Rattle.common.specs.declared.Mode.TheVariants.{Board}
use Rattle.cartridge.specs.Nes2.{is_nes2_in}
use Rattle.cartridge.specs.Load.{no_powers, bad_prg, needed, counts_end, prg_ram_fits, could_load}
use Rattle.cartridge.specs.Mappers.{mapper_number}
use Rattle.cartridge.specs.declared.Cartridge.{Cartridge}
use Rattle.cartridge.proofs.Powers.{power_small}

-- what the range says of each field
pub record Fields (c : Cartridge) : Type 0 where
  pub prg_taken : bad_prg (mapper_number c.mapper) c.prg ≡ false
  pub powers : no_powers c.mode c.prg c.chr ≡ false
  pub prg_small : c.prg < counts_end c.mode c.nes2
  pub chr_small : c.chr < counts_end c.mode c.nes2
  pub room : needed c.prg c.chr ≤ c.length
  pub headers : is_headers c.mirroring ≡ true
  pub noted : prg_ram_fits c ≡ true

module _ (c : Cartridge) where
  pub fields : could_load c ≡ true → Fields c
  unfolding could_load
  fields h = record {
    prg_taken = grind arith;
    powers = grind arith;
    prg_small = grind (arith, ltb-true);
    chr_small = grind (arith, ltb-true);
    room = grind (arith, leb-true);
    headers = grind arith;
    noted = grind arith;
  }

  pub is_in_range : Fields c → could_load c ≡ true
  unfolding could_load
  is_in_range f =
      let prg = lt-ltb c.prg (counts_end c.mode c.nes2) f.prg_small in
      let chr = lt-ltb c.chr (counts_end c.mode c.nes2) f.chr_small in
      let room = le-leb (needed c.prg c.chr) c.length f.room in
      grind arith

pub counts_end_small : (mode : Mode) (mark : Bool) → counts_end mode mark ≤ 4096
unfolding counts_end is_nes2_in
counts_end_small mode mark = grind arith

-- a PRG count and a CHR count that board mode takes
counts_small : (prg chr : ℕ) → prg < 4096 → chr < 4096 → no_powers Board prg chr ≡ false → (prg ≤ 2048) × (chr ≤ 2048)
unfolding no_powers
counts_small prg chr p c e = (power_small prg p (grind arith), by_count (eqb chr 0) refl)
  where
    by_count : (z : Bool) → eqb chr 0 ≡ z → chr ≤ 2048
    by_count true f = omega (arith, eqb-true chr 0 f)
    by_count false f = power_small chr c (grind arith)

pub board_counts_small : (c : Cartridge) → Fields c → c.mode ≡ Board → (c.prg ≤ 2048) × (c.chr ≤ 2048)
board_counts_small c f e =
    let s = counts_end_small c.mode c.nes2 in
    let p = f.prg_small in
    let q = f.chr_small in
    counts_small c.prg c.chr (omega (arith, s, p)) (omega (arith, s, q)) (subst (λ (m : Mode). no_powers m c.prg c.chr ≡ false) e f.powers)
