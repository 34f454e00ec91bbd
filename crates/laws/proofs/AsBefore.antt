-- An image that is not read as NES 2.0 loads as document 01 says, and its board has its PRG RAM; only one that is read so is refused by 16; no load looks at
-- bytes 12 to 15. Assumes nothing.
use Prim.Native.Nat.{ℕ, ◌<◌, ◌≤◌}
use mathlib.Core.Path.{◌≡◌, refl, sym, ◌∙◌}
use mathlib.Core.Bool.{Bool, true, false, not, ◌||◌}
use mathlib.Core.List.{List, [], ◌∷◌}
use native.Mathlib.Omega.{arith}
use lib.Dec.{ltb}
use borrow.Author.Tests.{ltb-false, le-ltb}
use lib.ListN.{length, set, length-set}
use lib.Seq.{get_or-set_other}
use Rattle.common.specs.declared.Mode.{Mode}
use Rattle.common.specs.declared.Mode.TheVariants.{House, Board as OnBoard}
use Rattle.memory.specs.Memory.{byte}
use Rattle.cartridge.specs.Refusals.{Row, given}
use Rattle.cartridge.specs.Header.{is_ines, header_of, mapper_of, mirroring_of, is_nes2, is_special}
use Rattle.cartridge.specs.Nes2.{is_nes2_in, extended, mapper_in, prg_in, chr_in, has_submapper, has_exponent, nes2_not_taken, has_prg_ram}
use Rattle.cartridge.specs.Load.{bad_prg, needed, no_powers, rams_fit, verdict, cartridge_of, prg_ram_fits, could_load}
use Rattle.cartridge.specs.Load as cartridge-load
use Rattle.cartridge.specs.declared.Cartridge.{Cartridge}
use Rattle.cartridge.specs.declared.Header.{Header}
use Rattle.cartridge.proofs.Nes2.{plain_mapper, plain_prg, plain_chr, plain_taken, plain_ram}
use Rattle.cartridge.proofs.Range.{fields}
use Rattle.places.specs.Windows.{prg_ram_of}
use Rattle.places.specs.Windows.Window.{PrgRam}
use Rattle.boards.specs.Numbers.{refused_by, load_number}
use Rattle.boards.specs.Start.{load, load_answer}
use Rattle.laws.specs.AsBefore.{last_three, ines_refusals, AsBefore}
use Rattle.laws.specs.Numbers.{first_number, answer_of}
use Rattle.laws.proofs.Numbers.{a_load_answers_the_first_number}

module _ (s : List ℕ) (mode : Mode) (prg chr : ℕ) where
  -- an image that is not read as NES 2.0
  pub every_other_load_is_as_before : extended mode (header_of s) ≡ false → AsBefore s mode prg chr
  unfolding verdict cartridge_of
  every_other_load_is_as_before e =
      let h = header_of s in
      record {
        the_verdict = rw (plain_taken mode h e, plain_mapper mode h e, plain_prg mode h e, plain_chr mode h e) refl;
        the_cartridge = rw (plain_ram mode h e, plain_mapper mode h e, plain_prg mode h e, plain_chr mode h e) refl;
      }

-- "House mode .. untouched"
pub every_house_load_is_as_before : (s : List ℕ) (prg chr : ℕ) → AsBefore s House prg chr
unfolding is_nes2_in
every_house_load_is_as_before s prg chr = every_other_load_is_as_before s House prg chr refl

-- and in board mode an image without the mark
pub every_unmarked_load_is_as_before : (s : List ℕ) (prg chr : ℕ) → is_nes2 (header_of s) ≡ false → AsBefore s OnBoard prg chr
unfolding is_nes2_in
every_unmarked_load_is_as_before s prg chr e = every_other_load_is_as_before s OnBoard prg chr e

-- and a board that is not read as NES 2.0 has its PRG RAM where it had it
pub every_other_board_has_its_ram : (c : Cartridge) → could_load c ≡ true → is_nes2_in c.mode c.nes2 ≡ false → prg_ram_of c ≡ PrgRam
unfolding prg_ram_of prg_ram_fits
every_other_board_has_its_ram c h e = let n = (fields c h).noted in grind arith

-- a load that answers 16 found none of the rows before it
before : (b9 b3 b4 b5 b16 : Bool) (rs : List Row) → answer_of (first_number (given 9 b9 ∷ given 3 b3 ∷ given 4 b4 ∷ given 5 b5 ∷ given 16 b16 ∷ rs)) ≡ refused_by 16
    → (b9 ≡ false) × (b3 ≡ false) × (b4 ≡ false) × (b5 ≡ false)
before b9 b3 b4 b5 b16 rs e = grind arith

-- where it is not due, none after it is 16
after : (b6 b7 b8 : Bool) → answer_of (first_number (given 6 b6 ∷ given 7 b7 ∷ given 8 b8 ∷ [])) ≡ refused_by 16 → ⊥
after b6 b7 b8 e = grind arith

-- the mapper number of iNES is no greater than the longer one
no_greater : (mode : Mode) (h : Header) → mapper_of h ≤ mapper_in mode h
unfolding mapper_in
no_greater mode h = grind arith

module _ (s : List ℕ) (mode : Mode) (prg chr : ℕ) (e : load_number (load_answer (load s mode prg chr)) ≡ refused_by 16) where
  abbrev h : Header
  h = header_of s

  abbrev rest : List Row
  rest =
      given 6 (bad_prg (mapper_in mode h) (prg_in mode h)) ∷ given 7 (ltb (length s) (needed (prg_in mode h) (chr_in mode h)))
      ∷ given 8 (no_powers mode (prg_in mode h) (chr_in mode h)) ∷ []

  not_due : (not (rams_fit prg chr) ≡ false) × ((ltb (length s) 16400 || not (is_ines s)) ≡ false) × (ltb 4 (mapper_in mode h) ≡ false) × (is_special h ≡ false)
  not_due =
      before (not (rams_fit prg chr)) (ltb (length s) 16400 || not (is_ines s)) (ltb 4 (mapper_in mode h)) (is_special h) (nes2_not_taken mode h) rest
      (sym (a_load_answers_the_first_number s mode prg chr) ∙ e)

  -- so before M-100 it was taken, or refused by 6, 7 or 8
  pub before_16_another : first_number (ines_refusals s mode prg chr) ≡ first_number (last_three s mode)
  before_16_another =
      let n = not_due in
      let small = ltb-false 4 (mapper_in mode h) n.2 in
      let mapper : ltb 4 (mapper_of h) ≡ false = le-ltb 4 (mapper_of h) (omega (arith, small, no_greater mode h)) in
      rw (n.0, n.1, mapper, n.3) refl

  -- and its image is read as NES 2.0: no load of house mode, and none of an unmarked image, answers it
  pub only_nes2_answers_16 : extended mode h ≡ true
  only_nes2_answers_16 = go (extended mode h) refl
    where
      go : (t : Bool) → extended mode h ≡ t → extended mode h ≡ true
      go true q = q
      go false q =
          let n = not_due in
          absurd
          (after (bad_prg (mapper_in mode h) (prg_in mode h)) (ltb (length s) (needed (prg_in mode h) (chr_in mode h))) (no_powers mode (prg_in mode h) (chr_in mode h))
          (sym (rw (n.0, n.1, n.2, n.3, plain_taken mode h q) refl) ∙ sym (a_load_answers_the_first_number s mode prg chr) ∙ e))

-- bytes 12 to 15 are not mentioned: a load of an image with another byte from 12 on is the same
module _ (s : List ℕ) (i v : ℕ) (l : 12 ≤ i) where
  at : (j : ℕ) → j < 12 → byte (set s i v) j ≡ byte s j
  at j h = get_or-set_other s i j v 0 (λ e. omega (arith, l, h, e))

  pub no_byte_from_12_on_changes_a_load : (mode : Mode) (prg chr : ℕ) → cartridge-load.load (set s i v) mode prg chr ≡ cartridge-load.load s mode prg chr
  unfolding verdict cartridge_of is_ines header_of mirroring_of mapper_in prg_in chr_in has_submapper has_exponent nes2_not_taken has_prg_ram
  no_byte_from_12_on_changes_a_load mode prg chr =
      simp (at 0 (omega arith), at 1 (omega arith), at 2 (omega arith), at 3 (omega arith), at 4 (omega arith), at 5 (omega arith), at 6 (omega arith), at 7 (omega arith), at 8 (omega arith), at 9 (omega arith), at 10 (omega arith), at 11 (omega arith), length-set)
