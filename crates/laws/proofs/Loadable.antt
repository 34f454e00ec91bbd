-- A cartridge in range is left by the load of an image with its fields: no refusal is due, and its header's bytes lead back to each field. So a cartridge is in
-- range exactly when some image of bytes leaves it. Assumes nothing.
use Rattle.std.specs.Prelude.{Ok}
use Prim.Native.Nat.{ℕ, ◌+◌, ◌-◌, ◌*◌, ◌/◌, ◌%◌, ◌≤◌, ◌<◌}
use mathlib.Core.Path.{◌≡◌, refl, sym, ap, ap₂, ◌∙◌, subst}
use mathlib.Core.Logic.{◌↔◌}
use mathlib.Core.Bool.{Bool, true, false, cond, not, ◌&&◌, ◌||◌}
use mathlib.Core.List.{List}
use native.Mathlib.Omega.{arith}
use lib.Dec.{ltb, eqb}
use lib.ListN.{length, length-replicate}
use borrow.Author.Tests.{le-ltb, ne_eqb}
use Rattle.common.specs.Answers.{is_headers, among}
use Rattle.common.specs.declared.Mode.{Mode}
use Rattle.common.specs.declared.Mode.TheVariants.{House, Board as OnBoard}
use Rattle.common.specs.declared.Mirroring.{Mirroring}
use Rattle.common.specs.declared.Mirroring.TheVariants.{Horizontal, Vertical}
use Rattle.memory.proofs.Bytes.{Bytes, at_each_place, zeros}
use Rattle.cartridge.specs.Header.{is_ines, header_of, mirroring_of, is_special}
use Rattle.cartridge.specs.Nes2.{is_nes2_in, extended, mapper_in, prg_in, chr_in, has_submapper, has_exponent, is_shifts, says_otherwise, nes2_not_taken, has_prg_ram}
use Rattle.cartridge.specs.Load.{bad_prg, no_powers, needed, has_chr_ram, counts_end, prg_ram_fits, could_load, rams_fit, verdict, cartridge_of, loaded_as}
use Rattle.cartridge.specs.Mappers.{mapper_number, mapper_type}
use Rattle.cartridge.specs.declared.Cartridge.{Cartridge}
use Rattle.cartridge.specs.declared.Header.{Header}
use Rattle.cartridge.specs.declared.MapperType.{MapperType}
use Rattle.cartridge.specs.Refusals.{Verdict}
use Rattle.cartridge.proofs.Mappers.{by_number}
use Rattle.cartridge.proofs.Range.{Fields, fields, board_counts_small}
use Rattle.std.proofs.lemmas.Bool.Decides.{nat_tests}
use Rattle.laws.proofs.Ranges.{first_of, could_load_lem}
use Rattle.laws.specs.Loadable.{byte6, byte7, byte9, shifts, image_for, Leaves}

some_prg : (mapper prg : ℕ) → bad_prg mapper prg ≡ false → 1 ≤ prg
unfolding bad_prg
some_prg mapper prg e = grind (arith, nat_tests)

-- bytes 6 and 7 lead back to the mapper, the mirroring and the mark
bit_small : (m : Mirroring) → among 0 1 0 0 m < 2
bit_small m = grind arith

bit_back : (m : Mirroring) → is_headers m ≡ true → cond (eqb (among 0 1 0 0 m) 1) Vertical Horizontal ≡ m
bit_back m h = grind arith

mark_back : (t : Bool) → eqb (cond t 8 0 / 4 % 4) 2 ≡ t
mark_back t = grind arith

mark_low : (t : Bool) → cond t 8 0 / 16 ≡ 0
mark_low t = grind arith

mark_small : (t : Bool) → cond t 8 0 < 256
mark_small t = grind arith

number_small : (k : MapperType) → mapper_number k ≤ 4
number_small k = grind arith

-- byte 9 leads back to both counts, and neither nibble is 15
low_nibble : (p c : ℕ) → p < 4096 → (p / 256 + c / 256 * 16) % 16 ≡ p / 256
low_nibble p c h = omega (arith, h)

high_nibble : (p c : ℕ) → p < 4096 → (p / 256 + c / 256 * 16) / 16 ≡ c / 256
high_nibble p c h = omega (arith, h)

shifts_taken : (t : Bool) → is_shifts (shifts t) ≡ true
unfolding is_shifts
shifts_taken t = grind arith

shifts_back : (t : Bool) → not (eqb (shifts t) 0) ≡ t
shifts_back t = grind arith

shifts_small : (t : Bool) → shifts t < 256
shifts_small t = grind arith

said : (chr : ℕ) → says_otherwise chr (shifts (eqb chr 0)) ≡ false
unfolding says_otherwise
said chr = grind arith

none_due : (b9 b3 b4 b5 b16 b6 b7 b8 : Bool) → b9 ≡ false → b3 ≡ false → b4 ≡ false → b5 ≡ false → b16 ≡ false → b6 ≡ false → b7 ≡ false → b8 ≡ false → first_of b9 b3 b4 b5 b16 b6 b7 b8 ≡ Ok tt
none_due b9 b3 b4 b5 b16 b6 b7 b8 e9 e3 e4 e5 e16 e6 e7 e8 = rw (e9, e3, e4, e5, e16, e6, e7, e8) refl

module _ (c : Cartridge) (f : Fields c) where
  abbrev h : Header
  h = header_of (image_for c)

  -- whether the image is read as NES 2.0
  abbrev nes2 : Bool
  nes2 = is_nes2_in c.mode c.nes2

  long : 16400 ≤ c.length
  long = let s = some_prg (mapper_number c.mapper) c.prg f.prg_taken in let r = f.room in omega arith

  its_length : length (image_for c) ≡ c.length
  its_length = let r = length-replicate {A = ℕ} (c.length - 16) 0 in let l = long in omega arith

  read_so : extended c.mode h ≡ nes2
  unfolding header_of
  read_so = ap (is_nes2_in c.mode) (mark_back c.nes2)

  -- both counts: within 2,048 where the image is read so, else bytes
  abbrev Counted : Bool → Type 0
  Counted t = (c.prg < cond t 2049 256) × (c.chr < cond t 2049 256)

  counted : Counted nes2
  unfolding is_nes2_in counts_end
  counted = go c.mode c.nes2 refl refl
    where
      go : (m : Mode) (t : Bool) → c.mode ≡ m → c.nes2 ≡ t → Counted nes2
      go House t e g = rw (e) (subst (λ (m : Mode). c.prg < counts_end m c.nes2) e f.prg_small, subst (λ (m : Mode). c.chr < counts_end m c.nes2) e f.chr_small)
      go OnBoard false e g = rw (e, g) (
        subst (λ (m : Bool). c.prg < counts_end OnBoard m) g (subst (λ (m : Mode). c.prg < counts_end m c.nes2) e f.prg_small),
        subst (λ (m : Bool). c.chr < counts_end OnBoard m) g (subst (λ (m : Mode). c.chr < counts_end m c.nes2) e f.chr_small),
      )
      go OnBoard true e g =
          let s = board_counts_small c f e in
          rw (e, g) (omega (arith, s.0), omega (arith, s.1))

  -- the numbers that the header says
  its_mapper : mapper_in c.mode h ≡ mapper_number c.mapper
  unfolding mapper_in header_of
  its_mapper =
      let b = bit_small c.mirroring in let m = mark_low c.nes2 in
      let l : byte7 c / 16 * 16 + byte6 c / 16 ≡ mapper_number c.mapper = omega arith in
      go (extended c.mode h) l
    where
      go : (t : Bool) → byte7 c / 16 * 16 + byte6 c / 16 ≡ mapper_number c.mapper → cond t (byte7 c / 16 * 16 + byte6 c / 16 + 0 * 256) (byte7 c / 16 * 16 + byte6 c / 16) ≡ mapper_number c.mapper
      go true e = omega (arith, e)
      go false e = e

  its_prg : prg_in c.mode h ≡ c.prg
  unfolding prg_in header_of
  its_prg = ap (λ (t : Bool). cond t (c.prg % 256 + byte9 c % 16 * 256) (c.prg % 256)) read_so ∙ go nes2 counted
    where
      go : (t : Bool) → Counted t → cond t (c.prg % 256 + byte9 c % 16 * 256) (c.prg % 256) ≡ c.prg
      go true n = let l = low_nibble c.prg c.chr (omega (arith, n.0)) in omega (arith, l)
      go false n = omega (arith, n.0)

  its_chr : chr_in c.mode h ≡ c.chr
  unfolding chr_in header_of
  its_chr = ap (λ (t : Bool). cond t (c.chr % 256 + byte9 c / 16 * 256) (c.chr % 256)) read_so ∙ go nes2 counted
    where
      go : (t : Bool) → Counted t → cond t (c.chr % 256 + byte9 c / 16 * 256) (c.chr % 256) ≡ c.chr
      go true n = let l = high_nibble c.prg c.chr (omega (arith, n.0)) in omega (arith, l)
      go false n = omega (arith, n.1)

  all_taken : nes2_not_taken c.mode h ≡ false
  unfolding nes2_not_taken has_submapper has_exponent header_of
  all_taken =
      ap₂ (λ (t : Bool) (n : ℕ). t && (false || (eqb (byte9 c % 16) 15 || eqb (byte9 c / 16) 15) || not (is_shifts (shifts c.prgram)) || not (is_shifts (shifts (has_chr_ram c))) || says_otherwise n (shifts (has_chr_ram c)))) read_so its_chr
      ∙ go nes2 counted
    where
      go : (t : Bool) → Counted t → (t && (false || (eqb (byte9 c % 16) 15 || eqb (byte9 c / 16) 15) || not (is_shifts (shifts c.prgram)) || not (is_shifts (shifts (has_chr_ram c))) || says_otherwise c.chr (shifts (has_chr_ram c)))) ≡ false
      go true n =
          let l = low_nibble c.prg c.chr (omega (arith, n.0)) in
          let m = high_nibble c.prg c.chr (omega (arith, n.0)) in
          rw (ne_eqb (byte9 c % 16) 15 (λ e. omega (arith, e, l, n.0)), ne_eqb (byte9 c / 16) 15 (λ e. omega (arith, e, m, n.1)), shifts_taken c.prgram, shifts_taken (has_chr_ram c), said c.chr) refl
      go false n = refl

  its_ram : has_prg_ram c.mode h ≡ c.prgram
  unfolding has_prg_ram prg_ram_fits header_of
  its_ram =
      ap₂ (λ (t x : Bool). cond t x true) read_so (shifts_back c.prgram) ∙ go nes2 c.prgram f.noted
    where
      go : (t x : Bool) → (x || t) ≡ true → cond t x true ≡ x
      go true x e = refl
      go false true e = refl
      go false false e = sym e

  plain : byte6 c / 4 % 4 ≡ 0
  plain = let b = bit_small c.mirroring in omega arith

  its_bit : byte6 c % 2 ≡ among 0 1 0 0 c.mirroring
  its_bit = let b = bit_small c.mirroring in omega arith

  taken : verdict (image_for c) c.mode 8192 8192 ≡ Ok tt
  unfolding verdict rams_fit is_ines header_of
  taken =
      none_due (not (rams_fit 8192 8192)) (ltb (length (image_for c)) 16400 || not (is_ines (image_for c))) (ltb 4 (mapper_in c.mode h)) (is_special h) (nes2_not_taken c.mode h) (bad_prg (mapper_in c.mode h) (prg_in c.mode h)) (ltb (length (image_for c)) (needed (prg_in c.mode h) (chr_in c.mode h))) (no_powers c.mode (prg_in c.mode h) (chr_in c.mode h))
      refl
      (rw (its_length, le-ltb c.length 16400 long) refl)
      (rw its_mapper (le-ltb 4 (mapper_number c.mapper) (number_small c.mapper)))
      (rw plain refl)
      all_taken
      (ap₂ bad_prg its_mapper its_prg ∙ f.prg_taken)
      (ap₂ ltb its_length (ap₂ needed its_prg its_chr) ∙ le-ltb c.length (needed c.prg c.chr) f.room)
      (ap₂ (no_powers c.mode) its_prg its_chr ∙ f.powers)

  back : cartridge_of (header_of (image_for c)) c.mode (length (image_for c)) ≡ c
  unfolding cartridge_of header_of mirroring_of
  back =
      λ i. record {
        mode = c.mode;
        mapper = (ap mapper_type its_mapper ∙ by_number c.mapper) i;
        nes2 = mark_back c.nes2 i;
        mirroring = (ap (λ (b : ℕ). cond (eqb b 1) Vertical Horizontal) its_bit ∙ bit_back c.mirroring f.headers) i;
        prgram = its_ram i;
        prg = its_prg i;
        chr = its_chr i;
        length = its_length i;
      }

nine_small : (t : Bool) (p c : ℕ) → p < cond t 2049 256 → c < cond t 2049 256 → p / 256 + c / 256 * 16 < 256
nine_small t p c l m = grind arith

-- the bytes of its image
its_bytes : (c : Cartridge) → Fields c → Bytes (image_for c)
unfolding Bytes
its_bytes c f =
    let six : byte6 c < 256 = let b = bit_small c.mirroring in let k = number_small c.mapper in omega arith in
    let seven : byte7 c < 256 = mark_small c.nes2 in
    let nine : byte9 c < 256 = let n = counted c f in nine_small (is_nes2_in c.mode c.nes2) c.prg c.chr n.0 n.1 in
    let zero : 0 < 256 = omega arith in (
      omega arith,
      (
        omega arith,
        (
          omega arith,
          (
            omega arith,
            (
              omega arith,
              (
                omega arith,
                (
                  six,
                  (
                    seven,
                    (zero, (nine, (shifts_small c.prgram, (shifts_small (has_chr_ram c), (zero, (zero, (zero, (zero, zeros (c.length - 16))))))))),
                  ),
                ),
              ),
            ),
          ),
        ),
      ),
    )

-- the load of the image made from its fields
pub every_cartridge_in_range_is_left : (c : Cartridge) → could_load c ≡ true → Leaves (image_for c) c
unfolding loaded_as
every_cartridge_in_range_is_left c h =
    let f = fields c h in
    record { are_bytes = at_each_place (image_for c) (its_bytes c f); accepted = ap₂ loaded_as (taken c f) (back c f) }

left : (v : Verdict) (x c : Cartridge) → loaded_as v x ≡ Ok c → (v ≡ Ok tt) × (x ≡ c)
unfolding loaded_as
left v x c e = grind arith

-- "as a load could leave them", both ways
pub in_range_exactly_if_some_load_leaves_it : (c : Cartridge) → (could_load c ≡ true) ↔ ((s : List ℕ) × Leaves s c)
in_range_exactly_if_some_load_leaves_it c = (
  λ h. (image_for c, every_cartridge_in_range_is_left c h),
  λ p. let s = p.0 in let l = p.1 in
      let e = left (verdict s c.mode 8192 8192) (cartridge_of (header_of s) c.mode (length s)) c l.accepted in
      subst (λ (x : Cartridge). could_load x ≡ true) e.1 (could_load_lem s c.mode 8192 8192 l.are_bytes e.0),
)
