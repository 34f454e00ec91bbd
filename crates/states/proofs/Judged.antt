-- The four parts that the code tests are what makes words a board's: a word is that of a row exactly where it has the row's digits and nothing above the
-- last. Assumes nothing.
use Prim.Native.Nat.{ℕ, ◌<◌}
use mathlib.Core.Path.{◌≡◌, refl, sym, ap, subst⁻¹, ◌∙◌}
use mathlib.Core.Bool.{Bool, true, false, cond, not, ◌&&◌, ◌||◌}
use mathlib.Core.List.{List, [], ◌∷◌}
use mathlib.Core.Logic.{◌↔◌}
use native.Mathlib.Omega.{arith}
use borrow.Author.Tests.{ltb-true, eqb-true, eq-eqb, lt-ltb}
use lib.Dec.{eqb, ltb, leb}
use mir.Val.{bool_byte}
use Rattle.rules.specs.Rows.{bytes, digit, Fits}
use Rattle.rules.specs.Flat.{flat_digits, flat_word}
use Rattle.std.proofs.lemmas.Bool.{and_parts}
use Rattle.std.proofs.lemmas.Bool.Decides.{nat_tests}
use Rattle.rules.proofs.Bools.{both_ways, split_3, split_4}
use Rattle.rules.proofs.Rows.{mark_small}
use Rattle.rules.proofs.Flat.{flat_there, flat_back, flat_small}
use Rattle.common.specs.Common.{mode_number, mode_of}
use Rattle.common.specs.Answers.{is_headers}
use Rattle.common.specs.Answers as mirrorings
use Rattle.common.specs.declared.Mode.{Mode}
use Rattle.common.specs.declared.Mode.TheVariants.{House, Board as OnBoard}
use Rattle.cartridge.specs.Nes2.{is_nes2_in}
use Rattle.cartridge.specs.Load.{bad_prg, needed, no_powers, counts_end, prg_ram_fits, could_load}
use Rattle.cartridge.specs.Mappers.{is_mapper, mapper_number}
use Rattle.cartridge.specs.declared.MapperType.{MapperType}
use Rattle.cartridge.specs.declared.MapperType.TheVariants.{Nrom, Mmc1, Uxrom, Cnrom, Mmc3}
use Rattle.uxrom.specs.Uxrom as uxrom
use Rattle.uxrom.specs.declared.Uxrom as uxrom-type
use Rattle.cnrom.specs.Cnrom as cnrom
use Rattle.cnrom.specs.declared.Cnrom as cnrom-type
use Rattle.mmc1.specs.Range as mmc1
use Rattle.mmc1.specs.declared.Mmc1 as mmc1-type
use Rattle.mmc3.specs.Range as mmc3
use Rattle.mmc3.specs.Read.{register}
use Rattle.mmc3.specs.declared.Mmc3 as mmc3-type
use Rattle.common.specs.declared.Mirroring.{Mirroring}
use Rattle.cartridge.specs.declared.Cartridge.{Cartridge}
use Rattle.boards.specs.Range.{screens_fit, mirroring_fits, in_range}
use Rattle.boards.specs.Steps.{turned_fit, screens_by}
use Rattle.boards.proofs.Screens.{by_two_tests}
use Rattle.boards.specs.Registers.{part_fits, fits}
use Rattle.states.specs.Words.{mirroring_digit, mirroring_of, cart_sizes, cart_word, mapper_of, mode_in, cart_of, screens_of, banks_sizes, banks_digits, banks_word, uxrom_of, cnrom_of, mmc1_of, regs_word, irq_sizes, irq_word, mmc3_of, words_of, board_in, same}
use Rattle.states.specs.Kept.{is_kept}
use Rattle.states.specs.Steps.{cart_is_kept, is_ines_word, mode_is_kept, mmc1_is_kept, banks_are_kept, mmc3_fits, mmc3_is_kept, in_parts}
use Rattle.states.specs.declared.Words.{Words}
use Rattle.states.proofs.Digits.{mapper_small, note_small}
use Rattle.states.proofs.Starts.{uxrom_start, cnrom_start, mmc1_unused, mmc3_start}

turn : (m n : ℕ) → eqb m n ≡ eqb n m
turn m n = grind (arith, nat_tests)

join : (w h p n x o a b g : Bool) → ((w && h && p && n) && (x && o && (a && b && g))) ≡ (((p && o) && (a && b && n) && h && g) && x && w)
join w h p n x o a b g = grind arith

third : (f u c w : Bool) → (f && (u && c && true && w)) ≡ (u && c && f && w)
third f u c w = grind arith

noted : (p x y : Bool) → (p && x && y) ≡ (x && y && (p || false))
noted p x y = grind arith

-- by the mode; i where the word is as iNES says
in_mode : (z : Bool) (k : MapperType) (s h mark i : Bool) (prg chr : ℕ)
    → cond z (i && s) (not (no_powers OnBoard prg chr) && (mark || i) && turned_fit k s h)
    ≡ (screens_by (cond z House OnBoard) k s h && not (no_powers (cond z House OnBoard) prg chr) && (is_nes2_in (cond z House OnBoard) mark || i))
unfolding screens_by no_powers is_nes2_in
in_mode z k s h mark i prg chr = grind arith

-- counts of a word of digits, and its note of PRG RAM, are in range exactly where the image is read as NES 2.0 or says what iNES says
as_ines : (mode : Mode) (mark p : Bool) (prg chr : ℕ) → prg < 4096 → chr < 4096
    → (is_nes2_in mode mark || (p && ltb prg 256 && ltb chr 256)) ≡ (ltb prg (counts_end mode mark) && ltb chr (counts_end mode mark) && (p || is_nes2_in mode mark))
unfolding is_nes2_in counts_end
as_ines mode mark p prg chr l m = grind arith

-- each digit is the one of its enum
by_bit : (P : ℕ → Type 0) → P 0 → P 1 → (d : ℕ) → d < 2 → P d
by_bit P a b d h = grind arith

by_digit : (P : ℕ → Type 0) → P 0 → P 1 → P 2 → P 3 → (d : ℕ) → d < 4 → P d
by_digit P a b c e d h = grind arith

mode_back : (d : ℕ) → d < 2 → mode_number (mode_of d) ≡ d
unfolding mode_of
mode_back = by_bit (λ (x : ℕ). mode_number (mode_of x) ≡ x) refl refl

mark_back : (d : ℕ) → d < 2 → bool_byte (eqb d 1) ≡ d
mark_back = by_bit (λ (x : ℕ). bool_byte (eqb x 1) ≡ x) refl refl

screens_back : (d : ℕ) → d < 4 → mirroring_digit (mirroring_of d) ≡ d
unfolding mirroring_of
screens_back = by_digit (λ (x : ℕ). mirroring_digit (mirroring_of x) ≡ x) refl refl refl refl

is_headers_lem : (d : ℕ) → d < 4 → ltb d 2 ≡ is_headers (mirroring_of d)
unfolding mirroring_of
is_headers_lem = by_digit (λ (x : ℕ). ltb x 2 ≡ is_headers (mirroring_of x)) refl refl refl refl

abbrev OneScreen : ℕ → ℕ → Type 0
OneScreen x y = eqb x y ≡ mirrorings.same (mirroring_of x) (mirroring_of y)

one_screen : (a b : ℕ) → a < 4 → b < 4 → OneScreen a b
unfolding mirrorings.same mirroring_of
one_screen a b p q =
    by_digit (λ (x : ℕ). OneScreen x b) (by_digit (OneScreen 0) refl refl refl refl b q) (by_digit (OneScreen 1) refl refl refl refl b q)
    (by_digit (OneScreen 2) refl refl refl refl b q) (by_digit (OneScreen 3) refl refl refl refl b q) a p

-- the current mirroring in its range
abbrev screens_in : Cartridge → Mirroring → Bool
screens_in c now = screens_fit c.mode c.mapper c.mirroring now

module _ (c length : ℕ) where
  abbrev d : List ℕ
  d = flat_digits cart_sizes c

  abbrev k : MapperType
  k = mapper_of d

  -- what the first word packed again has
  abbrev again : List ℕ
  again = 1 ∷ mapper_number k ∷ digit d 2 ∷ digit d 3 ∷ digit d 4 ∷ digit d 5 ∷ bool_byte (eqb (digit d 6) 1) ∷ digit d 7 ∷ digit d 8 ∷ []

  packed : cart_word (cart_of d length) (screens_of d) ≡ flat_word cart_sizes again
  packed =
      λ i. flat_word cart_sizes
      (1 ∷ mapper_number k ∷ mode_back (digit d 2) (omega arith) i ∷ mark_back (digit d 3) (omega arith) i ∷ screens_back (digit d 4) (omega arith) i
      ∷ screens_back (digit d 5) (omega arith) i ∷ bool_byte (eqb (digit d 6) 1) ∷ digit d 7 ∷ digit d 8 ∷ [])

  whole : (eqb (digit d 0) 1 && eqb (digit d 1) (mapper_number k) && ltb (digit d 6) 2 && ltb c 0x1000000000000) ≡ eqb (cart_word (cart_of d length) (screens_of d)) c
  whole =
      both_ways (eqb (digit d 0) 1 && eqb (digit d 1) (mapper_number k) && ltb (digit d 6) 2 && ltb c 0x1000000000000) _
      (λ h. let p = split_4 (eqb (digit d 0) 1) (eqb (digit d 1) (mapper_number k)) (ltb (digit d 6) 2) (ltb c 0x1000000000000) h in
      let l = ltb-true c 0x1000000000000 p.3 in
      let e : d ≡ again =
      λ i. eqb-true (digit d 0) 1 p.0 i ∷ eqb-true (digit d 1) (mapper_number k) p.1 i ∷ digit d 2 ∷ digit d 3 ∷ digit d 4 ∷ digit d 5 ∷ sym (mark_back (digit d 6) (ltb-true (digit d 6) 2 p.2)) i ∷ digit d 7 ∷ digit d 8 ∷ [] in
      eq-eqb _ c (packed ∙ sym (ap (flat_word cart_sizes) e) ∙ flat_back cart_sizes c (omega arith)))
      (λ h. let f : Fits cart_sizes again = search (arith, mapper_small, note_small) in
      let w : flat_word cart_sizes again ≡ c = sym packed ∙ eqb-true _ c h in
      let e : d ≡ again = ap (flat_digits cart_sizes) (sym w) ∙ flat_there cart_sizes again f in
      let m : digit d 6 < 2 = subst⁻¹ (λ (n : ℕ). n < 2) (ap (λ (t : List ℕ). digit t 6) e) (mark_small (eqb (digit d 6) 1)) in
      simp (eq-eqb (digit d 0) 1 (ap (λ (t : List ℕ). digit t 0) e), eq-eqb (digit d 1) (mapper_number k) (ap (λ (t : List ℕ). digit t 1) e), lt-ltb (digit d 6) 2 m, lt-ltb c 0x1000000000000 (omega (arith, flat_small cart_sizes again f))))

  -- both tests of the mode, and the range of the counts and of the note
  abbrev mode : Mode
  mode = mode_of (digit d 2)

  abbrev mark : Bool
  mark = eqb (digit d 3) 1

  mode_of_lem : mode_is_kept k c
      ≡ (screens_in (cart_of d length) (screens_of d) && not (no_powers mode (digit d 7) (digit d 8))
      && (ltb (digit d 7) (counts_end mode mark) && ltb (digit d 8) (counts_end mode mark) && (eqb (digit d 6) 1 || is_nes2_in mode mark)))
  unfolding mode_is_kept mode_of is_ines_word
  mode_of_lem =
      in_mode (eqb (digit d 2) 0) k (eqb (digit d 5) (digit d 4)) (ltb (digit d 5) 2) mark (is_ines_word c) (digit d 7) (digit d 8)
      ∙ (λ i. screens_by mode k (one_screen (digit d 5) (digit d 4) (omega arith) (omega arith) i) (is_headers_lem (digit d 5) (omega arith) i) && not (no_powers mode (digit d 7) (digit d 8)) && as_ines mode mark (eqb (digit d 6) 1) (digit d 7) (digit d 8) (omega arith) (omega arith) i)
      ∙ (λ i. by_two_tests mode k (mirroring_of (digit d 4)) (mirroring_of (digit d 5)) i && not (no_powers mode (digit d 7) (digit d 8)) && (ltb (digit d 7) (counts_end mode mark) && ltb (digit d 8) (counts_end mode mark) && (eqb (digit d 6) 1 || is_nes2_in mode mark)))

  cart_of_lem : (cart_is_kept k c length && mode_is_kept k c)
      ≡ (could_load (cart_of d length) && screens_in (cart_of d length) (screens_of d) && eqb (cart_word (cart_of d length) (screens_of d)) c)
  unfolding cart_is_kept could_load prg_ram_fits
  cart_of_lem =
      let p = not (bad_prg (mapper_number k) (digit d 7)) in
      let n = leb (needed (digit d 7) (digit d 8)) length in
      let x = screens_in (cart_of d length) (screens_of d) in
      let w = eqb (cart_word (cart_of d length) (screens_of d)) c in
      (λ i. (whole i && is_headers_lem (digit d 4) (omega arith) i && p && n) && mode_of_lem i)
      ∙ join w (is_headers (mirroring_of (digit d 4))) p n x (not (no_powers mode (digit d 7) (digit d 8))) (ltb (digit d 7) (counts_end mode mark)) (ltb (digit d 8) (counts_end mode mark)) (eqb (digit d 6) 1 || is_nes2_in mode mark)

-- what a word of banks holds of each board
abbrev fits_banks : MapperType → List ℕ → Bool
fits_banks k d =
    part_fits k Uxrom true (uxrom.is_start (uxrom_of d))
    && part_fits k Cnrom (cnrom.fits (cnrom_of d)) (cnrom.is_start (cnrom_of d))
    && part_fits k Mmc1 (mmc1.fits (mmc1_of d)) (mmc1.is_unused (mmc1_of d))

abbrev word_of : List ℕ → ℕ
word_of d = banks_word (uxrom_of d) (cnrom_of d) (mmc1_of d)

module _ (b : ℕ) where
  abbrev d₂ : List ℕ
  d₂ = flat_digits banks_sizes b

  -- the word is that of three parts exactly where it holds them and nothing beside
  of_parts : (u : uxrom-type.Uxrom) (c : cnrom-type.Cnrom) (m : mmc1-type.Mmc1) (x y z : Bool) → Fits banks_sizes (banks_digits u c m)
      → (x ≡ true) ↔ (uxrom_of d₂ ≡ u) → (y ≡ true) ↔ (cnrom_of d₂ ≡ c) → (z ≡ true) ↔ (mmc1_of d₂ ≡ m) → eqb (banks_word u c m) b ≡ (x && y && z && eqb (word_of d₂) b)
  of_parts u c m x y z f p q r =
      both_ways (eqb (banks_word u c m) b) (x && y && z && eqb (word_of d₂) b)
      (λ h. let e : d₂ ≡ banks_digits u c m = ap (flat_digits banks_sizes) (sym (eqb-true (banks_word u c m) b h)) ∙ flat_there banks_sizes (banks_digits u c m) f in
      let w : eqb (word_of d₂) b ≡ true = ap (λ (t : List ℕ). eqb (word_of t) b) e ∙ h in
      simp (p.1 (ap uxrom_of e), q.1 (ap cnrom_of e), r.1 (ap mmc1_of e), w))
      (λ h. let s = split_4 x y z (eqb (word_of d₂) b) h in
      sym (λ i. eqb (banks_word (p.0 s.0 i) (q.0 s.1 i) (r.0 s.2 i)) b) ∙ s.3)

  no_bank : eqb b 0 ≡ (uxrom.is_start (uxrom_of d₂) && cnrom.is_start (cnrom_of d₂) && mmc1.is_unused (mmc1_of d₂) && eqb (word_of d₂) b)
  no_bank = turn b 0 ∙ of_parts uxrom.start cnrom.start mmc1.unused _ _ _ (search arith) (uxrom_start (uxrom_of d₂)) (cnrom_start (cnrom_of d₂)) (mmc1_unused (mmc1_of d₂))

  banks_of : (k : MapperType) → banks_are_kept k b ≡ (fits_banks k d₂ && eqb (word_of d₂) b)
  unfolding banks_are_kept mmc1_is_kept part_fits is_mapper
  banks_of Nrom = no_bank
  banks_of Mmc1 =
      ap (λ (x : Bool). mmc1.fits (mmc1_of d₂) && x) (of_parts uxrom.start cnrom.start (mmc1_of d₂) _ _ true (search arith) (uxrom_start (uxrom_of d₂)) (cnrom_start (cnrom_of d₂)) (λ _. refl, λ _. refl))
      ∙ third (mmc1.fits (mmc1_of d₂)) (uxrom.is_start (uxrom_of d₂)) (cnrom.is_start (cnrom_of d₂)) (eqb (word_of d₂) b)
  banks_of Uxrom = of_parts (uxrom_of d₂) cnrom.start mmc1.unused true _ _ (search arith) (λ _. refl, λ _. refl) (cnrom_start (cnrom_of d₂)) (mmc1_unused (mmc1_of d₂))
  banks_of Cnrom = of_parts uxrom.start (cnrom_of d₂) mmc1.unused _ (cnrom.fits (cnrom_of d₂)) _ (search arith) (uxrom_start (uxrom_of d₂)) (λ _. refl, λ _. lt-ltb (digit d₂ 1) 4 (omega arith)) (mmc1_unused (mmc1_of d₂))
  banks_of Mmc3 = no_bank

module _ (r q : ℕ) where
  abbrev m : mmc3-type.Mmc3
  m = mmc3_of (flat_digits bytes r) (flat_digits irq_sizes q)

  -- by whether MMC3 is its own board's
  mmc3_of_lem : (mode : Mode) (t : Bool) → cond t (mmc3_fits mode m r q) (eqb r 0 && eqb q 0x1000000) ≡ (cond t (mmc3.fits mode m) (mmc3.is_start m) && eqb (regs_word m.regs) r && eqb (irq_word m) q)
  unfolding mmc3_fits mmc3.is_start mmc3.irq_is_start mmc3.ram_is_start mmc3.start register
  mmc3_of_lem mode true = refl
  mmc3_of_lem mode false =
      both_ways (eqb r 0 && eqb q 0x1000000) _
      (λ h. let p = and_parts (eqb r 0) (eqb q 0x1000000) h in rw (eqb-true r 0 p.0, eqb-true q 0x1000000 p.1))
      (λ h. let p = split_3 (mmc3.is_start m) (eqb (regs_word m.regs) r) (eqb (irq_word m) q) h in
      (λ i. turn r 0 i && turn q 0x1000000 i)
      ∙ sym (ap (λ (x : mmc3-type.Mmc3). eqb (regs_word x.regs) r && eqb (irq_word x) q) (mmc3_start (flat_digits bytes r) (flat_digits irq_sizes q) p.0))
      ∙ simp (p.1, p.2))

all : (a x w f b s g i l : Bool) → l ≡ true → ((a && x && w) && (f && b) && (s && g && i)) ≡ ((a && (f && s) && x) && (w && l && b && g && i))
all a x w f b s g i l e = grind arith

pub in_parts_lem : (w : Words) → in_parts w ≡ is_kept w
unfolding is_kept in_range fits mirroring_fits same words_of board_in mmc3_is_kept part_fits
in_parts_lem w =
    let d = flat_digits cart_sizes w.cart in
    let e = flat_digits banks_sizes w.banks in
    let m = mmc3_of (flat_digits bytes w.regs) (flat_digits irq_sizes w.irq) in
    let k = mapper_of d in
    (λ j. cart_of_lem w.cart w.length j && banks_of w.banks k j && mmc3_of_lem w.regs w.irq (mode_in d) (is_mapper k Mmc3) j)
    ∙ all (could_load (cart_of d w.length)) (screens_in (cart_of d w.length) (screens_of d)) (eqb (cart_word (cart_of d w.length) (screens_of d)) w.cart)
    (fits_banks k e) (eqb (word_of e) w.banks) (part_fits k Mmc3 (mmc3.fits (mode_in d) m) (mmc3.is_start m)) (eqb (regs_word m.regs) w.regs) (eqb (irq_word m) w.irq)
    (eqb w.length w.length) (eq-eqb w.length w.length refl)
