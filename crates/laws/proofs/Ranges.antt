-- Ranges are kept: the board that a load gives is in range, and so is the board after any call, so no run of calls is ever refused by 10 for its state.
-- Assumes nothing.
use Rattle.std.specs.Prelude.{Option, Some, None, Ok}
use Prim.Native.Nat.{ℕ, ◌+◌, ◌*◌, ◌/◌, ◌%◌, ◌<◌, ◌≤◌}
use mathlib.Core.Path.{◌≡◌, refl, sym, ap, ◌∙◌, subst, subst⁻¹}
use mathlib.Core.Bool.{Bool, true, false, cond, not, ◌||◌}
use mathlib.Core.List.{List, [], ◌∷◌}
use native.Mathlib.Omega.{arith}
use lib.Dec.{ltb, eqb}
use lib.ListN.{length}
use borrow.Author.Tests.{ltb-false, lt-ltb, eq-eqb}
use Rattle.std.proofs.lemmas.Bool.{and_from, cond_both}
use Rattle.rules.proofs.Bools.{either}
use Rattle.common.specs.Answers.{same, is_headers}
use Rattle.common.proofs.Answers.{same_self}
use Rattle.common.specs.declared.Mode.{Mode}
use Rattle.common.specs.declared.Mode.TheVariants.{House, Board as OnBoard}
use Rattle.common.specs.declared.Mirroring.{Mirroring}
use Rattle.memory.specs.Memory.{AreBytes}
use Rattle.cartridge.specs.Header.{header_of, is_ines, is_nes2, is_special, mirroring_of}
use Rattle.cartridge.specs.Nes2.{is_nes2_in, extended, mapper_in, prg_in, chr_in, nes2_not_taken, has_prg_ram}
use Rattle.cartridge.specs.Load.{bad_prg, no_powers, needed, counts_end, prg_ram_fits, could_load, rams_fit, verdict, cartridge_of, loaded_as}
use Rattle.cartridge.specs.Mappers.{mapper_number, is_mapper, mapper_type}
use Rattle.cartridge.specs.declared.Cartridge.{Cartridge}
use Rattle.cartridge.specs.declared.Header.{Header}
use Rattle.cartridge.specs.declared.MapperType.{MapperType}
use Rattle.cartridge.specs.declared.MapperType.TheVariants.{Nrom, Mmc1, Uxrom, Cnrom, Mmc3}
use Rattle.cartridge.specs.Refusals.{Verdict, given, first}
use Rattle.cartridge.proofs.Range.{fields, is_in_range as cart-in-range, board_counts_small}
use Rattle.uxrom.specs.Uxrom as uxrom
use Rattle.cnrom.specs.Cnrom as cnrom
use Rattle.cnrom.specs.declared.Cnrom as cnrom-type
use Rattle.mmc1.specs.Write as mmc1-write
use Rattle.mmc1.specs.Range as mmc1
use Rattle.mmc3.specs.Write as mmc3-write
use Rattle.mmc3.specs.Clock as mmc3-clock
use Rattle.mmc3.specs.Read as mmc3-read
use Rattle.mmc3.specs.Range as mmc3
use Rattle.boards.specs.Registers.{with_mmc3, mmc1_start, start, part_fits, fits, moved, ticked}
use Rattle.boards.specs.Start.{start_of, loaded_board, load_answer, board_of}
use Rattle.boards.specs.Range.{screens_fit, mirroring_fits, in_range, is_loaded}
use Rattle.boards.specs.Steps.{turned_fit, screens_by}
use Rattle.boards.proofs.Screens.{by_two_tests}
use Rattle.boards.specs.Write.{next_mirroring, turned, accepted_write, landing}
use Rattle.boards.specs.Clock.{accepted_clock, clock}
use Rattle.boards.specs.Runs.{Lent, next, Call, call, after}
use Rattle.boards.specs.declared.Board.{Board}
use Rattle.boards.specs.declared.Event.{Event}
use Rattle.boards.specs.declared.Event.TheVariants.{Read, Write, Clock}
use Rattle.boards.specs.declared.Registers.{Registers}
use Rattle.boards.specs.Registers.{Ticked}
use Rattle.boards.specs.Clock.{Clocked}
use Rattle.laws.specs.Loadable.{Needs}
use Rattle.laws.specs.Loads.{accepts}
use Rattle.laws.proofs.Accepting.{after_write}
use Rattle.laws.proofs.Mmc1Ranges as mmc1-ranges
use Rattle.laws.proofs.Mmc3Ranges as mmc3-ranges

-- registers are in range part by part
abbrev pub Parts : MapperType → Mode → Registers → Type 0
Parts k mode r =
    (part_fits k Uxrom true (uxrom.is_start r.uxrom) ≡ true)
    × (part_fits k Cnrom (cnrom.fits r.cnrom) (cnrom.is_start r.cnrom) ≡ true)
    × (part_fits k Mmc1 (mmc1.fits r.mmc1) (mmc1.is_unused r.mmc1) ≡ true)
    × (part_fits k Mmc3 (mmc3.fits mode r.mmc3) (mmc3.is_start r.mmc3) ≡ true)

pub parts : (k : MapperType) (mode : Mode) (r : Registers) → fits k mode r ≡ true → Parts k mode r
unfolding fits
parts k mode r h = grind arith

whole : (k : MapperType) (mode : Mode) (r : Registers) → Parts k mode r → fits k mode r ≡ true
unfolding fits
whole k mode r p = grind arith

cnrom_fits : (u : cnrom-type.Cnrom) (v a : ℕ) → cnrom.fits u ≡ true → cnrom.fits (cnrom.written u v a) ≡ true
unfolding cnrom.written
cnrom_fits u v a e = either (λ w. cnrom.fits w ≡ true) (ltb a 0x8000) e (lt-ltb (v % 4) 4 (omega arith))

-- a write moves the part of its board, and that stays in its range
moved_fits : (k : MapperType) (mode : Mode) (r : Registers) (v a : ℕ) → fits k mode r ≡ true → fits k mode (moved k mode r v a).left ≡ true
unfolding moved part_fits is_mapper
moved_fits Nrom mode r v a h = h
moved_fits Uxrom mode r v a h = let p = parts Uxrom mode r h in whole Uxrom mode (moved Uxrom mode r v a).left (refl, p.1, p.2, p.3)
moved_fits Cnrom mode r v a h =
    let p = parts Cnrom mode r h in
    whole Cnrom mode (moved Cnrom mode r v a).left (p.0, cnrom_fits r.cnrom v a p.1, p.2, p.3)
moved_fits Mmc1 mode r v a h =
    let p = parts Mmc1 mode r h in
    whole Mmc1 mode (moved Mmc1 mode r v a).left (p.0, p.1, mmc1-ranges.written_fits mode r.mmc1 v a p.2, p.3)
moved_fits Mmc3 mode r v a h =
    let p = parts Mmc3 mode r h in
    whole Mmc3 mode (moved Mmc3 mode r v a).left (p.0, p.1, p.2, mmc3-ranges.written_fits mode r.mmc3 v a p.3)

-- what keeps a range keeps it where the part is the board's own
own_part : (own x y x' y' : Bool) → own ≡ true → (x ≡ true → x' ≡ true) → cond own x y ≡ true → cond own x' y' ≡ true
own_part own x y x' y' o f h = grind arith

-- and so does a clock
ticked_fits : (k : MapperType) (mode : Mode) (r : Registers) → fits k mode r ≡ true → fits k mode (ticked k mode r).left ≡ true
unfolding ticked part_fits
ticked_fits k mode r h =
    let p = parts k mode r h in
    let m = (mmc3-clock.clocked mode r.mmc3).left in
    cond_both (is_mapper k Mmc3) _ _ (λ (t : Ticked). fits k mode t.left ≡ true)
    (λ own. whole k mode (with_mmc3 r m)
    (p.0, p.1, p.2, own_part (is_mapper k Mmc3) (mmc3.fits mode r.mmc3) (mmc3.is_start r.mmc3) (mmc3.fits mode m) (mmc3.is_start m) own (mmc3-ranges.clocked_fits mode r.mmc3) p.3))
    (λ other. h)

-- what a board may ask of its screens: any of the four on MMC1, the header's two on MMC3, nothing elsewhere
may_ask : MapperType → Option Mirroring → Bool
may_ask k None = true
may_ask k (Some m) = turned_fit k false (is_headers m)

any_asked : (t : Option Mirroring) → may_ask Mmc1 t ≡ true
unfolding may_ask turned_fit is_mapper
any_asked None = refl
any_asked (Some m) = refl

headers_asked : (t : Option Mirroring) → mmc3-ranges.headed t ≡ true → may_ask Mmc3 t ≡ true
unfolding may_ask turned_fit is_mapper
headers_asked None h = refl
headers_asked (Some m) h = h

moved_asks : (k : MapperType) (mode : Mode) (r : Registers) (v a : ℕ) → may_ask k (moved k mode r v a).answer ≡ true
unfolding moved may_ask
moved_asks Nrom mode r v a = refl
moved_asks Uxrom mode r v a = refl
moved_asks Cnrom mode r v a = refl
moved_asks Mmc1 mode r v a = any_asked (mmc1-write.written mode r.mmc1 v a).answer
moved_asks Mmc3 mode r v a = headers_asked (mmc3-write.written mode r.mmc3 v a).answer (mmc3-ranges.written_headed mode r.mmc3 v a)

-- screens that a board may ask for fit, whatever the header says
asked_fits : (k : MapperType) (same headers : Bool) → turned_fit k false headers ≡ true → turned_fit k same headers ≡ true
unfolding turned_fit
asked_fits k same headers e = grind arith

turns : (mode : Mode) (k : MapperType) (now header : Mirroring) (t : Option Mirroring) → may_ask k t ≡ true → screens_fit mode k header now ≡ true
    → screens_fit mode k header (next_mirroring mode now t) ≡ true
unfolding next_mirroring may_ask screens_by
turns House k now header t e h = h
turns OnBoard k now header None e h = h
turns OnBoard k now header (Some m) e h = sym (by_two_tests OnBoard k header m) ∙ asked_fits k (same m header) (is_headers m) e

-- the three parts of a board's range
pub three : (b : Board) → in_range b ≡ true → (could_load b.cart ≡ true) × (fits b.cart.mapper b.cart.mode b.registers ≡ true) × (mirroring_fits b ≡ true)
unfolding in_range
three b h = grind arith

write_in : (b : Board) (v a : ℕ) → in_range b ≡ true → in_range (accepted_write b v a).left ≡ true
unfolding accepted_write turned in_range mirroring_fits
write_in b v a h =
    let p = three b h in
    let c = b.cart in
    let f = moved_fits c.mapper c.mode b.registers v a p.1 in
    let s = turns c.mode c.mapper b.mirroring c.mirroring (moved c.mapper c.mode b.registers v a).answer (moved_asks c.mapper c.mode b.registers v a) p.2 in
    grind arith

clock_in : (b : Board) → in_range b ≡ true → in_range (accepted_clock b).left ≡ true
unfolding accepted_clock in_range mirroring_fits
clock_in b h =
    let p = three b h in
    let f = ticked_fits b.cart.mapper b.cart.mode b.registers p.1 in
    grind arith

-- what an accepted write and an accepted clock keep, every event keeps
every_event : (P : Board → Type 0) (b : Board) → ((v a : ℕ) → P (accepted_write b v a).left) → P (accepted_clock b).left → P b → (l : Lent) (e : Event) → P (next b l e)
unfolding next clock
every_event P b moves ticks stays l (Read a) = stays
every_event P b moves ticks stays l (Write a v) =
    subst⁻¹ P (after_write b (landing b l.image l.prg l.chr a) v a) (either P (accepts b l a) (moves v a) stays)
every_event P b moves ticks stays l Clock = either (λ (r : Clocked). P r.left) (in_range b) ticks stays

-- the board after any event
pub next_in_range : (b : Board) (l : Lent) (e : Event) → in_range b ≡ true → in_range (next b l e) ≡ true
next_in_range b l e h = every_event (λ (x : Board). in_range x ≡ true) b (λ v a. write_in b v a h) (clock_in b h) h l e

-- and after any list of calls
pub run_in_range : (b : Board) (cs : List Call) → in_range b ≡ true → in_range (after b cs) ≡ true
unfolding after
run_in_range b [] h = h
run_in_range b (call l e ∷ cs) h = run_in_range (next b l e) cs (next_in_range b l e h)

-- the verdict of a load by its eight tests
abbrev pub first_of : Bool → Bool → Bool → Bool → Bool → Bool → Bool → Bool → Verdict
first_of b9 b3 b4 b5 b16 b6 b7 b8 =
    first (given 9 b9 ∷ given 3 b3 ∷ given 4 b4 ∷ given 5 b5 ∷ given 16 b16 ∷ given 6 b6 ∷ given 7 b7 ∷ given 8 b8 ∷ [])

-- an accepted load found none of its refusals
taken : (b9 b3 b4 b5 b16 b6 b7 b8 : Bool) → first_of b9 b3 b4 b5 b16 b6 b7 b8 ≡ Ok tt → (b4 ≡ false) × (b6 ≡ false) × (b7 ≡ false) × (b8 ≡ false)
taken b9 b3 b4 b5 b16 b6 b7 b8 e = grind arith

-- the board of a mapper number up to 4 has that number
numbered : (n : ℕ) → n ≤ 4 → mapper_number (mapper_type n) ≡ n
unfolding mapper_type
numbered n h = grind arith

-- the counts of a header of bytes: a byte each, or a byte with a nibble above it
counts : (mode : Mode) (h : Header) → h.prg < 256 → h.chr < 256 → h.flags9 < 256
    → (prg_in mode h < counts_end mode (is_nes2 h)) × (chr_in mode h < counts_end mode (is_nes2 h))
unfolding counts_end prg_in chr_in
counts mode h p c n = go (extended mode h)
  where
    go : (t : Bool) → (cond t (h.prg + h.flags9 % 16 * 256) h.prg < cond t 4096 256) × (cond t (h.chr + h.flags9 / 16 * 256) h.chr < cond t 4096 256)
    go true = (omega (arith, p), omega (arith, c, n))
    go false = (p, c)

-- only an image that is read as NES 2.0 lacks PRG RAM
noted : (mode : Mode) (h : Header) → (has_prg_ram mode h || extended mode h) ≡ true
unfolding has_prg_ram
noted mode h = grind arith

-- what an accepted load keeps is as a load could leave it
pub could_load_lem : (s : List ℕ) (mode : Mode) (p c : ℕ) → AreBytes s → verdict s mode p c ≡ Ok tt → could_load (cartridge_of (header_of s) mode (length s)) ≡ true
unfolding verdict prg_ram_fits cartridge_of header_of mirroring_of
could_load_lem s mode p c b e =
    let h = header_of s in
    let t = taken (not (rams_fit p c)) (ltb (length s) 16400 || not (is_ines s)) (ltb 4 (mapper_in mode h)) (is_special h) (nes2_not_taken mode h) (bad_prg (mapper_in mode h) (prg_in mode h)) (ltb (length s) (needed (prg_in mode h) (chr_in mode h))) (no_powers mode (prg_in mode h) (chr_in mode h)) e in
    let n = counts mode h (b 4) (b 5) (b 9) in
    cart-in-range (cartridge_of h mode (length s))
    (record {
      prg_taken = subst⁻¹ (λ (n : ℕ). bad_prg n (prg_in mode h) ≡ false) (numbered (mapper_in mode h) (ltb-false 4 (mapper_in mode h) t.0)) t.1;
      powers = t.3;
      prg_small = n.0;
      chr_small = n.1;
      room = ltb-false (length s) (needed (prg_in mode h) (chr_in mode h)) t.2;
      headers = either (λ (m : Mirroring). is_headers m ≡ true) (eqb (h.flags6 % 2) 1) refl refl;
      noted = noted mode h;
    })

-- the start values of every mapper
start_fits : (k : MapperType) (mode : Mode) → fits k mode (start k) ≡ true
unfolding start mmc1_start part_fits mmc1.is_unused mmc1.fits mmc1.serial_fits mmc1.regs_fits mmc3.start mmc3.is_start mmc3.irq_is_start mmc3.ram_is_start mmc3.fits mmc3-read.register
start_fits k mode = whole k mode (start k) (holds (is_mapper k Uxrom) refl refl, holds (is_mapper k Cnrom) refl refl, of_mmc1 (is_mapper k Mmc1), holds (is_mapper k Mmc3) (and_from _ _ (mmc3-ranges.low_fits mode) (mmc3-ranges.start_fits mode)) refl)
  where
    holds : (t : Bool) {x y : Bool} → x ≡ true → y ≡ true → cond t x y ≡ true
    holds t e f = either (λ (z : Bool). z ≡ true) t e f

    of_mmc1 : (t : Bool) → cond t (mmc1.fits (cond t mmc1.start mmc1.unused)) (mmc1.is_unused (cond t mmc1.start mmc1.unused)) ≡ true
    of_mmc1 true = refl
    of_mmc1 false = refl

start_screens : (mode : Mode) (k : MapperType) (m : Mirroring) → is_headers m ≡ true → screens_fit mode k m m ≡ true
unfolding screens_fit
start_screens House k m h = same_self m
start_screens OnBoard Nrom m h = same_self m
start_screens OnBoard Mmc1 m h = refl
start_screens OnBoard Uxrom m h = same_self m
start_screens OnBoard Cnrom m h = same_self m
start_screens OnBoard Mmc3 m h = h

-- the board that such a cartridge starts with
pub start_in_range : (c : Cartridge) → could_load c ≡ true → in_range (start_of c) ≡ true
unfolding start_of in_range mirroring_fits
start_in_range c h = and_from _ _ (and_from _ _ h (start_fits c.mapper c.mode)) (start_screens c.mode c.mapper c.mirroring (fields c h).headers)

-- the board that an accepted load gives, of any image of bytes
pub load_in_range : (s : List ℕ) (mode : Mode) (p c : ℕ) → AreBytes s → verdict s mode p c ≡ Ok tt
    → in_range (start_of (cartridge_of (header_of s) mode (length s))) ≡ true
load_in_range s mode p c b e = start_in_range (cartridge_of (header_of s) mode (length s)) (could_load_lem s mode p c b e)

-- no event changes what was loaded
pub next_keeps_cart : (b : Board) (l : Lent) (e : Event) → (next b l e).cart ≡ b.cart
unfolding accepted_write turned accepted_clock
next_keeps_cart b l e = every_event (λ (x : Board). x.cart ≡ b.cart) b (λ v a. refl) refl refl l e

pub run_keeps_cart : (b : Board) (cs : List Call) → (after b cs).cart ≡ b.cart
unfolding after
run_keeps_cart b [] = refl
run_keeps_cart b (call l e ∷ cs) = run_keeps_cart (next b l e) cs ∙ next_keeps_cart b l e

-- a board that only calls have touched since its load is never refused by 10: it stays in range, and so does the length that it was loaded with
pub never_refused_by_10 : (b : Board) (cs : List Call) (length : ℕ) → in_range b ≡ true → length ≡ b.cart.length → is_loaded (after b cs) length ≡ true
unfolding is_loaded
never_refused_by_10 b cs length h e =
    and_from _ _ (run_in_range b cs h) (eq-eqb length (after b cs).cart.length (e ∙ sym (ap (λ (c : Cartridge). c.length) (run_keeps_cart b cs))))

-- the same, of the reply that a load owes
accepted : (v : Verdict) (c : Cartridge) → load_answer (loaded_board (loaded_as v c)) ≡ Ok tt → v ≡ Ok tt
unfolding loaded_board load_answer board_of loaded_as
accepted v c e = grind arith

pub loaded_in_range : (s : List ℕ) (mode : Mode) (p c : ℕ) → AreBytes s
    → load_answer (loaded_board (loaded_as (verdict s mode p c) (cartridge_of (header_of s) mode (length s)))) ≡ Ok tt
    → in_range (board_of (loaded_board (loaded_as (verdict s mode p c) (cartridge_of (header_of s) mode (length s))))) ≡ true
unfolding loaded_board load_answer board_of loaded_as
loaded_in_range s mode p c b e =
    let t = accepted (verdict s mode p c) (cartridge_of (header_of s) mode (length s)) e in
    subst⁻¹ (λ (v : Verdict). in_range (board_of (loaded_board (loaded_as v (cartridge_of (header_of s) mode (length s))))) ≡ true) t (load_in_range s mode p c b t)

-- "Greatest needed length: 6,266,896"
pub greatest_length : needed 255 255 ≡ 6266896
greatest_length = refl

-- no counts of a byte each need more
pub no_counts_need_more : (prg chr : ℕ) → prg < 256 → chr < 256 → needed prg chr ≤ 6266896
no_counts_need_more prg chr p c = omega (arith, p, c)

-- M-100's counts: 2,048 PRG blocks and 2,048 CHR blocks
pub greatest_nes2_length : needed 2048 2048 ≡ 50331664
greatest_nes2_length = refl

-- no cartridge in range needs more, and its image has what it needs
pub no_cartridge_needs_more : (c : Cartridge) → could_load c ≡ true → Needs c
unfolding counts_end is_nes2_in
no_cartridge_needs_more c h =
    record { as_ines = small; as_any = go c.mode refl; is_there = (fields c h).room }
  where
    small : is_nes2_in c.mode c.nes2 ≡ false → needed c.prg c.chr ≤ 6266896
    small e =
        let end : counts_end c.mode c.nes2 ≡ 256 = rw e refl in
        no_counts_need_more c.prg c.chr (subst (λ (n : ℕ). c.prg < n) end (fields c h).prg_small) (subst (λ (n : ℕ). c.chr < n) end (fields c h).chr_small)

    go : (m : Mode) → c.mode ≡ m → needed c.prg c.chr ≤ 50331664
    go House e = let n = small (ap (λ (m : Mode). is_nes2_in m c.nes2) e) in omega (arith, n)
    go OnBoard e = let s = board_counts_small c (fields c h) e in omega (arith, s.0, s.1)

-- nor does a board in range
pub no_board_needs_more : (b : Board) → in_range b ≡ true → Needs b.cart
no_board_needs_more b h = no_cartridge_needs_more b.cart (three b h).0

-- so no accepted image of bytes, which has the data that its counts say within its length
pub no_accepted_image_needs_more : (s : List ℕ) (mode : Mode) (p c : ℕ) → AreBytes s
    → load_answer (loaded_board (loaded_as (verdict s mode p c) (cartridge_of (header_of s) mode (length s)))) ≡ Ok tt
    → Needs (cartridge_of (header_of s) mode (length s))
no_accepted_image_needs_more s mode p c b e =
    no_cartridge_needs_more (cartridge_of (header_of s) mode (length s))
    (could_load_lem s mode p c b (accepted (verdict s mode p c) (cartridge_of (header_of s) mode (length s)) e))

-- and whatever numbers the header has: its counts, with their extension, say no more than is there
pub the_data_is_there : (s : List ℕ) (mode : Mode) (p c : ℕ) → verdict s mode p c ≡ Ok tt → needed (prg_in mode (header_of s)) (chr_in mode (header_of s)) ≤ length s
unfolding verdict
the_data_is_there s mode p c e =
    let h = header_of s in
    let t = taken (not (rams_fit p c)) (ltb (length s) 16400 || not (is_ines s)) (ltb 4 (mapper_in mode h)) (is_special h) (nes2_not_taken mode h) (bad_prg (mapper_in mode h) (prg_in mode h)) (ltb (length s) (needed (prg_in mode h) (chr_in mode h))) (no_powers mode (prg_in mode h) (chr_in mode h)) e in
    ltb-false (length s) (needed (prg_in mode h) (chr_in mode h)) t.2
