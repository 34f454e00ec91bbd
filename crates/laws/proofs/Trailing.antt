-- Bytes after the data are ignored: a load looks at the header and the length, and every place of a read lies before the end of the data. Assumes nothing.
use Rattle.std.specs.Prelude.{Ok, Err}
use Prim.Native.Nat.{ℕ, ◌+◌, ◌<◌, ◌≤◌}
use mathlib.Core.Path.{◌≡◌, refl, sym, ap, ap₂, ◌∙◌, subst⁻¹}
use mathlib.Core.Bool.{Bool, true, false}
use mathlib.Core.List.{List, [], ◌∷◌, ◌++◌}
use native.Mathlib.Omega.{arith}
use lib.ListN.{length}
use lib.Seq.{get_or-take, get_or-drop}
use Rattle.common.specs.declared.Mode.{Mode}
use Rattle.common.specs.declared.Mode.TheVariants.{House, Board as OnBoard}
use Rattle.memory.specs.Memory.{byte}
use Rattle.cartridge.specs.Header.{is_ines, header_of}
use Rattle.cartridge.specs.Load.{needed, rams_fit, verdict, cartridge_of, loaded_as, ram_after, prg_total, prg_rom, chr_rom}
use Rattle.cartridge.specs.declared.Cartridge.{Cartridge}
use Rattle.cartridge.specs.Refusals.{Verdict}
use Rattle.places.specs.Places.{byte_of, byte_at, answer_at}
use Rattle.places.specs.declared.Place.TheVariants.{Prg, Chr, PrgRam, ChrRam, Nowhere}
use Rattle.places.specs.Places.{Landing}
use Rattle.boards.specs.Start.{start_of, loaded_board, load, load_answer, board_of}
use Rattle.boards.specs.Range.{in_range, is_loaded, guarded}
use Rattle.boards.specs.Read.{read_landing}
use Rattle.boards.specs.Read as reads
use Rattle.boards.specs.Write.{write_landing, written_as, landing}
use Rattle.boards.specs.Runs.{Lent, lent, next, answer, left, Moment, moment, stepped, played, ended}
use Rattle.boards.specs.declared.Board.{Board}
use Rattle.boards.specs.declared.Event.{Event}
use Rattle.boards.specs.declared.Event.TheVariants.{Read, Write, Clock}
use Rattle.boards.specs.declared.Answer.{Answer}
use Rattle.boards.specs.declared.Answer.TheVariants.{Read as toRead, Write as toWrite}
use Rattle.laws.specs.Calls.{load_with}
use Rattle.laws.specs.PLines.{nrom, ram}
use Rattle.laws.specs.Within.{Lies}
use Rattle.laws.specs.Trailing.{EqualUpTo, images_end, boards_end, with_image, LoadedAlike, ServedAlike, PlayedAlike}
use Rattle.laws.proofs.Opened.{opened}
use Rattle.laws.proofs.Ranges.{next_keeps_cart}
use Rattle.laws.proofs.Within.{read_within}

-- each byte before the end is the same
same_byte : (n i : ℕ) (s t : List ℕ) → EqualUpTo n s t → i < n → byte t i ≡ byte s i
same_byte n i s t e h = sym (get_or-take n t i 0 h) ∙ ap (λ (u : List ℕ). byte u i) e.one_start ∙ get_or-take n s i 0 h

-- so is the header, for the data begins at byte 16
module _ (n : ℕ) (s t : List ℕ) (e : EqualUpTo n s t) (h : 16 ≤ n) where
  at : (i : ℕ) → i < 16 → byte t i ≡ byte s i
  at i l = same_byte n i s t e (omega (arith, h, l))

  same_header : header_of t ≡ header_of s
  unfolding header_of
  same_header = λ i.
      record {
        prg = at 4 (omega arith) i;
        chr = at 5 (omega arith) i;
        flags6 = at 6 (omega arith) i;
        flags7 = at 7 (omega arith) i;
        flags8 = at 8 (omega arith) i;
        flags9 = at 9 (omega arith) i;
        flags10 = at 10 (omega arith) i;
        flags11 = at 11 (omega arith) i;
        flags12 = at 12 (omega arith) i;
        flags13 = at 13 (omega arith) i;
        flags14 = at 14 (omega arith) i;
        flags15 = at 15 (omega arith) i;
      }

  same_magic : is_ines t ≡ is_ines s
  unfolding is_ines
  same_magic = rw (at 0 (omega arith), at 1 (omega arith), at 2 (omega arith), at 3 (omega arith)) refl

  same_verdict : (mode : Mode) (p c : ℕ) → verdict t mode p c ≡ verdict s mode p c
  unfolding verdict
  same_verdict mode p c = rw (same_header, same_magic, e.one_length) refl

-- a load
pub trailing_bytes_change_no_load : (mode : Mode) (s t prg chr : List ℕ) → EqualUpTo (images_end mode s) s t → LoadedAlike mode s t prg chr
trailing_bytes_change_no_load mode s t prg chr e =
    let h : 16 ≤ images_end mode s = omega arith in
    let v = same_verdict (images_end mode s) s t e h mode (length prg) (length chr) in
    let c : cartridge_of (header_of t) mode (length t) ≡ cartridge_of (header_of s) mode (length s)
    = ap₂ (λ x n. cartridge_of x mode n) (same_header (images_end mode s) s t e h) e.one_length in
    let z : load t mode (length prg) (length chr) ≡ load s mode (length prg) (length chr) = ap₂ (λ (x : Verdict) (y : Cartridge). loaded_board (loaded_as x y)) v c in
    record {
      the_answer = ap load_answer z;
      the_board = ap board_of z;
      the_prg_ram = ap (λ (x : Verdict). ram_after x prg) v;
      the_chr_ram = ap (λ (x : Verdict). ram_after x chr) v;
    }

-- the byte at a place that lies inside what it names
byte_alike : (c : Cartridge) (p : Landing) (s t prg chr : List ℕ) → EqualUpTo (needed c.prg c.chr) s t → Lies c p → byte_at c p t prg chr ≡ byte_at c p s prg chr
unfolding byte_at byte_of prg_rom chr_rom
byte_alike c (Ok (Prg i)) s t prg chr e h =
    get_or-drop 16 t i 0 ∙ same_byte (needed c.prg c.chr) (16 + i) s t e (omega (arith, h.0)) ∙ sym (get_or-drop 16 s i 0)
byte_alike c (Ok (Chr i)) s t prg chr e h =
    get_or-drop (16 + prg_total c) t i 0
    ∙ same_byte (needed c.prg c.chr) (16 + prg_total c + i) s t e (omega (arith, h.0))
    ∙ sym (get_or-drop (16 + prg_total c) s i 0)
byte_alike c (Ok (PrgRam i)) s t prg chr e h = refl
byte_alike c (Ok (ChrRam i)) s t prg chr e h = refl
byte_alike c (Ok Nowhere) s t prg chr e h = refl
byte_alike c (Err why) s t prg chr e h = refl

-- a board out of range answers no byte
no_byte : (rams : Bool) (p : Landing) (v w : ℕ) → answer_at (guarded rams false p) v ≡ answer_at (guarded rams false p) w
unfolding answer_at guarded
no_byte rams p v w = grind arith

module _ (b : Board) (l : Lent) (t : List ℕ) (e : EqualUpTo (boards_end b) l.image t) where
  judged : is_loaded b (length t) ≡ is_loaded b (length l.image)
  judged = ap (is_loaded b) e.one_length

  abbrev rams : Bool
  rams = rams_fit (length l.prg) (length l.chr)

  reads_alike : (a : ℕ) → answer b (with_image t l) (Read a) ≡ answer b l (Read a)
  unfolding answer reads.read is_loaded
  reads_alike a = go (in_range b) refl
    where
      go : (x : Bool) → in_range b ≡ x → answer b (with_image t l) (Read a) ≡ answer b l (Read a)
      go true h = ap₂ (λ (x : Bool) (v : ℕ). toRead (answer_at (guarded rams x (read_landing b a)) v)) judged (byte_alike b.cart (read_landing b a) l.image t l.prg l.chr e (read_within b a h))
      go false h = rw h (ap toRead (no_byte rams (read_landing b a) _ _))

  lands_alike : (a : ℕ) → landing b t l.prg l.chr a ≡ landing b l.image l.prg l.chr a
  unfolding landing
  lands_alike a = ap (λ (x : Bool). guarded rams x (write_landing b a)) judged

  -- a call on any board that was loaded with such an image
  pub trailing_bytes_change_no_call : (x : Event) → ServedAlike b l t x
  unfolding answer next left
  trailing_bytes_change_no_call (Read a) = record { the_answer = reads_alike a; the_next_board = refl; the_buffers = refl }
  trailing_bytes_change_no_call (Write a v) =
      record {
        the_answer = ap (λ (p : Landing). toWrite (written_as b p v a).answer) (lands_alike a);
        the_next_board = ap (λ (p : Landing). (written_as b p v a).left) (lands_alike a);
        the_buffers = rw (lands_alike a) refl;
      }
  trailing_bytes_change_no_call Clock = record { the_answer = refl; the_next_board = refl; the_buffers = refl }

image_stays : (b : Board) (l : Lent) (x : Event) → (left b l x).image ≡ l.image
unfolding left
image_stays b l x = grind arith

-- what holds of the buffers and the board before an event holds after it
still_equal : (b : Board) (l : Lent) (t : List ℕ) (x : Event) → EqualUpTo (boards_end b) l.image t → EqualUpTo (boards_end (next b l x)) (left b l x).image t
still_equal b l t x e =
    subst⁻¹ (λ (c : Cartridge). EqualUpTo (needed c.prg c.chr) (left b l x).image t) (next_keeps_cart b l x)
    (subst⁻¹ (λ (s : List ℕ). EqualUpTo (boards_end b) s t) (image_stays b l x) e)

-- a run
pub trailing_bytes_change_no_run : (b : Board) (l : Lent) (t : List ℕ) → EqualUpTo (boards_end b) l.image t → (es : List Event) → PlayedAlike b l t es
unfolding played ended stepped
trailing_bytes_change_no_run b l t e [] = record { the_answers = refl; the_board = refl; the_buffers = refl }
trailing_bytes_change_no_run b l t e (x ∷ es) =
    let c = trailing_bytes_change_no_call b l t e x in
    let r = trailing_bytes_change_no_run (next b l x) (left b l x) t (still_equal b l t x e) es in
    let z : stepped (moment b (with_image t l)) x ≡ moment (next b l x) (with_image t (left b l x)) = λ i. moment (c.the_next_board i) (c.the_buffers i) in
    record {
      the_answers = ap₂ (λ (y : Answer) (ys : List Answer). y ∷ ys) c.the_answer (ap (λ (m : Moment). played m es) z ∙ r.the_answers);
      the_board = ap (λ (m : Moment). (ended m es).board) z ∙ r.the_board;
      the_buffers = ap (λ (m : Moment). (ended m es).lent) z ∙ r.the_buffers;
    }

-- and a run from the load on, with whatever is in both RAMs
loaded_counts : (w : Verdict) (s : List ℕ) (mode : Mode) → load_answer (loaded_board (loaded_as w (cartridge_of (header_of s) mode (length s)))) ≡ Ok tt
    → boards_end (board_of (loaded_board (loaded_as w (cartridge_of (header_of s) mode (length s))))) ≡ images_end mode s
unfolding loaded_board load_answer board_of loaded_as start_of cartridge_of header_of
loaded_counts w s mode e = grind arith

pub trailing_bytes_change_nothing_after_a_load : (mode : Mode) (s t prg chr : List ℕ) → EqualUpTo (images_end mode s) s t → (load_with mode s prg chr).answer ≡ Ok tt
    → (prg' chr' : List ℕ) (es : List Event) → PlayedAlike (load_with mode s prg chr).left (lent s prg' chr') t es
trailing_bytes_change_nothing_after_a_load mode s t prg chr e h prg' chr' es =
    trailing_bytes_change_no_run (load_with mode s prg chr).left (lent s prg' chr') t
    (subst⁻¹ (λ (n : ℕ). EqualUpTo n s t) (loaded_counts (verdict s mode (length prg) (length chr)) s mode h) e) es

-- two such images: eight bytes follow the data of an NROM image, zeros in one and ones in the other, and both load
abbrev with_zeros : List ℕ
with_zeros = nrom ++ (0 ∷ 0 ∷ 0 ∷ 0 ∷ 0 ∷ 0 ∷ 0 ∷ 0 ∷ [])

abbrev with_ones : List ℕ
with_ones = nrom ++ (1 ∷ 1 ∷ 1 ∷ 1 ∷ 1 ∷ 1 ∷ 1 ∷ 1 ∷ [])

pub met : (mode : Mode) → EqualUpTo (images_end mode with_zeros) with_zeros with_ones
unfolding opened
met House = record { one_length = refl; one_start = refl }
met OnBoard = record { one_length = refl; one_start = refl }

pub met_accepted : (mode : Mode) → (load_with mode with_zeros ram ram).answer ≡ Ok tt
unfolding opened
met_accepted House = refl
met_accepted OnBoard = refl
