-- For a board in range a caller that goes by the number of a page touches no byte outside the buffers it lends; only a read is of the image,
-- and only a write is to be called. Assumes nothing.
use Rattle.std.specs.Prelude.{Ok, Err}
use Prim.Native.Nat.{ℕ, ◌+◌, ◌*◌, ◌/◌, ◌%◌, ◌<◌}
use mathlib.Core.Path.{◌≡◌, subst}
use mathlib.Core.Bool.{true}
use mathlib.Core.List.{List}
use native.Mathlib.Omega.{arith}
use lib.ListN.{length}
use Rattle.std.proofs.lemmas.Bool.{cond_both}
use Rattle.common.specs.Common.{KB1}
use Rattle.cartridge.specs.Load.{prg_total, rams_fit}
use Rattle.places.specs.declared.Place.TheVariants.{Prg, Chr, PrgRam, ChrRam, Nowhere}
use Rattle.places.specs.Places.{Landing}
use Rattle.boards.specs.Range.{is_loaded}
use Rattle.boards.specs.Read.{read_landing}
use Rattle.boards.specs.Write.{write_landing}
use Rattle.boards.specs.declared.Board.{Board}
use Rattle.pages.specs.Pages.{place_read, place_written, read_from, written_to, has_registers, read_page, write_page}
use Rattle.laws.specs.Within.{Lies}
use Rattle.laws.proofs.Within.{read_within, write_within}
use Rattle.page_laws.specs.Whole.{moved_on, shifted}
use Rattle.page_laws.specs.Through.{kind, Inside}
use Rattle.page_laws.proofs.Numbers.{image_number, ram_number, refused_number, Served, served}
use Rattle.page_laws.proofs.Whole.{address_whole, written_whole}

-- a number of no buffer
outside : (n o : ℕ) (image prg chr : List ℕ) → 2 < kind n → Inside n o image prg chr
outside n o image prg chr h = search arith

-- and of each
module _ (b : Board) (o : ℕ) (image prg chr : List ℕ) (s : Served b image prg chr) where
  of_image : (d i : ℕ) → d + i < 0x10000000 → d + (i + o) < b.cart.length → Inside (d + i % 0x10000000) o image prg chr
  of_image d i h l = let n = image_number d i h in search arith

  of_prg_ram : (i : ℕ) → i + o < 8192 → Inside (0x10000000 + i % 8192) o image prg chr
  of_prg_ram i l = let n = ram_number 1 i (omega arith) in search arith

  of_chr_ram : (i : ℕ) → i + o < 8192 → Inside (0x20000000 + i % 8192) o image prg chr
  of_chr_ram i l = let n = ram_number 2 i (omega arith) in search arith

  of_refused : (n : ℕ) → kind n ≡ 4 → Inside n o image prg chr
  of_refused n e = outside n o image prg chr (omega arith)

  read_inside : (l : Landing) → Lies b.cart (shifted l o) → Inside (read_from b.cart l) o image prg chr
  unfolding read_from place_read shifted moved_on
  read_inside (Ok (Prg i)) l = of_image 16 i (omega (arith, l.0, s.prg_blocks)) l.1
  read_inside (Ok (Chr i)) l = of_image (16 + prg_total b.cart) i (omega (arith, l.0, s.prg_blocks, s.chr_blocks)) l.1
  read_inside (Ok (PrgRam i)) l = of_prg_ram i l
  read_inside (Ok (ChrRam i)) l = of_chr_ram i l
  read_inside (Ok Nowhere) l = outside 0x30000000 o image prg chr (omega arith)
  read_inside (Err why) l = of_refused _ (refused_number why).0

  write_inside : (l : Landing) → Lies b.cart (shifted l o) → Inside (written_to l) o image prg chr
  unfolding written_to place_written shifted moved_on
  write_inside (Ok (Prg i)) l = outside 0x30000000 o image prg chr (omega arith)
  write_inside (Ok (Chr i)) l = outside 0x30000000 o image prg chr (omega arith)
  write_inside (Ok (PrgRam i)) l = of_prg_ram i l
  write_inside (Ok (ChrRam i)) l = of_chr_ram i l
  write_inside (Ok Nowhere) l = outside 0x30000000 o image prg chr (omega arith)
  write_inside (Err why) l = of_refused _ (refused_number why).0

  read_kind : (l : Landing) → Lies b.cart (shifted l o) → kind (read_from b.cart l) < 5
  unfolding read_from place_read shifted moved_on
  read_kind (Ok (Prg i)) l = omega (arith, l.0, s.prg_blocks)
  read_kind (Ok (Chr i)) l = omega (arith, l.0, s.prg_blocks, s.chr_blocks)
  read_kind (Ok (PrgRam i)) l = omega arith
  read_kind (Ok (ChrRam i)) l = omega arith
  read_kind (Ok Nowhere) l = omega arith
  read_kind (Err why) l = omega (arith, (refused_number why).0)

module _ (b : Board) (image prg chr : List ℕ) (loaded : is_loaded b (length image) ≡ true) (rams : rams_fit (length prg) (length chr) ≡ true) (a : ℕ) where
  s : Served b image prg chr
  s = served b image prg chr loaded rams

  here : Lies b.cart (shifted (read_landing b (a / KB1 * KB1)) (a % KB1))
  here = subst (Lies b.cart) (address_whole b a) (read_within b a s.is_in_range)

  pub reads_inside : Inside (read_page b (a / KB1)) (a % KB1) image prg chr
  unfolding read_page
  reads_inside = read_inside b (a % KB1) image prg chr s (read_landing b (a / KB1 * KB1)) here

  -- a read page is never of kind 5
  pub read_kinds : kind (read_page b (a / KB1)) < 5
  unfolding read_page
  read_kinds = read_kind b (a % KB1) image prg chr s (read_landing b (a / KB1 * KB1)) here

  pub writes_inside : Inside (write_page b (a / KB1)) (a % KB1) image prg chr
  unfolding write_page
  writes_inside =
      cond_both (has_registers b.cart.mapper (a / KB1)) _ _ (λ (n : ℕ). Inside n (a % KB1) image prg chr)
      (λ t. outside 0x50000000 (a % KB1) image prg chr (omega arith))
      (λ f. write_inside b (a % KB1) image prg chr s (write_landing b (a / KB1 * KB1)) (subst (Lies b.cart) (written_whole b a f) (write_within b a s.is_in_range)))

-- a write page is never of kind 0
written_kind : (l : Landing) → 0 < kind (written_to l)
unfolding written_to place_written
written_kind (Ok (Prg i)) = omega arith
written_kind (Ok (Chr i)) = omega arith
written_kind (Ok (PrgRam i)) = omega arith
written_kind (Ok (ChrRam i)) = omega arith
written_kind (Ok Nowhere) = omega arith
written_kind (Err why) = omega (arith, (refused_number why).0)

pub write_kinds : (b : Board) (p : ℕ) → 0 < kind (write_page b p)
unfolding write_page
write_kinds b p = cond_both (has_registers b.cart.mapper p) _ _ (λ (n : ℕ). 0 < kind n) (λ t. omega arith) (λ f. written_kind (write_landing b (p * KB1)))
