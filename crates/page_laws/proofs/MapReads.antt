-- For a board in range a read by the number of its page answers what the call answers. Assumes nothing.
use Rattle.std.specs.Prelude.{Ok, Err}
use Prim.Native.Nat.{ℕ, ◌+◌, ◌*◌, ◌/◌, ◌%◌, ◌<◌}
use mathlib.Core.Path.{◌≡◌, refl, ap}
use mathlib.Core.Bool.{true}
use mathlib.Core.List.{List}
use native.Mathlib.Omega.{arith}
use lib.ListN.{get_or, length}
use lib.Seq.{get_or-drop}
use Rattle.common.specs.Common.{KB1}
use Rattle.cartridge.specs.Load.{prg_total, prg_rom, chr_rom, rams_fit}
use Rattle.cartridge.specs.declared.Cartridge.{Cartridge}
use Rattle.places.specs.Places.{byte_of, byte_at, answer_at}
use Rattle.places.specs.declared.Place.TheVariants.{Prg, Chr, PrgRam, ChrRam, Nowhere}
use Rattle.places.specs.Places.{Landing}
use Rattle.boards.specs.Numbers.{refused, read_number}
use Rattle.boards.specs.Range.{is_loaded, guarded}
use Rattle.boards.specs.Read.{read_landing, read}
use Rattle.boards.specs.declared.Board.{Board}
use Rattle.pages.specs.Pages.{place_read, read_from, read_page}
use Rattle.laws.specs.Within.{Lies}
use Rattle.laws.proofs.Within.{read_within}
use Rattle.page_laws.specs.Whole.{moved_on, shifted}
use Rattle.page_laws.specs.Through.{through}
use Rattle.page_laws.proofs.Numbers.{image_number, ram_number, refused_number, served}
use Rattle.page_laws.proofs.Whole.{address_whole}

module _ (c : Cartridge) (o : ℕ) (image prg chr : List ℕ) (s : c.prg < 4096) (t : c.chr < 4096) where
  read_at : (l : Landing) → Lies c l → read_number (answer_at (shifted l o) (byte_at c (shifted l o) image prg chr)) ≡ through (read_from c l) o image prg chr
  unfolding through read_from place_read shifted moved_on byte_at byte_of answer_at read_number refused prg_rom chr_rom
  read_at (Ok (Prg i)) l =
      let n = image_number 16 i (omega (arith, l.0)) in
      rw (n.0, n.1, get_or-drop) (ap (λ (k : ℕ). get_or image k 0) (omega arith))
  read_at (Ok (Chr i)) l =
      let n = image_number (16 + prg_total c) i (omega (arith, l.0)) in
      rw (n.0, n.1, get_or-drop) (ap (λ (k : ℕ). get_or image k 0) (omega arith))
  read_at (Ok (PrgRam i)) l = let n = ram_number 1 i l in rw (n.0, n.1) refl
  read_at (Ok (ChrRam i)) l = let n = ram_number 2 i l in rw (n.0, n.1) refl
  read_at (Ok Nowhere) l = refl
  read_at (Err why) l = let n = refused_number why in rw (n.0, n.1) refl

pub map_reads : (b : Board) (image prg chr : List ℕ) → is_loaded b (length image) ≡ true → rams_fit (length prg) (length chr) ≡ true
    → (a : ℕ) → read_number (read b image prg chr a) ≡ through (read_page b (a / KB1)) (a % KB1) image prg chr
unfolding read guarded read_page
map_reads b image prg chr loaded rams a =
    let s = served b image prg chr loaded rams in
    let first = a / KB1 * KB1 in
    rw (rams, loaded, address_whole b a) (read_at b.cart (a % KB1) image prg chr s.prg_blocks s.chr_blocks (read_landing b first) (read_within b first s.is_in_range))
