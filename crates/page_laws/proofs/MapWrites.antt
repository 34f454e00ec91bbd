-- For a board in range a caller that stores by the number of a page does what the call owes, where the page takes the store; where it is refused, so is the call.
-- Assumes nothing.
use Rattle.std.specs.Prelude.{None, Ok, Err}
use Prim.Native.Nat.{ℕ, ◌*◌, ◌/◌, ◌%◌, ◌<◌}
use mathlib.Core.Path.{◌≡◌, refl, sym}
use mathlib.Core.Bool.{true, false, ◌&&◌}
use mathlib.Core.List.{List}
use native.Mathlib.Omega.{arith}
use lib.Dec.{leb}
use lib.ListN.{length}
use Rattle.std.proofs.lemmas.Bool.{cond_both}
use borrow.Author.Tests.{lt-ltb}
use Rattle.common.specs.Common.{KB1}
use Rattle.common.specs.declared.Mode.{Mode}
use Rattle.common.specs.declared.Mode.TheVariants.{House, Board as OnBoard}
use Rattle.common.specs.declared.Mirroring.{Mirroring}
use Rattle.cartridge.specs.Load.{rams_fit}
use Rattle.cartridge.specs.Mappers.{is_mapper}
use Rattle.cartridge.specs.declared.MapperType.{MapperType}
use Rattle.cartridge.specs.declared.MapperType.TheVariants.{Nrom, Mmc1, Uxrom, Cnrom, Mmc3}
use Rattle.places.specs.Places.{stored_prg, stored_chr}
use Rattle.places.specs.declared.Place.TheVariants.{Prg, Chr, PrgRam, ChrRam, Nowhere}
use Rattle.places.specs.Places.{Landing}
use Rattle.uxrom.specs.Uxrom as uxrom
use Rattle.cnrom.specs.Cnrom as cnrom
use Rattle.mmc1.specs.Write as mmc1
use Rattle.mmc3.specs.Write as mmc3
use Rattle.boards.specs.Range.{is_loaded, guarded}
use Rattle.boards.specs.Registers.{asking, moved}
use Rattle.boards.specs.Write.{Writes, next_mirroring, notice, turned, write_landing, accepted_write, written_as, landing}
use Rattle.boards.specs.declared.Board.{Board}
use Rattle.boards.specs.declared.Registers.{Registers}
use Rattle.pages.specs.Pages.{place_written, written_to, has_registers, write_page}
use Rattle.laws.specs.Within.{Lies}
use Rattle.laws.proofs.Within.{write_within}
use Rattle.page_laws.specs.Whole.{moved_on, shifted}
use Rattle.page_laws.specs.Through.{kind, stores_prg, stores_chr, stays, WritesBy}
use Rattle.page_laws.proofs.Cases.{below}
use Rattle.page_laws.proofs.Numbers.{ram_number, refused_number, served}
use Rattle.page_laws.proofs.Whole.{written_whole}

-- where no register is written, nothing moves
moves_none : (k : MapperType) (mode : Mode) (r : Registers) (v a : ℕ) → has_registers k (a / KB1) ≡ false → moved k mode r v a ≡ asking r None
unfolding moved has_registers is_mapper uxrom.written cnrom.written mmc1.written mmc1.move_of mmc1.applied mmc1.mirrors_of mmc3.written mmc3.move_of mmc3.applied mmc3.mirrors_of
moves_none k mode r v a = go k
  where
    low : (leb 32 (a / KB1) && true) ≡ false → a < 0x8000
    low f = omega (arith, below (a / KB1) f)

    go : (k : MapperType) → has_registers k (a / KB1) ≡ false → moved k mode r v a ≡ asking r None
    go Nrom f = refl
    go Mmc1 f = rw (lt-ltb a 0x8000 (low f)) refl
    go Uxrom f = rw (lt-ltb a 0x8000 (low f)) refl
    go Cnrom f = rw (lt-ltb a 0x8000 (low f)) refl
    go Mmc3 f = rw (lt-ltb a 0x8000 (low f)) refl

screens_stay : (mode : Mode) (now : Mirroring) → next_mirroring mode now None ≡ now
unfolding next_mirroring
screens_stay House now = refl
screens_stay OnBoard now = refl

pub quiet : (b : Board) (v a : ℕ) → has_registers b.cart.mapper (a / KB1) ≡ false → accepted_write b v a ≡ stays b (Ok None)
unfolding accepted_write turned notice
quiet b v a f = rw (moves_none b.cart.mapper b.cart.mode b.registers v a f, screens_stay b.cart.mode b.mirroring) refl

-- at a landing of a page, with its number
module _ (b : Board) (prg chr : List ℕ) (a v : ℕ) (q : accepted_write b v a ≡ stays b (Ok None)) where
  -- a page below kind 4 takes the store
  taken : (n : ℕ) (l : Landing) → kind n < 4 → Writes b l prg chr a v (stays b (Ok None)) (stores_prg n (a % KB1) v prg) (stores_chr n (a % KB1) v chr) → WritesBy n b l prg chr a v
  taken n l k w = record { stores = λ h. w; refuses = λ h. absurd (omega arith) }

  write_at : (l : Landing) → Lies b.cart l → WritesBy (written_to l) b (shifted l (a % KB1)) prg chr a v
  unfolding written_to place_written shifted moved_on written_as stored_prg stored_chr stores_prg stores_chr
  write_at (Ok (Prg i)) l = taken _ _ (omega arith) (record { reply = sym q; prg_ram = refl; chr_ram = refl })
  write_at (Ok (Chr i)) l = taken _ _ (omega arith) (record { reply = sym q; prg_ram = refl; chr_ram = refl })
  write_at (Ok (PrgRam i)) l = let n = ram_number 1 i l in taken _ _ (omega arith) (record { reply = sym q; prg_ram = rw (n.0, n.1) refl; chr_ram = rw n.0 refl })
  write_at (Ok (ChrRam i)) l = let n = ram_number 2 i l in taken _ _ (omega arith) (record { reply = sym q; prg_ram = rw n.0 refl; chr_ram = rw (n.0, n.1) refl })
  write_at (Ok Nowhere) l = taken _ _ (omega arith) (record { reply = sym q; prg_ram = refl; chr_ram = refl })
  write_at (Err why) l =
      let n = refused_number why in
      record { stores = λ h. absurd (omega arith); refuses = λ h. (why, refl, record { reply = refl; prg_ram = refl; chr_ram = refl }) }

pub map_writes : (b : Board) (image prg chr : List ℕ) → is_loaded b (length image) ≡ true → rams_fit (length prg) (length chr) ≡ true
    → (a v : ℕ) → WritesBy (write_page b (a / KB1)) b (landing b image prg chr a) prg chr a v
unfolding write_page landing guarded
map_writes b image prg chr loaded rams a v =
    let s = served b image prg chr loaded rams in
    let first = a / KB1 * KB1 in
    rw (rams, loaded)
    (cond_both (has_registers b.cart.mapper (a / KB1)) _ _ (λ (n : ℕ). WritesBy n b (write_landing b a) prg chr a v)
    (λ t. record { stores = λ h. absurd (omega arith); refuses = λ h. absurd (omega arith) })
    (λ f. rw (written_whole b a f) (write_at b prg chr a v (quiet b v a f) (write_landing b first) (write_within b first s.is_in_range))))
