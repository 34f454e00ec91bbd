-- The exported pages are those of the board that the lent state holds: a read is the byte that its page leads to, a write that its page takes is the caller's own
-- store, and the write that tells which pages moved tells it of that board. Assumes nothing.
use Rattle.std.specs.Prelude.{None, Ok, Err}
use Prim.Native.Nat.{ℕ, ◌+◌, ◌/◌, ◌%◌, ◌≤◌, ◌<◌}
use mathlib.Core.Path.{◌≡◌, sym, ap, ap₂, subst, ◌∙◌}
use mathlib.Core.Bool.{Bool, true, false, cond}
use mathlib.Core.List.{List}
use borrow.Author.Tests.{le-leb}
use lib.ListN.{length}
use Rattle.common.specs.Common.{KB1}
use Rattle.common.specs.declared.Refusal.{Refusal}
use Rattle.common.specs.declared.Refusal.TheVariants.{StateOutOfRange}
use Rattle.cartridge.specs.Load.{rams_fit}
use Rattle.places.specs.Places.{Landing}
use Rattle.boards.specs.Range.{is_loaded}
use Rattle.boards.specs.Write as boards
use Rattle.boards.specs.declared.Board.{Board}
use Rattle.boards.specs.Write.{Written}
use native.Mathlib.Omega.{arith}
use Rattle.pages.specs.Pages.{refused_page, read_page, write_page, numbers, is_told}
use Rattle.page_laws.specs.Moves.{moved_parts}
use Rattle.page_laws.specs.Through.{kind, through, stores_prg, stores_chr, stays}
use Rattle.page_laws.proofs.Moves.{write_reads, write_writes}
use Rattle.page_laws.proofs.MapReads.{map_reads}
use Rattle.page_laws.proofs.MapWrites.{map_writes}
use Rattle.exports.specs.Numbers.{refused, write_number, moved_number}
use Rattle.exports.specs.Bytes.{board_in}
use Rattle.exports.specs.Calls.{read_bytes, writing, told, WriteOwes, WriteMovedOwes, PagesOwes}
use Rattle.exports.specs.RoundTrip.{WritesAs}
use Rattle.exports.proofs.RoundTrip.{there_and_back}
use Rattle.exports.proofs.WriteAnswers.{answer_parts}
use Rattle.exports.proofs.AsBoards.{landed, writes_as}
use Rattle.exported_runs.specs.Holds.{Holds, Tells}
use Rattle.exported_runs.proofs.Runs.{holds_a_state, read_of}

-- a bit of the answer
abbrev bit : Bool → ℕ
bit t = cond t 1 0

unset : (t : Bool) → bit t ≡ 0 → t ≡ false
unset t e = grind arith

module _ (s : List ℕ) (b : Board) (h : Holds s b) where
  held : board_in s ≡ b
  held = ap board_in h.bytes ∙ there_and_back b h.of_its_types h.is_in_range

  pub pages_of : (first : ℕ) (reads writes : List ℕ) (r : ℕ) (reads' writes' : List ℕ) → first + length reads ≤ 64 → first + length writes ≤ 64
      → PagesOwes s first reads writes r reads' writes' → Tells b first reads writes r reads' writes'
  unfolding is_told
  pages_of first reads writes r reads' writes' l m o =
      let t : told s first reads writes ≡ true = simp (holds_a_state s b h, le-leb (first + length reads) 64 l, le-leb (first + length writes) 64 m) in
      record {
        reply = o.reply ∙ ap (λ (x : Bool). cond x 0 (refused StateOutOfRange)) t;
        read_pages = o.read_pages ∙ ap₂ (λ (x : Bool) (y : Board). cond x (numbers (read_page y) first (length reads)) reads) t held;
        write_pages = o.write_pages ∙ ap₂ (λ (x : Bool) (y : Board). cond x (numbers (write_page y) first (length writes)) writes) t held;
      }

  module _ (image prg chr : List ℕ) (a : ℕ) where
    pub read_by_page : is_loaded b (length image) ≡ true → rams_fit (length prg) (length chr) ≡ true
        → read_bytes s image prg chr a ≡ through (read_page b (a / KB1)) (a % KB1) image prg chr
    read_by_page l m = read_of s b h image prg chr a ∙ map_reads b image prg chr l m a

    module _ (v r : ℕ) (s' prg' chr' : List ℕ) where
      pub write_by_page : is_loaded b (length image) ≡ true → rams_fit (length prg) (length chr) ≡ true → kind (write_page b (a / KB1)) < 4
          → WriteOwes s image prg chr a v r s' prg' chr'
          → WritesAs (stays b (Ok None)) (stores_prg (write_page b (a / KB1)) (a % KB1) v prg) (stores_chr (write_page b (a / KB1)) (a % KB1) v chr) r s' prg' chr'
      write_by_page l m k o =
          writes_as b h.of_its_types h.is_in_range image prg chr a v (stays b (Ok None)) _ _ r s' prg' chr' ((map_writes b image prg chr l m a v).stores k)
          (subst (λ (x : List ℕ). WriteOwes x image prg chr a v r s' prg' chr') h.bytes o)

      -- and one that its page refuses is refused by the call, with that number
      pub refused_by_page : is_loaded b (length image) ≡ true → rams_fit (length prg) (length chr) ≡ true → kind (write_page b (a / KB1)) ≡ 4
          → WriteOwes s image prg chr a v r s' prg' chr'
          → (why : Refusal) × (write_page b (a / KB1) ≡ refused_page why) × WritesAs (stays b (Err why)) prg chr r s' prg' chr'
      refused_by_page l m k o =
          let z = (map_writes b image prg chr l m a v).refuses k in (
            z.0,
            z.1,
            writes_as b h.of_its_types h.is_in_range image prg chr a v (stays b (Err z.0)) _ _ r s' prg' chr' z.2
                (subst (λ (x : List ℕ). WriteOwes x image prg chr a v r s' prg' chr') h.bytes o),
          )

      pub moved_of : WriteMovedOwes s image prg chr a v r s' prg' chr'
          → r ≡ write_number (boards.written_as b (boards.landing b image prg chr a) v a).answer + moved_number (moved_parts b (boards.written_as b (boards.landing b image prg chr a) v a).left)
      moved_of o =
          let there : writing s image prg chr a ≡ boards.landing b image prg chr a
          = ap (λ (x : List ℕ). writing x image prg chr a) h.bytes ∙ landed b h.of_its_types h.is_in_range image prg chr a in
          o.reply
          ∙ ap₂ (λ (x : Board) (p : Landing). write_number (boards.written_as x p v a).answer + moved_number (moved_parts x (boards.written_as x p v a).left)) held there

      -- a part that the answer does not name is as it was: what a caller that tests the bits goes by
      module _ (o : WriteMovedOwes s image prg chr a v r s' prg' chr') (p : ℕ) where
        abbrev w : Written
        w = boards.written_as b (boards.landing b image prg chr a) v a

        chr_unset : r / 0x10000 % 2 ≡ 0 → (moved_parts b w.left).chr ≡ false
        chr_unset e = unset _ (sym (answer_parts w.answer (moved_parts b w.left)).chr ∙ ap (λ (x : ℕ). x / 0x10000 % 2) (sym (moved_of o)) ∙ e)

        prg_unset : r / 0x20000 % 2 ≡ 0 → (moved_parts b w.left).prg ≡ false
        prg_unset e = unset _ (sym (answer_parts w.answer (moved_parts b w.left)).prg ∙ ap (λ (x : ℕ). x / 0x20000 % 2) (sym (moved_of o)) ∙ e)

        ram_unset : r / 0x40000 ≡ 0 → (moved_parts b w.left).ram ≡ false
        ram_unset e = unset _ (sym (answer_parts w.answer (moved_parts b w.left)).ram ∙ ap (λ (x : ℕ). x / 0x40000) (sym (moved_of o)) ∙ e)

        module _ (chr-unnamed : p < 8 → r / 0x10000 % 2 ≡ 0) (ram-unnamed : 24 ≤ p → p < 32 → r / 0x40000 ≡ 0) where
          pub unnamed_reads : (32 ≤ p → r / 0x20000 % 2 ≡ 0) → read_page w.left p ≡ read_page b p
          unnamed_reads g =
              write_reads b (boards.landing b image prg chr a) v a p (λ l. chr_unset (chr-unnamed l)) (λ m l. ram_unset (ram-unnamed m l)) (λ l. prg_unset (g l))

          pub unnamed_writes : write_page w.left p ≡ write_page b p
          unnamed_writes = write_writes b (boards.landing b image prg chr a) v a p (λ l. chr_unset (chr-unnamed l)) (λ m l. ram_unset (ram-unnamed m l))

        pub write_below : r % 0x10000 ≡ write_number w.answer
        write_below = ap (λ (x : ℕ). x % 0x10000) (moved_of o) ∙ (answer_parts w.answer (moved_parts b w.left)).write
