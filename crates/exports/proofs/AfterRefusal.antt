-- After a refusal every buffer that was lent to an exported call holds what it held, since any other answer is below 256. Assumes nothing.
use Rattle.std.specs.Prelude.{Ok, Err}
use Prim.Native.Nat.{ℕ, ◌<◌}
use mathlib.Core.Path.{◌≡◌, refl, sym, ap, ◌∙◌, subst}
use mathlib.Core.Bool.{Bool, cond}
use mathlib.Core.List.{List}
use native.Mathlib.Nat.{add-zero}
use native.Mathlib.Omega.{arith}
use borrow.Author.Tests.{le-ltb, ltb-true}
use lib.Dec.{eqb}
use lib.ListN.{length}
use Rattle.common.specs.Common.{mode_of}
use Rattle.common.specs.declared.Refusal.TheVariants.{StateOutOfRange}
use Rattle.cartridge.specs.Header.{header_of, header_read}
use Rattle.cartridge.specs.Load.{cartridge_of, loaded_as, ram_after}
use Rattle.cartridge.specs.declared.Cartridge.{Cartridge}
use Rattle.cartridge.specs.Refusals.{Verdict}
use Rattle.cartridge.specs.Header.{HeaderAnswer}
use Rattle.places.specs.Places.{stored_prg, stored_chr}
use Rattle.places.specs.Places.{Landing}
use Rattle.boards.specs.Registers.{moved}
use Rattle.boards.specs.Start.{loaded_board, load_answer}
use Rattle.boards.specs.Write.{notice, against, turned, accepted_write, written_as}
use Rattle.boards.specs.declared.Board.{Board}
use Rattle.pages.specs.Parts.{parts_moved}
use Rattle.pages.proofs.SameRegisters.{parts_self}
use Rattle.states.specs.declared.Words.{Words}
use Rattle.exports.specs.Numbers.{refused, load_number, write_number, moved_number, header_number, fields_after}
use Rattle.exports.specs.Bytes.{board_in, state_left}
use Rattle.exports.specs.Calls.{decision, LoadOwes, writing, moved_pages, WriteOwes, WriteMovedOwes, ClockOwes, is_shown, DigitsOwes, told, PagesOwes, HeaderOwes}
use Rattle.exports.specs.AfterRefusal.{IsRefusal, write_answer, AllAsBefore, PagesAsBefore}
use Rattle.exports.proofs.WriteAnswers.{answer_parts}
use Rattle.exports.proofs.AsBoards.{notice_small}

-- the state
keeps_state : (s : List ℕ) (r : ℕ) (w : Words) → IsRefusal r → state_left s r w ≡ s
unfolding state_left
keeps_state s r w h = rw (le-ltb r 256 h) refl

-- load: an accepted one answers 0
ram_stays : (v : Verdict) (c : Cartridge) (ram : List ℕ) → IsRefusal (load_number (load_answer (loaded_board (loaded_as v c)))) → ram_after v ram ≡ ram
unfolding load_number loaded_board load_answer loaded_as ram_after
ram_stays v c ram h = grind arith

pub load_changes_nothing : (image : List ℕ) (mode : ℕ) (s prg chr : List ℕ) (r : ℕ) (s' prg' chr' : List ℕ)
    → LoadOwes image mode s prg chr r s' prg' chr' → IsRefusal r → AllAsBefore s prg chr s' prg' chr'
load_changes_nothing image mode s prg chr r s' prg' chr' o h =
    let d = decision image mode (length s) (length prg) (length chr) in
    let c = cartridge_of (header_of image) (mode_of mode) (length image) in
    let g : IsRefusal (load_number (load_answer (loaded_board (loaded_as d c)))) = subst IsRefusal o.reply h in
    record {
      the_state = o.state ∙ keeps_state s r _ h;
      the_prg_ram = o.prg_ram ∙ ram_stays d c prg g;
      the_chr_ram = o.chr_ram ∙ ram_stays d c chr g;
    }

-- write: an accepted one answers 0 or a letter
accepted_small : (b : Board) (v a : ℕ) → write_number (accepted_write b v a).answer < 256
unfolding accepted_write turned
accepted_small b v a =
    let m = (moved b.cart.mapper b.cart.mode b.registers v a).answer in
    ltb-true (write_number (notice (against b) m)) 256 (notice_small (against b) m)

stores_nothing : (b : Board) (p : Landing) (v a : ℕ) (prg chr : List ℕ) → IsRefusal (write_number (written_as b p v a).answer)
    → (stored_prg p v prg ≡ prg) × (stored_chr p v chr ≡ chr)
unfolding written_as stored_prg stored_chr
stores_nothing b (Ok p) v a prg chr h = absurd (omega (arith, h, accepted_small b v a))
stores_nothing b (Err why) v a prg chr h = (refl, refl)

pub write_changes_nothing : (s image prg chr : List ℕ) (a v r : ℕ) (s' prg' chr' : List ℕ)
    → WriteOwes s image prg chr a v r s' prg' chr' → IsRefusal r → AllAsBefore s prg chr s' prg' chr'
write_changes_nothing s image prg chr a v r s' prg' chr' o h =
    let g = stores_nothing (board_in s) (writing s image prg chr a) v a prg chr (subst IsRefusal o.reply h) in
    record {
      the_state = o.state ∙ keeps_state s r _ h;
      the_prg_ram = o.prg_ram ∙ g.0;
      the_chr_ram = o.chr_ram ∙ g.1;
    }

-- a refused write leaves the registers, so it moves no page
none_moved : (b : Board) (p : Landing) (v a : ℕ) → IsRefusal (write_number (written_as b p v a).answer)
    → moved_number (parts_moved b.cart.mapper b.registers (written_as b p v a).left.registers) ≡ 0
unfolding written_as moved_number
none_moved b (Ok p) v a h = absurd (omega (arith, h, accepted_small b v a))
none_moved b (Err why) v a h = ap moved_number (parts_self b.cart.mapper b.registers)

module _ (s image prg chr : List ℕ) (a v r : ℕ) (s' prg' chr' : List ℕ) (o : WriteMovedOwes s image prg chr a v r s' prg' chr') (h : IsRefusal (write_answer r)) where
  answer_is : write_answer r ≡ write_number (written_as (board_in s) (writing s image prg chr a) v a).answer
  answer_is = ap write_answer o.reply ∙ (answer_parts (written_as (board_in s) (writing s image prg chr a) v a).answer (moved_pages s image prg chr a v)).write

  pub write_moved_changes_nothing : AllAsBefore s prg chr s' prg' chr'
  write_moved_changes_nothing = write_changes_nothing s image prg chr a v _ s' prg' chr' o.left (subst IsRefusal answer_is h)

  -- "a refused write sets none" of the bits above its answer
  pub write_moved_tells_nothing : r ≡ write_answer r
  write_moved_tells_nothing =
      o.reply ∙ rw (none_moved (board_in s) (writing s image prg chr a) v a (subst IsRefusal answer_is h), add-zero) (sym answer_is)

-- clock
pub clock_changes_nothing : (s : List ℕ) (r : ℕ) (s' : List ℕ) → ClockOwes s r s' → IsRefusal r → s' ≡ s
clock_changes_nothing s r s' o h = o.state ∙ keeps_state s r _ h

-- a call that answers 0 or a refusal, and with the refusal leaves what was lent
left_alone : {A : Type 0} (t : Bool) (n : ℕ) (x y : A) → IsRefusal (cond t 0 n) → cond t x y ≡ y
left_alone t n x y h = grind arith

-- digits
pub digits_changes_nothing : (s d : List ℕ) (r : ℕ) (d' : List ℕ) → DigitsOwes s d r d' → IsRefusal r → d' ≡ d
digits_changes_nothing s d r d' o h = o.digits ∙ left_alone (is_shown s d) (refused StateOutOfRange) _ _ (subst IsRefusal o.reply h)

-- pages
pub pages_changes_nothing : (s : List ℕ) (first : ℕ) (reads writes : List ℕ) (r : ℕ) (reads' writes' : List ℕ)
    → PagesOwes s first reads writes r reads' writes' → IsRefusal r → PagesAsBefore reads writes reads' writes'
pages_changes_nothing s first reads writes r reads' writes' o h =
    let g : IsRefusal (cond (told s first reads writes) 0 (refused StateOutOfRange)) = subst IsRefusal o.reply h in
    record {
      the_read_pages = o.read_pages ∙ left_alone (told s first reads writes) (refused StateOutOfRange) _ _ g;
      the_write_pages = o.write_pages ∙ left_alone (told s first reads writes) (refused StateOutOfRange) _ _ g;
    }

-- header
fields_stay : (t : Bool) (a : HeaderAnswer) (f : List ℕ) → IsRefusal (cond t (header_number a) (refused StateOutOfRange)) → cond t (fields_after a f) f ≡ f
unfolding header_number fields_after
fields_stay t a f h = grind arith

pub header_changes_nothing : (image f : List ℕ) (r : ℕ) (f' : List ℕ) → HeaderOwes image f r f' → IsRefusal r → f' ≡ f
header_changes_nothing image f r f' o h = o.fields ∙ fields_stay (eqb (length f) 12) (header_read image) f (subst IsRefusal o.reply h)
