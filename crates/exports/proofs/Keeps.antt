-- What is kept of a clock or a write is its board's words, though not all are packed anew. Assumes nothing.
use Rattle.std.specs.Prelude.{Ok, Err}
use mathlib.Core.Path.{◌≡◌, refl, ap}
use mathlib.Core.Bool.{Bool, true, false, cond, true≢false}
use mathlib.Core.List.{List}
use native.Mathlib.Omega.{arith}
use borrow.Author.Tests.{le-ltb}
use lib.ListN.{length}
use Prim.Native.Nat.{ℕ, ◌+◌}
use Rattle.rules.specs.Flat.{flat_digits}
use Rattle.common.specs.Answers.{refusal_number}
use Rattle.common.specs.declared.Refusal.{Refusal}
use Rattle.common.specs.declared.Refusal.TheVariants.{RamNot8K, StateOutOfRange}
use Rattle.cartridge.specs.Load.{rams_fit}
use Rattle.places.specs.Places.{Landing}
use Rattle.boards.specs.declared.Board.{Board}
use Rattle.boards.specs.Range.{guarded}
use Rattle.boards.specs.Write.{write_landing, accepted_write, written_as, landing_if}
use Rattle.boards.specs.Clock.{clock_if}
use Rattle.boards.specs.Write.{Written}
use Rattle.pages.specs.Pages.{told}
use Rattle.states.specs.Words.{cart_sizes, mapper_of, words_of, board_in}
use Rattle.states.specs.Kept.{is_kept}
use Rattle.states.specs.Steps.{after_write, after_clock}
use Rattle.states.specs.declared.Words.{Words}
use Rattle.states.proofs.Moved.{after_write_lem, after_clock_lem}
use Rattle.exports.specs.Bytes.{state_left}
use Rattle.exports.specs.Numbers.{refused, clock_number, write_number, pages_number}

-- the mapper that the first word names is the board's
pub named : (w : Words) → mapper_of (flat_digits cart_sizes w.cart) ≡ (board_in w).cart.mapper
unfolding board_in
named w = refl

-- a clock of a state that could not be leaves it
pub unfit_keeps : (s : List ℕ) (t : Bool) (b : Board) → t ≡ false → s ≡ state_left s (clock_number (clock_if t b).answer) (words_of (clock_if t b).left)
unfolding state_left clock_number refused
unfit_keeps s true b e = absurd (true≢false e)
unfit_keeps s false b e = refl

module _ (s : List ℕ) (w : Words) where
  abbrev kept_as : Bool → Words → List ℕ
  kept_as t v = state_left s (clock_number (clock_if t (board_in w)).answer) v

  pub clock_kept : kept_as (is_kept w) (after_clock w (clock_if (is_kept w) (board_in w)).left) ≡ kept_as (is_kept w) (words_of (clock_if (is_kept w) (board_in w)).left)
  unfolding state_left clock_number refused
  clock_kept = go (is_kept w) refl
    where
      go : (t : Bool) → is_kept w ≡ t → kept_as t (after_clock w (clock_if t (board_in w)).left) ≡ kept_as t (words_of (clock_if t (board_in w)).left)
      go true e = ap (kept_as true) (after_clock_lem w e)
      go false e = refl

  -- after a write that lands there
  abbrev Kept : Written → Type 0
  Kept x = state_left s (write_number x.answer) (after_write (board_in w).cart.mapper w x.left) ≡ state_left s (write_number x.answer) (words_of x.left)

  module _ (v a : ℕ) where
    refused_at : (why : Refusal) → Kept (written_as (board_in w) (Err why) v a)
    unfolding state_left refused write_number written_as
    refused_at why = rw (le-ltb (256 + refusal_number why) 256 (omega arith)) refl

    accepted : is_kept w ≡ true → Kept (accepted_write (board_in w) v a)
    unfolding board_in
    accepted h = ap (state_left s (write_number (accepted_write (board_in w) v a).answer)) (after_write_lem w h v a)

    where_it_lands : is_kept w ≡ true → (p : Landing) → Kept (written_as (board_in w) p v a)
    unfolding written_as
    where_it_lands h (Err why) = refused_at why
    where_it_lands h (Ok p) = accepted h

    judged : (rams t : Bool) → (t ≡ true → is_kept w ≡ true) → (p : Landing) → Kept (written_as (board_in w) (guarded rams t p) v a)
    unfolding guarded
    judged false t h p = refused_at RamNot8K
    judged true true h p = where_it_lands (h refl) p
    judged true false h p = refused_at StateOutOfRange

    pub write_kept : (t : Bool) → (t ≡ true → is_kept w ≡ true) → (prg chr : List ℕ) → Kept (written_as (board_in w) (landing_if t (board_in w) prg chr a) v a)
    write_kept t h prg chr = judged (rams_fit (length prg) (length chr)) t h (write_landing (board_in w) a)

-- the number of whether pages are told
pub number_told : (t : Bool) → pages_number (told t) ≡ cond t 0 (refused StateOutOfRange)
unfolding pages_number told
number_told t = grind arith
