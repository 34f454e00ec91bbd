-- Each of the three writes sets its own field of the unit, and only a later latch, a clock and a disabling write would undo it, so in whatever order they
-- come the board is ready at the end, and the clock rules hold from there: house mode's, board mode's of raising, and, where the line is low, that of its level.
-- Assumes nothing.
use Prim.Native.Nat.{ℕ, ◌+◌, ◌-◌, ◌≤◌, ◌<◌, ◌∣◌}
use mathlib.Core.Path.{◌≡◌, refl, sym, ap, ◌∙◌}
use mathlib.Core.Logic.{◌↔◌}
use mathlib.Core.Bool.{true, false}
use mathlib.Core.List.{List, [], ◌∷◌, ◌++◌}
use native.Mathlib.Omega.{arith}
use lib.ListN.{get_or}
use Rattle.common.specs.declared.Mode.{Mode}
use Rattle.common.specs.declared.Mode.TheVariants.{House, Board as OnBoard}
use Rattle.mmc3.specs.Clock.{clock_in, with_irq, clocked}
use Rattle.mmc3.specs.Write.{applied}
use Rattle.mmc3.specs.declared.Irq.{Irq}
use Rattle.mmc3.specs.declared.Mmc3 as mmc3-type
use Rattle.mmc3.specs.declared.Move.TheVariants.{Latch, Reload, Enable, Disable}
use Rattle.boards.specs.Runs.{lent, Call, call, after}
use Rattle.boards.specs.declared.Board.{Board}
use Rattle.boards.specs.declared.Event.TheVariants.{Write, Clock}
use Rattle.laws.specs.Clocks.{Plays, Ready, says_yes, line_up, raises}
use Rattle.laws.specs.Deeds.{Deed, deeds}
use Rattle.laws.specs.Deeds.Deed.{rests, writes, clocks}
use Rattle.laws.specs.PLines.{mmc3 as mmc3_image, ram, load_of, calls_of}
use Rattle.laws.specs.ThreeWrites.{Written}
use Rattle.laws.proofs.Clocks.{clock_keeps}
use Rattle.laws.proofs.Deeds.{plays_after, mmc3_after, made}
use Rattle.laws.proofs.Opened.{opened}
use Rattle.laws.proofs.PublicClocks.{house_rule, board_rule, board_raises}

-- five deeds touch the unit: what each of them keeps, every deed keeps
by_deed : (P : Irq → Type 0) (mode : Mode) (d : Deed) (m : mmc3-type.Mmc3) → P m.irq → ((v : ℕ) → d ≡ writes (Latch v) → P (applied mode (Latch v) m).irq)
    → (d ≡ writes Reload → P (applied mode Reload m).irq) → (d ≡ writes Enable → P (applied mode Enable m).irq) → (d ≡ writes Disable → P (applied mode Disable m).irq)
    → (d ≡ clocks → P (clock_in mode m.irq).left) → P (mmc3_after mode d m).irq
unfolding applied clocked with_irq
by_deed P mode d m h latch reload enable disable clock = grind arith

latch_stays : (mode : Mode) (n : ℕ) (d : Deed) (m : mmc3-type.Mmc3) → ((v : ℕ) → d ≡ writes (Latch v) → ⊥) → m.irq.latch ≡ n → (mmc3_after mode d m).irq.latch ≡ n
unfolding applied with_irq
latch_stays mode n d m s h =
    by_deed (λ (u : Irq). u.latch ≡ n) mode d m h (λ v q. absurd (s v q)) (λ q. h) (λ q. h) (λ q. h)
    (λ q. clock_keeps (λ (u : Irq). u.latch ≡ n) mode m.irq (λ c. h))

reload_stays : (mode : Mode) (d : Deed) (m : mmc3-type.Mmc3) → (d ≡ clocks → ⊥) → m.irq.reload ≡ true → (mmc3_after mode d m).irq.reload ≡ true
unfolding applied with_irq
reload_stays mode d m s h = by_deed (λ (u : Irq). u.reload ≡ true) mode d m h (λ v q. h) (λ q. refl) (λ q. h) (λ q. h) (λ q. absurd (s q))

enabled_stays : (mode : Mode) (d : Deed) (m : mmc3-type.Mmc3) → (d ≡ writes Disable → ⊥) → m.irq.enabled ≡ true → (mmc3_after mode d m).irq.enabled ≡ true
unfolding applied with_irq
enabled_stays mode d m s h =
    by_deed (λ (u : Irq). u.enabled ≡ true) mode d m h (λ v q. h) (λ q. h) (λ q. refl) (λ q. absurd (s q))
    (λ q. clock_keeps (λ (u : Irq). u.enabled ≡ true) mode m.irq (λ c. h))

-- "With latch n, reload and enable written": in any order, and nothing after that undoes one of them
pub three_writes_ready : (mode : Mode) (b : Board) → Plays mode b → (cs : List Call) (n : ℕ) → Written n b cs → Ready mode n (after b cs)
unfolding applied with_irq
three_writes_ready mode b p cs n w =
    record {
      plays = plays_after p cs;
      latch =
          made (λ (m : mmc3-type.Mmc3). m.irq.latch ≡ n) (λ (d : Deed). (v : ℕ) → d ≡ writes (Latch v) → ⊥) (latch_stays mode n) (writes (Latch n)) (λ e. cc) (λ m. refl)
          b p cs w.latch w.latch_written (λ j h v. w.no_latch_after v j h);
      reload =
          made (λ (m : mmc3-type.Mmc3). m.irq.reload ≡ true) (λ (d : Deed). d ≡ clocks → ⊥) (reload_stays mode) (writes Reload) (λ e. cc) (λ m. refl)
          b p cs w.reload w.reload_written w.no_clock_after;
      enabled =
          made (λ (m : mmc3-type.Mmc3). m.irq.enabled ≡ true) (λ (d : Deed). d ≡ writes Disable → ⊥) (enabled_stays mode) (writes Enable) (λ e. cc) (λ m. refl)
          b p cs w.enable w.enable_written w.no_disable_after;
    }

-- house: "With latch n, reload and enable written and nothing after, clock k (from one) answers yes exactly when k is 2 or more and n + 1 divides k - 1"
pub house_clocks_after_three_writes : (b : Board) → Plays House b → (cs : List Call) (n : ℕ) → Written n b cs → (k : ℕ)
    → (says_yes k (after b cs) ≡ true) ↔ ((2 ≤ k) × (n + 1 ∣ k - 1))
house_clocks_after_three_writes b p cs n w k = house_rule (after b cs) n k (three_writes_ready House b p cs n w)

-- board, M-101: "With the line low at the start, latch n and no writes after reload and enable, it is up from clock n + 1 onward"
pub board_clocks_after_three_writes : (b : Board) → Plays OnBoard b → (cs : List Call) (n : ℕ) → Written n b cs → line_up (after b cs) ≡ false → (k : ℕ)
    → (says_yes k (after b cs) ≡ true) ↔ (n + 1 ≤ k)
board_clocks_after_three_writes b p cs n w low k = board_rule (after b cs) n k (three_writes_ready OnBoard b p cs n w) low

-- board, the rule of document 01, which is one about raising now: "After the same three writes clock k answers yes exactly when n + 1 divides k"
pub board_raises_after_three_writes : (b : Board) → Plays OnBoard b → (cs : List Call) (n : ℕ) → Written n b cs → (k : ℕ) → 1 ≤ k
    → (raises k (after b cs) ≡ true) ↔ (n + 1 ∣ k)
board_raises_after_three_writes b p cs n w k h = board_raises (after b cs) n k (three_writes_ready OnBoard b p cs n w) h

-- such a run, the latch last: a clock before the reload mark, and a disabling write that is refused, undo none of them
abbrev done : List Deed
done = clocks ∷ writes Enable ∷ writes Reload ∷ writes (Latch 2) ∷ rests ∷ []

no_latch : (v j : ℕ) → 3 < j → get_or done j rests ≡ writes (Latch v) → ⊥
no_latch v j h e = grind arith

no_clock : (j : ℕ) → 2 < j → get_or done j rests ≡ clocks → ⊥
no_clock j h e = grind arith

no_disable : (j : ℕ) → 1 < j → get_or done j rests ≡ writes Disable → ⊥
no_disable j h e = grind arith

abbrev pub fresh : Mode → Board
fresh mode = (load_of mode mmc3_image).left

abbrev pub calls : List Call
calls = calls_of mmc3_image (Clock ∷ Write 0xE001 0 ∷ Write 0xC001 0 ∷ Write 0xC000 2 ∷ []) ++ call (lent mmc3_image [] ram) (Write 0xE000 0) ∷ []

done_by : (mode : Mode) → deeds (fresh mode) calls ≡ done
unfolding opened
done_by House = refl
done_by OnBoard = refl

pub met_writes : (mode : Mode) → Written 2 (fresh mode) calls
met_writes mode =
    record {
      latch = 3;
      reload = 2;
      enable = 1;
      latch_written = ap (λ (ds : List Deed). get_or ds 3 rests) (done_by mode);
      reload_written = ap (λ (ds : List Deed). get_or ds 2 rests) (done_by mode);
      enable_written = ap (λ (ds : List Deed). get_or ds 1 rests) (done_by mode);
      no_latch_after = λ v j h e. no_latch v j h (ap (λ (ds : List Deed). get_or ds j rests) (sym (done_by mode)) ∙ e);
      no_clock_after = λ j h e. no_clock j h (ap (λ (ds : List Deed). get_or ds j rests) (sym (done_by mode)) ∙ e);
      no_disable_after = λ j h e. no_disable j h (ap (λ (ds : List Deed). get_or ds j rests) (sym (done_by mode)) ∙ e);
    }

pub plays : (mode : Mode) → Plays mode (fresh mode)
unfolding opened
plays mode = grind arith

-- so in house mode clock k answers yes exactly when k is 2 or more and 3 divides k - 1
pub met : (k : ℕ) → (says_yes k (after (fresh House) calls) ≡ true) ↔ ((2 ≤ k) × (3 ∣ k - 1))
met k = house_clocks_after_three_writes (fresh House) (plays House) calls 2 (met_writes House) k

-- and in board mode the line is raised exactly when 3 divides k
pub met_raises : (k : ℕ) → 1 ≤ k → (raises k (after (fresh OnBoard) calls) ≡ true) ↔ (3 ∣ k)
met_raises k h = board_raises_after_three_writes (fresh OnBoard) (plays OnBoard) calls 2 (met_writes OnBoard) k h
