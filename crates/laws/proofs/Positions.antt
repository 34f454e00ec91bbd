-- A run looks at the lengths of lent buffers only; what every call keeps holds at its end; and what a load at a position makes holds from there to the end.
-- Assumes nothing.
use Prim.Native.Nat.{ℕ, zero, suc, ◌<◌}
use mathlib.Core.Path.{◌≡◌, refl, sym, ap, ap₂, ◌∙◌}
use mathlib.Core.List.{List, [], ◌∷◌, ◌++◌, map}
use native.Mathlib.Nat.{le_of_suc-le-suc}
use native.Mathlib.Omega.{arith}
use lib.ListN.{length, take, length-replicate}
use Rattle.cartridge.specs.Load.{rams_fit}
use Rattle.places.specs.Places.{Landing}
use Rattle.mmc1.specs.declared.Move.TheVariants.{Fill}
use Rattle.mmc1.specs.declared.Register.{Register}
use Rattle.boards.specs.Range.{is_loaded, guarded}
use Rattle.boards.specs.Write.{write_landing, written_as, landing}
use Rattle.boards.specs.Runs.{Lent, next, Call, call, after}
use Rattle.boards.specs.declared.Board.{Board}
use Rattle.boards.specs.declared.Event.{Event}
use Rattle.boards.specs.declared.Event.TheVariants.{Read, Write, Clock}
use Rattle.laws.specs.Calls.{wiped_lent, wiped, SameCalls, wiped_for}
use Rattle.laws.specs.Loads.{is_accepted, accepts, made, moves}
use Rattle.laws.specs.SettlesMmc1.{LoadsAt}

-- a write is accepted by the lengths of what it is lent
wiped_landing : (b : Board) (l : Lent) (a : ℕ) → landing b (wiped_lent l).image (wiped_lent l).prg (wiped_lent l).chr a ≡ landing b l.image l.prg l.chr a
unfolding landing
wiped_landing b l a =
    λ i. guarded
    (rams_fit (length-replicate {A = ℕ} (length l.prg) 0 i) (length-replicate {A = ℕ} (length l.chr) 0 i))
    (is_loaded b (length-replicate {A = ℕ} (length l.image) 0 i))
    (write_landing b a)

pub same_accepts : (b : Board) (l k : Lent) → wiped_lent l ≡ wiped_lent k → (a : ℕ) → accepts b l a ≡ accepts b k a
same_accepts b l k e a =
    sym (ap is_accepted (wiped_landing b l a)) ∙ ap (λ (x : Lent). accepts b x a) e ∙ ap is_accepted (wiped_landing b k a)

pub wiped_next : (b : Board) (l : Lent) (e : Event) → next b (wiped_for e l) e ≡ next b l e
unfolding next
wiped_next b l (Read a) = refl
wiped_next b l (Write a v) = ap (λ (p : Landing). (written_as b p v a).left) (wiped_landing b l a)
wiped_next b l Clock = refl

wiped_made : (b : Board) (l : Lent) (e : Event) → made b (wiped_for e l) e ≡ made b l e
unfolding made
wiped_made b l (Read a) = refl
wiped_made b l (Write a v) = rw (wiped_landing b l a)
wiped_made b l Clock = refl

wiped_after : (b : Board) (cs : List Call) → after b (map wiped cs) ≡ after b cs
unfolding after
wiped_after b [] = refl
wiped_after b (call l e ∷ cs) = ap (λ (x : Board). after x (map wiped cs)) (wiped_next b l e) ∙ wiped_after (next b l e) cs

wiped_moves : (b : Board) (cs : List Call) → moves b (map wiped cs) ≡ moves b cs
unfolding moves
wiped_moves b [] = refl
wiped_moves b (call l e ∷ cs) =
    ap₂ ◌∷◌ (wiped_made b l e) (ap (λ (x : Board). moves x (map wiped cs)) (wiped_next b l e) ∙ wiped_moves (next b l e) cs)

-- a run in two parts
pub after_append : (b : Board) (cs ds : List Call) → after b (cs ++ ds) ≡ after (after b cs) ds
unfolding after
after_append b [] ds = refl
after_append b (call l e ∷ cs) ds = after_append (next b l e) cs ds

-- so the same calls leave one board and make the same moves
pub same_after : (b : Board) (cs ds : List Call) → SameCalls cs ds → after b cs ≡ after b ds
same_after b cs ds same = sym (wiped_after b cs) ∙ ap (after b) same ∙ wiped_after b ds

pub same_moves : (b : Board) (cs ds : List Call) → SameCalls cs ds → moves b cs ≡ moves b ds
same_moves b cs ds same = sym (wiped_moves b cs) ∙ ap (moves b) same ∙ wiped_moves b ds

-- a relation of two boards that every event keeps
abbrev pub Preserved : (Board → Board → Type 0) → Type 0
Preserved I = (b d : Board) → I b d → (l : Lent) (e : Event) → I (next b l e) (next d l e)

run : (I : Board → Board → Type 0) → Preserved I → (b d : Board) → I b d → (cs : List Call) → I (after b cs) (after d cs)
unfolding after
run I keep b d p [] = p
run I keep b d p (call l e ∷ cs) = run I keep (next b l e) (next d l e) (keep b d p l e) cs

-- a load of a register, made while the first board is as X says, takes the two from I to J
abbrev pub Makes : (I : Board → Board → Type 0) (X : Board → Type 0) (r : Register) (J : Board → Board → Type 0) → Type 0
Makes I X r J = (b d : Board) → I b d → X b → (l : Lent) (e : Event) (v : ℕ) → made b l e ≡ Fill r v → J (next b l e) (next d l e)

module _ (I J : Board → Board → Type 0) (keep-I : Preserved I) (keep-J : Preserved J) (X : Board → Type 0) (r : Register) (makes : Makes I X r J) where
  -- such a load at a position leaves J at the end
  pub once : (b d : Board) → I b d → (cs : List Call) (i : ℕ) → LoadsAt b cs r i → X (after b (take i cs)) → J (after b cs) (after d cs)
  unfolding after moves
  once b d p [] i l x = cc
  once b d p (call k e ∷ cs) zero l x = run J keep-J (next b k e) (next d k e) (makes b d p x k e l.bits l.done) cs
  once b d p (call k e ∷ cs) (suc i) l x = once (next b k e) (next d k e) (keep-I b d p k e) cs i (record { bits = l.bits; done = l.done }) x

abbrev pub Any : Board → Type 0
Any b = Unit {0}

-- one load at a position and another after it
module _ (I J K : Board → Board → Type 0) (keep-I : Preserved I) (keep-J : Preserved J) (keep-K : Preserved K) (X : Board → Type 0) (r s : Register) (makes-J : Makes I Any r J) (makes-K : Makes J X s K) where
  pub twice : (b d : Board) → I b d → (cs : List Call) (i j : ℕ) → i < j → LoadsAt b cs r i → LoadsAt b cs s j → X (after b (take j cs)) → K (after b cs) (after d cs)
  unfolding after moves
  twice b d p [] i j h l k x = cc
  twice b d p (call n e ∷ cs) i zero h l k x = absurd (omega arith)
  twice b d p (call n e ∷ cs) zero (suc j) h l k x =
      once J K keep-J keep-K X s makes-K (next b n e) (next d n e) (makes-J b d p tt n e l.bits l.done) cs j (record { bits = k.bits; done = k.done }) x
  twice b d p (call n e ∷ cs) (suc i) (suc j) h l k x =
      twice (next b n e) (next d n e) (keep-I b d p n e) cs i j (le_of_suc-le-suc h) (record { bits = l.bits; done = l.done }) (record { bits = k.bits; done = k.done }) x
