-- A word takes the place of eight bytes, and five words that of forty: nothing is left of what stood there. Assumes nothing.
use Prim.Native.Nat.{ℕ, zero, suc, ◌+◌}
use mathlib.Core.Path.{◌≡◌, refl, sym, ap, ◌∙◌}
use mathlib.Core.List.{List, [], ◌∷◌, ◌++◌}
use native.Mathlib.Omega.{arith}
use lib.ListN.{length, get_or, take, drop, take-append-drop}
use lib.Seq.{drop-drop}
use Rattle.std.proofs.lemmas.List.{drop_all}
use Rattle.rules.specs.Rows.{bytes}
use Rattle.rules.specs.Flat.{flat_digits}
use Rattle.memory.specs.Memory.{part}
use Rattle.states.specs.declared.Words.{Words}
use Rattle.exports.specs.Bytes.{bytes_of}
use Rattle.exports.specs.Steps.{word_put}

-- n entries from place i on
abbrev entries : ℕ → ℕ → List ℕ → List ℕ
entries zero i s = []
entries (suc n) i s = get_or s i 0 ∷ entries n (suc i) s

shifted : (n i x : ℕ) (s : List ℕ) → entries n (suc i) (x ∷ s) ≡ entries n i s
shifted zero i x s = refl
shifted (suc n) i x s = ap (λ (t : List ℕ). get_or s i 0 ∷ t) (shifted n (suc i) x s)

-- a list of a known length is the list of its entries
pub all_entries : (n : ℕ) (s : List ℕ) → length s ≡ n → s ≡ entries n 0 s
all_entries zero [] e = refl
all_entries zero (x ∷ s) e = absurd (omega arith)
all_entries (suc n) [] e = absurd (omega arith)
all_entries (suc n) (x ∷ s) e = ap (λ (t : List ℕ). x ∷ t) (all_entries n s (omega arith) ∙ sym (shifted n 0 x s))

-- a word that stands there already changes nothing
pub put_same : (i : ℕ) (s : List ℕ) (w : ℕ) → flat_digits bytes w ≡ part s i 8 → s ≡ word_put s i w
unfolding word_put
put_same i s w e =
    sym
    (ap (λ (t : List ℕ). take i s ++ (t ++ drop (i + 8) s)) e
    ∙ ap (λ (t : List ℕ). take i s ++ (part s i 8 ++ t)) (sym (drop-drop 8 i s))
    ∙ ap (λ (t : List ℕ). take i s ++ t) (take-append-drop 8 (drop i s))
    ∙ take-append-drop i s)

-- the five words one after another
pub forty : (s : List ℕ) (w : Words) → length s ≡ 40
    → word_put (word_put (word_put (word_put (word_put s 0 w.cart) 8 w.length) 16 w.banks) 24 w.regs) 32 w.irq ≡ bytes_of w
unfolding word_put bytes_of
forty s w e = ap laid rest
  where
    laid : List ℕ → List ℕ
    laid t =
        flat_digits bytes w.cart
        ++ (flat_digits bytes w.length ++ (flat_digits bytes w.banks ++ (flat_digits bytes w.regs ++ (flat_digits bytes w.irq ++ t))))

    rest : drop 8 (drop 8 (drop 8 (drop 8 (drop 8 s)))) ≡ []
    rest = simp (drop-drop, drop_all 40 s (omega (arith, e)))
