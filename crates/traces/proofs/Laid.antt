-- Bytes laid after bytes are their concatenation laid at once. Assumes nothing.
use Rattle.std.proofs.Common.{◌≡◌, ℕ, suc, ◌+◌, ◌<◌, List, [], ◌∷◌, ◌++◌, length, take, get_or, set, refl, sym, ap, subst, ◌∙◌, arith, length-append}
use Rattle.std.proofs.lemmas.List.{take_more}
use Rattle.traces.specs.declared.Text.{Text}
use Rattle.traces.specs.Text.{laid}
use Rattle.traces.specs.Steps.{Puts}

pub laid_append : (s : List ℕ) (at : ℕ) (xs ys : List ℕ) → laid s at (xs ++ ys) ≡ laid (laid s at xs) (at + length xs) ys
unfolding laid
laid_append s at [] ys = ap (λ (n : ℕ). laid s n ys) (omega arith)
laid_append s at (x ∷ xs) ys =
    laid_append (set s at x) (suc at) xs ys
    ∙ ap (λ (n : ℕ). laid (laid (set s at x) (suc at) xs) n ys) (omega arith)

-- two writes, one after the other
module _ {xs ys : List ℕ} {a b c : Text} (p : Puts xs a b) (q : Puts ys b c) where
  pub join : Puts (xs ++ ys) a c
  join =
      record {
        same = q.same ∙ p.same;
        text = λ h. let n = length-append xs ys in q.text (omega arith) ∙ rw (p.text (omega arith), p.next (omega arith)) (sym (laid_append a.bytes.now a.at xs ys));
        next = λ h. let n = length-append xs ys in q.next (omega arith) ∙ (omega arith);
      }

-- no byte, and one byte more
pub put_none : (a : Text) → Puts [] a a
unfolding laid
put_none a = record { same = refl; text = λ _. refl; next = λ _. omega arith }

pub put_more : {a b c : Text} (bs : List ℕ) (i : ℕ) → i < length bs → Puts (take i bs) a b → Puts (get_or bs i 0 ∷ []) b c → Puts (take (i + 1) bs) a c
put_more bs i h p q = rw (take_more bs i 0 h) (join p q)

-- the same bytes under another name
pub named : {xs ys : List ℕ} {a b : Text} → xs ≡ ys → Puts xs a b → Puts ys a b
named {a = a} {b = b} e p = subst (λ (l : List ℕ). Puts l a b) e p
