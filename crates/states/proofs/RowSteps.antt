-- A row is read and summed digit by digit, from the lowest on. Assumes nothing.
use Rattle.std.proofs.Common.{◌≡◌, ◌<◌, ◌≤◌, ◌+◌, ◌*◌, ◌/◌, ◌%◌, ◌^◌, ℕ, length, take, drop, List, [], ◌∷◌, ◌++◌, slice_index, slice_set, refl, sym, ap, ap₂, ◌∙◌, subst, add-one, zero-add, arith, Fits, w64}
use Rattle.std.proofs.lemmas.List.{take_more_set, append_assoc, length-set, drop_all, take_all, append-nil}
use Rattle.std.proofs.Math.Nat.{mul-pos, le-mul_of_pos_right, mul_assoc, mul-one, one-mul}
use Rattle.std.proofs.Math.Seq.{drop-cons}
use Rattle.rules.specs.Rows.{digits}
use Rattle.rules.specs.Flat.{flat_digits, word_from, flat_word}
use Rattle.rules.proofs.Flat.{flat_digits_lem}
use Rattle.states.specs.Rows.{AllAbove0, count}

next_of : (ss : List ℕ) (i : ℕ) → i < length ss → drop i ss ≡ slice_index ss i ∷ drop (i + 1) ss
next_of ss i h = rw add-one (drop-cons ss i 0 h)

-- after i digits: those, and then those of the rest, are the word's
pub record Read (ss ds : List ℕ) (i rest word : ℕ) : Type 0 where
  pub long : length ds ≡ length ss
  pub all : take i ds ++ digits (drop i ss) rest ≡ digits ss word
  pub sizes : AllAbove0 (drop i ss)

pub next_read : (ss ds : List ℕ) (i rest word : ℕ) → i < length ss → Read ss ds i rest word
    → Read ss (slice_set ds i (rest % slice_index ss i)) (i + 1) (rest / slice_index ss i) word
next_read ss ds i rest word h r =
    let s = slice_index ss i in
    let more = digits (drop (i + 1) ss) (rest / s) in
    record {
      long = length-set ds i (rest % s) ∙ r.long;
      all = ap (λ t. t ++ more) (take_more_set ds i (rest % s) (omega (arith, h, r.long)))
          ∙ append_assoc (take i ds) (rest % s ∷ []) more
          ∙ ap (λ t. take i ds ++ digits t rest) (sym (next_of ss i h))
          ∙ r.all;
      sizes = (subst AllAbove0 (next_of ss i h) r.sizes).1;
    }

pub whole_read : (ss ds : List ℕ) (i rest word : ℕ) → length ss ≤ i → Read ss ds i rest word → ds ≡ flat_digits ss word
whole_read ss ds i rest word h r =
    sym (take_all i ds (omega (arith, h, r.long)))
    ∙ sym (append-nil (take i ds))
    ∙ ap (λ t. take i ds ++ digits t rest) (sym (drop_all i ss h))
    ∙ r.all
    ∙ sym (flat_digits_lem ss word)

-- after i digits: their sum and the rest of the row are the word, and the next place is one of 64 bits
pub record Summed (ss ds : List ℕ) (i sum place : ℕ) : Type 0 where
  pub all : word_from sum place (drop i ss) (drop i ds) ≡ flat_word ss ds
  pub row : place * count (drop i ss) < 2 ^ 64
  pub sizes : AllAbove0 (drop i ss)

no_less : (n p : ℕ) (ss ds : List ℕ) → n ≤ word_from n p ss ds
no_less n p [] ds = omega arith
no_less n p (s ∷ ss) [] = omega arith
no_less n p (s ∷ ss) (d ∷ ds) = omega (arith, no_less (n + d * p) (p * s) ss ds)

some : (ss : List ℕ) → AllAbove0 ss → 0 < count ss
some [] p = omega arith
some (s ∷ ss) p = mul-pos p.0 (some ss p.1)

place_fits : (ss : List ℕ) (s place : ℕ) → place * (s * count ss) < 2 ^ 64 → AllAbove0 ss → place * s < 2 ^ 64
place_fits ss s place r p = omega (arith, mul_assoc place s (count ss), le-mul_of_pos_right (place * s) (some ss p), r)

module _ (ss ds : List ℕ) (i sum place : ℕ) (h : i < length ss) (k : i < length ds) (r : Summed ss ds i sum place) where
  all_here : word_from sum place (slice_index ss i ∷ drop (i + 1) ss) (slice_index ds i ∷ drop (i + 1) ds) ≡ flat_word ss ds
  all_here = ap₂ (word_from sum place) (sym (next_of ss i h)) (sym (next_of ds i k)) ∙ r.all

  row_here : place * (slice_index ss i * count (drop (i + 1) ss)) < 2 ^ 64
  row_here = subst (λ t. place * count t < 2 ^ 64) (next_of ss i h) r.row

  sizes_here : AllAbove0 (drop (i + 1) ss)
  sizes_here = (subst AllAbove0 (next_of ss i h) r.sizes).1

  -- what a step comes to is of 64 bits
  pub sum_small : flat_word ss ds < 2 ^ 64 → Fits w64 (sum + slice_index ds i * place)
  sum_small t = omega (arith, no_less (sum + slice_index ds i * place) (place * slice_index ss i) (drop (i + 1) ss) (drop (i + 1) ds), all_here, t)

  pub term_small : flat_word ss ds < 2 ^ 64 → Fits w64 (slice_index ds i * place)
  term_small t = omega (arith, sum_small t)

  pub place_small : Fits w64 (place * slice_index ss i)
  place_small = omega (arith, place_fits (drop (i + 1) ss) (slice_index ss i) place row_here sizes_here)

  pub next_summed : Summed ss ds (i + 1) (sum + slice_index ds i * place) (place * slice_index ss i)
  next_summed =
      record {
        all = all_here;
        row = subst (λ n. n < 2 ^ 64) (sym (mul_assoc place (slice_index ss i) (count (drop (i + 1) ss)))) row_here;
        sizes = sizes_here;
      }

pub none_summed : (ss ds : List ℕ) → AllAbove0 ss → count ss < 2 ^ 64 → Summed ss ds 0 0 1
none_summed ss ds p r = record { all = from_none ss ds; row = omega (arith, r); sizes = p }
  where
    from_none : (ss ds : List ℕ) → word_from 0 1 ss ds ≡ flat_word ss ds
    from_none [] ds = refl
    from_none (s ∷ ss) [] = refl
    from_none (s ∷ ss) (d ∷ ds) = simp (zero-add, mul-one, one-mul)

pub whole_summed : (ss ds : List ℕ) (i sum place : ℕ) → length ss ≤ i → Summed ss ds i sum place → sum ≡ flat_word ss ds
whole_summed ss ds i sum place h r = ap (λ t. word_from sum place t (drop i ds)) (sym (drop_all i ss h)) ∙ r.all

pub ruleset reads = (next_read, whole_read)

pub ruleset sums = (none_summed, term_small, sum_small, place_small, next_summed, whole_summed)
