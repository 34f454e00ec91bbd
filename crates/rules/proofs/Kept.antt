-- Words are taken if what they hold is in range and gives them when it is packed again: these are the words of what is in range,
-- and no others, whatever the packing, if only what is in range comes back from its words. Assumes nothing.
use mathlib.Core.Path.{◌≡◌, subst, subst⁻¹}
use mathlib.Core.Bool.{Bool, true, ◌&&◌}
use mathlib.Core.Logic.{◌↔◌}
use Rattle.std.proofs.lemmas.Bool.{and_parts, and_from}

module _ {A W : Type 0} (pack : A → W) (held : W → A) (in_range : A → Bool) (same : W → W → Bool) where
  abbrev kept : W → Bool
  kept w = in_range (held w) && same (pack (held w)) w

  pub comes_back : ((v w : W) → same v w ≡ true → v ≡ w) → (w : W) → kept w ≡ true → pack (held w) ≡ w
  comes_back same_is w h = same_is (pack (held w)) w (and_parts (in_range (held w)) (same (pack (held w)) w) h).1

  pub is_kept_lem : ((w : W) → same w w ≡ true) → (x : A) → held (pack x) ≡ x → in_range x ≡ true → kept (pack x) ≡ true
  is_kept_lem self x there h =
      subst⁻¹ (λ (y : A). (in_range y && same (pack y) (pack x)) ≡ true) there (and_from (in_range x) (same (pack x) (pack x)) h (self (pack x)))

  -- given that what these words hold is of its types
  pub just_those : ((v w : W) → same v w ≡ true → v ≡ w) → ((w : W) → same w w ≡ true) → (typed : A → Type 0)
      → ((x : A) → typed x → in_range x ≡ true → held (pack x) ≡ x) → (w : W) → typed (held w)
      → (kept w ≡ true) ↔ ((x : A) × typed x × (in_range x ≡ true) × (pack x ≡ w))
  just_those same_is self typed there w t = (
    λ h. (held w, t, (and_parts (in_range (held w)) (same (pack (held w)) w) h).0, comes_back same_is w h),
    λ p. subst (λ (v : W). kept v ≡ true) p.3 (is_kept_lem self p.0 (there p.0 p.1 p.2) p.2),
  )
