-- MMC1's fields stay in range: a bit that enters halves what the serial value is a multiple of, and a load keeps its bits. Assumes nothing.
use Prim.Native.Nat.{ℕ, zero, suc, ◌+◌, ◌-◌, ◌*◌, ◌/◌, ◌%◌, ◌^◌, ◌<◌}
use mathlib.Core.Path.{◌≡◌, refl}
use mathlib.Core.Bool.{true}
use native.Mathlib.Omega.{arith}
use lib.Dec.{ltb}
use borrow.Author.Tests.{ltb-true, eqb-true, lt-ltb, eq-eqb}
use Rattle.std.proofs.lemmas.Bool.{cond_both}
use Rattle.rules.proofs.Bools.{either}
use Rattle.common.specs.Common.{is_signed}
use Rattle.common.specs.declared.Mode.{Mode}
use Rattle.mmc1.specs.Write.{empty, move_of, reset, stored_chr0, stored_chr1, load, applied, written}
use Rattle.mmc1.specs.Range.{serial_fits, regs_fits, fits}
use Rattle.mmc1.specs.declared.Serial.{Serial}
use Rattle.mmc1.specs.declared.Regs.{Regs}
use Rattle.mmc1.specs.declared.Mmc1.{Mmc1}
use Rattle.mmc1.specs.declared.Move.{Move}
use Rattle.mmc1.specs.declared.Move.TheVariants.{Nothing, Clear, Enter, Fill}
use Rattle.mmc1.specs.declared.Register.{Register}

-- five bits, whatever the byte
below_32 : (v w : ℕ) → v < 32 → v / 2 + 16 * (w % 2) < 32
below_32 v w h = omega arith

multiple : (k v w : ℕ) → k < 4 → v % 2 ^ (5 - k) ≡ 0 → (v / 2 + 16 * (w % 2)) % 2 ^ (5 - (k + 1)) ≡ 0
multiple zero v w h e = omega arith
multiple (suc zero) v w h e = omega arith
multiple (suc (suc zero)) v w h e = omega arith
multiple (suc (suc (suc zero))) v w h e = omega arith
multiple (suc (suc (suc (suc k)))) v w h e = absurd (omega arith)

record Serially (s : Serial) : Type 0 where
  count : s.count < 5
  value : s.value < 32
  multiple_of : s.value % 2 ^ (5 - s.count) ≡ 0

serially : (s : Serial) → serial_fits s ≡ true → Serially s
unfolding serial_fits
serially s e = record { count = grind (arith, ltb-true); value = grind (arith, ltb-true); multiple_of = grind (arith, eqb-true) }

serial_fits_lem : (s : Serial) → Serially s → serial_fits s ≡ true
unfolding serial_fits
serial_fits_lem s p = rw (lt-ltb _ _ p.count, lt-ltb _ _ p.value, eq-eqb _ _ p.multiple_of) refl

record Ranged (r : Regs) : Type 0 where
  prgmode : r.prgmode < 4
  chrmode : r.chrmode < 2
  chr0 : r.chr0 < 32
  chr1 : r.chr1 < 32
  prg : r.prg < 16

ranged : (r : Regs) → regs_fits r ≡ true → Ranged r
unfolding regs_fits
ranged r e =
    record {
      prgmode = grind (arith, ltb-true);
      chrmode = grind (arith, ltb-true);
      chr0 = grind (arith, ltb-true);
      chr1 = grind (arith, ltb-true);
      prg = grind (arith, ltb-true);
    }

regs_fit : (r : Regs) → Ranged r → regs_fits r ≡ true
unfolding regs_fits
regs_fit r p =
    rw (lt-ltb _ _ p.prgmode, lt-ltb _ _ p.chrmode, lt-ltb _ _ p.chr0, lt-ltb _ _ p.chr1, lt-ltb _ _ p.prg) refl

-- a load of five bits
loads : (mode : Mode) (r : Regs) (w : Register) (v : ℕ) → v < 32 → Ranged r → Ranged (load mode r w v)
unfolding load stored_chr0 stored_chr1
loads mode r w v h p = grind arith

resets : (mode : Mode) (r : Regs) → Ranged r → Ranged (reset mode r)
unfolding reset
resets mode r p = grind arith

-- both halves together
joined : (m : Mmc1) → Serially m.serial → Ranged m.regs → fits m ≡ true
unfolding fits
joined m s r = rw (serial_fits_lem m.serial s, regs_fit m.regs r) refl

-- a move whose bits are in range
abbrev Fitting : Move → Type 0
Fitting Nothing = Unit {0}
Fitting Clear = Unit {0}
Fitting (Enter s) = Serially s
Fitting (Fill w v) = v < 32

moves : (s : Serial) (v a : ℕ) → Serially s → Fitting (move_of s v a)
unfolding move_of
moves s v a p =
    either Fitting (ltb a 0x8000) tt
    (either Fitting (is_signed v) tt
    (cond_both (ltb s.count 4) _ _ Fitting
    (λ e. record {
      count = omega (arith, ltb-true s.count 4 e);
      value = below_32 s.value v p.value;
      multiple_of = multiple s.count s.value v (ltb-true s.count 4 e) p.multiple_of;
    })
    (λ e. below_32 s.value v p.value)))

none : Serially empty
none = record { count = omega arith; value = omega arith; multiple_of = refl }

applied_fits : (mode : Mode) (k : Move) (m : Mmc1) → Fitting k → Serially m.serial → Ranged m.regs → fits (applied mode k m) ≡ true
unfolding applied
applied_fits mode Nothing m f s r = joined m s r
applied_fits mode Clear m f s r = joined (record { serial = empty; regs = reset mode m.regs }) none (resets mode m.regs r)
applied_fits mode (Enter t) m f s r = joined (record { serial = t; regs = m.regs }) f r
applied_fits mode (Fill w v) m f s r = joined (record { serial = empty; regs = load mode m.regs w v }) none (loads mode m.regs w v f r)

pub written_fits : (mode : Mode) (m : Mmc1) (v a : ℕ) → fits m ≡ true → fits (written mode m v a).left ≡ true
unfolding fits written
written_fits mode m v a e =
    let s = serially m.serial (grind arith) in
    let r = ranged m.regs (grind arith) in
    applied_fits mode (move_of m.serial v a) m (moves m.serial v a s) s r
