-- MMC3's fields stay in range: a data write changes one register and keeps the bits that its range allows, and the line is raised and RAM locked in board mode only. Assumes nothing.
use Rattle.std.specs.Prelude.{Option, Some, None}
use Prim.Native.Nat.{ℕ, zero, suc, ◌%◌, ◌≤◌, ◌<◌}
use mathlib.Core.Path.{◌≡◌, refl, ap, ◌∙◌}
use mathlib.Core.Logic.{◌⊎◌, inl, inr, ⊎_elim}
use mathlib.Core.Bool.{Bool, true, false}
use mathlib.Core.List.{List, [], ◌∷◌}
use native.Mathlib.Omega.{arith}
use lib.ListN.{get_or, set}
use borrow.Author.Tests.{ltb-true, eqb-true, lt-ltb, le-ltb, le-leb, eq-eqb}
use Rattle.common.specs.Answers.{is_headers}
use Rattle.common.specs.declared.Mode.{Mode}
use Rattle.mmc3.specs.Ram.{ram_start, marks_after}
use Rattle.mmc3.specs.Clock.{with_irq, with_line, line_after, clocked, clock_in}
use Rattle.mmc3.specs.Read.{register}
use Rattle.mmc3.specs.Write.{move_of, data_bits, with_ram, applied, screens, mirrors_of, written}
use Rattle.mmc3.specs.Range.{line_fits, ram_is_start, ram_fits, fits}
use Rattle.mmc3.specs.declared.Irq.{Irq}
use Rattle.mmc3.specs.declared.Mmc3.{Mmc3}
use Rattle.mmc3.specs.declared.RamMarks.{RamMarks}
use Rattle.mmc3.specs.declared.Move.{Move}
use Rattle.mmc3.specs.declared.Move.TheVariants.{Nothing, Select, Data, Screens, Protect, Latch, Reload, Enable, Disable}
use Rattle.common.specs.declared.Mirroring.{Mirroring}

-- after a store an element is as it was, or it is the one stored
get_set : (l : List ℕ) (i x k : ℕ) → (get_or (set l i x) k 0 ≡ get_or l k 0) ⊎ ((k ≡ i) × (get_or (set l i x) k 0 ≡ x))
get_set [] i x k = inl refl
get_set (y ∷ l) zero x zero = inr (refl, refl)
get_set (y ∷ l) zero x (suc k) = inl refl
get_set (y ∷ l) (suc i) x zero = inl refl
get_set (y ∷ l) (suc i) x (suc k) =
    ⊎_elim {C = (get_or (set l i x) k 0 ≡ get_or l k 0) ⊎ ((suc k ≡ suc i) × (get_or (set l i x) k 0 ≡ x))} (λ e. inl e) (λ e. inr (ap suc e.0, e.1)) (get_set l i x k)

pub record Ranged (mode : Mode) (m : Mmc3) : Type 0 where
  select : m.select < 8
  prgmode : m.prgmode < 2
  chrmode : m.chrmode < 2
  r0 : get_or m.regs 0 0 % 2 ≡ 0
  r1 : get_or m.regs 1 0 % 2 ≡ 0
  r6 : get_or m.regs 6 0 < 64
  r7 : get_or m.regs 7 0 < 64
  pub line : line_fits mode m.line ≡ true
  pub ram : ram_fits mode m.ram ≡ true

pub ranged : (mode : Mode) (m : Mmc3) → fits mode m ≡ true → Ranged mode m
unfolding fits register
ranged mode m e =
    record {
      select = grind (arith, ltb-true);
      prgmode = grind (arith, ltb-true);
      chrmode = grind (arith, ltb-true);
      r0 = grind (arith, eqb-true);
      r1 = grind (arith, eqb-true);
      r6 = grind (arith, ltb-true);
      r7 = grind (arith, ltb-true);
      line = grind arith;
      ram = grind arith;
    }

in_fits : {mode : Mode} (m : Mmc3) → Ranged mode m → fits mode m ≡ true
unfolding fits register
in_fits m p =
    rw
    (lt-ltb _ _ p.select, lt-ltb _ _ p.prgmode, lt-ltb _ _ p.chrmode, eq-eqb _ _ p.r0, eq-eqb _ _ p.r1, lt-ltb _ _ p.r6, lt-ltb _ _ p.r7, p.line, p.ram)
    refl

kept_even : (s v : ℕ) → s < 2 → data_bits s v % 2 ≡ 0
unfolding data_bits
kept_even s v h = rw (lt-ltb s 2 h) (omega arith)

kept_six : (s v : ℕ) → 6 ≤ s → data_bits s v < 64
unfolding data_bits
kept_six s v h = let g : 2 ≤ s = omega arith in rw (le-ltb s 2 g, le-leb 6 s h) (omega arith)

data_ranged : {mode : Mode} (m : Mmc3) (v : ℕ) → Ranged mode m → Ranged mode (applied mode (Data v) m)
unfolding applied
data_ranged m v p =
    record {
      select = p.select;
      prgmode = p.prgmode;
      chrmode = p.chrmode;
      r0 = even 0 (omega arith) p.r0;
      r1 = even 1 (omega arith) p.r1;
      r6 = six 6 (omega arith) p.r6;
      r7 = six 7 (omega arith) p.r7;
      line = p.line;
      ram = p.ram;
    }
  where
    x : ℕ
    x = data_bits m.select v

    even : (k : ℕ) → k < 2 → get_or m.regs k 0 % 2 ≡ 0 → get_or (set m.regs m.select x) k 0 % 2 ≡ 0
    even k h e =
        ⊎_elim {C = get_or (set m.regs m.select x) k 0 % 2 ≡ 0} (λ same. ap (λ (n : ℕ). n % 2) same ∙ e)
        (λ new. ap (λ (n : ℕ). n % 2) new.1 ∙ kept_even m.select v (omega (arith, new.0)))
        (get_set m.regs m.select x k)

    six : (k : ℕ) → 6 ≤ k → get_or m.regs k 0 < 64 → get_or (set m.regs m.select x) k 0 < 64
    six k h e =
        ⊎_elim {C = get_or (set m.regs m.select x) k 0 < 64} (λ same. omega (arith, same))
        (λ new. omega (arith, new.1, kept_six m.select v (omega (arith, new.0))))
        (get_set m.regs m.select x k)

-- no range speaks of the interrupt unit
with_irq_lem : (mode : Mode) (m : Mmc3) (i : Irq) → fits mode (with_irq m i) ≡ fits mode m
unfolding fits with_irq register
with_irq_lem mode m i = refl

-- the line alone may be at any level that its mode allows
with_line_lem : (mode : Mode) (m : Mmc3) (level : Bool) → line_fits mode level ≡ true → fits mode m ≡ true → fits mode (with_line m level) ≡ true
with_line_lem mode m level l e =
    let p = ranged mode m e in
    in_fits (with_line m level)
    (record { select = p.select; prgmode = p.prgmode; chrmode = p.chrmode; r0 = p.r0; r1 = p.r1; r6 = p.r6; r7 = p.r7; line = l; ram = p.ram })

-- low in either mode
pub low_fits : (mode : Mode) → line_fits mode false ≡ true
unfolding line_fits
low_fits mode = grind arith

-- and RAM by any marks that its mode allows
with_ram_lem : (mode : Mode) (m : Mmc3) (r : RamMarks) → ram_fits mode r ≡ true → fits mode m ≡ true → fits mode (with_ram m r) ≡ true
with_ram_lem mode m r l e =
    let p = ranged mode m e in
    in_fits (with_ram m r)
    (record { select = p.select; prgmode = p.prgmode; chrmode = p.chrmode; r0 = p.r0; r1 = p.r1; r6 = p.r6; r7 = p.r7; line = p.line; ram = l })

-- enabled and writable in either mode
pub start_fits : (mode : Mode) → ram_fits mode ram_start ≡ true
unfolding ram_fits ram_is_start
start_fits mode = grind arith

-- and what a write that sets them leaves
marks_fit : (mode : Mode) (r : RamMarks) (v : ℕ) → ram_fits mode r ≡ true → ram_fits mode (marks_after mode r v) ≡ true
unfolding ram_fits marks_after
marks_fit mode r v l = grind arith

-- and what a clock leaves
line_fits_lem : (mode : Mode) (line raised : Bool) → line_fits mode line ≡ true → line_fits mode (line_after mode line raised) ≡ true
unfolding line_fits line_after
line_fits_lem mode line raised l = grind arith

pub clocked_fits : (mode : Mode) (m : Mmc3) → fits mode m ≡ true → fits mode (clocked mode m).left ≡ true
unfolding clocked
clocked_fits mode m e =
    let c = clock_in mode m.irq in
    with_line_lem mode (with_irq m c.left) (line_after mode m.line c.answer) (line_fits_lem mode m.line c.answer (ranged mode m e).line) (with_irq_lem mode m c.left ∙ e)

select_fits : (mode : Mode) (m : Mmc3) (v : ℕ) → fits mode m ≡ true → fits mode (applied mode (Select v) m) ≡ true
unfolding applied
select_fits mode m v e =
    let p = ranged mode m e in
    in_fits (applied mode (Select v) m)
    (record { select = omega arith; prgmode = omega arith; chrmode = omega arith; r0 = p.r0; r1 = p.r1; r6 = p.r6; r7 = p.r7; line = p.line; ram = p.ram })

applied_fits : (mode : Mode) (k : Move) (m : Mmc3) → fits mode m ≡ true → fits mode (applied mode k m) ≡ true
unfolding applied
applied_fits mode Nothing m e = e
applied_fits mode (Select v) m e = select_fits mode m v e
applied_fits mode (Data v) m e = in_fits (applied mode (Data v) m) (data_ranged m v (ranged mode m e))
applied_fits mode (Screens v) m e = e
applied_fits mode (Protect v) m e = with_ram_lem mode m (marks_after mode m.ram v) (marks_fit mode m.ram v (ranged mode m e).ram) e
applied_fits mode (Latch v) m e = with_irq_lem mode m _ ∙ e
applied_fits mode Reload m e = with_irq_lem mode m _ ∙ e
applied_fits mode Enable m e = with_irq_lem mode m _ ∙ e
applied_fits mode Disable m e = with_line_lem mode (with_irq m _) false (low_fits mode) (with_irq_lem mode m _ ∙ e)

pub written_fits : (mode : Mode) (m : Mmc3) (v a : ℕ) → fits mode m ≡ true → fits mode (written mode m v a).left ≡ true
unfolding written
written_fits mode m v a e = applied_fits mode (move_of v a) m e

-- what a write asks of the screens is one that a header can ask for
abbrev pub headed : Option Mirroring → Bool
headed None = true
headed (Some m) = is_headers m

asks_headed : (k : Move) → headed (mirrors_of k) ≡ true
unfolding mirrors_of screens
asks_headed k = grind arith

pub written_headed : (mode : Mode) (m : Mmc3) (v a : ℕ) → headed (written mode m v a).answer ≡ true
unfolding written
written_headed mode m v a = asks_headed (move_of v a)
