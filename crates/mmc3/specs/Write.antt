-- MMC3: what a write does: a move that its address and byte decide, applied to the board.
use Rattle.std.specs.Prelude.{ℕ, ◌*◌, ◌/◌, ◌%◌, Bool, true, false, cond, ltb, leb, eqb, set, Option, Some, None}
use Rattle.common.specs.declared.Outcome.{Outcome}
use Rattle.common.specs.declared.Mode.{Mode}
use Rattle.common.specs.declared.Mirroring.{Mirroring}
use Rattle.common.specs.declared.Mirroring.TheVariants.{Horizontal, Vertical}
use Rattle.mmc3.specs.Clock.{with_irq, with_line}
use Rattle.mmc3.specs.Ram.{marks_after}
use Rattle.mmc3.specs.declared.Mmc3.{Mmc3}
use Rattle.mmc3.specs.declared.Move.{Move}
use Rattle.mmc3.specs.declared.Move.TheVariants.{Nothing, Select, Data, Screens, Protect, Latch, Reload, Enable, Disable}
use Rattle.mmc3.specs.declared.RamMarks.{RamMarks}

-- "even"; what is not even is "odd"
abbrev pub is_even : ℕ → Bool
is_even a = eqb (a % 2) 0

-- "8000-9FFF even: .. select ..; Odd: data ..; A000-BFFF even: ..; C000-DFFF even sets the latch, odd the reload mark; E000-FFFF odd enables IRQ, even disables"; M-111: "an odd write to A000-BFFF" is RAM's
unfoldable pub move_of : ℕ → ℕ → Move
move_of v a =
    cond (ltb a 0x8000) Nothing
    (cond (ltb a 0xA000) (cond (is_even a) (Select v) (Data v))
    (cond (ltb a 0xC000) (cond (is_even a) (Screens v) (Protect v))
    (cond (ltb a 0xE000) (cond (is_even a) (Latch v) Reload)
    (cond (is_even a) Disable Enable))))

-- "R0 and R1 lose bit 0, R6 and R7 keep six bits"
unfoldable pub data_bits : ℕ → ℕ → ℕ
data_bits select v = cond (ltb select 2) (v / 2 * 2) (cond (leb 6 select) (v % 64) v)

-- a board with other marks of RAM
abbrev pub with_ram : Mmc3 → RamMarks → Mmc3
with_ram m r = record { select = m.select; prgmode = m.prgmode; chrmode = m.chrmode; regs = m.regs; irq = m.irq; line = m.line; ram = r }

-- the board after a move; only the marks of RAM go by the mode
unfoldable pub applied : Mode → Move → Mmc3 → Mmc3
applied mode Nothing m = m
-- "bits 0-2 select, bit 6 PRG mode, bit 7 CHR mode"
applied mode (Select v) m =
    record { select = v % 8; prgmode = v / 64 % 2; chrmode = v / 128 % 2; regs = m.regs; irq = m.irq; line = m.line; ram = m.ram }
-- "data to the selected register"
applied mode (Data v) m =
    record {
      select = m.select;
      prgmode = m.prgmode;
      chrmode = m.chrmode;
      regs = set m.regs m.select (data_bits m.select v);
      irq = m.irq;
      line = m.line;
      ram = m.ram;
    }
-- a mirroring is no register of this board
applied mode (Screens v) m = m
-- M-111: "sets bit 7, RAM enabled, and bit 6, writes denied"
applied mode (Protect v) m = with_ram m (marks_after mode m.ram v)
-- "sets the latch"; "the reload mark"; "enables IRQ", and M-101: "an odd write doesn't lower it"
applied mode (Latch v) m = with_irq m (record { enabled = m.irq.enabled; latch = v; counter = m.irq.counter; reload = m.irq.reload })
applied mode Reload m = with_irq m (record { enabled = m.irq.enabled; latch = m.irq.latch; counter = m.irq.counter; reload = true })
applied mode Enable m = with_irq m (record { enabled = true; latch = m.irq.latch; counter = m.irq.counter; reload = m.irq.reload })
-- M-101: "an even write to E000-FFFF, which lowers it and disables"
applied mode Disable m = with_line (with_irq m (record { enabled = false; latch = m.irq.latch; counter = m.irq.counter; reload = m.irq.reload })) false

-- "bit 0 set horizontal, else vertical"
unfoldable pub screens : ℕ → Mirroring
screens v = cond (eqb (v % 2) 1) Horizontal Vertical

-- only an "A000 write" speaks of the screens
unfoldable pub mirrors_of : Move → Option Mirroring
mirrors_of (Screens v) = Some (screens v)
mirrors_of Nothing = None
mirrors_of (Select v) = None
mirrors_of (Data v) = None
mirrors_of (Protect v) = None
mirrors_of (Latch v) = None
mirrors_of Reload = None
mirrors_of Enable = None
mirrors_of Disable = None

-- the board after a write, and what the write asks of the screens
abbrev pub Wrote : Type 0
Wrote = Outcome Mmc3 (Option Mirroring)

-- both, of a write of a byte to an address
unfoldable pub written : Mode → Mmc3 → ℕ → ℕ → Wrote
written mode m v a = record { left = applied mode (move_of v a) m; answer = mirrors_of (move_of v a) }
