-- MMC1: what a write does: a move that the serial register, the byte and the address decide, applied to the board. House mode, and board mode where it differs.
use Rattle.std.specs.Prelude.{ℕ, ◌+◌, ◌*◌, ◌/◌, ◌%◌, Bool, cond, ltb, eqb, Option, Some, None}
use Rattle.common.specs.Common.{is_signed}
use Rattle.common.specs.declared.Outcome.{Outcome}
use Rattle.common.specs.declared.Mode.{Mode}
use Rattle.common.specs.declared.Mode.TheVariants.{House, Board}
use Rattle.common.specs.declared.Mirroring.{Mirroring}
use Rattle.common.specs.declared.Mirroring.TheVariants.{Horizontal, Vertical, SingleScreenUpper, SingleScreenLower}
use Rattle.mmc1.specs.declared.Serial.{Serial}
use Rattle.mmc1.specs.declared.Regs.{Regs}
use Rattle.mmc1.specs.declared.Mmc1.{Mmc1}
use Rattle.mmc1.specs.declared.Register.{Register}
use Rattle.mmc1.specs.declared.Register.TheVariants.{Control, Chr0, Chr1, Prg}
use Rattle.mmc1.specs.declared.Move.{Move}
use Rattle.mmc1.specs.declared.Move.TheVariants.{Nothing, Clear, Enter, Fill}

-- "clears the serial register"
abbrev pub empty : Serial
empty = record { count = 0; value = 0 }

-- "bit 0 enters, least bit first"
abbrev pub shifted : Serial → ℕ → ℕ
shifted s v = s.value / 2 + 16 * (v % 2)

-- "a load chosen by that fifth address: 8000 control, A000 CHR 0, C000 CHR 1, E000 PRG"
unfoldable pub register_at : ℕ → Register
register_at a = cond (ltb a 0xA000) Control (cond (ltb a 0xC000) Chr0 (cond (ltb a 0xE000) Chr1 Prg))

-- "A write to 8000-FFFF with bit 7 clears .. Otherwise bit 0 enters ..; the fifth completes a load"
unfoldable pub move_of : Serial → ℕ → ℕ → Move
move_of s v a =
    cond (ltb a 0x8000) Nothing
    (cond (is_signed v) Clear
    (cond (ltb s.count 4) (Enter (record { count = s.count + 1; value = shifted s v }))
    (Fill (register_at a) (shifted s v))))

-- a bit 7 write, house: "clears the serial register and nothing else"; board: "also sets PRG mode 3"
unfoldable pub reset : Mode → Regs → Regs
reset House r = r
reset Board r = record { prgmode = 3; chrmode = r.chrmode; chr0 = r.chr0; chr1 = r.chr1; prg = r.prg }

-- "8 KB mode", which "bit 4: 4 KB CHR mode" leaves
abbrev pub switches8_kb : ℕ → Bool
switches8_kb chrmode = eqb chrmode 0

-- house: "CHR 0 is stored halved in 8 KB mode, whole in 4 KB mode"; board: "both CHR registers are stored whole in either CHR mode"
unfoldable pub stored_chr0 : Mode → ℕ → ℕ → ℕ
stored_chr0 House chrmode v = cond (switches8_kb chrmode) (v / 2) v
stored_chr0 Board chrmode v = v

-- house: "CHR 1 is ignored in 8 KB mode"
unfoldable pub stored_chr1 : Mode → ℕ → ℕ → ℕ → ℕ
stored_chr1 House chrmode old v = cond (switches8_kb chrmode) old v
stored_chr1 Board chrmode old v = v

-- a completed load
unfoldable pub load : Mode → Regs → Register → ℕ → Regs
-- "bits 2-3: PRG mode; bit 4: 4 KB CHR mode"
load mode r Control v = record { prgmode = v / 4 % 4; chrmode = v / 16 % 2; chr0 = r.chr0; chr1 = r.chr1; prg = r.prg }
load mode r Chr0 v =
    record { prgmode = r.prgmode; chrmode = r.chrmode; chr0 = stored_chr0 mode r.chrmode v; chr1 = r.chr1; prg = r.prg }
load mode r Chr1 v =
    record { prgmode = r.prgmode; chrmode = r.chrmode; chr0 = r.chr0; chr1 = stored_chr1 mode r.chrmode r.chr1 v; prg = r.prg }
-- "E000 PRG (low four bits)"
load mode r Prg v = record { prgmode = r.prgmode; chrmode = r.chrmode; chr0 = r.chr0; chr1 = r.chr1; prg = v % 16 }

-- the board after a move; a completed load leaves the serial register empty
unfoldable pub applied : Mode → Move → Mmc1 → Mmc1
applied mode Nothing m = m
applied mode Clear m = record { serial = empty; regs = reset mode m.regs }
applied mode (Enter s) m = record { serial = s; regs = m.regs }
applied mode (Fill r v) m = record { serial = empty; regs = load mode m.regs r v }

-- "Control bits 0-1: lower screen, upper screen, vertical, horizontal"
unfoldable pub control_mirroring : ℕ → Mirroring
control_mirroring v =
    cond (eqb (v % 4) 0) SingleScreenLower
    (cond (eqb (v % 4) 1) SingleScreenUpper
    (cond (eqb (v % 4) 2) Vertical Horizontal))

-- only a control load speaks of the screens
unfoldable pub mirrors_of : Move → Option Mirroring
mirrors_of Nothing = None
mirrors_of Clear = None
mirrors_of (Enter s) = None
mirrors_of (Fill Control v) = Some (control_mirroring v)
mirrors_of (Fill Chr0 v) = None
mirrors_of (Fill Chr1 v) = None
mirrors_of (Fill Prg v) = None

-- the board after a write, and what the write asks of the screens
abbrev pub Wrote : Type 0
Wrote = Outcome Mmc1 (Option Mirroring)

-- both, of a write of a byte to an address
unfoldable pub written : Mode → Mmc1 → ℕ → ℕ → Wrote
written mode m v a = record { left = applied mode (move_of m.serial v a) m; answer = mirrors_of (move_of m.serial v a) }
