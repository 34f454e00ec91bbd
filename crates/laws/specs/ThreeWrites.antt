-- MMC3: "With latch n, reload and enable written": the three writes in any order, whatever the other calls are that undo none of them.
use Rattle.std.specs.Prelude.{ℕ, ◌≡◌, List}
use Rattle.mmc3.specs.declared.Move.TheVariants.{Latch, Reload, Enable, Disable}
use Rattle.boards.specs.Runs.{Call}
use Rattle.boards.specs.declared.Board.{Board}
use Rattle.laws.specs.Deeds.{deed_at, NoneAfter}
use Rattle.laws.specs.Deeds.Deed.{writes, clocks}

-- "With latch n, reload and enable written": each by an accepted write, in any order; no latch is written after the latch, no clock comes after the reload mark, and nothing disables after the enable
pub record Written (n : ℕ) (b : Board) (cs : List Call) : Type 0 where
  pub latch : ℕ
  pub reload : ℕ
  pub enable : ℕ
  pub latch_written : deed_at b cs latch ≡ writes (Latch n)
  pub reload_written : deed_at b cs reload ≡ writes Reload
  pub enable_written : deed_at b cs enable ≡ writes Enable
  pub no_latch_after : (v : ℕ) → NoneAfter b cs latch (writes (Latch v))
  pub no_clock_after : NoneAfter b cs reload clocks
  pub no_disable_after : NoneAfter b cs enable (writes Disable)
