-- What the steps of a run owe one another. No public promise cites this file.
use Rattle.std.specs.Prelude.{ℕ, ◌+◌, ◌<◌, ◌^◌, ◌≡◌, cond, Option, Some, None, List, length}
use Rattle.boards.specs.Runs.{Moment, moment, lent, said, stepped}
use Rattle.boards.specs.declared.Answer.{Answer}
use Rattle.boards.specs.declared.Event.{Event}
use Rattle.traces.specs.Format.{event_at, fits_at}
use Rattle.traces.specs.Text.{laid}
use Rattle.traces.specs.Run.{Ran, after, lines}
use Rattle.traces.specs.declared.Text.{Text}
use Rattle.traces.specs.declared.Machine.{Machine}

-- event i of a trace, where its bytes are one
unfoldable pub event_in : List ℕ → ℕ → Option Event
event_in t i = cond (fits_at t i) (Some (event_at t i)) None

-- what writing bytes owes: the buffer with them laid in, and the place after them, while that is a number; it is the same buffer
pub record Puts (bytes : List ℕ) (old new : Text) : Type 0 where
  pub same : new.bytes.ghost_name ≡ old.bytes.ghost_name
  pub text : old.at + length bytes < 2 ^ 64 → new.bytes.now ≡ laid old.bytes.now old.at bytes
  pub next : old.at + length bytes < 2 ^ 64 → new.at ≡ old.at + length bytes

-- the moment that a machine is in
abbrev pub moment_of : Machine → Moment
moment_of m = moment m.board (lent m.image.now m.prg.now m.chr.now)

-- the RAMs are the same ones, whatever stands in them
pub record SameRams (old new : Machine) : Type 0 where
  pub prg : new.prg.ghost_name ≡ old.prg.ghost_name
  pub chr : new.chr.ghost_name ≡ old.chr.ghost_name

-- what an event owes: its answer, and the moment after it
pub record EventOwes (e : Event) (old : Machine) (r : Answer) (new : Machine) : Type 0 where
  pub says : r ≡ said (moment_of old) e
  pub moves : moment_of new ≡ stepped (moment_of old) e
  pub same : SameRams old new

-- what the first events owe: their lines, and the moment after them
pub record EventsOwe (t : List ℕ) (k : ℕ) (old : Machine) (text : Text) (new : Machine) (text' : Text) : Type 0 where
  pub says : Puts (lines t (moment_of old) k) text text'
  pub moves : moment_of new ≡ after t (moment_of old) k
  pub same : SameRams old new

-- what a run owes: its text, and both RAMs
pub record ShowsRun (w : Ran) (text text' : Text) (prg' chr' : List ℕ) : Type 0 where
  pub says : Puts w.text text text'
  pub prg_ram : prg' ≡ w.prg
  pub chr_ram : chr' ≡ w.chr
