-- The run of a trace, put together from what its steps owe. Assumes nothing.
use Rattle.std.proofs.Common.{◌≡◌, ◌≤◌, ℕ, true, false, List, length, ◌∙◌, ap, refl, arith}
use Rattle.common.specs.declared.Mode.{Mode}
use Rattle.common.specs.declared.Refusal.{Refusal}
use Rattle.common.specs.declared.Refusal.TheVariants.{TraceMalformed}
use Rattle.boards.specs.Start.{LoadOwes, load_answer, board_of}
use Rattle.boards.specs.Runs.{Moment}
use Rattle.boards.specs.Start.{Loaded}
use Rattle.traces.specs.declared.Machine.{Machine}
use Rattle.traces.specs.declared.Text.{Text}
use Rattle.traces.specs.Format.{is_trace, event_count, image_of, mode_of}
use Rattle.traces.specs.Text.{load_line, refused_line}
use Rattle.traces.specs.Run.{Ran, held, stopped, accepted_run, loaded_run, loaded, started, trace_run, ran, RunOwes}
use Rattle.traces.specs.Steps.{Puts, moment_of, EventsOwe, ShowsRun}
use Rattle.traces.proofs.Laid.{join}

-- the load's line, then the lines of all events
module _ {t prg' chr' : List ℕ} {m m' : Machine} {text text₁ text₂ : Text} where
  pub whole : Puts (load_line m.board.cart) text text₁ → EventsOwe t (event_count t) m text₁ m' text₂ → prg' ≡ m'.prg.now → chr' ≡ m'.chr.now
      → ShowsRun (accepted_run t (moment_of m)) text text₂ prg' chr'
  unfolding accepted_run
  whole p o e f =
      record {
        says = join p o.says;
        prg_ram = e ∙ ap (λ (m : Moment). m.lent.prg) o.moves;
        chr_ram = f ∙ ap (λ (m : Moment). m.lent.chr) o.moves;
      }

-- nothing but the refusal
pub ended : (why : Refusal) {prg chr : List ℕ} {text text₁ : Text} → Puts (refused_line why) text text₁ → ShowsRun (stopped why prg chr) text text₁ prg chr
unfolding stopped
ended why p = record { says = p; prg_ram = refl; chr_ram = refl }

-- from the moment after the load
module _ (t : List ℕ) {image prg chr prg₁ chr₁ prg' chr' : List ℕ} {mode : Mode} {l : Loaded} {text text' : Text} where
  pub from_load : image ≡ image_of t → mode ≡ mode_of t → LoadOwes image mode prg chr l prg₁ chr₁
      → ShowsRun (loaded_run (load_answer l) t (held t (board_of l) prg₁ chr₁)) text text' prg' chr'
      → ShowsRun (trace_run t prg chr) text text' prg' chr'
  unfolding trace_run loaded started
  from_load e m o w = rw (← e, ← m) (rw (← e, o.reply, o.prg_ram, o.chr_ram) at w)

-- either way, from the start of the buffer on
module _ {w : Ran} {prg' chr' text text' : List ℕ} {old new : Text} where
  pub owed : ShowsRun w old new prg' chr' → length w.text ≤ 16384 → old.at ≡ 0 → old.bytes.now ≡ text → text' ≡ new.bytes.now → RunOwes w text new.at prg' chr' text'
  owed s h z e f =
      record {
        count = s.says.next (omega arith) ∙ omega arith;
        shown = f ∙ s.says.text (omega arith) ∙ rw (z, e) refl;
        prg_ram = s.prg_ram;
        chr_ram = s.chr_ram;
        most = omega (arith, s.says.next (omega arith));
      }

-- a well-formed trace is run, any other refused
pub accepted : (t prg chr : List ℕ) {old new : Text} {prg' chr' : List ℕ} → is_trace t ≡ true → ShowsRun (trace_run t prg chr) old new prg' chr' → ShowsRun (ran t prg chr) old new prg' chr'
unfolding ran
accepted t prg chr e s = rw e s

pub malformed : (t : List ℕ) {prg chr : List ℕ} {old new : Text} → is_trace t ≡ false → Puts (refused_line TraceMalformed) old new → ShowsRun (ran t prg chr) old new prg chr
unfolding ran
malformed t e p = rw e (ended TraceMalformed p)
