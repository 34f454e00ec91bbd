-- A run of a trace: the load, then one event after another, and the text of it all.
use Rattle.std.specs.Prelude.{ℕ, zero, suc, ◌≤◌, ◌≡◌, cond, List, [], ◌++◌, length, Ok, Err}
use Rattle.common.specs.declared.Mode.{Mode}
use Rattle.common.specs.declared.Refusal.{Refusal}
use Rattle.common.specs.Answers.{no}
use Rattle.cartridge.specs.Load.{verdict, ram_after}
use Rattle.boards.specs.Start.{Loaded, LoadAnswer, load, board_of, load_answer}
use Rattle.boards.specs.Runs.{lent, Moment, moment, said, stepped}
use Rattle.boards.specs.declared.Board.{Board}
use Rattle.traces.specs.Format.{is_trace, mode_of, image_of, event_count, event_at}
use Rattle.traces.specs.Text.{line, load_line, refused_line, laid}

-- a moment of a trace's run: what is lent is the trace's image, and the RAMs as they are
abbrev pub held : List ℕ → Board → List ℕ → List ℕ → Moment
held t b prg chr = moment b (lent (image_of t) prg chr)

-- the moment after the first i events of a trace
unfoldable pub after : List ℕ → Moment → ℕ → Moment
after t m zero = m
after t m (suc i) = stepped (after t m i) (event_at t i)

-- the lines of the first i events, in order
unfoldable pub lines : List ℕ → Moment → ℕ → List ℕ
lines t m zero = []
lines t m (suc i) = lines t m i ++ line i (said (after t m i) (event_at t i))

-- a run: its text, and both RAMs after it
pub record Ran : Type 0 where
  pub text : List ℕ
  pub prg : List ℕ
  pub chr : List ℕ

-- a run that ends before its first event
unfoldable pub stopped : Refusal → List ℕ → List ℕ → Ran
stopped why prg chr = record { text = refused_line why; prg = prg; chr = chr }

-- "Otherwise `load` ..; then per event .."
unfoldable pub accepted_run : List ℕ → Moment → Ran
accepted_run t m =
    let end = (after t m (event_count t)).lent in
    record { text = load_line m.board.cart ++ lines t m (event_count t); prg = end.prg; chr = end.chr }

-- "A refused load prints `refused N`"
unfoldable pub loaded_run : LoadAnswer → List ℕ → Moment → Ran
loaded_run (Ok tt) t m = accepted_run t m
loaded_run (Err why) t m = stopped why m.lent.prg m.lent.chr

-- what a load of the image answers
unfoldable pub loaded : List ℕ → Mode → List ℕ → List ℕ → Loaded
loaded image mode prg chr = load image mode (length prg) (length chr)

-- the moment after the load
unfoldable pub started : List ℕ → List ℕ → List ℕ → Moment
started t prg chr =
    let v = verdict (image_of t) (mode_of t) (length prg) (length chr) in
    held t (board_of (loaded (image_of t) (mode_of t) prg chr)) (ram_after v prg) (ram_after v chr)

-- the run of a well-formed trace: the load, then the events
unfoldable pub trace_run : List ℕ → List ℕ → List ℕ → Ran
trace_run t prg chr = loaded_run (load_answer (loaded (image_of t) (mode_of t) prg chr)) t (started t prg chr)

-- "Anything else, missing or left over prints only `refused 15`, before any load"
unfoldable pub ran : List ℕ → List ℕ → List ℕ → Ran
ran t prg chr = cond (is_trace t) (trace_run t prg chr) (stopped (no 15) prg chr)

-- what a run owes its caller: how long the text is, the text from the start of the buffer on, and both RAMs
pub record RunOwes (w : Ran) (text : List ℕ) (r : ℕ) (prg' chr' text' : List ℕ) : Type 0 where
  pub count : r ≡ length w.text
  pub shown : text' ≡ laid text 0 w.text
  pub prg_ram : prg' ≡ w.prg
  pub chr_ram : chr' ≡ w.chr
  pub most : r ≤ 16384
