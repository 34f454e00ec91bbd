-- What it means for a program to meet demand 2's definitions, whatever state it keeps, and the four useless boards.
use Rattle.std.specs.Prelude.{ℕ, ◌≡◌, Bool, true, false, cond, List, [], ◌∷◌, Ok, Err}
use Rattle.common.specs.declared.Mode.{Mode}
use Rattle.boards.specs.Runs.{Lent, next, answer, left, Call, call, answers}
use Rattle.boards.specs.declared.Board.{Board}
use Rattle.boards.specs.declared.Event.{Event}
use Rattle.boards.specs.declared.Event.TheVariants.{Read, Write}
use Rattle.boards.specs.declared.Answer.{Answer}
use Rattle.boards.specs.declared.Answer.TheVariants.{Read as toRead, Write as toWrite, Clock as toClock}
use Rattle.boards.specs.Start.{LoadAnswer}
use Rattle.laws.specs.Calls.{load_with, ram_left, is_refusal}

-- what a program's load gives: its answer, the state that it goes on with, and both RAMs as it leaves them
pub record Begun (State : Type 0) : Type 0 where
  pub answer : LoadAnswer
  pub state : State
  pub prg : List ℕ
  pub chr : List ℕ

-- what its call gives: its answer, the next state, and the buffers as it leaves them
pub record Served (State : Type 0) : Type 0 where
  pub answer : Answer
  pub state : State
  pub lent : Lent

-- a program: states of any type of its own, a load of an image in a mode with both RAMs lent, and a call
pub record Program : Type 1 where
  pub State : Type 0
  pub load : Mode → List ℕ → List ℕ → List ℕ → Begun State
  pub serve : State → Lent → Event → Served State

-- its answers to a list of calls, from a state
abbrev pub replies : (p : Program) → p.State → List Call → List Answer
replies p x [] = []
replies p x (call l e ∷ cs) = (p.serve x l e).answer ∷ replies p (p.serve x l e).state cs

-- the buffers as it leaves them, call by call
abbrev pub leavings : (p : Program) → p.State → List Call → List Lent
leavings p x [] = []
leavings p x (call l e ∷ cs) = (p.serve x l e).lent ∷ leavings p (p.serve x l e).state cs

-- the state after a list of calls
abbrev pub went : (p : Program) → p.State → List Call → p.State
went p x [] = x
went p x (call l e ∷ cs) = went p (p.serve x l e).state cs

-- the buffers as the definitions leave them, call by call
unfoldable pub lefts : Board → List Call → List Lent
lefts b [] = []
lefts b (call l e ∷ cs) = left b l e ∷ lefts (next b l e) cs

-- it answers and stores as the definitions do: every load, and every run of calls after an accepted one
pub record Meets (p : Program) : Type 0 where
  pub loads : (mode : Mode) (s prg chr : List ℕ) → (p.load mode s prg chr).answer ≡ (load_with mode s prg chr).answer
  pub prg_ram : (mode : Mode) (s prg chr : List ℕ) → (p.load mode s prg chr).prg ≡ ram_left mode s prg chr prg
  pub chr_ram : (mode : Mode) (s prg chr : List ℕ) → (p.load mode s prg chr).chr ≡ ram_left mode s prg chr chr
  pub calls : (mode : Mode) (s prg chr : List ℕ) → (load_with mode s prg chr).answer ≡ Ok tt → (cs : List Call)
      → replies p (p.load mode s prg chr).state cs ≡ answers (load_with mode s prg chr).left cs
  pub buffers : (mode : Mode) (s prg chr : List ℕ) → (load_with mode s prg chr).answer ≡ Ok tt → (cs : List Call)
      → leavings p (p.load mode s prg chr).state cs ≡ lefts (load_with mode s prg chr).left cs

-- whether a load's answer is a refusal
abbrev pub is_refused_load : LoadAnswer → Bool
is_refused_load (Ok tt) = false
is_refused_load (Err why) = true

-- the three kinds of call
pub data Kind : Type 0 where
  reads : Kind
  writes : Kind
  clocks : Kind

-- whether an answer is to a call of a kind
abbrev pub is_to : Kind → Answer → Bool
is_to reads (toRead r) = true
is_to reads (toWrite r) = false
is_to reads (toClock r) = false
is_to writes (toRead r) = false
is_to writes (toWrite r) = true
is_to writes (toClock r) = false
is_to clocks (toRead r) = false
is_to clocks (toWrite r) = false
is_to clocks (toClock r) = true

-- the answers to the calls of a kind
abbrev pub answers_to : Kind → List Answer → List Answer
answers_to k [] = []
answers_to k (x ∷ xs) = let rest = answers_to k xs in cond (is_to k x) (x ∷ rest) rest

-- every one is this answer
abbrev pub AllAs : Answer → List Answer → Type 0
AllAs x [] = Unit {0}
AllAs x (y ∷ ys) = (y ≡ x) × AllAs x ys

-- every one is the first
abbrev pub AllAsFirst : List Answer → Type 0
AllAsFirst [] = Unit {0}
AllAsFirst (x ∷ xs) = AllAs x xs

-- a state that a program comes into: after an accepted load, and calls of any kind
pub record Reached (p : Program) (x : p.State) : Type 0 where
  pub mode : Mode
  pub image : List ℕ
  pub prg : List ℕ
  pub chr : List ℕ
  pub accepted : (p.load mode image prg chr).answer ≡ Ok tt
  pub calls : List Call
  pub here : x ≡ went p (p.load mode image prg chr).state calls

-- "one refusing all calls", so every load
abbrev pub RefusesLoads : Program → Type 0
RefusesLoads p = (mode : Mode) (s prg chr : List ℕ) → is_refused_load (p.load mode s prg chr).answer ≡ true

-- "one refusing all calls", so every read, every write or every clock of a board that was loaded
abbrev pub RefusesCalls : Kind → Program → Type 0
RefusesCalls k p = (x : p.State) → Reached p x → (l : Lent) (e : Event) → is_to k (p.serve x l e).answer ≡ true → is_refusal (p.serve x l e).answer ≡ true

-- "one reading a constant byte": whatever read it serves, it answers that byte
abbrev pub ReadsOnly : ℕ → Program → Type 0
ReadsOnly v p = (x : p.State) → Reached p x → (l : Lent) (a : ℕ) → is_refusal (p.serve x l (Read a)).answer ≡ false → (p.serve x l (Read a)).answer ≡ toRead (Ok v)

-- "one whose writes do nothing": later calls are answered as if the write had not been
abbrev pub WritesMoveNothing : Program → Type 0
WritesMoveNothing p = (x : p.State) → Reached p x → (l : Lent) (a v : ℕ) (cs : List Call) → replies p (p.serve x l (Write a v)).state cs ≡ replies p x cs

-- "one whose writes do nothing": every buffer is left as it was lent
abbrev pub WritesStoreNothing : Program → Type 0
WritesStoreNothing p = (x : p.State) → Reached p x → (l : Lent) (a v : ℕ) → (p.serve x l (Write a v)).lent ≡ l

-- "one that serves the first call and then repeats itself": whatever is asked after a load, it answers all calls of a kind as the first of them
abbrev pub Repeats : Kind → Program → Type 0
Repeats k p = (mode : Mode) (s prg chr : List ℕ) → (p.load mode s prg chr).answer ≡ Ok tt → (cs : List Call)
    → AllAsFirst (answers_to k (replies p (p.load mode s prg chr).state cs))

-- the definitions as a program, with the board as its state
abbrev pub the_definitions : Program
the_definitions =
    record {
      State = Board;
      load = λ mode s prg chr.
          record {
            answer = (load_with mode s prg chr).answer;
            state = (load_with mode s prg chr).left;
            prg = ram_left mode s prg chr prg;
            chr = ram_left mode s prg chr chr;
          };
      serve = λ b l e. record { answer = answer b l e; state = next b l e; lent = left b l e };
    }
