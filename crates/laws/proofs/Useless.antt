-- Each of the four useless boards answers or stores otherwise than the definitions in a short run on a small image, whatever state it keeps. Assumes nothing.
use Rattle.std.specs.Prelude.{Some, None, Ok}
use Prim.Native.Nat.{ℕ}
use mathlib.Core.Path.{◌≡◌, refl, sym, ap, ◌∙◌, subst}
use mathlib.Core.Bool.{true, false, false≢true}
use mathlib.Core.List.{List, [], ◌∷◌}
use native.Mathlib.Omega.{arith}
use lib.ListN.{set}
use Rattle.common.specs.declared.Mode.TheVariants.{House}
use Rattle.common.specs.declared.Mirroring.TheVariants.{Vertical}
use Rattle.memory.specs.Memory.{byte}
use Rattle.boards.specs.Runs.{Lent, lent, next, answer, left, Call, call, answers}
use Rattle.boards.specs.declared.Board.{Board}
use Rattle.boards.specs.declared.Event.{Event}
use Rattle.boards.specs.declared.Event.TheVariants.{Read, Write, Clock}
use Rattle.boards.specs.declared.Answer.{Answer}
use Rattle.boards.specs.declared.Answer.TheVariants.{Read as toRead, Write as toWrite, Clock as toClock}
use Rattle.laws.specs.Calls.{load_with}
use Rattle.laws.specs.PLines.{ram, uxrom, mmc3, load_of, with_rams, calls_of, armed}
use Rattle.laws.specs.Calls.{is_refusal}
use Rattle.laws.specs.Useless.{Program, replies, leavings, went, lefts, Meets, is_refused_load, Kind, is_to, answers_to, AllAsFirst, Reached, RefusesLoads, RefusesCalls, ReadsOnly, WritesMoveNothing, WritesStoreNothing, Repeats, the_definitions}
use Rattle.laws.specs.Useless.Kind.{reads, writes, clocks}
use Rattle.laws.proofs.Opened.{opened}

-- the images of P11 and of P9 are accepted
uxrom_loads : (load_of House uxrom).answer ≡ Ok tt
unfolding opened
uxrom_loads = refl

mmc3_loads : (load_of House mmc3).answer ≡ Ok tt
unfolding opened
mmc3_loads = refl

-- what the definitions answer: UxROM, whose first byte is 7
two_reads : answers (load_of House uxrom).left (calls_of uxrom (Read 0x8000 ∷ Read 0x8001 ∷ [])) ≡ toRead (Ok 7) ∷ toRead (Ok 0) ∷ []
unfolding opened
two_reads = refl

write_and_read : answers (load_of House uxrom).left (calls_of uxrom (Write 0x8000 1 ∷ Read 0x8000 ∷ [])) ≡ toWrite (Ok None) ∷ toRead (Ok 0) ∷ []
unfolding opened
write_and_read = refl

one_clock : answers (load_of House uxrom).left (calls_of uxrom (Clock ∷ [])) ≡ toClock (Ok false) ∷ []
unfolding opened
one_clock = refl

-- and stores: its CHR is RAM
one_store : lefts (load_of House uxrom).left (calls_of uxrom (Write 0x0000 5 ∷ [])) ≡ lent uxrom ram (set ram 0 5) ∷ []
unfolding opened lefts
one_store = refl

-- MMC3, header horizontal
two_notices : answers (load_of House mmc3).left (calls_of mmc3 (Write 0xA000 0 ∷ Write 0xA000 1 ∷ [])) ≡ toWrite (Ok (Some Vertical)) ∷ toWrite (Ok None) ∷ []
unfolding opened
two_notices = refl

two_clocks : answers_to clocks (answers (load_of House mmc3).left (calls_of mmc3 (armed 0 (Clock ∷ Clock ∷ [])))) ≡ toClock (Ok false) ∷ toClock (Ok true) ∷ []
unfolding opened
two_clocks = refl

-- the first and the second of a list
first : {A : Type 0} → A → List A → A
first d [] = d
first d (x ∷ xs) = x

second : {A : Type 0} → A → List A → A
second d [] = d
second d (x ∷ xs) = first d xs

module _ (p : Program) (m : Meets p) where
  -- the program after a load of UxROM, and what is lent to it
  abbrev start : p.State
  start = (p.load House uxrom ram ram).state

  abbrev buffers : Lent
  buffers = with_rams uxrom

  -- states that it comes into
  uxrom_accepted : (p.load House uxrom ram ram).answer ≡ Ok tt
  uxrom_accepted = m.loads House uxrom ram ram ∙ uxrom_loads

  mmc3_accepted : (p.load House mmc3 ram ram).answer ≡ Ok tt
  mmc3_accepted = m.loads House mmc3 ram ram ∙ mmc3_loads

  comes_to : (es : List Event) → Reached p (went p start (calls_of uxrom es))
  comes_to es =
      record { mode = House; image = uxrom; prg = ram; chr = ram; accepted = uxrom_accepted; calls = calls_of uxrom es; here = refl }

  -- what it answers
  on_uxrom : (es : List Event) → replies p start (calls_of uxrom es) ≡ answers (load_of House uxrom).left (calls_of uxrom es)
  on_uxrom es = m.calls House uxrom ram ram uxrom_loads (calls_of uxrom es)

  on_mmc3 : (es : List Event) → replies p (p.load House mmc3 ram ram).state (calls_of mmc3 es) ≡ answers (load_of House mmc3).left (calls_of mmc3 es)
  on_mmc3 es = m.calls House mmc3 ram ram mmc3_loads (calls_of mmc3 es)

  reads_7 : (p.serve start buffers (Read 0x8000)).answer ≡ toRead (Ok 7)
  unfolding first
  reads_7 = ap (first (toClock (Ok false))) (on_uxrom (Read 0x8000 ∷ Read 0x8001 ∷ []) ∙ two_reads)

  then_reads_0 : (p.serve (p.serve start buffers (Read 0x8000)).state buffers (Read 0x8001)).answer ≡ toRead (Ok 0)
  unfolding first second
  then_reads_0 = ap (second (toClock (Ok false))) (on_uxrom (Read 0x8000 ∷ Read 0x8001 ∷ []) ∙ two_reads)

  writes_1 : (p.serve start buffers (Write 0x8000 1)).answer ≡ toWrite (Ok None)
  unfolding first
  writes_1 = ap (first (toClock (Ok false))) (on_uxrom (Write 0x8000 1 ∷ Read 0x8000 ∷ []) ∙ write_and_read)

  clocks_once : (p.serve start buffers Clock).answer ≡ toClock (Ok false)
  unfolding first
  clocks_once = ap (first (toClock (Ok false))) (on_uxrom (Clock ∷ []) ∙ one_clock)

  -- 1: some load is accepted, and some read, some write and some clock is served
  pub some_load_is_accepted : RefusesLoads p → ⊥
  some_load_is_accepted all = false≢true (sym (ap is_refused_load uxrom_accepted) ∙ all House uxrom ram ram)

  pub some_call_is_served : (k : Kind) → RefusesCalls k p → ⊥
  some_call_is_served reads all = false≢true (sym (ap is_refusal reads_7) ∙ all start (comes_to []) buffers (Read 0x8000) (ap (is_to reads) reads_7))
  some_call_is_served writes all = false≢true (sym (ap is_refusal writes_1) ∙ all start (comes_to []) buffers (Write 0x8000 1) (ap (is_to writes) writes_1))
  some_call_is_served clocks all = false≢true (sym (ap is_refusal clocks_once) ∙ all start (comes_to []) buffers Clock (ap (is_to clocks) clocks_once))

  -- 2: two reads differ
  pub some_byte_differs : (v : ℕ) → ReadsOnly v p → ⊥
  some_byte_differs v only =
      let x = sym (only start (comes_to []) buffers 0x8000 (ap is_refusal reads_7)) ∙ reads_7 in
      let y = sym (only (p.serve start buffers (Read 0x8000)).state (comes_to (Read 0x8000 ∷ [])) buffers 0x8001 (ap is_refusal then_reads_0)) ∙ then_reads_0 in
      let z : ◌≡◌ {A = ℕ} 7 0 = cc (x, y) in
      omega arith

  -- 3: a write changes what is read after it, and another what a RAM holds
  pub some_write_moves : WritesMoveNothing p → ⊥
  unfolding first second
  some_write_moves none =
      let x = ap (first (toClock (Ok false))) (none start (comes_to []) buffers 0x8000 1 (calls_of uxrom (Read 0x8000 ∷ []))) ∙ reads_7 in
      let y = ap (second (toClock (Ok false))) (on_uxrom (Write 0x8000 1 ∷ Read 0x8000 ∷ []) ∙ write_and_read) in
      let z : ◌≡◌ {A = ℕ} 7 0 = cc (x, y) in
      omega arith

  pub some_write_stores : WritesStoreNothing p → ⊥
  unfolding first
  some_write_stores none =
      let x : (p.serve start buffers (Write 0x0000 5)).lent ≡ lent uxrom ram (set ram 0 5)
      = ap (first buffers) (m.buffers House uxrom ram ram uxrom_loads (calls_of uxrom (Write 0x0000 5 ∷ [])) ∙ one_store) in
      let z : ◌≡◌ {A = ℕ} 0 5 = ap (λ (l : Lent). byte l.chr 0) (sym (none start (comes_to []) buffers 0x0000 5) ∙ x) in
      omega arith

  -- 4: a second read, a second write and a second clock answer anew
  pub some_answer_is_new : (k : Kind) → Repeats k p → ⊥
  some_answer_is_new reads again =
      let es = Read 0x8000 ∷ Read 0x8001 ∷ [] in
      let x = (subst (λ (xs : List Answer). AllAsFirst (answers_to reads xs)) (on_uxrom es ∙ two_reads) (again House uxrom ram ram uxrom_accepted (calls_of uxrom es))).0 in
      let z : ◌≡◌ {A = ℕ} 0 7 = cc x in
      omega arith
  some_answer_is_new writes again =
      let es = Write 0xA000 0 ∷ Write 0xA000 1 ∷ [] in
      let x = (subst (λ (xs : List Answer). AllAsFirst (answers_to writes xs)) (on_mmc3 es ∙ two_notices) (again House mmc3 ram ram mmc3_accepted (calls_of mmc3 es))).0 in
      cc x
  some_answer_is_new clocks again =
      let es = armed 0 (Clock ∷ Clock ∷ []) in
      let x = (subst (λ (xs : List Answer). AllAsFirst xs) (ap (answers_to clocks) (on_mmc3 es) ∙ two_clocks) (again House mmc3 ram ram mmc3_accepted (calls_of mmc3 es))).0 in
      cc x

-- the definitions themselves meet them
so_they_answer : (b : Board) (cs : List Call) → replies the_definitions b cs ≡ answers b cs
unfolding answers
so_they_answer b [] = refl
so_they_answer b (call l e ∷ cs) = ap (λ (xs : List Answer). answer b l e ∷ xs) (so_they_answer (next b l e) cs)

so_they_leave : (b : Board) (cs : List Call) → leavings the_definitions b cs ≡ lefts b cs
unfolding lefts
so_they_leave b [] = refl
so_they_leave b (call l e ∷ cs) = ap (λ (xs : List Lent). left b l e ∷ xs) (so_they_leave (next b l e) cs)

pub the_definitions_meet : Meets the_definitions
the_definitions_meet =
    record {
      loads = λ mode s prg chr. refl;
      prg_ram = λ mode s prg chr. refl;
      chr_ram = λ mode s prg chr. refl;
      calls = λ mode s prg chr h cs. so_they_answer (load_with mode s prg chr).left cs;
      buffers = λ mode s prg chr h cs. so_they_leave (load_with mode s prg chr).left cs;
    }
