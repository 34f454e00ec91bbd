-- No text is longer than 16,384 bytes: the `load` line has at most 25 bytes, each other line at most 15. Assumes nothing.
use Rattle.std.specs.Prelude.{Some, None, Ok, Err}
use Rattle.std.proofs.Common.{◌≡◌, ℕ, zero, suc, ◌*◌, ◌≤◌, true, false, cond, ◌&&◌, eqb, leb, List, length, refl, arith, length-append, length-drop}
use borrow.Author.Tests.{leb-true}
use Rattle.std.proofs.lemmas.Bool.{and_parts}
use Rattle.common.specs.Answers.{no}
use Rattle.common.specs.declared.Refusal.{Refusal}
use Rattle.memory.specs.Memory.{byte}
use Rattle.cartridge.specs.declared.Cartridge.{Cartridge}
use Rattle.places.specs.Places.{ReadAnswer}
use Rattle.boards.specs.Write.{WriteAnswer}
use Rattle.boards.specs.Clock.{ClockAnswer}
use Rattle.boards.specs.Start.{LoadAnswer}
use Rattle.boards.specs.declared.Answer.{Answer}
use Rattle.boards.specs.declared.Answer.TheVariants.{Read, Write, Clock}
use Rattle.boards.specs.Runs.{Moment, said}
use Rattle.traces.specs.Format.{is_trace, head_fits, events_fit, event_at, event_count, event_start, image_length}
use Rattle.traces.specs.Text.{five_digits, decimal, hex, refusal, read_text, notice_text, write_text, clock_text, answer_text, between, line, refused_line, counts, load_line}
use Rattle.traces.specs.Run.{after, lines, stopped, accepted_run, loaded_run, trace_run, ran}

of_decimal : (n : ℕ) → length (decimal n) ≤ 5
unfolding decimal five_digits
of_decimal n = omega (arith, length-drop {A = ℕ})

of_refusal : (why : Refusal) → length (refusal why) ≤ 6
unfolding refusal
of_refusal why = omega (arith, of_decimal)

of_read : (a : ReadAnswer) → length (read_text a) ≤ 6
unfolding read_text hex
of_read (Ok b) = omega arith
of_read (Err why) = of_refusal why

of_write : (a : WriteAnswer) → length (write_text a) ≤ 6
unfolding write_text notice_text
of_write (Ok (Some m)) = omega arith
of_write (Ok None) = omega arith
of_write (Err why) = of_refusal why

of_clock : (a : ClockAnswer) → length (clock_text a) ≤ 6
unfolding clock_text
of_clock (Ok true) = omega arith
of_clock (Ok false) = omega arith
of_clock (Err why) = of_refusal why

of_answer : (a : Answer) → length (answer_text a) ≤ 6
unfolding answer_text
of_answer (Read a) = of_read a
of_answer (Write a) = of_write a
of_answer (Clock a) = of_clock a

of_line : (i : ℕ) (a : Answer) → length (line i a) ≤ 15
unfolding line between
of_line i a = omega (arith, length-append {A = ℕ}, of_decimal i, of_answer a)

of_lines : (t : List ℕ) (m : Moment) (k : ℕ) → length (lines t m k) ≤ 15 * k
unfolding lines
of_lines t m zero = omega arith
of_lines t m (suc k) =
    let a = said (after t m k) (event_at t k) in
    omega (arith, length-append (lines t m k) (line k a), of_lines t m k, of_line k a)

of_load_line : (c : Cartridge) → length (load_line c) ≤ 25
unfolding load_line between counts
of_load_line c = omega (arith, length-append {A = ℕ}, of_decimal)

of_refused_line : (why : Refusal) → length (refused_line why) ≤ 14
unfolding refused_line
of_refused_line why = omega (arith, length-append {A = ℕ}, of_decimal)

of_stopped : (why : Refusal) (prg chr : List ℕ) → length (stopped why prg chr).text ≤ 14
unfolding stopped
of_stopped why prg chr = of_refused_line why

-- a well-formed trace has no more events than the text has room for
pub few : (t : List ℕ) → is_trace t ≡ true → event_count t ≤ 1024
unfolding is_trace head_fits
few t e =
    let ends = (and_parts (head_fits t && eqb (length t) (event_start t (event_count t))) (events_fit t (event_count t)) e).0 in
    let head = (and_parts (head_fits t) (eqb (length t) (event_start t (event_count t))) ends).0 in
    leb-true (event_count t) 1024
    (and_parts (eqb (byte t 0) 1 && leb (image_length t) 40976 && leb (byte t 5) 1) (leb (event_count t) 1024) head).1

of_loaded : (t : List ℕ) → event_count t ≤ 1024 → (a : LoadAnswer) (m : Moment) → length (loaded_run a t m).text ≤ 16384
unfolding loaded_run accepted_run
of_loaded t h (Ok tt) m =
    omega (arith, length-append (load_line m.board.cart) (lines t m (event_count t)), of_load_line m.board.cart, of_lines t m (event_count t))
of_loaded t h (Err why) m = omega (arith, of_stopped why m.lent.prg m.lent.chr)

pub most : (t prg chr : List ℕ) → length (ran t prg chr).text ≤ 16384
unfolding ran trace_run
most t prg chr =
    elim (is_trace t) as (λ b. is_trace t ≡ b → length (cond b (trace_run t prg chr) (stopped (no 15) prg chr)).text ≤ 16384)
    [ true ↦ λ e. of_loaded t (few t e) _ _ | false ↦ λ _. omega (arith, of_stopped (no 15) prg chr) ] refl
