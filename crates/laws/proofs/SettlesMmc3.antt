-- The interrupt unit and its line move by themselves: what a call makes of them, and whether a write is refused, depends on them and not on the banks.
-- Latch, reload, enable and clock leave one unit whatever it was, so where the lines were at one level two boards have the same unit and the same level from there on.
-- Assumes nothing.
use Prim.Native.Nat.{ℕ}
use mathlib.Core.Path.{◌≡◌, refl, sym, ap, ap₂, ◌∙◌, subst}
use mathlib.Core.Bool.{Bool, true, cond, not, ◌&&◌}
use mathlib.Core.List.{List, [], ◌∷◌, map}
use native.Mathlib.Omega.{arith}
use lib.Dec.{ltb, leb}
use Rattle.rules.proofs.Bools.{either}
use Rattle.common.specs.declared.Mode.{Mode}
use Rattle.common.specs.declared.Mode.TheVariants.{House, Board as OnBoard}
use Rattle.common.specs.declared.Refusal.TheVariants.{IrqPending}
use Rattle.cartridge.specs.declared.Cartridge.{Cartridge}
use Rattle.cartridge.specs.declared.MapperType.{MapperType}
use Rattle.cartridge.specs.declared.MapperType.TheVariants.{Mmc3}
use Rattle.places.specs.Windows.{Window, prg_ram_of, in_windows, lands_in}
use Rattle.places.specs.Windows.Window.{Empty, Refused}
use Rattle.places.specs.Places.{Landing}
use Rattle.mmc3.specs.Ram.{ram_written}
use Rattle.mmc3.specs.Clock as mmc3-clock
use Rattle.mmc3.specs.Read as mmc3
use Rattle.mmc3.specs.Write.{is_even, move_of, applied}
use Rattle.mmc3.specs.declared.Irq.{Irq}
use Rattle.mmc3.specs.declared.RamMarks.{RamMarks}
use Rattle.mmc3.specs.Clock.{Clocked}
use Rattle.mmc3.specs.declared.Mmc3 as mmc3-type
use Rattle.mmc3.specs.declared.Move.{Move}
use Rattle.boards.specs.Range.{in_range}
use Rattle.boards.specs.Write.{write_window_on, write_landing, accepted_write, landing}
use Rattle.boards.specs.Clock.{yes_no, clock}
use Rattle.boards.specs.Runs.{Lent, next, answer, Call, call, after, answers}
use Rattle.boards.specs.declared.Board.{Board}
use Rattle.boards.specs.declared.Event.{Event}
use Rattle.boards.specs.declared.Event.TheVariants.{Read, Write, Clock}
use Rattle.laws.specs.Calls.{OneImage, wiped_for, wiped, SameCalls}
use Rattle.laws.specs.Clocks.{line_up}
use Rattle.laws.specs.Loads.{is_accepted, accepts}
use Rattle.laws.specs.SettlesMmc3.{irq_answers, Arming, armed, Accepts, Settles}
use Rattle.laws.proofs.Positions.{same_accepts, wiped_next, same_after}
use Rattle.laws.proofs.OneImage.{swapped, next_one, clock_one}
use Rattle.laws.proofs.Cases.{alike}
use Rattle.laws.proofs.Accepting.{board_alike, accepted_alike, after_write}
use Rattle.laws.proofs.Arming.{moved_mmc3, tick_mmc3, tick_answer, armed_one, armed_irq, armed_line}
use Rattle.laws.proofs.Clocks.{ready}

-- the unit and its line
abbrev Signal : Type 0
Signal = Irq × Bool

abbrev signal : mmc3-type.Mmc3 → Signal
signal m = (m.irq, m.line)

-- a move leaves the same of the same
one_signal : (x y : Mode) (k : Move) (m n : mmc3-type.Mmc3) → signal m ≡ signal n → signal (applied x k m) ≡ signal (applied y k n)
unfolding applied mmc3-clock.with_irq
one_signal x y k m n e = grind arith

-- what a clock whose unit did this leaves of them, and answers
abbrev left : Mode → Bool → Clocked → Signal
left mode line c = (c.left, mmc3-clock.line_after mode line c.answer)

abbrev said : Mode → Bool → Clocked → Bool
said mode line c = mmc3-clock.clock_answer mode (mmc3-clock.line_after mode line c.answer) c.answer

module _ (b : Board) (ok : in_range b ≡ true) (is_mmc3 : b.cart.mapper ≡ Mmc3) where
  tick_signal : signal (clock b).left.registers.mmc3 ≡ left b.cart.mode (line_up b) (mmc3-clock.clock_in b.cart.mode b.registers.mmc3.irq)
  unfolding mmc3-clock.clocked mmc3-clock.with_irq
  tick_signal = ap signal (tick_mmc3 b ok is_mmc3)

  tick_said : (clock b).answer ≡ yes_no (said b.cart.mode (line_up b) (mmc3-clock.clock_in b.cart.mode b.registers.mmc3.irq))
  unfolding mmc3-clock.clocked
  tick_said = tick_answer b ok is_mmc3

-- what the two boards have in common
record Alike (b d : Board) : Type 0 where
  one : OneImage Mmc3 b d
  same : signal b.registers.mmc3 ≡ signal d.registers.mmc3

-- a write is refused on both boards or on neither
module _ {b d : Board} (r : Alike b d) (a : ℕ) where
  -- where a write of this mode lands
  abbrev lands : Mode → Board → Landing
  lands mode e = lands_in e.cart (mmc3.write_window_in mode e.registers.mmc3 e.cart a) a

  lands_there : (mode : Mode) (e : Board) → e.cart.mapper ≡ Mmc3 → e.cart.mode ≡ mode → write_landing e a ≡ lands mode e
  unfolding write_landing write_window_on
  lands_there mode e h f =
      ap (λ (k : MapperType). lands_in e.cart (write_window_on k e.registers e.cart a) a) h ∙ ap (λ (m : Mode). lands m e) f

  -- no marks of RAM refuse a write
  marks_accept : (c : Cartridge) (r : RamMarks) (rom : Window) → is_accepted (lands_in c (in_windows Empty (ram_written r c) rom a) a) ≡ is_accepted (lands_in c (in_windows Empty Empty rom a) a)
  unfolding in_windows ram_written prg_ram_of lands_in is_accepted
  marks_accept c r rom =
      let Same : Window → Window → Type 0 = λ w v. is_accepted (lands_in c w a) ≡ is_accepted (lands_in c v a) in
      let Open : Window → Type 0 = λ w. Same w Empty in
      alike Same (ltb a 0x2000) refl
      (alike Same (ltb a 0x6000) refl
      (alike Same (ltb a 0x8000) (either Open (r.enabled && not r.denied) (either Open c.prgram refl refl) refl) refl))

  -- in house mode that is the unit's matter, and the cartridge's
  landing_alike : (mode : Mode) → b.cart.mode ≡ mode → is_accepted (write_landing b a) ≡ is_accepted (write_landing d a)
  unfolding mmc3.write_window_in mmc3.ppu_write_in mmc3.rom_write_in mmc3.acknowledged
  landing_alike House e =
      ap is_accepted (lands_there House b r.one.mapper e)
      ∙ marks_accept b.cart b.registers.mmc3.ram _
      ∙ ap₂ (λ (c : Cartridge) (i : Irq). is_accepted (lands_in c (in_windows Empty Empty (cond (mmc3-clock.is_pending i && leb 0xE000 a && is_even a) (Refused IrqPending) Empty) a) a)) r.one.cart (ap (λ (s : Signal). s.0) r.same)
      ∙ sym (marks_accept d.cart d.registers.mmc3.ram _)
      ∙ sym (ap is_accepted (lands_there House d (swapped r.one).mapper (ap (λ (c : Cartridge). c.mode) (sym r.one.cart) ∙ e)))
  landing_alike OnBoard e = board_alike r.one e a

  both_accept : (l : Lent) → accepts b l a ≡ accepts d l a
  both_accept l = accepted_alike r.one l a (landing_alike b.cart.mode refl)

-- one clock of one unit and one line in one mode
same_clock : {A : Type 0} (f : Mode → Bool → Clocked → A) {b d : Board} → Alike b d
    → f b.cart.mode (line_up b) (mmc3-clock.clock_in b.cart.mode b.registers.mmc3.irq) ≡ f d.cart.mode (line_up d) (mmc3-clock.clock_in d.cart.mode d.registers.mmc3.irq)
same_clock f r = λ i. f (r.one.cart i).mode (r.same i).1 (mmc3-clock.clock_in (r.one.cart i).mode (r.same i).0)

-- of a board
abbrev signal_of : Board → Signal
signal_of b = signal b.registers.mmc3

next_signal : {b d : Board} → Alike b d → (l : Lent) (e : Event) → signal_of (next b l e) ≡ signal_of (next d l e)
unfolding next
next_signal r l (Read a) = r.same
next_signal {b} {d} r l (Write a v) =
    ap signal_of (after_write b (landing b l.image l.prg l.chr a) v a)
    ∙ subst (λ (t : Bool). signal_of (cond (accepts b l a) (accepted_write b v a).left b) ≡ signal_of (cond t (accepted_write d v a).left d)) (both_accept r a l)
    (alike (λ (x y : Board). signal_of x ≡ signal_of y) (accepts b l a)
    (ap signal (moved_mmc3 b r.one.mapper v a)
    ∙ one_signal b.cart.mode d.cart.mode (move_of v a) b.registers.mmc3 d.registers.mmc3 r.same
    ∙ sym (ap signal (moved_mmc3 d (swapped r.one).mapper v a)))
    r.same)
    ∙ sym (ap signal_of (after_write d (landing d l.image l.prg l.chr a) v a))
next_signal {b} {d} r l Clock =
    tick_signal b r.one.first r.one.mapper ∙ same_clock left r ∙ sym (tick_signal d r.one.second (swapped r.one).mapper)

-- any event keeps what the boards have in common
next_alike : {b d : Board} → Alike b d → (l : Lent) (e : Event) → Alike (next b l e) (next d l e)
next_alike r l e = record { one = next_one r.one l e; same = next_signal r l e }

answer_alike : {b d : Board} → Alike b d → (clock b).answer ≡ (clock d).answer
answer_alike {b} {d} r =
    tick_said b r.one.first r.one.mapper
    ∙ same_clock (λ (m : Mode) (line : Bool) (c : Clocked). yes_no (said m line c)) r
    ∙ sym (tick_said d r.one.second (swapped r.one).mapper)

-- one answer more, which counts if it is a clock's
module _ (b d : Board) (l k : Lent) (cs ds : List Call) where
  one_more : (e : Event) → (clock b).answer ≡ (clock d).answer → irq_answers (next b l e) cs ≡ irq_answers (next d k e) ds
      → irq_answers b (call l e ∷ cs) ≡ irq_answers d (call k e ∷ ds)
  unfolding answer answers
  one_more e p q = grind arith

answers_alike : {b d : Board} → Alike b d → (cs : List Call) → irq_answers b cs ≡ irq_answers d cs
unfolding answers
answers_alike r [] = refl
answers_alike {b} {d} r (call l e ∷ cs) = one_more b d l l cs cs e (answer_alike r) (answers_alike {b = next b l e} {d = next d l e} (next_alike r l e) cs)

settled : (mode : Mode) (v c e : ℕ) → mmc3-clock.clock_in mode (ready v c) ≡ mmc3-clock.clock_in mode (ready v e)
unfolding mmc3-clock.clock_in mmc3-clock.house_clock mmc3-clock.board_clock mmc3-clock.next_counter
settled mode v c e = grind arith

wiped_irq : (b : Board) (cs : List Call) → irq_answers b (map wiped cs) ≡ irq_answers b cs
unfolding answers
wiped_irq b [] = refl
wiped_irq b (call l e ∷ cs) =
    one_more b b (wiped_for e l) l (map wiped cs) cs e refl (ap (λ (x : Board). irq_answers x (map wiped cs)) (wiped_next b l e) ∙ wiped_irq (next b l e) cs)

same_irq : (b : Board) (cs ds : List Call) → SameCalls cs ds → irq_answers b cs ≡ irq_answers b ds
same_irq b cs ds same = sym (wiped_irq b cs) ∙ ap (irq_answers b) same ∙ wiped_irq b ds

after_alike : {b d : Board} → Alike b d → (cs : List Call) → Alike (after b cs) (after d cs)
unfolding after
after_alike r [] = r
after_alike {b} {d} r (call l e ∷ cs) = after_alike {b = next b l e} {d = next d l e} (next_alike r l e) cs

-- from that clock on every IRQ answer is the same, in either mode, under the same calls, where the lines were at one level
pub mmc3_settles : (b d : Board) → OneImage Mmc3 b d → line_up b ≡ line_up d → (w u : Arming) → w.latch.byte ≡ u.latch.byte → Accepts b w → Accepts d u
    → (cs ds : List Call) → SameCalls cs ds → Settles (armed b w) (armed d u) cs ds
unfolding next
mmc3_settles b d one line w u latch p q cs ds same_calls =
    record {
      irq_answers_agree = λ l k. one_more (armed b w) (armed d u) l k cs ds Clock answered (answers_alike onward cs ∙ same_irq (clock (armed d u)).left cs ds same_calls);
      levels_agree =
          ap (λ (s : Signal). s.1) (after_alike onward cs).same ∙ ap line_up (same_after (clock (armed d u)).left cs ds same_calls);
      both_refuse_or_neither = λ l k e a.
          both_accept (after_alike onward cs) a l
          ∙ ap (λ (x : Board). accepts x l a) (same_after (clock (armed d u)).left cs ds same_calls)
          ∙ same_accepts (after (clock (armed d u)).left ds) l k e a;
    }
  where
    both : OneImage Mmc3 (armed b w) (armed d u)
    both = swapped (armed_one (swapped (armed_one one w)) u)

    clocks : mmc3-clock.clock_in (armed b w).cart.mode (armed b w).registers.mmc3.irq ≡ mmc3-clock.clock_in (armed d u).cart.mode (armed d u).registers.mmc3.irq
    clocks =
        ap (mmc3-clock.clock_in (armed b w).cart.mode) (armed_irq one w p)
        ∙ settled (armed b w).cart.mode w.latch.byte b.registers.mmc3.irq.counter d.registers.mmc3.irq.counter
        ∙ ap (λ (n : ℕ). mmc3-clock.clock_in (armed b w).cart.mode (ready n d.registers.mmc3.irq.counter)) latch
        ∙ ap (λ (c : Cartridge). mmc3-clock.clock_in c.mode (ready u.latch.byte d.registers.mmc3.irq.counter)) both.cart
        ∙ sym (ap (mmc3-clock.clock_in (armed d u).cart.mode) (armed_irq (swapped one) u q))

    lines : line_up (armed b w) ≡ line_up (armed d u)
    lines = armed_line one w p ∙ line ∙ sym (armed_line (swapped one) u q)

    by_the_clock : {A : Type 0} (f : Mode → Bool → Clocked → A)
        → f (armed b w).cart.mode (line_up (armed b w)) (mmc3-clock.clock_in (armed b w).cart.mode (armed b w).registers.mmc3.irq)
        ≡ f (armed d u).cart.mode (line_up (armed d u)) (mmc3-clock.clock_in (armed d u).cart.mode (armed d u).registers.mmc3.irq)
    by_the_clock f = λ i. f (both.cart i).mode (lines i) (clocks i)

    answered : (clock (armed b w)).answer ≡ (clock (armed d u)).answer
    answered =
        tick_said (armed b w) both.first both.mapper
        ∙ by_the_clock (λ (m : Mode) (l : Bool) (c : Clocked). yes_no (said m l c))
        ∙ sym (tick_said (armed d u) both.second (swapped both).mapper)

    onward : Alike (clock (armed b w)).left (clock (armed d u)).left
    onward =
        record {
          one = swapped (clock_one (swapped (clock_one both)));
          same = tick_signal (armed b w) both.first both.mapper ∙ by_the_clock left ∙ sym (tick_signal (armed d u) both.second (swapped both).mapper);
        }
