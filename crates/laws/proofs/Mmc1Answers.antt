-- What an MMC1 board in range answers, stores and becomes is made of what was loaded, its mirroring and its MMC1 registers: two that agree in these answer alike
-- for ever. Assumes nothing.
use Rattle.std.specs.Prelude.{Ok, Err, false}
use Prim.Native.Nat.{ℕ}
use mathlib.Core.Path.{◌≡◌, refl, sym, ap, ap₂, ◌∙◌}
use mathlib.Core.Bool.{true}
use mathlib.Core.List.{List, [], ◌∷◌}
use lib.ListN.{length}
use Rattle.common.specs.declared.Mirroring.{Mirroring}
use Rattle.cartridge.specs.Mappers.{is_mapper}
use Rattle.cartridge.specs.Load.{rams_fit}
use Rattle.cartridge.specs.declared.Cartridge.{Cartridge}
use Rattle.cartridge.specs.declared.MapperType.{MapperType}
use Rattle.cartridge.specs.declared.MapperType.TheVariants.{Mmc1}
use Rattle.places.specs.Places.{byte_at, answer_at, stored_prg, stored_chr}
use Rattle.places.specs.Windows.{lands_in}
use Rattle.places.specs.Places.{Landing}
use Rattle.mmc1.specs.Read as mmc1
use Rattle.mmc1.specs.Write.{applied, mirrors_of, written}
use Rattle.mmc1.specs.declared.Mmc1 as mmc1-type
use Rattle.boards.specs.Registers.{moved, ticked}
use Rattle.boards.specs.Range.{in_range, guarded}
use Rattle.boards.specs.Read as read-call
use Rattle.boards.specs.Write.{write_window_on, write_landing, against_in, against, next_mirroring, notice, turned, accepted_write, written_as, landing}
use Rattle.boards.specs.Clock.{yes_no, accepted_clock, clock}
use Rattle.boards.specs.Runs.{Lent, lent, next, answer, left, Call, call, answers, moment, stepped, played, ended}
use Rattle.boards.specs.declared.Board.{Board}
use Rattle.boards.specs.declared.Event.{Event}
use Rattle.boards.specs.declared.Event.TheVariants.{Read, Write, Clock}
use Rattle.boards.specs.declared.Answer.TheVariants.{Read as toRead, Write as toWrite, Clock as toClock}
use Rattle.boards.specs.Write.{WriteAnswer}
use Rattle.laws.specs.Calls.{OneImage}
use Rattle.laws.specs.Loads.{made}
use Rattle.laws.specs.SettlesMmc1.{Agree}
use Rattle.laws.proofs.Accepting.{loaded_alike}
use Rattle.laws.proofs.OneImage.{swapped}
use Rattle.laws.proofs.Mmc1Moves.{Common, by_move, next_common}

-- where reads and writes land
module _ (b : Board) (is-mmc1 : b.cart.mapper ≡ Mmc1) where
  read_lands : (a : ℕ) → read-call.read_landing b a ≡ lands_in b.cart (mmc1.read_window b.registers.mmc1 b.cart a) a
  unfolding read-call.read_landing read-call.read_window_on
  read_lands a = ap (λ (k : MapperType). lands_in b.cart (read-call.read_window_on k b.registers b.cart a) a) is-mmc1

  write_lands : (a : ℕ) → write_landing b a ≡ lands_in b.cart (mmc1.write_window b.registers.mmc1 b.cart a) a
  unfolding write_landing write_window_on
  write_lands a = ap (λ (k : MapperType). lands_in b.cart (write_window_on k b.registers b.cart a) a) is-mmc1

moved_answer : (b : Board) → b.cart.mapper ≡ Mmc1 → (v a : ℕ)
    → (accepted_write b v a).answer ≡ notice (against b) (written b.cart.mode b.registers.mmc1 v a).answer
unfolding accepted_write turned moved
moved_answer b e v a = ap (λ (k : MapperType). notice (against b) (moved k b.cart.mode b.registers v a).answer) e

-- a refusal, or the answer of the move
said : Landing → WriteAnswer → WriteAnswer
said (Err why) w = Err why
said (Ok p) w = w

said_is : (b : Board) (p : Landing) (v a : ℕ) → (written_as b p v a).answer ≡ said p (accepted_write b v a).answer
unfolding written_as said
said_is b (Err why) v a = refl
said_is b (Ok p) v a = refl

clock_answer : (b : Board) → in_range b ≡ true → b.cart.mapper ≡ Mmc1 → (clock b).answer ≡ Ok false
unfolding clock accepted_clock yes_no ticked is_mapper
clock_answer b ok e = rw ok (ap (λ (k : MapperType). yes_no (ticked k b.cart.mode b.registers).answer) e)

-- two boards that agree
pub record Alike (b d : Board) : Type 0 where
  pub agree : Agree b d
  pub one : OneImage Mmc1 b d

module _ {b d : Board} (r : Alike b d) where
  cart : b.cart ≡ d.cart
  cart = r.agree.cart

  second_mmc1 : d.cart.mapper ≡ Mmc1
  second_mmc1 = (swapped r.one).mapper

  common : Common b d
  common = record { one = r.one; serial = ap (λ (m : mmc1-type.Mmc1). m.serial) r.agree.mmc1 }

  landing_alike : (l : Lent) (a : ℕ) → landing b l.image l.prg l.chr a ≡ landing d l.image l.prg l.chr a
  unfolding landing
  landing_alike l a =
      ap₂ (guarded (rams_fit (length l.prg) (length l.chr))) (loaded_alike r.one (length l.image))
      (write_lands b r.one.mapper a
      ∙ ap₂ (λ (m : mmc1-type.Mmc1) (c : Cartridge). lands_in c (mmc1.write_window m c a) a) r.agree.mmc1 cart
      ∙ sym (write_lands d second_mmc1 a))

  answer_alike : (l : Lent) (e : Event) → answer b l e ≡ answer d l e
  unfolding answer read-call.read
  answer_alike l (Read a) =
      let place =
      read_lands b r.one.mapper a
      ∙ ap₂ (λ (m : mmc1-type.Mmc1) (c : Cartridge). lands_in c (mmc1.read_window m c a) a) r.agree.mmc1 cart
      ∙ sym (read_lands d second_mmc1 a)
      in
      let fits = loaded_alike r.one (length l.image) in
      λ i. toRead
      (answer_at (guarded (rams_fit (length l.prg) (length l.chr)) (fits i) (place i)) (byte_at (cart i) (place i) l.image l.prg l.chr))
  answer_alike l (Write a v) =
      ap toWrite
      (said_is b (landing b l.image l.prg l.chr a) v a
      ∙ ap₂ said (landing_alike l a)
      (moved_answer b r.one.mapper v a
      ∙ (λ i. notice (against_in (cart i).mode (cart i).mirroring (r.agree.mirroring i)) (written (cart i).mode (r.agree.mmc1 i) v a).answer)
      ∙ sym (moved_answer d second_mmc1 v a))
      ∙ sym (said_is d (landing d l.image l.prg l.chr a) v a))
  answer_alike l Clock = ap toClock (clock_answer b r.one.first r.one.mapper ∙ sym (clock_answer d r.one.second second_mmc1))

  -- lent one lot of RAM, they leave one lot
  left_alike : (l : Lent) (e : Event) → left b l e ≡ left d l e
  unfolding left
  left_alike l (Read a) = refl
  left_alike l (Write a v) = ap (λ (p : Landing). lent l.image (stored_prg p v l.prg) (stored_chr p v l.chr)) (landing_alike l a)
  left_alike l Clock = refl

  next_alike : (l : Lent) (e : Event) → Alike (next b l e) (next d l e)
  next_alike l e =
      let n = next_common common l e in
      record {
        agree = record {
          cart = n.one.cart;
          mirroring = by_move common (λ (x : Board). x.mirroring) l e (ap (λ (s : Mirroring). next_mirroring b.cart.mode s (mirrors_of (made b l e))) r.agree.mirroring);
          mmc1 = by_move common (λ (x : Board). x.registers.mmc1) l e (ap (applied b.cart.mode (made b l e)) r.agree.mmc1);
        };
        one = n.one;
      }

pub answers_alike : {b d : Board} → Alike b d → (cs : List Call) → answers b cs ≡ answers d cs
unfolding answers
answers_alike r [] = refl
answers_alike {b} {d} r (call l e ∷ cs) = ap₂ ◌∷◌ (answer_alike r l e) (answers_alike {b = next b l e} {d = next d l e} (next_alike r l e) cs)

pub played_alike : {b d : Board} → Alike b d → (l : Lent) (es : List Event) → played (moment b l) es ≡ played (moment d l) es
unfolding played stepped
played_alike r l [] = refl
played_alike {b} {d} r l (e ∷ es) =
    ap₂ ◌∷◌ (answer_alike r l e)
    (played_alike {b = next b l e} {d = next d l e} (next_alike r l e) (left b l e) es ∙ ap (λ (k : Lent). played (moment (next d l e) k) es) (left_alike r l e))

pub ended_alike : {b d : Board} → Alike b d → (l : Lent) (es : List Event) → (ended (moment b l) es).lent ≡ (ended (moment d l) es).lent
unfolding ended stepped
ended_alike r l [] = refl
ended_alike {b} {d} r l (e ∷ es) =
    ended_alike {b = next b l e} {d = next d l e} (next_alike r l e) (left b l e) es ∙ ap (λ (k : Lent). (ended (moment (next d l e) k) es).lent) (left_alike r l e)
