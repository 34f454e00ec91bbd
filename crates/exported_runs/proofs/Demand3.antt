-- The forty bytes hold the boards that the same histories reach in Rattle, and the numbers are those of their answers, so what demand 3 says of such boards
-- holds of the bytes and the numbers. Assumes nothing.
use Rattle.std.specs.Prelude.{Ok}
use Prim.Native.Nat.{ℕ, ◌+◌, ◌≤◌}
use mathlib.Core.Path.{◌≡◌, refl, sym, ap, subst, subst⁻¹, ◌∙◌}
use mathlib.Core.Bool.{not}
use mathlib.Core.List.{List, ◌∷◌, map}
use lib.ListN.{length, take}
use Rattle.common.specs.Common.{mode_of}
use Rattle.cartridge.specs.Header.{header_of}
use Rattle.cartridge.specs.Load.{verdict, cartridge_of, loaded_as}
use Rattle.cartridge.specs.declared.Cartridge.{Cartridge}
use Rattle.cartridge.specs.declared.MapperType.{MapperType}
use Rattle.cartridge.specs.Refusals.{Verdict}
use Rattle.mmc1.specs.declared.Register.{Register}
use Rattle.boards.specs.Start.{start_of, loaded_board, load_answer, board_of}
use Rattle.boards.specs.Runs.{Call, call, next, after}
use Rattle.boards.specs.declared.Board.{Board}
use Rattle.boards.specs.declared.Event.TheVariants.{Write, Clock}
use Rattle.boards.specs.Clock.{ClockAnswer}
use Rattle.laws.specs.Calls as boards
use Rattle.laws.specs.Calls.{LentWrite, load_with}
use Rattle.laws.specs.Demand3 as demand
use Rattle.laws.specs.Clocks.{line_up}
use Rattle.laws.specs.Loads.{moves}
use Rattle.laws.specs.SettlesMmc1 as mmc1
use Rattle.laws.specs.SettlesMmc3 as mmc3
use Rattle.laws.specs.SettlesMmc3.{Arming}
use Rattle.laws.proofs.Demand3.{mmc1_histories_settle, mmc1_histories_join, mmc3_house_histories_settle, mmc3_board_histories_settle}
use Rattle.exports.specs.Numbers.{clock_number}
use Rattle.exports.specs.Bytes.{board_in, encoded}
use Rattle.exported_runs.specs.Holds.{Holds}
use Rattle.exported_runs.specs.Runs.{state_after, numbers, played, ended}
use Rattle.exported_runs.specs.Demand3.{LentImage, History, reached, wrote, IsAccepted, Clears, BothCleared, SettlesOnMmc1, armed, Accepts, Acknowledges, SameBytes, BothArmed, BothAcknowledged, SettlesOnMmc3}
use Rattle.exported_runs.proofs.Runs.{accepted_verdict, after_load}
use Rattle.exported_runs.proofs.States.{holds_it, next_holds, run_holds, clocks_of, refused_of, accepted_of}

abbrev cart_in : ℕ → List ℕ → Cartridge
cart_in mode image = cartridge_of (header_of image) (mode_of mode) (length image)

-- a history of exported calls is one of calls in Rattle
module _ {mode : ℕ} {image : List ℕ} where
  found : (x : History mode image) → verdict image (mode_of mode) (length x.prg) (length x.chr) ≡ Ok tt
  found x = accepted_verdict image mode x.lent x.prg x.chr 0 x.loaded x.prg' x.chr' x.load_owes refl

  pub accepted : (x : History mode image) → (load_with (mode_of mode) image x.prg x.chr).answer ≡ Ok tt
  unfolding loaded_board load_answer board_of loaded_as
  accepted x = ap (λ (v : Verdict). (load_answer (loaded_board (loaded_as v (cart_in mode image))))) (found x)

  started : (x : History mode image) → (load_with (mode_of mode) image x.prg x.chr).left ≡ start_of (cart_in mode image)
  unfolding loaded_board load_answer board_of loaded_as
  started x = ap (λ (v : Verdict). (board_of (loaded_board (loaded_as v (cart_in mode image))))) (found x)

  abbrev in_rattle : History mode image → boards.History (mode_of mode) image
  in_rattle x = record { prg = x.prg; chr = x.chr; accepted = accepted x; calls = x.calls }

  -- and the lent state at its end is the board that this one reaches
  pub reached_holds : {k : MapperType} → LentImage k mode image → (x : History mode image) → Holds (reached x) (boards.reached (in_rattle x))
  reached_holds i x =
      run_holds
      (subst⁻¹ (Holds x.loaded) (started x)
      (after_load image mode x.lent x.prg x.chr 0 x.loaded x.prg' x.chr' i.are_bytes i.of_a_length x.load_owes refl))
      x.calls x.write_bytes

an_image : {k : MapperType} {mode : ℕ} {image : List ℕ} → LentImage k mode image → demand.ImageOf k (mode_of mode) image
an_image i = record { mapper = i.mapper; are_bytes = i.are_bytes }

module _ {s : List ℕ} {b : Board} (h : Holds s b) where
  pub wrote_holds : (w : LentWrite) → IsAccepted s w → Holds (wrote s w) (boards.wrote b w)
  wrote_holds w a = next_holds h w.lent (Write w.address w.byte) a.a_byte

  clears : (w : LentWrite) → Clears w s → mmc1.Clears w b
  clears w c = record { to_8000_ffff = c.to_8000_ffff; bit_7 = c.bit_7; accepted = accepted_of h w.lent w.address w.byte c.accepted.no_refusal }

-- MMC1: two lent states of one image and mode, whatever their histories, that accept a bit 7 write and then get the same calls
pub exported_mmc1_settles : {mode : ℕ} {image : List ℕ} (x y : History mode image) (w u : LentWrite) (cs ds : List Call) → BothCleared x y w u cs ds
    → SettlesOnMmc1 (wrote (reached x) w) (wrote (reached y) u) cs ds
exported_mmc1_settles x y w u cs ds h =
    record {
      the_same_loads = ap (λ (b : Board). moves b cs) (holds_it first) ∙ settled.the_same_loads
          ∙ sym (ap (λ (b : Board). moves b ds) (holds_it second));
      none_before_the_fifth =
          subst⁻¹ (λ (b : Board). (i : ℕ) (r : Register) → mmc1.LoadsAt b cs r i → 5 ≤ mmc1.serial_writes (take (i + 1) (moves b cs))) (holds_it first)
          settled.none_before_the_fifth;
      the_bytes_agree = agree;
      later_answers_agree = λ t l es. ap (λ (s : List ℕ). played s l es) (agree t);
      rams_stay_equal = λ t l es. ap (λ (s : List ℕ). ended s l es) (agree t);
      whatever_is_lent = λ t later. ap (λ (s : List ℕ). numbers s later) (agree t);
    }
  where
    start : Holds (reached x) (boards.reached (in_rattle x))
    start = reached_holds h.of_mmc1 x

    start' : Holds (reached y) (boards.reached (in_rattle y))
    start' = reached_holds h.of_mmc1 y

    first : Holds (wrote (reached x) w) (boards.wrote (boards.reached (in_rattle x)) w)
    first = wrote_holds start w h.first_accepts.accepted

    second : Holds (wrote (reached y) u) (boards.wrote (boards.reached (in_rattle y)) u)
    second = wrote_holds start' u h.second_accepts.accepted

    both : demand.BothCleared (in_rattle x) (in_rattle y) w u cs ds
    both =
        record {
          image = an_image h.of_mmc1;
          first_accepts = clears start w h.first_accepts;
          second_accepts = clears start' u h.second_accepts;
          then_the_same_calls = h.then_the_same_calls.same_calls;
        }

    settled : mmc1.Settles (boards.wrote (boards.reached (in_rattle x)) w) (boards.wrote (boards.reached (in_rattle y)) u) cs ds
    settled = mmc1_histories_settle (in_rattle x) (in_rattle y) w u cs ds both

    agree : mmc1.Settled (board_in (wrote (reached x) w)) cs → state_after (wrote (reached x) w) cs ≡ state_after (wrote (reached y) u) ds
    agree t =
        (run_holds first cs h.then_the_same_calls.first_bytes).bytes
        ∙ ap encoded (mmc1_histories_join (in_rattle x) (in_rattle y) w u cs ds both (subst (λ (b : Board). mmc1.Settled b cs) (holds_it first) t))
        ∙ sym (run_holds second ds h.then_the_same_calls.second_bytes).bytes

module _ {s : List ℕ} {b : Board} (h : Holds s b) (w : Arming) (a : Accepts s w) where
  latched : Holds (wrote s w.latch) (mmc3.latched b w)
  latched = wrote_holds h w.latch a.latch

  reloaded : Holds (wrote (wrote s w.latch) w.reload) (mmc3.reloaded b w)
  reloaded = wrote_holds latched w.reload a.reload

  armed_holds : Holds (armed s w) (mmc3.armed b w)
  armed_holds = wrote_holds reloaded w.enable a.enable

  arms : mmc3.Accepts b w
  arms =
      record {
        is_latch = a.is_latch;
        is_reload = a.is_reload;
        is_enable = a.is_enable;
        latch = accepted_of h w.latch.lent w.latch.address w.latch.byte a.latch.no_refusal;
        reload = accepted_of latched w.reload.lent w.reload.address w.reload.byte a.reload.no_refusal;
        enable = accepted_of reloaded w.enable.lent w.enable.address w.enable.byte a.enable.no_refusal;
      }

-- what holds of two boards holds of the states that hold them
settles_on : {s t : List ℕ} {b d : Board} → Holds s b → Holds t d → (cs ds : List Call) → SameBytes cs ds → mmc3.Settles b d cs ds → SettlesOnMmc3 s t cs ds
unfolding after next
settles_on first second cs ds bytes settled =
    record {
      irq_answers_agree = λ l k.
          clocks_of first (call l Clock ∷ cs) (tt, bytes.first_bytes)
          ∙ ap (λ (ns : List ClockAnswer). map clock_number ns) (settled.irq_answers_agree l k)
          ∙ sym (clocks_of second (call k Clock ∷ ds) (tt, bytes.second_bytes));
      levels_agree = λ l k.
          ap line_up (holds_it (run_holds first (call l Clock ∷ cs) (tt, bytes.first_bytes)))
          ∙ settled.levels_agree
          ∙ sym (ap line_up (holds_it (run_holds second (call k Clock ∷ ds) (tt, bytes.second_bytes))));
      both_refuse_or_neither = λ l k e a v.
          refused_of (run_holds first (call l Clock ∷ cs) (tt, bytes.first_bytes)) l a v
          ∙ ap not (settled.both_refuse_or_neither l k e a)
          ∙ sym (refused_of (run_holds second (call k Clock ∷ ds) (tt, bytes.second_bytes)) k a v);
    }

-- MMC3, house mode: two lent states of one image, whatever their histories, that accept the same latch, reload and enable, get a clock and then the same calls
pub exported_mmc3_house_settles : {image : List ℕ} (x y : History 0 image) (w u : Arming) (cs ds : List Call) → BothArmed x y w u cs ds
    → SettlesOnMmc3 (armed (reached x) w) (armed (reached y) u) cs ds
unfolding mode_of
exported_mmc3_house_settles x y w u cs ds h =
    let start = reached_holds h.of_mmc3 x in
    let start' = reached_holds h.of_mmc3 y in
    settles_on (armed_holds start w h.first_accepts) (armed_holds start' u h.second_accepts) cs ds h.then_the_same_calls
    (mmc3_house_histories_settle (in_rattle x) (in_rattle y) w u cs ds
    (record {
      image = an_image h.of_mmc3;
      first_accepts = arms start w h.first_accepts;
      second_accepts = arms start' u h.second_accepts;
      one_latch = h.one_latch;
      then_the_same_calls = h.then_the_same_calls.same_calls;
    }))

acknowledges : {s : List ℕ} {b : Board} → Holds s b → (w : LentWrite) → Acknowledges s w → mmc3.Acknowledges b w
acknowledges h w a =
    record { is_acknowledging = a.is_acknowledging; accepted = accepted_of h w.lent w.address w.byte a.accepted.no_refusal }

-- MMC3, board mode: two such states that accept an acknowledging write, then the same latch, reload and enable, get a clock and then the same calls
pub exported_mmc3_board_settles : {image : List ℕ} (x y : History 1 image) (v t : LentWrite) (w u : Arming) (cs ds : List Call) → BothAcknowledged x y v t w u cs ds
    → SettlesOnMmc3 (armed (wrote (reached x) v) w) (armed (wrote (reached y) t) u) cs ds
unfolding mode_of
exported_mmc3_board_settles x y v t w u cs ds h =
    let start = reached_holds h.of_mmc3 x in
    let start' = reached_holds h.of_mmc3 y in
    let low = wrote_holds start v h.first_acknowledges.accepted in
    let low' = wrote_holds start' t h.second_acknowledges.accepted in
    settles_on (armed_holds low w h.first_accepts) (armed_holds low' u h.second_accepts) cs ds h.then_the_same_calls
    (mmc3_board_histories_settle (in_rattle x) (in_rattle y) v t w u cs ds
    (record {
      image = an_image h.of_mmc3;
      first_acknowledges = acknowledges start v h.first_acknowledges;
      second_acknowledges = acknowledges start' t h.second_acknowledges;
      first_accepts = arms low w h.first_accepts;
      second_accepts = arms low' u h.second_accepts;
      one_latch = h.one_latch;
      then_the_same_calls = h.then_the_same_calls.same_calls;
    }))
