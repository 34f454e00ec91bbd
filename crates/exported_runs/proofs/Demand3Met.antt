-- What meets demand 3's hypotheses in Rattle, and is made of bytes, meets those of the exported calls, so the two histories of each example in `laws` are
-- examples here. Assumes nothing.
use Rattle.std.specs.Prelude.{Ok}
use Prim.Native.Nat.{ℕ, ◌<◌}
use mathlib.Core.Path.{◌≡◌, refl, sym, ap, subst⁻¹, ◌∙◌}
use mathlib.Core.Bool.{Bool, true, not, ◌&&◌}
use mathlib.Core.List.{List, [], ◌∷◌}
use native.Mathlib.Omega.{arith}
use borrow.Author.Tests.{ltb-true}
use lib.Dec.{ltb}
use lib.ListN.{length, replicate}
use Rattle.std.proofs.lemmas.Bool.{and_parts}
use Rattle.common.specs.Common.{mode_of}
use Rattle.cartridge.specs.Load.{ram_after}
use Rattle.cartridge.specs.declared.MapperType.{MapperType}
use Rattle.cartridge.specs.declared.MapperType.TheVariants.{Mmc1, Mmc3}
use Rattle.boards.specs.Runs.{Call, call}
use Rattle.boards.specs.declared.Board.{Board}
use Rattle.boards.specs.declared.Event.{Event}
use Rattle.boards.specs.declared.Event.TheVariants.{Read, Write, Clock}
use Rattle.laws.specs.Calls as boards
use Rattle.laws.specs.Calls.{LentWrite, load_with, SameCalls}
use Rattle.laws.specs.Demand3.{ImageOf}
use Rattle.laws.specs.Loads.{accepts}
use Rattle.laws.specs.SettlesMmc1 as mmc1
use Rattle.laws.specs.SettlesMmc3 as mmc3
use Rattle.laws.specs.SettlesMmc3.{Arming}
use Rattle.laws.specs.PLines as images
use Rattle.laws.proofs.SettlesMmc1Met as on_mmc1
use Rattle.laws.proofs.SettlesMmc3Met as on_mmc3
use Rattle.states.specs.Words.{words_of}
use Rattle.exports.specs.Numbers.{load_number}
use Rattle.exports.specs.Bytes.{state_left}
use Rattle.exports.specs.Calls.{decision, loading}
use Rattle.exports.proofs.AsBoards.{loads_as}
use Rattle.boards.specs.Start.{load, load_answer, board_of}
use Rattle.exported_runs.specs.Holds.{Holds}
use Rattle.exported_runs.specs.Runs.{state_after, IsByte, WriteBytes}
use Rattle.exported_runs.specs.Demand3.{LentImage, History, reached, wrote, IsAccepted, Clears, SameBytes, BothCleared, armed, Accepts, Acknowledges, BothArmed, BothAcknowledged, SettlesOnMmc3}
use Rattle.exported_runs.proofs.States.{holds_it, refused_of}
use Rattle.exported_runs.proofs.Demand3.{reached_holds, wrote_holds, exported_mmc1_settles, exported_mmc3_house_settles, exported_mmc3_board_settles}

-- an accepted load in Rattle is one of the exported load, into forty bytes
abbrev room : List ℕ
room = replicate 40 0

module _ (mode : ℕ) (is-mode : mode < 2) (image : List ℕ) where
  pub answers_0 : (prg chr : List ℕ) → (load_with (mode_of mode) image prg chr).answer ≡ Ok tt → load_number (load_answer (loading image mode 40 (length prg) (length chr))) ≡ 0
  unfolding load_number
  answers_0 prg chr e =
      (loads_as image mode room prg chr (load image (mode_of mode) (length prg) (length chr)) _ _ (load_number (load_answer (loading image mode 40 (length prg) (length chr)))) _ _ _ is-mode refl
      (record { reply = refl; prg_ram = refl; chr_ram = refl }) (record { reply = refl; state = refl; prg_ram = refl; chr_ram = refl })).reply
      ∙ ap load_number e

  -- and so is a history
  abbrev pub exported : (x : boards.History (mode_of mode) image) → WriteBytes x.calls → History mode image
  exported x v =
      record {
        lent = room;
        prg = x.prg;
        chr = x.chr;
        loaded = state_left room 0 (words_of (board_of (loading image mode 40 (length x.prg) (length x.chr))));
        prg' = ram_after (decision image mode 40 (length x.prg) (length x.chr)) x.prg;
        chr' = ram_after (decision image mode 40 (length x.prg) (length x.chr)) x.chr;
        load_owes = record { reply = sym (answers_0 x.prg x.chr x.accepted); state = refl; prg_ram = refl; chr_ram = refl };
        calls = x.calls;
        write_bytes = v;
      }

-- an accepted write answers no refusal
taken : {s : List ℕ} {b : Board} → Holds s b → (w : LentWrite) → w.byte < 0x100 → accepts b w.lent w.address ≡ true → IsAccepted s w
taken h w v e = record { a_byte = v; no_refusal = refused_of h w.lent w.address w.byte ∙ ap not e }

clears : {s : List ℕ} {b : Board} → Holds s b → (w : LentWrite) → w.byte < 0x100 → mmc1.Clears w b → Clears w s
clears h w v c = record { to_8000_ffff = c.to_8000_ffff; bit_7 = c.bit_7; accepted = taken h w v c.accepted }

-- the three writes are of bytes
abbrev ArmingBytes : Arming → Type 0
ArmingBytes w = (w.latch.byte < 0x100) × (w.reload.byte < 0x100) × (w.enable.byte < 0x100)

arms : {s : List ℕ} {b : Board} → Holds s b → (w : Arming) → ArmingBytes w → mmc3.Accepts b w → Accepts s w
arms {s} {b} h w v a =
    record {
      is_latch = a.is_latch;
      is_reload = a.is_reload;
      is_enable = a.is_enable;
      latch = latch;
      reload = reload;
      enable = taken (wrote_holds latched w.reload reload) w.enable v.2 a.enable;
    }
  where
    latch : IsAccepted s w.latch
    latch = taken h w.latch v.0 a.latch

    latched : Holds (wrote s w.latch) (mmc3.latched b w)
    latched = wrote_holds h w.latch latch

    reload : IsAccepted (wrote s w.latch) w.reload
    reload = taken latched w.reload v.1 a.reload

written : Event → Bool
written (Read a) = true
written (Write a v) = ltb v 0x100
written Clock = true

a_byte : (e : Event) → written e ≡ true → IsByte e
unfolding written
a_byte (Read a) h = tt
a_byte (Write a v) h = ltb-true v 0x100 h
a_byte Clock h = tt

pub all_written : List Call → Bool
all_written [] = true
all_written (call l e ∷ cs) = written e && all_written cs

pub write_bytes : (cs : List Call) → all_written cs ≡ true → WriteBytes cs
unfolding all_written
write_bytes [] h = tt
write_bytes (call l e ∷ cs) h = (a_byte e (and_parts (written e) (all_written cs) h).0, write_bytes cs (and_parts (written e) (all_written cs) h).1)

-- an image, and calls for two boards, by tests that compute
lent_image : (k : MapperType) (mode : ℕ) (s : List ℕ) → ImageOf k (mode_of mode) s → ltb (length s) 0x10000000000000000 ≡ true → LentImage k mode s
lent_image k mode s i n = record { mapper = i.mapper; are_bytes = i.are_bytes; of_a_length = ltb-true (length s) 0x10000000000000000 n }

same_bytes : (cs ds : List Call) → SameCalls cs ds → all_written cs ≡ true → all_written ds ≡ true → SameBytes cs ds
same_bytes cs ds e f g = record { same_calls = e; first_bytes = write_bytes cs f; second_bytes = write_bytes ds g }

-- MMC1: the histories of `SettlesMmc1Met`, as exported calls
mmc1_image : (mode : ℕ) → LentImage Mmc1 mode images.mmc1
mmc1_image mode = lent_image Mmc1 mode images.mmc1 (on_mmc1.met_image (mode_of mode)) refl

module _ (mode : ℕ) (is-mode : mode < 2) where
  pub used_bytes : WriteBytes (on_mmc1.used (mode_of mode)).calls
  unfolding all_written written
  used_bytes = write_bytes (on_mmc1.used (mode_of mode)).calls refl

  abbrev pub fresh_mmc1 : History mode images.mmc1
  fresh_mmc1 = exported mode is-mode images.mmc1 (on_mmc1.fresh (mode_of mode)) tt

  abbrev pub used_mmc1 : History mode images.mmc1
  used_mmc1 = exported mode is-mode images.mmc1 (on_mmc1.used (mode_of mode)) used_bytes

  pub mmc1_both : BothCleared fresh_mmc1 used_mmc1 (on_mmc1.bit7 on_mmc1.lent) (on_mmc1.bit7 on_mmc1.others) (on_mmc1.calls on_mmc1.lent) (on_mmc1.calls on_mmc1.others)
  unfolding all_written written
  mmc1_both =
      record {
        of_mmc1 = mmc1_image mode;
        first_accepts = clears (reached_holds (mmc1_image mode) fresh_mmc1) (on_mmc1.bit7 on_mmc1.lent) (omega arith) (on_mmc1.met_fresh (mode_of mode));
        second_accepts = clears (reached_holds (mmc1_image mode) used_mmc1) (on_mmc1.bit7 on_mmc1.others) (omega arith) (on_mmc1.met_used (mode_of mode));
        then_the_same_calls = same_bytes (on_mmc1.calls on_mmc1.lent) (on_mmc1.calls on_mmc1.others) refl refl refl;
      }

  -- so their forty bytes are the same after the four loads
  pub met_mmc1 : state_after (wrote (reached fresh_mmc1) (on_mmc1.bit7 on_mmc1.lent)) (on_mmc1.calls on_mmc1.lent)
      ≡ state_after (wrote (reached used_mmc1) (on_mmc1.bit7 on_mmc1.others)) (on_mmc1.calls on_mmc1.others)
  met_mmc1 =
      (exported_mmc1_settles fresh_mmc1 used_mmc1 (on_mmc1.bit7 on_mmc1.lent) (on_mmc1.bit7 on_mmc1.others) (on_mmc1.calls on_mmc1.lent) (on_mmc1.calls on_mmc1.others) mmc1_both).the_bytes_agree
      (subst⁻¹ (λ (b : Board). mmc1.Settled b (on_mmc1.calls on_mmc1.lent))
      (holds_it (wrote_holds (reached_holds (mmc1_image mode) fresh_mmc1) (on_mmc1.bit7 on_mmc1.lent) mmc1_both.first_accepts.accepted))
      (on_mmc1.met_settled (mode_of mode)))

-- MMC3: the histories of `SettlesMmc3Met`, as exported calls
mmc3_image : (mode : ℕ) → LentImage Mmc3 mode images.mmc3
mmc3_image mode = lent_image Mmc3 mode images.mmc3 (on_mmc3.met_image (mode_of mode)) refl

module _ (mode : ℕ) (is-mode : mode < 2) where
  pub game_bytes : WriteBytes (on_mmc3.used (mode_of mode)).calls
  unfolding all_written written
  game_bytes = write_bytes (on_mmc3.used (mode_of mode)).calls refl

  pub risen_bytes : WriteBytes (on_mmc3.risen (mode_of mode)).calls
  unfolding all_written written
  risen_bytes = write_bytes (on_mmc3.risen (mode_of mode)).calls refl

  abbrev pub fresh_mmc3 : History mode images.mmc3
  fresh_mmc3 = exported mode is-mode images.mmc3 (on_mmc3.fresh (mode_of mode)) tt

  abbrev pub used_mmc3 : History mode images.mmc3
  used_mmc3 = exported mode is-mode images.mmc3 (on_mmc3.used (mode_of mode)) game_bytes

  abbrev pub risen_mmc3 : History mode images.mmc3
  risen_mmc3 = exported mode is-mode images.mmc3 (on_mmc3.risen (mode_of mode)) risen_bytes

pub house : 0 < 2
house = omega arith

pub board : 1 < 2
board = omega arith

mmc3_calls : SameBytes (on_mmc3.calls on_mmc3.lent) (on_mmc3.calls on_mmc3.others)
unfolding all_written written
mmc3_calls = same_bytes (on_mmc3.calls on_mmc3.lent) (on_mmc3.calls on_mmc3.others) refl refl refl

pub mmc3_both : BothArmed (fresh_mmc3 0 house) (used_mmc3 0 house) (on_mmc3.arming on_mmc3.lent) (on_mmc3.arming on_mmc3.others) (on_mmc3.calls on_mmc3.lent) (on_mmc3.calls on_mmc3.others)
unfolding mode_of
mmc3_both =
    record {
      of_mmc3 = mmc3_image 0;
      first_accepts = arms (reached_holds (mmc3_image 0) (fresh_mmc3 0 house)) (on_mmc3.arming on_mmc3.lent) (omega arith, omega arith, omega arith) on_mmc3.met_fresh;
      second_accepts = arms (reached_holds (mmc3_image 0) (used_mmc3 0 house)) (on_mmc3.arming on_mmc3.others) (omega arith, omega arith, omega arith) on_mmc3.met_used;
      one_latch = refl;
      then_the_same_calls = mmc3_calls;
    }

acknowledges : {s : List ℕ} {b : Board} → Holds s b → (w : LentWrite) → w.byte < 0x100 → mmc3.Acknowledges b w → Acknowledges s w
acknowledges h w v a = record { is_acknowledging = a.is_acknowledging; accepted = taken h w v a.accepted }

pub mmc3_both_on_board : BothAcknowledged (fresh_mmc3 1 board) (risen_mmc3 1 board) (on_mmc3.acknowledging on_mmc3.lent) (on_mmc3.acknowledging on_mmc3.others)
    (on_mmc3.arming on_mmc3.lent) (on_mmc3.arming on_mmc3.others) (on_mmc3.calls on_mmc3.lent) (on_mmc3.calls on_mmc3.others)
unfolding mode_of
mmc3_both_on_board =
    let start = reached_holds (mmc3_image 1) (fresh_mmc3 1 board) in
    let start' = reached_holds (mmc3_image 1) (risen_mmc3 1 board) in
    let first = acknowledges start (on_mmc3.acknowledging on_mmc3.lent) (omega arith) on_mmc3.met_fresh_acknowledges in
    let second = acknowledges start' (on_mmc3.acknowledging on_mmc3.others) (omega arith) on_mmc3.met_risen_acknowledges in
    record {
      of_mmc3 = mmc3_image 1;
      first_acknowledges = first;
      second_acknowledges = second;
      first_accepts = arms (wrote_holds start (on_mmc3.acknowledging on_mmc3.lent) first.accepted) (on_mmc3.arming on_mmc3.lent) (omega arith, omega arith, omega arith) on_mmc3.met_fresh_accepts;
      second_accepts = arms (wrote_holds start' (on_mmc3.acknowledging on_mmc3.others) second.accepted) (on_mmc3.arming on_mmc3.others) (omega arith, omega arith, omega arith) on_mmc3.met_risen_accepts;
      one_latch = refl;
      then_the_same_calls = mmc3_calls;
    }

-- so they answer the same numbers to clocks, in each mode
pub met_mmc3 : SettlesOnMmc3 (armed (reached (fresh_mmc3 0 house)) (on_mmc3.arming on_mmc3.lent)) (armed (reached (used_mmc3 0 house)) (on_mmc3.arming on_mmc3.others))
    (on_mmc3.calls on_mmc3.lent) (on_mmc3.calls on_mmc3.others)
met_mmc3 =
    exported_mmc3_house_settles (fresh_mmc3 0 house) (used_mmc3 0 house) (on_mmc3.arming on_mmc3.lent) (on_mmc3.arming on_mmc3.others) (on_mmc3.calls on_mmc3.lent)
    (on_mmc3.calls on_mmc3.others) mmc3_both

pub met_mmc3_on_board : SettlesOnMmc3 (armed (wrote (reached (fresh_mmc3 1 board)) (on_mmc3.acknowledging on_mmc3.lent)) (on_mmc3.arming on_mmc3.lent))
    (armed (wrote (reached (risen_mmc3 1 board)) (on_mmc3.acknowledging on_mmc3.others)) (on_mmc3.arming on_mmc3.others)) (on_mmc3.calls on_mmc3.lent) (on_mmc3.calls on_mmc3.others)
met_mmc3_on_board =
    exported_mmc3_board_settles (fresh_mmc3 1 board) (risen_mmc3 1 board) (on_mmc3.acknowledging on_mmc3.lent) (on_mmc3.acknowledging on_mmc3.others)
    (on_mmc3.arming on_mmc3.lent) (on_mmc3.arming on_mmc3.others) (on_mmc3.calls on_mmc3.lent) (on_mmc3.calls on_mmc3.others) mmc3_both_on_board
