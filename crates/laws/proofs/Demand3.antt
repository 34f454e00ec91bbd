-- Any two histories of one image leave boards of one image, and two such boards settle. Those of MMC3 have their lines low: in house mode always, in board mode after
-- the acknowledging write. On an MMC1 board no call moves another board's registers, so two MMC1 boards that have settled are one and the same. Assumes nothing.
use Prim.Native.Nat.{ℕ}
use mathlib.Core.Path.{◌≡◌, refl, sym, ap, ap₂, ◌∙◌, subst}
use mathlib.Core.List.{List, [], ◌∷◌, ◌++◌}
use Rattle.common.specs.declared.Mode.{Mode}
use Rattle.common.specs.declared.Mode.TheVariants.{House, Board as OnBoard}
use Rattle.cartridge.specs.declared.Cartridge.{Cartridge}
use Rattle.cartridge.specs.declared.MapperType.{MapperType}
use Rattle.cartridge.specs.declared.MapperType.TheVariants.{Mmc1}
use Rattle.mmc1.specs.declared.Mmc1 as mmc1-type
use Rattle.boards.specs.Registers.{with_mmc1}
use Rattle.boards.specs.Runs.{next, Call, call, after}
use Rattle.boards.specs.declared.Board.{Board}
use Rattle.boards.specs.declared.Event.TheVariants.{Write}
use Rattle.laws.specs.Calls.{load_with, History, reached, OneImage, LentWrite, wrote}
use Rattle.laws.specs.Demand3.{ImageOf, BothCleared, BothArmed, BothAcknowledged}
use Rattle.laws.specs.SettlesMmc1 as mmc1
use Rattle.laws.specs.SettlesMmc3 as mmc3
use Rattle.laws.proofs.Arming.{acknowledged}
use Rattle.laws.proofs.Histories.{any_two_histories, mode_of_lem, one_start}
use Rattle.laws.proofs.Line.{low_in_house_mode}
use Rattle.laws.proofs.Mmc1Moves.{next_is}
use Rattle.laws.proofs.OneImage.{swapped, wrote_one}
use Rattle.laws.proofs.Positions.{after_append}
use Rattle.laws.proofs.Ranges.{next_keeps_cart, run_keeps_cart}
use Rattle.laws.proofs.SettlesMmc1.{mmc1_settles}
use Rattle.laws.proofs.SettlesMmc3.{mmc3_settles}

one_image : {mode : Mode} {s : List ℕ} {k : MapperType} → ImageOf k mode s → (x y : History mode s) → OneImage k (reached x) (reached y)
one_image {mode} {s} {k} i x y = any_two_histories mode s i.are_bytes k i.mapper x y

-- MMC1: "two boards of one image and mode", whatever their histories, that accept a bit 7 write and then get the same calls
pub mmc1_histories_settle : {mode : Mode} {s : List ℕ} (x y : History mode s) (w u : LentWrite) (cs ds : List Call) → BothCleared x y w u cs ds
    → mmc1.Settles (wrote (reached x) w) (wrote (reached y) u) cs ds
mmc1_histories_settle x y w u cs ds h =
    mmc1_settles (reached x) (reached y) (one_image h.image x y) w u h.first_accepts h.second_accepts cs ds h.then_the_same_calls

-- MMC3, house mode: two such boards that accept the same latch, reload and enable, get a clock and then the same calls
pub mmc3_house_histories_settle : {s : List ℕ} (x y : History House s) (w u : mmc3.Arming) (cs ds : List Call) → BothArmed x y w u cs ds
    → mmc3.Settles (mmc3.armed (reached x) w) (mmc3.armed (reached y) u) cs ds
mmc3_house_histories_settle {s} x y w u cs ds h =
    let o = one_image h.image x y in
    let bytes = h.image.are_bytes in
    let low_x = low_in_house_mode (reached x) (mode_of_lem House s bytes x) o.first in
    let low-y = low_in_house_mode (reached y) (mode_of_lem House s bytes y) o.second in
    mmc3_settles (reached x) (reached y) o (low_x ∙ sym low-y) w u h.one_latch h.first_accepts h.second_accepts cs ds h.then_the_same_calls

-- MMC3, board mode: two such boards that accept an acknowledging write, then the same latch, reload and enable, get a clock and then the same calls
pub mmc3_board_histories_settle : {s : List ℕ} (x y : History OnBoard s) (v t : LentWrite) (w u : mmc3.Arming) (cs ds : List Call) → BothAcknowledged x y v t w u cs ds
    → mmc3.Settles (mmc3.armed (wrote (reached x) v) w) (mmc3.armed (wrote (reached y) t) u) cs ds
mmc3_board_histories_settle x y v t w u cs ds h =
    let o = one_image h.image x y in
    let low_x = (acknowledged (reached x) o.mapper v h.first_acknowledges).0 in
    let low-y = (acknowledged (reached y) (swapped o).mapper t h.second_acknowledges).0 in
    mmc3_settles (wrote (reached x) v) (wrote (reached y) t) (swapped (wrote_one (swapped (wrote_one o v)) t)) (low_x ∙ sym low-y) w u h.one_latch
    h.first_accepts h.second_accepts cs ds h.then_the_same_calls

-- on an MMC1 board the registers of the other boards stay
others_stay : (b : Board) → b.cart.mapper ≡ Mmc1 → (cs : List Call) → (after b cs).registers ≡ with_mmc1 b.registers (after b cs).registers.mmc1
unfolding after
others_stay b k [] = refl
others_stay b k (call l e ∷ cs) =
    others_stay (next b l e) (ap (λ (c : Cartridge). c.mapper) (next_keeps_cart b l e) ∙ k) cs
    ∙ ap (λ (x : Board). with_mmc1 x.registers (after (next b l e) cs).registers.mmc1) (next_is b k l e)

module _ {mode : Mode} {s : List ℕ} where
  abbrev loaded : History mode s → Board
  loaded x = (load_with mode s x.prg x.chr).left

  -- so from a load on they are as it left them
  others_are : (x : History mode s) → (reached x).cart.mapper ≡ Mmc1 → (w : LentWrite) (cs : List Call)
      → (after (wrote (reached x) w) cs).registers ≡ with_mmc1 (loaded x).registers (after (wrote (reached x) w) cs).registers.mmc1
  unfolding after
  others_are x k w cs =
      let later = call w.lent (Write w.address w.byte) ∷ cs in
      subst (λ (d : Board). d.registers ≡ with_mmc1 (loaded x).registers d.registers.mmc1) (after_append (loaded x) x.calls later)
      (others_stay (loaded x) (ap (λ (c : Cartridge). c.mapper) (sym (run_keeps_cart (loaded x) x.calls)) ∙ k) (x.calls ++ later))

  -- once the two MMC1 boards agree they are one and the same in every field
  pub mmc1_histories_join : (x y : History mode s) (w u : LentWrite) (cs ds : List Call) → BothCleared x y w u cs ds → mmc1.Settled (wrote (reached x) w) cs
      → after (wrote (reached x) w) cs ≡ after (wrote (reached y) u) ds
  mmc1_histories_join x y w u cs ds h t =
      λ i. record { cart = agree.cart i; mirroring = agree.mirroring i; registers = registers i }
    where
      agree : mmc1.Agree (after (wrote (reached x) w) cs) (after (wrote (reached y) u) ds)
      agree = (mmc1_histories_settle x y w u cs ds h).the_boards_agree t

      registers : (after (wrote (reached x) w) cs).registers ≡ (after (wrote (reached y) u) ds).registers
      registers =
          others_are x (one_image h.image x y).mapper w cs
          ∙ ap₂ (λ (b : Board) (m : mmc1-type.Mmc1). with_mmc1 b.registers m) (one_start x y) agree.mmc1
          ∙ sym (others_are y (one_image h.image y x).mapper u ds)
