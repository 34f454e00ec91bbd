-- On an MMC1 board an event leaves what its move makes, and two boards with one serial register make the same moves. Assumes nothing.
use Prim.Native.Nat.{ℕ}
use mathlib.Core.Path.{◌≡◌, refl, sym, ap, ap₂, ◌∙◌}
use mathlib.Core.Bool.{Bool, true, cond, ◌&&◌}
use native.Mathlib.Omega.{arith}
use Rattle.rules.proofs.Bools.{either}
use Rattle.common.specs.declared.Mode.{Mode}
use Rattle.common.specs.declared.Mode.TheVariants.{House, Board as OnBoard}
use Rattle.cartridge.specs.Mappers.{is_mapper}
use Rattle.cartridge.specs.declared.Cartridge.{Cartridge}
use Rattle.cartridge.specs.declared.MapperType.{MapperType}
use Rattle.cartridge.specs.declared.MapperType.TheVariants.{Mmc1}
use Rattle.places.specs.Windows.{lands_in, house_chr, prg_ram_of, in_windows}
use Rattle.places.specs.Windows.Window.{Empty}
use Rattle.places.specs.Places.{Landing}
use Rattle.mmc1.specs.Read as mmc1
use Rattle.mmc1.specs.Write.{move_of, reset, load, applied, mirrors_of, written}
use Rattle.mmc1.specs.declared.Mmc1 as mmc1-type
use Rattle.mmc1.specs.declared.Move.{Move}
use Rattle.mmc1.specs.declared.Move.TheVariants.{Nothing, Fill}
use Rattle.mmc1.specs.declared.Register.{Register}
use Rattle.boards.specs.Registers.{with_mmc1, moved, ticked}
use Rattle.boards.specs.Range.{in_range}
use Rattle.boards.specs.Write.{write_window_on, write_landing, next_mirroring, with_registers, turned, accepted_write, landing}
use Rattle.boards.specs.Clock.{accepted_clock, clock}
use Rattle.boards.specs.Runs.{Lent, next}
use Rattle.boards.specs.declared.Board.{Board}
use Rattle.boards.specs.declared.Event.{Event}
use Rattle.boards.specs.declared.Event.TheVariants.{Read, Write, Clock}
use Rattle.boards.specs.Clock.{Clocked}
use Rattle.laws.specs.Calls.{OneImage}
use Rattle.laws.specs.Loads.{is_accepted, accepts, made}
use Rattle.laws.proofs.Cases.{alike}
use Rattle.laws.proofs.Accepting.{board_alike, accepted_alike, after_write}
use Rattle.laws.proofs.OneImage.{swapped, next_one}

abbrev pub board_after : Move → Mode → Board → Board
board_after k m b =
    record {
      cart = b.cart;
      mirroring = next_mirroring m b.mirroring (mirrors_of k);
      registers = with_mmc1 b.registers (applied m k b.registers.mmc1);
    }

same_screens : (m : Mode) (b : Board) → b ≡ board_after Nothing m b
unfolding next_mirroring applied mirrors_of
same_screens m b = grind arith

module _ (b : Board) (is-mmc1 : b.cart.mapper ≡ Mmc1) where
  moved_is : (v a : ℕ) → (accepted_write b v a).left ≡ board_after (move_of b.registers.mmc1.serial v a) b.cart.mode b
  unfolding accepted_write turned moved written
  moved_is v a = ap (λ (k : MapperType). (turned b (moved k b.cart.mode b.registers v a)).left) is-mmc1

  pub own_move : (l : Lent) (a v : ℕ) → made b l (Write a v) ≡ cond (accepts b l a) (move_of b.registers.mmc1.serial v a) Nothing
  unfolding made is_mapper
  own_move l a v = ap (λ (k : MapperType). cond (is_mapper k Mmc1 && accepts b l a) (move_of b.registers.mmc1.serial v a) Nothing) is-mmc1

  -- an event leaves what its move makes
  pub next_is : (l : Lent) (e : Event) → next b l e ≡ board_after (made b l e) b.cart.mode b
  unfolding next made clock accepted_clock ticked is_mapper
  next_is l (Read a) = same_screens b.cart.mode b
  next_is l (Write a v) =
      after_write b (landing b l.image l.prg l.chr a) v a
      ∙ alike (λ (x : Board) (k : Move). x ≡ board_after k b.cart.mode b) (accepts b l a) (moved_is v a) (same_screens b.cart.mode b)
      ∙ ap (λ (k : Move). board_after k b.cart.mode b) (sym (own_move l a v))
  next_is l Clock =
      either (λ (r : Clocked). r.left ≡ b) (in_range b) (ap (λ (k : MapperType). with_registers b (ticked k b.cart.mode b.registers).left) is-mmc1) refl
      ∙ same_screens b.cart.mode b

pub chosen : (t : Bool) (k : Move) (r : Register) (v : ℕ) → cond t k Nothing ≡ Fill r v → (t ≡ true) × (k ≡ Fill r v)
chosen t k r v e = grind arith

-- each register looks at no other but the CHR mode
module _ (x y : mmc1-type.Mmc1) where
  one_serial : (m : Mode) (k : Move) → x.serial ≡ y.serial → (applied m k x).serial ≡ (applied m k y).serial
  unfolding applied
  one_serial m k e = grind arith

  pub one_prgmode : (m : Mode) (k : Move) → x.regs.prgmode ≡ y.regs.prgmode → (applied m k x).regs.prgmode ≡ (applied m k y).regs.prgmode
  unfolding applied reset load
  one_prgmode m k e = grind arith

  pub one_chrmode : (m : Mode) (k : Move) → x.regs.chrmode ≡ y.regs.chrmode → (applied m k x).regs.chrmode ≡ (applied m k y).regs.chrmode
  unfolding applied reset load
  one_chrmode m k e = grind arith

  pub one_chr0 : (m : Mode) (k : Move) → x.regs.chrmode ≡ y.regs.chrmode → x.regs.chr0 ≡ y.regs.chr0 → (applied m k x).regs.chr0 ≡ (applied m k y).regs.chr0
  unfolding applied reset load
  one_chr0 m k d e = grind arith

  pub one_chr1 : (m : Mode) (k : Move) → x.regs.chrmode ≡ y.regs.chrmode → x.regs.chr1 ≡ y.regs.chr1 → (applied m k x).regs.chr1 ≡ (applied m k y).regs.chr1
  unfolding applied reset load
  one_chr1 m k d e = grind arith

  pub one_prg : (m : Mode) (k : Move) → x.regs.prg ≡ y.regs.prg → (applied m k x).regs.prg ≡ (applied m k y).regs.prg
  unfolding applied reset load
  one_prg m k e = grind arith

-- what two boards have in common from the bit 7 write on
pub record Common (b d : Board) : Type 0 where
  pub one : OneImage Mmc1 b d
  pub serial : b.registers.mmc1.serial ≡ d.registers.mmc1.serial

module _ {b d : Board} (r : Common b d) where
  -- where a write of this mode lands
  abbrev lands : Mode → Board → ℕ → Landing
  lands mode e a = lands_in e.cart (mmc1.write_window_in mode e.registers.mmc1 e.cart a) a

  lands_there : (mode : Mode) (e : Board) → e.cart.mapper ≡ Mmc1 → e.cart.mode ≡ mode → (a : ℕ) → write_landing e a ≡ lands mode e a
  unfolding write_landing write_window_on
  lands_there mode e h f a =
      ap (λ (k : MapperType). lands_in e.cart (write_window_on k e.registers e.cart a) a) h ∙ ap (λ (m : Mode). lands m e a) f

  -- house mode looks at the cartridge alone
  landing_alike : (m : Mode) → b.cart.mode ≡ m → (a : ℕ) → is_accepted (write_landing b a) ≡ is_accepted (write_landing d a)
  unfolding mmc1.write_window_in mmc1.ppu_write_in
  landing_alike House e a =
      ap is_accepted
      (lands_there House b r.one.mapper e a
      ∙ ap (λ (c : Cartridge). lands_in c (in_windows (house_chr c) (prg_ram_of c) Empty a) a) r.one.cart
      ∙ sym (lands_there House d (swapped r.one).mapper (ap (λ (c : Cartridge). c.mode) (sym r.one.cart) ∙ e) a))
  landing_alike OnBoard e a = board_alike r.one e a

  -- both boards accept a write or both refuse it, so both make the same move
  pub one_move : (l : Lent) (e : Event) → made b l e ≡ made d l e
  unfolding made
  one_move l (Read a) = refl
  one_move l (Write a v) =
      let both = accepted_alike r.one l a (landing_alike b.cart.mode refl a) in
      λ i. cond (is_mapper (r.one.cart i).mapper Mmc1 && both i) (move_of (r.serial i) v a) Nothing
  one_move l Clock = refl

  -- what is one after one move in one mode is one after the event
  pub by_move : {A : Type 0} (g : Board → A) (l : Lent) (e : Event) → g (board_after (made b l e) b.cart.mode b) ≡ g (board_after (made b l e) b.cart.mode d) → g (next b l e) ≡ g (next d l e)
  by_move g l e h =
      ap g (next_is b r.one.mapper l e) ∙ h
      ∙ ap g (ap₂ (λ (k : Move) (x : Cartridge). board_after k x.mode d) (one_move l e) r.one.cart ∙ sym (next_is d (swapped r.one).mapper l e))

  pub next_common : (l : Lent) (e : Event) → Common (next b l e) (next d l e)
  next_common l e =
      record {
        one = next_one r.one l e;
        serial =
            by_move (λ (x : Board). x.registers.mmc1.serial) l e
            (one_serial b.registers.mmc1 d.registers.mmc1 b.cart.mode (made b l e) r.serial);
      }
