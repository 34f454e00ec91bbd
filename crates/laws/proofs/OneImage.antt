-- Two boards of one image stay so, whatever each is given: no event changes what was loaded or leaves the range. Assumes nothing.
use mathlib.Core.Path.{sym, ap, ◌∙◌}
use mathlib.Core.List.{List, [], ◌∷◌}
use Rattle.cartridge.specs.declared.Cartridge.{Cartridge}
use Rattle.cartridge.specs.declared.MapperType.{MapperType}
use Rattle.boards.specs.Clock.{clock}
use Rattle.boards.specs.Runs.{Lent, lent, next, Call, call, after}
use Rattle.boards.specs.declared.Board.{Board}
use Rattle.boards.specs.declared.Event.{Event}
use Rattle.boards.specs.declared.Event.TheVariants.{Write, Clock}
use Rattle.laws.specs.Calls.{OneImage, LentWrite, wrote}
use Rattle.laws.proofs.Ranges.{run_in_range, run_keeps_cart}

module _ {k : MapperType} {b d : Board} (o : OneImage k b d) where
  pub swapped : OneImage k d b
  swapped =
      record { cart = sym o.cart; mapper = ap (λ (c : Cartridge). c.mapper) (sym o.cart) ∙ o.mapper; first = o.second; second = o.first }

  pub after_one : (cs ds : List Call) → OneImage k (after b cs) (after d ds)
  after_one cs ds =
      record {
        cart = run_keeps_cart b cs ∙ o.cart ∙ sym (run_keeps_cart d ds);
        mapper = ap (λ (c : Cartridge). c.mapper) (run_keeps_cart b cs) ∙ o.mapper;
        first = run_in_range b cs o.first;
        second = run_in_range d ds o.second;
      }

  pub next_one : (l : Lent) (e : Event) → OneImage k (next b l e) (next d l e)
  unfolding after
  next_one l e = after_one (call l e ∷ []) (call l e ∷ [])

  -- a write to the first of them, and a clock, which is lent nothing
  pub wrote_one : (w : LentWrite) → OneImage k (wrote b w) d
  unfolding after
  wrote_one w = after_one (call w.lent (Write w.address w.byte) ∷ []) []

  pub clock_one : OneImage k (clock b).left d
  unfolding after next
  clock_one = after_one (call (lent [] [] []) Clock ∷ []) []
