-- The public write.
use Rattle.std.specs.Prelude.{ℕ, ◌≡◌, Bool, cond, List, length, Option, Some, None, Result, Ok, Err}
use Rattle.common.specs.Answers.{same}
use Rattle.common.specs.declared.Outcome.{Outcome}
use Rattle.common.specs.declared.Refusal.{Refusal}
use Rattle.common.specs.declared.Mode.{Mode}
use Rattle.common.specs.declared.Mode.TheVariants.{House, Board as OnBoard}
use Rattle.common.specs.declared.Mirroring.{Mirroring}
use Rattle.cartridge.specs.Load.{rams_fit}
use Rattle.cartridge.specs.declared.Cartridge.{Cartridge}
use Rattle.cartridge.specs.declared.MapperType.{MapperType}
use Rattle.cartridge.specs.declared.MapperType.TheVariants.{Nrom, Mmc1, Uxrom, Cnrom, Mmc3}
use Rattle.places.specs.Places.{stored_prg, stored_chr}
use Rattle.places.specs.Windows.{Window, lands_in}
use Rattle.places.specs.Places.{Landing}
use Rattle.nrom.specs.Nrom as nrom
use Rattle.uxrom.specs.Uxrom as uxrom
use Rattle.cnrom.specs.Cnrom as cnrom
use Rattle.mmc1.specs.Read as mmc1
use Rattle.mmc3.specs.Read as mmc3
use Rattle.boards.specs.Registers.{Moved, moved}
use Rattle.boards.specs.Range.{is_loaded, guarded}
use Rattle.boards.specs.declared.Board.{Board}
use Rattle.boards.specs.declared.Registers.{Registers}

-- what a write answers: nothing, a notice of the screens, or its refusal
abbrev pub WriteAnswer : Type 0
WriteAnswer = Result (Option Mirroring) Refusal

-- the next board, and the answer
abbrev pub Written : Type 0
Written = Outcome Board WriteAnswer

-- what a write finds at an address, on each board
unfoldable pub write_window_on : MapperType → Registers → Cartridge → ℕ → Window
write_window_on Nrom r c a = nrom.write_window c a
write_window_on Mmc1 r c a = mmc1.write_window r.mmc1 c a
write_window_on Uxrom r c a = uxrom.write_window r.uxrom c a
write_window_on Cnrom r c a = cnrom.write_window r.cnrom c a
write_window_on Mmc3 r c a = mmc3.write_window r.mmc3 c a

-- where a write lands, on the board of the mapper that the cartridge names
unfoldable pub write_landing : Board → ℕ → Landing
write_landing b a = lands_in b.cart (write_window_on b.cart.mapper b.registers b.cart a) a

-- house: "exactly when its mirroring differs from the header's, not from the last one sent"; board: "Notices compare with the current mirroring"
unfoldable pub against_in : Mode → Mirroring → Mirroring → Mirroring
against_in House headers now = headers
against_in OnBoard headers now = now

-- what a board's notices compare with, in the mode that its cartridge has
abbrev pub against : Board → Mirroring
against b = against_in b.cart.mode b.cart.mirroring b.mirroring

-- only board mode has a current mirroring that moves
unfoldable pub next_mirroring : Mode → Mirroring → Option Mirroring → Mirroring
next_mirroring House now mirrors = now
next_mirroring OnBoard now None = now
next_mirroring OnBoard now (Some m) = m

-- a notice "exactly when" they differ
unfoldable pub notice_unless : Bool → Mirroring → WriteAnswer
notice_unless same m = cond same (Ok None) (Ok (Some m))

-- "A control load or A000 write answers a notice exactly when its mirroring differs"
unfoldable pub notice : Mirroring → Option Mirroring → WriteAnswer
notice old None = Ok None
notice old (Some m) = notice_unless (same old m) m

-- the board with other registers
abbrev pub with_registers : Board → Registers → Board
with_registers b r = record { cart = b.cart; mirroring = b.mirroring; registers = r }

-- the board with its next registers and mirroring, and the notice
unfoldable pub turned : Board → Moved → Written
turned b m =
    record {
      left = record { cart = b.cart; mirroring = next_mirroring b.cart.mode b.mirroring m.answer; registers = m.left };
      answer = notice (against b) m.answer;
    }

-- what an accepted write leaves and answers
unfoldable pub accepted_write : Board → ℕ → ℕ → Written
accepted_write b v a = turned b (moved b.cart.mapper b.cart.mode b.registers v a)

-- "A refusal yields its number only; the state and every lent buffer hold what they held"
unfoldable pub written_as : Board → Landing → ℕ → ℕ → Written
written_as b (Ok p) v a = accepted_write b v a
written_as b (Err why) v a = record { left = b; answer = Err why }

-- where the byte of a write lands, or the refusal: 9, 10 unless the state may be served, then the board's own
abbrev pub landing_if : Bool → Board → List ℕ → List ℕ → ℕ → Landing
landing_if state b prg chr a = guarded (rams_fit (length prg) (length chr)) state (write_landing b a)

-- where the byte of a write lands: served exactly where the board is in range and has this image
unfoldable pub landing : Board → List ℕ → List ℕ → List ℕ → ℕ → Landing
landing b image prg chr a = landing_if (is_loaded b (length image)) b prg chr a

-- what a write that lands there owes its caller: the reply with the next board, and both RAMs
pub record Writes (b : Board) (l : Landing) (prg chr : List ℕ) (a v : ℕ) (r : Written) (prg' chr' : List ℕ) : Type 0 where
  pub reply : r ≡ written_as b l v a
  pub prg_ram : prg' ≡ stored_prg l v prg
  pub chr_ram : chr' ≡ stored_chr l v chr

-- what a write owes where the state has been judged
abbrev pub WritesIf : Bool → Board → List ℕ → List ℕ → ℕ → ℕ → Written → List ℕ → List ℕ → Type 0
WritesIf state b prg chr a v r prg' chr' = Writes b (landing_if state b prg chr a) prg chr a v r prg' chr'

-- what the write owes its caller
abbrev pub WriteOwes : Board → List ℕ → List ℕ → List ℕ → ℕ → ℕ → Written → List ℕ → List ℕ → Type 0
WriteOwes b image prg chr a v r prg' chr' = Writes b (landing b image prg chr a) prg chr a v r prg' chr'
