-- "Bytes after the data are ignored": two images of one length that are equal up to the end of the data, and what is the same of them.
use Rattle.std.specs.Prelude.{ℕ, ◌≡◌, List, length, take}
use Rattle.common.specs.declared.Mode.{Mode}
use Rattle.cartridge.specs.Header.{header_of}
use Rattle.cartridge.specs.Nes2.{prg_in, chr_in}
use Rattle.cartridge.specs.Load.{needed}
use Rattle.boards.specs.Runs.{Lent, lent, next, answer, left, moment, played, ended}
use Rattle.boards.specs.declared.Board.{Board}
use Rattle.boards.specs.declared.Event.{Event}
use Rattle.laws.specs.Calls.{load_with, ram_left}

-- two images of one length, equal in their first n bytes
pub record EqualUpTo (n : ℕ) (s t : List ℕ) : Type 0 where
  pub one_length : length t ≡ length s
  pub one_start : take n t ≡ take n s

-- where the data of an image ends in a mode: "Byte 4 counts 16,384-byte PRG blocks, byte 5 counts 8,192-byte CHR blocks", with M-100's extension
abbrev pub images_end : Mode → List ℕ → ℕ
images_end mode s = needed (prg_in mode (header_of s)) (chr_in mode (header_of s))

-- where the data of the image ends that a board was loaded with
abbrev pub boards_end : Board → ℕ
boards_end b = needed b.cart.prg b.cart.chr

-- the buffers of a call, with another image
abbrev pub with_image : List ℕ → Lent → Lent
with_image t l = lent t l.prg l.chr

-- a load of either image: the same answer, the same board and the same RAMs
pub record LoadedAlike (mode : Mode) (s t prg chr : List ℕ) : Type 0 where
  pub the_answer : (load_with mode t prg chr).answer ≡ (load_with mode s prg chr).answer
  pub the_board : (load_with mode t prg chr).left ≡ (load_with mode s prg chr).left
  pub the_prg_ram : ram_left mode t prg chr prg ≡ ram_left mode s prg chr prg
  pub the_chr_ram : ram_left mode t prg chr chr ≡ ram_left mode s prg chr chr

-- a call that is lent another image: the same answer, the same next board and the same RAMs
pub record ServedAlike (b : Board) (l : Lent) (t : List ℕ) (e : Event) : Type 0 where
  pub the_answer : answer b (with_image t l) e ≡ answer b l e
  pub the_next_board : next b (with_image t l) e ≡ next b l e
  pub the_buffers : left b (with_image t l) e ≡ with_image t (left b l e)

-- a run that is lent another image: the same answers, and at its end the same board and the same RAMs
pub record PlayedAlike (b : Board) (l : Lent) (t : List ℕ) (es : List Event) : Type 0 where
  pub the_answers : played (moment b (with_image t l)) es ≡ played (moment b l) es
  pub the_board : (ended (moment b (with_image t l)) es).board ≡ (ended (moment b l) es).board
  pub the_buffers : (ended (moment b (with_image t l)) es).lent ≡ with_image t (ended (moment b l) es).lent
