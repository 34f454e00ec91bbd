-- What a caller does by the number of a page, where it makes no call.
use Rattle.std.specs.Prelude.{ℕ, ◌+◌, ◌/◌, ◌%◌, ◌<◌, ◌≡◌, cond, List, eqb, length, set, None, Ok, Err}
use Rattle.common.specs.Common.{KB1}
use Rattle.common.specs.declared.Refusal.{Refusal}
use Rattle.memory.specs.Memory.{byte}
use Rattle.places.specs.Places.{Landing}
use Rattle.boards.specs.Numbers.{refused_by}
use Rattle.boards.specs.Write.{Writes}
use Rattle.boards.specs.declared.Board.{Board}
use Rattle.boards.specs.Write.{Written}
use Rattle.boards.specs.Write.{WriteAnswer}
use Rattle.pages.specs.Pages.{refused_page}

-- BIEKKARUL_PAGE_KIND
abbrev pub kind : ℕ → ℕ
kind n = n / 0x10000000

-- BIEKKARUL_PAGE_OFFSET
abbrev pub offset : ℕ → ℕ
offset n = n % 0x10000000

-- the answer of a read of byte o of the page: kind 0 is the image, 1 PRG RAM, 2 CHR RAM, 3 reads 0, 4 is refused
unfoldable pub through : ℕ → ℕ → List ℕ → List ℕ → List ℕ → ℕ
through n o image prg chr =
    cond (eqb (kind n) 0) (byte image (offset n + o))
    (cond (eqb (kind n) 1) (byte prg (offset n + o))
    (cond (eqb (kind n) 2) (byte chr (offset n + o))
    (cond (eqb (kind n) 3) 0 (refused_by (offset n)))))

-- PRG RAM after the caller's own store to that byte
unfoldable pub stores_prg : ℕ → ℕ → ℕ → List ℕ → List ℕ
stores_prg n o v prg = cond (eqb (kind n) 1) (set prg (offset n + o) v) prg

-- CHR RAM after it
unfoldable pub stores_chr : ℕ → ℕ → ℕ → List ℕ → List ℕ
stores_chr n o v chr = cond (eqb (kind n) 2) (set chr (offset n + o) v) chr

-- the byte that the caller touches lies in the buffer of the page's kind
pub record Inside (n o : ℕ) (image prg chr : List ℕ) : Type 0 where
  pub in_image : kind n ≡ 0 → offset n + o < length image
  pub in_prg_ram : kind n ≡ 1 → offset n + o < length prg
  pub in_chr_ram : kind n ≡ 2 → offset n + o < length chr

-- the board as it was, and an answer
abbrev pub stays : Board → WriteAnswer → Written
stays b says = record { left = b; answer = says }

-- what a write of v to address a that lands in l owes, by its page's number. Of kind 5, where the call is to be made, nothing is said
pub record WritesBy (n : ℕ) (b : Board) (l : Landing) (prg chr : List ℕ) (a v : ℕ) : Type 0 where
  -- kinds 1, 2 and 3: nothing moves, the answer is quiet, and both RAMs are as the caller's own store leaves them
  pub stores : kind n < 4 → Writes b l prg chr a v (stays b (Ok None)) (stores_prg n (a % KB1) v prg) (stores_chr n (a % KB1) v chr)
  -- kind 4: it is refused by the number in the offset, and changes nothing
  pub refuses : kind n ≡ 4 → (why : Refusal) × (n ≡ refused_page why) × Writes b l prg chr a v (stays b (Err why)) prg chr
