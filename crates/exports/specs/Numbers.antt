-- The answers as numbers: docs/ABI.md, "Answers and refusals". Those of the boards' calls are the boards' own.
use Rattle.std.specs.Prelude.{ℕ, ◌+◌, cond, List, [], ◌∷◌, Ok, Err}
use Rattle.cartridge.specs.declared.Header.{Header}
use Rattle.cartridge.specs.Header.{HeaderAnswer}
use Rattle.pages.specs.declared.Parts.{Parts}
use Rattle.pages.specs.Pages.{PagesAnswer}
unfoldable pub use Rattle.boards.specs.Numbers.{refused, header_number, read_number, write_number, clock_number, load_number}

-- above a write's answer: 0x10000 where pages 0 to 7 may have moved, 0x20000 where pages 32 to 63 may, 0x40000 where pages 24 to 31 may
unfoldable pub moved_number : Parts → ℕ
moved_number p = cond p.chr 0x10000 0 + cond p.prg 0x20000 0 + cond p.ram 0x40000 0

-- the pages: 0
unfoldable pub pages_number : PagesAnswer → ℕ
pages_number (Ok tt) = 0
pages_number (Err why) = refused why

-- "The header reader answers bytes 4 to 15 as they stand"
unfoldable pub fields_of : Header → List ℕ
fields_of h =
    h.prg ∷ h.chr ∷ h.flags6 ∷ h.flags7 ∷ h.flags8 ∷ h.flags9 ∷ h.flags10 ∷ h.flags11 ∷ h.flags12 ∷ h.flags13
    ∷ h.flags14
    ∷ h.flags15
    ∷ []

-- into the lent fields; a refusal leaves them
unfoldable pub fields_after : HeaderAnswer → List ℕ → List ℕ
fields_after (Ok h) f = fields_of h
fields_after (Err why) f = f

-- "The version of the exported calls is 5": it grows where a call is added, or a call, an answer or what a caller owes becomes another
abbrev pub version : ℕ
version = 5
