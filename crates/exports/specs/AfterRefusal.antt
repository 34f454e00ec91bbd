-- docs/ABI.md, "Answers and refusals": "After a refusal every lent buffer holds what it held."
use Rattle.std.specs.Prelude.{ℕ, ◌%◌, ◌≤◌, ◌≡◌, List}

-- an answer that is a refusal: 256 or more
abbrev pub IsRefusal : ℕ → Type 0
IsRefusal r = 256 ≤ r

-- the answer of a write below what it tells of the pages
abbrev pub write_answer : ℕ → ℕ
write_answer r = r % 0x10000

-- the state and both RAMs hold what they held
pub record AllAsBefore (s prg chr s' prg' chr' : List ℕ) : Type 0 where
  pub the_state : s' ≡ s
  pub the_prg_ram : prg' ≡ prg
  pub the_chr_ram : chr' ≡ chr

-- the pages hold what they held
pub record PagesAsBefore (reads writes reads' writes' : List ℕ) : Type 0 where
  pub the_read_pages : reads' ≡ reads
  pub the_write_pages : writes' ≡ writes
