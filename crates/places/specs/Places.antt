-- Where a byte of a bank lies, and the byte that is read or stored there.
use Rattle.std.specs.Prelude.{ℕ, ◌+◌, ◌≡◌, Bool, cond, List, set, Option, Some, None, Result, Ok, Err}
use Rattle.common.specs.Answers.{no}
use Rattle.common.specs.declared.Refusal.{Refusal}
use Rattle.memory.specs.Memory.{byte}
use Rattle.banks.specs.Banks.{bank_start}
use Rattle.cartridge.specs.Load.{prg_total, chr_total, has_chr_ram, prg_rom, chr_rom}
use Rattle.cartridge.specs.declared.Cartridge.{Cartridge}
use Rattle.places.specs.declared.Place.{Place}
use Rattle.places.specs.declared.Place.TheVariants.{Prg, Chr, PrgRam, ChrRam, Nowhere}

-- where an address lands: at a place, or the read or write is refused
abbrev pub Landing : Type 0
Landing = Result Place Refusal

-- what a read answers: a byte, or its refusal
abbrev pub ReadAnswer : Type 0
ReadAnswer = Result ℕ Refusal

-- refusal 11 where the bank is past the data; else the byte `at` of the PRG bank
unfoldable pub prg_at : Option ℕ → ℕ → Landing
prg_at (Some s) at = Ok (Prg (s + at))
prg_at None at = Err (no 11)

-- refusal 11 where the bank is past the data; else the byte `at` of the CHR bank, in RAM or in the image
unfoldable pub chr_at : Bool → Option ℕ → ℕ → Landing
chr_at ram (Some s) at = cond ram (Ok (ChrRam (s + at))) (Ok (Chr (s + at)))
chr_at ram None at = Err (no 11)

-- the byte `at` of PRG bank n, counted in banks of a size
unfoldable pub in_prg : Cartridge → ℕ → ℕ → ℕ → Landing
in_prg c size n at = prg_at (bank_start c.mode n size (prg_total c)) at

-- the byte `at` of CHR bank n, counted in banks of a size; "CHR RAM is read .. through the banks"
unfoldable pub in_chr : Cartridge → ℕ → ℕ → ℕ → Landing
in_chr c size n at = chr_at (has_chr_ram c) (bank_start c.mode n size (chr_total c)) at

-- the byte at a place, 0 where there is none
unfoldable pub byte_of : Cartridge → Place → List ℕ → List ℕ → List ℕ → ℕ
byte_of c (Prg i) image prg chr = byte (prg_rom image) i
byte_of c (Chr i) image prg chr = byte (chr_rom c image) i
byte_of c (PrgRam i) image prg chr = byte prg i
byte_of c (ChrRam i) image prg chr = byte chr i
byte_of c Nowhere image prg chr = 0

-- the byte where an address lands
unfoldable pub byte_at : Cartridge → Landing → List ℕ → List ℕ → List ℕ → ℕ
byte_at c (Ok p) image prg chr = byte_of c p image prg chr
byte_at c (Err why) image prg chr = 0

-- "A refusal yields its number only"; else a read answers the byte
unfoldable pub answer_at : Landing → ℕ → ReadAnswer
answer_at (Ok p) b = Ok b
answer_at (Err why) b = Err why

-- PRG RAM after a byte is stored where an address lands
unfoldable pub stored_prg : Landing → ℕ → List ℕ → List ℕ
stored_prg (Ok (Prg i)) v prg = prg
stored_prg (Ok (Chr i)) v prg = prg
stored_prg (Ok (PrgRam i)) v prg = set prg i v
stored_prg (Ok (ChrRam i)) v prg = prg
stored_prg (Ok Nowhere) v prg = prg
stored_prg (Err why) v prg = prg

-- CHR RAM after a byte is stored where an address lands
unfoldable pub stored_chr : Landing → ℕ → List ℕ → List ℕ
stored_chr (Ok (Prg i)) v chr = chr
stored_chr (Ok (Chr i)) v chr = chr
stored_chr (Ok (PrgRam i)) v chr = chr
stored_chr (Ok (ChrRam i)) v chr = set chr i v
stored_chr (Ok Nowhere) v chr = chr
stored_chr (Err why) v chr = chr

-- what a store owes its caller: both RAMs
pub record StoreOwes (l : Landing) (v : ℕ) (prg chr prg' chr' : List ℕ) : Type 0 where
  pub prg_ram : prg' ≡ stored_prg l v prg
  pub chr_ram : chr' ≡ stored_chr l v chr
