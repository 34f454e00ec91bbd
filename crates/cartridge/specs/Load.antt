-- The load: what it accepts, in the order of its refusals, and what it leaves.
use Rattle.std.specs.Prelude.{ℕ, ◌+◌, ◌-◌, ◌*◌, ◌≡◌, Bool, false, cond, not, ◌&&◌, ◌||◌, List, [], ◌∷◌, ltb, leb, eqb, length, replicate, Result, Ok, Err}
use Rattle.std.specs.Int.Count.{ones}
use Rattle.common.specs.Common.{KB8, KB16}
use Rattle.common.specs.Answers.{is_headers}
use Rattle.common.specs.declared.Refusal.{Refusal}
use Rattle.common.specs.declared.Mode.{Mode}
use Rattle.common.specs.declared.Mode.TheVariants.{House, Board}
use Rattle.memory.specs.Memory.{tail}
use Rattle.cartridge.specs.Refusals.{Row, given, first}
use Rattle.cartridge.specs.Header.{is_ines, header_of, mirroring_of, is_nes2, is_special}
use Rattle.cartridge.specs.Nes2.{is_nes2_in, mapper_in, prg_in, chr_in, nes2_not_taken, has_prg_ram}
use Rattle.cartridge.specs.Mappers.{mapper_number, mapper_type}
use Rattle.cartridge.specs.declared.Header.{Header}
use Rattle.cartridge.specs.declared.Cartridge.{Cartridge}
use Rattle.cartridge.specs.Refusals.{Verdict}

-- refusal 8's "power of two", by M-104's "count of one bits"; `ones`, the toolchain's, is opened with it
unfoldable pub is_power : ℕ → Bool
unfolding ones
is_power n = eqb (ones n) 1

-- refusal 6: "PRG count 0; or above 2 for mappers 0 and 3"
unfoldable pub bad_prg : ℕ → ℕ → Bool
bad_prg mapper prg = eqb prg 0 || ((eqb mapper 0 || eqb mapper 3) && ltb 2 prg)

-- refusal 7: "16 + 16,384 x PRG + 8,192 x CHR"
abbrev pub needed : ℕ → ℕ → ℕ
needed prg chr = 16 + prg * KB16 + chr * KB8

-- refusal 8, board mode: "PRG count, or a nonzero CHR count, is no power of two"
unfoldable pub no_powers : Mode → ℕ → ℕ → Bool
no_powers House prg chr = false
no_powers Board prg chr = not (is_power prg) || (not (eqb chr 0) && not (is_power chr))

-- refusal 9: "a lent RAM is not exactly 8,192 bytes"; of the lengths of both
unfoldable pub rams_fit : ℕ → ℕ → Bool
rams_fit prg chr = eqb prg 8192 && eqb chr 8192

-- "Order in load: 9, 3, 4, 5, 6, 7, 8", with 16 "after 5 and before 6"; "refusal 4 uses the longer mapper number, 6 to 8 the longer counts"; of an image, a mode and the lengths of the RAMs
abbrev pub load_refusals : List ℕ → Mode → ℕ → ℕ → List Row
load_refusals s mode prg chr =
    let h = header_of s in
    given 9 (not (rams_fit prg chr))
    -- "fewer than 16,400 bytes, or bytes 0-3 wrong"
    ∷ given 3 (ltb (length s) 16400 || not (is_ines s))
    -- "mapper above 4"
    ∷ given 4 (ltb 4 (mapper_in mode h))
    ∷ given 5 (is_special h)
    ∷ given 16 (nes2_not_taken mode h)
    ∷ given 6 (bad_prg (mapper_in mode h) (prg_in mode h))
    -- "image shorter than 16 + 16,384 x PRG + 8,192 x CHR"
    ∷ given 7 (ltb (length s) (needed (prg_in mode h) (chr_in mode h)))
    ∷ given 8 (no_powers mode (prg_in mode h) (chr_in mode h))
    ∷ []

-- what a load decides
unfoldable pub verdict : List ℕ → Mode → ℕ → ℕ → Verdict
verdict s mode prg chr = first (load_refusals s mode prg chr)

-- what an accepted load keeps of the image
unfoldable pub cartridge_of : Header → Mode → ℕ → Cartridge
cartridge_of h mode len =
    record {
      mode = mode;
      mapper = mapper_type (mapper_in mode h);
      nes2 = is_nes2 h;
      mirroring = mirroring_of h;
      prgram = has_prg_ram mode h;
      prg = prg_in mode h;
      chr = chr_in mode h;
      length = len;
    }

-- what a load answers; the image stays the caller's
abbrev pub Loaded : Type 0
Loaded = Result Cartridge Refusal

-- "A refusal yields its number only"
unfoldable pub loaded_as : Verdict → Cartridge → Loaded
loaded_as (Ok tt) c = Ok c
loaded_as (Err why) c = Err why

-- the load of an image: the cartridge, or the refusal
abbrev pub load : List ℕ → Mode → ℕ → ℕ → Loaded
load s mode prg chr = loaded_as (verdict s mode prg chr) (cartridge_of (header_of s) mode (length s))

-- "An accepted load fills both RAMs with zero"; after a refusal they hold what they held
unfoldable pub ram_after : Verdict → List ℕ → List ℕ
ram_after (Ok tt) ram = replicate (length ram) 0
ram_after (Err why) ram = ram

-- what a load owes its caller: the reply and both RAMs
pub record LoadOwes (s : List ℕ) (mode : Mode) (prg chr : List ℕ) (r : Loaded) (prg' chr' : List ℕ) : Type 0 where
  pub reply : r ≡ load s mode (length prg) (length chr)
  pub prg_ram : prg' ≡ ram_after (verdict s mode (length prg) (length chr)) prg
  pub chr_ram : chr' ≡ ram_after (verdict s mode (length prg) (length chr)) chr

-- "Byte 4 counts 16,384-byte PRG blocks"
abbrev pub prg_total : Cartridge → ℕ
prg_total c = c.prg * KB16

-- the last 16 KB bank
unfoldable pub last_prg : Cartridge → ℕ
last_prg c = c.prg - 1

-- "CHR count 0 means 8,192 bytes of CHR RAM"
abbrev pub has_chr_ram : Cartridge → Bool
has_chr_ram c = eqb c.chr 0

-- how many bytes of CHR there are
unfoldable pub chr_total : Cartridge → ℕ
chr_total c = cond (has_chr_ram c) KB8 (c.chr * KB8)

-- "The PRG data begins at byte 16 and is handed on as part of the lent image"
unfoldable pub prg_rom : List ℕ → List ℕ
prg_rom image = tail image 16

-- "CHR follows it"
unfoldable pub chr_rom : Cartridge → List ℕ → List ℕ
chr_rom c image = tail image (16 + prg_total c)

-- CHR RAM where there is any, else the CHR data of the image
unfoldable pub chr_data : Cartridge → List ℕ → List ℕ → List ℕ
chr_data c image ram = cond (has_chr_ram c) ram (chr_rom c image)

-- above every count that a header can say: a byte, and with M-100's extension a nibble above it
unfoldable pub counts_end : Mode → Bool → ℕ
counts_end mode mark = cond (is_nes2_in mode mark) 4096 256

-- "Without PRG RAM, which .. 10 covers": only an image that is read as NES 2.0 can lack it
unfoldable pub prg_ram_fits : Cartridge → Bool
prg_ram_fits c = c.prgram || is_nes2_in c.mode c.nes2

-- state ranges: "Mapper, counts, length and mirroring as a load could leave them", and the note of PRG RAM
unfoldable pub could_load : Cartridge → Bool
could_load c =
    let end = counts_end c.mode c.nes2 in
    (not (bad_prg (mapper_number c.mapper) c.prg) && not (no_powers c.mode c.prg c.chr))
    && (ltb c.prg end && ltb c.chr end && leb (needed c.prg c.chr) c.length)
    && is_headers c.mirroring
    && prg_ram_fits c
