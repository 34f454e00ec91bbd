-- The bank rule of each mode, over any bank size, and the bytes of a bank.
use Rattle.std.specs.Prelude.{ℕ, ◌+◌, ◌*◌, ◌/◌, ◌%◌, cond, List, [], leb, Option, Some, None}
use Rattle.memory.specs.Memory.{part}
use Rattle.common.specs.declared.Mode.{Mode}
use Rattle.common.specs.declared.Mode.TheVariants.{House, Board}

-- board mode: "A bank number is taken modulo the count of such banks"
unfoldable pub shown : Mode → ℕ → ℕ → ℕ
shown House n count = n
shown Board n count = n % count

-- refusal 11: "the bank this read uses ends past the PRG or CHR data"
unfoldable pub start_at : ℕ → ℕ → ℕ → Option ℕ
start_at at size total = cond (leb (at + size) total) (Some at) None

-- where bank n starts, counted in banks of a size, in data of a total length
unfoldable pub bank_start : Mode → ℕ → ℕ → ℕ → Option ℕ
bank_start mode n size total = start_at (shown mode n (total / size) * size) size total

-- "A bank is the caller's own bytes, given back as a part of the image"; a bank past the end has none
unfoldable pub bank_of : List ℕ → Option ℕ → ℕ → List ℕ
bank_of s (Some a) size = part s a size
bank_of s None size = []
