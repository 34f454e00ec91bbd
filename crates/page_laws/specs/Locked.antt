-- The pages of 6000-7FFF on MMC3, by the marks of RAM: M-111, with its words quoted.
use Rattle.std.specs.Prelude.{ℕ, ◌+◌, ◌*◌, ◌%◌, Bool, cond, not, ◌&&◌}
use Rattle.common.specs.Common.{KB1, KB8}
use Rattle.boards.specs.declared.Board.{Board}

-- the number of such a page: kind 1, PRG RAM, where that is open, else kind 3
abbrev pub ram_page : Bool → ℕ → ℕ
ram_page isOpen p = cond isOpen (0x10000000 + p * KB1 % KB8) 0x30000000

-- "Disabled RAM reads 0", and where there is no PRG RAM "these marks change nothing"
abbrev pub is_read : Board → Bool
is_read b = b.registers.mmc3.ram.enabled && b.cart.prgram

-- "disabled or denied RAM ignores writes"
abbrev pub is_written : Board → Bool
is_written b = b.registers.mmc3.ram.enabled && not b.registers.mmc3.ram.denied && b.cart.prgram
