-- In each window the bank has the byte that a read finds.
use Rattle.std.proofs.Common.{arith}
use Rattle.mmc1.proofs.Windows.{below_1000, below_2000, below_6000, below_8000, below_c000, above_c000}
use Rattle.mmc1.proofs.Mmc1.read8.Goals as goal

pub returns-in-0-to-4095 : goal.returns-in-0-to-4095
returns-in-0-to-4095 c = let a = c.args in simp (c.byte_at.ensures, c.lower_chr_bank.ensures) (below_1000 a.self a.cart a.lent.image.now a.lent.prg.now a.lent.chr.now a.address (omega arith))

pub returns-in-4096-to-8191 : goal.returns-in-4096-to-8191
returns-in-4096-to-8191 c =
    let a = c.args in simp (c.byte_at-in-4096-to-8191.ensures, c.upper_chr_bank.ensures) (below_2000 a.self a.cart a.lent.image.now a.lent.prg.now a.lent.chr.now a.address (omega arith) (omega arith))

pub returns-in_default : goal.returns-in_default
returns-in_default c = let a = c.args in below_6000 a.self a.cart a.lent.image.now a.lent.prg.now a.lent.chr.now a.address (omega arith) (omega arith)

pub returns-in-24576-to-32767 : goal.returns-in-24576-to-32767
returns-in-24576-to-32767 c = let a = c.args in simp c.prg_ram_byte.ensures (below_8000 a.self a.cart a.lent.image.now a.lent.prg.now a.lent.chr.now a.address (omega arith) (omega arith))

pub returns-in-32768-to-49151 : goal.returns-in-32768-to-49151
returns-in-32768-to-49151 c =
    let a = c.args in simp (c.byte_at-in-32768-to-49151.ensures, c.lower_prg_bank.ensures) (below_c000 a.self a.cart a.lent.image.now a.lent.prg.now a.lent.chr.now a.address (omega arith) (omega arith))

pub returns-in-49152-to-65535 : goal.returns-in-49152-to-65535
returns-in-49152-to-65535 c =
    let a = c.args in simp (c.byte_at-in-49152-to-65535.ensures, c.upper_prg_bank.ensures) (above_c000 a.self a.cart a.lent.image.now a.lent.prg.now a.lent.chr.now a.address (omega arith))
