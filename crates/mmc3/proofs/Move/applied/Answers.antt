-- Select, data and disable are the same in both modes, so what their functions promise of every mode is taken at this one. Assumes nothing.
use Rattle.mmc3.proofs.Move.applied.Goals as goal

pub returns-in-Select : goal.returns-in-Select
returns-in-Select c = rw c.in-Select.is (c.bank_select.ensures c.args.mode)

pub returns-in-Data : goal.returns-in-Data
returns-in-Data c = rw c.in-Data.is (c.bank_data.ensures c.args.mode)

pub returns-in-Disable : goal.returns-in-Disable
returns-in-Disable c = rw c.in-Disable.is (c.disable.ensures c.args.mode)
