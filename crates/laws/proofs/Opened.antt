-- Every definition opened at once, for theorems that compute a whole run: `unfolding opened` opens what the line below names. Assumes nothing.
use Rattle.common.specs.Answers as answers
use Rattle.banks.specs.Banks as banks
use Rattle.cartridge.specs.Header as header
use Rattle.cartridge.specs.Nes2 as nes2
use Rattle.cartridge.specs.Load as load
use Rattle.cartridge.specs.Mappers as mappers
use Rattle.places.specs.Places as places
use Rattle.places.specs.Windows as windows
use Rattle.nrom.specs.Nrom as nrom
use Rattle.uxrom.specs.Uxrom as uxrom
use Rattle.cnrom.specs.Cnrom as cnrom
use Rattle.mmc1.specs.Write as mmc1-write
use Rattle.mmc1.specs.Read as mmc1-read
use Rattle.mmc1.specs.Range as mmc1-range
use Rattle.mmc3.specs.Ram as mmc3_ram
use Rattle.mmc3.specs.Clock as mmc3-clock
use Rattle.mmc3.specs.Write as mmc3-write
use Rattle.mmc3.specs.Read as mmc3-read
use Rattle.mmc3.specs.Range as mmc3-range
use Rattle.boards.specs.Registers as registers
use Rattle.boards.specs.Start as start
use Rattle.boards.specs.Range as range
use Rattle.boards.specs.Read as read
use Rattle.boards.specs.Write as write
use Rattle.boards.specs.Clock as clock
use Rattle.boards.specs.Numbers as numbers
use Rattle.boards.specs.Runs as runs
use Rattle.laws.specs.Loads as loads
use Rattle.laws.specs.Deeds as deeds
use Rattle.laws.specs.Protection as protection

unfoldable pub opened : Unit {0}
unfolding banks.shown banks.start_at banks.bank_start banks.bank_of header.is_ines header.header_of header.header_as header.header_read header.mirroring_of nes2.is_nes2_in nes2.mapper_in nes2.prg_in nes2.chr_in nes2.has_submapper nes2.has_exponent nes2.is_shifts nes2.says_otherwise nes2.nes2_not_taken nes2.has_prg_ram load.is_power load.bad_prg load.no_powers load.verdict mappers.mapper_type load.cartridge_of load.loaded_as load.ram_after load.last_prg load.chr_total load.prg_rom load.chr_rom load.chr_data load.counts_end load.prg_ram_fits load.could_load answers.same mappers.is_mapper places.prg_at places.chr_at places.in_prg places.in_chr places.byte_of places.byte_at places.answer_at places.stored_prg places.stored_chr windows.lands_in windows.fixed_block windows.fixed_prg windows.house_chr windows.house_chr_ram windows.board_chr windows.board_chr_ram windows.prg_ram_of windows.in_windows nrom.read_window nrom.write_window_in uxrom.read_window uxrom.write_window_in uxrom.written cnrom.house_prg cnrom.house_read_window cnrom.board_read_window cnrom.read_window_in cnrom.house_write_window cnrom.write_window_in cnrom.written mmc1-write.register_at mmc1-write.move_of mmc1-write.reset mmc1-write.stored_chr0 mmc1-write.stored_chr1 mmc1-write.load mmc1-write.applied mmc1-write.control_mirroring mmc1-write.mirrors_of mmc1-write.written mmc1-read.prg_pair mmc1-read.chr_pair mmc1-read.lower_prg mmc1-read.upper_prg mmc1-read.lower_chr mmc1-read.upper_chr mmc1-read.chr_bank mmc1-read.prg_bank mmc1-read.read_window mmc1-read.ppu_write_in mmc1-read.write_window_in mmc1-read.lower_prg_bank mmc1-read.upper_prg_bank mmc1-read.lower_chr_bank mmc1-read.upper_chr_bank mmc1-range.is_unused mmc1-range.serial_fits mmc1-range.regs_fits mmc1-range.fits mmc3_ram.marks_after mmc3_ram.ram_read mmc3_ram.ram_written mmc3-clock.house_clock mmc3-clock.next_counter mmc3-clock.board_clock mmc3-clock.clock_in mmc3-clock.with_irq mmc3-clock.line_after mmc3-clock.clock_answer mmc3-clock.clocked mmc3-write.move_of mmc3-write.data_bits mmc3-write.applied mmc3-write.screens mmc3-write.mirrors_of mmc3-write.written mmc3-read.choice_at mmc3-read.register mmc3-read.chosen mmc3-read.chr_bank mmc3-read.last_bank mmc3-read.last_but_one mmc3-read.prg_bank mmc3-read.read_window mmc3-read.acknowledged mmc3-read.ppu_write_in mmc3-read.rom_write_in mmc3-read.write_window_in mmc3-range.start mmc3-range.irq_is_start mmc3-range.ram_is_start mmc3-range.is_start mmc3-range.line_fits mmc3-range.ram_fits mmc3-range.fits registers.mmc1_start registers.start registers.part_fits registers.fits registers.moved registers.ticked start.start_of start.no_board start.loaded_board start.board_of start.load_answer range.screens_fit range.mirroring_fits range.in_range range.is_loaded load.rams_fit range.guarded read.read_window_on read.read_landing read.read write.write_window_on write.write_landing write.against_in write.next_mirroring write.notice_unless write.notice write.turned write.accepted_write write.written_as write.landing clock.yes_no clock.accepted_clock clock.clock numbers.refused numbers.header_number numbers.read_number numbers.write_number numbers.clock_number numbers.load_number runs.next runs.answer runs.left runs.after runs.answers runs.stepped runs.played runs.ended loads.is_accepted loads.made loads.moves deeds.deed deeds.deeds protection.none_protects protection.next_before protection.answer_before protection.left_before
opened = tt
