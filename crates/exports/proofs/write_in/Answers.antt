-- The board's own write, what it leaves, and the pages that it may have moved. Assumes nothing.
use mathlib.Core.Bool.{◌&&◌}
use lib.Dec.{eqb}
use lib.ListN.{length}
use Rattle.std.proofs.lemmas.Bool.{and_parts}
use Rattle.states.specs.Kept.{is_kept}
use Rattle.exports.specs.Bytes.{words_in}
use Rattle.exports.proofs.Keeps.{write_kept}
use Rattle.exports.proofs.write_in.Goals as goal

pub returns : goal.returns
returns c =
    let h = c.of-held.ensures in
    let f = c.fits_with-fits.ensures in
    let t = c.write_if-written.ensures in
    let n = c.write_number-answer.ensures in
    let x = c.args in
    let u = words_in x.state.now in
    let l = eqb (length x.image.now) u.length in
    record {
      write =
          record {
            reply = simp (n, t.reply, f, h.fits, h.board, h.words);
            state = simp (c.keep.ensures, c.after_write.ensures, n, t.reply, f, h.fits, h.board, h.words) (write_kept x.state.now u x.value x.address (is_kept u && l) (λ e. (and_parts (is_kept u) l e).0) x.prg.now x.chr.now);
            prg_ram = simp (t.prg_ram, f, h.fits, h.board, h.words);
            chr_ram = simp (t.chr_ram, f, h.fits, h.board, h.words);
          };
      parts = simp (c.moved-parts.ensures, t.reply, f, h.fits, h.board, h.words);
    }
