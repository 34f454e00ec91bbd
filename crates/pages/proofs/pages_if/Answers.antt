-- There is room for both, and each call of a closure gave its page's number. Assumes nothing.
use Rattle.std.proofs.Common.{◌≡◌, length, true, rules, refl, arith}
use Rattle.std.proofs.lemmas.Grind.{common_steps}
use Rattle.pages.specs.Pages.{read_page, write_page, is_told, told}
use Rattle.pages.proofs.Listed.{numbers_by}
use Rattle.pages.proofs.pages_if.Goals as goal

pub returns-then-has_room-2 : goal.returns-then-has_room-2
unfolding is_told told
returns-then-has_room-2 c =
    let a = c.args in
    let reads = c.fill in
    let writes = c.fill-then-has_room-2 in
    let t : is_told a.fits a.first (length a.reads.now) (length a.writes.now) ≡ true = grind (arith, common_steps) in
    record {
      reply = rw t refl;
      read_pages = rw t (numbers_by (read_page a.board) a.first _ _ reads.auto.pages (λ k h. let by_call = reads.ensures k h in search rules));
      write_pages = rw t (numbers_by (write_page a.board) a.first _ _ writes.auto.pages (λ k h. let by_call = writes.ensures k h in search rules));
    }
