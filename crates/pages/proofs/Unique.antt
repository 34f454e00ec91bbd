-- The pages of a board have one answer, and so have the parts that a change of registers may have moved. The promises are the contracts as they are generated from
-- the source. Assumes nothing.
use mathlib.Core.Path.{◌≡◌, ◌∙◌, sym}
use Rattle.pages.proofs.pages.Reads as pages
use Rattle.pages.proofs.moved.Reads as moved

module _ (κs : _) (a : _) (r r' : _) (s s' : _) (p : pages.Post κs a r s) (q : pages.Post κs a r' s') where
  pub pages_reply : r ≡ r'
  pages_reply = p.reply ∙ sym q.reply

  pub pages_read : s.1.1.0.now ≡ s'.1.1.0.now
  pages_read = p.read_pages ∙ sym q.read_pages

  pub pages_written : s.1.1.1.0.now ≡ s'.1.1.1.0.now
  pages_written = p.write_pages ∙ sym q.write_pages

module _ (κs : _) (a : _) (r r' : _) (s s' : _) (p : moved.Post κs a r s) (q : moved.Post κs a r' s') where
  pub moved_parts : r ≡ r'
  moved_parts = p ∙ sym q
