-- Each exported promise has one answer: two numbers, states, fields, digits, pages and RAMs that both meet it are equal. The promises are the contracts as they are
-- generated from the source. Assumes nothing.
use mathlib.Core.Path.{◌≡◌, ◌∙◌, sym}
use Rattle.exports.proofs.biekkarul_header.Reads as header
use Rattle.exports.proofs.biekkarul_load.Reads as load
use Rattle.exports.proofs.biekkarul_read.Reads as read
use Rattle.exports.proofs.biekkarul_write.Reads as write
use Rattle.exports.proofs.biekkarul_write_moved.Reads as write-moved
use Rattle.exports.proofs.biekkarul_clock.Reads as clock
use Rattle.exports.proofs.biekkarul_digits.Reads as digits
use Rattle.exports.proofs.biekkarul_pages.Reads as pages
use Rattle.exports.proofs.biekkarul_version.Reads as version

module _ (κs : _) (a : _) (r r' : _) (s s' : _) (p : header.Post κs a r s) (q : header.Post κs a r' s') where
  pub header_reply : r ≡ r'
  header_reply = p.reply ∙ sym q.reply

  pub header_fields : s.1.0.now ≡ s'.1.0.now
  header_fields = p.fields ∙ sym q.fields

module _ (κs : _) (a : _) (r r' : _) (s s' : _) (p : load.Post κs a r s) (q : load.Post κs a r' s') where
  pub load_reply : r ≡ r'
  load_reply = p.reply ∙ sym q.reply

  pub load_state : s.1.1.0.now ≡ s'.1.1.0.now
  load_state = p.state ∙ rw (load_reply) (sym q.state)

  pub load_prg : s.1.1.1.0.now ≡ s'.1.1.1.0.now
  load_prg = p.prg_ram ∙ sym q.prg_ram

  pub load_chr : s.1.1.1.1.0.now ≡ s'.1.1.1.1.0.now
  load_chr = p.chr_ram ∙ sym q.chr_ram

module _ (κs : _) (a : _) (r r' : _) (s s' : _) (p : read.Post κs a r s) (q : read.Post κs a r' s') where
  pub read_reply : r ≡ r'
  read_reply = p ∙ sym q

module _ (κs : _) (a : _) (r r' : _) (s s' : _) (p : write.Post κs a r s) (q : write.Post κs a r' s') where
  pub write_reply : r ≡ r'
  write_reply = p.reply ∙ sym q.reply

  pub write_state : s.0.now ≡ s'.0.now
  write_state = p.state ∙ rw (write_reply) (sym q.state)

  pub write_prg : s.1.1.0.now ≡ s'.1.1.0.now
  write_prg = p.prg_ram ∙ sym q.prg_ram

  pub write_chr : s.1.1.1.0.now ≡ s'.1.1.1.0.now
  write_chr = p.chr_ram ∙ sym q.chr_ram

module _ (κs : _) (a : _) (r r' : _) (s s' : _) (p : write-moved.Post κs a r s) (q : write-moved.Post κs a r' s') where
  pub write_moved_reply : r ≡ r'
  write_moved_reply = p.reply ∙ sym q.reply

  pub write_moved_state : s.0.now ≡ s'.0.now
  write_moved_state = p.left.state ∙ sym q.left.state

  pub write_moved_prg : s.1.1.0.now ≡ s'.1.1.0.now
  write_moved_prg = p.left.prg_ram ∙ sym q.left.prg_ram

  pub write_moved_chr : s.1.1.1.0.now ≡ s'.1.1.1.0.now
  write_moved_chr = p.left.chr_ram ∙ sym q.left.chr_ram

module _ (κs : _) (a : _) (r r' : _) (s s' : _) (p : clock.Post κs a r s) (q : clock.Post κs a r' s') where
  pub clock_reply : r ≡ r'
  clock_reply = p.reply ∙ sym q.reply

  pub clock_state : s.0.now ≡ s'.0.now
  clock_state = p.state ∙ rw (clock_reply) (sym q.state)

module _ (κs : _) (a : _) (r r' : _) (s s' : _) (p : digits.Post κs a r s) (q : digits.Post κs a r' s') where
  pub digits_reply : r ≡ r'
  digits_reply = p.reply ∙ sym q.reply

  pub digits_shown : s.1.0.now ≡ s'.1.0.now
  digits_shown = p.digits ∙ sym q.digits

module _ (κs : _) (a : _) (r r' : _) (s s' : _) (p : pages.Post κs a r s) (q : pages.Post κs a r' s') where
  pub pages_reply : r ≡ r'
  pages_reply = p.reply ∙ sym q.reply

  pub pages_read : s.1.1.0.now ≡ s'.1.1.0.now
  pages_read = p.read_pages ∙ sym q.read_pages

  pub pages_written : s.1.1.1.0.now ≡ s'.1.1.1.0.now
  pages_written = p.write_pages ∙ sym q.write_pages

module _ (κs : _) (a : _) (r r' : _) (s s' : _) (p : version.Post κs a r s) (q : version.Post κs a r' s') where
  pub version_reply : r ≡ r'
  version_reply = p ∙ sym q
