-- Each public promise has one answer: two replies, boards and RAMs that both meet it are equal. The promises are the contracts as they are generated from the source.
-- Assumes nothing.
use mathlib.Core.Path.{◌≡◌, ap, ◌∙◌, sym}
use Rattle.cartridge.proofs.Header.parse.Reads as parse
use Rattle.cartridge.proofs.Header.total_size_excluding_header.Reads as size
use Rattle.cartridge.proofs.Cartridge.load.Reads as cartridge-load
use Rattle.boards.proofs.load.Reads as board-load
use Rattle.boards.proofs.Board.in_range.Reads as is_in_range
use Rattle.boards.proofs.Board.read.Reads as board-read
use Rattle.boards.proofs.Board.write.Reads as board-write
use Rattle.boards.proofs.Board.clock.Reads as board-clock
use Rattle.boards.proofs.Board.play.Reads as board-play
use Rattle.boards.specs.Runs.{Moment}

module _ (κs : _) (a : _) (r r' : _) (s s' : _) (p : parse.Post κs a r s) (q : parse.Post κs a r' s') where
  pub header_reply : r ≡ r'
  header_reply = p ∙ sym q

module _ (κs : _) (a : _) (r r' : _) (s s' : _) (p : size.Post κs a r s) (q : size.Post κs a r' s') where
  pub size_reply : r ≡ r'
  size_reply = p ∙ sym q

module _ (κs : _) (a : _) (r r' : _) (s s' : _) (p : cartridge-load.Post κs a r s) (q : cartridge-load.Post κs a r' s') where
  pub cartridge_reply : r ≡ r'
  cartridge_reply = p.reply ∙ sym q.reply

  pub cartridge_prg : s.1.1.0.now ≡ s'.1.1.0.now
  cartridge_prg = p.prg_ram ∙ sym q.prg_ram

  pub cartridge_chr : s.1.1.1.0.now ≡ s'.1.1.1.0.now
  cartridge_chr = p.chr_ram ∙ sym q.chr_ram

module _ (κs : _) (a : _) (r r' : _) (s s' : _) (p : board-load.Post κs a r s) (q : board-load.Post κs a r' s') where
  pub load_reply : r ≡ r'
  load_reply = p.reply ∙ sym q.reply

  pub load_prg : s.1.1.0.now ≡ s'.1.1.0.now
  load_prg = p.prg_ram ∙ sym q.prg_ram

  pub load_chr : s.1.1.1.0.now ≡ s'.1.1.1.0.now
  load_chr = p.chr_ram ∙ sym q.chr_ram

module _ (κs : _) (a : _) (r r' : _) (s s' : _) (p : is_in_range.Post κs a r s) (q : is_in_range.Post κs a r' s') where
  pub in_range_reply : r ≡ r'
  in_range_reply = p ∙ sym q

module _ (κs : _) (a : _) (r r' : _) (s s' : _) (p : board-read.Post κs a r s) (q : board-read.Post κs a r' s') where
  pub read_reply : r ≡ r'
  read_reply = p ∙ sym q

module _ (κs : _) (a : _) (r r' : _) (s s' : _) (p : board-write.Post κs a r s) (q : board-write.Post κs a r' s') where
  pub write_reply : r ≡ r'
  write_reply = p.reply ∙ sym q.reply

  pub write_prg : s.1.1.0.now ≡ s'.1.1.0.now
  write_prg = p.prg_ram ∙ sym q.prg_ram

  pub write_chr : s.1.1.1.0.now ≡ s'.1.1.1.0.now
  write_chr = p.chr_ram ∙ sym q.chr_ram

module _ (κs : _) (a : _) (r r' : _) (s s' : _) (p : board-clock.Post κs a r s) (q : board-clock.Post κs a r' s') where
  pub clock_reply : r ≡ r'
  clock_reply = p ∙ sym q

module _ (κs : _) (a : _) (r r' : _) (s s' : _) (p : board-play.Post κs a r s) (q : board-play.Post κs a r' s') where
  pub play_reply : r ≡ r'
  play_reply = λ i. record { left = ((p.moves ∙ sym q.moves) i).board; answer = (p.says ∙ sym q.says) i }

  pub play_prg : s.1.1.1.0.now ≡ s'.1.1.1.0.now
  play_prg = ap (λ (m : Moment). m.lent.prg) (p.moves ∙ sym q.moves)

  pub play_chr : s.1.1.1.1.0.now ≡ s'.1.1.1.1.0.now
  play_chr = ap (λ (m : Moment). m.lent.chr) (p.moves ∙ sym q.moves)
