-- The promise of a run has one answer: two lengths, texts and RAMs that both meet it are equal. The promises are the contracts as they are generated from the source.
-- Assumes nothing.
use mathlib.Core.Path.{◌≡◌, ◌∙◌, sym}
use Rattle.traces.proofs.is_trace.Reads as is-trace
use Rattle.traces.proofs.run.Reads as run

module _ (κs : _) (a : _) (r r' : _) (s s' : _) (p : is-trace.Post κs a r s) (q : is-trace.Post κs a r' s') where
  pub is_trace_reply : r ≡ r'
  is_trace_reply = p ∙ sym q

module _ (κs : _) (a : _) (r r' : _) (s s' : _) (p : run.Post κs a r s) (q : run.Post κs a r' s') where
  pub run_length : r ≡ r'
  run_length = p.count ∙ sym q.count

  pub run_prg : s.1.0.now ≡ s'.1.0.now
  run_prg = p.prg_ram ∙ sym q.prg_ram

  pub run_chr : s.1.1.0.now ≡ s'.1.1.0.now
  run_chr = p.chr_ram ∙ sym q.chr_ram

  pub run_text : s.1.1.1.0.now ≡ s'.1.1.1.0.now
  run_text = p.shown ∙ sym q.shown
