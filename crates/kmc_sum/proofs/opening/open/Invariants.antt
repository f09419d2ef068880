use Rattle.std.proofs.Common.{◌≡◌, ◌≤◌, length, map}
use Rattle.kmc_base.specs.declared.kmer.TheConstants.{MAX_K}
use Rattle.kmc_sum.specs.Sources.{AreOpened}
use Rattle.kmc_sum.proofs.Openings.{HasBegun}
use Rattle.kmc_sum.proofs.opening.open.Given as goal

-- the sources so far are opened
abbrev pub invariant-loop-i : goal.invariant-loop-i
invariant-loop-i g l = record {
  many : length l.readers ≡ length l.initial.readers;
  same : map (λ r. r.failures) l.readers ≡ map (λ r. r.failures) l.initial.readers;
  most : l.k ≤ MAX_K;
  begun : 1 ≤ l.k → HasBegun l.k l.i (map (λ r. g.R.Read.remaining r.inner) l.initial.readers) (map (λ r. g.R.Read.remaining r.inner) l.readers);
  opened : AreOpened l.k (length l.initial.readers) l.i (map (λ r. g.R.Read.remaining r.inner) l.initial.readers)
      (map (λ r. g.R.Read.remaining r.inner) l.readers) l.rooms l.heads;
}
