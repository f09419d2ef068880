use Rattle.std.proofs.Common.{◌≡◌, ℕ, ◌↔◌, IsTrue, List, subst}
use Rattle.std.specs.List.{All}
use Rattle.kmc_base.specs.Words.{windows}
use Rattle.kmc_split.specs.Signature.{bin_of}
use Rattle.kmc_split.specs.SuperKmer.{super_kmer_words}
use Rattle.kmc_split.proofs.values.SuperKmer.in_bin.Goals as goal

pub returns : goal.returns
returns c =
    let same : windows c.k.result c.codes.result.now ≡ super_kmer_words c.args.self.now = (λ i. windows (c.k.ensures.is i) (c.codes.ensures.are i)) in
    subst (λ (ws : List (List ℕ)). IsTrue c.words_in_bin.result ↔ All
    (λ (w : List ℕ). bin_of c.args.m c.args.n w ≡ c.args.bin) ws) same c.words_in_bin.ensures
