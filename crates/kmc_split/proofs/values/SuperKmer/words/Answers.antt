use Rattle.std.proofs.Common.{◌≡◌, ◌+◌, ◌-◌, length, ap, ◌∙◌, arith}
use Rattle.kmc_split.specs.SuperKmer.{SuperKmerValue, super_kmer_words}
use Rattle.kmc_base.specs.Lemmas.Windows.{length_windows}
use Rattle.kmc_split.proofs.values.SuperKmer.words.Goals as goal

pub returns-clause-is : goal.returns-clause-is
returns-clause-is c =
    let count = length_windows c.self.inside.k c.self.inside.codes.items in
    let same : length (super_kmer_words (record { k = c.self.inside.k; codes = c.self.inside.codes.items })) ≡ length (super_kmer_words c.args.self.now) = ap
    (λ (s : SuperKmerValue). length (super_kmer_words s)) c.self.view_is in
    let here : (c.len.result - c.self.inside.k) + 1 ≡ length (super_kmer_words (record { k = c.self.inside.k; codes = c.self.inside.codes.items })) =
    omega (arith, count) in
    here ∙ same
