use Rattle.std.proofs.Common.{◌≡◌, ℕ, List, map, take, ap, sym, ◌∙◌}
use Rattle.std.proofs.lemmas.List.{take_all}
use Rattle.std.proofs.lemmas.List.Folds.{flat_map-map}
use Rattle.kmc_base.specs.Words.{windows}
use Rattle.kmc_split.specs.Cut.{run_words}
use Rattle.kmc_split.specs.SuperKmer.{super_kmer_words}
use Rattle.kmc_split.specs.SuperKmers.{super_kmer_of_run}
use Rattle.kmc_split.specs.CutSuperKmers.{all_words}
use Rattle.kmc_split.proofs.plain.super_kmer.super_kmers.Goals as goal

pub returns-clause-words : goal.returns-clause-words
returns-clause-words c =
    let k = c.args.k in
    let codes = c.args.s.now.codes.items in
    let runs = c.cut.new.runs.items in
    let all : take c.loop-r.r-index c.deref-r-items.result.now ≡ runs = take_all c.loop-r.r-index c.deref-r-items.result.now c.loop-r-test.false
    ∙ c.deref-r-items.ensures.value in
    ap all_words (c.loop-r.invariant ∙ ap (map (super_kmer_of_run k codes)) all)
    ∙ flat_map-map super_kmer_words (super_kmer_of_run k codes) runs
    ∙ ap (λ (l : List ℕ). run_words k l runs) (sym c.deref.ensures.value) ∙ c.in_ok-cut.ensures.words ∙ ap (windows k) c.deref.ensures.value
