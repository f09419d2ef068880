use Rattle.std.proofs.Common.{◌≡◌, ℕ, ◌+◌, ◌-◌, ◌<◌, ◌++◌, List, take, drop, ap, sym, subst, ◌∙◌, arith}
use Rattle.std.proofs.lemmas.List.Elements.{All-take, All-drop}
use Rattle.kmc_split.specs.SuperKmer.{IsSuperKmer}
use Rattle.kmc_split.specs.Cut.{run_codes}
use Rattle.kmc_base.specs.Lemmas.Windows.{length_window}
use Rattle.kmc_split.proofs.values.super_kmer.Goals as goal

pub invariant_of-result : goal.invariant_of-result
invariant_of-result c =
    let r = c.args.r in
    let k = c.args.k in
    let codes = c.args.codes.now in
    let n = r.words + (k - 1) in
    let count : (r.start + n) - r.start ≡ n = omega arith in
    let is : c.extend_from_slice.new.self.items ≡ run_codes k codes r =
    c.in_ok-extend_from_slice.ensures.items ∙ ap (λ (l : List ℕ). l ++ take ((r.start + n) - r.start) (drop r.start codes)) c.new-own.ensures.items
    ∙ ap (λ (d : ℕ). take d (drop r.start codes)) count in
    let long = length_window n r.start codes c.requires.inside in
    subst (IsSuperKmer k) (sym is) (record {
      some = c.requires.some;
      limit = c.requires.limit;
      long = omega (arith, long);
      most = omega (arith, long);
      codes = All-take (λ (x : ℕ). x < 4) n (drop r.start codes) (All-drop (λ (x : ℕ). x < 4) r.start codes c.requires.codes);
    })
