use Rattle.std.proofs.Common.{◌≡◌, ◌+◌, ◌-◌, ◌++◌, length, get_or, map, ap, sym, ◌∙◌, arith, append-nil}
use Rattle.std.proofs.lemmas.List.{map_push}
use Rattle.kmc_base.specs.Lemmas.Rolling.{roll_start, roll_key, step_at, fits_at, keys_upto, one_more}
use Rattle.kmc_base.specs.Lemmas.Ranges.{codes_each}
use Rattle.kmc_base.proofs.plain.keys.push_keys.Goals as goal
use Rattle.kmc_base.proofs.plain.keys.push_keys.Goals.{then-i-k+in_ok-push, else-i-k}

pub loop-i-init : goal.loop-i-init
loop-i-init g c =
    let none : 1 - c.args.k ≡ 0 = omega (arith, c.requires.some) in
    let old = map g.W.PackedKmer.number c.args.words.now.items in
    record {
      rolling = roll_start c.args.k c.args.codes.now _ _ c.zero-forward.ensures c.ones-back.ensures;
      pushed = sym (ap (λ n. old ++ keys_upto c.args.strands c.args.k c.args.codes.now n) none ∙ append-nil old);
    }

pub behind-back-requires-clause-back : goal.behind-back-requires-clause-back
behind-back-requires-clause-back g c =
    let num = g.W.PackedKmer.number in
    fits_at c.args.k c.requires.some c.args.codes.now c.loop-i.i (num c.loop-i.forward) (num c.loop-i.back) (num c.top-top.result)
    (codes_each c.args.codes.now c.requires.codes)
    c.loop-i-test.true c.top-top.ensures c.loop-i.invariant.rolling

pub loop-i-preserved : goal.loop-i-preserved
loop-i-preserved g c =
    let num = g.W.PackedKmer.number in
    let s = c.args.codes.now in
    let k = c.args.k in
    let codes = codes_each s c.requires.codes in
    let rolled = step_at k c.requires.some s c.loop-i.i _ (num c.loop-i.forward) (num c.loop-i.back) (num c.ahead-forward.result)
    (num c.behind-back.result) (num c.top-top.result)
    codes c.loop-i-test.true (λ _. get_or s c.loop-i.i 0) c.top-top.ensures c.ahead-forward.ensures c.behind-back.ensures c.loop-i.invariant.rolling in
    let old = map num c.args.words.now.items in
    record {
      rolling = rolled;
      pushed = elim c.if-i-k.branch [
        | then-i-k+in_ok-push w ↦ one_more c.args.strands k s (c.loop-i.i + 1 - k) (c.loop-i.i + 1 + 1 - k) (num w.packed_key.result)
            (map num c.loop-i.words.items) _ old
            (ap (λ v. map num v.items) w.words-is ∙ ap (map num) w.in_ok-push.ensures.items ∙ map_push num c.loop-i.words.items w.packed_key.result)
            (w.packed_key.ensures ∙ roll_key c.args.strands k s (c.loop-i.i + 1) (num c.ahead-forward.result)
            (num c.behind-back.result) codes w.if-i-k.true rolled)
            (omega arith) c.loop-i.invariant.pushed
        | else-i-k w ↦
            let same : c.loop-i.i + 1 - k ≡ c.loop-i.i + 1 + 1 - k = omega (arith, w.if-i-k.false) in
            ap (λ v. map num v.items) w.words-is ∙ c.loop-i.invariant.pushed ∙ ap (λ n. old ++ keys_upto c.args.strands k s n) same
      ];
    }

pub returns : goal.returns
returns g c =
    let s = c.args.codes.now in
    let end : c.loop-i.i + 1 - c.args.k ≡ length s + 1 - c.args.k = omega arith in
    c.loop-i.invariant.pushed ∙ ap (λ n. map g.W.PackedKmer.number c.args.words.now.items ++ keys_upto c.args.strands c.args.k s n) end
