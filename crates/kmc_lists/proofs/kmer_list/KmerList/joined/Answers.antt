use Rattle.std.proofs.Common.{◌≡◌, ◌<◌, ◌^◌, ◌++◌, All, length, length-append, map, sym, ap, subst, ◌∙◌, arith}
use Rattle.std.specs.List.{zip}
use Rattle.std.proofs.lemmas.List.{map-append}
use Rattle.std.proofs.lemmas.List.Elements.{All-append}
use Rattle.kmc_lists.proofs.Beside.{zip_joined}
use Rattle.kmc_lists.proofs.kmer_list.KmerList.joined.Goals as goal

pub returns : goal.returns
returns g c =
    let num = g.W.PackedKmer.number in
    let cnt = g.C.CountWidth.count in
    let ws = c.self.inside.words.items in
    let us = c.self.inside.counts.items in
    let ms = c.other.inside.words.items in
    let ds = c.other.inside.counts.items in
    let a : map num c.append.new.self.items ≡ map num ws ++ map num ms = ap (map num) c.in_ok-append.ensures.items ∙ map-append num ws ms in
    let b : map cnt c.append-2.new.self.items ≡ map cnt us ++ map cnt ds = ap (map cnt) c.in_ok-append-2.ensures.items ∙ map-append cnt us ds in
    let e : zip (map num c.append.new.self.items) (map cnt c.append-2.new.self.items) ≡ zip (map num ws) (map cnt us) ++ zip (map num ms) (map cnt ds) =
    (λ i. zip (a i) (b i)) ∙ zip_joined (map num ws) (map num ms) (map cnt us) (map cnt ds) c.self.invariant.long in
    (λ i. record { k = c.self.inside.k; packed = e i })
    ∙ (λ i. record { k = (c.self.view_is i).k; packed = (c.self.view_is i).packed ++ (c.other.view_is i).packed })

pub invariant_of-result : goal.invariant_of-result
invariant_of-result g c =
    let num = g.W.PackedKmer.number in
    let cnt = g.C.CountWidth.count in
    let ws = c.self.inside.words.items in
    let us = c.self.inside.counts.items in
    let ms = c.other.inside.words.items in
    let ds = c.other.inside.counts.items in
    let own = c.self.invariant in
    let more = c.other.invariant in
    let k = c.self.inside.k in
    let same : c.other.inside.k ≡ k = (λ i. (c.other.view_is i).k) ∙ c.requires ∙ sym (λ i. (c.self.view_is i).k) in
    let a : map num c.append.new.self.items ≡ map num ws ++ map num ms = ap (map num) c.in_ok-append.ensures.items ∙ map-append num ws ms in
    let b : map cnt c.append-2.new.self.items ≡ map cnt us ++ map cnt ds = ap (map cnt) c.in_ok-append-2.ensures.items ∙ map-append cnt us ds in
    record {
      some = own.some;
      most = own.most;
      long = omega (
        arith,
        ap length a,
        ap length b,
        own.long,
        more.long,
        length-append (map num ws) (map num ms),
        length-append (map cnt us) (map cnt ds),
      );
      fit = subst (All (λ n. n < 4 ^ k)) (sym a)
          (All-append (λ n. n < 4 ^ k) (map num ws) (map num ms) own.fit (subst (λ m. All (λ n. n < 4 ^ m) (map num ms)) same more.fit));
    }
