-- A part with one record more.
use Rattle.std.proofs.Common.{◌≡◌, ℕ, ◌+◌, List, [], ◌∷◌, ◌++◌, length, All, refl, sym, ap, subst, ◌∙◌, arith, length-append}
use Rattle.std.proofs.lemmas.List.Elements.{All-append}
use Rattle.kmc_base.specs.Words.{windows}
use Rattle.kmc_split.specs.Signature.{bin_of}
use Rattle.kmc_base.specs.Record.{spelling, IsSpelled, IsBodyOf}
use Rattle.kmc_base.specs.Lemmas.Whole.{body_push, flat_push}
use Rattle.kmc_record.specs.Parts.{Parcel, IsPart, all_windows, capped}

pub part_grown : (v p : Parcel) → v ≡ p → (codes new : List ℕ) (k n w : ℕ) → IsPart v.bin v.shape v.body v.words → IsSpelled p.shape.k codes
    → All (λ u. bin_of p.shape.m p.shape.n u ≡ p.bin) (windows p.shape.k codes) → n ≡ length (windows p.shape.k codes) → k ≡ v.shape.k
    → new ≡ v.body ++ spelling k codes → w ≡ capped (v.words + n) → IsPart v.bin v.shape new w
part_grown v p is codes new k n w h spelled belong count same more words =
    let fits = subst (λ (q : Parcel). IsSpelled q.shape.k codes × All (λ u. bin_of q.shape.m q.shape.n u ≡ q.bin) (windows q.shape.k codes)
    × (n ≡ length (windows q.shape.k codes))) (sym is) (spelled, belong, count) in
    let ss = h.super_kmers in
    let all : all_windows v.shape.k (ss ++ codes ∷ []) ≡ all_windows v.shape.k ss ++ windows v.shape.k codes = flat_push (windows v.shape.k) ss codes in
    let body : new ≡ v.body ++ spelling v.shape.k codes = more ∙ ap (λ m. v.body ++ spelling m codes) same in
    let P : List ℕ → Type 0 = λ u. bin_of v.shape.m v.shape.n u ≡ v.bin in
    record {
      within = h.within;
      super_kmers = ss ++ codes ∷ [];
      records = subst (IsBodyOf v.shape.k (ss ++ codes ∷ [])) (sym body) (body_push v.shape.k ss codes v.body (spelling v.shape.k codes) h.records fits.0 refl);
      belong = subst (All P) (sym all) (All-append P (all_windows v.shape.k ss) (windows v.shape.k codes) h.belong fits.1);
      count = omega (arith, words, h.count, fits.2, ap length all, length-append (all_windows v.shape.k ss) (windows v.shape.k codes));
    }
