-- Parts while they grow.
use Rattle.std.proofs.Common.{◌≡◌, ◌≢◌, ℕ, ◌+◌, ◌-◌, ◌^◌, ◌<◌, ◌≤◌, nat_eq, Bool, true, false, cond, List, [], ◌∷◌, ◌++◌, length, map, get_or, set, drop, refl, sym, ap, subst, ◌∙◌, arith, append_assoc, append-nil, length-append}
use Rattle.std.proofs.lemmas.List.{get_or-set_same, get_or-set_other, length-set}
use Rattle.std.proofs.lemmas.List.Elements.{All-head, All-tail, All-filter, All-take, All-drop, recursion_from_All}
use Rattle.std.proofs.lemmas.List.Concat.{flat_map-append}
use Rattle.std.proofs.lemmas.Bool.Decides.{nat_tests}
use Rattle.std.specs.List.{All, flat_map, filter}
use Rattle.kmc_base.specs.Words.{window, windows}
use Rattle.kmc_base.specs.Stretches.{Stretch}
use Rattle.kmc_split.specs.declared.runs.Run.{Run}
use Rattle.kmc_split.specs.Cut.{IsRunOf, run_codes}
use Rattle.kmc_split.specs.Signature.{signature_of, bin_of, bin_of_signature}
use Rattle.kmc_base.specs.Lemmas.Windows.{length_windows, length_window, window_front}
use Rattle.kmc_base.specs.Record.{spelling, IsSpelled}
use Rattle.kmc_record.specs.Shapes.{Sizes}
use Rattle.kmc_record.specs.Parts.{Parcel, all_windows, capped, grown, bin_runs, AreCuts, bin_super_kmers}
use Rattle.kmc_record.specs.GrowingParts.{AreForBins, HaveGrown}

grown_none : (k : ℕ) (p : Parcel) → p.words ≤ 2 ^ 64 - 1 → grown k [] p ≡ p
grown_none k p h =
    let e : capped (p.words + 0) ≡ p.words = omega arith in
    (λ i. record p { body = append-nil p.body i; words = e i })

grown_twice : (k : ℕ) (f g : List (List ℕ)) (p : Parcel) → grown k g (grown k f p) ≡ grown k (f ++ g) p
grown_twice k f g p =
    let body : (p.body ++ flat_map (spelling k) f) ++ flat_map (spelling k) g ≡ p.body ++ flat_map (spelling k) (f ++ g) =
    append_assoc p.body (flat_map (spelling k) f) (flat_map (spelling k) g) ∙ ap (λ (t : List ℕ). p.body ++ t) (sym (flat_map-append (spelling k) f g)) in
    let words : capped (capped (p.words + length (all_windows k f)) + length (all_windows k g)) ≡ capped (p.words + length (all_windows k (f ++ g))) =
    omega (arith, ap length (flat_map-append (windows k) f g), length-append (all_windows k f) (all_windows k g)) in
    (λ i. record p { body = body i; words = words i })

-- ---- one part for each bin

pub grown_start : (shape : Sizes) (k : ℕ) (parts : List Parcel) → AreForBins shape parts → HaveGrown k (λ j. []) parts parts
grown_start shape k parts are = record {
  count = refl;
  each = λ j d h. sym (grown_none k (get_or parts j d) (are.most j d (omega (arith, are.count))));
}

pub grown_as : (k : ℕ) (f g : ℕ → List (List ℕ)) (a b : List Parcel) → ((j : ℕ) → f j ≡ g j) → HaveGrown k f a b → HaveGrown k g a b
grown_as k f g a b same h = record {
  count = h.count;
  each = λ j d l. h.each j d l ∙ ap (λ ss. grown k ss (get_or a j d)) (same j);
}

pub grown_more : (k : ℕ) (f g : ℕ → List (List ℕ)) (a b c : List Parcel) → HaveGrown k f a b → HaveGrown k g b c → HaveGrown k (λ j. f j ++ g j) a c
grown_more k f g a b c h more = record {
  count = more.count ∙ h.count;
  each = λ j d l. more.each j d (omega (arith, h.count)) ∙ ap (grown k (g j)) (h.each j d l) ∙ grown_twice k (f j) (g j) (get_or a j d);
}

pub grown_for_bins : (shape : Sizes) (k : ℕ) (f : ℕ → List (List ℕ)) (a b : List Parcel) → AreForBins shape a → HaveGrown k f a b → AreForBins shape b
grown_for_bins shape k f a b are h = record {
  count = h.count ∙ are.count;
  bin = λ j d l. ap (λ (p : Parcel). p.bin) (h.each j d (omega (arith, are.count))) ∙ are.bin j d l;
  shaped = λ j d l. ap (λ (p : Parcel). p.shape) (h.each j d (omega (arith, are.count))) ∙ are.shaped j d l;
  most = λ j d l. omega (arith, ap (λ (p : Parcel). p.words) (h.each j d (omega (arith, are.count))));
}

-- ---- one run

pub run_grown : (shape : Sizes) (k n b : ℕ) (codes : List ℕ) (r : Run) (parts : List Parcel) (v : Parcel) → AreForBins shape parts → b
    ≡ bin_of_signature n r.signature → b < length parts
    → ((d : Parcel) → v ≡ grown k (run_codes k codes r ∷ []) (get_or parts b d)) → HaveGrown k (λ j. bin_runs k n j codes (r ∷ [])) parts (set parts b v)
run_grown shape k n b codes r parts v are at inside is = record {
  count = length-set parts b v;
  each = λ j d l. go j d l (nat_eq (bin_of_signature n r.signature) j) refl;
}
  where
    go : (j : ℕ) (d : Parcel) → j < length parts → (t : Bool) → nat_eq (bin_of_signature n r.signature) j ≡ t
        → get_or (set parts b v) j d ≡ grown k (map (run_codes k codes) (cond t (r ∷ []) [])) (get_or parts j d)
    go j d l true e =
        let same : b ≡ j = at ∙ grind (arith, nat_tests) in
        let here : get_or (set parts b v) b d ≡ grown k (run_codes k codes r ∷ []) (get_or parts b d) = get_or-set_same parts b v d inside ∙ is d in
        ap (λ i. get_or (set parts b v) i d) (sym same) ∙ here ∙ ap (λ i. grown k (run_codes k codes r ∷ []) (get_or parts i d)) same
    go j d l false e =
        let other : bin_of_signature n r.signature ≢ j = grind (arith, nat_tests) in
        let ne : j ≢ b = λ s. other (sym at ∙ sym s) in
        get_or-set_other parts b j v d ne ∙ sym (grown_none k (get_or parts j d) (are.most j d (omega (arith, are.count))))

-- ---- segment after segment

pub cuts_append : (k m : ℕ) (ss ts : List Stretch) (cs ds : List (List Run)) → AreCuts k m ss cs → AreCuts k m ts ds → AreCuts k m (ss ++ ts) (cs ++ ds)
cuts_append k m [] ts [] ds h g = g
cuts_append k m [] ts (c ∷ cs) ds h g = absurd h
cuts_append k m (s ∷ ss) ts [] ds h g = absurd h
cuts_append k m (s ∷ ss) ts (c ∷ cs) ds h g = (h.0, cuts_append k m ss ts cs ds h.1 g)

pub super_kmers_append : (k m n j : ℕ) (ss ts : List Stretch) (cs ds : List (List Run)) → AreCuts k m ss cs
    → bin_super_kmers k n j ss cs ++ bin_super_kmers k n j ts ds ≡ bin_super_kmers k n j (ss ++ ts) (cs ++ ds)
super_kmers_append k m n j [] ts [] ds h = refl
super_kmers_append k m n j [] ts (c ∷ cs) ds h = absurd h
super_kmers_append k m n j (s ∷ ss) ts [] ds h = absurd h
super_kmers_append k m n j (s ∷ ss) ts (c ∷ cs) ds h =
    append_assoc (bin_runs k n j s.codes c) (bin_super_kmers k n j ss cs) (bin_super_kmers k n j ts ds)
    ∙ ap (λ (t : List (List ℕ)). bin_runs k n j s.codes c ++ t) (super_kmers_append k m n j ss ts cs ds h.1)

-- ---- a run is a record of its bin

pub run_words : (k m : ℕ) (codes x : List ℕ) (r : Run) → 1 ≤ k → IsRunOf k m codes r → x ≡ run_codes k codes r → r.words ≡ length (windows k x)
run_words k m codes x r some h is = omega (arith, length_windows k x, ap length is, length_window (r.words + (k - 1)) r.start codes h.inside)

pub run_spelled : (k m : ℕ) (codes x : List ℕ) (r : Run) → 1 ≤ k → IsRunOf k m codes r → All (λ c. c < 4) codes → x ≡ run_codes k codes r → IsSpelled k x
run_spelled k m codes x r some h small is =
    let long = length_window (r.words + (k - 1)) r.start codes h.inside in
    let P : ℕ → Type 0 = λ c. c < 4 in
    record {
      least = omega (arith, ap length is, long, h.some);
      most = omega (arith, ap length is, long, h.most);
      codes = recursion_from_All P x (subst (All P) (sym is) (All-take P (r.words + (k - 1)) (drop r.start codes) (All-drop P r.start codes small)));
    }

pub run_belongs : (k m n b : ℕ) (codes x : List ℕ) (r : Run) → IsRunOf k m codes r → b ≡ bin_of_signature n r.signature → x ≡ run_codes k codes r → All
    (λ w. bin_of m n w ≡ b) (windows k x)
run_belongs k m n b codes x r h at is =
    let one : All (λ w. signature_of m w ≡ r.signature) (windows k x) = subst
    (λ (t : List ℕ). All (λ w. signature_of m w ≡ r.signature) (windows k t)) (sym is) h.one in
    λ i d l. ap (bin_of_signature n) (one i d l) ∙ sym at

pub packed_run : (k kr : ℕ) (codes : List ℕ) (r : Run) → kr ≡ k → window (r.words + (kr - 1)) codes r.start ≡ run_codes k codes r
packed_run k kr codes r is = ap (λ n. window (r.words + (n - 1)) codes r.start) is

-- ---- codes behind a segment change none of its runs

run_before : (k m : ℕ) (codes more : List ℕ) (r : Run) → IsRunOf k m codes r → run_codes k (codes ++ more) r ≡ run_codes k codes r
run_before k m codes more r h = window_front (r.words + (k - 1)) r.start codes more h.inside

pub runs_before : (k m : ℕ) (codes more : List ℕ) (runs : List Run) → All (IsRunOf k m codes) runs → All (IsRunOf k m (codes ++ more)) runs
runs_before k m codes more runs h = λ i d l.
    let r = get_or runs i d in
    let one = h i d l in
    record {
      some = one.some;
      most = one.most;
      inside = omega (arith, one.inside, length-append codes more);
      one = subst (λ (t : List ℕ). All (λ w. signature_of m w ≡ r.signature) (windows k t)) (sym (run_before k m codes more r one)) one.one;
    }

map_same : (f g : Run → List ℕ) (runs : List Run) → All (λ r. f r ≡ g r) runs → map f runs ≡ map g runs
map_same f g [] h = refl
map_same f g (r ∷ runs) h =
    (λ i. All-head (λ (x : Run). f x ≡ g x) r runs h i ∷ map_same f g runs (All-tail (λ (x : Run). f x ≡ g x) r runs h) i)

pub bin_runs_before : (k m n j : ℕ) (codes more : List ℕ) (runs : List Run) → All (IsRunOf k m codes) runs → bin_runs k n j (codes ++ more) runs
    ≡ bin_runs k n j codes runs
bin_runs_before k m n j codes more runs h =
    let kept = filter (λ (r : Run). nat_eq (bin_of_signature n r.signature) j) runs in
    map_same (run_codes k (codes ++ more)) (run_codes k codes) kept
    (λ i d l. run_before k m codes more _ (All-filter (λ (r : Run). nat_eq (bin_of_signature n r.signature) j) (IsRunOf k m codes) runs h i d l))
