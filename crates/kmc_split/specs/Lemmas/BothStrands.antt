-- A word and its reverse complement have the same candidates.
use Rattle.std.proofs.Common.{◌≡◌, ℕ, ◌-◌, ◌^◌, ◌≤◌, Bool, true, false, cond, List, length, min, refl, sym, ap, ◌∙◌, arith}
use Rattle.std.specs.Ordering.{is_lt}
use Rattle.kmc_base.specs.Words.{rev_comp, canonical, word_cmp, window}
use Rattle.kmc_base.specs.Lemmas.Packs.{AreCodes, length_rev_comp, length_canonical, canonical_rev_comp}
use Rattle.kmc_base.specs.Lemmas.Rolling.{codes_part}
use Rattle.kmc_split.specs.Signature.{signature_of}
use Rattle.kmc_split.specs.Lemmas.Lowest.{low_back}
use Rattle.kmc_base.specs.Lemmas.Mirrored.{window_back}
use Rattle.kmc_split.specs.Candidates.{value_or}
use Rattle.kmc_split.specs.Lemmas.Least.{least_form_is}

value_same : (most : ℕ) (v : List ℕ) → AreCodes v → value_or most (canonical (rev_comp v)) ≡ value_or most (canonical v)
value_same most v h = ap (value_or most) (canonical_rev_comp v h)

pub strands_share : (m : ℕ) (w : List ℕ) → m ≤ length w → AreCodes w → signature_of m (rev_comp w) ≡ signature_of m w
strands_share m w within h =
    let n = length w - m in
    let at : ℕ → ℕ = λ j. min (4 ^ m) (value_or (4 ^ m) (canonical (window m w j))) in
    let bt : ℕ → ℕ = λ j. min (4 ^ m) (value_or (4 ^ m) (canonical (window m (rev_comp w) j))) in
    sym (least_form_is (4 ^ m) m n (rev_comp w) bt (omega (arith, length_rev_comp w)) (λ j less. refl))
    ∙ low_back at bt n
    (λ j less. ap (λ v. min (4 ^ m) (value_or (4 ^ m) (canonical v))) (window_back m j w (omega arith)) ∙ ap (min (4 ^ m))
    (value_same (4 ^ m) (window m w (n - j)) (codes_part m (n - j) w h)))
    ∙ least_form_is (4 ^ m) m n w at (omega arith) (λ j less. refl)

canonical_shares : (m : ℕ) (w : List ℕ) → m ≤ length w → AreCodes w → signature_of m (canonical w) ≡ signature_of m w
canonical_shares m w within h = go (is_lt (word_cmp (rev_comp w) w))
  where
    go : (b : Bool) → signature_of m (cond b (rev_comp w) w) ≡ signature_of m w
    go true = strands_share m w within h
    go false = refl

pub canonical_fixes : (m : ℕ) (v w : List ℕ) → m ≤ length w → AreCodes v → AreCodes w → canonical v ≡ canonical w → signature_of m v ≡ signature_of m w
canonical_fixes m v w within hv hw e =
    let long : length v ≡ length w = sym (length_canonical v) ∙ ap length e ∙ length_canonical w in
    sym (canonical_shares m v (omega arith) hv) ∙ ap (signature_of m) e ∙ canonical_shares m w within hw
