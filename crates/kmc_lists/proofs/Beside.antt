-- Words and counts in two lists, as the list of their pairs.
use Rattle.std.proofs.Common.{◌≡◌, ℕ, ◌<◌, ◌^◌, All, List, [], ◌∷◌, ◌++◌, length, refl, sym, ap, ◌∙◌, subst, arith}
use Rattle.std.specs.List.{zip}
use Rattle.std.proofs.lemmas.List.{map-append}
use Rattle.std.proofs.lemmas.List.Elements.{All-push}
use Rattle.std.proofs.lemmas.Slice.Zip.{length-zip, get_or-zip}
use Rattle.kmc_base.specs.Packed.{unpack}
use Rattle.kmc_lists.specs.Listed.{Listed, spell, pairs_of, IsListOf}

pub long_beside : (ns cs : List ℕ) → length cs ≡ length ns → length (zip ns cs) ≡ length ns
long_beside ns cs e = omega (arith, length-zip ns cs, e)

pub fit_beside : (m : ℕ) (ns cs : List ℕ) → length cs ≡ length ns → All (λ n. n < m) ns → All (λ p. p.0 < m) (zip ns cs)
fit_beside m ns cs e h = λ i d inside.
    let here : i < length ns = omega (arith, inside, long_beside ns cs e) in
    subst (λ (p : ℕ × ℕ). p.0 < m) (sym (get_or-zip ns cs i d here (omega (arith, here, e)))) (h i d.0 here)

pub zip_joined : (ns ms cs ds : List ℕ) → length cs ≡ length ns → zip (ns ++ ms) (cs ++ ds) ≡ zip ns cs ++ zip ms ds
zip_joined [] ms [] ds e = refl
zip_joined [] ms (c ∷ cs) ds e = absurd (omega (arith, e))
zip_joined (n ∷ ns) ms [] ds e = absurd (omega (arith, e))
zip_joined (n ∷ ns) ms (c ∷ cs) ds e = ap (λ (t : List (ℕ × ℕ)). (n, c) ∷ t) (zip_joined ns ms cs ds (omega (arith, e)))

-- a list of words of k codes with one pair more
module _ (k : ℕ) (old new : Listed) (n c : ℕ) (list : IsListOf k old) (is : new ≡ record { k = old.k; packed = old.packed ++ (n, c) ∷ [] }) where
  pub one_more : pairs_of new ≡ pairs_of old ++ (unpack k n, c) ∷ []
  one_more = ap pairs_of is ∙ map-append (spell old.k) old.packed ((n, c) ∷ []) ∙ ap (λ (m : ℕ). pairs_of old ++ (unpack m n, c) ∷ []) list.same

  pub still_listed : n < 4 ^ k → IsListOf k new
  still_listed fits = subst (IsListOf k) (sym is) record { same = list.same; fit = All-push (λ p. p.0 < 4 ^ k) old.packed (n, c) list.fit fits }
