-- What is asked for is asked for once.
use Rattle.std.proofs.Common.{◌≡◌, ℕ, Bool, cond, List, [], ◌∷◌, Some, None, refl, sym, ap, subst, ◌∙◌}
use Rattle.std.specs.Prelude.{find, is_some, not}
use Rattle.std.specs.List.{filter}
use Rattle.clap.specs.Walk.{Row}
use Rattle.kmc_options.specs.Words.{Word}
use Rattle.kmc_options.specs.declared.program.Program.TheVariants.{KmcCut}
use Rattle.kmc_options.specs.declared.run_params.Params.{Params}
use Rattle.kmc_options.specs.declared.setting.Setting.{Setting}
use Rattle.kmc_options.specs.declared.setting.Setting.TheVariants.{K, P, N, Ci, Cx, Cs, Sp, Sr}
use Rattle.kmc_options.specs.CommandLine.{found, value_of}
use Rattle.kmc_options.specs.Options.{AreGiven, first_out_of_range}
use Rattle.kmc_options.specs.Spelling.{is_slices}
use Rattle.kmc_options.specs.SliceWords.{joined}
use Rattle.kmc_options.specs.Requests.{IsCutRequest, IsNumberOfSlices, options_of}
use Rattle.kmc_options.specs.declared.slices.cutting.CutRequest.{CutRequest}

same_first : {X : Type 0} (x y : X) → x ∷ [] ≡ y ∷ [] → x ≡ y
same_first x y is = cc is

same_some : {X : Type 0} (x y : X) → Some x ≡ Some y → x ≡ y
same_some x y is = cc is

-- the word that gives the slices and the bins that are given leave no choice
pub slices_asked : (words : List Word) (r : CutRequest) (word : Word) (p : Params) → filter is_slices (joined words) ≡ word ∷ [] → AreGiven
    (found KmcCut (options_of words)) p → IsCutRequest words r → IsNumberOfSlices word p.bins r.slices
slices_asked words r word p one given is =
    let same = same_first is.word word (sym is.slices_word ∙ one) in
    let bins = same_some r.params.bins p.bins (sym is.given.n ∙ given.n) in
    subst (λ w. IsNumberOfSlices w p.bins r.slices) same (subst (λ n. IsNumberOfSlices is.word n r.slices) bins is.slices)

-- an option that has a number is passed over in the search for one that has none
passed : (rows : List Row) (s : Setting) (n : ℕ) (left : List Setting) → value_of rows s ≡ Some n
    → find (λ t. not (is_some (value_of rows t))) left ≡ None → find (λ t. not (is_some (value_of rows t))) (s ∷ left) ≡ None
passed rows s n left is rest =
    subst (λ (b : Bool). cond b (Some s) (find (λ t. not (is_some (value_of rows t))) left) ≡ None) (sym (ap (λ o. not (is_some o)) is)) rest

-- where the options give settings, none is out of its range
pub given_in_range : (rows : List Row) (r : Params) → AreGiven rows r → first_out_of_range rows ≡ None
given_in_range rows r g =
    passed rows K r.k (P ∷ N ∷ Ci ∷ Cx ∷ Cs ∷ Sp ∷ Sr ∷ []) g.k
    (passed rows P r.asked_signature_length (N ∷ Ci ∷ Cx ∷ Cs ∷ Sp ∷ Sr ∷ []) g.p
    (passed rows N r.bins (Ci ∷ Cx ∷ Cs ∷ Sp ∷ Sr ∷ []) g.n
    (passed rows Ci r.limits.ci (Cx ∷ Cs ∷ Sp ∷ Sr ∷ []) g.ci
    (passed rows Cx r.limits.cx (Cs ∷ Sp ∷ Sr ∷ []) g.cx
    (passed rows Cs r.limits.cs (Sp ∷ Sr ∷ []) g.cs
    (passed rows Sp r.splitters (Sr ∷ []) g.sp
    (passed rows Sr r.counters [] g.sr refl)))))))
