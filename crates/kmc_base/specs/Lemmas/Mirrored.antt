-- Windows of a reverse complement.
use Rattle.std.proofs.Common.{◌≡◌, ℕ, ◌+◌, ◌-◌, ◌<◌, ◌≤◌, List, length, map, get_or, drop, sym, ap, ◌∙◌, arith}
use Rattle.std.proofs.lemmas.List.{same_lists, get_or-take, get_or-drop, get_or-reverse, get_or-map, length-map}
use Rattle.kmc_base.specs.Words.{complement, rev_comp, window}
use Rattle.kmc_base.specs.Lemmas.Packs.{length_rev_comp}
use Rattle.kmc_base.specs.Lemmas.Windows.{length_window}

-- the code at a place of the reverse complement
code_back : (w : List ℕ) (i : ℕ) (d : ℕ) → i < length w → get_or (rev_comp w) i d ≡ complement (get_or w (length w - 1 - i) 0)
code_back w i d inside =
    let long = length-map w complement in
    let last : length (map complement w) - 1 - i ≡ length w - 1 - i = omega (arith, long) in
    get_or-reverse (map complement w) i d (omega (arith, long)) ∙ ap (λ j. get_or (map complement w) j d) last
    ∙ get_or-map complement w (length w - 1 - i) 0 d (omega arith)

-- a window of the reverse complement is the reverse complement of the window at the mirrored place
pub window_back : (m j : ℕ) (w : List ℕ) → j + m ≤ length w → window m (rev_comp w) j ≡ rev_comp (window m w (length w - m - j))
window_back m j w inside =
    let other = length w - m - j in
    let long : length (window m (rev_comp w) j) ≡ m = length_window m j (rev_comp w) (omega (arith, length_rev_comp w)) in
    let long2 : length (window m w other) ≡ m = length_window m other w (omega arith) in
    same_lists (window m (rev_comp w) j) (rev_comp (window m w other)) (long ∙ sym long2 ∙ sym (length_rev_comp (window m w other)))
    (λ i d less.
    let few : i < m = omega arith in
    let place : length w - 1 - (j + i) ≡ other + (m - 1 - i) = omega arith in
    let mirrored : length (window m w other) - 1 - i ≡ m - 1 - i = omega arith in
    get_or-take m (drop j (rev_comp w)) i d few ∙ get_or-drop j (rev_comp w) i d
    ∙ code_back w (j + i) d (omega arith)
    ∙ ap (λ p. complement (get_or w p 0)) place
    ∙ ap complement (sym (get_or-take m (drop other w) (m - 1 - i) 0 (omega arith) ∙ get_or-drop other w (m - 1 - i) 0))
    ∙ ap (λ p. complement (get_or (window m w other) p 0)) (sym mirrored)
    ∙ sym (code_back (window m w other) i d (omega arith)))
