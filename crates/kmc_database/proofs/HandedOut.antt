-- Bytes of a buffer that are held.
use Rattle.std.proofs.Common.{◌≡◌, ℕ, ◌+◌, ◌-◌, ◌≤◌, List, [], ◌∷◌, ◌++◌, length, take, drop, set, refl, sym, ap, ◌∙◌, arith, length-drop}
use Rattle.std.proofs.lemmas.List.{length-take-le, take-append-le, take_at}
use Rattle.kmc_database.proofs.TakenBytes.{unread_cut}

-- one byte is put in front
pub front_set : (room : List ℕ) (b : ℕ) → 1 ≤ length room → take (1 - 0) (drop 0 (set room 0 b)) ≡ b ∷ []
front_set [] b some = absurd (omega (arith, some))
front_set (x ∷ room) b some = refl

-- the first n bytes are handed out
pub handed_out : (room out rest : List ℕ) (at end n : ℕ) → at + n ≤ end → end ≤ length room → out ≡ take (at + n - at) (drop at room)
    → take (end - at) (drop at room) ≡ take n (out ++ rest) ++ take (end - (at + n)) (drop (at + n) room)
handed_out room out rest at end n few inside is =
    let size : at + n - at ≡ n = omega arith in
    let here : out ≡ take n (drop at room) = is ∙ ap (λ m. take m (drop at room)) size in
    let long : length out ≡ n = ap length here ∙ length-take-le n (drop at room) (omega (arith, few, inside, length-drop at room)) in
    unread_cut at end n room few
    ∙ ap (λ (t : List ℕ). t ++ take (end - (at + n)) (drop (at + n) room)) (sym here ∙ sym (take_at out rest n long))

-- the first n bytes of what is longer
pub take_longer : (front rest : List ℕ) (n : ℕ) → n ≤ length front → take n (front ++ rest) ≡ take n front
take_longer front rest n few = take-append-le n front rest few
