-- The text of a dump, line by line.
use Rattle.std.proofs.Common.{◌≡◌, ℕ, ◌+◌, ◌<◌, List, [], ◌∷◌, ◌++◌, length, take, drop, get_or, Option, sym, ap, ◌∙◌, subst, append-nil}
use Rattle.std.proofs.lemmas.List.{take-append-drop, take_more}
use Rattle.std.proofs.lemmas.Grind.{flat_map-append}
use Rattle.std.proofs.KnownBytes.{Appends-kept}
use Rattle.std.specs.Io.KnownBytes.{Keeps, Appends}
use Rattle.kmc_device.specs.Device.{AppendsFront, WritesOut}
use Rattle.kmc_lists.specs.Line.{line_of, text_of}
use Rattle.kmc_device.specs.Lemmas.Devices.{front_after, front_of, front_all, gathered_out, gathered_more}

text_more : (pairs : List (List ℕ × ℕ)) (i : ℕ) (p : List ℕ × ℕ) → i < length pairs → p ≡ get_or pairs i p → text_of (take (i + 1) pairs) ≡ text_of
    (take i pairs) ++ line_of p
text_more pairs i p inside is =
    ap text_of (take_more pairs i p inside ∙ ap (λ (t : List ℕ × ℕ). take i pairs ++ t ∷ []) (sym is))
    ∙ flat_map-append line_of (take i pairs) (p ∷ []) ∙ ap (λ (t : List ℕ). text_of (take i pairs) ++ t) (append-nil (line_of p))

text_parts : (pairs : List (List ℕ × ℕ)) (i : ℕ) → text_of (take i pairs) ++ text_of (drop i pairs) ≡ text_of pairs
text_parts pairs i = sym (flat_map-append line_of (take i pairs) (drop i pairs)) ∙ ap text_of (take-append-drop i pairs)

-- a line is gathered, after some of what was gathered went out
pub line_gathered : (a b c : Option (List ℕ)) (pairs : List (List ℕ × ℕ)) (i : ℕ) (p : List ℕ × ℕ) (whole left new : List ℕ) → i < length pairs → p
    ≡ get_or pairs i p
    → WritesOut a b (text_of (take i pairs)) whole → WritesOut b c whole left → new ≡ left ++ line_of p → WritesOut a c (text_of (take (i + 1) pairs)) new
line_gathered a b c pairs i p whole left new inside is before now more =
    subst (λ (t : List ℕ). WritesOut a c t new) (sym (text_more pairs i p inside is))
    (gathered_more a b c (text_of (take i pairs)) whole left (line_of p) new before now more)

-- a front of all lines went out
pub gathered_front : (a b c : Option (List ℕ)) (pairs : List (List ℕ × ℕ)) (i : ℕ) (left : List ℕ) → WritesOut a b (text_of (take i pairs)) left
    → AppendsFront b c left → AppendsFront a c (text_of pairs)
gathered_front a b c pairs i left before now =
    subst (AppendsFront a c) (ap (λ (t : List ℕ). t ++ text_of (drop i pairs)) before.1 ∙ text_parts pairs i)
    (front_of a c (before.0 ++ left) (text_of (drop i pairs)) (front_after a b c before.0 left before.2 now))

-- only the flush failed
pub not_flushed : (a b c d : Option (List ℕ)) (pairs : List (List ℕ × ℕ)) (i : ℕ) (left : List ℕ) → WritesOut a b (text_of (take i pairs)) left
    → Appends b c left → Keeps c d → AppendsFront a d (text_of pairs)
not_flushed a b c d pairs i left before now kept =
    subst (AppendsFront a d) (text_parts pairs i)
    (front_of a d (text_of (take i pairs)) (text_of (drop i pairs)) (front_all a d (text_of (take i pairs))
    (Appends-kept a c d _ (gathered_out a b c (text_of (take i pairs)) left before now) kept)))
