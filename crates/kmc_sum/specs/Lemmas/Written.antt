-- What went out of a text that is gathered in a buffer.
use Rattle.std.proofs.Common.{◌≡◌, ℕ, zero, suc, List, [], ◌++◌, Option, Some, None, refl, sym, ap, subst, ◌∙◌, append-nil, append_assoc}
use Rattle.std.proofs.KnownBytes.{Appends-nil, Appends-trans}
use Rattle.std.specs.List.{cons_option}
use Rattle.std.specs.Option.{option_map}
use Rattle.kmc_count.specs.declared.limits.Limits.{Limits}
use Rattle.kmc_count.specs.Dump.{kept}
use Rattle.kmc_lists.specs.Line.{line_of, text_of}
use Rattle.kmc_sum.specs.Tally.{kept_pair}
use Rattle.kmc_device.specs.Device.{AppendsFront, WritesOut}
use Rattle.kmc_device.specs.Lemmas.Devices.{front_after}

-- nothing is put, and nothing went out
pub out_same : (a : Option (List ℕ)) (held more : List ℕ) → more ≡ [] → WritesOut a a (held ++ more) held
out_same a held more none = ([], sym (ap (λ (t : List ℕ). held ++ t) none ∙ append-nil held), Appends-nil a)

-- a line is put behind what is held
pub out_more : (a b c : Option (List ℕ)) (text held line left : List ℕ) → WritesOut a b text held → WritesOut b c (held ++ line) left → WritesOut a c
    (text ++ line) left
out_more a b c text held line left before now = (
  before.0 ++ now.0,
  append_assoc before.0 now.0 left
      ∙ ap (λ (t : List ℕ). before.0 ++ t) now.1
      ∙ sym (append_assoc before.0 held line)
      ∙ ap (λ (t : List ℕ). t ++ line) before.1,
  Appends-trans a b c before.0 now.0 before.2 now.2,
)

-- a front of what was held went out
pub out_front : (a b c : Option (List ℕ)) (text held : List ℕ) → WritesOut a b text held → AppendsFront b c held → AppendsFront a c text
out_front a b c text held before now = subst (AppendsFront a c) before.1 (front_after a b c before.0 held before.2 now)

-- the text of a pair that is listed
pub line_kept : (l : Limits) (x : List ℕ) (n m : ℕ) → (n ≡ 0 → ⊥) → kept l n ≡ Some m → text_of (kept_pair l x n) ≡ line_of (x, m)
line_kept l x zero m some is = absurd (some refl)
line_kept l x (suc n) m some is = ap (λ (o : Option ℕ). text_of (cons_option (option_map (λ k. (x, k)) o) [])) is ∙ append-nil (line_of (x, m))

-- a word that is not listed
pub none_kept : (l : Limits) (x : List ℕ) (n : ℕ) → kept l n ≡ None → kept_pair l x n ≡ []
none_kept l x zero is = refl
none_kept l x (suc n) is = ap (λ (o : Option ℕ). cons_option (option_map (λ k. (x, k)) o) []) is

-- the line of a word, put
pub word_put : (l : Limits) (x w : List ℕ) (n m : ℕ) (a b : Option (List ℕ)) (held left : List ℕ) → (n ≡ 0 → ⊥) → kept l n ≡ Some m → w ≡ x
    → WritesOut a b (held ++ line_of (w, m)) left → WritesOut a b (held ++ text_of (kept_pair l x n)) left
word_put l x w n m a b held left some is same out =
    subst (λ (t : List ℕ). WritesOut a b (held ++ t) left) (ap (λ (v : List ℕ). line_of (v, m)) same ∙ sym (line_kept l x n m some is)) out
