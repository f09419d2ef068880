-- Texts that go to the writers, one after the other.
use Rattle.std.proofs.Common.{◌≡◌, ℕ, zero, suc, ◌+◌, ◌<◌, ◌≤◌, ◌^◌, ◌⊎◌, inl, inr, List, [], ◌++◌, length, map, get_or, set, Option, None, refl, sym, ap, subst, ◌∙◌, arith}
use Rattle.std.specs.Io.KnownBytes.{Appends}
use Rattle.std.proofs.KnownBytes.{Appends-nil}
use Rattle.std.proofs.lemmas.Bool.{cases_eq, cases_lt}
use Rattle.std.proofs.lemmas.List.{get_or-set_same, get_or-set_other, get_or-map, map-set, length-map}
use Rattle.kmc_device.specs.Device.{Watched, AppendsFront}
use Rattle.kmc_device.specs.Lemmas.Devices.{front_all}
use Rattle.kmc_record.specs.Shapes.{Sizes, IsShape}
use Rattle.kmc_store.specs.Bins.{body_at}
use Rattle.kmc_slice_files.specs.Files.{header_bytes}
use Rattle.kmc_slice_files.specs.Frames.{end_bytes}
use Rattle.kmc_slice_files.specs.Lemmas.Rounds.{opened, round_joined, files_ended}
use Rattle.kmc_slice_files.specs.Writes.{held_at, EachGot, EachBegan, AreFramed, AreFiles}

-- the writers below one got their texts, and the others nothing
pub record GotBelow (text : ℕ → List ℕ) (b : ℕ) (olds news : List (Option (List ℕ))) : Type 0 where
  pub got : (t : ℕ) → t < b → Appends (held_at olds t) (held_at news t) (text t)
  pub rest : (t : ℕ) → b ≤ t → held_at news t ≡ held_at olds t

module _ (text : ℕ → List ℕ) (b : ℕ) (olds mids : List (Option (List ℕ))) (now : Option (List ℕ)) (inside : b < length mids)
    (before : GotBelow text b olds mids) where
  here : (t : ℕ) → t ≡ b → held_at (set mids b now) t ≡ now
  here t e = ap (held_at (set mids b now)) e ∙ get_or-set_same mids b now None inside

  other : (t : ℕ) → (t ≡ b → ⊥) → held_at (set mids b now) t ≡ held_at mids t
  other t differ = get_or-set_other mids b t now None differ

  pub got_more : Appends (held_at mids b) now (text b) → GotBelow text (b + 1) olds (set mids b now)
  got_more more = record {
    got = λ t below. go t below (cases_eq t b);
    rest = λ t above. other t (λ e. omega (arith, e, above)) ∙ before.rest t (omega (arith, above));
  }
    where
      go : (t : ℕ) → t < b + 1 → (t ≡ b) ⊎ (t ≡ b → ⊥) → Appends (held_at olds t) (held_at (set mids b now) t) (text t)
      go t below (inl e) =
          subst (λ (x : Option (List ℕ)). Appends (held_at olds t) x (text t)) (sym (here t e))
          (subst (λ (x : Option (List ℕ)). Appends x now (text t)) (before.rest t (omega (arith, e)))
          (subst (λ x. Appends (held_at mids x) now (text x)) (sym e) more))
      go t below (inr differ) =
          subst (λ (x : Option (List ℕ)). Appends (held_at olds t) x (text t)) (sym (other t differ)) (before.got t (still t below differ))
        where
          still : (u : ℕ) → u < b + 1 → (u ≡ b → ⊥) → u < b
          still u lt ne = case (cases_lt u b)
            where
              case : (u < b) ⊎ (b ≤ u) → u < b
              case (inl is) = is
              case (inr ge) = absurd (ne (omega (arith, lt, ge)))

  pub got_begun : (S : ℕ) → AppendsFront (held_at mids b) now (text b) → EachBegan text S olds (set mids b now)
  got_begun S more t in_s = go (cases_eq t b) (cases_lt t b)
    where
      go : (t ≡ b) ⊎ (t ≡ b → ⊥) → (t < b) ⊎ (b ≤ t) → AppendsFront (held_at olds t) (held_at (set mids b now) t) (text t)
      go (inl e) any =
          subst (λ (x : Option (List ℕ)). AppendsFront (held_at olds t) x (text t)) (sym (here t e))
          (subst (λ (x : Option (List ℕ)). AppendsFront x now (text t)) (before.rest t (omega (arith, e)))
          (subst (λ x. AppendsFront (held_at mids x) now (text x)) (sym e) more))
      go (inr differ) (inl below) =
          subst (λ (x : Option (List ℕ)). AppendsFront (held_at olds t) x (text t)) (sym (other t differ))
          (front_all (held_at olds t) (held_at mids t) (text t) (before.got t below))
      go (inr differ) (inr above) =
          subst (λ (x : Option (List ℕ)). AppendsFront (held_at olds t) x (text t)) (sym (other t differ ∙ before.rest t above))
          ([], (text t, refl), Appends-nil (held_at olds t))

-- the same of a list of writers
module _ {T : Type 0} (hold : Watched T → Option (List ℕ)) (text : ℕ → List ℕ) (b : ℕ) (olds : List (Option (List ℕ))) (writers : List (Watched T))
    (was new : Watched T)
    (inside : b < length writers) (before : GotBelow text b olds (map hold writers)) where
  size : b < length (map hold writers)
  size = omega (arith, length-map writers hold, inside)

  moved : set (map hold writers) b (hold new) ≡ map hold (set writers b new)
  moved = sym (map-set hold writers b new)

  held_was : held_at (map hold writers) b ≡ hold (get_or writers b was)
  held_was = get_or-map hold writers b was None inside

  pub writer_got : Appends (hold (get_or writers b was)) (hold new) (text b) → GotBelow text (b + 1) olds (map hold (set writers b new))
  writer_got more =
      subst (GotBelow text (b + 1) olds) moved
      (got_more text b olds (map hold writers) (hold new) size before (subst (λ (x : Option (List ℕ)). Appends x (hold new) (text b)) (sym held_was)
      more))

  pub writer_begun : (S : ℕ) → AppendsFront (hold (get_or writers b was)) (hold new) (text b) → EachBegan text S olds (map hold (set writers b new))
  writer_begun S more =
      subst (EachBegan text S olds) moved
      (got_begun text b olds (map hold writers) (hold new) size before S (subst (λ (x : Option (List ℕ)). AppendsFront x (hold new) (text b))
      (sym held_was) more))

-- one more number is 0
pub zero_below : (l : List ℕ) (b : ℕ) → b < length l → ((t : ℕ) → t < b → get_or l t 0 ≡ 0) → (t : ℕ) → t < b + 1 → get_or (set l b 0) t 0 ≡ 0
zero_below l b inside before t below = go (cases_eq t b) (cases_lt t b)
  where
    go : (t ≡ b) ⊎ (t ≡ b → ⊥) → (t < b) ⊎ (b ≤ t) → get_or (set l b 0) t 0 ≡ 0
    go (inl e) any = ap (λ x. get_or (set l b 0) x 0) e ∙ get_or-set_same l b 0 0 inside
    go (inr differ) (inl lt) = get_or-set_other l b t 0 0 differ ∙ before t lt
    go (inr differ) (inr ge) = absurd (differ (omega (arith, below, ge)))

-- nothing stands in no bodies
none_at : (b : ℕ) → body_at [] b ≡ []
none_at zero = refl
none_at (suc b) = refl

-- headers, the frames of one round and ends are the files of its bodies
pub one_round : (shape : Sizes) (n S T U : ℕ) (bodies : List (List ℕ)) (olds firsts mids news : List (Option (List ℕ))) (counts counted : List ℕ)
    → IsShape shape.k shape.m shape.n → S < 2 ^ 16
    → n ≡ shape.n → T ≡ S → U ≡ S → EachGot (header_bytes shape S) S olds firsts → ((s : ℕ) → s < S → get_or counts s 0 ≡ 0)
    → AreFramed n T n bodies firsts mids counts counted
    → EachGot (λ s. end_bytes (get_or counted s 0)) U mids news → AreFiles shape S bodies olds news
one_round shape n S T U bodies olds firsts mids news counts counted sizes few bins same still got none framed ends =
    let round : AreFramed shape.n S shape.n bodies firsts mids counts counted =
    subst (λ x. AreFramed shape.n x shape.n bodies firsts mids counts counted) same (subst (λ x. AreFramed x T x bodies firsts mids counts counted)
    bins framed) in
    files_ended shape S bodies olds mids news counted sizes few
    (round_joined shape S [] bodies bodies olds firsts mids counts counted (opened shape S [] olds firsts counts got none (λ b within. none_at b))
    round
    (λ b within. ap (λ (l : List ℕ). l ++ body_at bodies b) (sym (none_at b))))
    (λ s inside. ends s (omega (arith, inside, still)))
