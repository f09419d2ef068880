-- Words that are looked up one after the other.
use Rattle.std.proofs.Common.{◌≡◌, ℕ, ◌+◌, ◌<◌, ◌⊎◌, inl, inr, List, [], ◌∷◌, ◌++◌, length, take, drop, get_or, Option, Some, None, refl, sym, ap, subst, ◌∙◌, arith}
use Rattle.std.specs.Prelude.{Contains}
use Rattle.std.proofs.lemmas.List.{map-append, take_more, take-append-drop}
use Rattle.std.proofs.lemmas.List.Elements.{All-from_recursion, recursion_from_All}
use Rattle.kmc_base.specs.Lemmas.Keys.{IsWord}
use Rattle.kmc_base.specs.Strands.{key}
use Rattle.kmc_base.specs.Words.{IsKmer}
use Rattle.kmc_device.specs.Device.{AppendsFront, WritesOut}
use Rattle.kmc_lists.specs.Line.{line_of, text_of}
use Rattle.kmc_sum.specs.Lemmas.Gave.{text_push}
use Rattle.kmc_sum.specs.Lemmas.Written.{out_front, out_more}
use Rattle.kmc_sum.specs.Sum.{listed_count}
use Rattle.kmc_join.specs.Asking.{AreAsked, length_of}
use Rattle.kmc_join.specs.Query.{answers_of, with_count}
use Rattle.kmc_database.specs.Files.{IsDatabase}
use Rattle.kmc_database.specs.LookedUp.{IsHeaderIn, IsLookUpCause, Reads}
use Rattle.kmc_database.specs.Searched.{AreBegun, AreFound, AreGiven, IsFindingCause, IsLeftOff, IsSearchCause, Search}
use Rattle.kmc_database.specs.declared.form.Form.{Form}
use Rattle.kmc_database.specs.declared.look_up_error.LookUpError.{LookUpError}
use Rattle.kmc_database.specs.declared.opening.OpenDatabase.{OpenDatabase}
use Rattle.kmc_database.specs.declared.reading.Header.{Header}
use Rattle.kmc_database.specs.declared.search_error.SearchError.{SearchError}
use Rattle.kmc_database.specs.declared.search_error.SearchError.TheVariants.{Open, OneStrand, Words, OtherLength, LookUp, Write}

-- words that are asked for are words
pub asked_word : (k : ℕ) (words : List (List ℕ)) → AreAsked k words → (w : List ℕ) → Contains words w → IsWord k w
asked_word k words each w there =
    let h = All-from_recursion (λ (v : List ℕ). IsKmer v × (length v ≡ k)) words each there.0 w there.1 in
    subst (λ (v : List ℕ). IsWord k v) there.2 (h.1, recursion_from_All (λ c. c < 4) (get_or words there.0 w) h.0.codes)

module _ (o : OpenDatabase) (prefix suffix : Option (List ℕ)) where
  pub none_found : AreFound o prefix suffix [] []
  none_found = record { each = refl; counts = λ f pairs p s known_p known_s d h. refl }

  abbrev pub Counts : List ℕ → ℕ → Type 0
  Counts w count = (f : Form) (pairs : List (List ℕ × ℕ)) (p s : List ℕ) → prefix ≡ Some p → suffix ≡ Some s → IsDatabase f pairs p s → IsHeaderIn p o.header
      → count ≡ listed_count pairs (key o.strands w)

  module _ (words : List (List ℕ)) (i : ℕ) (answers : List (List ℕ × ℕ)) (found : AreFound o prefix suffix (take i words) answers) where
    -- one word more
    pub found_more : (w : List ℕ) (count : ℕ) → i < length words → w ≡ get_or words i [] → Counts w count
        → AreFound o prefix suffix (take (i + 1) words) (answers ++ (w, count) ∷ [])
    found_more w count inside is told =
        let more : take (i + 1) words ≡ take i words ++ w ∷ [] =
        take_more words i [] inside ∙ ap (λ (v : List ℕ). take i words ++ v ∷ []) (sym is) in
        record {
          each = map-append (λ (p : List ℕ × ℕ). p.0) answers ((w, count) ∷ []) ∙ ap (λ (t : List (List ℕ)). t ++ w ∷ []) found.each ∙ sym more;
          counts = λ f pairs p s known_p known_s d h.
              ap (λ n. answers ++ (w, n) ∷ []) (told f pairs p s known_p known_s d h)
              ∙ ap (λ (t : List (List ℕ × ℕ)). t ++ with_count o.strands pairs w ∷ []) (found.counts f pairs p s known_p known_s d h)
              ∙ sym (map-append (with_count o.strands pairs) (take i words) (w ∷ [])) ∙ ap (answers_of o.strands pairs) (sym more);
        }

    -- a front of them
    pub left_off : (a b c : Option (List ℕ)) (held : List ℕ) → WritesOut a b (text_of answers) held → AppendsFront b c held
        → AreBegun o prefix suffix words a c
    left_off a b c held out front = record {
      front = take i words;
      rest = drop i words;
      is = take-append-drop i words;
      answers = answers;
      found = found;
      text = out_front a b c (text_of answers) held out front;
    }

pub text_more : (answers : List (List ℕ × ℕ)) (p : List ℕ × ℕ) (a b c : Option (List ℕ)) (held left : List ℕ) → WritesOut a b (text_of answers) held
    → WritesOut b c (held ++ line_of p) left → WritesOut a c (text_of (answers ++ p ∷ [])) left
text_more answers p a b c held left before now =
    subst (λ (t : List ℕ). WritesOut a c t left) (sym (text_push answers p)) (out_more a b c (text_of answers) held (line_of p) left before now)

abbrev reads : ℕ → ℕ → Reads
reads prefix suffix = record { prefix = prefix; suffix = suffix }

-- a refusal, told of what the files were at first
pub cause_at : (h : Header) (k w : List ℕ) (p p' s s' : Option (List ℕ)) (a a' b b' : ℕ) (new : Reads) (e : LookUpError) → k ≡ w → p ≡ p' → s ≡ s'
    → a ≡ a' → b ≡ b' → IsLookUpCause h k p s (reads a b) new e → IsLookUpCause h w p' s' (reads a' b') new e
cause_at h k w p p' s s' a a' b b' new e same_word same_p same_s same_a same_b c =
    subst (λ (v : List ℕ). IsLookUpCause h v p' s' (reads a' b') new e) same_word
    (subst (λ (x : Option (List ℕ)). IsLookUpCause h k x s' (reads a' b') new e) same_p
    (subst (λ (x : Option (List ℕ)). IsLookUpCause h k p x (reads a' b') new e) same_s
    (subst (λ n. IsLookUpCause h k p s (reads n b') new e) same_a
    (subst (λ n. IsLookUpCause h k p s (reads a n) new e) same_b c))))

-- ---- the words that were read

pub asked_agree : (k n : ℕ) (words : List (List ℕ)) → n ≡ length_of words → (n ≡ 0) ⊎ (n ≡ k) → AreAsked (length_of words) words → AreAsked k words
asked_agree k n [] is same each = tt
asked_agree k n (w ∷ words) is (inl none) each = absurd (omega (arith, is, none, each.0.0.some))
asked_agree k n (w ∷ words) is (inr same) each = subst (λ m. AreAsked m (w ∷ words)) (sym is ∙ same) each

abbrev with_words : Search → Option (List ℕ) → ℕ → Search
with_words s words failed = record {
  prefix = s.prefix;
  suffix = s.suffix;
  words = words;
  written = s.written;
  reads = s.reads;
  words_failures = failed;
  writer_failures = s.writer_failures;
}

-- words that were read, and then left off
module _ (o : OpenDatabase) (old new : Search) (ws words : List (List ℕ)) (same : ws ≡ words) (given : AreGiven o.header.layout.k old new words)
    (begun : AreBegun o old.prefix old.suffix ws old.written new.written) where
  left_for : (e : SearchError) → IsFindingCause o ws old new e → IsLeftOff o old new e
  left_for e cause = record {
    words = words;
    given = given;
    cause = subst (λ (v : List (List ℕ)). IsFindingCause o v old new e) same cause;
    begun = subst (λ (v : List (List ℕ)). AreBegun o old.prefix old.suffix v old.written new.written) same begun;
  }

  pub left_searching : (e : SearchError)
      → ((asked left : Option (List ℕ)) (failed : ℕ) → IsFindingCause o ws (with_words old asked failed) (with_words new left failed) e)
      → IsSearchCause o old new e
  left_searching (Open e) cause = absurd (cause None None 0)
  left_searching OneStrand cause = absurd (cause None None 0)
  left_searching (Words e) cause = absurd (cause None None 0)
  left_searching OtherLength cause = absurd (cause None None 0)
  left_searching (LookUp e) cause = left_for (LookUp e) (cause None None 0)
  left_searching Write cause = left_for Write (cause None None 0)
