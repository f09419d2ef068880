-- The words that a reader gave so far, one line after the other.
use Rattle.std.proofs.Common.{◌≡◌, ◌≢◌, ℕ, ◌+◌, ◌≤◌, ◌⊎◌, inl, inr, List, [], ◌∷◌, ◌++◌, length, Option, refl, sym, ap, subst, ◌∙◌, arith, append_assoc, append-nil}
use Rattle.std.proofs.KnownBytes.{Consumes-nil, Consumes-trans}
use Rattle.std.proofs.lemmas.Grind.{flat_map-append}
use Rattle.std.specs.Io.KnownBytes.{Consumes, IsAtEnd}
use Rattle.kmc_base.specs.Words.{IsKmer}
use Rattle.kmc_device.specs.Device.{GaveAll, RisesByOne}
use Rattle.kmc_sum.specs.Source.{GoesOn}
use Rattle.kmc_join.specs.Asking.{AreAsked, GaveWords, GoesToNoWord, IsNoWord, IsOfOtherLength, IsWordFault, IsWordsCause, length_of, word_line, words_text}
use Rattle.kmc_join.specs.declared.query_error.QueryError.{QueryError}
use Rattle.kmc_join.specs.declared.query_error.QueryError.TheVariants.{ReadWords, NoWord, OtherLength, Unlike, Dump, Write, Memory, TooLong}

text_push : (words : List (List ℕ)) (w : List ℕ) → words_text (words ++ w ∷ []) ≡ words_text words ++ word_line w
text_push words w = flat_map-append word_line words (w ∷ []) ∙ ap (λ (t : List ℕ). words_text words ++ t) (append-nil (word_line w))

asked_push : (k : ℕ) (words : List (List ℕ)) (w : List ℕ) → AreAsked k words → IsKmer w → length w ≡ k → AreAsked k (words ++ w ∷ [])
asked_push k [] w each kmer long = ((kmer, long), tt)
asked_push k (v ∷ words) w each kmer long = (each.0, asked_push k words w each.1 kmer long)

-- one word more, as long as those before it
asked_more : (words : List (List ℕ)) (w : List ℕ) → AreAsked (length_of words) words → IsKmer w → (length_of words ≡ 0) ⊎ (length w ≡ length_of words)
    → AreAsked (length_of (words ++ w ∷ [])) (words ++ w ∷ [])
asked_more [] w each kmer long = ((kmer, refl), tt)
asked_more (v ∷ words) w each kmer (inl none) = absurd (omega (arith, none, each.0.0.some))
asked_more (v ∷ words) w each kmer (inr long) = asked_push (length v) (v ∷ words) w each kmer long

-- nothing was read
pub none_given : (a : Option (List ℕ)) (rest : List ℕ) → rest ≡ [] → GaveWords a a [] rest
none_given a rest none = record { each = tt; bytes = subst (Consumes a a) (sym none) (Consumes-nil a) }

-- the reader goes on
words_go : (a b c : Option (List ℕ)) (words : List (List ℕ)) (rest more : List ℕ) → GaveWords a b words rest → GoesOn b c rest more
    → GaveWords a c words more
words_go a b c words rest more gave goes = record {
  each = gave.each;
  bytes = subst (Consumes a c) (append_assoc (words_text words) rest goes.bytes ∙ ap (λ (l : List ℕ). words_text words ++ l) (sym goes.are))
      (Consumes-trans a b c (words_text words ++ rest) goes.bytes gave.bytes goes.gave);
}

module _ (a b c : Option (List ℕ)) (words : List (List ℕ)) (before rest : List ℕ) (gave : GaveWords a b words before) (goes : GoesOn b c before rest) where
  now : GaveWords a c words rest
  now = words_go a b c words before rest gave goes

  -- the next word is taken
  pub word_taken : (w after : List ℕ) → IsKmer w → rest ≡ word_line w ++ after → (length_of words ≡ 0) ⊎ (length w ≡ length_of words)
      → GaveWords a c (words ++ w ∷ []) after
  word_taken w after kmer is long = record {
    each = asked_more words w gave.each kmer long;
    bytes = subst (Consumes a c)
        (ap (λ (t : List ℕ). words_text words ++ t) is ∙ sym (append_assoc (words_text words) (word_line w) after)
        ∙ ap (λ (t : List ℕ). t ++ after) (sym (text_push words w)))
        now.bytes;
  }

  -- the next word is of another length
  pub other_taken : (w after : List ℕ) (line : ℕ) → IsKmer w → rest ≡ word_line w ++ after → line ≡ length words + 1 → (length_of words ≡ 0 → ⊥)
      → length w ≢ length_of words → IsOfOtherLength a c line
  other_taken w after line kmer is number some other = record {
    words = words;
    word = w;
    rest = after;
    gave = subst (GaveWords a c words) is now;
    number = number;
    before = at_least words some;
    is = kmer;
    other = other;
  }
    where
      at_least : (ws : List (List ℕ)) → (length_of ws ≡ 0 → ⊥) → 1 ≤ length ws
      at_least [] h = absurd (h refl)
      at_least (v ∷ ws) h = omega arith

  -- there is none
  pub all_taken : rest ≡ [] → IsAtEnd c → GaveAll a c (words_text words)
  all_taken none end =
      (subst (Consumes a c) (ap (λ (t : List ℕ). words_text words ++ t) none ∙ append-nil (words_text words)) now.bytes, end)

-- what is next is no word
pub no_word : (a b c : Option (List ℕ)) (words : List (List ℕ)) (before : List ℕ) (line : ℕ) → GaveWords a b words before
    → GoesToNoWord b c before → line ≡ length words + 1 → IsNoWord a c line
no_word a b c words before line gave to number = record {
  words = words;
  rest = to.rest;
  gave = words_go a b c words before to.rest gave to.goes;
  number = number;
  some = to.some;
  enough = to.enough;
  none = to.none;
}

-- why the next word was not taken is why the words were not read to their end
pub words_fault : (a b c : Option (List ℕ)) (words : List (List ℕ)) (before : List ℕ) (line failed kept fails : ℕ) (e : QueryError)
    → GaveWords a b words before → line ≡ length words + 1 → kept ≡ failed → IsWordFault line b c before kept fails e → IsWordsCause a c failed fails e
words_fault a b c words before line failed kept fails ReadWords gave number same h = subst (λ n. RisesByOne n fails) same h
words_fault a b c words before line failed kept fails (NoWord l) gave number same h = (no_word a b c words before l gave h.1 (h.0 ∙ number), h.2 ∙ same)
words_fault a b c words before line failed kept fails (OtherLength l) gave number same h = absurd h
words_fault a b c words before line failed kept fails Unlike gave number same h = absurd h
words_fault a b c words before line failed kept fails (Dump fault) gave number same h = absurd h
words_fault a b c words before line failed kept fails Write gave number same h = absurd h
words_fault a b c words before line failed kept fails Memory gave number same h = absurd h
words_fault a b c words before line failed kept fails TooLong gave number same h = absurd h
