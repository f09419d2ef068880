-- A database that was opened and then searched.
use Rattle.std.proofs.Common.{◌≡◌, ℕ, Bool, true, List, Option, Some, Result, Ok, Err, subst}
use Rattle.std.specs.Prelude.{IfErr, IfOk}
use Rattle.std.specs.Io.KnownBytes.{Appends}
use Rattle.kmc_base.specs.declared.strands.Strands.{Strands}
use Rattle.kmc_base.specs.declared.strands.Strands.TheVariants.{Apart}
use Rattle.kmc_lists.specs.Line.{text_of}
use Rattle.kmc_join.specs.Query.{answers_of}
use Rattle.kmc_database.specs.Files.{IsDatabase}
use Rattle.kmc_database.specs.Queried.{AreCounted, IsQueried, IsQueryCause, Tells}
use Rattle.kmc_database.specs.Searched.{AreGiven, IsSearchCause, IsSearched, Search}
use Rattle.kmc_database.specs.declared.form.Form.{Form}
use Rattle.kmc_database.specs.declared.layout.Layout.{Layout}
use Rattle.kmc_database.specs.declared.opening.OpenDatabase.{OpenDatabase}
use Rattle.kmc_database.specs.declared.search_error.SearchError.{SearchError}
use Rattle.kmc_database.specs.declared.search_error.SearchError.TheVariants.{Open, OneStrand, Words, OtherLength, LookUp, Write}
use Rattle.kmc_database.proofs.Opened.{opened_is}

module _ (o : OpenDatabase) (mid old new : Search) (same : mid ≡ old) (told : Tells old.prefix o) (r : Result ℕ SearchError) where
  pub queried_so : (apart : Bool) → (apart ≡ true → o.strands ≡ Apart) → IfOk r (IsSearched o mid new) → IfOk r (IsQueried apart old new)
  queried_so apart strands h = go r h
    where
      go : (r : Result ℕ SearchError) → IfOk r (IsSearched o mid new) → IfOk r (IsQueried apart old new)
      go (Ok lines) h = record {
        opened = o;
        told = told;
        strands = strands;
        searched = subst (λ (s : Search). IsSearched o s new lines) same h;
      }
      go (Err e) h = tt

  pub caused_so : (apart : Bool) → IfErr r (IsSearchCause o mid new) → IfErr r (IsQueryCause apart old new)
  caused_so apart h = go r h
    where
      at_first : (e : SearchError) → IsSearchCause o mid new e → IsSearchCause o old new e
      at_first e h = subst (λ (s : Search). IsSearchCause o s new e) same h

      go : (r : Result ℕ SearchError) → IfErr r (IsSearchCause o mid new) → IfErr r (IsQueryCause apart old new)
      go (Ok lines) h = tt
      go (Err (Open e)) h = absurd h
      go (Err OneStrand) h = absurd h
      go (Err (Words e)) h = (o, told, at_first (Words e) h)
      go (Err OtherLength) h = (o, told, at_first OtherLength h)
      go (Err (LookUp e)) h = (o, told, at_first (LookUp e) h)
      go (Err Write) h = (o, told, at_first Write h)

counted : (o : OpenDatabase) (old new : Search) (lines : ℕ) (f : Form) (pairs : List (List ℕ × ℕ)) (p s : List ℕ) → old.prefix ≡ Some p
    → old.suffix ≡ Some s → IsDatabase f pairs p s → Tells old.prefix o → IsSearched o old new lines → AreCounted f pairs old new lines
counted o old new lines f pairs p s known_p known_s d told h =
    let is = opened_is f pairs p s o d (told p known_p) in
    record {
      words = h.words;
      given = subst (λ (l : Layout). AreGiven l.k old new h.words) is.1 h.given;
      text = subst (λ (t : Strands). Appends old.written new.written (text_of (answers_of t pairs h.words))) is.3
          (subst (λ (answers : List (List ℕ × ℕ)). Appends old.written new.written (text_of answers)) (h.out.found.counts f pairs p s known_p known_s d is.0)
          h.out.text);
      count = h.count;
    }

-- a query of the files of a database
pub counted_so : (apart : Bool) (old new : Search) (r : Result ℕ SearchError) → IfOk r (IsQueried apart old new)
    → IfOk r (λ lines. (f : Form) (pairs : List (List ℕ × ℕ)) (p s : List ℕ) → old.prefix ≡ Some p → old.suffix ≡ Some s → IsDatabase f pairs p s
    → AreCounted f pairs old new lines)
counted_so apart old new (Ok lines) h = λ f pairs p s known_p known_s d. counted h.opened old new lines f pairs p s known_p known_s d h.told h.searched
counted_so apart old new (Err e) h = tt

abbrev known : Option (List ℕ) → Option (List ℕ) → Option (List ℕ) → Option (List ℕ) → ℕ → ℕ → ℕ → ℕ → Search
known prefix suffix words written p s words_failed failed = record {
  prefix = prefix;
  suffix = suffix;
  words = words;
  written = written;
  reads = record { prefix = p; suffix = s };
  words_failures = words_failed;
  writer_failures = failed;
}

-- what is known stays where the files do
pub same_search : (prefix prefix' suffix suffix' words written : Option (List ℕ)) (p p' s s' words_failed failed : ℕ) → prefix ≡ prefix' → suffix ≡ suffix'
    → p ≡ p' → s ≡ s' → known prefix suffix words written p s words_failed failed ≡ known prefix' suffix' words written p' s' words_failed failed
same_search prefix prefix' suffix suffix' words written p p' s s' words_failed failed same_prefix same_suffix same_p same_s =
    λ i. known (same_prefix i) (same_suffix i) words written (same_p i) (same_s i) words_failed failed
