-- What a query answers.
use Rattle.std.proofs.Common.{◌≡◌, ℕ, List, map, Option, refl, sym, subst}
use Rattle.kmc_base.specs.Strands.{key}
use Rattle.kmc_base.specs.declared.strands.Strands.{Strands}
use Rattle.kmc_device.specs.Device.{GaveAll}
use Rattle.kmc_lists.specs.Line.{text_of}
use Rattle.kmc_sum.specs.Listed.{IsLength}
use Rattle.kmc_sum.specs.Sources.{Agrees}
use Rattle.kmc_join.specs.Asking.{AreAsked, length_of, words_text}
use Rattle.kmc_join.specs.KeyCounts.{AreCounts}
use Rattle.kmc_join.specs.LookedUp.{IsLookedUp}
use Rattle.kmc_join.specs.Query.{AreAnswers, answers_of}
use Rattle.kmc_join.proofs.Answered.{asked_agree}

-- the words have these answers
pub are_answers : (strands : Strands) (dump_start dump_now words_start words_now : Option (List ℕ)) (k : ℕ) (keys : List (List ℕ)) (counts : List ℕ)
    (words : List (List ℕ)) → IsLength k → Agrees (length_of words) k → (up : IsLookedUp k dump_start dump_now keys counts)
    → GaveAll words_start words_now (words_text words) → AreAsked (length_of words) words
    → AreAnswers strands dump_start dump_now words_start words_now (answers_of strands up.pairs words)
are_answers strands dump_start dump_now words_start words_now k keys counts words long agrees up asked each = record {
  k = k;
  long = long;
  text = up.text;
  gave = up.gave;
  pairs = up.pairs;
  lists = up.lists;
  words = words;
  asked = asked;
  each = asked_agree words k each agrees;
  are = refl;
}

-- what was written of them
pub out_of : (P : List ℕ → Type 0) (strands : Strands) (words ws keys ks : List (List ℕ)) (counts cs : List ℕ) → ws ≡ words → ks ≡ keys → cs ≡ counts
    → ((count : List ℕ → ℕ) → AreCounts count ks cs → P (text_of (map (λ w. (w, count (key strands w))) ws)))
    → (count : List ℕ → ℕ) → AreCounts count keys counts → P (text_of (map (λ w. (w, count (key strands w))) words))
out_of P strands words ws keys ks counts cs same_words same_keys same_counts out count are =
    subst (λ (v : List (List ℕ)). P (text_of (map (λ w. (w, count (key strands w))) v))) same_words
    (out count (subst (λ (v : List (List ℕ)). AreCounts count v cs) (sym same_keys) (subst (AreCounts count keys) (sym same_counts) are)))
