-- What was asked for, and what was read for it.
use Rattle.std.proofs.Common.{◌≡◌, ℕ, List, length, map, Option, Some, sym, ◌∙◌}
use Rattle.std.proofs.lemmas.List.{length-map}
use Rattle.kmc_options.specs.Words.{Word}
use Rattle.kmc_count.specs.declared.limits.Limits.{Limits}
use Rattle.kmc_device.specs.Device.{Watched}
use Rattle.kmc_sum.specs.Sources.{lefts_of}
use Rattle.kmc_join.specs.Request.{IsRequest}
use Rattle.kmc_base.specs.declared.strands.Strands.{Strands}
use Rattle.kmc_join.specs.Program.{AreRead, AreTabled, IsQueryAnswered, IsQueryGivenUp}
use Rattle.kmc_join.specs.Query.{IsQueryWritten}
use Rattle.kmc_join.specs.QueryAnswer.{Inputs, IsQueryCause}
use Rattle.kmc_join.specs.QueryWords.{query_strands}
use Rattle.kmc_join.specs.declared.query_error.QueryError.{QueryError}
use Rattle.kmc_join.specs.TableWords.{table_cap}
use Rattle.kmc_join.specs.declared.rule.JoinRule.{JoinRule}

-- as many readers as files
abbrev pub are_read : {F : Type 0} (words : List Word) (rule : JoinRule) (limits : Limits) (name : F → Word) (files : List F)
    → IsRequest words rule limits (map name files) → (starts nows : List (Option (List ℕ))) → length starts ≡ length files → AreRead words
are_read words rule limits name files request starts nows many = record {
  rule = rule;
  limits = limits;
  files = map name files;
  request = request;
  starts = starts;
  nows = nows;
  each = many ∙ sym (length-map files name);
}

-- two readers for a table
abbrev pub are_tabled : {R : Type 0} (words : List Word) (cap : ℕ) (left : R → Option (List ℕ)) (readers read : List (Watched R))
    → table_cap words ≡ Some cap → length readers ≡ 2 → AreTabled words
are_tabled words cap left readers read asks two = record {
  cap = cap;
  asks = asks;
  starts = lefts_of left readers;
  nows = lefts_of left read;
  two = length-map readers (λ r. left r.inner) ∙ two;
}

-- what a query of two readers wrote
pub query_answered : (words : List Word) (strands : Strands) (dump_start dump_now words_start words_now : Option (List ℕ)) (lines : ℕ)
    (old new : Option (List ℕ)) → query_strands words ≡ Some strands
    → IsQueryWritten strands dump_start dump_now words_start words_now lines old new → IsQueryAnswered words old new
query_answered words strands dump_start dump_now words_start words_now lines old new asks written = record {
  read = record {
    strands = strands;
    asks = asks;
    before = record { dump = dump_start; words = words_start; dump_failures = 0; words_failures = 0 };
    after = record { dump = dump_now; words = words_now; dump_failures = 0; words_failures = 0 };
  };
  lines = lines;
  written = written;
}

-- why it was given up
pub query_left : {W : Type 0} (words : List Word) (strands : Strands) (contents : W → Option (List ℕ)) (before after : Inputs) (writer written : Watched W)
    (error : QueryError) → query_strands words ≡ Some strands → IsQueryCause contents strands before after writer written error
    → IsQueryGivenUp words contents writer written
query_left words strands contents before after writer written error asks cause = record {
  read = record { strands = strands; asks = asks; before = before; after = after };
  error = error;
  cause = cause;
}
