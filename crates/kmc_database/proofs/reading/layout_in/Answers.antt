use Rattle.std.proofs.Common.{sym, ap, ◌∙◌}
use Rattle.kmc_database.specs.Numbers.{low_first}
use Rattle.kmc_database.specs.declared.layout.Layout.{Layout}
use Rattle.kmc_database.proofs.HeaderParts.{match_option}
use Rattle.kmc_database.proofs.reading.layout_in.Goals as goal

pub returns : goal.returns
returns c =
    match_option c.layout_for.result _ _ _ _
    (λ none. record {
      layout = record { k = c.number_at-k.result; prefix = c.number_at-prefix.result; counter = c.number_at-counter.result };
      k = sym c.number_at-k.ensures.bytes;
      counter = sym c.number_at-counter.ensures.bytes;
      prefix = sym c.number_at-prefix.ensures.bytes;
      none = none;
    })
    (λ l h. record {
      k = sym c.number_at-k.ensures.bytes ∙ ap (λ (m : Layout). low_first 4 m.k) (sym h.0);
      counter = sym c.number_at-counter.ensures.bytes ∙ ap (λ (m : Layout). low_first 4 m.counter) (sym h.0);
      prefix = sym c.number_at-prefix.ensures.bytes ∙ ap (λ (m : Layout). low_first 4 m.prefix) (sym h.0);
      is = h.1;
    })
    c.layout_for.ensures
