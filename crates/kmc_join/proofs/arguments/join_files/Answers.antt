use Rattle.std.proofs.Common.{length, inr, ap, ◌∙◌, arith}
use Rattle.std.specs.Prelude.{string_bytes}
use Rattle.std.proofs.lemmas.List.{length-map}
use Rattle.std.proofs.lemmas.Grind.{common_steps}
use Rattle.kmc_join.proofs.Asked.{are_read}
use Rattle.kmc_join.proofs.arguments.join_files.Goals as goal

pub returns-clause-done : goal.returns-clause-done
returns-clause-done g c = λ is. let done = c.join_readers.ensures.done is in (
  record {
    read = are_read _ _ _ string_bytes c.in-Ok.asked.files.items c.in-Ok.ensures _ _
        (length-map c.as_mut_slice.result.now _ ∙ ap length c.as_mut_slice.ensures.value ∙ c.in-Ok-opened.ensures ∙ ap length c.deref.ensures.value);
    lines = done.0.0;
    written = done.0.1;
  },
  done.2,
)

pub returns-clause-failed : goal.returns-clause-failed
returns-clause-failed g c = λ is. let begun = c.join_readers.ensures.failed is in inr (record {
  read = are_read _ _ _ string_bytes c.in-Ok.asked.files.items c.in-Ok.ensures _ _
      (length-map c.as_mut_slice.result.now _ ∙ ap length c.as_mut_slice.ensures.value ∙ c.in-Ok-opened.ensures ∙ ap length c.deref.ensures.value);
  olds = _;
  news = _;
  error = begun.0;
  cause = begun.1;
  k = begun.2;
  begun = begun.3;
})

pub join_readers-requires-clause-two : goal.join_readers-requires-clause-two
join_readers-requires-clause-two g c = omega (
  arith,
  c.in-Ok.ensures.asks.two,
  length-map c.in-Ok.asked.files.items string_bytes,
  ap length c.as_mut_slice.ensures.value,
  c.in-Ok-opened.ensures,
  ap length c.deref.ensures.value,
)

pub join_readers-requires-clause-each : goal.join_readers-requires-clause-each
join_readers-requires-clause-each g c = grind (arith, common_steps)
