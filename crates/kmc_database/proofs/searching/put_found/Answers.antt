use Rattle.std.proofs.Common.{◌<◌, [], ◌∷◌, ◌++◌, length, refl, sym, ap, subst, ◌∙◌, arith}
use Rattle.std.specs.Prelude.{Contains}
use Rattle.std.proofs.KnownBytes.{Appends-nil}
use Rattle.std.proofs.lemmas.List.{get_or_default}
use Rattle.kmc_base.specs.Lemmas.Keys.{IsWord, key_is_word}
use Rattle.kmc_base.specs.Strands.{key}
use Rattle.kmc_sum.specs.Sum.{listed_count}
use Rattle.kmc_database.proofs.Searches.{cause_at, found_more, left_off, none_found, text_more}
use Rattle.kmc_database.proofs.searching.put_found.Goals as goal

pub loop-word-init : goal.loop-word-init
loop-word-init g c = record {
  prefix = refl;
  suffix = refl;
  prefix_kept = refl;
  suffix_kept = refl;
  kept = refl;
  answers = [];
  found = none_found c.args.database.now (g.P.Places.bytes c.args.prefix.now) (g.S.Places.bytes c.args.suffix.now);
  text = ([], c.new-buffer.ensures, Appends-nil (g.W.Write.contents c.args.writer.now.inner));
}

pub look_up-requires-clause-word : goal.look_up-requires-clause-word
look_up-requires-clause-word g c =
    let k = c.args.database.now.header.layout.k in
    let word = c.word-item.result in
    let there : Contains c.args.words.now word = (c.loop-word.word-index, omega arith, sym c.word-item.is) in
    subst (IsWord k) (sym c.key-key.ensures) (key_is_word c.args.database.now.strands k word (c.requires.each word there))

pub returns-in-Err-clause-cause : goal.returns-in-Err-clause-cause
returns-in-Err-clause-cause g c = λ asked left failed.
    let i = c.loop-word.invariant in
    let word = c.word-item.result in
    let there : Contains c.args.words.now word = (c.loop-word.word-index, omega arith, sym c.word-item.is) in (
      (
        word,
        there,
        cause_at c.args.database.now.header _ (key c.args.database.now.strands word) _ _ _ _ _ _ _ _ _ c.in-Err.error c.key-key.ensures i.prefix i.suffix
            i.prefix_kept i.suffix_kept c.in-Err.ensures.cause,
      ),
      i.kept,
    )

pub returns-in-Err-clause-begun : goal.returns-in-Err-clause-begun
returns-in-Err-clause-begun g c =
    let i = c.loop-word.invariant in
    let now = g.W.Write.contents c.loop-word.writer.inner in
    left_off c.args.database.now _ _ c.args.words.now c.loop-word.word-index i.answers i.found (g.W.Write.contents c.args.writer.now.inner) now now
    c.loop-word.buffer i.text ([], (c.loop-word.buffer, refl), Appends-nil now)

pub returns-in-Err-put_line-clause-begun : goal.returns-in-Err-put_line-clause-begun
returns-in-Err-put_line-clause-begun g c =
    let i = c.loop-word.invariant in
    left_off c.args.database.now _ _ c.args.words.now c.loop-word.word-index i.answers i.found (g.W.Write.contents c.args.writer.now.inner) _ _
    c.loop-word.buffer i.text c.in-Err-put_line.ensures.front

pub loop-word-preserved : goal.loop-word-preserved
loop-word-preserved g c =
    let i = c.loop-word.invariant in
    let o = c.args.database.now in
    let words = c.args.words.now in
    let n = c.loop-word.word-index in
    let word = c.word-item.result in
    let count = c.in-Ok.count in
    let inside : n < length words = omega arith in
    let sound = c.in-Ok.ensures.sound in
    record {
      prefix = c.in-Ok.ensures.prefix ∙ i.prefix;
      suffix = c.in-Ok.ensures.suffix ∙ i.suffix;
      prefix_kept = sound.0 ∙ i.prefix_kept;
      suffix_kept = sound.1 ∙ i.suffix_kept;
      kept = c.in-Ok-put_line.ensures.kept ∙ i.kept;
      answers = i.answers ++ (word, count) ∷ [];
      found = found_more o (g.P.Places.bytes c.args.prefix.now) (g.S.Places.bytes c.args.suffix.now) words n i.answers i.found word count inside
          (c.word-item.is ∙ get_or_default words n word [] inside)
          (λ f pairs p s known_p known_s d h.
          c.in-Ok.ensures.database f pairs p s (i.prefix ∙ known_p) (i.suffix ∙ known_s) d h
          ∙ ap (listed_count pairs) c.key-key.ensures);
      text = text_more i.answers (word, count) (g.W.Write.contents c.args.writer.now.inner) (g.W.Write.contents c.loop-word.writer.inner) _
          c.loop-word.buffer c.put_line.new.self i.text c.in-Ok-put_line.ensures.ok;
    }

pub returns-in-Err-flush_into-clause-begun : goal.returns-in-Err-flush_into-clause-begun
returns-in-Err-flush_into-clause-begun g c =
    let i = c.loop-word.invariant in
    left_off c.args.database.now _ _ c.args.words.now c.loop-word.word-index i.answers i.found (g.W.Write.contents c.args.writer.now.inner) _ _
    c.loop-word.buffer i.text c.in-Err-flush_into.ensures.front
