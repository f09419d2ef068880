use Rattle.std.proofs.Common.{◌≡◌, ◌<◌, ◌≤◌, ◌++◌, ℕ, List, length, map, sym, ap, subst, ◌∙◌, arith}
use Rattle.std.specs.Prelude.{Contains}
use Rattle.std.proofs.lemmas.List.{get_or_default, take_all}
use Rattle.kmc_base.specs.Strands.{key}
use Rattle.kmc_device.specs.Device.{WritesOut}
use Rattle.kmc_device.specs.Lemmas.Devices.{gathered_out, on_err, on_err_then, on_ok_then}
use Rattle.kmc_lists.specs.Line.{line_of, text_of}
use Rattle.kmc_sum.specs.Lemmas.Written.{out_front, out_more}
use Rattle.kmc_join.proofs.Answered.{answers_more, front_answers}
use Rattle.kmc_join.proofs.queries.put_answers.Goals as goal

pub count_of-count-requires-clause-there : goal.count_of-count-requires-clause-there
count_of-count-requires-clause-there g c =
    subst (Contains c.args.keys.now) (sym c.key.ensures)
    (c.requires.there c.word-item.result (c.loop-word.word-index, omega arith, sym c.word-item.is))

pub returns-in_err-put_line-clause-front : goal.returns-in_err-put_line-clause-front
returns-in_err-put_line-clause-front g c = on_err c.from_residual.result _ (λ count are.
    front_answers (λ (w : List ℕ). (w, count (key c.args.strands w))) c.args.words.now c.loop-word.word-index _ _
    (out_front _ _ _ _ _ (c.loop-word.invariant.so count are) c.in_err-put_line.ensures.front))

pub loop-word-preserved : goal.loop-word-preserved
loop-word-preserved g c =
    let i = c.loop-word.invariant in
    let words = c.args.words.now in
    let n = c.loop-word.word-index in
    let word = c.word-item.result in
    let inside : n < length words = omega arith in
    record {
      kept = c.in_ok-put_line.ensures.kept ∙ i.kept;
      so = λ count are.
          let told : c.count_of-count.result ≡ count (key c.args.strands word) = c.count_of-count.ensures count are ∙ ap count c.key.ensures in
          let put = subst (λ m. WritesOut (g.W.Write.contents c.loop-word.writer.inner) (g.W.Write.contents c.put_line.new.writer.inner)
          (c.loop-word.buffer ++ line_of (word, m)) c.put_line.new.self) told c.in_ok-put_line.ensures.ok in
          subst (λ (t : List ℕ). WritesOut (g.W.Write.contents c.args.writer.now.inner) (g.W.Write.contents c.put_line.new.writer.inner) t
          c.put_line.new.self)
          (answers_more (λ (w : List ℕ). (w, count (key c.args.strands w))) words n word inside
          (c.word-item.is ∙ get_or_default words n word _ inside))
          (out_more _ _ _ _ _ _ _ (i.so count are) put);
    }

pub returns-clause-ok : goal.returns-clause-ok
returns-clause-ok g c =
    let words = c.args.words.now in
    let n = c.loop-word.word-index in
    let all : length words ≤ n = omega arith in
    on_ok_then c.flush_into.result _ _
    (λ out. λ count are. gathered_out _ _ _ _ _
    (subst (λ (ws : List (List ℕ)). WritesOut (g.W.Write.contents c.args.writer.now.inner) (g.W.Write.contents c.loop-word.writer.inner)
    (text_of (map (λ (w : List ℕ). (w, count (key c.args.strands w))) ws)) c.loop-word.buffer)
    (take_all n words all) (c.loop-word.invariant.so count are)) out)
    c.flush_into.ensures.ok

pub returns-clause-front : goal.returns-clause-front
returns-clause-front g c =
    let words = c.args.words.now in
    let n = c.loop-word.word-index in
    let all : length words ≤ n = omega arith in
    on_err_then c.flush_into.result _ _
    (λ front. λ count are. out_front _ _ _ _ _
    (subst (λ (ws : List (List ℕ)). WritesOut (g.W.Write.contents c.args.writer.now.inner) (g.W.Write.contents c.loop-word.writer.inner)
    (text_of (map (λ (w : List ℕ). (w, count (key c.args.strands w))) ws)) c.loop-word.buffer)
    (take_all n words all) (c.loop-word.invariant.so count are)) front)
    c.flush_into.ensures.front
