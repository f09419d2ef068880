use Rattle.std.proofs.Common.{◌++◌, ◌∷◌, [], List, ℕ, map, ap, sym, ◌∙◌, append_assoc, rules}
use Rattle.std.specs.List.{range_with_len}
use Rattle.std.proofs.lemmas.List.{map_push}
use Rattle.kmc_base.specs.Pieces.{piece}
use Rattle.kmc_stage_one.proofs.OnePiece.{piece_more}
use Rattle.kmc_stage_one.proofs.pieces.push_pieces.Goals as goal

pub loop-c-preserved : goal.loop-c-preserved
loop-c-preserved c =
    let old = map (λ s. s.now) c.args.out.now.items in
    let here = map (piece c.args.k c.args.l c.args.read.now) (range_with_len 0 c.loop-c.c) in
    ap (map (λ s. s.now)) c.in_ok-push.ensures.items ∙ map_push (λ s. s.now) c.loop-c.out.items c.piece.result
    ∙ ap (λ (t : List (List ℕ)). t ++ c.piece.result.now ∷ []) c.loop-c.invariant
    ∙ append_assoc old here (c.piece.result.now ∷ [])
    ∙ ap (λ (t : List ℕ). old ++ (here ++ t ∷ [])) c.piece.ensures.is
    ∙ ap (λ (t : List (List ℕ)). old ++ t) (sym (piece_more c.args.k c.args.l c.args.read.now c.loop-c.c))

pub loop-c-init : goal.loop-c-init
loop-c-init c = search rules

pub returns : goal.returns
returns c = search rules
