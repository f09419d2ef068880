use Rattle.std.proofs.Common.{◌≡◌, ◌+◌, ◌-◌, [], ◌∷◌, ◌++◌, length, take, set, map, sym, ap, ◌∙◌, arith, decimal}
use Rattle.std.proofs.lemmas.List.{take_at, length-map}
use borrow.Rule.Slice.PartMut.{put_mid}
use Rattle.kmc_base.specs.Words.{letter}
use Rattle.kmc_device.specs.Lemmas.Lines.{line_made}
use Rattle.kmc_lists.proofs.line.put_line.Goals as goal

pub returns-clause-line : goal.returns-clause-line
returns-clause-line c =
    let at = c.args.at in
    let k = c.k.result in
    let word = c.args.word.now in
    let digits = c.as_bytes-text.result.now in
    let out = c.write_letters.new.out in
    let letters : take k out ≡ map letter word = ap (take k) c.write_letters.ensures ∙ take_at (map letter word) _ k
    (length-map word letter ∙ sym c.k.ensures.is) in
    let text : digits ≡ decimal c.args.count = c.as_bytes-text.ensures.value ∙ c.format.ensures.text in
    (λ i. take (at + k + 1 + length digits + 1) (set (put_mid (at + k + 1) (at + k + 1 + length digits - (at + k + 1))
    (set (put_mid at (length c.args.room.now - at) c.args.room.now out) (at + k) 9) (c.copy_from_slice.ensures.after i)) (at + k + 1 + length digits) 10))
    ∙ line_made c.args.room.now out digits at k (omega (
      arith,
      c.requires,
      c.k.ensures.is,
      c.format.ensures.fits,
      c.as_bytes-text.ensures.len,
      ap length text,
    )) (omega arith)
    ∙ (λ i. take at c.args.room.now ++ (letters i ++ (9 ∷ text i) ++ 10 ∷ []))
