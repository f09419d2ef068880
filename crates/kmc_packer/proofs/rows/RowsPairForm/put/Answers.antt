use Rattle.std.proofs.Common.{ℕ, ◌++◌, List, take, ap, ◌∙◌, arith, append_assoc}
use Rattle.kmc_packer.proofs.RowParts.{back_long, front_long, row_long_is, row_parts}
use Rattle.kmc_packer.proofs.rows.RowsPairForm.put.Goals as goal

pub put_part-behind-requires : goal.put_part-behind-requires
put_part-behind-requires c =
    let form = c.args.self.now in
    let first = front_long form.layout form.is c.args._k c.args.packed c.args.count c.requires.takes c.high_bytes_first-word.result
    c.to_le_bytes-number.result c.high_bytes_first-word.ensures c.to_le_bytes-number.ensures in
    let all = row_long_is form.layout form.is c.args._k c.args.packed c.args.count c.requires.takes c.high_bytes_first-word.result
    c.to_le_bytes-number.result c.high_bytes_first-word.ensures c.to_le_bytes-number.ensures in
    omega (arith, first, all, c.requires.room)

pub put_part-requires : goal.put_part-requires
put_part-requires c =
    let form = c.args.self.now in
    let first = front_long form.layout form.is c.args._k c.args.packed c.args.count c.requires.takes c.high_bytes_first-word.result
    c.to_le_bytes-number.result c.high_bytes_first-word.ensures c.to_le_bytes-number.ensures in
    let last = back_long form.layout form.is c.args._k c.args.packed c.args.count c.requires.takes c.high_bytes_first-word.result
    c.to_le_bytes-number.result c.high_bytes_first-word.ensures c.to_le_bytes-number.ensures in
    let all = row_long_is form.layout form.is c.args._k c.args.packed c.args.count c.requires.takes c.high_bytes_first-word.result
    c.to_le_bytes-number.result c.high_bytes_first-word.ensures c.to_le_bytes-number.ensures in
    omega (arith, first, last, all, c.requires.room, c.put_part-behind.ensures.end, c.put_part-behind.ensures.long)

pub returns-clause-bytes : goal.returns-clause-bytes
returns-clause-bytes c =
    let form = c.args.self.now in
    let parts = row_parts form.layout form.is c.args._k c.args.packed c.args.count c.requires.takes c.high_bytes_first-word.result
    c.to_le_bytes-number.result c.high_bytes_first-word.ensures c.to_le_bytes-number.ensures in
    let before = take c.args.at c.args.text.now in
    c.put_part.ensures.bytes
    ∙ ap (λ (t : List ℕ). t ++ take form.layout.counter c.to_le_bytes-number.result) c.put_part-behind.ensures.bytes
    ∙ append_assoc before _ _
    ∙ ap (λ (t : List ℕ). before ++ t) parts

pub returns-clause-end : goal.returns-clause-end
returns-clause-end c =
    let form = c.args.self.now in
    let first = front_long form.layout form.is c.args._k c.args.packed c.args.count c.requires.takes c.high_bytes_first-word.result
    c.to_le_bytes-number.result c.high_bytes_first-word.ensures c.to_le_bytes-number.ensures in
    let last = back_long form.layout form.is c.args._k c.args.packed c.args.count c.requires.takes c.high_bytes_first-word.result
    c.to_le_bytes-number.result c.high_bytes_first-word.ensures c.to_le_bytes-number.ensures in
    let all = row_long_is form.layout form.is c.args._k c.args.packed c.args.count c.requires.takes c.high_bytes_first-word.result
    c.to_le_bytes-number.result c.high_bytes_first-word.ensures c.to_le_bytes-number.ensures in
    omega (arith, first, last, all, c.put_part-behind.ensures.end, c.put_part.ensures.end)
