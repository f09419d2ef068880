use Rattle.std.proofs.Common.{◌≡◌, ℕ, ◌-◌, ◌/◌, List, ◌++◌, length, take, drop, sym, ap, subst, ◌∙◌, arith, append_assoc, take_all, length-drop}
use Rattle.std.specs.Int.{bytes_high_first, to_le_bytes, w64}
use Rattle.kmc_base.specs.Lemmas.NumberBytes.{length_bytes}
use Rattle.kmc_base.specs.Packed.{unpack}
use Rattle.kmc_device.specs.Device.{AppendsFront}
use Rattle.kmc_device.specs.Lemmas.Devices.{front_of, on_err, on_err_then, on_ok_then}
use Rattle.kmc_database.specs.Layout.{IsLayout}
use Rattle.kmc_database.specs.Rows.{row_of}
use Rattle.kmc_database.specs.declared.layout.Layout.{Layout}
use Rattle.kmc_sum.specs.Lemmas.Written.{out_front}
use Rattle.kmc_database.proofs.Gathering.{out_as}
use Rattle.kmc_database.specs.Lemmas.Words.{row_is}
use Rattle.kmc_database.proofs.row.put_row.Goals as goal

-- the two parts that are put are the row
whole : (l : Layout) (is : IsLayout l) (n count : ℕ) (held word number : List ℕ) → word ≡ bytes_high_first 16 n → number ≡ to_le_bytes w64 count
    → (held ++ take (16 - (16 - (l.k - l.prefix) / 4)) (drop (16 - (l.k - l.prefix) / 4) word)) ++ take l.counter number
    ≡ held ++ row_of l (unpack l.k n, count)
whole l is n count held word number word_is number_is =
    let s = (l.k - l.prefix) / 4 in
    let long : length word ≡ 16 = ap length word_is ∙ length_bytes 16 n in
    let all : take (16 - (16 - s)) (drop (16 - s) word) ≡ drop (16 - s) word =
    take_all (16 - (16 - s)) (drop (16 - s) word) (omega (arith, length-drop (16 - s) word, long)) in
    append_assoc held (take (16 - (16 - s)) (drop (16 - s) word)) (take l.counter number)
    ∙ ap (λ (t : List ℕ). held ++ t)
    ((λ i. (all ∙ ap (drop (16 - s)) word_is) i ++ take l.counter (number_is i)) ∙ sym (row_is l is n count))

pub returns-in_err-put-clause-front : goal.returns-in_err-put-clause-front
returns-in_err-put-clause-front g c = on_err _ _ (front_of _ _ c.args.buffer.now _ c.in_err-put.ensures.front)

pub returns-clause-ok : goal.returns-clause-ok
returns-clause-ok g c =
    let l = c.args.layout.now in
    let is = whole l c.requires.layout c.args.packed c.args.count c.args.buffer.now c.high_bytes_first-word.result c.to_le_bytes-number.result
    c.high_bytes_first-word.ensures c.to_le_bytes-number.ensures in
    on_ok_then c.put-2.result _ _ (out_as _ _ _ _ _ _ _ _ is c.in_ok-put.ensures.ok) c.put-2.ensures.ok

pub returns-clause-front : goal.returns-clause-front
returns-clause-front g c =
    let l = c.args.layout.now in
    let is = whole l c.requires.layout c.args.packed c.args.count c.args.buffer.now c.high_bytes_first-word.result c.to_le_bytes-number.result
    c.high_bytes_first-word.ensures c.to_le_bytes-number.ensures in
    on_err_then c.put-2.result _ _
    (λ front. subst (AppendsFront _ _) is (front_of _ _ _ (take l.counter c.to_le_bytes-number.result) (out_front _ _ _ _ _ c.in_ok-put.ensures.ok front)))
    c.put-2.ensures.front
