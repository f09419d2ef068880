use Rattle.std.proofs.Common.{◌≡◌, ℕ, ◌+◌, ◌*◌, ◌-◌, ◌/◌, ◌^◌, ◌<◌, ◌≤◌, min, List, length, get_or, take, map, vec_len, vec_capacity, ap, sym, ◌∙◌, arith, ◌%◌, max, Fits, w8, w64}
use Rattle.std.proofs.lemmas.List.{length-take-le, get_or-take}
use Rattle.std.proofs.lemmas.Result.{IfOk-from_err}
use borrow.Author.Count.{falls}
use Rattle.kmc_base.specs.Lemmas.Packs.{AreCodes}
use Rattle.kmc_base.specs.Lemmas.Rolling.{IsRolling, ahead_quarters, behind_quarters, codes_front, roll_start, step_at, byte_step, fits_at}
use Rattle.kmc_base.specs.Record.{codes_in}
use Rattle.kmc_base.specs.Lemmas.Codes.{are_codes, length_codes, byte_codes, at}
use Rattle.kmc_record.proofs.Filling.{fits, top_room, held_first, held_more, held_all, behind_bytes}
use Rattle.kmc_record.proofs.record.push_record.Goals as goal

long : (bs : List ℕ) (n : ℕ) → n ≤ 4 * length bs → length (take n (codes_in bs)) ≡ n
long bs n h = length-take-le n (codes_in bs) (omega (arith, length_codes bs))

within : (bs : List ℕ) (n : ℕ) → n ≤ 4 * length bs → n ≤ length (codes_in bs)
within bs n h = omega (arith, length_codes bs)

small : (bs : List ℕ) (n : ℕ) → AreCodes (take n (codes_in bs))
small bs n = codes_front n (codes_in bs) (are_codes bs)

-- a word and its weight fit in one
beside : (k bits most top : ℕ) → 1 ≤ k → 2 * k + bits ≤ 2 * most → top ≡ 4 ^ (k - 1)
    → (j : ℕ) × (1 ≤ j) × (2 * j + bits ≤ 2 * most) × (4 * top ≤ 4 ^ j)
beside k bits most top some room is = (k, some, room, top_room k top some is)

-- the place of the highest code of a word
top_place : (k most top : ℕ) → 1 ≤ k → k ≤ most → top ≡ 4 ^ (k - 1) → (j : ℕ) × (j < most) × (top ≡ 4 ^ j)
top_place k most top some room is = (k - 1, omega (arith, some, room), is)

in_front : (k n size j : ℕ) → k ≤ n → n ≤ 4 * size → j < (k - 1) / 4 → j < size
in_front k n size j long inside less = omega (arith, long, inside, less)

in_head : (k n size i : ℕ) → k ≤ n → n ≤ 4 * size → i < k - 1 → i < 4 * size
in_head k n size i long inside less = omega (arith, long, inside, less)

in_bytes : (n size j : ℕ) → n ≤ 4 * size → j < n / 4 → j < size
in_bytes n size j inside less = omega (arith, inside, less)

in_codes : (n size i : ℕ) → n ≤ 4 * size → i < n → i < 4 * size
in_codes n size i inside less = omega (arith, inside, less)

in_near : (begun n near i : ℕ) → near ≡ min n (4 * begun) → i < near → i < n
in_near begun n near i is less = omega (arith, is, less)

in_byte : (n j r : ℕ) → j < n / 4 → r < 4 → 4 * j + r < n
in_byte n j r less few = omega (arith, less, few)

room_left : (n i len capacity : ℕ) → i < n → len + (n - i) ≤ capacity → len < capacity
room_left n i len capacity less room = omega (arith, less, room)

code_inside : (n i : ℕ) (bs : List ℕ) → n ≤ 4 * length bs → i < n → i < length (take n (codes_in bs))
code_inside n i bs inside less = omega (arith, long bs n inside, less)

ended : (i n : ℕ) → i ≤ n → n ≤ i → i ≡ n
ended i n most least = omega (arith, most, least)

head_less : (k n i : ℕ) → k ≤ n → i < k - 1 → i < n
head_less k n i enough less = omega (arith, enough, less)

whole_bytes : (k : ℕ) → 4 * ((k - 1) / 4) ≤ k - 1
whole_bytes k = omega arith

byte_begun : (n j : ℕ) → j < n / 4 → min (4 * j) n ≡ 4 * j + 0
byte_begun n j less = omega (arith, less)

code_on : (j r : ℕ) → 4 * j + r + 1 ≡ 4 * j + (r + 1)
code_on j r = omega arith

byte_ended : (n j r : ℕ) → j < n / 4 → r ≤ 4 → 4 ≤ r → 4 * j + r ≡ min (4 * (j + 1)) n
byte_ended n j r less most least = omega (arith, less, most, least)

-- a word has at most 64 symbols, and a record fewer than 4000
begun_fits : (k : ℕ) → k ≤ 64 → Fits w64 (k + 2)
begun_fits k most = omega (arith, most)

near_fits : (k : ℕ) → k ≤ 64 → Fits w64 (4 * ((k + 2) / 4))
near_fits k most = omega (arith, most)

whole_fits : (k : ℕ) → k ≤ 64 → Fits w64 (4 * ((k - 1) / 4))
whole_fits k most = omega (arith, most)

symbols_fit : (n size : ℕ) → n ≤ 4 * size → size < 1000 → Fits w64 (n + 1)
symbols_fit n size inside few = omega (arith, inside, few)

last_fits : (n size : ℕ) → n ≤ 4 * size → size < 1000 → Fits w64 (4 * (n / 4))
last_fits n size inside few = omega (arith, inside, few)

all_places : (k n : ℕ) → k ≤ n → k ≤ n + 1
all_places k n enough = omega (arith, enough)

top_far : (k most top j : ℕ) → j < (k - 1) / 4 → k ≤ most → top ≡ 4 ^ (k - 1) → (i : ℕ) × (3 ≤ i) × (i < most) × (top ≡ 4 ^ i)
top_far k most top j less room is = (k - 1, omega (arith, less), omega (arith, less, room), is)

-- where a code is in its byte
twice_fits : (r : ℕ) → r < 4 → Fits w64 (2 * r)
twice_fits r few = omega (arith, few)

twice_most : (r : ℕ) → r < 4 → 2 * r ≤ 6
twice_most r few = omega (arith, few)

shift_fits : (r : ℕ) → Fits w8 (6 - 2 * r)
shift_fits r = omega arith

shift_most : (r : ℕ) → 6 - 2 * r < 8
shift_most r = omega arith

is_code : (n : ℕ) → n % 4 < 4
is_code n = omega arith

first_end : (k : ℕ) → 1 ≤ k → k - 1 + 1 ≡ k
first_end k some = omega (arith, some)

far_enough : (k i : ℕ) → k - 1 ≤ i → k ≤ i + 1
far_enough k i far = omega (arith, far)

far_in_bytes : (k j r : ℕ) → (k + 2) / 4 ≤ j → k ≤ 4 * j + r + 1
far_in_bytes k j r far = omega (arith, far)

near_ended : (k n near i : ℕ) → 1 ≤ k → k ≤ n → near ≡ min n (4 * ((k + 2) / 4)) → (k - 1 ≤ near → i ≤ near) → near ≤ i
    → i ≡ min (4 * ((k + 2) / 4)) n
near_ended k n near i some enough is most least =
    let far : k - 1 ≤ near = omega (arith, some, enough, is) in
    omega (arith, most far, least, is)

last_most : (begun n near last : ℕ) → near ≡ min n (4 * begun) → last ≡ max near (4 * (n / 4)) → last ≤ n
last_most begun n near last is end = omega (arith, is, end)

far_in_rest : (k n near last i : ℕ) → k ≤ n → near ≡ min n (4 * ((k + 2) / 4)) → last ≡ max near (4 * (n / 4)) → last ≤ i → k ≤ i + 1
far_in_rest k n near last i enough is end far = omega (arith, enough, is, end, far)

front_inside : (k n j : ℕ) (bs : List ℕ) → k ≤ n → n ≤ 4 * length bs → j < (k - 1) / 4 → 4 * j < length (take n (codes_in bs))
front_inside k n j bs enough inside less = omega (arith, long bs n inside, enough, less)

-- the window with the codes of one byte more
front_more : (k n j f b g d top : ℕ) (bs : List ℕ) → 1 ≤ k → k ≤ n → n ≤ 4 * length bs → j < (k - 1) / 4 → top ≡ 4 ^ (k - 1)
    → g ≡ ahead_quarters top f (get_or bs j 0) → d ≡ behind_quarters top b (get_or bs j 0)
    → IsRolling k (take n (codes_in bs)) (4 * j) f b → IsRolling k (take n (codes_in bs)) (4 * (j + 1)) g d
front_more k n j f b g d top bs some enough inside less t ahead behind h =
    let codes = byte_codes bs j (omega arith) in
    let up : 4 * j + 4 ≡ 4 * (j + 1) = omega arith in
    let r = byte_step k some (take n (codes_in bs)) (4 * j) _ _ _ _ f b top g d (small bs n) (omega (arith, long bs n inside))
    (codes.0 ∙ sym (get_or-take n (codes_in bs) (4 * j) 0 (omega arith)))
    (codes.1 ∙ sym (get_or-take n (codes_in bs) (4 * j + 1) 0 (omega arith)))
    (codes.2 ∙ sym (get_or-take n (codes_in bs) (4 * j + 2) 0 (omega arith)))
    (codes.3 ∙ sym (get_or-take n (codes_in bs) (4 * j + 3) 0 (omega arith)))
    t ahead behind h in
    rw up at r

pub returns-in_err-reserve : goal.returns-in_err-reserve
returns-in_err-reserve g c = IfOk-from_err _ _ c.from_residual.ensures.0

pub front-init : goal.front-init
front-init g c = roll_start c.args.rule.k (take c.args.symbols (codes_in c.args.bytes.now)) _ _ c.zero-forward.ensures c.ones-back.ensures

pub slide_byte-requires-clause-back : goal.slide_byte-requires-clause-back
slide_byte-requires-clause-back g c =
    let num = g.W.PackedKmer.number in
    let bs = c.args.bytes.now in
    let n = c.args.symbols in
    fits_at c.args.rule.k c.args.rule.within.0 (take n (codes_in bs)) (4 * c.front.j) (num c.front.forward) (num c.front.back)
    (num c.top-top.result) (small bs n) (front_inside c.args.rule.k n c.front.j bs c.requires.long c.requires.inside c.front-test.true)
    c.top-top.ensures c.front.invariant

pub front-preserved : goal.front-preserved
front-preserved g c =
    let num = g.W.PackedKmer.number in
    front_more c.args.rule.k c.args.symbols c.front.j (num c.front.forward) (num c.front.back) (num c.slide_byte.result.0) (num c.slide_byte.result.1)
    (num c.top-top.result) c.args.bytes.now c.args.rule.within.0 c.requires.long c.requires.inside c.front-test.true c.top-top.ensures
    c.slide_byte.ensures.ahead c.slide_byte.ensures.behind c.front.invariant

pub head-init : goal.head-init
head-init g c =
    let end = ended c.front.j ((c.args.rule.k - 1) / 4) c.front.auto.j-end c.front-test.false in
    rw end at c.front.invariant

pub behind-back-requires-clause-back : goal.behind-back-requires-clause-back
behind-back-requires-clause-back g c =
    let num = g.W.PackedKmer.number in
    let bs = c.args.bytes.now in
    fits c.args.rule.strands c.args.rule.k c.args.symbols c.args.weight.bits c.args.weight.times c.args.rule.within.0 (codes_in bs) (are_codes bs)
    (within bs c.args.symbols c.requires.inside) (num c.top-top.result) c.top-top.ensures
    c.head.i (num c.head.forward) (num c.head.back) (head_less c.args.rule.k c.args.symbols c.head.i c.requires.long c.head-test.true) c.head.invariant

pub head-preserved : goal.head-preserved
head-preserved g c =
    let num = g.W.PackedKmer.number in
    let bs = c.args.bytes.now in
    let n = c.args.symbols in
    let less = head_less c.args.rule.k n c.head.i c.requires.long c.head-test.true in
    step_at c.args.rule.k c.args.rule.within.0 (take n (codes_in bs)) c.head.i c.code_at-code.result (num c.head.forward) (num c.head.back)
    (num c.ahead-forward.result) (num c.behind-back.result) (num c.top-top.result)
    (small bs n) (code_inside n c.head.i bs c.requires.inside less) (c.code_at-code.ensures.is ∙ sym
    (get_or-take n (codes_in bs) c.head.i 0 less)) c.top-top.ensures c.ahead-forward.ensures c.behind-back.ensures c.head.invariant

pub near-init : goal.near-init
near-init g c =
    let num = g.W.PackedKmer.number in
    let bs = c.args.bytes.now in
    let n = c.args.symbols in
    let old = map num c.args.words.now.items in
    let end = ended c.head.i (c.args.rule.k - 1) (c.head.auto.i-end (whole_bytes c.args.rule.k)) c.head-test.false in
    let r = held_first c.args.rule.strands c.args.rule.k n c.args.weight.bits c.args.weight.times c.args.rule.within.0 (codes_in bs) (are_codes bs)
    (within bs n c.requires.inside) (num c.top-top.result) c.top-top.ensures (c.args.rule.k - 1) (num c.head.forward) (num c.head.back) old
    (vec_len c.reserve.new.self) (vec_capacity c.reserve.new.self) (first_end c.args.rule.k c.args.rule.within.0)
    (omega (arith, c.in_ok-reserve.ensures.ok)) (rw end at c.head.invariant) in
    record {
      rolling = r.rolling;
      pushed = ap (map num) c.reserve.ensures.items ∙ r.pushed;
      room = r.room;
    }

pub push_code-requires-clause-back : goal.push_code-requires-clause-back
push_code-requires-clause-back g c =
    let num = g.W.PackedKmer.number in
    let bs = c.args.bytes.now in
    let n = c.args.symbols in
    fits c.args.rule.strands c.args.rule.k n c.args.weight.bits c.args.weight.times c.args.rule.within.0 (codes_in bs) (are_codes bs)
    (within bs n c.requires.inside) (num c.top-top.result) c.top-top.ensures c.near.i (num c.near.forward) (num c.near.back)
    (in_near ((c.args.rule.k + 2) / 4) n _ c.near.i c.min-near.ensures c.near-test.true) c.near.invariant.rolling

pub near-preserved : goal.near-preserved
near-preserved g c =
    let num = g.W.PackedKmer.number in
    let bs = c.args.bytes.now in
    let n = c.args.symbols in
    held_more c.args.rule.strands c.args.rule.k n c.args.weight.bits c.args.weight.times c.args.rule.within.0 (codes_in bs) (are_codes bs)
    (within bs n c.requires.inside) (num c.top-top.result) c.top-top.ensures c.near.i _ (num c.near.forward) (num c.near.back)
    (num c.push_code.result.0) (num c.push_code.result.1)
    (map num c.args.words.now.items) (map num c.near.words.items) (map num c.push_code.new.words.items) (vec_len c.near.words)
    (vec_capacity c.near.words) (vec_len c.push_code.new.words) (vec_capacity c.push_code.new.words)
    (in_near ((c.args.rule.k + 2) / 4) n _ c.near.i c.min-near.ensures c.near-test.true)
    (far_enough c.args.rule.k c.near.i c.near.auto.i) c.code_at-code-in-near.ensures.is c.push_code.ensures.ahead c.push_code.ensures.behind
    c.push_code.ensures.pushed c.push_code.ensures.len c.push_code.ensures.capacity c.near.invariant

pub bytes-init : goal.bytes-init
bytes-init g c =
    let num = g.W.PackedKmer.number in
    let bs = c.args.bytes.now in
    let n = c.args.symbols in
    let here = near_ended c.args.rule.k n c.min-near.result c.near.i c.args.rule.within.0 c.requires.long c.min-near.ensures
    c.near.auto.i-end c.near-test.false in
    rw here at c.near.invariant

pub codes-init : goal.codes-init
codes-init g c =
    let num = g.W.PackedKmer.number in
    let bs = c.args.bytes.now in
    let n = c.args.symbols in
    let here = byte_begun n c.bytes.j c.bytes-test.true in
    rw here at c.bytes.invariant

pub push_code-requires-in-codes-clause-back : goal.push_code-requires-in-codes-clause-back
push_code-requires-in-codes-clause-back g c =
    let num = g.W.PackedKmer.number in
    let bs = c.args.bytes.now in
    let n = c.args.symbols in
    fits c.args.rule.strands c.args.rule.k n c.args.weight.bits c.args.weight.times c.args.rule.within.0 (codes_in bs) (are_codes bs)
    (within bs n c.requires.inside) (num c.top-top.result) c.top-top.ensures (4 * c.bytes.j + c.codes.r) (num c.codes.forward) (num c.codes.back)
    (in_byte n c.bytes.j c.codes.r c.bytes-test.true c.codes-test.true) c.codes.invariant.rolling

pub codes-preserved : goal.codes-preserved
codes-preserved g c =
    let num = g.W.PackedKmer.number in
    let bs = c.args.bytes.now in
    let n = c.args.symbols in
    let up = code_on c.bytes.j c.codes.r in
    let r = held_more c.args.rule.strands c.args.rule.k n c.args.weight.bits c.args.weight.times c.args.rule.within.0 (codes_in bs) (are_codes bs)
    (within bs n c.requires.inside) (num c.top-top.result) c.top-top.ensures (4 * c.bytes.j + c.codes.r) _ (num c.codes.forward)
    (num c.codes.back) (num c.push_code-in-codes.result.0) (num c.push_code-in-codes.result.1)
    (map num c.args.words.now.items) (map num c.codes.words.items) (map num c.push_code-in-codes.new.words.items) (vec_len c.codes.words)
    (vec_capacity c.codes.words) (vec_len c.push_code-in-codes.new.words) (vec_capacity c.push_code-in-codes.new.words)
    (in_byte n c.bytes.j c.codes.r c.bytes-test.true c.codes-test.true) (far_in_bytes c.args.rule.k c.bytes.j c.codes.r c.bytes.auto.j)
    (sym (at bs c.bytes.j c.codes.r
    (in_bytes n _ c.bytes.j c.requires.inside c.bytes-test.true) c.codes-test.true)) c.push_code-in-codes.ensures.ahead
    c.push_code-in-codes.ensures.behind c.push_code-in-codes.ensures.pushed c.push_code-in-codes.ensures.len c.push_code-in-codes.ensures.capacity c.codes.invariant in
    rw up at r

pub bytes-preserved : goal.bytes-preserved
bytes-preserved g c =
    let num = g.W.PackedKmer.number in
    let bs = c.args.bytes.now in
    let n = c.args.symbols in
    let here = byte_ended n c.bytes.j c.codes.r c.bytes-test.true c.codes.auto.r-end c.codes-test.false in
    rw here at c.codes.invariant

pub rest-init : goal.rest-init
rest-init g c =
    let num = g.W.PackedKmer.number in
    let bs = c.args.bytes.now in
    let n = c.args.symbols in
    let here = behind_bytes
    ((c.args.rule.k + 2) / 4) n c.min-near.result c.max-last.result c.bytes.j c.min-near.ensures c.max-last.ensures c.bytes.auto.j c.bytes-test.false c.bytes.auto.j-end in
    rw here at c.bytes.invariant

pub push_code-requires-in-rest-clause-back : goal.push_code-requires-in-rest-clause-back
push_code-requires-in-rest-clause-back g c =
    let num = g.W.PackedKmer.number in
    let bs = c.args.bytes.now in
    let n = c.args.symbols in
    fits c.args.rule.strands c.args.rule.k n c.args.weight.bits c.args.weight.times c.args.rule.within.0 (codes_in bs) (are_codes bs)
    (within bs n c.requires.inside) (num c.top-top.result) c.top-top.ensures c.rest.i (num c.rest.forward)
    (num c.rest.back) c.rest-test.true c.rest.invariant.rolling

pub rest-preserved : goal.rest-preserved
rest-preserved g c =
    let num = g.W.PackedKmer.number in
    let bs = c.args.bytes.now in
    let n = c.args.symbols in
    held_more c.args.rule.strands c.args.rule.k n c.args.weight.bits c.args.weight.times c.args.rule.within.0 (codes_in bs) (are_codes bs)
    (within bs n c.requires.inside) (num c.top-top.result) c.top-top.ensures c.rest.i _ (num c.rest.forward) (num c.rest.back)
    (num c.push_code-in-rest.result.0) (num c.push_code-in-rest.result.1)
    (map num c.args.words.now.items) (map num c.rest.words.items) (map num c.push_code-in-rest.new.words.items) (vec_len c.rest.words)
    (vec_capacity c.rest.words) (vec_len c.push_code-in-rest.new.words) (vec_capacity c.push_code-in-rest.new.words)
    c.rest-test.true
    (far_in_rest c.args.rule.k n c.min-near.result c.max-last.result c.rest.i c.requires.long c.min-near.ensures c.max-last.ensures c.rest.auto.i)
    c.code_at-code-in-rest.ensures.is c.push_code-in-rest.ensures.ahead c.push_code-in-rest.ensures.behind c.push_code-in-rest.ensures.pushed
    c.push_code-in-rest.ensures.len c.push_code-in-rest.ensures.capacity c.rest.invariant

pub returns : goal.returns
returns g c =
    let num = g.W.PackedKmer.number in
    let bs = c.args.bytes.now in
    let n = c.args.symbols in
    let least = last_most ((c.args.rule.k + 2) / 4) n c.min-near.result c.max-last.result c.min-near.ensures c.max-last.ensures in
    let most : c.rest.i ≤ n = c.rest.auto.i-end least in
    held_all c.args.rule.strands c.args.rule.k n c.args.weight.bits c.args.weight.times c.args.rule.within.0 (codes_in bs) (are_codes bs)
    (within bs n c.requires.inside) (num c.top-top.result) c.top-top.ensures c.rest.i (num c.rest.forward) (num c.rest.back)
    (map num c.args.words.now.items) (map num c.rest.words.items) (vec_len c.rest.words) (vec_capacity c.rest.words)
    (ended c.rest.i n most c.rest-test.false) c.rest.invariant

pub push_code-requires-clause-beside : goal.push_code-requires-clause-beside
push_code-requires-clause-beside g c =
    beside c.args.rule.k c.args.weight.bits g.W.PackedKmer.most (g.W.PackedKmer.number c.top-top.result) c.args.rule.within.0 c.requires.beside c.top-top.ensures

pub push_code-requires-in-codes-clause-beside : goal.push_code-requires-in-codes-clause-beside
push_code-requires-in-codes-clause-beside g c =
    beside c.args.rule.k c.args.weight.bits g.W.PackedKmer.most (g.W.PackedKmer.number c.top-top.result) c.args.rule.within.0 c.requires.beside c.top-top.ensures

pub push_code-requires-in-rest-clause-beside : goal.push_code-requires-in-rest-clause-beside
push_code-requires-in-rest-clause-beside g c =
    beside c.args.rule.k c.args.weight.bits g.W.PackedKmer.most (g.W.PackedKmer.number c.top-top.result) c.args.rule.within.0 c.requires.beside c.top-top.ensures

pub top-top-requires-clause-some : goal.top-top-requires-clause-some
top-top-requires-clause-some g c = c.args.rule.within.0

pub ones-back-requires-clause-some : goal.ones-back-requires-clause-some
ones-back-requires-clause-some g c = c.args.rule.within.0

pub overflow_sub-whole : goal.overflow_sub-whole
overflow_sub-whole g c = c.args.rule.within.0

pub overflow_sub-i-end : goal.overflow_sub-i-end
overflow_sub-i-end g c = c.args.rule.within.0

pub overflow_step-i-2 : goal.overflow_step-i-2
overflow_step-i-2 g c = c.args.rule.within.0

pub top-top-requires-clause-most : goal.top-top-requires-clause-most
top-top-requires-clause-most g c = c.requires.most

pub ones-back-requires-clause-most : goal.ones-back-requires-clause-most
ones-back-requires-clause-most g c = c.requires.most

pub ahead-forward-requires-clause-top : goal.ahead-forward-requires-clause-top
ahead-forward-requires-clause-top g c = top_place c.args.rule.k g.W.PackedKmer.most _ c.args.rule.within.0 c.requires.most c.top-top.ensures

pub behind-back-requires-clause-top : goal.behind-back-requires-clause-top
behind-back-requires-clause-top g c = top_place c.args.rule.k g.W.PackedKmer.most _ c.args.rule.within.0 c.requires.most c.top-top.ensures

pub push_code-requires-clause-top : goal.push_code-requires-clause-top
push_code-requires-clause-top g c = top_place c.args.rule.k g.W.PackedKmer.most _ c.args.rule.within.0 c.requires.most c.top-top.ensures

pub push_code-requires-in-codes-clause-top : goal.push_code-requires-in-codes-clause-top
push_code-requires-in-codes-clause-top g c = top_place c.args.rule.k g.W.PackedKmer.most _ c.args.rule.within.0 c.requires.most c.top-top.ensures

pub push_code-requires-in-rest-clause-top : goal.push_code-requires-in-rest-clause-top
push_code-requires-in-rest-clause-top g c = top_place c.args.rule.k g.W.PackedKmer.most _ c.args.rule.within.0 c.requires.most c.top-top.ensures

pub bounds-bytes-j : goal.bounds-bytes-j
bounds-bytes-j g c = in_front c.args.rule.k c.args.symbols _ c.front.j c.requires.long c.requires.inside c.front-test.true

pub code_at-code-requires : goal.code_at-code-requires
code_at-code-requires g c = in_head c.args.rule.k c.args.symbols _ c.head.i c.requires.long c.requires.inside c.head-test.true

pub ahead-forward-requires-clause-code : goal.ahead-forward-requires-clause-code
ahead-forward-requires-clause-code g c = c.code_at-code.ensures.small

pub behind-back-requires-clause-code : goal.behind-back-requires-clause-code
behind-back-requires-clause-code g c = c.code_at-code.ensures.small

pub push_code-requires-clause-code : goal.push_code-requires-clause-code
push_code-requires-clause-code g c = c.code_at-code-in-near.ensures.small

pub push_code-requires-in-rest-clause-code : goal.push_code-requires-in-rest-clause-code
push_code-requires-in-rest-clause-code g c = c.code_at-code-in-rest.ensures.small

pub bounds-bytes-j-in-bytes : goal.bounds-bytes-j-in-bytes
bounds-bytes-j-in-bytes g c = in_bytes c.args.symbols _ c.bytes.j c.requires.inside c.bytes-test.true

pub code_at-code-requires-in-rest : goal.code_at-code-requires-in-rest
code_at-code-requires-in-rest g c = in_codes c.args.symbols _ c.rest.i c.requires.inside c.rest-test.true

pub code_at-code-requires-in-near : goal.code_at-code-requires-in-near
code_at-code-requires-in-near g c =
    let n = c.args.symbols in
    in_codes n _ c.near.i c.requires.inside (in_near ((c.args.rule.k + 2) / 4) n _ c.near.i c.min-near.ensures c.near-test.true)

pub push_code-requires-clause-room : goal.push_code-requires-clause-room
push_code-requires-clause-room g c =
    let n = c.args.symbols in
    room_left n c.near.i _ _ (in_near ((c.args.rule.k + 2) / 4) n _ c.near.i c.min-near.ensures c.near-test.true) c.near.invariant.room

pub push_code-requires-in-codes-clause-room : goal.push_code-requires-in-codes-clause-room
push_code-requires-in-codes-clause-room g c =
    let n = c.args.symbols in
    room_left n (4 * c.bytes.j + c.codes.r) _ _ (in_byte n c.bytes.j c.codes.r c.bytes-test.true c.codes-test.true) c.codes.invariant.room

pub push_code-requires-in-rest-clause-room : goal.push_code-requires-in-rest-clause-room
push_code-requires-in-rest-clause-room g c =
    room_left c.args.symbols c.rest.i _ _ c.rest-test.true c.rest.invariant.room

pub overflow_add-symbols : goal.overflow_add-symbols
overflow_add-symbols g c = symbols_fit c.args.symbols (length c.args.bytes.now) c.requires.inside c.requires.few

pub overflow_sub-symbols : goal.overflow_sub-symbols
overflow_sub-symbols g c = all_places c.args.rule.k c.args.symbols c.requires.long

pub overflow_add-begun : goal.overflow_add-begun
overflow_add-begun g c = begun_fits c.args.rule.k c.args.rule.within.1

pub overflow_mul-begun : goal.overflow_mul-begun
overflow_mul-begun g c = near_fits c.args.rule.k c.args.rule.within.1

pub overflow_mul-symbols : goal.overflow_mul-symbols
overflow_mul-symbols g c = last_fits c.args.symbols (length c.args.bytes.now) c.requires.inside c.requires.few

pub slide_byte-requires-clause-top : goal.slide_byte-requires-clause-top
slide_byte-requires-clause-top g c = top_far c.args.rule.k g.W.PackedKmer.most _ c.front.j c.front-test.true c.requires.most c.top-top.ensures

pub front-smaller : goal.front-smaller
front-smaller g c = falls ((c.args.rule.k - 1) / 4) c.front.j c.front-test.true

pub overflow_step-i : goal.overflow_step-i
overflow_step-i g c = whole_fits c.args.rule.k c.args.rule.within.1

pub head-smaller : goal.head-smaller
head-smaller g c = falls (c.args.rule.k - 1) c.head.i c.head-test.true

pub near-smaller : goal.near-smaller
near-smaller g c = falls c.min-near.result c.near.i c.near-test.true

pub overflow_mul-code : goal.overflow_mul-code
overflow_mul-code g c = twice_fits c.codes.r c.codes-test.true

pub overflow_sub-code : goal.overflow_sub-code
overflow_sub-code g c = twice_most c.codes.r c.codes-test.true

pub overflow_cast-code : goal.overflow_cast-code
overflow_cast-code g c = shift_fits c.codes.r

pub overflow_shr-code : goal.overflow_shr-code
overflow_shr-code g c = shift_most c.codes.r

pub push_code-requires-in-codes-clause-code : goal.push_code-requires-in-codes-clause-code
push_code-requires-in-codes-clause-code g c = is_code _

pub codes-smaller : goal.codes-smaller
codes-smaller g c = falls 4 c.codes.r c.codes-test.true

pub bytes-smaller : goal.bytes-smaller
bytes-smaller g c = falls (c.args.symbols / 4) c.bytes.j c.bytes-test.true

pub rest-smaller : goal.rest-smaller
rest-smaller g c = falls c.args.symbols c.rest.i c.rest-test.true
