-- The words of a super-k-mer are those of a front and of what goes on k - 1 codes before the front's end.
use Rattle.std.proofs.Common.{◌≡◌, ℕ, ◌+◌, ◌*◌, ◌-◌, ◌≤◌, List, ◌++◌, length, take, drop, map, refl, sym, ap, ◌∙◌, arith, length-drop}
use Rattle.std.proofs.lemmas.List.{length-take-le, drop-drop, drop-take, take-take, take_rest}
use Rattle.std.proofs.lemmas.List.Sums.{sum_by-append}
use Rattle.std.specs.List.{range_with_len, sum_by, All}
use Rattle.kmc_base.specs.declared.strands.Strands.{Strands}
use Rattle.kmc_base.specs.Strands.{key, keys}
use Rattle.kmc_base.specs.Words.{window}
use Rattle.kmc_base.specs.Lemmas.Rolling.{codes_front}
use Rattle.kmc_base.specs.Lemmas.Places.{places_append, places_moved}
use Rattle.kmc_base.specs.Record.{codes_in, size_of}
use Rattle.kmc_base.specs.Lemmas.Whole.{first_codes}
use Rattle.kmc_record.specs.RecordKeys.{key_words, GainsWords, IsRecordKey}
use Rattle.kmc_base.specs.Lemmas.Codes.{length_codes, are_codes, take_codes, drop_codes}
use Rattle.kmc_record.specs.Lemmas.Taken.{IsRecord}

-- ---- windows

window_front : (k l : ℕ) (s : List ℕ) (i : ℕ) → i + k ≤ l → window k (take l s) i ≡ window k s i
window_front k l s i room =
    let parts : l ≡ i + (l - i) = omega arith in
    ap (λ n. take k (drop i (take n s))) parts ∙ ap (take k) (drop-take i (l - i) s) ∙ take-take k (l - i) (drop i s) (omega arith)

window_behind : (k n : ℕ) (s : List ℕ) (i : ℕ) → window k (drop n s) i ≡ window k s (n + i)
window_behind k n s i = ap (take k) (drop-drop i n s)

module _ (strands : Strands) (k : ℕ) (s : List ℕ) (n : ℕ) (some : 1 ≤ k) (room : n + k ≤ length s + 1) where
  keys_in_two : keys strands k s ≡ keys strands k (take (n + (k - 1)) s) ++ keys strands k (drop n s)
  keys_in_two =
      let at : ℕ → List ℕ = λ i. key strands (window k s i) in
      let m = length s + 1 - k - n in
      let parts : length s + 1 - k ≡ n + m = omega (arith, room) in
      let front_long : length (take (n + (k - 1)) s) + 1 - k ≡ n = omega (arith, length-take-le (n + (k - 1)) s (omega (arith, room, some)), some) in
      let back_long : length (drop n s) + 1 - k ≡ m = omega (arith, length-drop n s) in
      let in_front : ℕ → List ℕ = λ i. key strands (window k (take (n + (k - 1)) s) i) in
      let in_back : ℕ → List ℕ = λ i. key strands (window k (drop n s) i) in
      let front : map at (range_with_len 0 n) ≡ keys strands k (take (n + (k - 1)) s) =
      places_moved at in_front n 0 0
      (λ i less. let z : 0 + i ≡ i = omega arith in
      ap at z ∙ ap (key strands) (sym (window_front k (n + (k - 1)) s i (omega (arith, less, some)))) ∙ sym (ap in_front z))
      ∙ ap (λ q. map in_front (range_with_len 0 q)) (sym front_long) in
      let back : map at (range_with_len (0 + n) m) ≡ keys strands k (drop n s) =
      places_moved at in_back m (0 + n) 0
      (λ i less. let z : 0 + i ≡ i = omega arith in let y : 0 + n + i ≡ n + i = omega arith in
      ap at y ∙ ap (key strands) (sym (window_behind k n s i)) ∙ sym (ap in_back z))
      ∙ ap (λ q. map in_back (range_with_len 0 q)) (sym back_long) in
      ap (λ q. map at (range_with_len 0 q)) parts ∙ places_append at 0 n m ∙ (λ j. front j ++ back j)

  -- what they are worth
  pub worth_in_two : (g : List ℕ → ℕ) → sum_by g (keys strands k s) ≡ sum_by g (keys strands k (take (n + (k - 1)) s)) + sum_by g (keys strands k (drop n s))
  worth_in_two g = ap (sum_by g) keys_in_two ∙ sum_by-append g (keys strands k (take (n + (k - 1)) s)) (keys strands k (drop n s))

-- ---- codes in bytes

-- the first codes of the first bytes
pub first_of_bytes : (n m : ℕ) (bs : List ℕ) → n ≤ 4 * m → take n (codes_in (take m bs)) ≡ take n (codes_in bs)
first_of_bytes n m bs inside = ap (take n) (take_codes m bs) ∙ take-take n (4 * m) (codes_in bs) inside

-- the codes of a record, in the bytes behind its first one
pub codes_there : (n : ℕ) (rest : List ℕ) → take n (codes_in (take (length rest - 1) (drop 1 rest))) ≡ first_codes n rest
codes_there n rest =
    ap (λ (t : List ℕ). take n (codes_in t)) (take_rest rest 1) ∙ sym (first_of_bytes n (size_of n) (drop 1 rest) (omega arith))

pub front_is_record : (k n : ℕ) (bs : List ℕ) → k ≤ n → n ≤ 4 * length bs → IsRecord k (take n (codes_in bs))
front_is_record k n bs least most =
    let long : length (take n (codes_in bs)) ≡ n = length-take-le n (codes_in bs) (omega (arith, length_codes bs, most)) in
    record { least = omega (arith, long, least); codes = codes_front n (codes_in bs) (are_codes bs) }

-- what goes on behind some bytes
behind_bytes : (n at : ℕ) (bs : List ℕ) → 4 * at ≤ n → drop (4 * at) (take n (codes_in bs)) ≡ take (n - 4 * at) (codes_in (drop at bs))
behind_bytes n at bs inside =
    let parts : n ≡ 4 * at + (n - 4 * at) = omega (arith, inside) in
    ap (λ m. drop (4 * at) (take m (codes_in bs))) parts
    ∙ drop-take (4 * at) (n - 4 * at) (codes_in bs)
    ∙ ap (take (n - 4 * at)) (sym (drop_codes at bs))

-- ---- pieces

module _ (strands : Strands) (k n : ℕ) (bs : List ℕ) where
  -- the words of the record behind some of its bytes
  abbrev pub words_behind : ℕ → List (List ℕ)
  words_behind at = keys strands k (drop (4 * at) (take n (codes_in bs)))

  -- the numbers so far, with the words behind, come to the numbers of the beginning and all words
  pub record IsPieced (start now : List ℕ) (at : ℕ) : Type 0 where
    pub each : (g : List ℕ → ℕ) → sum_by g (key_words strands k now) + sum_by g (words_behind at) ≡ sum_by g (key_words strands k start) + sum_by g
        (keys strands k (take n (codes_in bs)))
    pub long : All (IsRecordKey k) start → All (IsRecordKey k) now
    pub inside : 4 * at + k ≤ n

  pub pieces_begin : (start : List ℕ) → k ≤ n → IsPieced start start 0
  pieces_begin start least = record { each = λ g. refl; long = λ h. h; inside = omega (arith, least) }

  pub piece_more : (start now more rest : List ℕ) (at on m : ℕ) → rest ≡ drop at bs → 1 ≤ k → m + 1 ≡ 4 * on + k → 4 * (at + on) + k ≤ n
      → n ≤ 4 * length bs → GainsWords strands k now more (take m (codes_in rest)) → IsPieced start now at → IsPieced start more (at + on)
  piece_more start now more rest at on m is some count room inside gains h =
      let whole : List ℕ = take n (codes_in bs) in
      let r : List ℕ = drop (4 * at) whole in
      let long : length whole ≡ n = length-take-le n (codes_in bs) (omega (arith, length_codes bs, inside)) in
      let long_rest : length r ≡ n - 4 * at = length-drop (4 * at) whole ∙ ap (λ t. t - 4 * at) long in
      let few : m ≡ 4 * on + (k - 1) = omega (arith, count, some) in
      let front : take m (codes_in rest) ≡ take (4 * on + (k - 1)) r =
      (λ j. take (few j) (codes_in (is j)))
      ∙ sym (take-take (4 * on + (k - 1)) (n - 4 * at) (codes_in (drop at bs)) (omega (arith, room, some)))
      ∙ ap (take (4 * on + (k - 1))) (sym (behind_bytes n at bs (omega (arith, room)))) in
      let next : drop (4 * on) r ≡ drop (4 * (at + on)) whole =
      let e : 4 * at + 4 * on ≡ 4 * (at + on) = omega arith in
      drop-drop (4 * on) (4 * at) whole ∙ ap (λ t. drop t whole) e in
      record {
        each = λ g.
            let two = worth_in_two strands k r (4 * on) some (omega (arith, long_rest, room)) g in
            let a : sum_by g (keys strands k (take m (codes_in rest))) ≡ sum_by g (keys strands k (take (4 * on + (k - 1)) r)) =
            ap (λ t. sum_by g (keys strands k t)) front in
            let b : sum_by g (keys strands k (drop (4 * on) r)) ≡ sum_by g (words_behind (at + on)) = ap (λ t. sum_by g (keys strands k t)) next in
            omega (arith, two, a, b, gains.each g, h.each g);
        long = λ all. gains.long (h.long all);
        inside = room;
      }

  pub piece_last : (start now more rest : List ℕ) (at : ℕ) → rest ≡ drop at bs → GainsWords strands k now more (take (n - 4 * at) (codes_in rest))
      → IsPieced start now at
      → GainsWords strands k start more (take n (codes_in bs))
  piece_last start now more rest at is gains h = record {
    each = λ g.
        let a : sum_by g (words_behind at) ≡ sum_by g (keys strands k (take (n - 4 * at) (codes_in rest))) =
        ap (λ t. sum_by g (keys strands k t)) (behind_bytes n at bs (omega (arith, h.inside)) ∙ ap (λ t. take (n - 4 * at) (codes_in t)) (sym is)) in
        omega (arith, a, gains.each g, h.each g);
    long = λ all. gains.long (h.long all);
  }
