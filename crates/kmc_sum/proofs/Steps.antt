-- The merge goes on by one line, ends, or is given up.
use Rattle.std.proofs.Common.{◌≡◌, ℕ, ◌+◌, ◌-◌, ◌<◌, ◌≤◌, ◌^◌, true, false, cond, min, List, [], ◌∷◌, ◌++◌, length, Option, refl, sym, ap, subst, ◌∙◌, arith, length-append}
use Rattle.std.proofs.lemmas.List.Sums.{sum_by-cons, sum_by-append, sum_by-set}
use Rattle.std.proofs.KnownBytes.{Appends-nil}
use Rattle.std.specs.Io.KnownBytes.{Appends}
use Rattle.kmc_base.specs.Words.{kmer_cmp}
use Rattle.kmc_base.specs.Packed.{unpack}
use Rattle.std.specs.declared.cmp.Ordering.TheVariants.{Less}
use Rattle.kmc_count.specs.declared.limits.Limits.{Limits}
use Rattle.kmc_count.specs.Occurrences.{same_word}
use Rattle.kmc_device.specs.Device.{AppendsFront, WritesOut}
use Rattle.kmc_count.specs.Dump.{IsDump}
use Rattle.kmc_lists.specs.Line.{text_of}
use Rattle.kmc_sum.specs.Sum.{listed_count, sum_of}
use Rattle.kmc_sum.specs.Tally.{kept_pair, Tallied}
use Rattle.kmc_sum.specs.Heads.{head_at, pending, IsTree}
use Rattle.kmc_sum.specs.Sources.{AreReady, AreSources, GaveFronts, list_at, with_first}
use Rattle.kmc_sum.specs.State.{IsSoFar, IsBegun}
use Rattle.kmc_sum.specs.declared.heads.Head.{Head}
use Rattle.kmc_sum.specs.declared.source.Room.{Room}
use Rattle.kmc_sum.specs.Lemmas.Taken.{GaveLists, fronts_of, front_both, front_gathered, gave_all, text_both}
use Rattle.kmc_sum.specs.Lemmas.Tallies.{tally_end, tally_more, tally_next, tally_start}

-- each reader gave the lines of its list and nothing else, and the dump of the sum of the lists was written
pub record IsWritten (k : ℕ) (l : Limits) (starts nows : List (Option (List ℕ))) (lines : ℕ) (old new : Option (List ℕ)) : Type 0 where
  pub lists : List (List (List ℕ × ℕ))
  pub gave : GaveLists k starts nows lists
  pub pairs : List (List ℕ × ℕ)
  pub dump : IsDump (sum_of lists) l pairs
  pub text : Appends old new (text_of pairs)
  pub count : lines ≡ length pairs

-- the first pair is added to the sum
sum_next : (k : ℕ) (heads : List Head) (lists : List (List (List ℕ × ℕ))) (y : List ℕ) → (head_at heads 1).source < length lists → (head_at heads 1).live ≡ true
    → sum_of (with_first k heads lists) y ≡ cond (same_word (unpack k (head_at heads 1).packed) y) (head_at heads 1).count 0 + sum_of lists y
sum_next k heads lists y inside live =
    let top = head_at heads 1 in
    let i = top.source in
    let p : List ℕ × ℕ = (unpack k top.packed, top.count) in
    let f = λ (pairs : List (List ℕ × ℕ)). listed_count pairs y in
    let one = λ (q : List ℕ × ℕ). cond (same_word q.0 y) q.1 0 in
    let is : list_at lists i ++ pending k top ≡ list_at lists i ++ p ∷ [] = ap (λ b. list_at lists i ++ cond b (p ∷ []) []) live in
    let all = sum_by-set f lists i (list_at lists i ++ pending k top) [] inside in
    let last : f (list_at lists i ++ pending k top) ≡ f (list_at lists i) + one p = ap f is ∙ sum_by-append one (list_at lists i) (p ∷ []) ∙ ap
    (λ m. f (list_at lists i) + m) (sum_by-cons one p [] ∙ omega arith) in
    omega (arith, all, last)

module _ (k : ℕ) (l : Limits) (small : l.cx ≤ 2 ^ 63) (starts nows : List (Option (List ℕ))) (rooms : List Room) (heads : List Head) (x : List ℕ)
    (n lines : ℕ) (old new : Option (List ℕ)) (gathered : List ℕ)
    (so : IsSoFar k l starts nows rooms heads x n lines old new gathered) where
  -- one more pair of the open word
  pub so_same : (nows' : List (Option (List ℕ))) (rooms' : List Room) (heads' : List Head) (m : ℕ) → (head_at heads 1).source < length starts
      → (head_at heads 1).live ≡ true → unpack k (head_at heads 1).packed ≡ x
      → m ≡ min (n + (head_at heads 1).count) (2 ^ 64 - 1) → AreSources k starts nows' rooms' heads' (with_first k heads so.lists)
      → IsSoFar k l starts nows' rooms' heads' x m lines old new gathered
  so_same nows' rooms' heads' m inside live same total are = record {
    lists = with_first k heads so.lists;
    sources = are;
    pairs = so.pairs;
    tallied = subst (λ c. Tallied l (sum_of (with_first k heads so.lists)) x c so.pairs) (sym total)
        (tally_more l small (sum_of so.lists) x n so.pairs so.tallied (sum_of (with_first k heads so.lists)) (head_at heads 1).count
        (λ y. sum_next k heads so.lists y (omega (arith, inside, so.sources.lists_long)) live ∙ ap
        (λ w. cond (same_word w y) (head_at heads 1).count 0 + sum_of so.lists y) same));
    out = so.out;
    count = so.count;
  }

  -- a pair of a word above the open one
  pub so_next : (nows' : List (Option (List ℕ))) (rooms' : List Room) (heads' : List Head) (lines' : ℕ) (new' : Option (List ℕ)) (gathered' : List ℕ)
      → (head_at heads 1).source < length starts → (head_at heads 1).live ≡ true
      → kmer_cmp x (unpack k (head_at heads 1).packed) ≡ Less → (head_at heads 1).count < 2 ^ 64 → WritesOut old new'
      (text_of so.pairs ++ text_of (kept_pair l x n)) gathered' → lines' ≡ lines + length (kept_pair l x n)
      → AreSources k starts nows' rooms' heads' (with_first k heads so.lists) → IsSoFar k l starts nows' rooms' heads'
      (unpack k (head_at heads 1).packed) (head_at heads 1).count lines' old new' gathered'
  so_next nows' rooms' heads' lines' new' gathered' inside live up fits out total are = record {
    lists = with_first k heads so.lists;
    sources = are;
    pairs = so.pairs ++ kept_pair l x n;
    tallied = tally_next l small (sum_of so.lists) x n so.pairs so.tallied (sum_of (with_first k heads so.lists)) (unpack k (head_at heads 1).packed)
        (head_at heads 1).count up fits
        (λ y. sum_next k heads so.lists y (omega (arith, inside, so.sources.lists_long)) live);
    out = subst (λ (t : List ℕ). WritesOut old new' t gathered') (sym (text_both so.pairs (kept_pair l x n))) out;
    count = omega (arith, total, so.count, length-append so.pairs (kept_pair l x n));
  }

  dump_end : IsDump (sum_of so.lists) l (so.pairs ++ kept_pair l x n)
  dump_end = tally_end l small (sum_of so.lists) x n so.pairs so.tallied

  -- given up before the open pair was put, and after
  pub begun_front : (nows' : List (Option (List ℕ))) (new' : Option (List ℕ)) → GaveFronts k starts nows' so.lists → AppendsFront old new'
      (text_of so.pairs) → IsBegun k l starts nows' old new'
  begun_front nows' new' gave text = record {
    lists = so.lists;
    gave = gave;
    pairs = so.pairs ++ kept_pair l x n;
    dump = dump_end;
    text = front_both old new' so.pairs (kept_pair l x n) text;
  }

  pub begun_before : (nows' : List (Option (List ℕ))) → GaveFronts k starts nows' so.lists → IsBegun k l starts nows' old new
  begun_before nows' gave = begun_front nows' new gave (front_gathered old new (text_of so.pairs) gathered so.out)

  pub begun_after : (nows' : List (Option (List ℕ))) (new' : Option (List ℕ)) → GaveFronts k starts nows' so.lists → AppendsFront old new'
      (text_of so.pairs ++ text_of (kept_pair l x n)) → IsBegun k l starts nows' old new'
  begun_after nows' new' gave text = record {
    lists = so.lists;
    gave = gave;
    pairs = so.pairs ++ kept_pair l x n;
    dump = dump_end;
    text = subst (AppendsFront old new') (sym (text_both so.pairs (kept_pair l x n))) text;
  }

  pub begun_put : (nows' : List (Option (List ℕ))) (new' : Option (List ℕ)) (gathered' : List ℕ) → GaveFronts k starts nows' so.lists
      → WritesOut old new' (text_of so.pairs ++ text_of (kept_pair l x n)) gathered' → IsBegun k l starts nows' old new'
  begun_put nows' new' gathered' gave out = begun_after nows' new' gave (front_gathered old new' _ gathered' out)

  -- given up at what the readers gave so far
  module _ (count : ℕ) (long : length nows ≡ count) (ready : AreReady k count rooms heads) where
    gave_now : GaveFronts k starts nows so.lists
    gave_now = fronts_of k starts nows rooms heads so.lists (omega (arith, ready.rooms_long, long, so.sources.nows_long)) so.sources

    pub ends_before : IsBegun k l starts nows old new
    ends_before = begun_before nows gave_now

    pub ends_in_front : (new' : Option (List ℕ)) → AppendsFront old new' (text_of so.pairs) → IsBegun k l starts nows old new'
    ends_in_front new' text = begun_front nows new' gave_now text

    pub ends_after : (new' : Option (List ℕ)) → AppendsFront old new' (text_of so.pairs ++ text_of (kept_pair l x n)) → IsBegun k l starts nows old new'
    ends_after new' text = begun_after nows new' gave_now text

  -- no source has a line more
  module _ (ready : AreReady k (length starts) rooms heads) (tree : IsTree heads) (some : 1 ≤ length starts) (few : k ≤ 64)
      (end : (head_at heads 1).live ≡ false) where
    pub written : (room : Room) (new' : Option (List ℕ)) (total : ℕ) → Appends old new' (text_of so.pairs ++ text_of (kept_pair l x n)) → total
        ≡ lines + length (kept_pair l x n) → IsWritten k l starts nows total old new'
    written room new' total text is = record {
      lists = so.lists;
      gave = gave_all k starts nows rooms heads so.lists so.sources ready tree some few end room;
      pairs = so.pairs ++ kept_pair l x n;
      dump = dump_end;
      text = subst (Appends old new') (sym (text_both so.pairs (kept_pair l x n))) text;
      count = omega (arith, is, so.count, length-append so.pairs (kept_pair l x n));
    }

-- nothing is taken
pub so_start : (k : ℕ) (l : Limits) (starts nows : List (Option (List ℕ))) (rooms : List Room) (heads : List Head) (x : List ℕ)
    (old : Option (List ℕ)) (held : List ℕ) (lists : List (List (List ℕ × ℕ))) → held ≡ [] → AreSources k starts nows rooms heads lists
    → ((y : List ℕ) → sum_of lists y ≡ 0) → IsSoFar k l starts nows rooms heads x 0 0 old old held
so_start k l starts nows rooms heads x old held lists empty are none = record {
  lists = lists;
  sources = are;
  pairs = [];
  tallied = tally_start l (sum_of lists) x none;
  out = ([], empty, Appends-nil old);
  count = refl;
}

pub so_like : (k : ℕ) (l : Limits) (starts nows : List (Option (List ℕ))) (rooms : List Room) (heads : List Head) (x y : List ℕ) (n m lines more : ℕ)
    (old new other : Option (List ℕ)) (gathered held : List ℕ)
    → y ≡ x → m ≡ n → more ≡ lines → other ≡ new → held ≡ gathered → IsSoFar k l starts nows rooms heads x n lines old new gathered
    → IsSoFar k l starts nows rooms heads y m more old other held
so_like k l starts nows rooms heads x y n m lines more old new other gathered held ex en el eo eg so =
    subst (λ w. IsSoFar k l starts nows rooms heads w m more old other held) (sym ex)
    (subst (λ w. IsSoFar k l starts nows rooms heads x w more old other held) (sym en)
    (subst (λ w. IsSoFar k l starts nows rooms heads x n w old other held) (sym el)
    (subst (λ w. IsSoFar k l starts nows rooms heads x n lines old w held) (sym eo)
    (subst (λ w. IsSoFar k l starts nows rooms heads x n lines old new w) (sym eg) so))))
