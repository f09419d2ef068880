-- The seats that come back are those that went out, each number once.
use Rattle.std.proofs.Common.{◌≡◌, ℕ, zero, suc, ◌+◌, ◌<◌, List, [], ◌∷◌, length, map, get_or, refl, sym, subst, ◌∙◌, arith}
use Rattle.std.specs.List.{AllZip}
use Rattle.std.proofs.lemmas.Slice.Zip.{AllZip-long}
use Rattle.atomic_table.specs.Seated.{TableId}
use Rattle.kmc_record.specs.Shapes.{Sizes}
use Rattle.kmc_record.specs.Parts.{Parcel}
use Rattle.kmc_partcore.specs.declared.shape.QueueShape.{QueueShape}
use Rattle.kmc_partqueue.specs.Counts.{Each, Among, total_of, same}
use Rattle.kmc_partqueue.specs.Dealing.{row_from}
use Rattle.kmc_partqueue.specs.Seats.{WriterState, ReaderState, AllEnded, IsWriterOf, IsReaderOf, new_writer, new_reader}
use Rattle.kmc_partqueue.specs.Lemmas.Numbered.{row_length, each_from, once_from}
use Rattle.kmc_partqueue.specs.SameSeats.{IsSameReader}
use Rattle.kmc_stage_one.specs.Splitters.{IsDone}
use Rattle.kmc_store.specs.Bins.{BinList, empty_bins}
use Rattle.kmc_stage_one.specs.Shards.{IsShard, begun}
use Rattle.kmc_stage_one.specs.declared.shard.Shard.{Shard}

module _ {A B : Type 0} (R : A → B → Type 0) (f : ℕ → A) where
  -- as many came back as went out
  row_long : (i n : ℕ) (l : List B) → AllZip R (row_from f i n) l → length l ≡ n
  row_long i n l z = AllZip-long R (row_from f i n) l z ∙ row_length f i n

  -- what came back at a place is what went out with its number
  pub row_back : (i n : ℕ) (l : List B) → AllZip R (row_from f i n) l → (j k : ℕ) (d : B) → j < length l → i + j ≡ k → R (f k) (get_or l j d)
  row_back i zero [] z j k d lt e = absurd (omega arith)
  row_back i zero (y ∷ l) z j k d lt e = absurd z
  row_back i (suc n) [] z j k d lt e = absurd z
  row_back i (suc n) (y ∷ l) z zero k d lt e = let own : i ≡ k = omega arith in subst (λ (o : ℕ). R (f o) y) own z.0
  row_back i (suc n) (y ∷ l) z (suc j) k d lt e = row_back (suc i) n l z.1 j k d (omega arith) (omega arith)

module _ (id : TableId) (q : QueueShape) where
  -- a writer's seat has the number of its place
  module _ (shape : Sizes) (batch : ℕ) (reads : List (List ℕ)) (sp : ℕ) (ds : List (WriterState Parcel))
      (back : AllZip (IsDone shape batch reads sp) (row_from (new_writer id q) 0 q.writers) ds) where
    pub its_writer : (j : ℕ) (d : WriterState Parcel) → j < length ds → IsDone shape batch reads sp (new_writer id q j) (get_or ds j d)
    its_writer j d lt = row_back (IsDone shape batch reads sp) (new_writer id q) 0 q.writers ds back j j d lt (omega arith)

    pub all_writers : length ds ≡ q.writers
    all_writers = row_long (IsDone shape batch reads sp) (new_writer id q) 0 q.writers ds back

    pub writers_of : Each (IsWriterOf id q) ds
    writers_of = each_from (IsWriterOf id q) ds (λ j d lt.
        let w = its_writer j d lt in
        let long = all_writers in
        (w.seat.table, w.seat.per_writer, (let n = w.seat.number in omega arith)))

    pub writers_once : (w : ℕ) → w < q.writers → total_of (λ (s : WriterState Parcel). same s.number w) ds ≡ 1
    writers_once w lt = let long = all_writers in
        once_from (λ (s : WriterState Parcel). s.number) w 0 ds (λ j d at. let n = (its_writer j d at).seat.number in omega arith) (omega arith) (omega arith)

  -- the seat is the same one, and has seen each lane at its end
  abbrev pub IsBack : ReaderState Parcel → ReaderState Parcel → Type 0
  IsBack s r = IsSameReader s r × AllEnded r.writers r.totals

  others_back : (bins : BinList) (ss : List (ReaderState Parcel)) (hs : List Shard) → AllZip IsShard
      (map (λ s. record { seat = s; bins = bins }) ss) hs → AllZip IsBack ss (map (λ (h : Shard). h.seat) hs)
  others_back bins [] [] z = tt
  others_back bins [] (h ∷ hs) z = absurd z
  others_back bins (s ∷ ss) [] z = absurd z
  others_back bins (s ∷ ss) (h ∷ hs) z = ((z.0.seat, z.0.ended), others_back bins ss hs z.1)

  seats_back : (bins : BinList) (ss : List (ReaderState Parcel)) (hs : List Shard) → AllZip IsShard (begun bins ss) hs → AllZip IsBack ss
      (map (λ (h : Shard). h.seat) hs)
  seats_back bins [] [] z = tt
  seats_back bins [] (h ∷ hs) z = absurd z
  seats_back bins (s ∷ ss) [] z = absurd z
  seats_back bins (s ∷ ss) (h ∷ hs) z = ((z.0.seat, z.0.ended), others_back (empty_bins bins.shape) ss hs z.1)

  first_ended : (n : ℕ) (rs : List (ReaderState Parcel)) → 0 < n → AllZip IsBack (row_from (new_reader id q) 0 n) rs → (s : ReaderState Parcel)
      × Among s rs × AllEnded s.writers s.totals
  first_ended zero rs lt z = absurd (omega arith)
  first_ended (suc n) [] lt z = absurd z
  first_ended (suc n) (r ∷ rs) lt z = (r, (0, refl), z.0.1)

  -- a reader's seat has the number of its place
  module _ (bins : BinList) (hs : List Shard) (rs : List (ReaderState Parcel)) (are : rs ≡ map (λ (h : Shard). h.seat) hs)
      (back : AllZip IsShard (begun bins (row_from (new_reader id q) 0 q.readers)) hs) where
    readers_back : AllZip IsBack (row_from (new_reader id q) 0 q.readers) rs
    readers_back = subst (AllZip IsBack (row_from (new_reader id q) 0 q.readers)) (sym are) (seats_back bins (row_from (new_reader id q) 0 q.readers) hs back)

    its_reader : (j : ℕ) (d : ReaderState Parcel) → j < length rs → IsBack (new_reader id q j) (get_or rs j d)
    its_reader j d lt = row_back IsBack (new_reader id q) 0 q.readers rs readers_back j j d lt (omega arith)

    all_readers : length rs ≡ q.readers
    all_readers = row_long IsBack (new_reader id q) 0 q.readers rs readers_back

    pub readers_of : Each (IsReaderOf id q) rs
    readers_of = each_from (IsReaderOf id q) rs (λ j d lt. let r = (its_reader j d lt).0 in (r.table, r.per_writer, r.writers))

    pub readers_once : (w : ℕ) → w < q.readers → total_of (λ (s : ReaderState Parcel). same s.number w) rs ≡ 1
    readers_once w lt = let long = all_readers in
        once_from (λ (s : ReaderState Parcel). s.number) w 0 rs (λ j d at. let n = (its_reader j d at).0.number in omega arith) (omega arith) (omega arith)

    pub one_ended : 0 < q.readers → (s : ReaderState Parcel) × Among s rs × AllEnded s.writers s.totals
    one_ended some = first_ended q.readers rs some readers_back
