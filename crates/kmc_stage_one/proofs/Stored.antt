-- From the seats that the workers hand back to bins that hold the reads.
use Rattle.std.proofs.Common.{◌≡◌, ℕ, zero, suc, ◌*◌, ◌<◌, ◌≤◌, List, [], ◌∷◌, ◌++◌, length, map, get_or, ap, sym, subst, ◌∙◌, arith}
use Rattle.std.specs.List.{AllZip, sum_by, range_with_len}
use Rattle.kmc_record.specs.Shapes.{Sizes}
use Rattle.kmc_record.specs.Parts.{Parcel}
use Rattle.atomic_table.specs.Seated.{TableId}
use Rattle.kmc_partcore.specs.declared.shape.QueueShape.{QueueShape}
use Rattle.kmc_partcore.specs.declared.event.Received.{Received}
use Rattle.kmc_partqueue.specs.Counts.{Each, total_of, same}
use Rattle.kmc_partqueue.specs.Dealing.{row_from}
use Rattle.kmc_partqueue.specs.Seats.{WriterState, ReaderState, IsWriterOf, new_writer, new_reader}
use Rattle.kmc_partqueue.specs.Gathered.{IsGathered}
use Rattle.kmc_partqueue.specs.Laws.{GatheredLaw}
use Rattle.kmc_partqueue.specs.Lemmas.Sums.{each_map}
use Rattle.kmc_partqueue.specs.Lemmas.Numbered.{each_from}
use Rattle.kmc_store.specs.Bins.{BinList, empty_bins}
use Rattle.kmc_store.specs.Bodies.{AreAdded}
use Rattle.kmc_store.specs.Holds.{HoldsReads}
use Rattle.kmc_store.specs.Deals.{AreDealt, AreGathered}
use Rattle.kmc_store.specs.Laws.{GatheredPartsHoldReads}
use Rattle.kmc_record.specs.Lemmas.Sums.{sum_same, sum_map, sum_flat_map}
use Rattle.kmc_stage_one.specs.declared.shard.Shard.{Shard}
use Rattle.kmc_partqueue.specs.SameSeats.{items_of}
use Rattle.kmc_stage_one.specs.Splitters.{chunks_of, IsDone}
use Rattle.kmc_stage_one.specs.Shards.{IsShard, AreGrown, all_got, begun}
use Rattle.kmc_stage_one.proofs.Returned.{its_writer, all_writers, writers_of, writers_once}
use Rattle.kmc_record.specs.Lemmas.SumPlaces.{sum_places}

-- so many chunks of so many reads have room for all reads
chunks_cover : (batch n : ℕ) → 0 < batch → n ≤ chunks_of batch n * batch
chunks_cover batch n some = omega arith

-- ---- writers

module _ (shape : Sizes) (batch : ℕ) (reads : List (List ℕ)) (id : TableId) (q : QueueShape) (done : List (WriterState Parcel)) where
  abbrev AreDone : Type 0
  AreDone = AllZip (IsDone shape batch reads q.writers) (row_from (new_writer id q) 0 q.writers) done

  module _ (all : AreDone) where
    many : length done ≡ q.writers
    many = all_writers id q shape batch reads q.writers done all

    -- what the writer of a number sent
    abbrev sent : ℕ → List Parcel
    sent w = (get_or done w (new_writer id q 0)).sent

    -- the parts of its chunks
    dealt : (w : ℕ) → w < q.writers → AreDealt shape batch reads q.writers w (chunks_of batch (length reads)) (sent w)
    dealt w lt = (its_writer id q shape batch reads q.writers done all w (new_writer id q 0) (omega (arith, many))).sent

    -- the parts of the chunks of each
    pub each_dealt : Each (λ (s : WriterState Parcel). AreDealt shape batch reads q.writers s.number (chunks_of batch (length reads)) s.sent) done
    each_dealt = each_from (λ (s : WriterState Parcel). AreDealt shape batch reads q.writers s.number (chunks_of batch (length reads)) s.sent) done
        (λ j d lt. let back = its_writer id q shape batch reads q.writers done all j d lt in
        subst (λ (n : ℕ). AreDealt shape batch reads q.writers n (chunks_of batch (length reads)) (get_or done j d).sent) (sym back.seat.number) back.sent)

    each_once : Each (λ (s : WriterState Parcel). total_of (λ (t : WriterState Parcel). same t.number s.number) done ≡ 1) done
    each_once =
        each_map (IsWriterOf id q) (λ (s : WriterState Parcel). total_of (λ (t : WriterState Parcel). same t.number s.number) done ≡ 1)
        (λ s of. writers_once id q shape batch reads q.writers done all s.number of.2)
        done (writers_of id q shape batch reads q.writers done all)

    -- what all readers got is what the writers sent, in any order
    got_as_sent : GatheredLaw Parcel → (seats : List (ReaderState Parcel)) → IsGathered done seats
        → AreGathered q.writers sent (all_got seats)
    got_as_sent law seats gathered F =
        sum_flat_map F (λ (s : ReaderState Parcel). items_of s.got) seats
        ∙ sum_same (λ (s : ReaderState Parcel). sum_by F (items_of s.got)) (λ (s : ReaderState Parcel). sum_by (λ (e : Received Parcel). F e.item) s.got)
        (λ s. sum_map F (λ (e : Received Parcel). e.item) s.got)
        seats
        ∙ law F done seats gathered each_once
        ∙ sum_places (λ (s : WriterState Parcel). sum_by F s.sent) (new_writer id q 0) done
        ∙ ap (λ n. sum_by (λ w. sum_by F (sent w)) (range_with_len 0 n)) many

    pub held : GatheredLaw Parcel → GatheredPartsHoldReads → (seats : List (ReaderState Parcel)) (others before bodies : List (List ℕ))
        → 1 ≤ shape.k → 0 < q.writers → 0 < batch → IsGathered done seats
        → HoldsReads shape others before → AreAdded shape before bodies (all_got seats) → HoldsReads shape (others ++ reads) bodies
    held law hold seats others before bodies some_k some_w some gathered were are =
        hold shape batch others reads q.writers (chunks_of batch (length reads)) sent (all_got seats) before bodies
        some_k some_w (chunks_cover batch (length reads) some) dealt (got_as_sent law seats gathered) were are

-- ---- readers

others_grown : (shape : Sizes) (seats : List (ReaderState Parcel)) (shards : List Shard)
    → AllZip IsShard (map (λ s. record { seat = s; bins = empty_bins shape }) seats) shards → AreGrown (empty_bins shape) shards
others_grown shape [] [] all = tt
others_grown shape [] (h ∷ shards) all = absurd all
others_grown shape (s ∷ seats) [] all = absurd all
others_grown shape (s ∷ seats) (h ∷ shards) all = (all.0.shaped, all.0.added, others_grown shape seats shards all.1)

pub shards_grown : (bins : BinList) (seats : List (ReaderState Parcel)) (shards : List Shard) → AllZip IsShard (begun bins seats) shards → AreGrown bins shards
shards_grown bins [] [] all = tt
shards_grown bins [] (h ∷ shards) all = absurd all
shards_grown bins (s ∷ seats) [] all = absurd all
shards_grown bins (s ∷ seats) (h ∷ shards) all = (all.0.shaped, all.0.added, others_grown bins.shape seats shards all.1)

pub grown_shaped : (bins : BinList) (shards : List Shard) → AreGrown bins shards → Each (λ (h : Shard). h.bins.shape ≡ bins.shape) shards
grown_shaped bins [] grown = tt
grown_shaped bins (h ∷ shards) grown = (grown.0, grown_shaped (empty_bins bins.shape) shards grown.2)

-- a storer for each reader, of which there are some
pub some_shards : (id : TableId) (q : QueueShape) (bins : BinList) (n : ℕ) (shards : List Shard) → 0 < n → AllZip IsShard
    (begun bins (row_from (new_reader id q) 0 n)) shards → 0 < length shards
some_shards id q bins zero shards some all = absurd (omega arith)
some_shards id q bins (suc n) [] some all = absurd all
some_shards id q bins (suc n) (h ∷ shards) some all = omega arith
