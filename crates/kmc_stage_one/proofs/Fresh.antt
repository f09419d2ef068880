-- The seats of a new queue have put and got nothing.
use Rattle.std.proofs.Common.{◌≡◌, ◌<◌, List, [], ◌∷◌, map, refl, sym, subst, arith}
use Rattle.atomic_table.specs.Seated.{TableId}
use Rattle.kmc_record.specs.Parts.{Parcel}
use Rattle.kmc_partcore.specs.declared.shape.QueueShape.{QueueShape}
use Rattle.kmc_partqueue.specs.Counts.{Each}
use Rattle.kmc_partqueue.specs.Dealing.{row_from}
use Rattle.kmc_partqueue.specs.Seats.{WriterState, ReaderState, new_writer, new_reader}
use Rattle.kmc_partqueue.specs.Lemmas.Numbered.{each_row}
use Rattle.kmc_store.specs.Bins.{BinList, empty_bins}
use Rattle.kmc_stage_one.specs.Splitters.{IsFreshWriter}
use Rattle.kmc_stage_one.specs.Shards.{IsFreshReader, IsFreshShard, begun}

module _ (id : TableId) (q r : QueueShape) where
  pub fresh_writers : (l : List (WriterState Parcel)) → l ≡ row_from (new_writer id r) 0 r.writers → q ≡ r → Each (IsFreshWriter id q) l
  fresh_writers l is same = subst (λ (s : QueueShape). Each (IsFreshWriter id s) l) (sym same) (subst (Each (IsFreshWriter id r)) (sym is)
      (each_row (IsFreshWriter id r) (new_writer id r) 0 r.writers (λ j near. ((refl, refl, (let z : j < r.writers = omega arith in z)), refl))))

  pub fresh_readers : (l : List (ReaderState Parcel)) → l ≡ row_from (new_reader id r) 0 r.readers → q ≡ r → Each (IsFreshReader id q) l
  fresh_readers l is same = subst (λ (s : QueueShape). Each (IsFreshReader id s) l) (sym same) (subst (Each (IsFreshReader id r)) (sym is)
      (each_row (IsFreshReader id r) (new_reader id r) 0 r.readers (λ j near. ((refl, refl, refl), refl))))

  -- and so are these seats with bins
  others_fresh : (bins : BinList) (l : List (ReaderState Parcel)) → Each (IsFreshReader id q) l → Each (IsFreshShard id q bins.shape)
      (map (λ s. record { seat = s; bins = bins }) l)
  others_fresh bins [] all = tt
  others_fresh bins (s ∷ l) all = ((all.0, refl), others_fresh bins l all.1)

  pub fresh_shards : (bins : BinList) (l : List (ReaderState Parcel)) → Each (IsFreshReader id q) l → Each (IsFreshShard id q bins.shape) (begun bins l)
  fresh_shards bins [] all = tt
  fresh_shards bins (s ∷ l) all = ((all.0, refl), others_fresh (empty_bins bins.shape) l all.1)
