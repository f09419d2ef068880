-- Rounds that are filled.
use Rattle.std.proofs.Common.{◌≡◌, ◌⊎◌, ℕ, ◌≤◌, List, [], ◌++◌, length, Option, sym, subst, append-nil, arith, Some}
use Rattle.std.specs.Io.KnownBytes.{Consumes}
use Rattle.kmc_reads.specs.declared.format.Format.{Format}
use Rattle.kmc_reads.specs.Standing.{FeederState, Stands}
use Rattle.kmc_stage_one.specs.Fed.{HasRoomForReads, IsFed, IsFilled}
use Rattle.kmc_stage_one.specs.Lemmas.Fed.{consumes_none}

module _ (reads symbols block overlap : ℕ) (format : Format) (from to : Option (List ℕ)) (a b : ℕ) (text : List ℕ) (taken : List (List ℕ)) (old v : FeederState)
    (f : IsFed overlap format from to a b text taken v) (room : (v ≡ old) ⊎ HasRoomForReads reads symbols v) where
  -- one block more was fed
  pub filled : (end : Option (List ℕ)) (w : FeederState)
      → ((last : List ℕ) × (length last ≤ block) × Consumes to end last × Stands (Some overlap) format ((text ++ f.bytes) ++ last) taken w)
      → IsFilled reads symbols block overlap format from end text taken old w
  filled end w more = record {
    earlier = v;
    between = to;
    front = f.bytes;
    last = more.0;
    gave_front = f.given;
    gave_last = more.2;
    before = f.stands;
    after = more.3;
    most = more.1;
    room = room;
  }

  -- no read was made any more
  pub not_full : IsFilled reads symbols block overlap format from to text taken old v
  not_full = record {
    earlier = v;
    between = to;
    front = f.bytes;
    last = [];
    gave_front = f.given;
    gave_last = consumes_none to;
    before = f.stands;
    after = subst (λ t. Stands (Some overlap) format t taken v) (sym (append-nil (text ++ f.bytes))) f.stands;
    most = omega arith;
    room = room;
  }
