-- The two ends of lanes, and the buffers that passed them.
use Rattle.std.specs.Prelude.{◌≡◌, ℕ, ◌<◌, List, [], length, All, Option, Result, slice_index_or}
use Rattle.kmc_device.specs.Device.{Watched}
use Rattle.kmc_lists.specs.Listed.{Listed}
use Rattle.rtrb.specs.Ring.{IsPair, SameProducer, SameConsumer, sent, received}
use Rattle.kmc_dump.specs.Full.{IsFull}
use Rattle.kmc_dump.specs.Written.{IsWritten}
use Rattle.kmc_dump.specs.declared.buffers.Buffer.{Buffer}
use Rattle.kmc_dump.specs.declared.lane.Filler.{Filler}
use Rattle.kmc_dump.specs.declared.lane.Tray.{Tray}
use Rattle.kmc_dump.specs.declared.ranges.Ranges.{Ranges}

-- each buffer that a filler sent on is such a one
pub record Sends {W : Type 0} (is : Buffer W → Type 0) (f : Filler W) : Type 0 where
  pub all : All is (sent f.full)

-- each buffer that came to a tray is such a one
pub record Gets {W : Type 0} (is : Buffer W → Type 0) (t : Tray W) : Type 0 where
  pub all : All is (received t.full)

-- the two ends of a lane that no full buffer has passed
pub record IsLane {W : Type 0} (f : Filler W) (t : Tray W) : Type 0 where
  pub ends : IsPair f.full t.full
  pub none : sent f.full ≡ []

-- what is sent on at one end comes to the other, which stands at the same place
pub record ArePaired {W : Type 0} (fs : List (Filler W)) (ts : List (Tray W)) : Type 0 where
  pub long : length ts ≡ length fs
  pub each : (i : ℕ) (d : Filler W) (e : Tray W) → i < length fs → IsPair (slice_index_or fs i d).full (slice_index_or ts i e).full

-- the ends of lanes that no full buffer has passed
pub record AreLanes {W : Type 0} (fs : List (Filler W)) (ts : List (Tray W)) : Type 0 where
  pub paired : ArePaired fs ts
  pub none : All (λ f. sent f.full ≡ []) fs

module _ {W : Type 0} where
  -- they send to the same trays as before
  abbrev pub SameFillers : List (Filler W) → List (Filler W) → Type 0
  SameFillers fs gs = (i : ℕ) (d : Filler W) → i < length fs → SameProducer (slice_index_or fs i d).full (slice_index_or gs i d).full

  -- they get what the same fillers send
  abbrev pub SameTrays : List (Tray W) → List (Tray W) → Type 0
  SameTrays ts us = (i : ℕ) (d : Tray W) → i < length ts → SameConsumer (slice_index_or ts i d).full (slice_index_or us i d).full

  -- where each buffer that a filler had sent on was such a one, each is that it has sent on since
  abbrev pub SendMore : (Buffer W → Type 0) → List (Filler W) → List (Filler W) → Type 0
  SendMore is fs gs = (i : ℕ) (d : Filler W) → i < length fs → Sends is (slice_index_or fs i d) → Sends is (slice_index_or gs i d)

-- what the fillers sent on since holds the texts of its ranges, if what they had sent on does
pub record AreSentOn {W : Type 0} (line : List ℕ × ℕ → List ℕ) (r : Ranges) (lists : List Listed) (fs gs : List (Filler W)) : Type 0 where
  pub same : SameFillers fs gs
  pub more : SendMore (IsFull line r lists) fs gs

-- where what came to the trays holds the texts of its ranges, this text is written
pub record IsWrittenFrom {W D A E : Type 0} (contents : D → Option (List ℕ)) (line : List ℕ × ℕ → List ℕ) (r : Ranges) (lists : List Listed) (text : List ℕ)
    (ts us : List (Tray W)) (writer after : Watched D) (answer : Result A E) : Type 0 where
  pub same : SameTrays ts us
  pub written : All (Gets (IsFull line r lists)) us → IsWritten contents text writer after answer
