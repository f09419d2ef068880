-- The records of a part.
use Rattle.std.proofs.Common.{ℕ, List}
use Rattle.kmc_record.specs.Shapes.{Sizes}
use Rattle.kmc_record.specs.Parts.{IsPart}
use Rattle.kmc_record.specs.Bodies.{AreRecordsOfBin}

pub records_of_part : (bin : ℕ) (shape : Sizes) (body : List ℕ) (words : ℕ) → IsPart bin shape body words → AreRecordsOfBin bin shape body
records_of_part bin shape body words h = record { super_kmers = h.super_kmers; records = h.records; belong = h.belong }
