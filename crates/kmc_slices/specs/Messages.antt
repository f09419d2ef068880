-- What a user is shown of a fault.
use Rattle.std.specs.Prelude.{ℕ, List, ◌++◌, codes, decimal}
use Rattle.kmc_reads.specs.Messages.{text_of_reads_error}
use Rattle.kmc_record.specs.declared.part_error.PartError.{PartError}
use Rattle.kmc_record.specs.declared.part_error.PartError.TheVariants.{Damaged, WrongBin, Memory as NoMemory}
use Rattle.kmc_options.specs.Words.{Word, name_at}
use Rattle.kmc_slices.specs.declared.bin_fault.BinFault.{BinFault}
use Rattle.kmc_slice_files.specs.Messages.{text_of_slice_fault}
use Rattle.kmc_slice_files.specs.declared.opening.CreateFault.TheVariants as create
use Rattle.kmc_options.specs.SliceMessages.{text_of_no_cut, text_of_no_list}
use Rattle.kmc_slices.specs.declared.error.CutError.{CutError}
use Rattle.kmc_slices.specs.declared.error.CutError.TheVariants as cut
use Rattle.kmc_slices.specs.declared.listing.ListError.TheVariants as list
use Rattle.kmc_slices.specs.declared.programs.cut_fault.CutFault.{CutFault}
use Rattle.kmc_slices.specs.declared.programs.cut_fault.CutFault.TheVariants.{Request, NotMade, Cut}
use Rattle.kmc_slices.specs.declared.programs.list_fault.ListFault.{ListFault}
use Rattle.kmc_slices.specs.declared.programs.list_fault.ListFault.TheVariants.{Request as ListRequest, NotOpened, File, Dump}

-- why the records of a bin are none of that bin
abbrev pub text_of_part_error : ℕ → PartError → List ℕ
text_of_part_error bin (Damaged fault offset) = codes "bin " ++ decimal bin ++ codes ": the record at byte " ++ decimal offset ++ codes " is damaged"
text_of_part_error bin (WrongBin offset) =
    codes "bin " ++ decimal bin ++ codes ": the record at byte " ++ decimal offset ++ codes " has words of another bin"
text_of_part_error bin NoMemory = codes "out of memory"

abbrev pub text_of_bin_fault : BinFault → List ℕ
text_of_bin_fault e = text_of_part_error e.bin e.why

-- the reads were not cut to the files that begin with the prefix
abbrev pub text_of_cut_error : Word → CutError → List ℕ
text_of_cut_error prefix cut.Memory = codes "kmc_cut: out of memory"
text_of_cut_error prefix cut.Read = codes "kmc_cut: read failed"
text_of_cut_error prefix (cut.Write s) = codes "kmc_cut: " ++ prefix ++ codes "." ++ decimal s ++ codes ": cannot be written"
text_of_cut_error prefix (cut.Input e) = codes "kmc_cut: " ++ text_of_reads_error e
text_of_cut_error prefix cut.TooLong = codes "kmc_cut: input too long"

-- the line that tells of a fault of the cutting: `kmc_cut: a.3: cannot be written`
abbrev pub message_of_cut : Word → CutFault → List ℕ
message_of_cut prefix (Request e) = text_of_no_cut e
message_of_cut prefix (NotMade (create.File s)) =
    codes "kmc_cut: " ++ prefix ++ codes "." ++ decimal s ++ codes ": cannot be made; one that is there is written over with --force alone"
message_of_cut prefix (NotMade create.Memory) = codes "kmc_cut: out of memory"
message_of_cut prefix (Cut e) = text_of_cut_error prefix e

-- the line that tells of a fault of the listing: `kmc_list: a.3: behind frame 12, at byte 40960: the file was cut short`
abbrev pub message_of_list : List Word → ListFault → List ℕ
message_of_list files (ListRequest e) = text_of_no_list e
message_of_list files (NotOpened i) = codes "kmc_list: " ++ name_at files i ++ codes ": cannot be opened"
message_of_list files (File i e) = codes "kmc_list: " ++ name_at files i ++ codes ": " ++ text_of_slice_fault e
message_of_list files (Dump (list.Foreign e)) = codes "kmc_list: " ++ text_of_bin_fault e
message_of_list files (Dump list.Memory) = codes "kmc_list: out of memory"
message_of_list files (Dump list.Write) = codes "kmc_list: cannot write"
