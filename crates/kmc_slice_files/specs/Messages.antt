-- What a user is told of a file that is at fault.
use Rattle.std.specs.Prelude.{ℕ, List, ◌++◌, codes, decimal}
use Rattle.kmc_slice_files.specs.declared.header.HeaderFault.{HeaderFault}
use Rattle.kmc_slice_files.specs.declared.header.HeaderFault.TheVariants as header
use Rattle.kmc_slice_files.specs.declared.read.FrameFault.TheVariants as frame
use Rattle.kmc_slice_files.specs.declared.frames.FramesFault.{FramesFault}
use Rattle.kmc_slice_files.specs.declared.frames.FramesFault.TheVariants.{Next, Behind, TooMany}
use Rattle.kmc_slice_files.specs.declared.frames.FileFault.{FileFault}
use Rattle.kmc_slice_files.specs.declared.slice.SliceFault.{SliceFault}
use Rattle.kmc_slice_files.specs.declared.slice.SliceFault.TheVariants.{Header, Other, File}

abbrev pub text_of_header_fault : HeaderFault → List ℕ
text_of_header_fault header.Read = codes "cannot be read"
text_of_header_fault header.Short = codes "was cut short within its header"
text_of_header_fault header.NoSliceFile = codes "is no file of a slice"
text_of_header_fault (header.OtherVersion v) = codes "is of version " ++ decimal v ++ codes ", and version 1 is read"
text_of_header_fault header.Damaged = codes "has a damaged header"
text_of_header_fault header.OutOfRange = codes "has a header with a number out of its range"

abbrev pub text_of_frames_fault : FramesFault → List ℕ
text_of_frames_fault (Next frame.Read) = codes "it cannot be read"
text_of_frames_fault (Next frame.Memory) = codes "out of memory"
text_of_frames_fault (Next frame.Short) = codes "the file was cut short"
text_of_frames_fault (Next frame.Damaged) = codes "it is damaged"
text_of_frames_fault Behind = codes "bytes stand behind the end"
text_of_frames_fault TooMany = codes "there are too many frames"

-- so many frames are sound, and the next one would begin at this byte: `behind frame 11, at byte 40960: it is damaged`
abbrev pub text_of_file_fault : FileFault → List ℕ
text_of_file_fault e =
    codes "behind frame " ++ decimal e.place.frames ++ codes ", at byte " ++ decimal e.place.byte ++ codes ": " ++ text_of_frames_fault e.why

abbrev pub text_of_slice_fault : SliceFault → List ℕ
text_of_slice_fault (Header e) = text_of_header_fault e
text_of_slice_fault (Other h) = codes "is of another slice than the first file, or was cut otherwise"
text_of_slice_fault (File e) = text_of_file_fault e
