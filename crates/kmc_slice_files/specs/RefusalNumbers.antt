-- The numbers of the refusals.
use Rattle.std.specs.Prelude.{ℕ}
use Rattle.kmc_slice_files.specs.declared.header.HeaderFault.{HeaderFault}
use Rattle.kmc_slice_files.specs.declared.header.HeaderFault.TheVariants as header_fault
use Rattle.kmc_slice_files.specs.declared.slice.SliceFault.{SliceFault}
use Rattle.kmc_slice_files.specs.declared.slice.SliceFault.TheVariants as slice_fault
use Rattle.kmc_slice_files.specs.declared.opening.CreateFault.{CreateFault}
use Rattle.kmc_slice_files.specs.declared.opening.CreateFault.TheVariants as create_fault
use Rattle.kmc_slice_files.specs.declared.read.FrameFault.{FrameFault}
use Rattle.kmc_slice_files.specs.declared.read.FrameFault.TheVariants as frame_fault
use Rattle.kmc_slice_files.specs.declared.frames.FramesFault.{FramesFault}
use Rattle.kmc_slice_files.specs.declared.frames.FramesFault.TheVariants as frames_fault

abbrev pub number_of_header_fault : HeaderFault → ℕ
number_of_header_fault header_fault.Read = 1
number_of_header_fault header_fault.Short = 2
number_of_header_fault header_fault.NoSliceFile = 3
number_of_header_fault (header_fault.OtherVersion _) = 4
number_of_header_fault header_fault.Damaged = 5
number_of_header_fault header_fault.OutOfRange = 6

abbrev pub number_of_slice_fault : SliceFault → ℕ
number_of_slice_fault (slice_fault.Header _) = 1
number_of_slice_fault (slice_fault.Other _) = 2
number_of_slice_fault (slice_fault.File _) = 3

abbrev pub number_of_create_fault : CreateFault → ℕ
number_of_create_fault (create_fault.File _) = 1
number_of_create_fault create_fault.Memory = 2

abbrev pub number_of_frame_fault : FrameFault → ℕ
number_of_frame_fault frame_fault.Read = 1
number_of_frame_fault frame_fault.Memory = 2
number_of_frame_fault frame_fault.Short = 3
number_of_frame_fault frame_fault.Damaged = 4

abbrev pub number_of_frames_fault : FramesFault → ℕ
number_of_frames_fault (frames_fault.Next _) = 1
number_of_frames_fault frames_fault.Behind = 2
number_of_frames_fault frames_fault.TooMany = 3
