-- The words so far are sorted.
use Rattle.std.proofs.Common.{◌≡◌, map, string_bytes}
use Rattle.std.specs.List.{filter, list_any}
use Rattle.kmc_options.specs.Words.{is_file_name}
use Rattle.kmc_options.specs.Spelling.{is_slices, is_other, is_force}
use Rattle.kmc_options.proofs.slices.sorting.sorted.Given as goal

abbrev pub invariant-loop-word : goal.invariant-loop-word
invariant-loop-word l = record {
  names : map string_bytes l.names.items ≡ filter is_file_name (map string_bytes l.yielded);
  slices : map string_bytes l.slices.items ≡ filter is_slices (map string_bytes l.yielded);
  others : map string_bytes l.others.items ≡ filter is_other (map string_bytes l.yielded);
  force : l.force ≡ list_any is_force (map string_bytes l.yielded);
}
