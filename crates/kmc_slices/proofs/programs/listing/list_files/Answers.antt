use Rattle.std.proofs.Common.{◌≡◌, length, ap, subst}
use Rattle.kmc_slices.specs.ListProgram.{IsListFault, IsListed, of_files}
use Rattle.kmc_slices.proofs.Opened.{fault_of_files, listed_of_files}
use Rattle.kmc_slices.proofs.programs.listing.list_files.Goals as goal

pub returns-clause-done : goal.returns-clause-done
returns-clause-done g c = λ status.
    let a = c.args in
    let same : length c.as_slice-files.result.now ≡ length a.request.now.files.items = ap length c.as_slice-files.ensures.value in
    let done = c.list_readers.ensures.done status in (
      subst (λ n. IsListed of_files n a.request.now.params (g.W.Write.contents a.writer.now.inner) (g.W.Write.contents c.list_readers.new.writer.inner)) same
          (listed_of_files _ _ _ _ _ done.0),
      done.1,
    )

pub returns-clause-failed : goal.returns-clause-failed
returns-clause-failed g c = λ status.
    let a = c.args in
    let same : length c.as_slice-files.result.now ≡ length a.request.now.files.items = ap length c.as_slice-files.ensures.value in
    let why = c.list_readers.ensures.failed status in (
      why.0,
      subst (λ n. IsListFault of_files n a.request.now.params g.W.Write.contents a.writer.now c.list_readers.new.writer why.0) same
          (fault_of_files _ _ _ _ _ _ _ why.1),
    )
