-- Why the dump of records was not written.
use Rattle.std.proofs.Common.{◌≡◌, ◌≢◌, ℕ, List, Option, refl}
use Rattle.kmc_device.specs.Device.{AppendsFront, RisesByOne, Watched}
use Rattle.kmc_lists.specs.Line.{text_of}
use Rattle.kmc_options.specs.declared.run_params.Params.{Params}
use Rattle.kmc_store.specs.Bins.{AreBins}
use Rattle.kmc_slices.specs.Outside.{IsBinFault}
use Rattle.kmc_slices.specs.declared.bin_fault.BinFault.{BinFault}
use Rattle.kmc_stage_two.specs.Stages.{IsDumpOfBins}
use Rattle.kmc_slices.specs.Gathered.{Records}
use Rattle.kmc_slices.specs.declared.listing.ListError.{ListError}
use Rattle.kmc_slices.specs.declared.listing.ListError.TheVariants.{Foreign, Memory, Write}
use Rattle.kmc_slices.specs.ListProgram.{IsDumpFault}

-- by the error of the listing, what its clauses tell
pub dump_fault : {W : Type 0} (r : Records) (params : Params) (contents : W → Option (List ℕ)) (writer written : Watched W) (e : ListError)
    → ((fault : BinFault) → e ≡ Foreign fault → IsBinFault r.shape r.bodies fault)
    → (e ≡ Memory → (words : List ℕ) × AreBins r.shape r.bodies words)
    → (e ≡ Write → (pairs : List (List ℕ × ℕ)) × IsDumpOfBins params.strands r.shape.k params.limits r.bodies pairs
    × AppendsFront (contents writer.inner) (contents written.inner) (text_of pairs))
    → (e ≡ Write → RisesByOne writer.failures written.failures) → (e ≢ Write → written ≡ writer)
    → IsDumpFault r params contents writer written e
dump_fault r params contents writer written (Foreign fault) foreign judged front failed silent = (foreign fault refl, silent (λ is. cc))
dump_fault r params contents writer written Memory foreign judged front failed silent = (judged refl, silent (λ is. cc))
dump_fault r params contents writer written Write foreign judged front failed silent =
    let out = front refl in
    record { pairs = out.0; dump = out.1; out = out.2; failed = failed refl }
