-- How settings cut reads into parts.
use Rattle.kmc_record.specs.Shapes.{Sizes}
use Rattle.kmc_options.specs.declared.run_params.Params.{Params}

-- words of k symbols, signatures of the length that is set, n bins
abbrev pub shape_of : Params → Sizes
shape_of p = record { k = p.k; m = p.signature_length; n = p.bins }
