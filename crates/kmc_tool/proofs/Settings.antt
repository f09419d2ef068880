-- The shape of a run's bins is within the limits.
use Rattle.kmc_record.specs.Shapes.{IsShape}
use Rattle.kmc_options.specs.declared.run_params.Params.{Params}

pub shape_is : (p : Params) → IsShape p.k p.signature_length p.bins
shape_is p =
    let a = p.in_range.0 in
    record {
      some_k = a.0.0;
      most_k = a.0.1;
      most_m = p.in_range.2.0;
      within = p.in_range.2.1;
      some_n = a.2.0;
      most_n = a.2.1;
    }
