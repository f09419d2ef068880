use Rattle.std.proofs.Common.{◌≡◌, ℕ, List, Option, sym, ap, subst, arith}
use Rattle.kmc_device.specs.Device.{Watched}
use Rattle.kmc_lists.specs.Listed.{spelled}
use Rattle.kmc_lists.specs.Lists.{lists_of}
use Rattle.kmc_lists.specs.Ordered.{whole}
use Rattle.kmc_options.specs.declared.run_params.Params.{Params}
use Rattle.kmc_sum.specs.Listed.{AreListed}
use Rattle.kmc_database.specs.declared.form.Form.{Form}
use Rattle.kmc_packer.specs.Errors.{reads_error}
use Rattle.kmc_packer.specs.Lists.{IsListsCause}
use Rattle.kmc_packer.specs.Reads.{IsPackReadsCause, IsUnpackedCount}
use Rattle.kmc_packer.specs.declared.lists_error.PackListsError.{PackListsError}
use Rattle.kmc_packer.specs.declared.lists_error.PackListsError.TheVariants.{TooGreat, WritePrefix, WriteSuffix, Memory}
use Rattle.kmc_packer.proofs.Packed.{dump_listed}
use Rattle.kmc_packer.proofs.reads.pack_reads.Goals as goal

-- the refusal of lists is that of the reads
module _ {R W : Type 0} (remaining : R → Option (List ℕ)) (contents : W → Option (List ℕ)) (params : Params) (first_part : Option ℕ)
    (reader read : Watched R) (prefix prefix_written suffix suffix_written : Watched W) where
  unpacked : (e : PackListsError) → IsUnpackedCount remaining contents params first_part reader read prefix prefix_written suffix suffix_written e
      → IsPackReadsCause remaining contents params first_part reader read prefix prefix_written suffix suffix_written (reads_error e)
  unpacked TooGreat h = h
  unpacked WritePrefix h = h
  unpacked WriteSuffix h = h
  unpacked Memory h = h

pub pack_lists-requires-clause-listed : goal.pack_lists-requires-clause-listed
pack_lists-requires-clause-listed g c = λ _ _.
    let params = c.args.params.now in
    let pairs = whole (lists_of c.in-Ok.lists) in
    let same : c.in-Some.form.layout.k ≡ params.k = ap (λ (f : Form). f.layout.k) c.in-Some.ensures.0 in
    subst (λ k. AreListed k (spelled k pairs)) (sym same) (dump_listed _ params.limits params.k pairs c.in-Ok.ensures.dump.is_dump)

pub returns : goal.returns
returns g c =
    let params = c.args.params.now in
    let pairs = whole (lists_of c.in-Ok.lists) in
    let sound = c.in-Ok.ensures.sound in
    record {
      ok = tt;
      sound = tt;
      cause = subst
          (IsPackReadsCause g.R.Read.remaining g.W.Write.contents params c.args.first_part c.args.reader.now c.count_input.new.reader c.args.prefix.now
          c.pack_lists.new.prefix c.args.suffix.now c.pack_lists.new.suffix)
          (sym c.from-in-Err-pack_lists.ensures)
          (unpacked g.R.Read.remaining g.W.Write.contents params c.args.first_part c.args.reader.now c.count_input.new.reader c.args.prefix.now
          c.pack_lists.new.prefix c.args.suffix.now c.pack_lists.new.suffix c.in-Err-pack_lists.error (record {
            pairs = spelled params.k pairs;
            input = c.in-Ok.ensures.dump;
            kept = sound.0;
            cause = subst
                (λ (f : Form). IsListsCause g.W.Write.contents f (spelled f.layout.k pairs) (record { prefix = c.args.prefix.now; suffix = c.args.suffix.now })
                (record { prefix = c.pack_lists.new.prefix; suffix = c.pack_lists.new.suffix }) c.in-Err-pack_lists.error)
                c.in-Some.ensures.0 c.in-Err-pack_lists.ensures.cause;
          }));
      reads_most = omega (arith, sound.2);
    }
