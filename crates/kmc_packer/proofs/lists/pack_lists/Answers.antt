use Rattle.std.proofs.Common.{◌≡◌, ℕ, List, length, refl, sym, ap, subst, ◌∙◌, arith}
use Rattle.std.specs.Prelude.{sum}
use Rattle.std.proofs.lemmas.List.{length-map}
use Rattle.kmc_device.specs.Device.{AppendsFront}
use Rattle.kmc_dump.specs.Ranges.{FitSlots, HaveSizes}
use Rattle.kmc_lists.specs.Listed.{spell, spelled}
use Rattle.kmc_lists.specs.Lists.{lists_of}
use Rattle.kmc_lists.specs.Ordered.{whole}
use Rattle.kmc_database.specs.Files.{suffix_file}
use Rattle.kmc_packer.specs.Table.{prefix_by}
use Rattle.kmc_packer.proofs.Great.{great_written, held_written}
use Rattle.kmc_packer.proofs.Parts.{all_parts, fit_parts, prefix_is, weight}
use Rattle.kmc_packer.proofs.Sums.{sum_few}
use Rattle.kmc_packer.proofs.lists.pack_lists.Goals as goal

pub returns-then-bins_have_great : goal.returns-then-bins_have_great
returns-then-bins_have_great g c =
    let l = c.args.form.now.layout in
    record {
      rows = tt;
      ok = tt;
      sound = tt;
      cause = (great_written l.k l.counter (lists_of c.args.lists.now) (c.bins_have_great.ensures.great c.if-bins_have_great.true), refl);
    }

pub bin_sizes-requires-clause-inside : goal.bin_sizes-requires-clause-inside
bin_sizes-requires-clause-inside g c = λ _ _.
    let l = c.args.form.now.layout in
    let lists = lists_of c.args.lists.now in
    subst (λ n. FitSlots (weight l) n lists) (sym (all_parts l c.requires.layout)) (fit_parts l c.requires.layout lists c.requires.merge)

pub write_prefix-requires-clause-parts : goal.write_prefix-requires-clause-parts
write_prefix-requires-clause-parts g c =
    let l = c.args.form.now.layout in
    let lists = lists_of c.args.lists.now in
    let few = sum_few (weight l) _ c.in-Ok.sizes.items lists c.in-Ok.ensures in
    omega (arith, ap sum c.deref.ensures.value, few, c.in-Ok-write_suffix.ensures.rows)

pub returns-in-Ok-write_prefix : goal.returns-in-Ok-write_prefix
returns-in-Ok-write_prefix g c =
    let f = c.args.form.now in
    let l = f.layout in
    let lists = lists_of c.args.lists.now in
    let rows = c.in-Ok-write_suffix.rows in
    let sizes = subst (λ n. HaveSizes (weight l) n c.in-Ok.sizes.items lists) (all_parts l c.requires.layout) c.in-Ok.ensures in
    let count : rows ≡ length (spelled l.k (whole lists)) = c.in-Ok-write_suffix.ensures.rows ∙ sym (length-map (whole lists) (spell l.k)) in
    record {
      rows = count;
      ok = record {
        prefix_bytes = prefix_by f c.deref.result.now rows;
        suffix_bytes = suffix_file l (spelled l.k (whole lists));
        database = record {
          layout = c.requires.layout;
          listed = c.requires.listed;
          fit = held_written l lists (c.bins_have_great.ensures.held c.if-bins_have_great.false);
          few = omega (arith, count, c.in-Ok-write_prefix.ensures.few);
          prefix = ap (λ (s : List ℕ). prefix_by f s rows) c.deref.ensures.value
              ∙ prefix_is f lists c.in-Ok.sizes.items rows c.requires.layout c.requires.merge sizes c.in-Ok-write_suffix.ensures.rows;
          suffix = refl;
        };
        prefix = c.in-Ok-write_prefix.ensures.ok;
        suffix = c.in-Ok-write_suffix.ensures.ok;
      };
      sound = (c.in-Ok-write_prefix.ensures.kept, c.in-Ok-write_suffix.ensures.kept);
      cause = tt;
    }

pub returns : goal.returns
returns g c =
    let f = c.args.form.now in
    let l = f.layout in
    let lists = lists_of c.args.lists.now in
    let rows = c.in-Ok-write_suffix.rows in
    let sizes = subst (λ n. HaveSizes (weight l) n c.in-Ok.sizes.items lists) (all_parts l c.requires.layout) c.in-Ok.ensures in
    let bytes = ap (λ (s : List ℕ). prefix_by f s rows) c.deref.ensures.value
    ∙ prefix_is f lists c.in-Ok.sizes.items rows c.requires.layout c.requires.merge sizes c.in-Ok-write_suffix.ensures.rows in
    record {
      rows = tt;
      ok = tt;
      sound = tt;
      cause = (
        c.in-Err.ensures.failed,
        subst (AppendsFront _ _) bytes c.in-Err.ensures.front,
        c.in-Ok-write_suffix.ensures.kept,
        c.in-Ok-write_suffix.ensures.ok,
      );
    }
