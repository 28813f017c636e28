use Rattle.std.proofs.Common.{◌∙◌, ap, map}
use Rattle.core_laws.specs.Split.{split_group, split_method}
use Rattle.suspend_split.specs.Makes.{size_of}
use Rattle.suspend_split.specs.Parts.{core_group, core_method}
use Rattle.suspend_split.proofs.program.split_by.Goals as goal

pub returns : goal.returns
returns c = record {
  types = c.in_ok-share.ensures;
  groups = c.in_ok-split_groups.ensures ∙ ap (λ gs. map (λ g. split_group (size_of c.args.sizes.now) (core_group g)) gs) c.as_slice.ensures;
  methods = c.in_ok-split_methods.ensures ∙ ap (λ ms. map (λ m. split_method (size_of c.args.sizes.now) (core_method m)) ms) c.as_slice-2.ensures;
  stable = c.in_ok-share-2.ensures;
  save = c.in_ok-split_body.ensures;
  start = c.in_ok-split_body-2.ensures;
}
