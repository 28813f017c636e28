use Rattle.std.proofs.Common.{ap, ◌∙◌}
use Rattle.typing_rules.specs.AbstractPrograms.{in_field}
use Rattle.abstract_tree.specs.TreeView.{declarations, plain_declaration}
use Rattle.abstract_parts.specs.TreeWalks.{in_object}
use Rattle.abstract_parts.proofs.ListMaking.{object_is}
use Rattle.abstract_type_walk.proofs.Listing.{none_made, one_more, all_made}
use Rattle.abstract_programs.proofs.program_making.actor_fields.Goals as goal

pub loop-one-init : goal.loop-one-init
loop-one-init c = none_made (λ d. in_object (in_field d)) plain_declaration c.args.fields.now _ _ c.new-made.ensures

pub loop-one-preserved : goal.loop-one-preserved
loop-one-preserved c = one_more (λ d. in_object (in_field d)) plain_declaration c.args.fields.now _ c.args.fields.now _ _ _ _ _ _ _ _ c.loop-one-test.true c.one-item.is c.in_ok-field.ensures c.in_ok-push.ensures.ok c.loop-one.invariant

pub returns : goal.returns
returns c = ap declarations (all_made (λ d. in_object (in_field d)) plain_declaration c.args.fields.now _ _ c.args.fields.now _ _ _ _ c.in_ok-next.ensures c.loop-one-test.false c.loop-one.invariant).parts ∙ object_is in_field c.args.fields.now _
