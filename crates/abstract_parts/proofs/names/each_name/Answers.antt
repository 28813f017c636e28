use Rattle.typing_rules.specs.Spans.{name_at, one}
use Rattle.abstract_types.specs.TypeView.{named}
use Rattle.abstract_type_walk.proofs.Listing.{none_made, one_more, all_made}
use Rattle.abstract_parts.proofs.names.each_name.Goals as goal

pub loop-one-init : goal.loop-one-init
loop-one-init c = none_made (λ y. one (name_at y)) named c.args.names.now _ _ c.new-made.ensures

pub loop-one-preserved : goal.loop-one-preserved
loop-one-preserved c = one_more (λ y. one (name_at y)) named c.args.names.now _ c.args.names.now _ _ _ _ _ _ _ _ c.loop-one-test.true c.one-item.is c.in_ok-name.ensures c.in_ok-push.ensures.ok c.loop-one.invariant

pub returns : goal.returns
returns c = all_made (λ y. one (name_at y)) named c.args.names.now _ _ c.args.names.now _ _ _ _ c.in_ok-next.ensures c.loop-one-test.false c.loop-one.invariant
