use Rattle.std.proofs.Common.{ap, map, ◌∙◌}
use Rattle.core_ir.specs.View.{exps, expression}
use Rattle.core_members.proofs.Listing.{next_name}
use Rattle.core_members.proofs.operands.names_of.Goals as goal

pub loop-level-preserved : goal.loop-level-preserved
loop-level-preserved c =
    ap (λ m. exps (map expression m)) c.in_ok-push.ensures.ok
    ∙ next_name c.args.names c.loop-level.yielded c.in-Some.level c.name_at.result c.loop-level.made c.name_at.ensures c.loop-level.invariant
