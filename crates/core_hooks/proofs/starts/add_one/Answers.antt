use Rattle.std.proofs.Common.{[], ◌∷◌, ◌++◌, List, map, ap, ◌∙◌}
use Rattle.core_ir.specs.declared.expression.CoreBody.{CoreBody}
use Rattle.core_ir.specs.View.{core_body}
use Rattle.core_members.specs.Seen.{seen_groups}
use Rattle.core_hooks.proofs.starts.add_one.Goals as goal

pub returns-clause-added : goal.returns-clause-added
returns-clause-added c =
    c.in_ok-number.ensures.added
    ∙ ap (λ (bs : List CoreBody). seen_groups c.args.groups.now ++ record { sees = c.args.sees; bodies = map core_body bs } ∷ []) (c.in_ok-push.ensures.ok ∙ ap (λ (bs : List CoreBody). bs ++ c.args.body ∷ []) c.new-bodies.ensures)
