use Rattle.std.proofs.Common.{List, Bool, false, ◌++◌, ◌∷◌, [], refl, ap, ◌∙◌}
use Rattle.mo_types.specs.declared.node.TypeId.{TypeId}
use Rattle.kept_parts.proofs.UnformSteps.{begun_so}
use Rattle.kept_parts.proofs.unforming.begin.Goals as goal

pub returns : goal.returns
returns c = λ head ps.
    begun_so head c.args.of_type (record { waiting = c.push.new.self; left = 0; bytes = c.new.result; found = c.new-2.result }) ps refl c.new-2.ensures.items (c.in_ok-push.ensures.items ∙ ap (λ (ws : List (TypeId × Bool)). ws ++ (c.args.of_type, false) ∷ []) c.new-waiting.ensures.items)
