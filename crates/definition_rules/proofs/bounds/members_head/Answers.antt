use Rattle.std.proofs.Common.{◌∙◌, ap, length}
use Rattle.type_definitions.specs.Definitions.{Listed}
use Rattle.definition_rules.specs.Bounds.{Same}
use Rattle.definition_rules.proofs.Promoting.{followed, head_of_last, if_ok, on_ok, same_on}
use Rattle.definition_rules.proofs.bounds.members_head.Goals as goal

pub returns-clause-same : goal.returns-clause-same
returns-clause-same c =
    on_ok c.head.result _ _ _ _ c.head.ensures.kept c.head.ensures.goes c.head.ensures.stands
    (λ k g s. same_on c.args.types.now c.promote.new.types c.head.new.self c.in_ok-last.ensures.same
    (same_on c.promote.new.types c.promote-2.new.types c.head.new.self c.in_ok-last-2.ensures.same (record { kept = k; goes = g; stands = s })))

pub returns-clause-made : goal.returns-clause-made
returns-clause-made c =
    if_ok c.head.result _ _ _ (on_ok c.head.result _ _ _ (Same c.promote-2.new.types c.head.new.self) c.head.ensures.kept c.head.ensures.goes c.head.ensures.stands (λ k g s. record { kept = k; goes = g; stands = s })) c.head.ensures.made
    (λ same made m. head_of_last c.args.types.now c.promote.new.types c.promote-2.new.types c.head.new.self c.args.id c.in_ok-last.last c.in_ok-last-2.last made c.requires.kept (length c.bounds-turns.result.now)
    (ap length (c.bounds-turns.ensures ∙ ap (λ (l : Listed). l.bounds) c.definitions.ensures))
    (followed c.args.types.now c.promote.new.types c.args.id c.in_ok-last.last _ c.in_ok-last.ensures.same c.in_ok-last.ensures.made)
    (followed c.promote.new.types c.promote-2.new.types c.in_ok-last.last c.in_ok-last-2.last _ c.in_ok-last-2.ensures.same c.in_ok-last-2.ensures.made) same m)
