use Rattle.std.proofs.Common.{◌∙◌, ap, length}
use Rattle.type_definitions.specs.Definitions.{Listed}
use Rattle.definition_rules.proofs.Promoting.{ends_here, followed, parameter_below, same_on, turned}
use Rattle.definition_rules.proofs.bounds.ends.Goals as goal

pub intern-requires-clause-below : goal.intern-requires-clause-below
intern-requires-clause-below c = parameter_below _ c.args.at

pub returns-clause-same : goal.returns-clause-same
returns-clause-same c =
    same_on c.args.types.now c.intern.new.self c.bound_of.new.types
    (record { kept = c.in_ok-parameter.ensures.kept; goes = c.in_ok-parameter.ensures.goes; stands = c.in_ok-parameter.ensures.stands })
    (same_on c.intern.new.self c.promote.new.types c.bound_of.new.types c.in_ok-last.ensures.same c.in_ok-bound_of.ensures.same)

pub returns-clause-answer : goal.returns-clause-answer
returns-clause-answer c =
    ends_here c.args.types.now c.intern.new.self c.promote.new.types c.bound_of.new.types c.args.at c.in_ok-parameter.parameter c.in_ok-last.last (length c.bounds-turns.result.now) c.in_ok-bound_of.field-0 c.requires.kept
    (ap length (c.bounds-turns.ensures ∙ ap (λ (l : Listed). l.bounds) c.definitions.ensures))
    (record { kept = c.in_ok-parameter.ensures.kept; goes = c.in_ok-parameter.ensures.goes; stands = c.in_ok-parameter.ensures.stands })
    c.in_ok-parameter.ensures.made (followed c.intern.new.self c.promote.new.types c.in_ok-parameter.parameter c.in_ok-last.last _ c.in_ok-last.ensures.same c.in_ok-last.ensures.made)
    c.in_ok-bound_of.ensures.same c.in_ok-bound_of.ensures.found c.is_none.result (turned _ c.is_none.result c.is_none.ensures)
