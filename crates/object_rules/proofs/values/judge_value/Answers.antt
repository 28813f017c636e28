use Rattle.std.proofs.Common.{◌∙◌, List, ap, ℕ}
use Rattle.mo_types.specs.Sub.{find}
use Rattle.met_types.specs.States.{IsReached}
use Rattle.object_rules.proofs.Valuing.{found_has, is_not_wanted, is_wanted}
use Rattle.object_rules.proofs.values.judge_value.Goals as goal

pub wanted_value-requires-clause-wanted : goal.wanted_value-requires-clause-wanted
wanted_value-requires-clause-wanted g c =
    found_has (λ f. IsReached c.args.checker.now.types f.part) c.as_slice.result.now c.args.wanted.now c.in-Some.of.now c.requires.wanted c.in-Some.ensures

pub returns-in-Some-clause-answer : goal.returns-in-Some-clause-answer
returns-in-Some-clause-answer g c =
    is_wanted c.args.layer.now.site.place c.args.field.now c.args.wanted.now c.args.scopes.now c.wanted_value.new.scopes c.args.checker.now c.wanted_value.new.checker c.wanted_value.result c.in-Some.of.now
    (c.in-Some.ensures ∙ ap (λ (y : List ℕ). find y c.args.wanted.now) c.as_slice.ensures) c.wanted_value.ensures.answer

pub returns-in-None-clause-answer : goal.returns-in-None-clause-answer
returns-in-None-clause-answer g c =
    is_not_wanted c.args.layer.now.site.place c.args.field.now c.args.wanted.now c.args.scopes.now c.own_value.new.scopes c.args.checker.now c.own_value.new.checker c.own_value.result
    (c.in-None.ensures ∙ ap (λ (y : List ℕ). find y c.args.wanted.now) c.as_slice.ensures) c.own_value.ensures.answer
