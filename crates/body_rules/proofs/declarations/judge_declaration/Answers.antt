use Rattle.std.proofs.Common.{◌∙◌, ℕ, List, sym, subst, map}
use Rattle.std.specs.Vec.Iter.{into_iter_items}
use Rattle.abstract_types.specs.declared.names.PlacedName.{PlacedName}
use Rattle.abstract_types.specs.PatternView.{plain_signature}
use Rattle.abstract_types.specs.TypeView.{named, type_node}
use Rattle.abstract_tree.specs.declared.declarations.Declaration.{Declaration}
use Rattle.abstract_tree.proofs.TreeViews as V
use Rattle.typing_rules.specs.AbstractSyntax as p
use Rattle.judging.specs.Answers.{Answers}
use Rattle.list_judging.specs.Lists.{seen_list}
use Rattle.signature_judging.proofs.Kept.{ready_there}
use Rattle.function_bodies.specs.Bodies.{any_made, body_in, judge_body}
use Rattle.body_rules.proofs.Others.{judged_as}
use Rattle.body_rules.proofs.declarations.judge_declaration.Goals as goal

pub returns-in-Func-clause-answer : goal.returns-in-Func-clause-answer
returns-in-Func-clause-answer g c =
    judged_as c.args.lists.now.layer.site.place c.args.one.now.note (into_iter_items c.args.rest.now) (into_iter_items c.args.rest.now) c.args.one.now.form _ _ c.args.scopes.now c.function_body.new.scopes c.args.checker.now c.function_body.new.checker c.function_body.result
    (sym c.get.ensures ∙ c.in-Func.is) (V.seen_Func c.in-Func.name c.in-Func.signature c.in-Func.a) (c.function_body.ensures (into_iter_items c.args.rest.now))

pub returns-in-Func-clause-ready : goal.returns-in-Func-clause-ready
returns-in-Func-clause-ready g c x q = ready_there _ _ _ _ _ _ _ _ x (returns-in-Func-clause-answer g c) q

pub returns-in-Method-clause-answer : goal.returns-in-Method-clause-answer
returns-in-Method-clause-answer g c =
    judged_as c.args.lists.now.layer.site.place c.args.one.now.note (into_iter_items c.args.rest.now) (into_iter_items c.args.rest.now) c.args.one.now.form _ _ c.args.scopes.now c.method_body.new.scopes c.args.checker.now c.method_body.new.checker c.method_body.result
    (sym c.get.ensures ∙ c.in-Method.is) (V.seen_Method c.in-Method.query c.in-Method.context c.in-Method.name c.in-Method.signature c.in-Method.a) (c.method_body.ensures (into_iter_items c.args.rest.now))

pub returns-in-Method-clause-ready : goal.returns-in-Method-clause-ready
returns-in-Method-clause-ready g c x q = ready_there _ _ _ _ _ _ _ _ x (returns-in-Method-clause-answer g c) q

pub returns-in-System-clause-answer : goal.returns-in-System-clause-answer
returns-in-System-clause-answer g c =
    judged_as c.args.lists.now.layer.site.place c.args.one.now.note (into_iter_items c.args.rest.now) (into_iter_items c.args.rest.now) c.args.one.now.form _ _ c.args.scopes.now c.system_body.new.scopes c.args.checker.now c.system_body.new.checker c.system_body.result
    (sym c.get.ensures ∙ c.in-System.is) (V.seen_System c.in-System.name c.in-System.a) (c.system_body.ensures (into_iter_items c.args.rest.now))

pub returns-in-System-clause-ready : goal.returns-in-System-clause-ready
returns-in-System-clause-ready g c x q = ready_there _ _ _ _ _ _ _ _ x (returns-in-System-clause-answer g c) q

pub returns-in-TypeAlias-clause-answer : goal.returns-in-TypeAlias-clause-answer
returns-in-TypeAlias-clause-answer g c =
    judged_as c.args.lists.now.layer.site.place c.args.one.now.note (into_iter_items c.args.rest.now) (into_iter_items c.args.rest.now) c.args.one.now.form _ _ c.args.scopes.now c.args.scopes.now c.args.checker.now c.alias.new.checker c.alias.result
    (sym c.get.ensures ∙ c.in-TypeAlias.is) (V.seen_TypeAlias c.in-TypeAlias.name c.in-TypeAlias.parameters c.in-TypeAlias.of)
    (subst
    (λ (xs : List PlacedName). Answers (body_in (into_iter_items c.args.rest.now)) any_made (judge_body c.args.lists.now.layer.site.place c.args.one.now.note (p.TypeAlias (named c.in-TypeAlias.name) (map named xs) (type_node c.in-TypeAlias.of)) (into_iter_items c.args.rest.now)) c.args.scopes.now c.args.checker.now c.args.scopes.now c.alias.new.checker c.alias.result)
    c.as_slice.ensures (c.alias.ensures c.args.scopes.now c.requires.sound (into_iter_items c.args.rest.now) c.args.lists.now.layer.site.place))

pub returns-in-TypeAlias-clause-ready : goal.returns-in-TypeAlias-clause-ready
returns-in-TypeAlias-clause-ready g c x q = ready_there _ _ _ _ _ _ _ _ x (returns-in-TypeAlias-clause-answer g c) q

pub returns-in-Class-clause-answer : goal.returns-in-Class-clause-answer
returns-in-Class-clause-answer g c =
    judged_as c.args.lists.now.layer.site.place c.args.one.now.note (into_iter_items c.args.rest.now) (into_iter_items c.args.rest.now) c.args.one.now.form _ _ c.args.scopes.now c.class_body.new.scopes c.args.checker.now c.class_body.new.checker c.class_body.result
    (sym c.get.ensures ∙ c.in-Class.is) (V.seen_Class c.in-Class.name c.in-Class.signature c.in-Class.fields)
    (subst
    (λ (ds : List (Declaration ℕ)). Answers (body_in (into_iter_items c.args.rest.now)) any_made (judge_body c.args.lists.now.layer.site.place c.args.one.now.note (p.Class (named c.in-Class.name) (plain_signature c.in-Class.signature) (seen_list ds)) (into_iter_items c.args.rest.now)) c.args.scopes.now c.args.checker.now c.class_body.new.scopes c.class_body.new.checker c.class_body.result)
    c.as_slice-in-Class.ensures (c.class_body.ensures (into_iter_items c.args.rest.now)))

pub returns-in-Class-clause-ready : goal.returns-in-Class-clause-ready
returns-in-Class-clause-ready g c x q = ready_there _ _ _ _ _ _ _ _ x (returns-in-Class-clause-answer g c) q

pub returns-in-Let-clause-answer : goal.returns-in-Let-clause-answer
returns-in-Let-clause-answer g c =
    judged_as c.args.lists.now.layer.site.place c.args.one.now.note (into_iter_items c.args.rest.now) (into_iter_items c.take.new.rest) c.args.one.now.form _ _ c.args.scopes.now c.args.scopes.now c.args.checker.now c.args.checker.now c.take.result
    (sym c.get.ensures ∙ c.in-Let.is) (V.seen_Let c.in-Let.field-0 c.in-Let.field-1) (c.take.ensures c.args.scopes.now c.args.checker.now c.requires.sound)

pub returns-in-Let-clause-ready : goal.returns-in-Let-clause-ready
returns-in-Let-clause-ready g c x q = ready_there _ _ _ _ _ _ _ _ x (returns-in-Let-clause-answer g c) q

pub returns-in-Var-clause-answer : goal.returns-in-Var-clause-answer
returns-in-Var-clause-answer g c =
    judged_as c.args.lists.now.layer.site.place c.args.one.now.note (into_iter_items c.args.rest.now) (into_iter_items c.take-in-Var.new.rest) c.args.one.now.form _ _ c.args.scopes.now c.args.scopes.now c.args.checker.now c.args.checker.now c.take-in-Var.result
    (sym c.get.ensures ∙ c.in-Var.is) (V.seen_Var c.in-Var.field-0 c.in-Var.field-1 c.in-Var.field-2 c.in-Var.field-3) (c.take-in-Var.ensures c.args.scopes.now c.args.checker.now c.requires.sound)

pub returns-in-Var-clause-ready : goal.returns-in-Var-clause-ready
returns-in-Var-clause-ready g c x q = ready_there _ _ _ _ _ _ _ _ x (returns-in-Var-clause-answer g c) q

pub returns-in-NamedObject-clause-answer : goal.returns-in-NamedObject-clause-answer
returns-in-NamedObject-clause-answer g c =
    judged_as c.args.lists.now.layer.site.place c.args.one.now.note (into_iter_items c.args.rest.now) (into_iter_items c.take-in-NamedObject.new.rest) c.args.one.now.form _ _ c.args.scopes.now c.args.scopes.now c.args.checker.now c.args.checker.now c.take-in-NamedObject.result
    (sym c.get.ensures ∙ c.in-NamedObject.is) (V.seen_NamedObject c.in-NamedObject.field-0 c.in-NamedObject.field-1) (c.take-in-NamedObject.ensures c.args.scopes.now c.args.checker.now c.requires.sound)

pub returns-in-NamedObject-clause-ready : goal.returns-in-NamedObject-clause-ready
returns-in-NamedObject-clause-ready g c x q = ready_there _ _ _ _ _ _ _ _ x (returns-in-NamedObject-clause-answer g c) q

pub returns-in-Evaluate-clause-answer : goal.returns-in-Evaluate-clause-answer
returns-in-Evaluate-clause-answer g c =
    judged_as c.args.lists.now.layer.site.place c.args.one.now.note (into_iter_items c.args.rest.now) (into_iter_items c.take-in-Evaluate.new.rest) c.args.one.now.form _ _ c.args.scopes.now c.args.scopes.now c.args.checker.now c.args.checker.now c.take-in-Evaluate.result
    (sym c.get.ensures ∙ c.in-Evaluate.is) (V.seen_Evaluate c.in-Evaluate.field-0) (c.take-in-Evaluate.ensures c.args.scopes.now c.args.checker.now c.requires.sound)

pub returns-in-Evaluate-clause-ready : goal.returns-in-Evaluate-clause-ready
returns-in-Evaluate-clause-ready g c x q = ready_there _ _ _ _ _ _ _ _ x (returns-in-Evaluate-clause-answer g c) q
