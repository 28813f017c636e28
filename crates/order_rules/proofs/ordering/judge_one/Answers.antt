use Rattle.std.proofs.Common.{◌∙◌, ℕ, List, refl, subst, sym}
use Rattle.typing_rules.specs.AbstractSyntax as p
use Rattle.abstract_types.specs.TypeView.{named}
use Rattle.abstract_tree.specs.declared.declarations.Declaration.{Declaration}
use Rattle.abstract_tree.proofs.TreeViews as V
use Rattle.list_judging.specs.Lists.{seen_list}
use Rattle.order_rules.specs.Entries.{Enters, entry_in, entry_reached, judge_one}
use Rattle.order_rules.proofs.Expressions.{entered_as, none_entered}
use Rattle.order_rules.proofs.ordering.judge_one.Goals as goal

pub returns-in-Let-clause-enters : goal.returns-in-Let-clause-enters
returns-in-Let-clause-enters g c =
    entered_as c.args.lists.now.layer.site c.args.one.now.note c.args.last c.args.one.now.form _ _ c.args.scopes.now c.let_entry.new.scopes c.args.checker.now c.let_entry.new.checker c.let_entry.result (sym c.get.ensures ∙ c.in-Let.is) (V.seen_Let c.in-Let.pattern c.in-Let.a) c.let_entry.ensures.enters

pub returns-in-Var-clause-enters : goal.returns-in-Var-clause-enters
returns-in-Var-clause-enters g c =
    entered_as c.args.lists.now.layer.site c.args.one.now.note c.args.last c.args.one.now.form _ _ c.args.scopes.now c.var_entry.new.scopes c.args.checker.now c.var_entry.new.checker c.var_entry.result (sym c.get.ensures ∙ c.in-Var.is) (V.seen_Var c.in-Var.stable c.in-Var.name c.in-Var.written c.in-Var.a) c.var_entry.ensures.enters

pub returns-in-NamedObject-clause-enters : goal.returns-in-NamedObject-clause-enters
returns-in-NamedObject-clause-enters g c =
    entered_as c.args.lists.now.layer.site c.args.one.now.note c.args.last c.args.one.now.form _ _ c.args.scopes.now c.object_entry.new.scopes c.args.checker.now c.object_entry.new.checker c.object_entry.result (sym c.get.ensures ∙ c.in-NamedObject.is) (V.seen_NamedObject c.in-NamedObject.name c.in-NamedObject.fields)
    (subst (λ (ds : List (Declaration ℕ)). Enters entry_in entry_reached (judge_one c.args.lists.now.layer.site c.args.one.now.note (p.NamedObject (named c.in-NamedObject.name) (seen_list ds)) c.args.last) c.args.scopes.now c.args.checker.now c.object_entry.new.scopes c.object_entry.new.checker c.object_entry.result) c.as_slice.ensures c.object_entry.ensures.enters)

pub returns-in-Evaluate-clause-enters : goal.returns-in-Evaluate-clause-enters
returns-in-Evaluate-clause-enters g c =
    entered_as c.args.lists.now.layer.site c.args.one.now.note c.args.last c.args.one.now.form _ _ c.args.scopes.now c.expression_entry.new.scopes c.args.checker.now c.expression_entry.new.checker c.expression_entry.result (sym c.get.ensures ∙ c.in-Evaluate.is) (V.seen_Evaluate c.in-Evaluate.a) c.expression_entry.ensures.enters

pub returns-in-Func-clause-enters : goal.returns-in-Func-clause-enters
returns-in-Func-clause-enters g c =
    none_entered c.args.lists.now.layer.site c.args.one.now.note c.args.last c.args.one.now.form _ _ c.args.scopes.now c.args.checker.now c.no_entry.result c.requires.ready.sound (sym c.get.ensures ∙ c.in-Func.is) (V.seen_Func c.in-Func.field-0 c.in-Func.field-1 c.in-Func.field-2) c.no_entry.ensures (λ v. refl)

pub returns-in-Method-clause-enters : goal.returns-in-Method-clause-enters
returns-in-Method-clause-enters g c =
    none_entered c.args.lists.now.layer.site c.args.one.now.note c.args.last c.args.one.now.form _ _ c.args.scopes.now c.args.checker.now c.no_entry-in-Method.result c.requires.ready.sound (sym c.get.ensures ∙ c.in-Method.is) (V.seen_Method c.in-Method.field-0 c.in-Method.field-1 c.in-Method.field-2 c.in-Method.field-3 c.in-Method.field-4) c.no_entry-in-Method.ensures (λ v. refl)

pub returns-in-System-clause-enters : goal.returns-in-System-clause-enters
returns-in-System-clause-enters g c =
    none_entered c.args.lists.now.layer.site c.args.one.now.note c.args.last c.args.one.now.form _ _ c.args.scopes.now c.args.checker.now c.no_entry-in-System.result c.requires.ready.sound (sym c.get.ensures ∙ c.in-System.is) (V.seen_System c.in-System.field-0 c.in-System.field-1) c.no_entry-in-System.ensures (λ v. refl)

pub returns-in-TypeAlias-clause-enters : goal.returns-in-TypeAlias-clause-enters
returns-in-TypeAlias-clause-enters g c =
    none_entered c.args.lists.now.layer.site c.args.one.now.note c.args.last c.args.one.now.form _ _ c.args.scopes.now c.args.checker.now c.no_entry-in-TypeAlias.result c.requires.ready.sound (sym c.get.ensures ∙ c.in-TypeAlias.is) (V.seen_TypeAlias c.in-TypeAlias.field-0 c.in-TypeAlias.field-1 c.in-TypeAlias.field-2) c.no_entry-in-TypeAlias.ensures (λ v. refl)

pub returns-in-Class-clause-enters : goal.returns-in-Class-clause-enters
returns-in-Class-clause-enters g c =
    none_entered c.args.lists.now.layer.site c.args.one.now.note c.args.last c.args.one.now.form _ _ c.args.scopes.now c.args.checker.now c.no_entry-in-Class.result c.requires.ready.sound (sym c.get.ensures ∙ c.in-Class.is) (V.seen_Class c.in-Class.field-0 c.in-Class.field-1 c.in-Class.field-2) c.no_entry-in-Class.ensures (λ v. refl)
