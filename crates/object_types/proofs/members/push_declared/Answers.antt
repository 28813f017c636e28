use Rattle.std.proofs.Common.{Ok, false, refl, true}
use Rattle.abstract_types.specs.PatternView.{plain_signature}
use Rattle.abstract_types.specs.TypeView.{annotation, named}
use Rattle.abstract_tree.proofs.TreeViews as V
use Rattle.typing_rules.specs.DeclaredTypes.{class_term, declared_fields, function_term}
use Rattle.typing_rules.specs.Terms as t
use Rattle.typing_rules.specs.TypeScopes.{term_or}
use Rattle.type_scopes.specs.Scopes.{seen}
use Rattle.object_types.proofs.Adding.{adds_none, if_so}
use Rattle.object_types.proofs.Viewed.{declared_adds, field_adds, form_seen}
use Rattle.object_types.proofs.members.push_declared.Goals as goal

pub returns-in-Let-clause-made : goal.returns-in-Let-clause-made
returns-in-Let-clause-made c = declared_adds c.args.form.now _ c.args.types.now c.push_pattern.new.types c.args.made.now.items c.push_pattern.new.made.items (form_seen c.args.form.now _ _ c.in-Let.is (V.seen_Let _ _)) c.push_pattern.result (declared_fields (seen c.args.scope.now))
    c.push_pattern.ensures

pub returns-in-Let-clause-scope : goal.returns-in-Let-clause-scope
returns-in-Let-clause-scope c = if_so c.push_pattern.result _ refl

pub returns-in_ok-part-in-Var-clause-made : goal.returns-in_ok-part-in-Var-clause-made
returns-in_ok-part-in-Var-clause-made c = declared_adds c.args.form.now _ c.args.types.now c.term_or.new.types c.args.made.now.items c.push_field.new.made.items (form_seen c.args.form.now _ _ c.in-Var.is (V.seen_Var _ _ _ _)) c.push_field.result (declared_fields (seen c.args.scope.now))
    (field_adds c.args.types.now c.term_or.new.types c.push_field.result c.in-Var.name.bytes true (term_or (seen c.args.scope.now) (annotation c.in-Var.annotation) t.Bottom) c.in_ok-part-in-Var.part c.args.made.now.items c.push_field.new.made.items c.in_ok-part-in-Var.ensures (rw c.as_slice.ensures at c.push_field.ensures))

pub returns-in_ok-part-in-Var-clause-scope : goal.returns-in_ok-part-in-Var-clause-scope
returns-in_ok-part-in-Var-clause-scope c = if_so c.push_field.result _ refl

pub returns-in_ok-part-in-Func-clause-made : goal.returns-in_ok-part-in-Func-clause-made
returns-in_ok-part-in-Func-clause-made c = declared_adds c.args.form.now _ c.args.types.now c.function_term.new.types c.args.made.now.items c.push_field-in-Func.new.made.items (form_seen c.args.form.now _ _ c.in-Func.is (V.seen_Func _ _ _)) c.push_field-in-Func.result (declared_fields (seen c.args.scope.now))
    (field_adds c.args.types.now c.function_term.new.types c.push_field-in-Func.result c.in-Func.name.bytes false (function_term (seen c.args.scope.now) (plain_signature c.in-Func.signature)) c.in_ok-part-in-Func.part c.args.made.now.items c.push_field-in-Func.new.made.items c.in_ok-part-in-Func.ensures.made (rw c.as_slice-in-Func.ensures at c.push_field-in-Func.ensures))

pub returns-in_ok-part-in-Func-clause-scope : goal.returns-in_ok-part-in-Func-clause-scope
returns-in_ok-part-in-Func-clause-scope c = if_so c.push_field-in-Func.result _ c.in_ok-part-in-Func.ensures.scope

pub returns-in_ok-part-in-Class-clause-made : goal.returns-in_ok-part-in-Class-clause-made
returns-in_ok-part-in-Class-clause-made c = declared_adds c.args.form.now _ c.args.types.now c.class_term.new.types c.args.made.now.items c.push_field-in-Class.new.made.items (form_seen c.args.form.now _ _ c.in-Class.is (V.seen_Class _ _ _)) c.push_field-in-Class.result (declared_fields (seen c.args.scope.now))
    (field_adds c.args.types.now c.class_term.new.types c.push_field-in-Class.result c.in-Class.name.bytes false (class_term (seen c.args.scope.now) (named c.in-Class.name) (plain_signature c.in-Class.signature)) c.in_ok-part-in-Class.part c.args.made.now.items c.push_field-in-Class.new.made.items c.in_ok-part-in-Class.ensures.made (rw c.as_slice-in-Class.ensures at c.push_field-in-Class.ensures))

pub returns-in_ok-part-in-Class-clause-scope : goal.returns-in_ok-part-in-Class-clause-scope
returns-in_ok-part-in-Class-clause-scope c = if_so c.push_field-in-Class.result _ c.in_ok-part-in-Class.ensures.scope

pub returns-in-Method-clause-made : goal.returns-in-Method-clause-made
returns-in-Method-clause-made c = declared_adds c.args.form.now _ c.args.types.now c.args.types.now c.args.made.now.items c.args.made.now.items (form_seen c.args.form.now _ _ c.in-Method.is (V.seen_Method _ _ _ _ _)) (Ok tt) (declared_fields (seen c.args.scope.now))
    (adds_none c.args.types.now c.args.made.now.items c.requires)

pub returns-in-System-clause-made : goal.returns-in-System-clause-made
returns-in-System-clause-made c = declared_adds c.args.form.now _ c.args.types.now c.args.types.now c.args.made.now.items c.args.made.now.items (form_seen c.args.form.now _ _ c.in-System.is (V.seen_System _ _)) (Ok tt) (declared_fields (seen c.args.scope.now))
    (adds_none c.args.types.now c.args.made.now.items c.requires)

pub returns-in-TypeAlias-clause-made : goal.returns-in-TypeAlias-clause-made
returns-in-TypeAlias-clause-made c = declared_adds c.args.form.now _ c.args.types.now c.args.types.now c.args.made.now.items c.args.made.now.items (form_seen c.args.form.now _ _ c.in-TypeAlias.is (V.seen_TypeAlias _ _ _)) (Ok tt) (declared_fields (seen c.args.scope.now))
    (adds_none c.args.types.now c.args.made.now.items c.requires)

pub returns-in-NamedObject-clause-made : goal.returns-in-NamedObject-clause-made
returns-in-NamedObject-clause-made c = declared_adds c.args.form.now _ c.args.types.now c.args.types.now c.args.made.now.items c.args.made.now.items (form_seen c.args.form.now _ _ c.in-NamedObject.is (V.seen_NamedObject _ _)) (Ok tt) (declared_fields (seen c.args.scope.now))
    (adds_none c.args.types.now c.args.made.now.items c.requires)

pub returns-in-Evaluate-clause-made : goal.returns-in-Evaluate-clause-made
returns-in-Evaluate-clause-made c = declared_adds c.args.form.now _ c.args.types.now c.args.types.now c.args.made.now.items c.args.made.now.items (form_seen c.args.form.now _ _ c.in-Evaluate.is (V.seen_Evaluate _)) (Ok tt) (declared_fields (seen c.args.scope.now))
    (adds_none c.args.types.now c.args.made.now.items c.requires)
