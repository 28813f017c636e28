use Rattle.std.proofs.Common.{Ok, false}
use Rattle.abstract_types.specs.PatternView.{plain_signature}
use Rattle.abstract_tree.proofs.TreeViews as V
use Rattle.typing_rules.specs.Programs.{method_field}
use Rattle.type_scopes.specs.Scopes.{seen}
use Rattle.object_types.specs.Joining.{method_term}
use Rattle.object_types.proofs.Adding.{adds_none}
use Rattle.object_types.proofs.Viewed.{declared_adds, field_adds, form_seen}
use Rattle.object_types.proofs.members.push_method.Goals as goal

pub returns-in_ok-part-in-Method : goal.returns-in_ok-part-in-Method
returns-in_ok-part-in-Method c = declared_adds c.args.form.now _ c.args.types.now c.method_type.new.types c.args.made.now.items c.push_field.new.made.items (form_seen c.args.form.now _ _ c.in-Method.is (V.seen_Method _ _ _ _ _)) c.push_field.result (method_field (seen c.args.scope.now))
    (field_adds c.args.types.now c.method_type.new.types c.push_field.result c.in-Method.name.bytes false (method_term (seen c.args.scope.now) c.in-Method.query (plain_signature c.in-Method.signature)) c.in_ok-part-in-Method.part c.args.made.now.items c.push_field.new.made.items c.in_ok-part-in-Method.ensures (rw c.as_slice.ensures at c.push_field.ensures))

pub returns-in-Let : goal.returns-in-Let
returns-in-Let c = declared_adds c.args.form.now _ c.args.types.now c.args.types.now c.args.made.now.items c.args.made.now.items (form_seen c.args.form.now _ _ c.in-Let.is (V.seen_Let _ _)) (Ok tt) (method_field (seen c.args.scope.now))
    (adds_none c.args.types.now c.args.made.now.items c.requires)

pub returns-in-Var : goal.returns-in-Var
returns-in-Var c = declared_adds c.args.form.now _ c.args.types.now c.args.types.now c.args.made.now.items c.args.made.now.items (form_seen c.args.form.now _ _ c.in-Var.is (V.seen_Var _ _ _ _)) (Ok tt) (method_field (seen c.args.scope.now))
    (adds_none c.args.types.now c.args.made.now.items c.requires)

pub returns-in-Func : goal.returns-in-Func
returns-in-Func c = declared_adds c.args.form.now _ c.args.types.now c.args.types.now c.args.made.now.items c.args.made.now.items (form_seen c.args.form.now _ _ c.in-Func.is (V.seen_Func _ _ _)) (Ok tt) (method_field (seen c.args.scope.now))
    (adds_none c.args.types.now c.args.made.now.items c.requires)

pub returns-in-System : goal.returns-in-System
returns-in-System c = declared_adds c.args.form.now _ c.args.types.now c.args.types.now c.args.made.now.items c.args.made.now.items (form_seen c.args.form.now _ _ c.in-System.is (V.seen_System _ _)) (Ok tt) (method_field (seen c.args.scope.now))
    (adds_none c.args.types.now c.args.made.now.items c.requires)

pub returns-in-TypeAlias : goal.returns-in-TypeAlias
returns-in-TypeAlias c = declared_adds c.args.form.now _ c.args.types.now c.args.types.now c.args.made.now.items c.args.made.now.items (form_seen c.args.form.now _ _ c.in-TypeAlias.is (V.seen_TypeAlias _ _ _)) (Ok tt) (method_field (seen c.args.scope.now))
    (adds_none c.args.types.now c.args.made.now.items c.requires)

pub returns-in-Class : goal.returns-in-Class
returns-in-Class c = declared_adds c.args.form.now _ c.args.types.now c.args.types.now c.args.made.now.items c.args.made.now.items (form_seen c.args.form.now _ _ c.in-Class.is (V.seen_Class _ _ _)) (Ok tt) (method_field (seen c.args.scope.now))
    (adds_none c.args.types.now c.args.made.now.items c.requires)

pub returns-in-NamedObject : goal.returns-in-NamedObject
returns-in-NamedObject c = declared_adds c.args.form.now _ c.args.types.now c.args.types.now c.args.made.now.items c.args.made.now.items (form_seen c.args.form.now _ _ c.in-NamedObject.is (V.seen_NamedObject _ _)) (Ok tt) (method_field (seen c.args.scope.now))
    (adds_none c.args.types.now c.args.made.now.items c.requires)

pub returns-in-Evaluate : goal.returns-in-Evaluate
returns-in-Evaluate c = declared_adds c.args.form.now _ c.args.types.now c.args.types.now c.args.made.now.items c.args.made.now.items (form_seen c.args.form.now _ _ c.in-Evaluate.is (V.seen_Evaluate _)) (Ok tt) (method_field (seen c.args.scope.now))
    (adds_none c.args.types.now c.args.made.now.items c.requires)
