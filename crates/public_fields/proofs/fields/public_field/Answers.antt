use Rattle.std.proofs.Common.{Ok, Err, refl}
use Rattle.typing_rules.specs.declared.condition.Condition.TheVariants as condition
use Rattle.abstract_tree.proofs.TreeViews as V
use Rattle.type_judgements.specs.declared.refusal.Refusal.TheVariants as refusal
use Rattle.public_fields.proofs.Listing.{by_form}
use Rattle.public_fields.proofs.fields.public_field.Goals as goal

pub returns-in-Let : goal.returns-in-Let
returns-in-Let c = by_form c.args.form.now _ _ c.each_annotated.result c.in-Let.is (V.seen_Let c.in-Let.pattern c.in-Let.field-1) c.each_annotated.ensures

pub returns-in-Var : goal.returns-in-Var
returns-in-Var c = by_form c.args.form.now _ _ c.has_type.result c.in-Var.is (V.seen_Var c.in-Var.field-0 c.in-Var.name c.in-Var.written c.in-Var.field-3) c.has_type.ensures

pub returns-in-Func : goal.returns-in-Func
returns-in-Func c = by_form c.args.form.now _ _ c.no_generics.result c.in-Func.is (V.seen_Func c.in-Func.name c.in-Func.signature c.in-Func.field-2) c.no_generics.ensures

pub returns-in-Class : goal.returns-in-Class
returns-in-Class c = by_form c.args.form.now _ _ c.no_generics-in-Class.result c.in-Class.is (V.seen_Class c.in-Class.name c.in-Class.signature c.in-Class.field-2) c.no_generics-in-Class.ensures

pub returns-in-NamedObject : goal.returns-in-NamedObject
returns-in-NamedObject c = by_form c.args.form.now _ _ (Err (refusal.False c.in-NamedObject.name.at condition.NeedsType)) c.in-NamedObject.is (V.seen_NamedObject c.in-NamedObject.name c.in-NamedObject.field-1) refl

pub returns-in-Method : goal.returns-in-Method
returns-in-Method c = by_form c.args.form.now _ _ (Ok tt) c.in-Method.is (V.seen_Method c.in-Method.field-0 c.in-Method.field-1 c.in-Method.field-2 c.in-Method.field-3 c.in-Method.field-4) refl

pub returns-in-System : goal.returns-in-System
returns-in-System c = by_form c.args.form.now _ _ (Ok tt) c.in-System.is (V.seen_System c.in-System.field-0 c.in-System.field-1) refl

pub returns-in-TypeAlias : goal.returns-in-TypeAlias
returns-in-TypeAlias c = by_form c.args.form.now _ _ (Ok tt) c.in-TypeAlias.is (V.seen_TypeAlias c.in-TypeAlias.field-0 c.in-TypeAlias.field-1 c.in-TypeAlias.field-2) refl

pub returns-in-Evaluate : goal.returns-in-Evaluate
returns-in-Evaluate c = by_form c.args.form.now _ _ (Ok tt) c.in-Evaluate.is (V.seen_Evaluate c.in-Evaluate.field-0) refl
