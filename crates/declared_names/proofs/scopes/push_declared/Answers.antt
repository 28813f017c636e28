use Rattle.std.proofs.Common.{ap, ◌∙◌, refl}
use Rattle.type_scopes.specs.Scopes.{seen}
use Rattle.abstract_tree.specs.TreeView.{plain_declaration_form}
use Rattle.abstract_tree.proofs.TreeViews as V
use Rattle.declared_names.proofs.DeclaredNames.{alias_named, class_named, none_named, on_ok}
use Rattle.declared_names.proofs.Entering.{extends_none, extends_with}
use Rattle.declared_names.proofs.scopes.push_declared.Goals as goal

pub returns-in-TypeAlias-clause-seen : goal.returns-in-TypeAlias-clause-seen
returns-in-TypeAlias-clause-seen c = on_ok c.push_definition.result _ _ c.push_definition.ensures.seen (λ h. rw c.as_slice.ensures at h ∙ alias_named (seen c.args.scope.now) c.args.form.now _ _ _ _ c.in-TypeAlias.is c.len.ensures)

pub returns-in-TypeAlias-clause-extends : goal.returns-in-TypeAlias-clause-extends
returns-in-TypeAlias-clause-extends c = on_ok c.push_definition.result _ _ c.push_definition.ensures.ok (λ h. extends_with _ _ _ _ h)

pub returns-in-Class-clause-seen : goal.returns-in-Class-clause-seen
returns-in-Class-clause-seen c = on_ok c.push_definition-in-Class.result _ _ c.push_definition-in-Class.ensures.seen (λ h. rw c.as_slice-in-Class.ensures at h ∙ class_named (seen c.args.scope.now) c.args.form.now _ _ _ _ c.in-Class.is c.len-in-Class.ensures)

pub returns-in-Class-clause-extends : goal.returns-in-Class-clause-extends
returns-in-Class-clause-extends c = on_ok c.push_definition-in-Class.result _ _ c.push_definition-in-Class.ensures.ok (λ h. extends_with _ _ _ _ h)

pub returns-in-Let-clause-seen : goal.returns-in-Let-clause-seen
returns-in-Let-clause-seen c = none_named (seen c.args.scope.now) c.args.form.now _ (ap plain_declaration_form c.in-Let.is ∙ V.seen_Let _ _) refl

pub returns-in-Let-clause-extends : goal.returns-in-Let-clause-extends
returns-in-Let-clause-extends c = extends_none c.args.scope.now

pub returns-in-Var-clause-seen : goal.returns-in-Var-clause-seen
returns-in-Var-clause-seen c = none_named (seen c.args.scope.now) c.args.form.now _ (ap plain_declaration_form c.in-Var.is ∙ V.seen_Var _ _ _ _) refl

pub returns-in-Var-clause-extends : goal.returns-in-Var-clause-extends
returns-in-Var-clause-extends c = extends_none c.args.scope.now

pub returns-in-Func-clause-seen : goal.returns-in-Func-clause-seen
returns-in-Func-clause-seen c = none_named (seen c.args.scope.now) c.args.form.now _ (ap plain_declaration_form c.in-Func.is ∙ V.seen_Func _ _ _) refl

pub returns-in-Func-clause-extends : goal.returns-in-Func-clause-extends
returns-in-Func-clause-extends c = extends_none c.args.scope.now

pub returns-in-Method-clause-seen : goal.returns-in-Method-clause-seen
returns-in-Method-clause-seen c = none_named (seen c.args.scope.now) c.args.form.now _ (ap plain_declaration_form c.in-Method.is ∙ V.seen_Method _ _ _ _ _) refl

pub returns-in-Method-clause-extends : goal.returns-in-Method-clause-extends
returns-in-Method-clause-extends c = extends_none c.args.scope.now

pub returns-in-System-clause-seen : goal.returns-in-System-clause-seen
returns-in-System-clause-seen c = none_named (seen c.args.scope.now) c.args.form.now _ (ap plain_declaration_form c.in-System.is ∙ V.seen_System _ _) refl

pub returns-in-System-clause-extends : goal.returns-in-System-clause-extends
returns-in-System-clause-extends c = extends_none c.args.scope.now

pub returns-in-NamedObject-clause-seen : goal.returns-in-NamedObject-clause-seen
returns-in-NamedObject-clause-seen c = none_named (seen c.args.scope.now) c.args.form.now _ (ap plain_declaration_form c.in-NamedObject.is ∙ V.seen_NamedObject _ _) refl

pub returns-in-NamedObject-clause-extends : goal.returns-in-NamedObject-clause-extends
returns-in-NamedObject-clause-extends c = extends_none c.args.scope.now

pub returns-in-Evaluate-clause-seen : goal.returns-in-Evaluate-clause-seen
returns-in-Evaluate-clause-seen c = none_named (seen c.args.scope.now) c.args.form.now _ (ap plain_declaration_form c.in-Evaluate.is ∙ V.seen_Evaluate _) refl

pub returns-in-Evaluate-clause-extends : goal.returns-in-Evaluate-clause-extends
returns-in-Evaluate-clause-extends c = extends_none c.args.scope.now
