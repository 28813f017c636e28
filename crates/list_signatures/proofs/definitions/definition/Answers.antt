use Rattle.std.proofs.Common.{◌∙◌, ap, refl}
use Rattle.abstract_types.specs.TypeView.{named}
use Rattle.abstract_tree.specs.TreeView.{plain_declaration_form}
use Rattle.abstract_tree.proofs.TreeViews as V
use Rattle.type_scopes.specs.Scopes.{seen}
use Rattle.list_signatures.proofs.Defined.{by_form, class_defines, defines_none, scope_kept}
use Rattle.list_signatures.proofs.definitions.definition.Goals as goal

pub returns-in-TypeAlias-clause-judged : goal.returns-in-TypeAlias-clause-judged
returns-in-TypeAlias-clause-judged c =
    by_form (seen c.args.scope.now) c.args.form.now _ (ap plain_declaration_form c.in-TypeAlias.is ∙ V.seen_TypeAlias _ _ _) c.args.types.now c.alias.new.types c.alias.new.sharing c.alias.result (rw c.as_slice.ensures at c.alias.ensures.judged)

pub returns-in-Class-clause-judged : goal.returns-in-Class-clause-judged
returns-in-Class-clause-judged c =
    class_defines (seen c.args.scope.now) c.args.form.now _ (ap plain_declaration_form c.in-Class.is ∙ V.seen_Class _ _ _) (named c.in-Class.name) c.args.types.now c.args.sharing.now c.defines.result (λ l later. refl) c.requires c.defines.ensures

pub returns-in-Class-clause-scope : goal.returns-in-Class-clause-scope
returns-in-Class-clause-scope c = scope_kept c.defines.result refl

pub returns-in-Let-clause-judged : goal.returns-in-Let-clause-judged
returns-in-Let-clause-judged c = defines_none (seen c.args.scope.now) c.args.form.now _ (ap plain_declaration_form c.in-Let.is ∙ V.seen_Let _ _) c.args.types.now c.args.sharing.now (λ l later. refl) c.requires

pub returns-in-Var-clause-judged : goal.returns-in-Var-clause-judged
returns-in-Var-clause-judged c = defines_none (seen c.args.scope.now) c.args.form.now _ (ap plain_declaration_form c.in-Var.is ∙ V.seen_Var _ _ _ _) c.args.types.now c.args.sharing.now (λ l later. refl) c.requires

pub returns-in-Func-clause-judged : goal.returns-in-Func-clause-judged
returns-in-Func-clause-judged c = defines_none (seen c.args.scope.now) c.args.form.now _ (ap plain_declaration_form c.in-Func.is ∙ V.seen_Func _ _ _) c.args.types.now c.args.sharing.now (λ l later. refl) c.requires

pub returns-in-Method-clause-judged : goal.returns-in-Method-clause-judged
returns-in-Method-clause-judged c = defines_none (seen c.args.scope.now) c.args.form.now _ (ap plain_declaration_form c.in-Method.is ∙ V.seen_Method _ _ _ _ _) c.args.types.now c.args.sharing.now (λ l later. refl) c.requires

pub returns-in-System-clause-judged : goal.returns-in-System-clause-judged
returns-in-System-clause-judged c = defines_none (seen c.args.scope.now) c.args.form.now _ (ap plain_declaration_form c.in-System.is ∙ V.seen_System _ _) c.args.types.now c.args.sharing.now (λ l later. refl) c.requires

pub returns-in-NamedObject-clause-judged : goal.returns-in-NamedObject-clause-judged
returns-in-NamedObject-clause-judged c = defines_none (seen c.args.scope.now) c.args.form.now _ (ap plain_declaration_form c.in-NamedObject.is ∙ V.seen_NamedObject _ _) c.args.types.now c.args.sharing.now (λ l later. refl) c.requires

pub returns-in-Evaluate-clause-judged : goal.returns-in-Evaluate-clause-judged
returns-in-Evaluate-clause-judged c = defines_none (seen c.args.scope.now) c.args.form.now _ (ap plain_declaration_form c.in-Evaluate.is ∙ V.seen_Evaluate _) c.args.types.now c.args.sharing.now (λ l later. refl) c.requires
