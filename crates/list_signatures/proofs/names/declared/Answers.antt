use Rattle.std.proofs.Common.{◌∙◌, ap, map, option_map, refl}
use Rattle.abstract_types.specs.PatternView.{plain as plain_pattern}
use Rattle.abstract_tree.specs.TreeView.{declarations, plain, plain_declaration, plain_declaration_form}
use Rattle.abstract_tree.proofs.TreeViews as V
use Rattle.type_scopes.specs.Scopes.{seen}
use Rattle.signatures.specs.Naming.{no_more}
use Rattle.list_signatures.proofs.Bound.{binds_nothing, by_form}
use Rattle.list_signatures.proofs.Defined.{scope_kept}
use Rattle.list_signatures.proofs.names.declared.Goals as goal

pub returns-in-Func-clause-judged : goal.returns-in-Func-clause-judged
returns-in-Func-clause-judged c =
    by_form (seen c.args.scope.now) c.args.form.now _ (ap plain_declaration_form c.in-Func.is ∙ V.seen_Func _ _ _) c.args.types.now c.function_signature.new.types c.function_signature.new.sharing c.args.names.now c.function_signature.new.names no_more c.function_signature.result
    (c.function_signature.ensures.judged (plain c.in-Func.field-2))

pub returns-in-Class-clause-judged : goal.returns-in-Class-clause-judged
returns-in-Class-clause-judged c =
    by_form (seen c.args.scope.now) c.args.form.now _ (ap plain_declaration_form c.in-Class.is ∙ V.seen_Class _ _ _) c.args.types.now c.class_signature.new.types c.class_signature.new.sharing c.args.names.now c.class_signature.new.names no_more c.class_signature.result
    (c.class_signature.ensures.judged (declarations (map plain_declaration c.in-Class.field-2)))

pub returns-in-Method-clause-judged : goal.returns-in-Method-clause-judged
returns-in-Method-clause-judged c =
    by_form (seen c.args.scope.now) c.args.form.now _ (ap plain_declaration_form c.in-Method.is ∙ V.seen_Method _ _ _ _ _) c.args.types.now c.method_signature.new.types c.method_signature.new.sharing c.args.names.now c.method_signature.new.names no_more c.method_signature.result
    (c.method_signature.ensures (option_map plain_pattern c.in-Method.field-1) (plain c.in-Method.field-4))

pub returns-in-Method-clause-scope : goal.returns-in-Method-clause-scope
returns-in-Method-clause-scope c = scope_kept c.method_signature.result refl

pub returns-in-Let-clause-judged : goal.returns-in-Let-clause-judged
returns-in-Let-clause-judged c = binds_nothing (seen c.args.scope.now) c.args.form.now _ (ap plain_declaration_form c.in-Let.is ∙ V.seen_Let _ _) c.args.types.now c.args.sharing.now c.args.names.now (λ l later. refl) c.requires

pub returns-in-Var-clause-judged : goal.returns-in-Var-clause-judged
returns-in-Var-clause-judged c = binds_nothing (seen c.args.scope.now) c.args.form.now _ (ap plain_declaration_form c.in-Var.is ∙ V.seen_Var _ _ _ _) c.args.types.now c.args.sharing.now c.args.names.now (λ l later. refl) c.requires

pub returns-in-System-clause-judged : goal.returns-in-System-clause-judged
returns-in-System-clause-judged c = binds_nothing (seen c.args.scope.now) c.args.form.now _ (ap plain_declaration_form c.in-System.is ∙ V.seen_System _ _) c.args.types.now c.args.sharing.now c.args.names.now (λ l later. refl) c.requires

pub returns-in-TypeAlias-clause-judged : goal.returns-in-TypeAlias-clause-judged
returns-in-TypeAlias-clause-judged c = binds_nothing (seen c.args.scope.now) c.args.form.now _ (ap plain_declaration_form c.in-TypeAlias.is ∙ V.seen_TypeAlias _ _ _) c.args.types.now c.args.sharing.now c.args.names.now (λ l later. refl) c.requires

pub returns-in-NamedObject-clause-judged : goal.returns-in-NamedObject-clause-judged
returns-in-NamedObject-clause-judged c = binds_nothing (seen c.args.scope.now) c.args.form.now _ (ap plain_declaration_form c.in-NamedObject.is ∙ V.seen_NamedObject _ _) c.args.types.now c.args.sharing.now c.args.names.now (λ l later. refl) c.requires

pub returns-in-Evaluate-clause-judged : goal.returns-in-Evaluate-clause-judged
returns-in-Evaluate-clause-judged c = binds_nothing (seen c.args.scope.now) c.args.form.now _ (ap plain_declaration_form c.in-Evaluate.is ∙ V.seen_Evaluate _) c.args.types.now c.args.sharing.now c.args.names.now (λ l later. refl) c.requires
