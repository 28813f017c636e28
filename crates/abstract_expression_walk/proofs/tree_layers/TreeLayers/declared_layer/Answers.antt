use Rattle.std.proofs.Common.{◌∙◌, ap}
use Rattle.typing_rules.specs.AbstractExpressions.{in_declaration}
use Rattle.typing_rules.proofs.ExpressionSpans as S
use Rattle.abstract_expression_walk.proofs.DeclarationMaking.{layer_made}
use Rattle.abstract_expression_walk.proofs.tree_layers.TreeLayers.declared_layer.Goals as goal

pub returns-in-Let : goal.returns-in-Let
returns-in-Let g c = layer_made c.args.d.now _ c.args.at c.let_in.result (ap in_declaration c.in-Let.is ∙ S.seen_Let _ _) c.let_in.ensures

pub returns-in-Var : goal.returns-in-Var
returns-in-Var g c = layer_made c.args.d.now _ c.args.at c.var.result (ap in_declaration c.in-Var.is ∙ S.seen_Var _ _ _) c.var.ensures

pub returns-in-Func : goal.returns-in-Func
returns-in-Func g c = layer_made c.args.d.now _ c.args.at c.func.result (ap in_declaration c.in-Func.is ∙ S.seen_Func _ _ _ _ _ _) c.func.ensures

pub returns-in-TypeAlias : goal.returns-in-TypeAlias
returns-in-TypeAlias g c = layer_made c.args.d.now _ c.args.at c.type_alias.result (ap in_declaration c.in-TypeAlias.is ∙ S.seen_TypeAlias _ _ _) c.type_alias.ensures

pub returns-in-Class : goal.returns-in-Class
returns-in-Class g c = layer_made c.args.d.now _ c.args.at c.class.result (ap in_declaration c.in-Class.is ∙ S.seen_Class _ _ _ _ _) c.class.ensures

pub returns-in-NamedObject : goal.returns-in-NamedObject
returns-in-NamedObject g c = layer_made c.args.d.now _ c.args.at c.named_object.result (ap in_declaration c.in-NamedObject.is ∙ S.seen_NamedObject _ _ _) c.named_object.ensures

pub returns-in-Evaluate : goal.returns-in-Evaluate
returns-in-Evaluate g c = layer_made c.args.d.now _ c.args.at c.evaluate.result (ap in_declaration c.in-Evaluate.is ∙ S.seen_Evaluate _) c.evaluate.ensures
