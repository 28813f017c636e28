use Rattle.abstract_expression_walk.proofs.DeclarationMaking.{alias_made}
use Rattle.abstract_expression_walk.proofs.declaration_walk.type_alias.Goals as goal

pub returns : goal.returns
returns c = alias_made c.args.name.now c.args.names.now c.args.kind.now c.args.at _ _ _ _ _ c.in_ok-name.ensures c.in_ok-parameters.ensures (rw c.get.ensures at c.in_ok-of.ensures)
