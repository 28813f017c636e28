use Rattle.wasm_write.proofs.Least.{then_appends, expression_has, expression_appends}
use Rattle.wasm_write.proofs.code_spelled.put_expression.Goals as goal

pub put_each-requires : goal.put_each-requires
put_each-requires c = expression_has _ c.requires

pub returns : goal.returns
returns c = expression_appends _ _ _ c.requires (then_appends _ _ _ _ _ c.in_ok-put_each.ensures c.in_ok-put_exactly.ensures)
