use Rattle.wasm_tree.specs.Spelling.{IsLeast}
use Rattle.wasm_tree.specs.Binary.{IsBody}
use Rattle.wasm_write.proofs.Least.{then_appends, sized_appends, sized_fits, sized_has, whole_least, first_has, second_has, body_has, body_appends}
use Rattle.wasm_write.proofs.parts_spelled.FunctionSpellItself.put.Goals as goal

pub put_vector-requires : goal.put_vector-requires
put_vector-requires c = first_has _ _ (body_has c.args.self.now (sized_has (IsBody c.args.self.now) c.requires))

pub put_expression-requires : goal.put_expression-requires
put_expression-requires c = second_has _ _ (body_has c.args.self.now (sized_has (IsBody c.args.self.now) c.requires))

pub put_sized-requires : goal.put_sized-requires
put_sized-requires c =
    let least : IsLeast (IsBody c.args.self.now) c.put_expression.new.out =
    whole_least _ c.new-body.result _ c.new-body.ensures
    (body_appends c.args.self.now _ _ (sized_has (IsBody c.args.self.now) c.requires) (then_appends _ _ _ _ _ c.in_ok-put_vector.ensures c.in_ok-put_expression.ensures)) in
    sized_fits (IsBody c.args.self.now) c.put_expression.new.out c.requires least

pub returns : goal.returns
returns c = sized_appends _ c.put_expression.new.out _ _
    (whole_least _ c.new-body.result _ c.new-body.ensures
    (body_appends c.args.self.now _ _ (sized_has (IsBody c.args.self.now) c.requires) (then_appends _ _ _ _ _ c.in_ok-put_vector.ensures c.in_ok-put_expression.ensures)))
    c.in_ok-put_sized.ensures
