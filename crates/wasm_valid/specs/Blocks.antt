-- The blocks that are open, the innermost first.
use Rattle.std.specs.Prelude.{List, [], ◌∷◌, Option, None}
use Rattle.wasm_tree.specs.declared.types.ValueType.{ValueType}
use Rattle.wasm_valid.specs.declared.blocks.Opened.{Opened}
use Rattle.wasm_valid.specs.declared.blocks.Opener.{Opener}
use Rattle.wasm_valid.specs.declared.blocks.Opener.TheVariants as opener

-- The result that a branch to the block carries.
abbrev pub label_by : Opener → Option ValueType → Option ValueType
label_by opener.Block result = result
label_by opener.Loop result = None
label_by opener.If result = result
label_by opener.Else result = result

-- The results that the labels of these blocks carry, and that of the body with this result.
abbrev pub labels : Option ValueType → List Opened → List (Option ValueType)
labels result [] = result ∷ []
labels result (o ∷ blocks) = label_by o.opener o.result ∷ labels result blocks
