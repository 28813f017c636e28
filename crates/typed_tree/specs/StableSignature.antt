-- The stable signature of a program (Motoko language manual, section "Stable type signatures").
use Rattle.std.specs.Prelude.{List, map}
use Rattle.typed_tree.specs.declared.program.Program.{Program}
use Rattle.typed_tree.specs.declared.program.StableVariable.{StableVariable}
use Rattle.typed_tree.specs.declared.signature.StableField.{StableField}

abbrev pub field : StableVariable → StableField
field v = record { name = v.name; of_type = v.of_type }

-- the names and types of the stable variables, in source order
abbrev pub signature : Program → List StableField
signature p = map field p.stable
