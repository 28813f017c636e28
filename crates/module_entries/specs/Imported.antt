-- The functions of `ic0` among imports: IC interface specification, section Overview of imports.
use Rattle.std.specs.Prelude.{ℕ, List, [], ◌∷◌, ◌++◌, Option, Some, None}
use Rattle.wasm_tree.specs.declared.module_parts.ImportKind.{ImportKind}
use Rattle.wasm_tree.specs.declared.module_parts.ImportKind.TheVariants as «import»
use Rattle.wasm_tree.specs.declared.module_parts.Import.{Import}
use Rattle.ic0_world.specs.declared.function.Ic0.{Ic0}
use Rattle.ic0_world.specs.Names.{function_of}

abbrev pub one_found : Option Ic0 → List Ic0
one_found None = []
one_found (Some function) = function ∷ []

abbrev pub functions_of_import : List ℕ → ImportKind → List Ic0
functions_of_import name («import».Function signature) = one_found (function_of name)
functions_of_import name («import».Table l) = []
functions_of_import name («import».Memory l) = []
functions_of_import name («import».Global g) = []

-- In the order of the imports.
abbrev pub functions_of : List Import → List Ic0
functions_of [] = []
functions_of (i ∷ is) = functions_of_import i.name i.kind ++ functions_of is
