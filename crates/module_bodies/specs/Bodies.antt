-- The functions of the bodies of a program, as lists of instructions.
use Rattle.std.specs.Prelude.{◌≡◌, ℕ, ◌+◌, List, [], ◌∷◌, ◌++◌, length, map}
use Rattle.core_ir.specs.declared.code.CodeBody.{CodeBody}
use Rattle.core_ir.specs.declared.program.Group.{Group as GroupTree}
use Rattle.core_ir.specs.declared.program.Method.{Method as MethodTree}
use Rattle.core_ir.specs.declared.program.Flat.{Flat}
use Rattle.core_ir.specs.Code.{CodeProgram}
use Rattle.core_ir.specs.CodeView.{code_body}
use Rattle.low_ir.specs.declared.module_parts.LowFunction.{LowFunction}
use Rattle.low_ir.specs.Flat.{flat_function}
use Rattle.low_ir.specs.Tree.{Function}
use Rattle.heap_layout.specs.Heaps.{Plan}
use Rattle.flat_emission.specs.Emission.{Linkage, function_of}
use Rattle.low_emit.specs.Modules.{Routine, plan, link, of_groups, alone}
use Rattle.body_lists.specs.declared.known.Known.{Known}
use Rattle.body_lists.specs.Known.{plan_of, link_of}

-- What is known is what the module of the program has, with these further routines and so many names.
abbrev pub IsOf : CodeProgram → List Routine → ℕ → Known → Type 0
IsOf p more own known = (plan_of known ≡ plan p more own) × (link_of known ≡ link p more own)

-- The functions of groups, of methods and of the start, in the module.
abbrev pub bodies_of : CodeProgram → List Routine → ℕ → List Function
bodies_of p more own = of_groups p more own p.groups ++ (map (λ m. alone p more own m.body) p.methods ++ alone p more own p.start ∷ [])

module _ (plan : Plan) (link : Linkage) where
  abbrev pub listed : ℕ → ℕ → ℕ → CodeBody → LowFunction
  listed members functions sees b = flat_function (function_of plan link members (code_body functions sees b))

  abbrev pub listed_groups : List (GroupTree CodeBody) → List LowFunction
  listed_groups [] = []
  listed_groups (g ∷ gs) = map (listed (length g.bodies) (length g.bodies) g.sees) g.bodies ++ listed_groups gs

  abbrev pub listed_methods : List (MethodTree CodeBody) → List LowFunction
  listed_methods ms = map (λ m. listed 0 0 0 m.body) ms

  abbrev pub listed_all : Flat → List LowFunction
  listed_all p = listed_groups p.program.groups ++ (listed_methods p.program.methods ++ listed 0 0 0 p.program.start ∷ [])
