-- The program of the language that a typed program stands for.
use Rattle.std.specs.Prelude.{ℕ, zero, suc, ◌+◌, List, [], ◌∷◌, ◌++◌, length, map, Bool, true, false, Option, Some, None}
use Rattle.mo_types.specs.declared.node.Sort.{Sort}
use Rattle.mo_types.specs.declared.node.Sort.TheVariants as sort
use Rattle.mo_types.specs.Graph.{head_at}
use Rattle.mo_values.specs.declared.operation.Operation.{Operation}
use Rattle.mo_values.specs.declared.operation.Operation.TheVariants as op
use Rattle.typed_tree.specs.declared.action.Action.TheVariants as action
use Rattle.typed_tree.specs.declared.expression.Function.{Function}
use Rattle.typed_tree.specs.declared.pattern.TypedPattern.{TypedPattern}
use Rattle.typed_tree.specs.declared.program.Program.{Program as TypedProgram}
use Rattle.typed_tree.specs.declared.program.Method.{Method as TypedMethod}
use Rattle.typed_tree.specs.declared.program.StableVariable.{StableVariable as TypedVariable}
use Rattle.typed_tree.specs.Language.{Exp, Val, Name, Do, Group, null}
use Rattle.typed_tree.specs.Patterns.{Pat, Wildcard, APat}
use Rattle.typed_tree.specs.PatternView.{pattern}
use Rattle.typed_tree.specs.Programs.{Program, Method, StableVariable}
use Rattle.typed_tree.specs.View.{FunctionView, exps, group, block, declaration, function}

abbrev pub is_query : Sort → Bool
is_query sort.Query = true
is_query _ = false

abbrev pub method : TypedMethod → Method
method m = record { name = m.name; query = is_query (function m.function).how; parameters = m.parameters; results = m.results }

abbrev pub stable_variable : TypedVariable → StableVariable
stable_variable v = record { name = v.name; of_type = v.of_type }

abbrev pub context_pattern : Option TypedPattern → Pat
context_pattern None = Wildcard
context_pattern (Some p) = pattern p

-- a function that takes the context of the call before its parameters
abbrev pub with_context : Option TypedPattern → FunctionView → FunctionView
with_context o f = record f { parameters = APat (context_pattern o) f.parameters }

abbrev pub optional_function : Option Function → List FunctionView
optional_function None = []
optional_function (Some f) = function f ∷ []

abbrev pub functions_of : TypedProgram → List FunctionView
functions_of p = map (λ m. with_context m.context (function m.function)) p.methods ++ (optional_function p.before_upgrade ++ optional_function p.after_upgrade)

-- so many names from the n-th on
abbrev pub names_from : ℕ → ℕ → List Exp
names_from n zero = []
names_from n (suc k) = Name n ∷ names_from (suc n) k

abbrev pub made : Operation → List Exp → Exp
made o es = Do (action.Operate o) (exps es)

-- the n-th name as an option, where there is such a function
abbrev pub optional_name : ℕ → Option Function → Exp
optional_name n None = Val null
optional_name n (Some f) = made op.MakeOption (Name n ∷ [])

-- what the declarations end in, under the names of the functions
abbrev pub parts : TypedProgram → Exp
parts p =
    made op.MakeTuple
    (made op.MakeTuple (names_from 0 (length p.methods)) ∷ optional_name (length p.methods) p.before_upgrade
    ∷ optional_name (length p.methods + length (optional_function p.before_upgrade)) p.after_upgrade
    ∷ made (op.MakeObject (map (λ v. v.name) p.stable)) (map (λ v. Name (length (functions_of p) + v.cell)) p.stable) ∷ [])

abbrev pub program : TypedProgram → Program
program p = record {
  head = head_at p.types;
  stable = map stable_variable p.stable;
  methods = map method p.methods;
  nodes = p.nodes;
  body = block (map declaration p.declarations) (Group (group (functions_of p)) (parts p));
}
