-- Well-typed programs are as elaboration asks: their declarations, and the functions behind them (Motoko language manual, sections "Actors" and "Shared
-- functions").
use Rattle.std.specs.Prelude.{Bool, true, false, List, length, map, Some}
use Rattle.mo_types.specs.Graph.{Slot}
use Rattle.typed_tree.specs.declared.program.Method.{Method}
use Rattle.typed_tree.specs.declared.program.Program.{Program}
use Rattle.typed_tree.specs.declared.expression.Function.{Function}
use Rattle.typed_tree.specs.ActionTypes.{Context}
use Rattle.typed_tree.specs.ProgramView.{with_context, program}
use Rattle.typed_tree.specs.View.{FunctionView, function}
use Rattle.typed_tree.specs.Wants.{in_function}
use Rattle.typed_tree.specs.WellTyped.{WellTyped, IsPublic, IsSystem}
use Rattle.elaboration.specs.Scopes.{Scope, in_body}
use Rattle.elaboration.specs.Checks.{behind}
use Rattle.elaboration.specs.Elaboration.{number_of_parameters, on_parameters}
use Rattle.elaboration.specs.Programs.{start_scope}
use Rattle.elaboration_forms.specs.Elaborates.{Stands, DeclarationsStand}
use Rattle.elaboration_premises.specs.Scoped.{Seen, Written}

-- the body of a function stands under its parameters
abbrev pub BodyStands : Bool → Scope → FunctionView → Type 0
BodyStands b s f = Stands b (behind (on_parameters f.parameters s) (in_body (number_of_parameters f.parameters) s)) f.body

-- ---- laws

abbrev pub StartsStand : Type 0
StartsStand = (p : Program) → WellTyped p → Written (program p).body → DeclarationsStand (start_scope (length p.methods) (length p.stable)) (program p).body

-- a method, in each scope with a place for each of the names around it
abbrev pub MethodsStand : Type 0
MethodsStand =
    (types : List Slot) (c : Context) (m : Method) → IsPublic types c m → Written (function m.function).body → (s : Scope) → Seen (map in_function c.names) s.places → BodyStands true s (with_context m.context (function m.function))

-- a hook of an upgrade, likewise
abbrev pub HooksStand : Type 0
HooksStand =
    (types : List Slot) (c : Context) (f : Function) → IsSystem types c (Some f) → Written (function f).body → (s : Scope) → Seen (map in_function c.names) s.places → BodyStands false s (function f)
