-- What the parts of an expression are at which it is reduced, where a well-typed program runs: each is typed where it stands, or has its value; or it is
-- of the start of an actor, whose declarations end in functions that have no types (Motoko language manual, sections "Expressions" and "Actors").
use Rattle.std.specs.Prelude.{◌≡◌, ◌⊎◌, ℕ, List}
use Rattle.mo_types.specs.declared.node.TypeId.{TypeId}
use Rattle.mo_types.specs.Graph.{Slot}
use Rattle.mo_values.specs.declared.operation.Operation.{Operation}
use Rattle.typed_tree.specs.declared.action.Action.TheVariants as action
use Rattle.typed_tree.specs.Language.{Value, Exp, Exps, Cases, Functions, Val, Do, Switch, Group, Frame, NoExp, AnExp, let_in}
use Rattle.typed_tree.specs.Patterns.{Pat, Wildcard, Bind}
use Rattle.typed_tree.specs.Wants.{Want}
use Rattle.mo_meaning.specs.Places.{one, operands}
use Rattle.mo_soundness.specs.Running.{Around, AnswerTypes, Typed}
use Rattle.mo_soundness.specs.RunningPatterns.{BindsAt}
use Rattle.program_soundness.specs.Exports.{HookTyped}
use Rattle.program_soundness.specs.Roles.{AHook, IsFunctionAs}
use Rattle.program_soundness.specs.Starting.{hook_cases}
use Rattle.program_soundness.specs.Worlds.{running}

-- a pattern that each value matches
abbrev pub IsName : Pat → Type 0
IsName Wildcard = Unit {0}
IsName Bind = Unit {0}
IsName p = ⊥

-- values, or operations on values
abbrev pub IsSimple : Exp → Type 0
IsSimple e = ((v : Value) × (e ≡ Val v)) ⊎ ((o : Operation) × (us : List Value) × (e ≡ Do (action.Operate o) (operands us)))

abbrev pub AreSimple : Exps → Type 0
AreSimple NoExp = Unit {0}
AreSimple (AnExp e es) = IsSimple e × AreSimple es

module _ (types : List Slot) (answers : AnswerTypes) (kinds : List TypeId) where
  pub data Placed : Exp → Type 0 where
    InContext : {e : Exp} → (c : Around) (w : Want TypeId) → Typed (running types) answers kinds c e w → Placed e
    Done : {e : Exp} → (v : Value) → e ≡ Val v → Placed e
    -- a declaration: what is typed is met by a pattern of its type, or is named; or a group of functions
    Opened : {e : Exp} → (p : Pat) (d b : Exp) (c : Around) (a : Want TypeId) (ns : List (Want TypeId)) → e ≡ let_in p d b → Typed (running types) answers kinds c d a → BindsAt (running types).head p a ns → Placed e
    Named : {e : Exp} → (p : Pat) (d b : Exp) → e ≡ let_in p d b → IsName p → Placed d → Placed e
    Grouped : {e : Exp} → (fns : Functions) (b : Exp) → e ≡ Group fns b → Placed e
    Framed : {e : Exp} → (n : ℕ) (d : Exp) → e ≡ Frame n d → Placed d → Placed e
    -- parts of the actor's value, and the look for a hook
    Operated : {e : Exp} → (o : Operation) (es : Exps) → e ≡ Do (action.Operate o) es → AreSimple es → Placed e
    Looked : {e : Exp} → (d : Exp) (cases : Cases) (o : Operation) (us : List Value) → e ≡ Switch d cases → d ≡ Do (action.Operate o) (operands us) → Placed e
    Found : {e : Exp} → (x : Value) (there after : Exp) → e ≡ Switch (Val x) (hook_cases there after) → HookTyped types answers kinds x → Placed e
    Called : {e : Exp} → (f : Value) → e ≡ Do action.Call (one (Val f)) → IsFunctionAs types answers kinds AHook f → Placed e
