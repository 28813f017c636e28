-- The declarations of an actor as they run, and what they end in (Motoko language manual, sections "Actors" and "Declarations").
use Rattle.std.specs.Prelude.{◌≡◌, ◌+◌, List, [], ◌∷◌, ◌++◌, length, map}
use Rattle.mo_types.specs.declared.node.TypeId.{TypeId}
use Rattle.mo_types.specs.Graph.{Slot}
use Rattle.mo_values.specs.declared.operation.Operation.TheVariants as op
use Rattle.typed_tree.specs.declared.action.Action.TheVariants as action
use Rattle.typed_tree.specs.declared.expression.Function.{Function}
use Rattle.std.specs.Prelude.{Option, Some, None}
use Rattle.typed_tree.specs.declared.program.Program.{Program}
use Rattle.typed_tree.specs.declared.program.StableVariable.{StableVariable}
use Rattle.typed_tree.specs.Language.{Exp, Exps, Functions, Val, Name, Do, Group, NoExp, AnExp}
use Rattle.typed_tree.specs.ProgramView.{names_from, optional_function, optional_name}
use Rattle.typed_tree.specs.View.{exps}
use Rattle.typed_tree.specs.Wants.{Want, CellOf, KeptOf}
use Rattle.closed_rules.specs.ClosedWants.{close_want, close_wants}
use Rattle.mo_soundness.specs.Running.{Around, AnswerTypes, with_names, Typed}
use Rattle.closed_trees.specs.Opening.{Opens}
use Rattle.program_soundness.specs.Roles.{Role, AMethod, AHook, unused, RolesTyped}
use Rattle.program_soundness.specs.Worlds.{running, kept_type}

abbrev pub hook_role : Option Function → List Role
hook_role None = []
hook_role (Some f) = AHook ∷ []

-- the functions behind the declarations, in their order
abbrev pub roles_of : Program → List Role
roles_of p = map (λ m. AMethod m.parameters m.results) p.methods ++ (hook_role p.before_upgrade ++ hook_role p.after_upgrade)

-- what the declarations end in, where these stand for the cells of the stable variables
abbrev pub ending : Program → Exps → Exp
ending p cells =
    Do (action.Operate op.MakeTuple)
    (AnExp (Do (action.Operate op.MakeTuple) (exps (names_from 0 (length p.methods))))
    (AnExp (optional_name (length p.methods) p.before_upgrade)
    (AnExp (optional_name (length p.methods + length (optional_function p.before_upgrade)) p.after_upgrade)
    (AnExp (Do (action.Operate (op.MakeObject (map (λ v. v.name) p.stable))) cells) NoExp))))

-- around the declarations: the actor itself, its methods, and what was kept of the stable variables
abbrev pub around_declarations : List Slot → Want TypeId → List (Want TypeId) → List StableVariable → Around
around_declarations types own methods stable =
    record { names = close_want (kept_type types) own ∷ (close_wants (kept_type types) methods ++ map (λ v. KeptOf (kept_type types v.of_type)) stable); labels = [] }

abbrev pub IsAtom : Exp → Type 0
IsAtom (Val v) = Unit {0}
IsAtom (Name x) = Unit {0}
IsAtom _ = ⊥

module _ (types : List Slot) (answers : AnswerTypes) (kinds : List TypeId) where
  -- names or values of the cells of stable variables
  abbrev pub CellsNamed : Around → Exps → List StableVariable → Type 0
  CellsNamed c NoExp [] = Unit {0}
  CellsNamed c (AnExp e es) (v ∷ vs) = (IsAtom e × Typed (running types) answers kinds c e (CellOf (kept_type types v.of_type))) × CellsNamed c es vs
  CellsNamed c _ _ = ⊥

  -- the functions behind the declarations, and what these end in
  abbrev pub EndsIn : Program → Around → Exp → Type 0
  EndsIn p c e =
      (fns : Functions) × (cells : Exps) × (e ≡ Group fns (ending p cells)) × RolesTyped types answers kinds (with_names (unused (roles_of p)) c) (roles_of p) fns
      × CellsNamed (with_names (unused (roles_of p)) c) cells p.stable

  -- declarations, each around those behind it
  pub data Declared (p : Program) : Around → Exp → Type 0 where
    Last : {c : Around} → {e : Exp} → EndsIn p c e → Declared p c e
    Before : {c : Around} → {ns : List (Want TypeId)} → {e b : Exp} → Opens (running types) answers kinds c ns e b → Declared p (with_names ns c) b → Declared p c e
