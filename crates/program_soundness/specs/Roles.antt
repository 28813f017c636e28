-- The functions of an actor that stand behind its declarations: its methods, and the hooks of an upgrade (Motoko language manual, sections "Shared
-- functions" and "System functions"). Their names stand for nothing that is used, and their types need not be in the program.
use Rattle.std.specs.Prelude.{◌≡◌, ◌⊎◌, List, [], ◌∷◌, ◌++◌, length, true, false, Some, slice_get, codes}
use Rattle.mo_types.specs.declared.node.Field.{Field}
use Rattle.mo_types.specs.declared.node.Node.{Node}
use Rattle.mo_types.specs.declared.node.Node.TheVariants as node
use Rattle.mo_types.specs.declared.node.TypeId.{TypeId}
use Rattle.mo_types.specs.Graph.{Slot}
use Rattle.mo_types.specs.Values.{copies}
use Rattle.typed_tree.specs.ActionTypes.{ResultOf}
use Rattle.typed_tree.specs.Language.{Value, Exp, Functions, Function, NoFunction, AFunction}
use Rattle.typed_tree.specs.MemberTypes.{IsUnit}
use Rattle.typed_tree.specs.Patterns.{Pat, Pats, Wildcard, NoPat, APat}
use Rattle.typed_tree.specs.Wants.{Want, Anything, Of}
use Rattle.mo_soundness.specs.RunningPatterns.{PatternTyped, PatternsTyped}
use Rattle.mo_soundness.specs.Running.{Around, AnswerTypes, still, in_body, Typed}
use Rattle.program_soundness.specs.Worlds.{running}

pub data Role : Type 0 where
  -- a method that takes values of these types, and gives such
  AMethod : (parameters results : List TypeId) → Role
  -- a function that takes nothing and gives ()
  AHook : Role

-- in a group of so many functions, whose names stand for nothing that is used
abbrev pub unused : List Role → List (Want TypeId)
unused roles = copies (length roles) Anything

abbrev pub in_group : List Role → Around
in_group roles = record { names = unused roles; labels = [] }

-- where calls may be made
abbrev pub calling : AnswerTypes → AnswerTypes
calling answers = record { types = answers.types; may_call = true }

-- `{caller : Principal}`
abbrev pub IsCallerType : (TypeId → Node TypeId) → TypeId → Type 0
IsCallerType head t = (f : Field TypeId) × (head t ≡ node.Object (f ∷ [])) × (f.label ≡ codes "caller") × (f.mutable ≡ false) × (head f.part ≡ node.Principal)

module _ (types : List Slot) where
  -- the pattern of a call's context: none that is written, or one that meets `{caller : Principal}`
  abbrev pub ContextBinds : Pat → List (Want TypeId) → Type 0
  ContextBinds p ns = ((p ≡ Wildcard) × (ns ≡ [])) ⊎ ((t : TypeId) × IsCallerType (running types).head t × PatternTyped (running types).head p t ns)

  module _ (answers : AnswerTypes) (kinds : List TypeId) where
    -- in a method calls may be made, in a hook none
    abbrev pub PlaysRole : Around → Role → Pats → Exp → Type 0
    PlaysRole c (AMethod ps rs) (APat p qs) body =
        (ms ns : List (Want TypeId)) × (r : TypeId) × ContextBinds p ms × PatternsTyped (running types).head qs ps ns × ResultOf (running types).head rs r
        × Typed (running types) (calling answers) kinds (in_body (ms ++ ns) r c) body (Of r)
    PlaysRole c AHook NoPat body = (u : TypeId) × IsUnit (running types).head u × Typed (running types) (still answers) kinds (in_body [] u c) body (Of u)
    PlaysRole c _ _ body = ⊥

    -- the functions of a group, one after another
    abbrev pub RolesTyped : Around → List Role → Functions → Type 0
    RolesTyped c [] NoFunction = Unit {0}
    RolesTyped c (role ∷ roles) (AFunction how n ps body fns) = PlaysRole c role ps body × RolesTyped c roles fns
    RolesTyped c _ _ = ⊥

    -- a function of such a group, as a value
    abbrev pub IsFunctionAs : Role → Value → Type 0
    IsFunctionAs role (Function group which) = (roles : List Role) × RolesTyped (in_group roles) roles group × (slice_get roles which ≡ Some role)
    IsFunctionAs role _ = ⊥
