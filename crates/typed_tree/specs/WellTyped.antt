-- When a program is well typed (Motoko language manual, sections "Actors", "Shared functions", "Stability", "System functions").
use Rattle.std.specs.Prelude.{◌≡◌, ◌≢◌, ◌⊎◌, List, [], ◌∷◌, ◌++◌, length, map, true, false, Option, Some, None, slice_get, codes}
use Rattle.mo_types.specs.declared.node.Node.{Node}
use Rattle.mo_types.specs.declared.node.Node.TheVariants as node
use Rattle.mo_types.specs.declared.node.Field.{Field}
use Rattle.mo_types.specs.declared.node.Sort.{Sort}
use Rattle.mo_types.specs.declared.node.Sort.TheVariants as sort
use Rattle.mo_types.specs.declared.node.TypeId.{TypeId}
use Rattle.mo_types.specs.Graph.{Slot, head_at}
use Rattle.mo_types.specs.Label.{label_id}
use Rattle.mo_types.specs.Sub.{Each, Pairwise, find}
use Rattle.mo_types.specs.Values.{copies, is_method_name}
use Rattle.typed_tree.specs.declared.expression.Function.{Function}
use Rattle.typed_tree.specs.declared.expression.Step.{Step}
use Rattle.typed_tree.specs.declared.pattern.TypedPattern.{TypedPattern}
use Rattle.typed_tree.specs.declared.program.Program.{Program}
use Rattle.typed_tree.specs.declared.program.Method.{Method}
use Rattle.typed_tree.specs.declared.program.StableVariable.{StableVariable}
use Rattle.typed_tree.specs.ActionTypes.{Context, ResultOf}
use Rattle.typed_tree.specs.Basics.{HasBasics}
use Rattle.typed_tree.specs.MemberTypes.{IsUnit}
use Rattle.typed_tree.specs.Nodes.{in_list}
use Rattle.typed_tree.specs.OperationTypes.{Distinct}
use Rattle.typed_tree.specs.PatternTypes.{Stands}
use Rattle.typed_tree.specs.ProgramView.{functions_of}
use Rattle.typed_tree.specs.Shareable.{IsShareable}
use Rattle.typed_tree.specs.Types.{AreLawful}
use Rattle.typed_tree.specs.Typing.{with_names, Covers, Declares, IsFunctionOf}
use Rattle.typed_tree.specs.View.{function}
use Rattle.typed_tree.specs.Wants.{Want, Anything, Of, CellOf, KeptOf, Below}

-- by how a method is called
abbrev pub sort_of : Method → Sort
sort_of m = (function m.function).how

module _ (types : List Slot) where
  abbrev pub head : TypeId → Node TypeId
  head = head_at types

  -- ---- the names around the declarations

  -- a method of an actor type takes what the public function takes, and gives what it gives
  abbrev pub IsMethodOf : List (Field TypeId) → Method → Type 0
  IsMethodOf fs m =
      (f : Field TypeId) × (ps rs : List TypeId) × (find m.name fs ≡ Some f) × (head f.part ≡ node.Func (sort_of m) ps rs)
      × Pairwise (Below head) ps m.parameters × Pairwise (Below head) m.results rs

  -- the actor itself: a type of its methods, or nothing that is used, where this type is not in the program
  abbrev pub IsActor : List Method → Want TypeId → Type 0
  IsActor ms w = (w ≡ Anything) ⊎ ((t : TypeId) × (fs : List (Field TypeId)) × (head t ≡ node.Actor fs) × (length fs ≡ length ms) × Each (IsMethodOf fs) ms × (w ≡ Of t))

  -- each public function as a shared one, likewise
  abbrev pub AreMethods : List Method → List (Want TypeId) → Type 0
  AreMethods [] [] = Unit {0}
  AreMethods (m ∷ ms) (w ∷ ws) =
      ((w ≡ Anything) ⊎ ((t : TypeId) × (head t ≡ node.Func (sort_of m) m.parameters m.results) × (w ≡ Of t))) × AreMethods ms ws
  AreMethods _ _ = ⊥

  abbrev pub around : Want TypeId → List (Want TypeId) → List StableVariable → Context
  around own methods stable = record { names = own ∷ (methods ++ map (λ v. KeptOf v.of_type) stable); labels = []; body = sort.Local; parameters = [] }

  -- ---- the declarations, one after another: what is around what stands behind them

  abbrev pub AllDeclare : Context → List Step → Context → Type 0
  AllDeclare c [] end = end ≡ c
  AllDeclare c (s ∷ ss) end = (ns : List (Want TypeId)) × Declares types s c ns × AllDeclare (with_names ns c) ss end

  -- ---- the functions behind the declarations

  -- `{caller : Principal}`
  abbrev pub IsContextType : TypeId → Type 0
  IsContextType t = (f : Field TypeId) × (head t ≡ node.Object (f ∷ [])) × (f.label ≡ codes "caller") × (f.mutable ≡ false) × (head f.part ≡ node.Principal)

  abbrev pub ContextNames : Option TypedPattern → List (Want TypeId) → Type 0
  ContextNames None ns = ns ≡ []
  ContextNames (Some p) ns = (t : TypeId) × IsContextType t × Stands types [] p t ns

  -- its name is one of a method, and not of that by which an actor comes back to an answer; its body is one of a shared function
  pub record IsPublic (c : Context) (m : Method) : Type 0 where
    pub name : (is_method_name m.name ≡ true) × (m.name ≢ codes "__resume")
    pub shared : sort_of m ≢ sort.Local
    pub parameters : Each (IsShareable head) m.parameters
    pub results : Each (IsShareable head) m.results
    pub body : (ns : List (Want TypeId)) × (r : TypeId) × ContextNames m.context ns × ResultOf head m.results r
        × IsFunctionOf types m.function c (record { sort = sort_of m; generics = []; context = ns; parameters = m.parameters; result = r })

  abbrev pub IsSystem : Context → Option Function → Type 0
  IsSystem c None = Unit {0}
  IsSystem c (Some f) = (u : TypeId) × IsUnit head u × IsFunctionOf types f c (record { sort = sort.Local; generics = []; context = []; parameters = []; result = u })

  -- ---- stable variables

  -- a variable of a shareable type, under its name
  abbrev pub IsStable : Context → StableVariable → Type 0
  IsStable c v = IsShareable head v.of_type × (slice_get c.names v.cell ≡ Some (CellOf v.of_type))

-- behind the declarations and under the names of the functions there, which nothing uses
abbrev pub behind : Program → Context → Context
behind p c = with_names (copies (length (functions_of p)) Anything) c

pub record WellTyped (p : Program) : Type 0 where
  pub types : AreLawful p.types
  pub basics : HasBasics p.types
  pub own : Want TypeId
  pub methods : List (Want TypeId)
  pub end : Context
  pub own_is : IsActor p.types p.methods own
  pub methods_are : AreMethods p.types p.methods methods
  pub declarations : AllDeclare p.types (around p.types own methods p.stable) p.declarations end
  pub public : Each (IsPublic p.types (behind p end)) p.methods
  pub method_labels : Distinct (map (λ m. label_id m.name) p.methods)
  pub before_upgrade : IsSystem p.types (behind p end) p.before_upgrade
  pub after_upgrade : IsSystem p.types (behind p end) p.after_upgrade
  pub stable : Each (IsStable p.types end) p.stable
  pub stable_labels : Distinct (map (λ v. label_id v.name) p.stable)
  pub nodes : Covers p.nodes (in_list p.declarations)
