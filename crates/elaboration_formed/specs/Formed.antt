-- What elaboration makes is formed: its names, labels and groups are there, and its actions have their operands.
use Rattle.std.specs.Prelude.{ℕ, suc, ◌+◌, ◌<◌, ◌≤◌, Bool, false, List, [], ◌∷◌, length}
use Rattle.core_ir.specs.Programs.{Group}
use Rattle.core_ir.specs.Expressions as core
use Rattle.core_ir.specs.Expressions.{Body}
use Rattle.core_ir.specs.Formed.{size_at, sees_at}
use Rattle.core_ir.specs.FormedExpressions.{FormedExp}
use Rattle.typed_tree.specs.Language.{Exp, Functions}
use Rattle.elaboration.specs.Scopes.{Place, Local, Own, Nowhere, Scope}
use Rattle.elaboration.specs.Elaboration.{elaborate, elaborate_functions}
use Rattle.elaboration.specs.Programs.{start_scope}
use Rattle.elaboration_forms.specs.Elaborates.{HasGroups, Elaborates, ElaboratesFunctions, Stands, StandFunctions}
use Rattle.elaboration_formed.specs.Arities.{Shaped, ShapedFunctions}

-- places among so many names, and so many of the actor
abbrev pub PlaceFits : (globals names : ℕ) → Place → Type 0
PlaceFits globals names (Local level) = level < names
PlaceFits globals names (Own i) = i < globals
PlaceFits globals names Nowhere = Unit {0}

abbrev pub PlacesFit : (globals names : ℕ) → List Place → Type 0
PlacesFit globals names [] = Unit {0}
PlacesFit globals names (p ∷ places) = PlaceFits globals names p × PlacesFit globals names places

abbrev pub ExitsFit : (labels : ℕ) → List ℕ → Type 0
ExitsFit labels [] = Unit {0}
ExitsFit labels (l ∷ exits) = (l < labels) × ExitsFit labels exits

-- a scope whose names and labels are there
pub record Fits (globals : ℕ) (s : Scope) : Type 0 where
  pub places : PlacesFit globals s.names s.places
  pub exits : ExitsFit s.labels s.exits

module _ (globals : ℕ) (table : List (Group Body)) where
  abbrev pub Formed : Bool → ℕ → ℕ → core.Exp → Type 0
  Formed shared names labels c = FormedExp (size_at table) (sees_at table) globals (length table) shared names labels c

  abbrev pub EachFormed : ℕ → List Body → Type 0
  EachFormed names [] = Unit {0}
  EachFormed names (b ∷ bodies) = Formed false (b.parameters + names) 0 b.expression × EachFormed names bodies

  -- each group, whose functions know each other and what it sees
  abbrev pub GroupsFormed : List (Group Body) → Type 0
  GroupsFormed [] = Unit {0}
  GroupsFormed (g ∷ gs) = EachFormed (length g.bodies + g.sees) g.bodies × GroupsFormed gs

-- code of an expression, where the groups stand in a table
abbrev pub ExpressionsAreFormed : Type 0
ExpressionsAreFormed =
    (globals : ℕ) (table : List (Group Body)) (b : Bool) (s : Scope) (e : Exp) (c : core.Exp) → Elaborates table b s e c → Fits globals s → Shaped e → Formed globals table b s.names s.labels c

-- the bodies of a group that is in scope
abbrev pub BodiesAreFormed : Type 0
BodiesAreFormed =
    (globals : ℕ) (table : List (Group Body)) (s : Scope) (fns : Functions) (bodies : List Body) → ElaboratesFunctions table s fns bodies → Fits globals s → ShapedFunctions fns → EachFormed globals table s.names bodies

-- the groups that an expression makes, where they stand in the table from a number on
abbrev pub GroupsAreFormed : Type 0
GroupsAreFormed =
    (globals : ℕ) (table : List (Group Body)) (b : Bool) (s : Scope) (n : ℕ) (e : Exp) → Stands b s e → HasGroups table n (elaborate s n e).groups → Fits globals s → Shaped e → GroupsFormed globals table (elaborate s n e).groups

-- those that the bodies of functions make
abbrev pub InnerGroupsAreFormed : Type 0
InnerGroupsAreFormed =
    (globals : ℕ) (table : List (Group Body)) (s : Scope) (n : ℕ) (fns : Functions) → StandFunctions s fns → HasGroups table n (elaborate_functions s n fns).groups → Fits globals s → ShapedFunctions fns
    → GroupsFormed globals table (elaborate_functions s n fns).groups

-- the scope of a start, of an actor with so many methods and stable variables
abbrev pub StartsFit : Type 0
StartsFit = (globals methods kept : ℕ) → suc methods ≤ globals → Fits globals (start_scope methods kept)
