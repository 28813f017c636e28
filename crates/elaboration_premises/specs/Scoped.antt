-- The scope in which an expression of a typed tree is elaborated: each name that it may use has a place there (Motoko language manual, section
-- "Declarations").
use Rattle.std.specs.Prelude.{◌≡◌, ◌≢◌, Bool, true, List, [], ◌∷◌}
use Rattle.mo_types.specs.declared.node.Sort.TheVariants as sort
use Rattle.mo_types.specs.declared.node.TypeId.{TypeId}
use Rattle.mo_types.specs.Graph.{Slot}
use Rattle.typed_tree.specs.declared.action.Action.{Action}
use Rattle.typed_tree.specs.declared.action.Action.TheVariants as action
use Rattle.typed_tree.specs.declared.action.Member.TheVariants as member
use Rattle.typed_tree.specs.declared.expression.TypedExpression.{TypedExpression}
use Rattle.typed_tree.specs.ActionTypes.{Context}
use Rattle.typed_tree.specs.Language.{Exp, Exps, Cases, Functions, Val, Name, Do, If, Switch, Group, Frame, Label, While, Repeat, For, Try, Update, NoExp, AnExp, NoCase, ACase, NoFunction, AFunction}
use Rattle.typed_tree.specs.Typing.{Typed}
use Rattle.typed_tree.specs.View.{expression}
use Rattle.typed_tree.specs.Wants.{Want, Anything}
use Rattle.elaboration.specs.Scopes.{Place, Nowhere, Scope}
use Rattle.elaboration_forms.specs.Elaborates.{IsPlace, Stands}

-- ---- names

-- what a name stands for that is used
abbrev pub IsUsed : Want TypeId → Type 0
IsUsed Anything = ⊥
IsUsed w = Unit {0}

abbrev pub nearest : List Place → Place
nearest [] = Nowhere
nearest (p ∷ places) = p

abbrev pub others : List Place → List Place
others [] = []
others (p ∷ places) = places

-- each name that is used has a place
abbrev pub Seen : List (Want TypeId) → List Place → Type 0
Seen [] places = Unit {0}
Seen (w ∷ ws) places = (IsUsed w → IsPlace (nearest places)) × Seen ws (others places)

-- in such a scope, where errors and awaits stand only if the body may have them
abbrev pub Sees : Context → Bool → Scope → Type 0
Sees c b s = Seen c.names s.places × ((c.body ≢ sort.Local) → b ≡ true)

-- ---- `next` of an iterator is made by built-in functions alone, and not written

abbrev pub IsWritten : Action → Type 0
IsWritten (action.BuiltIn member.NextVal) = ⊥
IsWritten (action.BuiltIn member.NextKey) = ⊥
IsWritten (action.BuiltIn member.NextChar) = ⊥
IsWritten a = Unit {0}

abbrev mutual
  pub Written : Exp → Type 0
  Written (Val v) = Unit {0}
  Written (Name x) = Unit {0}
  Written (Do a es) = IsWritten a × WrittenAll es
  Written (If c a b) = Written c × Written a × Written b
  Written (Switch e cases) = Written e × WrittenCases cases
  Written (Group fns b) = WrittenFunctions fns × Written b
  Written (Frame n e) = Written e
  Written (Label e) = Written e
  Written (While c b) = Written c × Written b
  Written (Repeat b c) = Written b × Written c
  Written (For p e b) = Written e × Written b
  Written (Try e p b) = Written e × Written b
  Written (Update o e f) = Written e × Written f

  pub WrittenAll : Exps → Type 0
  WrittenAll NoExp = Unit {0}
  WrittenAll (AnExp e es) = Written e × WrittenAll es

  pub WrittenCases : Cases → Type 0
  WrittenCases NoCase = Unit {0}
  WrittenCases (ACase p e cases) = Written e × WrittenCases cases

  pub WrittenFunctions : Functions → Type 0
  WrittenFunctions NoFunction = Unit {0}
  WrittenFunctions (AFunction how n ps body fns) = Written body × WrittenFunctions fns

-- ---- laws

-- a typed tree is as elaboration asks, in each scope with a place for each of its names
abbrev pub TreesStand : Type 0
TreesStand =
    (types : List Slot) (e : TypedExpression) (c : Context) (w : Want TypeId) → Typed types e c w → (b : Bool) (s : Scope) → Sees c b s → Written (expression e) → Stands b s (expression e)
