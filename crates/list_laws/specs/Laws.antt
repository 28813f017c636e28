-- A list of declarations is written out to typed ones.
use Rattle.std.specs.Prelude.{◌≡◌, ℕ, zero, suc, Bool, List, length, map, Option, Some, None}
use Rattle.mo_scopes.specs.Scopes.{named}
use Rattle.mo_types.specs.declared.node.TypeId.{TypeId}
use Rattle.mo_types.specs.Graph.{Slot}
use Rattle.subtype_laws.specs.Reached.{Among}
use Rattle.typed_tree.specs.declared.expression.TypedExpression.{TypedExpression}
use Rattle.typed_tree.specs.ActionTypes.{Context}
use Rattle.typed_tree.specs.Typing.{Typed}
use Rattle.typed_tree.specs.Wants.{Want}
use Rattle.typed_tree.specs.WellTyped.{AllDeclare}
use Rattle.typing_rules.specs.AbstractSyntax.{Bytes}
use Rattle.typing_rules.specs.AsyncPlaces.{Body}
use Rattle.typing_rules.specs.Contexts.{Bound, Scope}
use Rattle.typing_rules.specs.Definitions.{Definitions}
use Rattle.typing_rules.specs.Terms.{Term}
use Rattle.desugaring.specs.Frames.{Frame}
use Rattle.desugaring.specs.Pieces.{Piece, Arranged, arranged}
use Rattle.list_laws.specs.Facts.{Fact, Stands, At, AreFacts}

-- the declarations are typed one after the other, and behind them stands the value of the list, or all of its names
module _ (slots : List Slot) (pieces : List Piece) (There : ℕ → ℕ → Frame → Context → Type 0) (of_list : Want TypeId) where
  abbrev pub Ends : Option TypedExpression → Frame → Context → Type 0
  Ends None f d = There (suc (length pieces)) (length pieces) f d
  Ends (Some e) f d = Typed slots e d of_list

  pub record Walked (a : Arranged) (c : Context) : Type 0 where
    pub end : Context
    pub declared : AllDeclare slots c a.steps end
    pub ends : Ends a.last a.frame end

-- A list whose declarations are typed wherever their names stand, and use names only where they stand, is typed in the order of evaluation: each group of functions
-- directly behind the last declaration that it reaches.
abbrev pub ListsAreTyped : Type 0
ListsAreTyped =
    (defs : Definitions) (slots : List Slot) (terms : List Term) (number : Term → TypeId) (body : Body) (base : Scope) (f : Frame) (c : Context) (outer : List Bytes) (facts : List Fact) (pieces : List Piece)
    (has_value : Bool) (of_list : Want TypeId) → AreFacts defs slots terms number body base f c outer facts (map (λ b. b.declared) pieces) pieces has_value of_list zero pieces facts
    → ((y : Bytes) → Among y outer → (b : Bound) → named base y ≡ Some b → Stands defs slots terms number body base f c outer facts f c y b)
    → Walked slots pieces (At defs slots terms number body base f c outer facts) of_list (arranged has_value pieces f) c
