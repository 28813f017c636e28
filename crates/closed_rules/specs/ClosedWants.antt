-- What names stand for and expressions give, where types come to others (Motoko language manual, section "Type parameters").
use Rattle.std.specs.Prelude.{List, [], map}
use Rattle.mo_types.specs.declared.node.TypeId.{TypeId}
use Rattle.mo_values.specs.declared.operation.Operation.{Operation}
use Rattle.mo_values.specs.declared.operation.Operation.TheVariants as op
use Rattle.typed_tree.specs.declared.action.Action.{Action}
use Rattle.typed_tree.specs.declared.action.Action.TheVariants as action
use Rattle.typed_tree.specs.ActionTypes.{Context}
use Rattle.typed_tree.specs.Wants.{Want, Anything, Of, CellOf, FutureOf, KeptOf, Generic}

module _ {A B : Type 0} (close : A → B) where
  abbrev pub close_want : Want A → Want B
  close_want Anything = Anything
  close_want (Of t) = Of (close t)
  close_want (CellOf t) = CellOf (close t)
  close_want (FutureOf t) = FutureOf (close t)
  close_want (KeptOf t) = KeptOf (close t)
  close_want (Generic vs t) = Generic vs (close t)

  abbrev pub close_wants : List (Want A) → List (Want B)
  close_wants ws = map close_want ws

-- no type parameters are in scope any more
abbrev pub close_context : (TypeId → TypeId) → Context → Context
close_context close c = record { names = close_wants close c.names; labels = map close c.labels; body = c.body; parameters = [] }

-- it does not go by a type that it names
abbrev pub NamesNoType : Operation → Type 0
NamesNoType (op.Equal t) = ⊥
NamesNoType (op.Unequal t) = ⊥
NamesNoType _ = Unit {0}

-- the same of an action
abbrev pub ActsOnNoType : Action → Type 0
ActsOnNoType (action.Operate o) = NamesNoType o
ActsOnNoType (action.Send ps rs) = ⊥
ActsOnNoType _ = Unit {0}
