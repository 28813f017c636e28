-- What an expression comes to by reductions that go on by themselves (Motoko language manual, section "Expressions").
use Rattle.std.specs.Prelude.{◌≡◌, None}
use Rattle.mo_types.specs.declared.node.Node.{Node}
use Rattle.mo_types.specs.declared.node.TypeId.{TypeId}
use Rattle.mo_values.specs.Costs.{Cost}
use Rattle.mo_values.specs.Shapes.{Bytes}
use Rattle.typed_tree.specs.Language.{Exp}
use Rattle.mo_meaning.specs.Acts.{Store, Goes, Prints}
use Rattle.mo_meaning.specs.Reduce.{reduce}

module _ (head : TypeId → Node TypeId) where
  -- from this store and expression to those
  pub data Reaches : Store → Exp → Store → Exp → Type 0 where
    Here : {store : Store} → {e : Exp} → Reaches store e store e
    On : {store next last : Store} → {e f g : Exp} → {cost : Cost} → reduce head None store e ≡ Goes cost next f → Reaches next f last g → Reaches store e last g
    Printing : {store last : Store} → {e f g : Exp} → {cost : Cost} → {text : Bytes} → reduce head None store e ≡ Prints cost text f → Reaches store f last g → Reaches store e last g
