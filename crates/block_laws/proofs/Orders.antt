-- What is evaluated in order.
use Rattle.std.proofs.Common.{◌≡◌, ℕ, Bool, true, false, List, [], ◌∷◌, ◌++◌, Option, Some, None, refl, ap}
use Rattle.mo_types.specs.declared.node.TypeId.{TypeId}
use Rattle.mo_types.specs.Graph.{Slot}
use Rattle.subtype_laws.specs.Reached.{Among}
use Rattle.typing_rules.specs.AbstractSyntax.{Declaration, Declarations, Expression}
use Rattle.typing_rules.specs.AbstractSyntax as p
use Rattle.typing_rules.specs.AsyncPlaces.{Other}
use Rattle.typing_rules.specs.Contexts.{Context, directly, with_values}
use Rattle.typing_rules.specs.Definitions.{Definitions}
use Rattle.typing_rules.specs.Expressions.{Judge, JudgeOne, JudgeOrder}
use Rattle.typing_rules.specs.Lists.{EndsList, of_expression}
use Rattle.typing_rules.specs.Terms.{Term, unit}
use Rattle.desugaring.specs.FreeNames.{occurring}
use Rattle.desugaring_laws.specs.GraphOf.{IsGraphOf}
use Rattle.desugaring_laws.specs.Known.{IsKnown}
use Rattle.desugaring_laws.specs.Yields.{Yields}
use Rattle.desugaring_laws.proofs.Graph.{below_number}
use Rattle.desugaring_laws.proofs.Patterns.{unit_fine}
use Rattle.desugaring_laws.proofs.Yielding.{anything, part as after}
use Rattle.expression_laws.specs.Results.{IsWantFine}
use Rattle.expression_laws.proofs.BoundNames.{both}
use Rattle.declaration_laws.specs.Made.{ValueMade, OneMade}
use Rattle.declaration_laws.proofs.Lets.{lets_are_typed}
use Rattle.declaration_laws.proofs.Objects.{named_objects_are_typed}
use Rattle.declaration_laws.proofs.Values.{values_are_typed}
use Rattle.declaration_laws.proofs.Variables.{variables_are_typed, stable_variables_are_typed}
use Rattle.block_laws.specs.Bound.{IsBoundSo}
use Rattle.block_laws.specs.Laws.{OrdersAreMade}
use Rattle.block_laws.specs.Lists.{IsReady, AreReady, IsEvaluated, EndsAs, OrderMade}
use Rattle.block_laws.proofs.Bounds.{one_bound}

module _ (defs : Definitions) (slots : List Slot) (terms : List Term) (number : Term → TypeId) (graph : IsGraphOf defs slots terms number) (units : Among unit terms) (vs : List ℕ) (at : ℕ) (value : Bool) (w : Option Term)
    (known : (u : Term) → w ≡ Some u → IsKnown defs terms vs u) where
  wanted_fine : (v : Option Term) → ((u : Term) → v ≡ Some u → IsKnown defs terms vs u) → IsWantFine defs vs v
  wanted_fine None h = tt
  wanted_fine (Some u) h = (h u refl).fine

  -- what is wanted of an expression of the list
  next_fine : (b : Bool) (rest : Declarations ℕ) → IsWantFine defs vs (of_expression b rest w)
  next_fine true p.End = wanted_fine w known
  next_fine true (p.Then public n d rest) = unit_fine defs vs
  next_fine false rest = unit_fine defs vs

  -- an expression binds no name
  binds_none : (e : Context) (n : ℕ) (a : Expression ℕ) (v : Option Term) → Yields defs terms (JudgeOne defs (directly Other e) n (p.Evaluate a) v) (λ one. one.scope ≡ [])
  binds_none e n a v = after defs terms (Judge defs (directly Other e) a v) _ (λ b. Unit {0}) (λ one. one.scope ≡ []) (anything defs terms (Judge defs (directly Other e) a v)) (λ b i. refl)

  one_made : (e : Context) (n : ℕ) (d : Declaration ℕ) (v : Option Term) → IsReady defs slots terms number e.types d → IsWantFine defs vs v
      → Yields defs terms (JudgeOne defs (directly Other e) n d v) (IsEvaluated defs slots terms number vs e d v)
  one_made e n (p.Let q a) v r k = lets_are_typed defs slots terms number graph units vs e n q a r.0 r.1 v
  one_made e n (p.Var false x u a) v r k = variables_are_typed defs slots terms number graph units vs e n x u a r v
  one_made e n (p.Var true x u a) v r k = stable_variables_are_typed defs slots terms number graph units vs e n x u a r v
  one_made e n (p.Func x g body) v r k = refl
  one_made e n (p.Method query context x g body) v r k = refl
  one_made e n (p.System x body) v r k = refl
  one_made e n (p.TypeAlias x parameters u) v r k = refl
  one_made e n (p.Class x g fields) v r k = refl
  one_made e n (p.NamedObject x fields) v r k = named_objects_are_typed defs slots terms number graph units vs e n x fields r v
  one_made e n (p.Evaluate a) v r k =
      both defs terms (JudgeOne defs (directly Other e) n (p.Evaluate a) v)
      (λ one. OneMade defs slots terms number (ValueMade defs slots terms number vs (occurring a) (directly Other e) v one.value) one) (λ one. one.scope ≡ [])
      (values_are_typed defs slots terms number graph units vs e n a r v k) (binds_none e n a v)

  -- the type at the end of the list
  ends : (last v : Option Term) → ((u : Term) → v ≡ Some u → IsKnown defs terms vs u) → Yields defs terms (EndsList at last v) (EndsAs defs slots terms number last v)
  ends (Some u) v h = refl
  ends None None h = λ m. (refl, tt)
  ends None (Some u) h = λ m. ((λ below. (refl, below_number defs slots terms number graph unit u m (h u refl).there below)), λ no. tt)

  pub order_made : (e : Context) (ds : Declarations ℕ) (last : Option Term) → AreReady defs slots terms number e.types ds
      → Yields defs terms (JudgeOrder defs (directly Other e) at value ds last w) (OrderMade defs slots terms number vs value e ds last w)
  order_made e p.End last r =
      after defs terms (EndsList at last w) _ (EndsAs defs slots terms number last w) (OrderMade defs slots terms number vs value e p.End last w) (ends last w known) (λ u i.
      record { given = []; evaluated = tt; bound = tt; known_is = refl; made_is = refl; type_is = i })
  order_made e (p.Then public n d rest) last r =
      let v = of_expression value rest w in
      after defs terms (JudgeOne defs (directly Other e) n d v) _ (λ one. IsEvaluated defs slots terms number vs e d v one × IsBoundSo e.types d one) (OrderMade defs slots terms number vs value e (p.Then public n d rest) last w)
      (both defs terms (JudgeOne defs (directly Other e) n d v) (IsEvaluated defs slots terms number vs e d v) (IsBoundSo e.types d) (one_made e n d v r.0 (next_fine value rest)) (one_bound defs terms e n d v)) (λ one i.
      after defs terms (JudgeOrder defs (directly Other (with_values one.scope e)) at value rest one.value w) _ (OrderMade defs slots terms number vs value (with_values one.scope e) rest one.value w)
      (OrderMade defs slots terms number vs value e (p.Then public n d rest) last w) (order_made (with_values one.scope e) rest one.value r.1) (λ run j.
      record { given = one ∷ j.given; evaluated = (i.0, j.evaluated); bound = (i.1, j.bound); known_is = j.known_is; made_is = ap (λ ms. one.made ++ ms) j.made_is; type_is = j.type_is }))

pub orders_are_made : OrdersAreMade
orders_are_made defs slots terms number graph units vs at value w known e ds last r = order_made defs slots terms number graph units vs at value w known e ds last r
