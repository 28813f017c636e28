-- Whole lists: types, signatures, what is evaluated in order, and bodies.
use Rattle.std.proofs.Common.{◌≡◌, ℕ, Bool, List, Option, Some, None, sym, subst}
use Rattle.mo_types.specs.declared.node.TypeId.{TypeId}
use Rattle.mo_types.specs.Graph.{Slot}
use Rattle.subtype_laws.specs.Reached.{Among}
use Rattle.typing_rules.specs.AbstractSyntax.{Declarations}
use Rattle.typing_rules.specs.AsyncPlaces.{Other}
use Rattle.typing_rules.specs.Contexts.{Scope, Context, directly, with_values, with_types}
use Rattle.typing_rules.specs.DeclaredTypes.{with_list}
use Rattle.typing_rules.specs.Definitions.{Definitions}
use Rattle.typing_rules.specs.Expressions.{JudgeOrder, JudgeBodies}
use Rattle.typing_rules.specs.Gathered.{in_list}
use Rattle.typing_rules.specs.Judgements.{Judgement, Gives, Part}
use Rattle.typing_rules.specs.Lists.{Entry as Given, Listed}
use Rattle.typing_rules.specs.Signatures.{Signatures, DefinitionsOf}
use Rattle.typing_rules.specs.Terms.{Term, unit}
use Rattle.typing_rules.specs.TypedTrees.{Note}
use Rattle.typing_rules.specs.TypeScopes.{TypeScope}
use Rattle.desugaring_laws.specs.GraphOf.{IsGraphOf}
use Rattle.desugaring_laws.specs.Known.{IsKnown}
use Rattle.desugaring_laws.specs.Scopes.{IsScopeFine, AreBoundsIn}
use Rattle.desugaring_laws.specs.Yields.{Yields}
use Rattle.desugaring_laws.proofs.Yielding.{part as after}
use Rattle.scope_laws.specs.Gathers.{Gathers}
use Rattle.scope_laws.proofs.Defining.{lists_stay_fine}
use Rattle.block_laws.specs.Laws.{ListsAreMade}
use Rattle.block_laws.specs.Lists.{signed, AreSigned, AreReady, OrderMade, AreMade, ListMade, in_scope, behind}
use Rattle.block_laws.proofs.Bodies.{bodies_are_made}
use Rattle.block_laws.proofs.Orders.{orders_are_made}
use Rattle.block_laws.proofs.Signing.{lists_are_signed}

module _ (defs : Definitions) (slots : List Slot) (terms : List Term) (number : Term → TypeId) (graph : IsGraphOf defs slots terms number) (units : Among unit terms) (vs : List ℕ) (at : ℕ) (value : Bool) (w : Option Term)
    (known : (u : Term) → w ≡ Some u → IsKnown defs terms vs u) (e : Context) (types : IsScopeFine defs vs e.types) (bounds : AreBoundsIn vs defs) (ds : Declarations ℕ) (gathers : Gathers defs (in_list (with_list e.types ds) ds))
    (ready : AreReady defs slots terms number (with_list e.types ds) ds) where
  abbrev inner : TypeScope
  inner = with_list e.types ds

  abbrev Whole : Term × Declarations Note → Type 0
  Whole = ListMade defs slots terms number vs value e ds w

  -- all that is known at the end
  abbrev end : List Given → Context
  end given = directly Other (record (in_scope e ds) { values = behind given (in_scope e ds).values })

  abbrev rest : Scope → Judgement (Term × Declarations Note)
  rest names = Part (JudgeOrder defs (with_values names (with_types (with_list e.types ds) (directly Other e))) at value ds None w) (λ run. Part (JudgeBodies defs run.known ds run.made) (λ made. Gives (run.type, made)))

  rest_made : IsScopeFine defs vs (with_list e.types ds) → AreSigned defs terms vs (with_list e.types ds) ds → Yields defs terms (rest (signed (with_list e.types ds) ds)) Whole
  rest_made fine so =
      after defs terms (JudgeOrder defs (directly Other (in_scope e ds)) at value ds None w) _ (OrderMade defs slots terms number vs value (in_scope e ds) ds None w) Whole
      (orders_are_made defs slots terms number graph units vs at value w known (in_scope e ds) ds None ready) (λ run j.
      let P = AreMade defs slots terms number vs (end j.given) value (in_scope e ds) ds w j.given in
      after defs terms (JudgeBodies defs run.known ds run.made) _ P Whole
      (subst (λ k. Yields defs terms (JudgeBodies defs k ds run.made) P) (sym j.known_is)
      (subst (λ ms. Yields defs terms (JudgeBodies defs (end j.given) ds ms) P) (sym j.made_is)
      (bodies_are_made defs slots terms number graph units vs value w (behind j.given (in_scope e ds).values) (in_scope e ds) ds j.given gathers ready so j.evaluated))) (λ made k.
      record { given = j.given; fine = fine; known = so; bound = j.bound; made = k; type_is = j.type_is }))

  pub list_made : Yields defs terms (Listed defs (directly Other e) ds (λ k. JudgeOrder defs k at value ds None w) (λ k made. JudgeBodies defs k ds made)) Whole
  list_made =
      after defs terms (DefinitionsOf defs inner ds) _ (λ u. IsScopeFine defs vs inner) Whole (lists_stay_fine defs terms vs e.types types ds gathers) (λ u fine.
      after defs terms (Signatures defs inner ds) _ (λ names. (names ≡ signed inner ds) × AreSigned defs terms vs inner ds) Whole
      (lists_are_signed defs slots terms number vs inner fine bounds ds gathers ready) (λ names i. subst (λ ns. Yields defs terms (rest ns) Whole) (sym i.0) (rest_made fine i.1)))

pub lists_are_made : ListsAreMade
lists_are_made defs slots terms number graph units vs at value w known e types bounds ds gathers ready = list_made defs slots terms number graph units vs at value w known e types bounds ds gathers ready
