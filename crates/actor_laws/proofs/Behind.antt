-- Public and system functions behind the declarations of an actor, and the forms of those.
use Rattle.std.proofs.Common.{◌≡◌, ℕ, false, List, [], ◌∷◌, ◌++◌, Option, Some, None, refl, sym, ap, ◌∙◌, subst}
use Rattle.mo_types.specs.declared.node.TypeId.{TypeId}
use Rattle.mo_types.specs.Graph.{Slot}
use Rattle.subtype_laws.specs.Reached.{Among}
use Rattle.typing_rules.specs.AbstractSyntax.{Declaration, Declarations}
use Rattle.typing_rules.specs.AbstractSyntax as p
use Rattle.typing_rules.specs.AsyncPlaces.{Local, Other}
use Rattle.typing_rules.specs.Contexts.{Scope, Context, directly, with_values, with_types, in_body}
use Rattle.typing_rules.specs.DeclaredTypes.{within, with_list}
use Rattle.typing_rules.specs.Definitions.{Definitions}
use Rattle.typing_rules.specs.Expressions.{Judge, JudgeOrder, JudgeBody, JudgeBodies}
use Rattle.typing_rules.specs.Gathered.{in_list}
use Rattle.typing_rules.specs.Judgements.{Judgement, Gives, Part}
use Rattle.typing_rules.specs.Lists.{Made, Entry as Given, TakesMade, Listed}
use Rattle.typing_rules.specs.PublicFields.{PublicFields}
use Rattle.typing_rules.specs.Signatures.{Parameters, Signatures, DefinitionsOf}
use Rattle.typing_rules.specs.Terms.{Term, unit}
use Rattle.typing_rules.specs.TypedTrees.{Note}
use Rattle.typing_rules.specs.TypeScopes.{TypeScope, term_or}
use Rattle.desugaring.specs.FreeNames.{occurring}
use Rattle.desugaring_laws.specs.GraphOf.{IsGraphOf}
use Rattle.desugaring_laws.specs.Scopes.{IsScopeFine, AreBoundsIn}
use Rattle.desugaring_laws.specs.Yields.{Yields}
use Rattle.desugaring_laws.proofs.Yielding.{anything, more, part as after}
use Rattle.expression_laws.proofs.BoundNames.{both}
use Rattle.scope_laws.specs.Gathers.{Gathers}
use Rattle.scope_laws.proofs.Defining.{lists_stay_fine}
use Rattle.declaration_laws.specs.Objects.{FieldsJudged}
use Rattle.block_laws.specs.Bound.{IsBoundSo, AreBoundSo}
use Rattle.block_laws.specs.Lists.{signed, IsSigned, AreSigned, AreReady, IsEvaluated, AreEvaluated, OrderMade, AreMade, method_term, in_scope, behind, made_of}
use Rattle.block_laws.proofs.Bodies.{bodies_are_made}
use Rattle.block_laws.proofs.Orders.{orders_are_made}
use Rattle.block_laws.proofs.Signing.{lists_are_signed}
use Rattle.method_laws.specs.Methods.{method_uses, MethodMade, SystemMade}
use Rattle.method_laws.proofs.Methods.{methods_are_typed, systems_are_typed}
use Rattle.actor_laws.specs.Actors.{IsReadyBehind, AreReadyBehind, IsBehind, AreBehind, ActorMade, ActorsAreMade}

none_wanted : {A : Type 0} (u : A) → None ≡ Some u → ⊥
none_wanted u h = cc

module _ (defs : Definitions) (slots : List Slot) (terms : List Term) (number : Term → TypeId) (graph : IsGraphOf defs slots terms number) (units : Among unit terms) (end : Context) where
  abbrev Took : Declaration ℕ → Given → List Made → Made × List Made → Type 0
  Took d one ms q = (q.1 ≡ ms) × IsBehind defs slots terms number end d one q.0

  -- one that was evaluated
  takes : (d : Declaration ℕ) (one : Given) (ms : List Made) → (P : Made → Type 0) → (m : Made) → one.made ≡ m ∷ [] → P m → Yields defs terms (TakesMade (one.made ++ ms)) (λ q. (q.1 ≡ ms) × P q.0)
  takes d one ms P m i k = subst (λ ns. Yields defs terms (TakesMade (ns ++ ms)) (λ q. (q.1 ≡ ms) × P q.0)) (sym i) (refl, k)

  one_behind : (e : Context) (n : ℕ) (d : Declaration ℕ) (v : Option Term) (one : Given) (ms : List Made) → IsEvaluated defs slots terms number [] e d v one → IsBoundSo end.types d one → IsSigned defs terms [] end.types d
      → IsReadyBehind defs slots terms number end.types d → Yields defs terms (JudgeBody defs end n d (one.made ++ ms)) (Took d one ms)
  one_behind e n (p.Let q a) v one ms i b k r = takes (p.Let q a) one ms (IsBehind defs slots terms number end (p.Let q a) one) b.2.0 b.2.1 b.2.2
  one_behind e n (p.Var stable x u a) v one ms i b k r = takes (p.Var stable x u a) one ms (IsBehind defs slots terms number end (p.Var stable x u a) one) b.2.0 b.2.1 b.2.2
  one_behind e n (p.NamedObject x fields) v one ms i b k r = takes (p.NamedObject x fields) one ms (IsBehind defs slots terms number end (p.NamedObject x fields) one) b.1.0 b.1.1 b.1.2
  one_behind e n (p.Evaluate a) v one ms i b k r = takes (p.Evaluate a) one ms (IsBehind defs slots terms number end (p.Evaluate a) one) b.0 b.1 b.2
  one_behind e n (p.TypeAlias x parameters u) v one ms i b k r = (ap (λ z. z.made ++ ms) i, tt)
  one_behind e n (p.Func x g body) v one ms i b k r =
      let P = Took (p.Func x g body) one ms in
      after defs terms (Parameters defs (within end.types g) g.parameters []) _ (λ ps. Unit {0}) P (anything defs terms (Parameters defs (within end.types g) g.parameters [])) (λ ps z.
      let j = Judge defs (in_body Local (Some (term_or (within end.types g) g.result unit)) ps.scope (with_types (within end.types g) end)) body (Some (term_or (within end.types g) g.result unit)) in
      after defs terms j _ (λ c. Unit {0}) P (anything defs terms j) (λ c y. (ap (λ z. z.made ++ ms) i, tt)))
  one_behind e n (p.Class x g fields) v one ms i b k r =
      let P = Took (p.Class x g fields) one ms in
      after defs terms (Parameters defs (within end.types g) g.parameters []) _ (λ ps. Unit {0}) P (anything defs terms (Parameters defs (within end.types g) g.parameters [])) (λ ps z.
      after defs terms (PublicFields fields) _ (λ y. Unit {0}) P (anything defs terms (PublicFields fields)) (λ y x'.
      let j = FieldsJudged defs (in_body Local None ps.scope (with_types (within end.types g) end)) n fields in
      after defs terms j _ (λ q. Unit {0}) P (anything defs terms j) (λ q w. (ap (λ z. z.made ++ ms) i, tt))))
  one_behind e n (p.Method query context x g body) v one ms i b k r =
      more defs terms (JudgeBody defs end n (p.Method query context x g body) (one.made ++ ms))
      (λ q. (q.1 ≡ one.made ++ ms) × MethodMade defs slots terms number (method_uses context g body) end query x (method_term end.types query g) q.0) (Took (p.Method query context x g body) one ms)
      (methods_are_typed defs slots terms number graph units end n (one.made ++ ms) query context x g body r.0 k.1 r.1) (λ q h. (h.0 ∙ ap (λ z. z.made ++ ms) i, h.1))
  one_behind e n (p.System x body) v one ms i b k r =
      more defs terms (JudgeBody defs end n (p.System x body) (one.made ++ ms)) (λ q. (q.1 ≡ one.made ++ ms) × SystemMade defs slots terms number (occurring body) end x q.0) (Took (p.System x body) one ms)
      (systems_are_typed defs slots terms number graph units end n (one.made ++ ms) x body r) (λ q h. (h.0 ∙ ap (λ z. z.made ++ ms) i, h.1))

  bodies_behind : (e : Context) (ds : Declarations ℕ) (given : List Given) → AreEvaluated defs slots terms number [] false e ds None given → AreBoundSo end.types ds given → AreSigned defs terms [] end.types ds → AreReadyBehind defs slots terms number end.types ds
      → Yields defs terms (JudgeBodies defs end ds (made_of given)) (AreBehind defs slots terms number end ds given)
  bodies_behind e p.End [] i b k r = tt
  bodies_behind e p.End (one ∷ given) i b k r = absurd i
  bodies_behind e (p.Then public n d rest) [] i b k r = absurd i
  bodies_behind e (p.Then public n d rest) (one ∷ given) i b k r =
      let P = AreBehind defs slots terms number end (p.Then public n d rest) (one ∷ given) in
      after defs terms (JudgeBody defs end n d (one.made ++ made_of given)) _ (Took d one (made_of given)) P (one_behind e n d (Some unit) one (made_of given) i.0 b.0 k.0 r.0) (λ q h.
      let Q = AreBehind defs slots terms number end rest given in
      after defs terms (JudgeBodies defs end rest q.1) _ Q P (subst (λ ms. Yields defs terms (JudgeBodies defs end rest ms) Q) (sym h.0) (bodies_behind (with_values one.scope e) rest given i.1 b.1 k.1 r.1)) (λ bs j. (h.1, j)))

module _ (defs : Definitions) (slots : List Slot) (terms : List Term) (number : Term → TypeId) (graph : IsGraphOf defs slots terms number) (units : Among unit terms) (at : ℕ) (e : Context) (types : IsScopeFine defs [] e.types) (bounds : AreBoundsIn [] defs)
    (ds : Declarations ℕ) (gathers : Gathers defs (in_list (with_list e.types ds) ds)) (ready : AreReady defs slots terms number (with_list e.types ds) ds) (ready_behind : AreReadyBehind defs slots terms number (with_list e.types ds) ds) where
  abbrev inner : TypeScope
  inner = with_list e.types ds

  abbrev Whole : Term × Declarations Note → Type 0
  Whole = ActorMade defs slots terms number e ds

  abbrev end_of : List Given → Context
  end_of given = directly Other (record (in_scope e ds) { values = behind given (in_scope e ds).values })

  abbrev rest : Scope → Judgement (Term × Declarations Note)
  rest names = Part (JudgeOrder defs (with_values names (with_types (with_list e.types ds) (directly Other e))) at false ds None None) (λ run. Part (JudgeBodies defs run.known ds run.made) (λ made. Gives (run.type, made)))

  rest_made : IsScopeFine defs [] (with_list e.types ds) → AreSigned defs terms [] (with_list e.types ds) ds → Yields defs terms (rest (signed (with_list e.types ds) ds)) Whole
  rest_made fine so =
      after defs terms (JudgeOrder defs (directly Other (in_scope e ds)) at false ds None None) _ (OrderMade defs slots terms number [] false (in_scope e ds) ds None None) Whole
      (orders_are_made defs slots terms number graph units [] at false None (λ u h. absurd (none_wanted u h)) (in_scope e ds) ds None ready) (λ run j.
      let P = λ (made : Declarations Note). AreMade defs slots terms number [] (end_of j.given) false (in_scope e ds) ds None j.given made × AreBehind defs slots terms number (end_of j.given) ds j.given made in
      after defs terms (JudgeBodies defs run.known ds run.made) _ P Whole
      (subst (λ k. Yields defs terms (JudgeBodies defs k ds run.made) P) (sym j.known_is)
      (subst (λ ms. Yields defs terms (JudgeBodies defs (end_of j.given) ds ms) P) (sym j.made_is)
      (both defs terms (JudgeBodies defs (end_of j.given) ds (made_of j.given)) (AreMade defs slots terms number [] (end_of j.given) false (in_scope e ds) ds None j.given) (AreBehind defs slots terms number (end_of j.given) ds j.given)
      (bodies_are_made defs slots terms number graph units [] false None (behind j.given (in_scope e ds).values) (in_scope e ds) ds j.given gathers ready so j.evaluated)
      (bodies_behind defs slots terms number graph units (end_of j.given) (in_scope e ds) ds j.given j.evaluated j.bound so ready_behind)))) (λ made k.
      record { list = record { given = j.given; fine = fine; known = so; bound = j.bound; made = k.0; type_is = j.type_is }; behind_list = k.1 }))

  actor_made : Yields defs terms (Listed defs (directly Other e) ds (λ k. JudgeOrder defs k at false ds None None) (λ k made. JudgeBodies defs k ds made)) Whole
  actor_made =
      after defs terms (DefinitionsOf defs inner ds) _ (λ u. IsScopeFine defs [] inner) Whole (lists_stay_fine defs terms [] e.types types ds gathers) (λ u fine.
      after defs terms (Signatures defs inner ds) _ (λ names. (names ≡ signed inner ds) × AreSigned defs terms [] inner ds) Whole
      (lists_are_signed defs slots terms number [] inner fine bounds ds gathers ready) (λ names i. subst (λ ns. Yields defs terms (rest ns) Whole) (sym i.0) (rest_made fine i.1)))

pub actors_are_made : ActorsAreMade
actors_are_made defs slots terms number graph units at e types bounds ds gathers ready behind_ready = actor_made defs slots terms number graph units at e types bounds ds gathers ready behind_ready
