-- Bodies of functions and classes, behind what was evaluated in order.
use Rattle.std.proofs.Common.{◌≡◌, ℕ, Bool, true, false, List, [], ◌∷◌, ◌++◌, Option, Some, refl, sym, ap, subst}
use Rattle.mo_types.specs.declared.node.TypeId.{TypeId}
use Rattle.mo_types.specs.Graph.{Slot}
use Rattle.subtype_laws.specs.Reached.{Among}
use Rattle.typing_rules.specs.AbstractSyntax.{Declaration, Declarations}
use Rattle.typing_rules.specs.AbstractSyntax as p
use Rattle.typing_rules.specs.AsyncPlaces.{Local, Other, body_of}
use Rattle.typing_rules.specs.Contexts.{Scope, Context, directly, with_values, in_body}
use Rattle.typing_rules.specs.DeclaredTypes.{within}
use Rattle.typing_rules.specs.Definitions.{Definitions}
use Rattle.typing_rules.specs.Expressions.{Judge, JudgeBody, JudgeBodies}
use Rattle.typing_rules.specs.Gathered.{of_generics, in_list, in_expression, in_declaration as gathered_in}
use Rattle.typing_rules.specs.Lists.{Made, Entry as Given, no_entry, TakesMade, of_expression}
use Rattle.typing_rules.specs.Signatures.{Parameters, ContextOf, async_term}
use Rattle.typing_rules.specs.Terms.{Term, unit}
use Rattle.desugaring.specs.Expressions.{becomes}
use Rattle.desugaring.specs.FreeNames.{occurring}
use Rattle.desugaring.specs.Pieces.{Becomes}
use Rattle.desugaring_laws.specs.GraphOf.{IsGraphOf}
use Rattle.desugaring_laws.specs.Yields.{Yields}
use Rattle.desugaring_laws.proofs.Yielding.{anything, more, part as after}
use Rattle.scope_laws.specs.Gathers.{Gathers}
use Rattle.scope_laws.proofs.Parts.{left_part, right_part}
use Rattle.declaration_laws.specs.Made.{ValueMade, OneMade}
use Rattle.declaration_laws.proofs.Classes.{classes_are_typed}
use Rattle.declaration_laws.proofs.Functions.{declared_functions_are_typed}
use Rattle.block_laws.specs.Laws.{BodiesAreMade}
use Rattle.block_laws.specs.Lists.{IsSigned, AreSigned, IsReady, AreReady, IsEvaluated, AreEvaluated, IsMade, AreMade, made_of}

module _ (defs : Definitions) (slots : List Slot) (terms : List Term) (number : Term → TypeId) where
  -- the one declaration that was given
  pub record Only (P : Becomes → Type 0) (ms : List Made) : Type 0 where
    pub one : Made
    pub made_is : ms ≡ one ∷ []
    pub so : P (becomes defs number one.0 one.1)

  only_of : (P : Becomes → Type 0) (s : Scope) (v : Option Term) (ms : List Made) → OneMade defs slots terms number P (record { scope = s; value = v; made = ms }) → Only P ms
  only_of P s v [] h = absurd h
  only_of P s v (d ∷ []) h = record { one = d; made_is = refl; so = h }
  only_of P s v (d ∷ c ∷ ms) h = absurd h

  only : (P : Becomes → Type 0) (g : Given) → OneMade defs slots terms number P g → Only P g.made
  only P g h = only_of P g.scope g.value g.made h

  abbrev Took : (Becomes → Type 0) → List Made → Made × List Made → Type 0
  Took P ms q = (q.1 ≡ ms) × P (becomes defs number q.0.0 q.0.1)

  -- it is taken, and the others are left
  takes : (P : Becomes → Type 0) (given ms : List Made) → Only P given → Yields defs terms (TakesMade (given ++ ms)) (Took P ms)
  takes P given ms i = subst (λ ns. Yields defs terms (TakesMade (ns ++ ms)) (Took P ms)) (sym i.made_is) (refl, i.so)

module _ (defs : Definitions) (slots : List Slot) (terms : List Term) (number : Term → TypeId) (graph : IsGraphOf defs slots terms number) (units : Among unit terms) (vs : List ℕ) (value : Bool) (w : Option Term) (known : Scope) where
  abbrev end : Context → Context
  end e = directly Other (record e { values = known })

  -- none is given of one that is not evaluated in order
  abbrev Left : Context → Declaration ℕ → Option Term → Given → List Made → Made × List Made → Type 0
  Left e d v one ms q = (q.1 ≡ ms) × IsMade defs slots terms number vs (end e) e d v one (becomes defs number q.0.0 q.0.1)

  body_made : (e : Context) (n : ℕ) (d : Declaration ℕ) (v : Option Term) (one : Given) (ms : List Made) → Gathers defs (gathered_in e.types d) → IsReady defs slots terms number e.types d → IsSigned defs terms vs e.types d
      → IsEvaluated defs slots terms number vs e d v one → Yields defs terms (JudgeBody defs (end e) n d (one.made ++ ms)) (Left e d v one ms)
  body_made e n (p.Let q a) v one ms g r k i = takes defs slots terms number (λ b. IsMade defs slots terms number vs (end e) e (p.Let q a) v one b) one.made ms (only defs slots terms number (λ b. IsMade defs slots terms number vs (end e) e (p.Let q a) v one b) one i)
  body_made e n (p.Var false x u a) v one ms g r k i =
      takes defs slots terms number (λ b. IsMade defs slots terms number vs (end e) e (p.Var false x u a) v one b) one.made ms (only defs slots terms number (λ b. IsMade defs slots terms number vs (end e) e (p.Var false x u a) v one b) one i)
  body_made e n (p.Var true x u a) v one ms g r k i =
      takes defs slots terms number (λ b. IsMade defs slots terms number vs (end e) e (p.Var true x u a) v one b) one.made ms (only defs slots terms number (λ b. IsMade defs slots terms number vs (end e) e (p.Var true x u a) v one b) one i)
  body_made e n (p.NamedObject x fields) v one ms g r k i =
      takes defs slots terms number (λ b. IsMade defs slots terms number vs (end e) e (p.NamedObject x fields) v one b) one.made ms (only defs slots terms number (λ b. IsMade defs slots terms number vs (end e) e (p.NamedObject x fields) v one b) one i)
  body_made e n (p.Evaluate a) v one ms g r k i =
      let P = λ (b : Becomes). IsMade defs slots terms number vs (end e) e (p.Evaluate a) v one b in
      let o = only defs slots terms number (λ b. ValueMade defs slots terms number vs (occurring a) (directly Other e) v one.value b) one i.0 in
      takes defs slots terms number P one.made ms (record { one = o.one; made_is = o.made_is; so = (o.so, i.1) })
  body_made e n (p.Func x g body) v one ms gathers r k i =
      subst (λ z. Yields defs terms (JudgeBody defs (end e) n (p.Func x g body) (z.made ++ ms)) (Left e (p.Func x g body) v z ms)) (sym i)
      (more defs terms (JudgeBody defs (end e) n (p.Func x g body) ms) _ (Left e (p.Func x g body) v no_entry ms)
      (declared_functions_are_typed defs slots terms number graph units vs (end e) n ms x g body r.0 (left_part defs (of_generics (within e.types g) g.generics) (in_expression (within e.types g) body) gathers) r.1 k.1 k.0 r.2)
      (λ q h. (h.0, (h.1, refl))))
  body_made e n (p.Method query context x g body) v one ms gathers r k i =
      let P = Left e (p.Method query context x g body) v one ms in
      after defs terms (ContextOf defs e.types context) _ (λ c. Unit {0}) P (anything defs terms (ContextOf defs e.types context)) (λ c z.
      after defs terms (Parameters defs e.types g.parameters []) _ (λ ps. Unit {0}) P (anything defs terms (Parameters defs e.types g.parameters [])) (λ ps y.
      let j = Judge defs (in_body (body_of query) (Some (async_term e.types g.result)) (ps.scope ++ c.0) (end e)) body (Some (async_term e.types g.result)) in
      after defs terms j _ (λ b. Unit {0}) P (anything defs terms j) (λ b h. (ap (λ z. z.made ++ ms) i, (refl, ap (λ z. z.scope) i)))))
  body_made e n (p.System x body) v one ms gathers r k i =
      let j = Judge defs (in_body Local (Some unit) [] (end e)) body (Some unit) in
      after defs terms j _ (λ b. Unit {0}) (Left e (p.System x body) v one ms) (anything defs terms j) (λ b h. (ap (λ z. z.made ++ ms) i, (refl, ap (λ z. z.scope) i)))
  body_made e n (p.TypeAlias x parameters u) v one ms gathers r k i = (ap (λ z. z.made ++ ms) i, (refl, ap (λ z. z.scope) i))
  body_made e n (p.Class x g fields) v one ms gathers r k i =
      subst (λ z. Yields defs terms (JudgeBody defs (end e) n (p.Class x g fields) (z.made ++ ms)) (Left e (p.Class x g fields) v z ms)) (sym i)
      (more defs terms (JudgeBody defs (end e) n (p.Class x g fields) ms) _ (Left e (p.Class x g fields) v no_entry ms)
      (classes_are_typed defs slots terms number graph units vs (end e) n ms x g fields r.0 gathers r.1 k.1 k.0 r.2)
      (λ q h. (h.0, (h.1, refl))))

  pub bodies_made : (e : Context) (ds : Declarations ℕ) (given : List Given) → Gathers defs (in_list e.types ds) → AreReady defs slots terms number e.types ds → AreSigned defs terms vs e.types ds
      → AreEvaluated defs slots terms number vs value e ds w given → Yields defs terms (JudgeBodies defs (end e) ds (made_of given)) (AreMade defs slots terms number vs (end e) value e ds w given)
  bodies_made e p.End [] g r k i = tt
  bodies_made e p.End (one ∷ given) g r k i = absurd i
  bodies_made e (p.Then public n d rest) [] g r k i = absurd i
  bodies_made e (p.Then public n d rest) (one ∷ given) g r k i =
      let v = of_expression value rest w in
      let P = AreMade defs slots terms number vs (end e) value e (p.Then public n d rest) w (one ∷ given) in
      after defs terms (JudgeBody defs (end e) n d (one.made ++ made_of given)) _ (Left e d v one (made_of given)) P
      (body_made e n d v one (made_of given) (left_part defs (gathered_in e.types d) (in_list e.types rest) g) r.0 k.0 i.0) (λ q h.
      let Q = AreMade defs slots terms number vs (end e) value (with_values one.scope e) rest w given in
      after defs terms (JudgeBodies defs (end e) rest q.1) _ Q P
      (subst (λ ms. Yields defs terms (JudgeBodies defs (end e) rest ms) Q) (sym h.0)
      (bodies_made (with_values one.scope e) rest given (right_part defs (gathered_in e.types d) (in_list e.types rest) g) r.1 k.1 i.1)) (λ bs j. (refl, h.1, j)))

pub bodies_are_made : BodiesAreMade
bodies_are_made defs slots terms number graph units vs value w known e ds given g r k i = bodies_made defs slots terms number graph units vs value w known e ds given g r k i
