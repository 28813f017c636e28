-- What is made of declarations is known of them in their list.
use Rattle.std.proofs.Common.{◌≡◌, inr, ℕ, zero, Bool, true, false, List, [], ◌∷◌, ◌++◌, length, map, Option, Some, None, refl, sym, ap, ◌∙◌, subst}
use Rattle.std.specs.Prelude.{slice_get}
use Rattle.mo_types.specs.declared.node.Node.TheVariants as node
use Rattle.mo_types.specs.declared.node.Sort.TheVariants as sort
use Rattle.mo_types.specs.declared.node.TypeId.{TypeId}
use Rattle.mo_types.specs.Graph.{Slot, head_at}
use Rattle.typed_tree.specs.ActionTypes as typed
use Rattle.typed_tree.specs.Typing.{Signature, Typed, generic as stands_for}
use Rattle.typed_tree.specs.Wants.{Of}
use Rattle.typing_rules.specs.AbstractSyntax.{Bytes}
use Rattle.typing_rules.specs.Contexts.{Scope, Context, generic}
use Rattle.typing_rules.specs.Definitions.{Definitions}
use Rattle.typing_rules.specs.Terms.{Term, unit, listed}
use Rattle.typing_rules.specs.Terms as t
use Rattle.desugaring.specs.Frames.{Frame, Exit, exit_from, exit, is_label, is_continued, is_optional, is_returned}
use Rattle.desugaring_laws.specs.Known.{IsKnown}
use Rattle.desugaring_laws.specs.Scopes.{IsScopeFine, AreBoundsIn}
use Rattle.desugaring_laws.proofs.Graph.{reflexive, head_there}
use Rattle.expression_laws.specs.Fitting.{StandsFor, AValue, AGeneric, Fits}
use Rattle.expression_laws.specs.Results.{IsBelowWanted, GivesValue}
use Rattle.expression_laws.proofs.Heads.{function_head}
use Rattle.list_laws.specs.Facts.{Fact, scope_at, Around, Gives}
use Rattle.list_laws.specs.Standing.{StandsIn}
use Rattle.declaration_laws.specs.Made.{Standing, StepTyped}
use Rattle.declaration_laws.specs.Laws.{known_at, IsValueOf, StepsAreFacts, StableStepsAreFacts, ValuesAreFacts, FunctionsAreFacts}

module _ (defs : Definitions) (slots : List Slot) (terms : List Term) (number : Term → TypeId) (e : Context) (base : Scope) (f0 : Frame) (c0 : typed.Context) (outer : List Bytes) (facts : List Fact)
    (fit : Fits defs slots terms number e.types [] e f0 c0) where
  abbrev Round : List Bytes → Scope → Frame → typed.Context → Type 0
  Round = Around defs slots terms number e.body base f0 c0 outer facts

  -- a label that is left
  left_so : (p : Exit → Bool) (f : Frame) (c : typed.Context) → f.exits ≡ f0.exits → c.labels ≡ c0.labels → (o : Option TypeId) → slice_get c0.labels (exit f0 p) ≡ o → slice_get c.labels (exit f p) ≡ o
  left_so p f c exits labels o h = ap (λ ls. slice_get ls (exit f p)) labels ∙ (ap (λ xs. slice_get c0.labels (exit_from zero p xs)) exits ∙ h)

  -- what is around a declaration of a list fits
  pub around_fits : (uses : List Bytes) (s : Scope) (f : Frame) (c : typed.Context) → Round uses s f c → Fits defs slots terms number e.types uses (record e { values = s }) f c
  around_fits uses s f c a = record {
    names = λ y m b h. subst (λ vs. StandsIn defs slots terms number vs e.body f.names c.names y b) (sym a.parameters) (a.stand y m b h);
    labels = λ x l h. let i = fit.labels x l h in record {
      known = subst (λ vs. IsKnown defs terms vs l.type) (sym a.parameters) i.known;
      left = left_so (is_label x) f c a.exits a.labels (Some (number l.type)) i.left;
      continued = λ k. left_so (is_continued x) f c a.exits a.labels (Some (number unit)) (i.continued k);
    };
    returns = λ u h. let i = fit.returns u h in record {
      known = subst (λ vs. IsKnown defs terms vs u) (sym a.parameters) i.known;
      left = left_so is_returned f c a.exits a.labels (Some (number u)) i.left;
    };
    options = λ h. let i = fit.options h in (i.0, left_so is_optional f c a.exits a.labels (Some i.0) i.1, i.2);
    body_is = a.body_is ∙ fit.body_is;
    types = subst (λ vs. IsScopeFine defs vs e.types) (sym a.parameters) fit.types;
    bounds = subst (λ vs. AreBoundsIn vs defs) (sym a.parameters) fit.bounds;
    scope_is = refl;
  }

pub steps_are_facts : StepsAreFacts
steps_are_facts defs slots terms number e base f0 c0 outer facts fit n uses binds step xs s made there = record {
  names = made.0;
  none_kept = made.3;
  uses = uses;
  there = there;
  others = made.1;
  typed = λ f c a.
      let w : Standing defs slots terms number c0.parameters uses (known_at e base facts n) =
      record { frame = f; context = c; parameters = a.parameters; fits = around_fits defs slots terms number e base f0 c0 outer facts fit uses (scope_at n facts base) f c a } in
      let i : StepTyped defs slots terms number c0.parameters uses (known_at e base facts n) binds step xs s w = made.2 w in (
        i.wants,
        i.declares,
        i.many,
        (λ y m u b h rest ms. subst (λ vs. StandsIn defs slots terms number vs e.body (binds ++ rest) (i.wants ++ ms) y b) a.parameters (i.stand y m u b h rest ms)),
      );
}

pub stable_steps_are_facts : StableStepsAreFacts
stable_steps_are_facts defs slots terms number e base f0 c0 outer facts fit n uses binds step x s kept made there = record {
  names = made.0;
  none_kept = made.3;
  uses = uses;
  there = there;
  others = made.1;
  typed = λ f c a.
      let w : Standing defs slots terms number c0.parameters uses (known_at e base facts n) =
      record { frame = f; context = c; parameters = a.parameters; fits = around_fits defs slots terms number e base f0 c0 outer facts fit uses (scope_at n facts base) f c a } in
      let i : StepTyped defs slots terms number c0.parameters uses (known_at e base facts n) binds step (x ∷ []) s w = made.2.3 w (a.kept x ∙ kept made.2.0 made.2.1) in (
        i.wants,
        i.declares,
        i.many,
        (λ y m u b h rest ms. subst (λ vs. StandsIn defs slots terms number vs e.body (binds ++ rest) (i.wants ++ ms) y b) a.parameters (i.stand y m u b h rest ms)),
      );
}

pub values_are_facts : ValuesAreFacts
values_are_facts defs slots terms number graph e base f0 c0 outer facts fit n uses last of_list w u x made is there = record {
  uses = uses;
  there = there;
  typed = λ f c a. by last w is f c (made (record { frame = f; context = c; parameters = a.parameters; fits = around_fits defs slots terms number e base f0 c0 outer facts fit uses (scope_at n facts base) f c a }));
}
  where
    by : (l : Bool) (w : Option Term) → IsValueOf number l of_list w u → (f : Frame) (c : typed.Context) → IsBelowWanted defs slots terms number w u × GivesValue defs slots terms number c u (x f)
        → Gives defs slots terms number e.body base f0 c0 outer facts l of_list (x f) c
    by false w h f c i = (Of (number u), i.1.typed (number u) (reflexive defs slots terms number graph (number u)))
    by true None h f c i = subst (λ o. Typed slots (x f) c o) (sym h) (i.1.typed (number u) (reflexive defs slots terms number graph (number u)))
    by true (Some v) h f c i = subst (λ o. Typed slots (x f) c o) (sym h) (i.1.typed (number v) i.0)

pub functions_are_facts : FunctionsAreFacts
functions_are_facts defs slots terms number graph e base f0 c0 outer facts fit all d y x g p uses gs ps r known made placed = record {
  name = made.0;
  place_is = placed.place_is;
  bound = placed.bound;
  stands = stand gs known;
  signature = signature;
  local = refl;
  no_context = refl;
  named_so = inr (number u, head_there defs slots terms number graph u known.there (node.Func sort.Local (listed ps) (r ∷ [])) (function_head defs ps r), refl);
  uses = uses;
  there = placed.there;
  typed = λ f c a. made.1 (record { frame = f; context = c; parameters = a.parameters; fits = around_fits defs slots terms number e base f0 c0 outer facts fit uses (scope_at (length facts) facts base) f c a });
}
  where
    u : Term
    u = t.Function ps r

    signature : Signature
    signature = record { sort = sort.Local; generics = gs; context = []; parameters = map number (listed ps); result = number r }

    some_there : (v : ℕ) (vs : List ℕ) → v ∷ vs ≡ [] → ⊥
    some_there v vs q = cc

    stand : (vs : List ℕ) → IsKnown defs terms (vs ++ c0.parameters) (t.Function ps r) → StandsFor defs slots terms number c0.parameters e.body (generic vs (t.Function ps r)) false (stands_for (head_at slots) vs (number (t.Function ps r)))
    stand [] k = AValue refl refl refl k refl
    stand (v ∷ vs) k = AGeneric refl (some_there v vs) refl k refl
