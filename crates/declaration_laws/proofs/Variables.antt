-- `var`.
use Rattle.std.proofs.Common.{◌≡◌, inl, inr, ℕ, zero, Bool, true, false, List, [], ◌∷◌, Some, None, refl, sym, ap, subst}
use Rattle.std.proofs.lemmas.Slice.Eq.{bytes_eq-Decides}
use Rattle.std.specs.Prelude.{cond, slice_get}
use Rattle.std.specs.Str.{bytes_eq}
use Rattle.mo_scopes.specs.Scopes.{named}
use Rattle.mo_types.specs.declared.node.TypeId.{TypeId}
use Rattle.mo_types.specs.Graph.{Slot}
use Rattle.mo_types.specs.Heads.{async_of}
use Rattle.subtype_laws.specs.Reached.{Among}
use Rattle.typed_tree.specs.declared.expression.Form.TheOpen as F
use Rattle.typed_tree.specs.declared.expression.Step.{roll-Step}
use Rattle.typed_tree.specs.Wants.{Want, CellOf, KeptOf}
use Rattle.typed_tree.proofs.Rules.{steps}
use Rattle.typing_rules.specs.AbstractSyntax.{Bytes, Expression}
use Rattle.typing_rules.specs.AsyncPlaces.{Body, Other}
use Rattle.typing_rules.specs.Contexts.{Bound, Scope, Context, variable, directly}
use Rattle.typing_rules.specs.Definitions.{Definitions}
use Rattle.typing_rules.specs.Expressions.{Judge}
use Rattle.typing_rules.specs.Heads.{head}
use Rattle.typing_rules.specs.Judgements.{Case, Part as Bind}
use Rattle.typing_rules.specs.Terms.{Term, unit}
use Rattle.typing_rules.specs.TypedTrees.{Note, type_of}
use Rattle.typing_rules.specs.Types.{Reads}
use Rattle.typing_rules.specs.TypeScopes.{term_or}
use Rattle.typing_rules.specs.AbstractSyntax as p
use Rattle.desugaring.specs.Expressions.{tree as written_out}
use Rattle.desugaring.specs.FreeNames.{occurring}
use Rattle.desugaring.specs.Frames.{Entry, cell, found_from, kept_at}
use Rattle.desugaring_laws.specs.GraphOf.{IsGraphOf}
use Rattle.desugaring_laws.specs.Known.{IsKnown}
use Rattle.desugaring_laws.proofs.Graph.{in_scope}
use Rattle.desugaring_laws.proofs.Yielding.{part as after}
use Rattle.expression_laws.specs.Fitting.{ACell}
use Rattle.expression_laws.specs.Results.{AreTyped}
use Rattle.list_laws.specs.Standing.{StandsAt, StandsIn}
use Rattle.list_laws.proofs.Reaching.{unequal}
use Rattle.declaration_laws.specs.Made.{Standing, StepTyped, StepMade, StableMade, OneMade}
use Rattle.declaration_laws.specs.Laws.{VariablesAreTyped, StableVariablesAreTyped}
use Rattle.declaration_laws.proofs.Values.{IsAt, AtType, value_at}

variable_is : (x y : Bytes) (u : Scope) (v : Term) (b : Bound) → x ≡ y → named ((x, variable v) ∷ u) y ≡ Some b → variable v ≡ b
variable_is x y u v b e h = by (bytes_eq y x) ((bytes_eq-Decides y x).1 (sym e)) h where
  by : (t : Bool) → t ≡ true → cond t (Some (variable v)) (named u y) ≡ Some b → variable v ≡ b
  by true i k = let q : Some (variable v) ≡ Some b = k in cc
  by false i k = cc

pub found_one : (x y : Bytes) → Among y (x ∷ []) → x ≡ y
found_one x y (inl e) = e
found_one x y (inr m) = absurd m

cell_plain : (defs : Definitions) (x y : Bytes) → x ≡ y → (u : Scope) (v : Term) → async_of (head defs v) ≡ None → (b : Bound) → named ((x, variable v) ∷ u) y ≡ Some b → async_of (head defs b.type) ≡ None
cell_plain defs x y e u v k b h = subst (λ z. async_of (head defs z.type) ≡ None) (variable_is x y u v b e h) k

module _ (defs : Definitions) (slots : List Slot) (terms : List Term) (number : Term → TypeId) (vs : List ℕ) (body : Body) where
  -- a new cell
  cell_stands : (x y : Bytes) → x ≡ y → (u : Scope) (v : Term) → IsKnown defs terms vs v → (b : Bound) → named ((x, variable v) ∷ u) y ≡ Some b → (rest : List Entry) (ms : List (Want TypeId))
      → StandsIn defs slots terms number vs body (cell x ∷ rest) (CellOf (number v) ∷ ms) y b
  cell_stands x y e u v k b h rest ms =
      subst (λ z. StandsAt defs slots terms number vs body z (CellOf (number v) ∷ ms) b) (sym (ap (λ t. cond t (record { index = zero; cell = true }) (found_from 1 rest y)) ((bytes_eq-Decides x y).1 e)))
      (subst (λ z. StandsAt defs slots terms number vs body (record { index = zero; cell = true }) (CellOf (number v) ∷ ms) z) (variable_is x y u v b e h) (CellOf (number v), refl, ACell refl refl refl k refl))

module _ (defs : Definitions) (slots : List Slot) (terms : List Term) (number : Term → TypeId) (graph : IsGraphOf defs slots terms number) (units : Among unit terms) (vs : List ℕ) (e : Context) (a : Expression ℕ)
    (j : AreTyped defs slots terms number e.types a) where
  variable_step : (x : Bytes) (v : Term) (b : p.Expression Note) (s : Standing defs slots terms number vs (occurring a) (directly Other e)) → IsAt defs slots terms number graph units vs e a j v b s
      → StepTyped defs slots terms number vs (occurring a) (directly Other e) (cell x ∷ []) (λ f. roll-Step (F.Var (written_out defs number f b))) (x ∷ []) ((x, variable v) ∷ []) s
  variable_step x v b s i = record {
    wants = CellOf (number v) ∷ [];
    declares = (steps slots (F.Var (written_out defs number s.frame b)) s.context (CellOf (number v) ∷ [])).1 (
      number v,
      in_scope defs slots terms number graph s.context.parameters v i.known.there i.known.fine.scoped,
      i.typed,
      refl,
    );
    many = refl;
    stand = λ y m u c h rest ms. by y m u c h rest ms;
    plain = λ no y m u c h. cell_plain defs x y (found_one x y m) u v i.known.fine.no_future c h;
  }
    where
      by : (y : Bytes) → Among y (x ∷ []) → (u : Scope) (c : Bound) → named ((x, variable v) ∷ u) y ≡ Some c → (rest : List Entry) (ms : List (Want TypeId))
          → StandsIn defs slots terms number s.context.parameters e.body (cell x ∷ rest) (CellOf (number v) ∷ ms) y c
      by y (inl q) u c h rest ms = cell_stands defs slots terms number s.context.parameters e.body x y q u v i.known c h rest ms
      by y (inr m) u c h rest ms = absurd m

  -- a stable one, of which a value was kept
  stable_step : (x : Bytes) (v : Term) (b : p.Expression Note) (s : Standing defs slots terms number vs (occurring a) (directly Other e)) → IsAt defs slots terms number graph units vs e a j v b s
      → slice_get s.context.names (kept_at s.frame x) ≡ Some (KeptOf (number v))
      → StepTyped defs slots terms number vs (occurring a) (directly Other e) (cell x ∷ []) (λ f. roll-Step (F.Stable (kept_at f x) (written_out defs number f b))) (x ∷ []) ((x, variable v) ∷ []) s
  stable_step x v b s i kept = record {
    wants = CellOf (number v) ∷ [];
    declares = (steps slots (F.Stable (kept_at s.frame x) (written_out defs number s.frame b)) s.context (CellOf (number v) ∷ [])).1 (number v, kept, i.typed, refl);
    many = refl;
    stand = λ y m u c h rest ms. cell_stands defs slots terms number s.context.parameters e.body x y (found_one x y m) u v i.known c h rest ms;
    plain = λ no y m u c h. cell_plain defs x y (found_one x y m) u v i.known.fine.no_future c h;
  }

pub variables_are_typed : VariablesAreTyped
variables_are_typed defs slots terms number graph units vs e n x u a j w =
    after defs terms (Case u (λ u. Bind (Reads defs e.types u) (λ v. Judge defs (directly Other e) a (Some v))) (λ z. Judge defs (directly Other e) a None)) _
    (λ b. AtType defs slots terms number graph units vs e a j (term_or e.types u (type_of b)) b)
    (λ one. OneMade defs slots terms number (StepMade defs slots terms number vs (occurring a) (directly Other e) (x.bytes ∷ []) one.scope) one)
    (value_at defs slots terms number graph units vs e a j u) (λ b i. (
      refl,
      (λ y absent s. ap (λ t. cond t (Some (variable (term_or e.types u (type_of b)))) (named s y)) (unequal y x.bytes (λ q. absent (inl q)))),
      (λ s. variable_step defs slots terms number graph units vs e a j x.bytes (term_or e.types u (type_of b)) b s (i s)),
      tt,
    ))

pub stable_variables_are_typed : StableVariablesAreTyped
stable_variables_are_typed defs slots terms number graph units vs e n x u a j w =
    after defs terms (Case u (λ u. Bind (Reads defs e.types u) (λ v. Judge defs (directly Other e) a (Some v))) (λ z. Judge defs (directly Other e) a None)) _
    (λ b. AtType defs slots terms number graph units vs e a j (term_or e.types u (type_of b)) b)
    (λ one. OneMade defs slots terms number (StableMade defs slots terms number vs (occurring a) (directly Other e) x.bytes one.scope) one)
    (value_at defs slots terms number graph units vs e a j u) (λ b i. (
      λ shares. (
        refl,
        (λ y absent s. ap (λ t. cond t (Some (variable (term_or e.types u (type_of b)))) (named s y)) (unequal y x.bytes (λ q. absent (inl q)))),
        (
          term_or e.types u (type_of b),
          refl,
          shares,
          (λ s kept. stable_step defs slots terms number graph units vs e a j x.bytes (term_or e.types u (type_of b)) b s (i s) kept),
        ),
        tt,
      ),
      λ no. tt,
    ))
