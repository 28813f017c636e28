-- `let`.
use Rattle.std.proofs.Common.{◌≡◌, ◌≢◌, inl, inr, ℕ, zero, suc, Bool, true, false, List, [], ◌∷◌, ◌++◌, length, map, Option, Some, None, refl, sym, ap, ◌∙◌, subst}
use Rattle.std.proofs.lemmas.Slice.Eq.{bytes_eq-Decides}
use Rattle.std.specs.Prelude.{cond}
use Rattle.std.specs.Str.{bytes_eq}
use Rattle.mo_scopes.specs.Scopes.{named}
use Rattle.mo_types.specs.declared.node.Sort.TheVariants as sort
use Rattle.mo_types.specs.declared.node.TypeId.{TypeId}
use Rattle.mo_types.specs.Graph.{Slot}
use Rattle.mo_types.specs.Heads.{async_of}
use Rattle.mo_types.specs.Sub.{Each}
use Rattle.subtype_laws.specs.Reached.{Among}
use Rattle.typed_tree.specs.declared.expression.Form.TheOpen as F
use Rattle.typed_tree.specs.declared.expression.Step.{roll-Step}
use Rattle.typed_tree.specs.declared.pattern.TypedPattern.{roll-TypedPattern}
use Rattle.typed_tree.specs.declared.pattern.PatternForm.{roll-PatternForm}
use Rattle.typed_tree.specs.declared.pattern.PatternForm.TheOpen as P
use Rattle.typed_tree.specs.OperationTypes.{Distinct}
use Rattle.typed_tree.specs.Patterns.{Bind as ABind}
use Rattle.typed_tree.specs.PatternView.{pattern as pattern_view}
use Rattle.typed_tree.specs.PatternTypes as standing
use Rattle.typed_tree.specs.Wants.{Want, Of, FutureOf}
use Rattle.typed_tree.proofs.Rules.{steps}
use Rattle.typed_tree.proofs.Views.{pattern_views}
use Rattle.typing_rules.specs.AbstractSyntax.{Bytes, Pattern, Expression}
use Rattle.typing_rules.specs.AbstractSyntax as p
use Rattle.typing_rules.specs.AsyncPlaces.{Body, Update, Query, Local, calls, Named, Other}
use Rattle.typing_rules.specs.Contexts.{Bound, Scope, Context, constant, directly}
use Rattle.typing_rules.specs.Definitions.{Definitions}
use Rattle.typing_rules.specs.Expressions.{Judge, JudgeOne}
use Rattle.typing_rules.specs.Heads.{head}
use Rattle.typing_rules.specs.Judgements.{Gives, Case, Part as Bind}
use Rattle.typing_rules.specs.Lists.{entry, Entry as Given}
use Rattle.typing_rules.specs.Patterns.{Stands}
use Rattle.typing_rules.specs.Terms.{Term, unit}
use Rattle.typing_rules.specs.TypedTrees.{Note, type_of, note, annotation, declared_type}
use Rattle.typing_rules.specs.Types.{Reads}
use Rattle.typing_rules.specs.TypeScopes.{term_or}
use Rattle.desugaring.specs.Expressions.{tree as written_out}
use Rattle.desugaring.specs.FreeNames.{names_in, occurring}
use Rattle.desugaring.specs.Frames.{Entry, value, found_from}
use Rattle.desugaring.specs.Patterns.{stands as at_type, pattern}
use Rattle.desugaring.specs.Pieces.{Becomes as Piece, AStep}
use Rattle.desugaring_laws.specs.GraphOf.{IsGraphOf}
use Rattle.desugaring_laws.specs.Known.{IsKnown}
use Rattle.desugaring_laws.specs.Laws.{wants, PatternTyped}
use Rattle.desugaring_laws.specs.Names.{Names, bound_names, entered}
use Rattle.desugaring_laws.specs.Yields.{Yields}
use Rattle.desugaring_laws.proofs.Graph.{reflexive}
use Rattle.desugaring_laws.proofs.Patterns.{patterns_are_typed, entered_on}
use Rattle.desugaring_laws.proofs.Scoping.{written_fine}
use Rattle.desugaring_laws.proofs.Weakening.{each_more}
use Rattle.desugaring_laws.proofs.Yielding.{more, part as after}
use Rattle.expression_laws.specs.Fitting.{sort_of, AFuture, Fits}
use Rattle.expression_laws.specs.Laws.{IsPatternFine}
use Rattle.expression_laws.specs.Results.{GivesValue, GivesFuture, Gives as Gives_, Becomes, AreTyped}
use Rattle.expression_laws.proofs.BoundNames.{names_bound, names_kept, both}
use Rattle.expression_laws.proofs.Naming.{names_of, names_stand, not_entered}
use Rattle.expression_laws.proofs.Wanting.{for_all}
use Rattle.list_laws.specs.Standing.{entry_names, NoneKept, StandsAt, StandsIn}
use Rattle.list_laws.proofs.Reaching.{unequal}
use Rattle.declaration_laws.specs.Made.{Standing, StepTyped, StepMade, OneMade}
use Rattle.declaration_laws.specs.Laws.{LetsAreTyped}
use Rattle.declaration_laws.proofs.Entered.{scope_entered}
use Rattle.declaration_laws.proofs.Values.{IsAt, AtType, value_at}

-- a name stands for the value as it is
bind_is : (t : TypeId) → pattern_view (roll-TypedPattern (record { of_type = t; form = roll-PatternForm P.Bind })) ≡ ABind
unfolding roll-PatternForm denote.Hole.Carrier.roll
bind_is t = pattern_views.typed t (roll-PatternForm P.Bind) ∙ pattern_views.bind

pub constant_is : (x y : Bytes) (u : Scope) (v : Term) (b : Bound) → x ≡ y → named ((x, constant v) ∷ u) y ≡ Some b → constant v ≡ b
constant_is x y u v b e h = by (bytes_eq y x) ((bytes_eq-Decides y x).1 (sym e)) h where
  by : (t : Bool) → t ≡ true → cond t (Some (constant v)) (named u y) ≡ Some b → constant v ≡ b
  by true i k = let q : Some (constant v) ≡ Some b = k in cc
  by false i k = cc

values_unkept : (xs : List Bytes) → NoneKept (map value xs)
values_unkept [] = tt
values_unkept (x ∷ xs) = values_unkept xs

-- names of types that are no futures
entered_plain : (defs : Definitions) (xs : Names) → Distinct (names_of xs) → Each (λ x. async_of (head defs x.1) ≡ None) xs → (s : Scope) (y : Bytes) → Among y (names_of xs) → (b : Bound) → named (entered xs s) y ≡ Some b → async_of (head defs b.type) ≡ None
entered_plain defs [] d k s y m b h = absurd m
entered_plain defs (x ∷ xs) d k s y (inl e) b h =
    let there = sym (not_entered xs ((x.0, constant x.1) ∷ s) y (subst (λ z. Each (λ v. z ≢ v) (names_of xs)) e d.0)) ∙ h in
    subst (λ z. async_of (head defs z.type) ≡ None) (constant_is x.0 y s x.1 b e there) k.0
entered_plain defs (x ∷ xs) d k s y (inr m) b h = entered_plain defs xs d.1 k.1 ((x.0, constant x.1) ∷ s) y m b h

not_called : (b : Body) → calls b ≡ false → sort_of b ≡ sort.Shared → ⊥
not_called Update e h = cc
not_called Query e h = cc
not_called Local e h = cc

values_named : (xs : List Bytes) → entry_names (map value xs) ≡ xs
values_named [] = refl
values_named (x ∷ xs) = ap (λ ys. x ∷ ys) (values_named xs)

each_other : (y : Bytes) (xs : List Bytes) → (Among y xs → ⊥) → Each (λ x. y ≢ x) xs
each_other y [] absent = tt
each_other y (x ∷ xs) absent = ((λ e. absent (inl (sym e))), each_other y xs (λ m. absent (inr m)))

many_mapped : {A B C D : Type 0} (f : A → B) (g : A → C) (h : C → D) (xs : List A) → length (map f xs) ≡ length (map h (map g xs))
many_mapped f g h [] = refl
many_mapped f g h (x ∷ xs) = ap suc (many_mapped f g h xs)

module _ (defs : Definitions) (slots : List Slot) (terms : List Term) (number : Term → TypeId) (graph : IsGraphOf defs slots terms number) (units : Among unit terms) (vs : List ℕ) (e : Context) (a : Expression ℕ)
    (j : AreTyped defs slots terms number e.types a) where
  abbrev Stood : Type 0
  Stood = Standing defs slots terms number vs (occurring a) (directly Other e)

  -- a pattern that stands on a type, where that is known
  record Binds (q : Pattern ℕ) (u : Term) (r : Scope × Pattern Note) : Type 0 where
    stands : (s : Stood) → IsKnown defs terms s.context.parameters u → PatternTyped defs slots terms number s.context.parameters u r.0 r.1
    same : names_in r.1 ≡ names_in q
    scope_is : r.0 ≡ entered (bound_names r.1) []

  record KnownAt (u : Term) : Type 0 where
    stood : Stood
    known : IsKnown defs terms stood.context.parameters u

  binds : (q : Pattern ℕ) → IsPatternFine q → (u : Term) → Yields defs terms (Stands defs e.types q u) (Binds q u)
  binds q fine u =
      more defs terms (Stands defs e.types q u)
      (λ r. ((k : KnownAt u) → PatternTyped defs slots terms number k.stood.context.parameters u r.0 r.1) × ((names_in r.1 ≡ names_in q) × (r.0 ≡ entered (bound_names r.1) []))) (Binds q u)
      (both defs terms (Stands defs e.types q u) (λ r. (k : KnownAt u) → PatternTyped defs slots terms number k.stood.context.parameters u r.0 r.1) (λ r. (names_in r.1 ≡ names_in q) × (r.0 ≡ entered (bound_names r.1) []))
      (for_all defs terms (Stands defs e.types q u) (λ (k : KnownAt u) r. PatternTyped defs slots terms number k.stood.context.parameters u r.0 r.1) (λ k.
      patterns_are_typed defs slots terms number graph units k.stood.context.parameters e.types (written_fine defs k.stood.context.parameters e.types k.stood.fits.types k.stood.fits.bounds terms) q fine.written u k.known))
      (both defs terms (Stands defs e.types q u) (λ r. names_in r.1 ≡ names_in q) (λ r. r.0 ≡ entered (bound_names r.1) []) (names_kept defs terms e.types q u) (scope_entered defs terms e.types q u)))
      (λ r i. record { stands = λ s k. i.0 (record { stood = s; known = k }); same = i.1.0; scope_is = i.1.1 })

  -- names that are bound to values
  let_step : (xs : Names) (q : Pattern Note) → bound_names q ≡ xs → Distinct (names_of xs) → (u : Term) (b : p.Expression Note) (s : Stood) → IsAt defs slots terms number graph units vs e a j u b s
      → standing.Stands slots s.context.parameters (pattern defs number q) (number u) (wants number (bound_names q)) → Each (λ x. IsKnown defs terms s.context.parameters x.1) (bound_names q)
      → StepTyped defs slots terms number vs (occurring a) (directly Other e) (map value (names_of xs)) (λ f. roll-Step (F.Let (pattern defs number q) (written_out defs number f b))) (names_of xs) (entered xs []) s
  let_step xs q same d u b s i st k = record {
    wants = wants number xs;
    declares = (steps slots (F.Let (pattern defs number q) (written_out defs number s.frame b)) s.context (wants number xs)).1 (inl (
      number u,
      i.typed,
      subst (λ z. standing.Stands slots s.context.parameters (pattern defs number q) (number u) (wants number z)) same st,
    ));
    many = many_mapped (λ x. Of (number x.1)) (λ x. x.0) value xs;
    stand = λ y m scope c h rest ms.
        names_stand defs slots terms number s.context.parameters e.body [] xs d (subst (λ z. Each (λ x. IsKnown defs terms s.context.parameters x.1) z) same k) scope rest ms (λ z n. absurd n) y (inl m) c
        (ap (λ z. named z y) (entered_on xs scope) ∙ h);
    plain = λ no y m scope c h.
        entered_plain defs xs d (subst (λ z. Each (λ x. async_of (head defs x.1) ≡ None) z) same (each_more (λ x. IsKnown defs terms s.context.parameters x.1) (λ x. async_of (head defs x.1) ≡ None) (λ x i. i.fine.no_future) (bound_names q) k)) scope y m c
        (ap (λ z. named z y) (entered_on xs scope) ∙ h);
  }

  others_stay : (xs : Names) (y : Bytes) → (Among y (names_of xs) → ⊥) → (u : Scope) → named (entered xs [] ++ u) y ≡ named u y
  others_stay xs y absent u = ap (λ z. named z y) (sym (entered_on xs u)) ∙ not_entered xs u y (each_other y (names_of xs) absent)

  -- what a pattern becomes, on a value
  abbrev Step : Scope × Pattern Note → p.Expression Note → Piece
  Step r b = AStep (map value (names_in r.1)) (λ f. roll-Step (F.Let (pattern defs number r.1) (written_out defs number f b)))

  let_made : (q : Pattern ℕ) → IsPatternFine q → (u : Term) (b : p.Expression Note) → AtType defs slots terms number graph units vs e a j u b → (r : Scope × Pattern Note) → Binds q u r
      → StepMade defs slots terms number vs (occurring a) (directly Other e) (names_in q) r.0 (Step r b)
  let_made q fine u b i r k =
      let xs = bound_names r.1 in
      let same : names_of xs ≡ names_in q = sym (names_bound r.1) ∙ k.same in (
        values_named (names_in r.1) ∙ k.same,
        (λ y absent v. subst (λ z. named (z ++ v) y ≡ named v y) (sym k.scope_is) (others_stay xs y (λ m. absent (subst (λ z. Among y z) same m)) v)),
        (λ s.
            let st = k.stands s (i s).known in
            subst (λ z. StepTyped defs slots terms number vs (occurring a) (directly Other e) (map value (names_in r.1)) (λ f. roll-Step (F.Let (pattern defs number r.1) (written_out defs number f b))) (names_in q) z s) (sym k.scope_is)
            (subst (λ z. StepTyped defs slots terms number vs (occurring a) (directly Other e) (map value (names_in r.1)) (λ f. roll-Step (F.Let (pattern defs number r.1) (written_out defs number f b))) z (entered xs []) s) same
            (subst (λ z. StepTyped defs slots terms number vs (occurring a) (directly Other e) (map value z) (λ f. roll-Step (F.Let (pattern defs number r.1) (written_out defs number f b))) (names_of xs) (entered xs []) s) (sym (names_bound r.1))
            (let_step xs r.1 refl (subst (λ z. Distinct z) (sym same) fine.distinct) u b s (i s) (st.stands (number u) (reflexive defs slots terms number graph (number u))) st.known)))),
        values_unkept (names_in r.1),
      )

  abbrev Goal : ℕ → Pattern ℕ → Option Term → Type 0
  Goal n q w = Yields defs terms (JudgeOne defs (directly Other e) n (p.Let q a) w) (λ one. OneMade defs slots terms number (StepMade defs slots terms number vs (occurring a) (directly Other e) (names_in q) one.scope) one)

  -- a pattern that is no name alone
  let_other : (n : ℕ) (q : Pattern ℕ) → IsPatternFine q → (w : Option Term)
      → Yields defs terms
      (Bind (Case (annotation q) (λ u. Bind (Reads defs e.types u) (λ v. Judge defs (directly Other e) a (Some v))) (λ z. Judge defs (directly Other e) a None)) (λ b.
      Bind (Stands defs e.types q (declared_type e.types (annotation q) b)) (λ r. Gives (entry r.0 (note n (type_of b)) (p.Let r.1 b)))))
      (λ one. OneMade defs slots terms number (StepMade defs slots terms number vs (occurring a) (directly Other e) (names_in q) one.scope) one)
  let_other n q fine w =
      let Q = λ (one : Given). OneMade defs slots terms number (StepMade defs slots terms number vs (occurring a) (directly Other e) (names_in q) one.scope) one in
      after defs terms (Case (annotation q) (λ u. Bind (Reads defs e.types u) (λ v. Judge defs (directly Other e) a (Some v))) (λ z. Judge defs (directly Other e) a None)) _
      (λ b. AtType defs slots terms number graph units vs e a j (term_or e.types (annotation q) (type_of b)) b) Q (value_at defs slots terms number graph units vs e a j (annotation q)) (λ b i.
      after defs terms (Stands defs e.types q (term_or e.types (annotation q) (type_of b))) _ (Binds q (term_or e.types (annotation q) (type_of b))) Q (binds q fine (term_or e.types (annotation q) (type_of b))) (λ r k.
      let_made q fine (term_or e.types (annotation q) (type_of b)) b i r k))

  -- ---- one name, which may be one of a future

  named_fits : (s : Stood) → Fits defs slots terms number e.types (occurring a) (directly Named e) s.frame s.context
  named_fits s = record { names = s.fits.names; labels = s.fits.labels; returns = s.fits.returns; options = s.fits.options; body_is = s.fits.body_is; types = s.fits.types; bounds = s.fits.bounds; scope_is = s.fits.scope_is }

  abbrev OneStep : ℕ → Bytes → p.Expression Note → Stood → Type 0
  OneStep at x b s =
      StepTyped defs slots terms number vs (occurring a) (directly Other e) (value x ∷ []) (λ f. roll-Step (F.Let (at_type defs number (type_of b) P.Bind) (written_out defs number f b))) (x ∷ []) ((x, constant (type_of b)) ∷ []) s

  value_step : (at : ℕ) (x : Bytes) (b : p.Expression Note) (s : Stood) → GivesValue defs slots terms number s.context (type_of b) (written_out defs number s.frame b) → OneStep at x b s
  value_step at x b s v =
      let u = type_of b in
      let i : PatternTyped defs slots terms number s.context.parameters u ((x, constant u) ∷ []) (p.pattern (note at u) (p.Variable x)) =
      patterns_are_typed defs slots terms number graph units s.context.parameters e.types (written_fine defs s.context.parameters e.types s.fits.types s.fits.bounds terms) (p.pattern at (p.Variable x)) tt u v.known in
      let_step ((x, u) ∷ []) (p.pattern (note at u) (p.Variable x)) refl (tt, tt) u b s (record { known = v.known; typed = v.typed (number u) (reflexive defs slots terms number graph (number u)) })
      (i.stands (number u) (reflexive defs slots terms number graph (number u))) (v.known, tt)

  future_step : (at : ℕ) (x : Bytes) (b : p.Expression Note) (s : Stood) → GivesFuture defs slots terms number s.context Named (type_of b) (written_out defs number s.frame b) → OneStep at x b s
  future_step at x b s h = record {
    wants = FutureOf (number h.future.value) ∷ [];
    declares = (steps slots (F.Let (at_type defs number (type_of b) P.Bind) (written_out defs number s.frame b)) s.context (FutureOf (number h.future.value) ∷ [])).1 (inr (
      number h.future.value,
      h.typed,
      bind_is (number (type_of b)),
      refl,
    ));
    many = refl;
    stand = λ y m v c k rest ms. by y m v c k rest ms;
    plain = λ no y m v c k. absurd (not_called e.body no (sym s.fits.body_is ∙ h.called));
  }
    where
      by : (y : Bytes) → Among y (x ∷ []) → (v : Scope) (c : Bound) → named ((x, constant (type_of b)) ∷ v) y ≡ Some c → (rest : List Entry) (ms : List (Want TypeId))
          → StandsIn defs slots terms number s.context.parameters e.body (value x ∷ rest) (FutureOf (number h.future.value) ∷ ms) y c
      by y (inl q) v c k rest ms =
          subst (λ z. StandsAt defs slots terms number s.context.parameters e.body z (FutureOf (number h.future.value) ∷ ms) c) (sym (ap (λ t. cond t (record { index = zero; cell = false }) (found_from 1 rest y)) ((bytes_eq-Decides x y).1 q)))
          (subst (λ z. StandsAt defs slots terms number s.context.parameters e.body (record { index = zero; cell = false }) (FutureOf (number h.future.value) ∷ ms) z) (constant_is x y v (type_of b) c q k)
          (FutureOf (number h.future.value), refl, AFuture refl refl refl h.future.value h.future.head_is h.future.known (λ z. refl)))
      by y (inr m) v c k rest ms = absurd m

  one_step : (at : ℕ) (x : Bytes) (b : p.Expression Note) (s : Stood) → Gives_ defs slots terms number s.context Named (type_of b) (written_out defs number s.frame b) → OneStep at x b s
  one_step at x b s (inl v) = value_step at x b s v
  one_step at x b s (inr h) = future_step at x b s h

  let_variable : (n at : ℕ) (x : Bytes) (w : Option Term) → Goal n (p.pattern at (p.Variable x)) w
  let_variable n at x w =
      after defs terms (Judge defs (directly Named e) a None) _ (λ b. (s : Stood) → Becomes defs slots terms number Named e.labels s.frame s.context None b)
      (λ one. OneMade defs slots terms number (StepMade defs slots terms number vs (occurring a) (directly Other e) (x ∷ []) one.scope) one)
      (for_all defs terms (Judge defs (directly Named e) a None) (λ (s : Stood) b. Becomes defs slots terms number Named e.labels s.frame s.context None b) (λ s. j (directly Named e) s.frame s.context (named_fits s) None tt)) (λ b i. (
        refl,
        (λ y absent v. ap (λ t. cond t (Some (constant (type_of b))) (named v y)) (unequal y x (λ q. absent (inl q)))),
        (λ s. one_step at x b s (i s).gives),
        tt,
      ))

pub lets_are_typed : LetsAreTyped
lets_are_typed defs slots terms number graph units vs e n (p.pattern at (p.Variable x)) a fine j w = let_variable defs slots terms number graph units vs e a j n at x w
lets_are_typed defs slots terms number graph units vs e n (p.pattern at (p.Annotated q u)) a fine j w = let_other defs slots terms number graph units vs e a j n (p.pattern at (p.Annotated q u)) fine w
lets_are_typed defs slots terms number graph units vs e n (p.pattern at (p.Alternative q r)) a fine j w = let_other defs slots terms number graph units vs e a j n (p.pattern at (p.Alternative q r)) fine w
lets_are_typed defs slots terms number graph units vs e n (p.pattern at (p.Optional q)) a fine j w = let_other defs slots terms number graph units vs e a j n (p.pattern at (p.Optional q)) fine w
lets_are_typed defs slots terms number graph units vs e n (p.pattern at (p.Tag x)) a fine j w = let_other defs slots terms number graph units vs e a j n (p.pattern at (p.Tag x)) fine w
lets_are_typed defs slots terms number graph units vs e n (p.pattern at (p.Tagged x q)) a fine j w = let_other defs slots terms number graph units vs e a j n (p.pattern at (p.Tagged x q)) fine w
lets_are_typed defs slots terms number graph units vs e n (p.pattern at p.Wildcard) a fine j w = let_other defs slots terms number graph units vs e a j n (p.pattern at p.Wildcard) fine w
lets_are_typed defs slots terms number graph units vs e n (p.pattern at (p.Constant minus l)) a fine j w = let_other defs slots terms number graph units vs e a j n (p.pattern at (p.Constant minus l)) fine w
lets_are_typed defs slots terms number graph units vs e n (p.pattern at (p.Tuple items)) a fine j w = let_other defs slots terms number graph units vs e a j n (p.pattern at (p.Tuple items)) fine w
lets_are_typed defs slots terms number graph units vs e n (p.pattern at (p.Object fields)) a fine j w = let_other defs slots terms number graph units vs e a j n (p.pattern at (p.Object fields)) fine w
