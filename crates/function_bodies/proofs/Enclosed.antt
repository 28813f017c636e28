-- Parameters, and a body with their names.
use Rattle.std.proofs.Common.{◌≡◌, ◌∙◌, ℕ, List, [], ◌++◌, length, map, Ok, Err, Option, Some, refl, sym, ap, subst, append_assoc}
use Rattle.std.specs.Prelude.{Result}
use Rattle.mo_types.specs.Sub.{Each}
use Rattle.type_terms.specs.declared.form.Form.{Form}
use Rattle.type_terms.specs.declared.form.TermId.{TermId}
use Rattle.typing_rules.specs.AbstractSyntax.{Expression, Pattern, Patterns}
use Rattle.typing_rules.specs.Contexts.{Scope, in_body}
use Rattle.typing_rules.specs.Expressions.{Judge}
use Rattle.typing_rules.specs.Judgements.{Gives, Judgement, Part}
use Rattle.typing_rules.specs.Terms.{Term}
use Rattle.typing_rules.specs.TypedTrees.{Note, Typed}
use Rattle.type_definitions.specs.Definitions.{rules_in}
use Rattle.type_definitions.specs.Meanings.{term}
use Rattle.type_definitions.proofs.Meanings.{each_map}
use Rattle.met_types.specs.States.{IsReached}
use Rattle.type_judgements.specs.declared.refusal.Refusal.{Refusal}
use Rattle.abstract_types.specs.declared.patterns.Pattern as value_pattern
use Rattle.abstract_types.specs.PatternView.{plain}
use Rattle.abstract_tree.specs.declared.expressions.Expression as value
use Rattle.value_scopes.specs.declared.note.Note as value_note
use Rattle.value_scopes.specs.declared.place.Body.{Body}
use Rattle.value_scopes.specs.declared.place.Place.{Place}
use Rattle.value_scopes.specs.declared.scopes.Scopes.{Scopes}
use Rattle.value_scopes.specs.Places.{body_in, context_in}
use Rattle.value_scopes.specs.Values.{scope_in}
use Rattle.value_scopes.proofs.Seeing.{scope_joined}
use Rattle.typed_patterns.specs.Binding.{Names}
use Rattle.typed_patterns.proofs.Standing.{behind_alike}
use Rattle.signatures.specs.declared.taking.Taken.{Taken}
use Rattle.signatures.specs.Taking.{taken_in}
use Rattle.signatures.specs.Taking as taking
use Rattle.judging.specs.declared.checker.Checker.{Checker}
use Rattle.judging.specs.Views.{View, kind_reached, typed_in, view}
use Rattle.judging.specs.Answers.{Answers}
use Rattle.judging.proofs.Chains.{given}
use Rattle.judging.proofs.Steps.{reached_on}
use Rattle.scope_judging.specs.Binding.{Binds, under}
use Rattle.scope_judging.proofs.Under.{given_under, refused_under, sound_back, unbound}
use Rattle.signature_judging.specs.Rules.{context_of, parameters}
use Rattle.body_judging.specs.Bodies.{body_under, judge_body}
use Rattle.body_judging.proofs.Bodily.{body_is_under}
use Rattle.function_bodies.specs.declared.taking.Bodied.{Bodied}
use Rattle.function_bodies.specs.declared.taking.Called.{Called}
use Rattle.function_bodies.specs.Bodies.{bodied_before, bodied_in, bodied_reached, called_in, called_reached, with_context, with_parameters}
use Rattle.function_bodies.proofs.First.{Handed}

-- ---- parameters

module _ (y : Place) (qs : List (Pattern ℕ)) (b : Body) (id : TermId) (a : Expression ℕ) where
  abbrev body : Scope → View → Judgement Typed
  body names v = body_under y b (term v.later id) a names v

  abbrev both : View → List Term × Patterns Note → Typed → Judgement ((List Term × Patterns Note) × Typed)
  both v r z = Gives (r, z)

  abbrev pub taken : View → Judgement ((List Term × Patterns Note) × Typed)
  taken = with_parameters y qs b id a

  pub no_parameters : (c d f : Scopes) (k l : Checker) (e : Refusal) (r : Result Bodied Refusal) → Handed r e → Binds taken_in (parameters qs []) c k d l (Err e) → Answers bodied_in bodied_reached taken c k f l r
  no_parameters c d f k l e r g h = unbound bodied_in bodied_reached typed_in kind_reached taken_in (parameters qs []) body both c d f k l e r g h

  module _ (c d : Scopes) (k l : Checker) (m : Taken) (h : Binds taken_in (parameters qs []) c k d l (Ok m)) where
    same : (later : List Form) → body (scope_in later h.more) (view later l.types.listed c) ≡ judge_body b id a (view later l.types.listed (under h.more c))
    same later = body_is_under b id a later l.types.listed c y h.more

    pub no_body : (e f : Scopes) (o : Checker) (q : Refusal) (r : Result Bodied Refusal) → Handed r q → Answers typed_in kind_reached (judge_body b id a) d l e o (Err q) → Answers bodied_in bodied_reached taken c k f o r
    no_body e f o q r g j = refused_under bodied_in bodied_reached typed_in kind_reached taken_in (parameters qs []) body both c d k l m h (judge_body b id a) same e f o q r g j

    pub body_given : (e f : Scopes) (o : Checker) (z : value.Expression value_note.Note) (count : ℕ) → ((more : Names) (w : Scopes) → e ≡ under more w → count ≡ length w.values → f ≡ w) → count ≡ length c.values
        → Each (IsReached l.types) m.kinds → Answers typed_in kind_reached (judge_body b id a) d l e o (Ok z) → Answers bodied_in bodied_reached taken c k f o (Ok (record { taken = m; body = z }))
    body_given e f o z count u w reached j =
        given_under bodied_in bodied_reached typed_in kind_reached taken_in (parameters qs []) body both c d k l m h (judge_body b id a) same e f o z count u w j f o (Ok (record { taken = m; body = z }))
        (given bodied_in bodied_reached (λ v. both v (taken_in m v.later) (typed_in z v.later)) f o (record { taken = m; body = z })
        (sound_back bodied_in bodied_reached typed_in kind_reached taken_in (parameters qs []) body both c d k l m h (judge_body b id a) same e f o z count u w j)
        (each_map (IsReached l.types) (IsReached o.types) (λ i. reached_on l.types o.types i j.outcome.goes) m.kinds reached) (λ later x. refl))

-- ---- the same behind a context

module _ (y : Place) (q : Option (Pattern ℕ)) (qs : List (Pattern ℕ)) (b : Body) (id : TermId) (a : Expression ℕ) where
  abbrev behind : Scope → View → Judgement ((List Term × Patterns Note) × Typed)
  behind names v = bodied_before y qs b (term v.later id) a names v

  abbrev with_it : View → Option (Pattern Note) → (List Term × Patterns Note) × Typed → Judgement (Option (Pattern Note) × ((List Term × Patterns Note) × Typed))
  with_it v o z = Gives (o, z)

  abbrev pub called : View → Judgement (Option (Pattern Note) × ((List Term × Patterns Note) × Typed))
  called = with_context y q qs b id a

  pub no_context : (c d f : Scopes) (k l : Checker) (e : Refusal) (r : Result Called Refusal) → Handed r e → Binds taking.context_in (context_of q) c k d l (Err e) → Answers called_in called_reached called c k f l r
  no_context c d f k l e r g h = unbound called_in called_reached bodied_in bodied_reached taking.context_in (context_of q) behind with_it c d f k l e r g h

  module _ (c d : Scopes) (k l : Checker) (m : Option (value_pattern.Pattern value_note.Note)) (h : Binds taking.context_in (context_of q) c k d l (Ok m)) where
    abbrev judged : List Form → Scope → Judgement Typed
    judged later names = Judge (rules_in later l.types.listed) (record (in_body (body_in b) (Some (term later id)) [] (context_in later c y)) { values = names }) a (Some (term later id))

    inner : (later : List Form) → behind (scope_in later h.more) (view later l.types.listed c) ≡ with_parameters y qs b id a (view later l.types.listed (under h.more c))
    inner later =
        behind_alike (parameters qs [] (view later l.types.listed c)) (λ r. Part (judged later ((r.0 ++ scope_in later h.more) ++ scope_in later c.values)) (λ z. Gives (r.1, z))) (λ r. Part (judged later (r.0 ++ scope_in later (h.more ++ c.values))) (λ z. Gives (r.1, z)))
        (λ r. ap (λ (names : Scope). Part (judged later names) (λ z. Gives (r.1, z))) (append_assoc r.0 (scope_in later h.more) (scope_in later c.values) ∙ ap (λ (names : Scope). r.0 ++ names) (sym (scope_joined later h.more c.values))))

    pub no_bodied : (e f : Scopes) (o : Checker) (x : Refusal) (r : Result Called Refusal) → Handed r x → Answers bodied_in bodied_reached (with_parameters y qs b id a) d l e o (Err x) → Answers called_in called_reached called c k f o r
    no_bodied e f o x r g j = refused_under called_in called_reached bodied_in bodied_reached taking.context_in (context_of q) behind with_it c d k l m h (with_parameters y qs b id a) inner e f o x r g j

    pub bodied_given : (e f : Scopes) (o : Checker) (z : Bodied) (count : ℕ) → ((more : Names) (w : Scopes) → e ≡ under more w → count ≡ length w.values → f ≡ w) → count ≡ length c.values
        → Answers bodied_in bodied_reached (with_parameters y qs b id a) d l e o (Ok z) → Answers called_in called_reached called c k f o (Ok (record { context = m; bodied = z }))
    bodied_given e f o z count u w j =
        given_under called_in called_reached bodied_in bodied_reached taking.context_in (context_of q) behind with_it c d k l m h (with_parameters y qs b id a) inner e f o z count u w j f o (Ok (record { context = m; bodied = z }))
        (given called_in called_reached (λ v. with_it v (taking.context_in m v.later) (bodied_in z v.later)) f o (record { context = m; bodied = z })
        (sound_back called_in called_reached bodied_in bodied_reached taking.context_in (context_of q) behind with_it c d k l m h (with_parameters y qs b id a) inner e f o z count u w j)
        j.outcome.holds (λ later x. refl))

-- ---- by lists that are the same

module _ (y : Place) (b : Body) (id : TermId) (a : Expression ℕ) (xs ys : List (value_pattern.Pattern ℕ)) (c d : Scopes) (k l : Checker) (e : xs ≡ ys) where
  pub bodied_there : (r : Result Bodied Refusal) → Answers bodied_in bodied_reached (with_parameters y (map plain xs) b id a) c k d l r → Answers bodied_in bodied_reached (with_parameters y (map plain ys) b id a) c k d l r
  bodied_there r h = subst (λ (zs : List (value_pattern.Pattern ℕ)). Answers bodied_in bodied_reached (with_parameters y (map plain zs) b id a) c k d l r) e h

  pub called_there : (q : Option (Pattern ℕ)) (r : Result Called Refusal) → Answers called_in called_reached (with_context y q (map plain xs) b id a) c k d l r → Answers called_in called_reached (with_context y q (map plain ys) b id a) c k d l r
  called_there q r h = subst (λ (zs : List (value_pattern.Pattern ℕ)). Answers called_in called_reached (with_context y q (map plain zs) b id a) c k d l r) e h
