-- The parameters of a function, and its result and body with their names.
use Rattle.std.proofs.Common.{◌≡◌, ℕ, List, [], length, map, Ok, Err, Option, Some, refl, sym, ap, subst}
use Rattle.std.specs.Prelude.{Result}
use Rattle.std.specs.Result.{IsErr, IsErrAnd}
use Rattle.mo_types.specs.Sub.{Each}
use Rattle.type_terms.specs.declared.form.Form.{Form}
use Rattle.type_terms.specs.declared.form.TermId.{TermId}
use Rattle.typing_rules.specs.AbstractSyntax.{Expression, Pattern, Patterns, TypeNode}
use Rattle.typing_rules.specs.AsyncPlaces as places
use Rattle.typing_rules.specs.Contexts.{Scope, in_body}
use Rattle.typing_rules.specs.Expressions.{Judge}
use Rattle.typing_rules.specs.Judgements.{Gives, Judgement, Part}
use Rattle.typing_rules.specs.Terms.{Term}
use Rattle.typing_rules.specs.TypedTrees.{Note, Typed}
use Rattle.typing_rules.specs.Types.{ReadsOr}
use Rattle.type_definitions.specs.Definitions.{rules_in}
use Rattle.type_definitions.specs.Meanings.{term}
use Rattle.type_definitions.proofs.Meanings.{within_on}
use Rattle.met_types.specs.States.{IsReached}
use Rattle.type_judgements.specs.declared.refusal.Refusal.{Refusal}
use Rattle.type_scopes.specs.Scopes.{seen}
use Rattle.abstract_types.specs.declared.patterns.Pattern as value
use Rattle.abstract_types.specs.PatternView.{plain}
use Rattle.value_scopes.specs.declared.place.Body.TheVariants as body
use Rattle.value_scopes.specs.declared.place.Place.{Place}
use Rattle.value_scopes.specs.declared.scopes.Scopes.{Scopes}
use Rattle.value_scopes.specs.Places.{context_in}
use Rattle.value_scopes.specs.Values.{scope_in}
use Rattle.value_scopes.proofs.Seeing.{scope_joined}
use Rattle.typed_patterns.specs.Binding.{Names}
use Rattle.signatures.specs.declared.taking.Taken.{Taken}
use Rattle.signatures.specs.Taking.{taken_in}
use Rattle.signatures.proofs.Signed.{within_later}
use Rattle.judging.specs.declared.checker.Checker.{Checker}
use Rattle.judging.specs.declared.site.Site.{Site}
use Rattle.judging.specs.Parts.{Ready}
use Rattle.judging.specs.Views.{View, kind_reached, term_in, typed_in, view}
use Rattle.judging.specs.Answers.{Answers}
use Rattle.judging.proofs.Chains.{given, goes_on, stops}
use Rattle.judging.proofs.TypedParts.{Given}
use Rattle.scope_judging.specs.Binding.{Binds, under}
use Rattle.scope_judging.specs.Rules.{kind_within, reads_or}
use Rattle.scope_judging.proofs.Under.{given_under, ready_back, refused_under, sound_back, unbound}
use Rattle.signature_judging.specs.Rules.{parameters}
use Rattle.body_judging.specs.Bodies.{body_under, judge_body}
use Rattle.function_rules.specs.declared.closing.Closed.{Closed}
use Rattle.function_rules.specs.declared.closing.Function.{Function}
use Rattle.function_rules.specs.Functions.{closed, closed_fine, closed_in, function_fine, function_in, function_parts}

abbrev pub Handed : {M : Type 0} → Result M Refusal → Refusal → Type 0
Handed r e = IsErr r × IsErrAnd r (λ y. y ≡ e)

-- ---- the result and the body

module _ (y : Place) (n : Option TypeNode) (other : TermId) (a : Expression ℕ) where
  abbrev here : View → Judgement (Term × Typed)
  here v = closed y n other a [] v

  abbrev body_with : View → Term → Judgement (Term × Typed)
  body_with v r = Part (body_under y body.Local r a [] v) (λ b. Gives (r, b))

  pub no_result : (c : Scopes) (k l : Checker) (e : Refusal) (r : Result Closed Refusal) → Handed r e → Answers term_in kind_within (reads_or n other) c k c l (Err e) → Answers closed_in closed_fine here c k c l r
  no_result c k l e r h j = stops closed_in closed_fine term_in kind_within (reads_or n other) body_with c c k l e r h j

  module _ (c : Scopes) (k l : Checker) (id : TermId) (j : Answers term_in kind_within (reads_or n other) c k c l (Ok id)) where
    abbrev with_body : View → Typed → Judgement (Term × Typed)
    with_body v b = Gives (term v.later id, b)

    pub no_body : (d : Scopes) (m : Checker) (e : Refusal) (r : Result Closed Refusal) → Handed r e → Answers typed_in kind_reached (judge_body body.Local id a) c l d m (Err e) → Answers closed_in closed_fine here c k d m r
    no_body d m e r h i =
        goes_on closed_in closed_fine term_in kind_within (reads_or n other) body_with c c d k l m id r j (stops closed_in closed_fine typed_in kind_reached (judge_body body.Local id a) with_body c d l m e r h i)

    pub closed_given : (d : Scopes) (m : Checker) (b : Given) → Answers typed_in kind_reached (judge_body body.Local id a) c l d m (Ok b) → Answers closed_in closed_fine here c k d m (Ok (record { of = id; body = b }))
    closed_given d m b i =
        goes_on closed_in closed_fine term_in kind_within (reads_or n other) body_with c c d k l m id (Ok (record { of = id; body = b })) j
        (goes_on closed_in closed_fine typed_in kind_reached (judge_body body.Local id a) with_body c d d l m m b (Ok (record { of = id; body = b })) i
        (given closed_in closed_fine (λ v. Gives (term v.later id, typed_in b v.later)) d m (record { of = id; body = b }) i.outcome.sound (within_on l.types.forms m.types.forms id i.outcome.goes.forms j.outcome.holds, i.outcome.holds) (λ later w. refl)))

-- ---- the parameters, and the rest with their names

pub binds_there : (xs ys : List (value.Pattern ℕ)) (ids : List TermId) (c d : Scopes) (k l : Checker) (r : Result Taken Refusal) → xs ≡ ys → Binds taken_in (parameters (map plain xs) ids) c k d l r → Binds taken_in (parameters (map plain ys) ids) c k d l r
binds_there xs ys ids c d k l r e h = subst (λ (qs : List (value.Pattern ℕ)). Binds taken_in (parameters (map plain qs) ids) c k d l r) e h

module _ (y : Place) (qs : List (Pattern ℕ)) (ids : List TermId) (n : Option TypeNode) (other : TermId) (a : Expression ℕ) where
  abbrev pub whole : View → Judgement ((List Term × Patterns Note) × (Term × Typed))
  whole = function_parts y qs ids n other a

  abbrev rest : Scope → View → Judgement (Term × Typed)
  rest names v = closed y n other a names v

  abbrev both : View → List Term × Patterns Note → Term × Typed → Judgement ((List Term × Patterns Note) × (Term × Typed))
  both v q c = Gives (q, c)

  pub no_parameters : (c d f : Scopes) (k l : Checker) (e : Refusal) (r : Result Function Refusal) → Handed r e → Binds taken_in (parameters qs ids) c k d l (Err e) → Answers function_in function_fine whole c k f l r
  no_parameters c d f k l e r g b = unbound function_in function_fine closed_in closed_fine taken_in (parameters qs ids) rest both c d f k l e r g b

  module _ (c d : Scopes) (k l : Checker) (m : Taken) (b : Binds taken_in (parameters qs ids) c k d l (Ok m)) where
    abbrev with_names : List Form → Scope → Judgement (Term × Typed)
    with_names later names =
        Part (ReadsOr (rules_in later l.types.listed) (seen c.types) n (term later other)) (λ r.
        Part (Judge (rules_in later l.types.listed) (record (in_body places.Local (Some r) [] (context_in later c y)) { values = names }) a (Some r)) (λ b. Gives (r, b)))

    same : (later : List Form) → rest (scope_in later b.more) (view later l.types.listed c) ≡ closed y n other a [] (view later l.types.listed (under b.more c))
    same later = ap (with_names later) (sym (scope_joined later b.more c.values))

    pub no_rest : (e f : Scopes) (o : Checker) (x : Refusal) (r : Result Function Refusal) → Handed r x → Answers closed_in closed_fine (closed y n other a []) d l e o (Err x) → Answers function_in function_fine whole c k f o r
    no_rest e f o x r g h = refused_under function_in function_fine closed_in closed_fine taken_in (parameters qs ids) rest both c d k l m b (closed y n other a []) same e f o x r g h

    module _ (e f : Scopes) (o : Checker) (z : Closed) (count : ℕ) (u : (more : Names) (w : Scopes) → e ≡ under more w → count ≡ length w.values → f ≡ w) (w : count ≡ length c.values)
        (h : Answers closed_in closed_fine (closed y n other a []) d l e o (Ok z)) where
      pub function_given : Each (IsReached l.types) m.kinds → Answers function_in function_fine whole c k f o (Ok (record { taken = m; closed = z }))
      function_given i =
          given_under function_in function_fine closed_in closed_fine taken_in (parameters qs ids) rest both c d k l m b (closed y n other a []) same e f o z count u w h f o (Ok (record { taken = m; closed = z }))
          (given function_in function_fine (λ v. Gives (taken_in m v.later, closed_in z v.later)) f o (record { taken = m; closed = z })
          (sound_back function_in function_fine closed_in closed_fine taken_in (parameters qs ids) rest both c d k l m b (closed y n other a []) same e f o z count u w h)
          (within_later l.types o.types m.kinds b.answer.outcome.sound.known.kept h.outcome.goes i, h.outcome.holds) (λ later q. refl))

      pub function_ready : (x : Site) → Ready k c x → Ready o f x
      function_ready x r = ready_back function_in function_fine closed_in closed_fine taken_in (parameters qs ids) rest both c d k l m b (closed y n other a []) same e f o z count u w h x r
