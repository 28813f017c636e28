-- The rule of functions by its parts.
use Rattle.std.proofs.Common.{◌≡◌, ◌∙◌, ℕ, suc, List, [], ◌∷◌, Ok, Err, Option, Some, None, length, map, nat_eq, refl, sym, ap, subst}
use Rattle.std.specs.Prelude.{Result}
use Rattle.std.specs.declared.vec.Vec.{Vec}
use Rattle.type_terms.specs.declared.form.Form.{Form}
use Rattle.type_terms.specs.declared.form.TermId.{TermId}
use Rattle.typing_rules.specs.declared.condition.Condition.TheVariants as condition
use Rattle.typing_rules.specs.AbstractSyntax.{Expression, Pattern, Patterns}
use Rattle.typing_rules.specs.AbstractSyntax as p
use Rattle.typing_rules.specs.Calls.{local_of}
use Rattle.typing_rules.specs.Contexts.{Scope}
use Rattle.typing_rules.specs.Judgements.{Gives, Judgement, Part, Tests}
use Rattle.typing_rules.specs.Signatures.{Parameters, Taken}
use Rattle.typing_rules.specs.Terms.{Term, unit}
use Rattle.typing_rules.specs.TypedTrees.{Note, Typed, count_patterns}
use Rattle.typing_rules.specs.Types.{ReadsOr}
use Rattle.type_definitions.specs.Meanings.{term}
use Rattle.met_types.specs.States.{State}
use Rattle.type_judgements.specs.declared.refusal.Refusal.{Refusal}
use Rattle.type_scopes.specs.Scopes.{seen}
use Rattle.abstract_types.specs.declared.patterns.Pattern as value_pattern
use Rattle.abstract_types.specs.declared.patterns.Signature.{Signature}
use Rattle.abstract_types.specs.PatternView.{listed, plain, plain_signature}
use Rattle.abstract_types.specs.TypeView.{annotation}
use Rattle.value_scopes.specs.declared.note.Note as value_note
use Rattle.value_scopes.specs.declared.place.Body.TheVariants as body
use Rattle.value_scopes.specs.declared.scopes.Scopes.{Scopes}
use Rattle.written_types.specs.Written.{Wrote}
use Rattle.proper_types.proofs.Turns.{part_assoc}
use Rattle.typed_patterns.specs.Binding.{patterns_in}
use Rattle.typed_patterns.proofs.Standing.{behind_alike}
use Rattle.signatures.specs.Taking.{names_and_rest}
use Rattle.judging.specs.declared.checker.Checker.{Checker}
use Rattle.judging.specs.declared.site.Site.{Site}
use Rattle.judging.specs.Heads.{WantedHas}
use Rattle.judging.specs.Views.{View, definitions, kind_reached, rule, typed_in, view}
use Rattle.judging.specs.Answers.{Answers}
use Rattle.judging.proofs.Cases.{as_wanted, unwanted}
use Rattle.judging.proofs.Chains.{after, goes_on, seen_as, stops}
use Rattle.judging.proofs.TypedParts.{Comes, Given}
use Rattle.signature_judging.specs.Rules.{parameters}
use Rattle.body_judging.specs.Bodies.{body_under}
use Rattle.function_rules.specs.declared.closing.Function.{Function}
use Rattle.function_rules.specs.Functions.{closed, closed_in, ended, function_end, function_fine, function_in, function_on, function_parts, function_with, or_unit}
use Rattle.function_rules.specs.Locals.{shown}
use Rattle.function_rules.proofs.Enclosed.{Handed}

-- ---- what is given

-- by the parameters as they are taken apart
module _ (x : Site) (h : p.Signature ℕ) (c d : Scopes) (k l : Checker) (r : Result Given Refusal) (made : Function) where
  abbrev ended_with : List TermId × List (value_pattern.Pattern value_note.Note) → View → Judgement Typed
  ended_with q v = function_end x h v (map (term v.later) q.0, patterns_in q.1 v.later) (closed_in made.closed v.later)

  pub ended_by : (q : List TermId × List (value_pattern.Pattern value_note.Note)) → q ≡ (made.taken.kinds, made.taken.patterns) → Comes (ended_with q) c k d l r → Comes (ended x h made) c k d l r
  ended_by q e j = subst (λ (z : List TermId × List (value_pattern.Pattern value_note.Note)). Comes (ended_with z) c k d l r) e j

-- ---- the rule

module _ (x : Site) (s : Signature ℕ) (a : Expression ℕ) where
  abbrev g : p.Signature ℕ
  g = plain_signature s

  abbrev pub patterns_of : List (Pattern ℕ)
  patterns_of = map plain s.parameters

  -- ---- by its parts

  module _ (ids : List TermId) (other : TermId) where
    abbrev pub parts : View → Judgement ((List Term × Patterns Note) × (Term × Typed))
    parts = function_parts x.place patterns_of ids (annotation s.result) other a

    abbrev end : View → (List Term × Patterns Note) × (Term × Typed) → Judgement Typed
    end v c = function_end x g v c.0 c.1

    abbrev reading : View → Judgement Term
    reading v = ReadsOr (definitions v) (seen v.scopes.types) (annotation s.result) (term v.later other)

    abbrev judging : View → Scope → Term → Judgement Typed
    judging v names r = body_under x.place body.Local r a names v

    abbrev taking : View → Judgement Taken
    taking v = Parameters (definitions v) (seen v.scopes.types) (listed patterns_of) (map (term v.later) ids)

    abbrev rest : Taken → List Term × Patterns Note
    rest k = (k.types, k.patterns)

    abbrev enclosed : View → Scope → Judgement (Term × Typed)
    enclosed v names = closed x.place (annotation s.result) other a names v

    in_parts : (v : View) → function_on x g a ids other v ≡ Part (parts v) (end v)
    in_parts v = sym
        (part_assoc (parameters patterns_of ids v) (λ q. Part (enclosed v q.0) (λ c. Gives (q.1, c))) (end v)
        ∙ (part_assoc (taking v) (λ k. Gives (names_and_rest k)) (λ q. Part (Part (enclosed v q.0) (λ c. Gives (q.1, c))) (end v))
        ∙ behind_alike (taking v) (λ k. Part (Part (enclosed v k.scope) (λ c. Gives (rest k, c))) (end v)) (λ k. Part (reading v) (λ r. Part (judging v k.scope r) (λ b. function_end x g v (rest k) (r, b))))
        (λ k.
        part_assoc (enclosed v k.scope) (λ c. Gives (rest k, c)) (end v)
        ∙ (part_assoc (reading v) (λ r. Part (judging v k.scope r) (λ b. Gives (r, b))) (function_end x g v (rest k))
        ∙ behind_alike (reading v) (λ r. Part (Part (judging v k.scope r) (λ b. Gives (r, b))) (function_end x g v (rest k))) (λ r. Part (judging v k.scope r) (λ b. function_end x g v (rest k) (r, b)))
        (λ r. part_assoc (judging v k.scope r) (λ b. Gives (r, b)) (function_end x g v (rest k)))))))

    pub no_parts : (c d : Scopes) (k l : Checker) (e : Refusal) (r : Result Given Refusal) → Handed r e → Answers function_in function_fine parts c k d l (Err e) → Comes (function_on x g a ids other) c k d l r
    no_parts c d k l e r h j =
        seen_as typed_in kind_reached (function_on x g a ids other) (λ v. Part (parts v) (end v)) c d k l r (λ later w. in_parts (view later k.types.listed c)) (stops typed_in kind_reached function_in function_fine parts end c d k l e r h j)

    pub parts_given : (c d e : Scopes) (k l m : Checker) (made : Function) (r : Result Given Refusal) → Answers function_in function_fine parts c k d l (Ok made) → Comes (ended x g made) d l e m r → Comes (function_on x g a ids other) c k e m r
    parts_given c d e k l m made r j h =
        seen_as typed_in kind_reached (function_on x g a ids other) (λ v. Part (parts v) (end v)) c e k m r (λ later w. in_parts (view later k.types.listed c))
        (goes_on typed_in kind_reached function_in function_fine parts end c d e k l m made r j h)

  -- ---- where no type is wanted

  abbrev here : Checker → State → Checker
  here k t = record k { types = t }

  pub unit_first : (c d : Scopes) (k m : Checker) (t : State) (id : TermId) (r : Result Given Refusal) → Wrote k.types t unit id → Comes (function_on x g a [] id) c (here k t) d m r → Comes (or_unit x g a) c k d m r
  unit_first c d k m t id r w h =
      after typed_in kind_reached (or_unit x g a) c c d k (here k t) m r w.same.goes w.same.stands refl
      (seen_as typed_in kind_reached (or_unit x g a) (function_on x g a [] id) c d (here k t) m r (λ later z. ap (λ (u : Term). function_with x g a [] u (view later t.listed c)) (sym (w.made.is later z))) h)

  -- ---- by the type that is wanted

  abbrev pub fitting : List TermId → TermId → View → Judgement Typed
  fitting ids other v = Tests condition.Mismatch x.at (nat_eq (length ids) (length s.parameters)) (function_on x g a ids other v)

  abbrev by_type : View → Term × (List Term × Term) → Judgement Typed
  by_type v q = Tests condition.Mismatch x.at (nat_eq (length q.1.0) (count_patterns g.parameters)) (function_with x g a q.1.0 q.1.1 v)

  abbrev plainly : View → Unit {0} → Judgement Typed
  plainly v u = or_unit x g a v

  count_is : (qs : List (value_pattern.Pattern ℕ)) → count_patterns (listed (map plain qs)) ≡ length qs
  count_is [] = refl
  count_is (q ∷ qs) = ap suc (count_is qs)

  length_is : (later : List Form) (ids : List TermId) → length (map (term later) ids) ≡ length ids
  length_is later [] = refl
  length_is later (id ∷ ids) = ap suc (length_is later ids)

  module _ {Z : Type 0} (c d : Scopes) (k l : Checker) (r : Result Given Refusal) (o : Option (TermId × (Vec TermId Z × TermId))) (h : WantedHas local_of k.types x.wanted shown o) where
    pub function_wanted : (w : TermId) (q : Vec TermId Z × TermId) → o ≡ Some (w, q) → Comes (fitting q.0.items q.1) c k d l r → Comes (rule x (p.Function g a)) c k d l r
    function_wanted w q e j =
        as_wanted typed_in kind_reached local_of shown x.wanted by_type plainly c d k l r o h w q e
        (seen_as typed_in kind_reached (λ v. by_type v (term v.later w, shown v.later q)) (fitting q.0.items q.1) c d k l r
        (λ later z.
        ap (λ (i : ℕ). Tests condition.Mismatch x.at (nat_eq i (count_patterns g.parameters)) (function_on x g a q.0.items q.1 (view later k.types.listed c))) (length_is later q.0.items)
        ∙ ap (λ (i : ℕ). Tests condition.Mismatch x.at (nat_eq (length q.0.items) i) (function_on x g a q.0.items q.1 (view later k.types.listed c))) (count_is s.parameters)) j)

    pub function_unwanted : o ≡ None → Comes (or_unit x g a) c k d l r → Comes (rule x (p.Function g a)) c k d l r
    function_unwanted e j = unwanted typed_in kind_reached local_of shown x.wanted by_type plainly c d k l r o h e j
