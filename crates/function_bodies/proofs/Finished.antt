-- Functions and public functions by their parts.
use Rattle.std.proofs.Common.{◌≡◌, ◌∙◌, ℕ, Bool, List, [], ◌++◌, Ok, Err, Option, Some, map, option_map, sym, ap}
use Rattle.std.specs.Prelude.{Result}
use Rattle.type_terms.specs.declared.form.Form.{Form}
use Rattle.type_terms.specs.declared.form.Form.TheVariants as form
use Rattle.type_terms.specs.declared.form.TermId.{TermId}
use Rattle.mo_types.specs.declared.node.Sort.{Sort}
use Rattle.typing_rules.specs.AbstractSyntax.{Expression, Named, Patterns}
use Rattle.typing_rules.specs.AbstractSyntax as p
use Rattle.typing_rules.specs.AsyncPlaces as places
use Rattle.typing_rules.specs.Contexts.{Scope, in_body, with_types}
use Rattle.typing_rules.specs.DeclaredTypes.{within}
use Rattle.typing_rules.specs.Expressions.{Judge}
use Rattle.typing_rules.specs.Judgements.{Gives, Judgement, Part}
use Rattle.typing_rules.specs.Lists as rules
use Rattle.typing_rules.specs.Signatures.{Parameters, Taken, async_term, method_sort}
use Rattle.typing_rules.specs.Terms.{Term, unit, unlisted}
use Rattle.typing_rules.specs.Terms as terms
use Rattle.typing_rules.specs.TypedTrees.{Note, Typed, note, signature}
use Rattle.typing_rules.specs.TypeScopes.{TypeScope, term_or}
use Rattle.type_definitions.specs.Definitions.{Listed, rules_in}
use Rattle.type_definitions.specs.Meanings.{term}
use Rattle.met_types.specs.States.{State}
use Rattle.type_judgements.specs.declared.refusal.Refusal.{Refusal}
use Rattle.type_scopes.specs.Scopes.{seen}
use Rattle.type_scopes.specs.Scopes.{Names as TypeNames}
use Rattle.abstract_types.specs.declared.names.PlacedName.{PlacedName}
use Rattle.abstract_types.specs.declared.patterns.Pattern as value_pattern
use Rattle.abstract_types.specs.declared.patterns.Signature.{Signature}
use Rattle.abstract_types.specs.PatternView.{listed, plain, plain_signature}
use Rattle.abstract_types.specs.PatternView as pattern_view
use Rattle.abstract_types.specs.TypeView.{annotation, named}
use Rattle.abstract_tree.specs.declared.declarations.DeclarationForm.TheVariants as declaration
use Rattle.value_scopes.specs.declared.note.Note as value_note
use Rattle.value_scopes.specs.declared.place.Body.{Body}
use Rattle.value_scopes.specs.declared.place.Body.TheVariants as body
use Rattle.value_scopes.specs.declared.place.Place.{Place}
use Rattle.value_scopes.specs.declared.scopes.Scopes.{Scopes}
use Rattle.value_scopes.specs.Places.{body_in, context_in}
use Rattle.value_scopes.specs.Values.{noted}
use Rattle.written_types.specs.Written.{Interned, Wrote}
use Rattle.proper_types.proofs.Turns.{part_assoc}
use Rattle.typed_patterns.specs.Binding.{patterns_in}
use Rattle.typed_patterns.proofs.Standing.{behind_alike}
use Rattle.signatures.specs.Taking.{names_and_rest}
use Rattle.judging.specs.declared.checker.Checker.{Checker}
use Rattle.judging.specs.Views.{View, context, definitions, view}
use Rattle.judging.specs.Answers.{Answers}
use Rattle.judging.proofs.Chains.{given, goes_on, seen_as, stops}
use Rattle.signature_judging.proofs.Kept.{typed}
use Rattle.signature_judging.specs.Rules.{context_of, parameters}
use Rattle.body_judging.specs.Bodies.{body_under}
use Rattle.order_rules.specs.declared.entries.MadeDeclaration.{MadeDeclaration}
use Rattle.order_rules.specs.Entries.{made_in}
use Rattle.order_rules.proofs.Declarations.{seen_Func, seen_Method}
use Rattle.function_bodies.specs.declared.taking.Bodied.{Bodied}
use Rattle.function_bodies.specs.declared.taking.Called.{Called}
use Rattle.function_bodies.specs.Bodies.{any_made, bodied, bodied_before, bodied_in, bodied_reached, body_in as one_in, called, called_in, called_reached, judge_body, with_context, with_parameters}
use Rattle.function_bodies.specs.Functions.{function_in, result_of}
use Rattle.function_bodies.proofs.First.{Handed, here, made_first, sound_here}

-- ---- parameters and a body, and then what follows

module _ {A : Type 0} (y : Place) (qs : List (value_pattern.Pattern ℕ)) (b : Body) (u : Term) (a : Expression ℕ) (f : Scope → Scope) (end : (List Term × Patterns Note) × Typed → Judgement A) where
  abbrev taking : View → Judgement Taken
  taking v = Parameters (definitions v) (seen v.scopes.types) (listed (map plain qs)) []

  abbrev judging : View → Scope → Judgement Typed
  judging v names = body_under y b u a (f names) v

  pub bodied_then : (v : View) → Part (Part (parameters (map plain qs) [] v) (λ r. Part (judging v r.0) (λ z. Gives (r.1, z)))) end ≡ Part (taking v) (λ k. Part (judging v k.scope) (λ z. end ((k.types, k.patterns), z)))
  bodied_then v =
      part_assoc (parameters (map plain qs) [] v) (λ r. Part (judging v r.0) (λ z. Gives (r.1, z))) end
      ∙ (part_assoc (taking v) (λ k. Gives (names_and_rest k)) (λ r. Part (Part (judging v r.0) (λ z. Gives (r.1, z))) end)
      ∙ behind_alike (taking v) (λ k. Part (Part (judging v k.scope) (λ z. Gives ((k.types, k.patterns), z))) end) (λ k. Part (judging v k.scope) (λ z. end ((k.types, k.patterns), z)))
      (λ k. part_assoc (judging v k.scope) (λ z. Gives ((k.types, k.patterns), z)) end))

-- ---- functions

module _ (y : Place) (at : ℕ) (x : Named) (s : Signature ℕ) (a : Expression ℕ) (rest : List MadeDeclaration) where
  abbrev g : p.Signature ℕ
  g = plain_signature s

  abbrev pub function : View → Judgement (rules.Made × List rules.Made)
  function = function_in y at x g a rest

  -- the same with these types in scope
  abbrev function_at : (later : List Form) (l : Listed) (c : Scopes) → TypeScope → Judgement (rules.Made × List rules.Made)
  function_at later l c z =
      Part (Parameters (rules_in later l) z g.parameters []) (λ ps.
      Part (Judge (rules_in later l) (in_body places.Local (Some (term_or z g.result unit)) ps.scope (with_types z (context_in later c y))) a (Some (term_or z g.result unit))) (λ b.
      Gives ((note at (terms.Function (unlisted ps.types) (term_or z g.result unit)), p.Func x (signature g ps.patterns) b), map (made_in later) rest)))

  pub function_typed : (c : Scopes) (n : TypeNames) → seen n ≡ within (seen c.types) g → (later : List Form) (l : Listed) → judge_body y at (p.Func x g a) rest (view later l c) ≡ function (view later l (typed c n))
  function_typed c n e later l = ap (function_at later l c) (sym e)

  abbrev function_end : View → (List Term × Patterns Note) × Typed → Term → Judgement (rules.Made × List rules.Made)
  function_end v z u = Gives ((note at u, p.Func x (signature g z.0.1) z.1), map (made_in v.later) rest)

  abbrev function_behind : View → Term → (List Term × Patterns Note) × Typed → Judgement (rules.Made × List rules.Made)
  function_behind v r z = function_end v z (terms.Function (unlisted z.0.0) r)

  abbrev function_of : View → Term → Judgement (rules.Made × List rules.Made)
  function_of v r = Part (bodied y (map plain s.parameters) body.Local r a v) (function_behind v r)

  module _ (c : Scopes) (k : Checker) (t : State) (id : TermId) (w : Wrote k.types t (result_of g c) id) where
    from_result : (d : Scopes) (l : Checker) (r : Result MadeDeclaration Refusal) → Answers (one_in rest) any_made (λ v. function_of v (term v.later id)) c (here k t) d l r → Answers (one_in rest) any_made function c k d l r
    from_result d l r h =
        seen_as (one_in rest) any_made function (λ v. function_of v (result_of g v.scopes)) c d k l r (λ later z. sym (bodied_then y s.parameters body.Local (result_of g c) a (λ names. names) (function_behind (view later k.types.listed c) (result_of g c)) (view later k.types.listed c)))
        (made_first (one_in rest) any_made (λ v. result_of g v.scopes) function_of c d k l t id r w.same (λ later z. w.made.is later z) h)

    pub function_not : (d : Scopes) (l : Checker) (e : Refusal) (r : Result MadeDeclaration Refusal) → Handed r e → Answers bodied_in bodied_reached (with_parameters y (map plain s.parameters) body.Local id a) c (here k t) d l (Err e) → Answers (one_in rest) any_made function c k d l r
    function_not d l e r h j = from_result d l r (stops (one_in rest) any_made bodied_in bodied_reached (with_parameters y (map plain s.parameters) body.Local id a) (λ v. function_behind v (term v.later id)) c d (here k t) l e r h j)

    module _ (d : Scopes) (l : Checker) (m : Bodied) (j : Answers bodied_in bodied_reached (with_parameters y (map plain s.parameters) body.Local id a) c (here k t) d l (Ok m)) where
      pub function_given : (q : List TermId × List (value_pattern.Pattern value_note.Note)) → q ≡ (m.taken.kinds, m.taken.patterns) → (u : State) (kind : TermId) → Interned l.types u (form.Function q.0 id) kind
          → (copy : PlacedName) → named copy ≡ x → (sig : Signature value_note.Note) → ((later : List Form) → pattern_view.signature (noted later) sig ≡ signature g (patterns_in q.1 later))
          → Answers (one_in rest) any_made function c k d (here l u) (Ok (record { note = record { at = at; kind = kind }; form = declaration.Func copy sig m.body }))
      function_given q e u kind i copy f sig written =
          let made : MadeDeclaration = record { note = record { at = at; kind = kind }; form = declaration.Func copy sig m.body } in
          from_result d (here l u) (Ok made)
          (goes_on (one_in rest) any_made bodied_in bodied_reached (with_parameters y (map plain s.parameters) body.Local id a) (λ v. function_behind v (term v.later id)) c d d (here k t) l (here l u) m (Ok made) j
          (made_first (one_in rest) any_made (λ v. terms.Function (unlisted (map (term v.later) m.taken.kinds)) (term v.later id)) (λ v. function_end v (bodied_in m v.later)) d d l (here l u) u kind (Ok made) i.same
          (λ later z. i.made.is later z ∙ ap (λ (ks : List TermId). terms.Function (unlisted (map (term later) ks)) (term later id)) (ap (λ r. r.0) e))
          (given (one_in rest) any_made (λ v. function_end v (bodied_in m v.later) (term v.later kind)) d (here l u) made (sound_here d l u i.same j.outcome.sound) tt
          (λ later z. sym (ap (λ (w : p.Declaration Note). Gives ((note at (term later kind), w), map (made_in later) rest))
          (seen_Func (λ n. noted later n) copy sig m.body
          ∙ (ap (λ (n : Named). p.Func n (pattern_view.signature (noted later) sig) (bodied_in m later).1) f
          ∙ ap (λ (n : p.Signature Note). p.Func x n (bodied_in m later).1) (written later ∙ ap (λ (r : List TermId × List (value_pattern.Pattern value_note.Note)). signature g (patterns_in r.1 later)) e))))))))

-- ---- public functions

module _ (y : Place) (at : ℕ) (query : Bool) (o : Option (value_pattern.Pattern ℕ)) (x : Named) (s : Signature ℕ) (a : Expression ℕ) (rest : List MadeDeclaration) where
  abbrev h : p.Signature ℕ
  h = plain_signature s

  abbrev pub method : View → Judgement (rules.Made × List rules.Made)
  method = judge_body y at (p.Method query (option_map plain o) x h a) rest

  abbrev method_end : View → Option (p.Pattern Note) × ((List Term × Patterns Note) × Typed) → Term → Judgement (rules.Made × List rules.Made)
  method_end v z u = Gives ((note at u, p.Method query z.0 x (signature h z.1.0.1) z.1.1), map (made_in v.later) rest)

  abbrev method_behind : View → Term → Option (p.Pattern Note) × ((List Term × Patterns Note) × Typed) → Judgement (rules.Made × List rules.Made)
  method_behind v r z = method_end v z (terms.Shared (method_sort query) (unlisted z.1.0.0) r)

  abbrev promise : Scopes → Term
  promise c = async_term (seen c.types) (annotation s.result)

  module _ (b : Body) (is : body_in b ≡ places.body_of query) where
    abbrev method_of : View → Term → Judgement (rules.Made × List rules.Made)
    method_of v r = Part (called y (option_map plain o) (map plain s.parameters) b r a v) (method_behind v r)

    abbrev judged_in : View → places.Body → Term → Scope → Judgement Typed
    judged_in v w r names = Judge (definitions v) (in_body w (Some r) names (context v y)) a (Some r)

    method_is : (v : View) → method_of v (promise v.scopes) ≡ method v
    method_is v =
        part_assoc (context_of (option_map plain o) v) (λ q. Part (bodied_before y (map plain s.parameters) b (promise v.scopes) a q.0 v) (λ z. Gives (q.1, z))) (method_behind v (promise v.scopes))
        ∙ behind_alike (context_of (option_map plain o) v) (λ q. Part (Part (bodied_before y (map plain s.parameters) b (promise v.scopes) a q.0 v) (λ z. Gives (q.1, z))) (method_behind v (promise v.scopes)))
        (λ q. Part (taking {A = rules.Made × List rules.Made} y s.parameters b (promise v.scopes) a (λ names. names ++ q.0) (λ z. method_behind v (promise v.scopes) (q.1, z)) v)
        (λ k. Part (judged_in v (places.body_of query) (promise v.scopes) (k.scope ++ q.0)) (λ z. method_behind v (promise v.scopes) (q.1, ((k.types, k.patterns), z)))))
        (λ q.
        part_assoc (bodied_before y (map plain s.parameters) b (promise v.scopes) a q.0 v) (λ z. Gives (q.1, z)) (method_behind v (promise v.scopes))
        ∙ (bodied_then y s.parameters b (promise v.scopes) a (λ names. names ++ q.0) (λ z. method_behind v (promise v.scopes) (q.1, z)) v
        ∙ ap (λ (w : places.Body). Part (taking {A = rules.Made × List rules.Made} y s.parameters b (promise v.scopes) a (λ names. names ++ q.0) (λ z. method_behind v (promise v.scopes) (q.1, z)) v)
        (λ k. Part (judged_in v w (promise v.scopes) (k.scope ++ q.0)) (λ z. method_behind v (promise v.scopes) (q.1, ((k.types, k.patterns), z))))) is))

    module _ (c : Scopes) (k : Checker) (t : State) (id : TermId) (w : Wrote k.types t (promise c) id) where
      abbrev whole : View → Judgement (Option (p.Pattern Note) × ((List Term × Patterns Note) × Typed))
      whole = with_context y (option_map plain o) (map plain s.parameters) b id a

      from_promise : (d : Scopes) (l : Checker) (r : Result MadeDeclaration Refusal) → Answers (one_in rest) any_made (λ v. method_of v (term v.later id)) c (here k t) d l r → Answers (one_in rest) any_made method c k d l r
      from_promise d l r j =
          seen_as (one_in rest) any_made method (λ v. method_of v (promise v.scopes)) c d k l r (λ later z. sym (method_is (view later k.types.listed c)))
          (made_first (one_in rest) any_made (λ v. promise v.scopes) method_of c d k l t id r w.same (λ later z. w.made.is later z) j)

      pub method_not : (d : Scopes) (l : Checker) (e : Refusal) (r : Result MadeDeclaration Refusal) → Handed r e → Answers called_in called_reached whole c (here k t) d l (Err e) → Answers (one_in rest) any_made method c k d l r
      method_not d l e r n j = from_promise d l r (stops (one_in rest) any_made called_in called_reached whole (λ v. method_behind v (term v.later id)) c d (here k t) l e r n j)

      module _ (d : Scopes) (l : Checker) (m : Called) (j : Answers called_in called_reached whole c (here k t) d l (Ok m)) where
        pub method_given : (q : List TermId × List (value_pattern.Pattern value_note.Note)) → q ≡ (m.bodied.taken.kinds, m.bodied.taken.patterns) → (sort : Sort) → sort ≡ method_sort query → (u : State) (kind : TermId) → Interned l.types u (form.Shared sort q.0 id) kind
            → (copy : PlacedName) → named copy ≡ x → (sig : Signature value_note.Note) → ((later : List Form) → pattern_view.signature (noted later) sig ≡ signature h (patterns_in q.1 later))
            → Answers (one_in rest) any_made method c k d (here l u) (Ok (record { note = record { at = at; kind = kind }; form = declaration.Method query m.context copy sig m.bodied.body }))
        method_given q e sort v u kind i copy f sig written =
            let made : MadeDeclaration = record { note = record { at = at; kind = kind }; form = declaration.Method query m.context copy sig m.bodied.body } in
            from_promise d (here l u) (Ok made)
            (goes_on (one_in rest) any_made called_in called_reached whole (λ v. method_behind v (term v.later id)) c d d (here k t) l (here l u) m (Ok made) j
            (made_first (one_in rest) any_made (λ v. terms.Shared (method_sort query) (unlisted (map (term v.later) m.bodied.taken.kinds)) (term v.later id)) (λ v. method_end v (called_in m v.later)) d d l (here l u) u kind (Ok made) i.same
            (λ later z. i.made.is later z ∙ (ap (λ (ks : List TermId). terms.Shared sort (unlisted (map (term later) ks)) (term later id)) (ap (λ r. r.0) e) ∙ ap (λ (b : Sort). terms.Shared b (unlisted (map (term later) m.bodied.taken.kinds)) (term later id)) v))
            (given (one_in rest) any_made (λ v. method_end v (called_in m v.later) (term v.later kind)) d (here l u) made (sound_here d l u i.same j.outcome.sound) tt
            (λ later z. sym (ap (λ (w : p.Declaration Note). Gives ((note at (term later kind), w), map (made_in later) rest))
            (seen_Method (λ n. noted later n) query m.context copy sig m.bodied.body
            ∙ (ap (λ (n : Named). p.Method query (called_in m later).0 n (pattern_view.signature (noted later) sig) (called_in m later).1.1) f
            ∙ ap (λ (n : p.Signature Note). p.Method query (called_in m later).0 x n (called_in m later).1.1) (written later ∙ ap (λ (r : List TermId × List (value_pattern.Pattern value_note.Note)). signature h (patterns_in r.1 later)) e))))))))
