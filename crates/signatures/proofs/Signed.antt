-- Signatures, part by part.
use Rattle.std.proofs.Common.{◌≡◌, ℕ, Bool, List, [], ◌∷◌, Err, Option, sym, ap, ◌∙◌, subst, map}
use Rattle.std.specs.Prelude.{Result}
use Rattle.mo_types.specs.Sub.{Each}
use Rattle.type_terms.specs.declared.form.Form.{Form}
use Rattle.type_terms.specs.declared.form.TermId.{TermId}
use Rattle.typing_rules.specs.AbstractSyntax.{Bytes, Declarations, Expression, Named, Pattern, Signature}
use Rattle.typing_rules.specs.AbstractSyntax as p
use Rattle.typing_rules.specs.Contexts.{Scope, generic}
use Rattle.typing_rules.specs.DeclaredTypes.{class_type, within}
use Rattle.typing_rules.specs.Judgements.{Judgement, Gives, Meets, Part}
use Rattle.typing_rules.specs.Signatures.{AsyncResult, ParameterTypes, method_sort}
use Rattle.typing_rules.specs.Terms.{Term, unit, unlisted}
use Rattle.typing_rules.specs.Terms as t
use Rattle.typing_rules.specs.Types.{AllShareable, ReadsOr}
use Rattle.typing_rules.specs.TypeScopes.{TypeScope, names_of, places_of}
use Rattle.type_definitions.specs.Definitions.{Listed, rules_in}
use Rattle.type_definitions.specs.Meanings.{term}
use Rattle.type_definitions.specs.Tables.{Within}
use Rattle.type_definitions.proofs.Meanings.{each_within}
use Rattle.met_types.specs.States.{State, Kept, Goes, IsReached}
use Rattle.shareable_types.specs.declared.sharing.Sharing.{Sharing}
use Rattle.abstract_types.specs.declared.patterns.Pattern as value_pattern
use Rattle.abstract_types.specs.declared.types.TypeParameter as value_parameter
use Rattle.abstract_types.specs.PatternView.{plain}
use Rattle.abstract_types.specs.TypeView.{parameter}
use Rattle.type_judgements.specs.declared.refusal.Refusal.{Refusal}
use Rattle.written_types.specs.Written.{Wrote}
use Rattle.proper_types.specs.Passing.{Passed, Judges}
use Rattle.proper_types.specs.Rules.{Rule, as_term, as_terms, done, generics}
use Rattle.proper_types.proofs.Readings.{within_reached}
use Rattle.proper_types.proofs.Turns.{part_assoc}
use Rattle.typed_patterns.specs.Binding.{Names, Pushes}
use Rattle.typed_patterns.proofs.Joining.{first_pushes, pushes_as, then_pushes}
use Rattle.signatures.specs.Naming.{Binding, class_within, function_of, function_within, shared_of, signature_of}
use Rattle.signatures.specs.Rules.{all_shareable, async_result, parameter_types, result_of}
use Rattle.signatures.proofs.Before.{pushes_before, pushes_there}
use Rattle.typed_patterns.proofs.Standing.{behind_alike}

-- ---- types that were met are in each later table

each_within_reached : (s : State) (ids : List TermId) → Kept s → Each (IsReached s) ids → Each (Within s.forms) ids
each_within_reached s [] k h = tt
each_within_reached s (id ∷ ids) k h = (within_reached s id k h.0, each_within_reached s ids k h.1)

pub within_later : (old new : State) (ids : List TermId) → Kept old → Goes old new → Each (IsReached old) ids → Each (Within new.forms) ids
within_later old new ids k g h = each_within old.forms new.forms ids g.forms (each_within_reached old ids k h)

-- ---- lists that are the same

pub generics_there : (s : TypeScope) (xs ys : List value_parameter.TypeParameter) (old new : State) (c : Sharing) (r : Result (Unit {0}) Refusal) → xs ≡ ys → Judges (generics s (map parameter xs)) old new c done r → Judges (generics s (map parameter ys)) old new c done r
generics_there s xs ys old new c r e h = subst (λ (zs : List value_parameter.TypeParameter). Judges (generics s (map parameter zs)) old new c done r) e h

pub parameters_there : (s : TypeScope) (xs ys : List (value_pattern.Pattern ℕ)) (old new : State) (c : Sharing) (r : Result (List TermId) Refusal) → xs ≡ ys → Judges (parameter_types s (map plain xs)) old new c as_terms r
    → Judges (parameter_types s (map plain ys)) old new c as_terms r
parameters_there s xs ys old new c r e h = subst (λ (zs : List (value_pattern.Pattern ℕ)). Judges (parameter_types s (map plain zs)) old new c as_terms r) e h

-- ---- functions

module _ (s : TypeScope) (x : Named) (g : Signature ℕ) where
  abbrev places : List ℕ
  places = places_of (names_of g.generics)

  abbrev pub parameters_of : Rule (List Term)
  parameters_of l later = ParameterTypes (rules_in later l) s g.parameters

  abbrev function_type : List Term → Term → Judgement (Scope × Unit {0})
  function_type us r = Binding x.bytes places (t.Function (unlisted us) r)

  abbrev behind_parameters : Listed → List Form → List Term → Judgement (Scope × Unit {0})
  behind_parameters l later us = Part (ReadsOr (rules_in later l) s g.result unit) (function_type us)

  abbrev behind_generics : Listed → List Form → Unit {0} → Judgement (Scope × Unit {0})
  behind_generics l later u = Part (parameters_of l later) (behind_parameters l later)

  pub generics_not : {M N : Type 0} (old new : State) (a c : Sharing) (before after : Names) (see : M → List Form → Unit {0}) (show : N → List Form → Unit {0}) (e : Refusal) → Judges (generics s g.generics) old new a see (Err e)
      → Pushes (function_within s x g) old new c before after show (Err e)
  generics_not old new a c before after see show e h = first_pushes (generics s g.generics) behind_generics old new a c before after see show e h

  module _ (old mid : State) (a : Sharing) (h : Passed (generics s g.generics old.listed) old mid a (done tt)) where
    pub parameters_not : {M N : Type 0} (new : State) (b c : Sharing) (before after : Names) (see : M → List Form → List Term) (show : N → List Form → Unit {0}) (e : Refusal) → Judges parameters_of mid new b see (Err e)
        → Pushes (function_within s x g) old new c before after show (Err e)
    parameters_not new b c before after see show e k = then_pushes (generics s g.generics) behind_generics old mid new a c before after (done tt) show (Err e) h (first_pushes parameters_of behind_parameters mid new b c before after see show e k)

    module _ (next : State) (b : Sharing) (ids : List TermId) (k : Passed (parameters_of mid.listed) mid next b (as_terms ids)) where
      pub result_not : {M N : Type 0} (new : State) (d c : Sharing) (before after : Names) (see : M → List Form → Term) (show : N → List Form → Unit {0}) (e : Refusal) → Judges (result_of s g.result) next new d see (Err e)
          → Pushes (function_within s x g) old new c before after show (Err e)
      result_not new d c before after see show e m =
          then_pushes (generics s g.generics) behind_generics old mid new a c before after (done tt) show (Err e) h
          (then_pushes parameters_of behind_parameters mid next new b c before after (as_terms ids) show (Err e) k
          (first_pushes (result_of s g.result) (λ l later. function_type (map (term later) ids)) next new d c before after see show e m))

      pub function_named : {N : Type 0} (last new : State) (d c : Sharing) (before after : Names) (of : TermId) (ps : List ℕ) (show : N → List Form → Unit {0}) (r : Result N Refusal) → Passed (result_of s g.result next.listed) next last d (as_term of) → ps ≡ places
          → Pushes (function_of x.bytes ps ids of) last new c before after show r → Pushes (function_within s x g) old new c before after show r
      function_named last new d c before after of ps show r m e n =
          then_pushes (generics s g.generics) behind_generics old mid new a c before after (done tt) show r h
          (then_pushes parameters_of behind_parameters mid next new b c before after (as_terms ids) show r k
          (then_pushes (result_of s g.result) (λ l later. function_type (map (term later) ids)) next last new d c before after (as_term of) show r m
          (subst (λ (qs : List ℕ). Pushes (function_of x.bytes qs ids of) last new c before after show r) e n)))

  -- ---- classes

  abbrev class_behind_parameters : Listed → List Form → List Term → Judgement (Scope × Unit {0})
  class_behind_parameters l later us = function_type us (class_type s x)

  abbrev class_behind_generics : Listed → List Form → Unit {0} → Judgement (Scope × Unit {0})
  class_behind_generics l later u = Part (parameters_of l later) (class_behind_parameters l later)

  pub class_generics_not : {M N : Type 0} (old new : State) (a c : Sharing) (before after : Names) (see : M → List Form → Unit {0}) (show : N → List Form → Unit {0}) (e : Refusal) → Judges (generics s g.generics) old new a see (Err e)
      → Pushes (class_within s x g) old new c before after show (Err e)
  class_generics_not old new a c before after see show e h = first_pushes (generics s g.generics) class_behind_generics old new a c before after see show e h

  module _ (old mid : State) (a : Sharing) (h : Passed (generics s g.generics old.listed) old mid a (done tt)) where
    pub class_parameters_not : {M N : Type 0} (new : State) (b c : Sharing) (before after : Names) (see : M → List Form → List Term) (show : N → List Form → Unit {0}) (e : Refusal) → Judges parameters_of mid new b see (Err e)
        → Pushes (class_within s x g) old new c before after show (Err e)
    class_parameters_not new b c before after see show e k = then_pushes (generics s g.generics) class_behind_generics old mid new a c before after (done tt) show (Err e) h
        (first_pushes parameters_of class_behind_parameters mid new b c before after see show e k)

    pub class_named : {N : Type 0} (next last new : State) (b c : Sharing) (before after : Names) (ids : List TermId) (of : TermId) (ps : List ℕ) (show : N → List Form → Unit {0}) (r : Result N Refusal) → Passed (parameters_of mid.listed) mid next b (as_terms ids)
        → Wrote next last (class_type s x) of → ps ≡ places → Pushes (function_of x.bytes ps ids of) last new c before after show r → Pushes (class_within s x g) old new c before after show r
    class_named next last new b c before after ids of ps show r k w e m =
        then_pushes (generics s g.generics) class_behind_generics old mid new a c before after (done tt) show r h
        (then_pushes parameters_of class_behind_parameters mid next new b c before after (as_terms ids) show r k
        (pushes_before (λ l later. class_behind_parameters l later (map (term later) ids)) next last new w.same c before after show r
        (pushes_there (function_of x.bytes places ids of) (λ l later. class_behind_parameters l later (map (term later) ids)) last new c before after show (λ later l. ap (function_type (map (term later) ids)) (w.made.is later l)) r
        (subst (λ (qs : List ℕ). Pushes (function_of x.bytes qs ids of) last new c before after show r) e m))))

  -- ---- public functions

  module _ (query : Bool) where
    abbrev shared_type : List Term → Term → Judgement (Scope × Unit {0})
    shared_type us r = Binding x.bytes [] (t.Shared (method_sort query) (unlisted us) r)

    abbrev behind_sent : Listed → List Form → List Term → Term → Unit {0} → Judgement (Scope × Unit {0})
    behind_sent l later us r u = shared_type us r

    abbrev behind_result : Listed → List Form → List Term → Term → Judgement (Scope × Unit {0})
    behind_result l later us r = Part (AllShareable x.at us r) (behind_sent l later us r)

    abbrev behind_taken : Listed → List Form → List Term → Judgement (Scope × Unit {0})
    behind_taken l later us = Part (AsyncResult (rules_in later l) x.at s g.result) (behind_result l later us)

    -- the rule of a public function, where its name is given last
    abbrev pub method_within : Rule (Scope × Unit {0})
    method_within l later = Part (parameters_of l later) (behind_taken l later)

    pub method_parameters_not : {M N : Type 0} (old new : State) (a c : Sharing) (before after : Names) (see : M → List Form → List Term) (show : N → List Form → Unit {0}) (e : Refusal) → Judges parameters_of old new a see (Err e)
        → Pushes method_within old new c before after show (Err e)
    method_parameters_not old new a c before after see show e h = first_pushes parameters_of behind_taken old new a c before after see show e h

    module _ (old mid : State) (a : Sharing) (ids : List TermId) (h : Passed (parameters_of old.listed) old mid a (as_terms ids)) where
      pub method_result_not : {M N : Type 0} (new : State) (b c : Sharing) (before after : Names) (see : M → List Form → Term) (show : N → List Form → Unit {0}) (e : Refusal) → Judges (async_result s x.at g.result) mid new b see (Err e)
          → Pushes method_within old new c before after show (Err e)
      method_result_not new b c before after see show e k = then_pushes parameters_of behind_taken old mid new a c before after (as_terms ids) show (Err e) h
          (first_pushes (async_result s x.at g.result) (λ l later. behind_result l later (map (term later) ids)) mid new b c before after see show e k)

      module _ (next : State) (b : Sharing) (of : TermId) (k : Passed (async_result s x.at g.result mid.listed) mid next b (as_term of)) where
        pub method_not_sent : {M N : Type 0} (new : State) (d c : Sharing) (before after : Names) (see : M → List Form → Unit {0}) (show : N → List Form → Unit {0}) (e : Refusal) → Judges (all_shareable x.at ids of) next new d see (Err e)
            → Pushes method_within old new c before after show (Err e)
        method_not_sent new d c before after see show e m = then_pushes parameters_of behind_taken old mid new a c before after (as_terms ids) show (Err e) h
            (then_pushes (async_result s x.at g.result) (λ l later. behind_result l later (map (term later) ids)) mid next new b c before after (as_term of) show (Err e) k
            (first_pushes (all_shareable x.at ids of) (λ l later. behind_sent l later (map (term later) ids) (term later of)) next new d c before after see show e m))

        pub method_named : {N : Type 0} (last new : State) (d c : Sharing) (before after : Names) (show : N → List Form → Unit {0}) (r : Result N Refusal) → Passed (all_shareable x.at ids of next.listed) next last d (done tt)
            → Pushes (shared_of x.bytes query ids of) last new c before after show r → Pushes method_within old new c before after show r
        method_named last new d c before after show r m n = then_pushes parameters_of behind_taken old mid new a c before after (as_terms ids) show r h
            (then_pushes (async_result s x.at g.result) (λ l later. behind_result l later (map (term later) ids)) mid next new b c before after (as_term of) show r k
            (then_pushes (all_shareable x.at ids of) (λ l later. behind_sent l later (map (term later) ids) (term later of)) next last new d c before after (done tt) show r m n))

-- ---- the rules of declarations

module _ (s : TypeScope) (x : Named) (g : Signature ℕ) where
  abbrev named : Scope → Judgement (Scope × Unit {0})
  named n = Gives (n, tt)

  abbrev bound_as : Term → List ℕ → Judgement Scope
  bound_as u ps = Meets u (Gives ((x.bytes, generic ps u) ∷ []))

  pub function_is : (body : Expression ℕ) (l : Listed) (later : List Form) → function_within (within s g) x g l later ≡ signature_of s (p.Func x g body) l later
  function_is body l later = sym
      (part_assoc (generics (within s g) g.generics l later) (λ u. Part (parameters_of (within s g) x g l later) (λ us. Part (ReadsOr (rules_in later l) (within s g) g.result unit) (λ r. bound_as (t.Function (unlisted us) r) (places_of (names_of g.generics))))) named
      ∙ behind_alike (generics (within s g) g.generics l later) (λ u. Part (Part (parameters_of (within s g) x g l later) (λ us. Part (ReadsOr (rules_in later l) (within s g) g.result unit) (λ r. bound_as (t.Function (unlisted us) r) (places_of (names_of g.generics))))) named)
      (behind_generics (within s g) x g l later)
      (λ u.
      part_assoc (parameters_of (within s g) x g l later) (λ us. Part (ReadsOr (rules_in later l) (within s g) g.result unit) (λ r. bound_as (t.Function (unlisted us) r) (places_of (names_of g.generics)))) named
      ∙ behind_alike (parameters_of (within s g) x g l later) (λ us. Part (Part (ReadsOr (rules_in later l) (within s g) g.result unit) (λ r. bound_as (t.Function (unlisted us) r) (places_of (names_of g.generics)))) named) (behind_parameters (within s g) x g l later)
      (λ us. part_assoc (ReadsOr (rules_in later l) (within s g) g.result unit) (λ r. bound_as (t.Function (unlisted us) r) (places_of (names_of g.generics))) named)))

  pub class_is : (fields : Declarations ℕ) (l : Listed) (later : List Form) → class_within (within s g) x g l later ≡ signature_of s (p.Class x g fields) l later
  class_is fields l later = sym
      (part_assoc (generics (within s g) g.generics l later) (λ u. Part (parameters_of (within s g) x g l later) (λ us. bound_as (t.Function (unlisted us) (class_type (within s g) x)) (places_of (names_of g.generics)))) named
      ∙ behind_alike (generics (within s g) g.generics l later) (λ u. Part (Part (parameters_of (within s g) x g l later) (λ us. bound_as (t.Function (unlisted us) (class_type (within s g) x)) (places_of (names_of g.generics)))) named)
      (class_behind_generics (within s g) x g l later)
      (λ u. part_assoc (parameters_of (within s g) x g l later) (λ us. bound_as (t.Function (unlisted us) (class_type (within s g) x)) (places_of (names_of g.generics))) named))

  pub method_is : (query : Bool) (context : Option (Pattern ℕ)) (body : Expression ℕ) (l : Listed) (later : List Form) → method_within s x g query l later ≡ signature_of s (p.Method query context x g body) l later
  method_is query context body l later = sym
      (part_assoc (parameters_of s x g l later) (λ us. Part (AsyncResult (rules_in later l) x.at s g.result) (λ r. Part (AllShareable x.at us r) (λ u. bound_as (t.Shared (method_sort query) (unlisted us) r) []))) named
      ∙ behind_alike (parameters_of s x g l later) (λ us. Part (Part (AsyncResult (rules_in later l) x.at s g.result) (λ r. Part (AllShareable x.at us r) (λ u. bound_as (t.Shared (method_sort query) (unlisted us) r) []))) named) (behind_taken s x g query l later)
      (λ us.
      part_assoc (AsyncResult (rules_in later l) x.at s g.result) (λ r. Part (AllShareable x.at us r) (λ u. bound_as (t.Shared (method_sort query) (unlisted us) r) [])) named
      ∙ behind_alike (AsyncResult (rules_in later l) x.at s g.result) (λ r. Part (Part (AllShareable x.at us r) (λ u. bound_as (t.Shared (method_sort query) (unlisted us) r) [])) named) (behind_result s x g query l later us)
      (λ r. part_assoc (AllShareable x.at us r) (λ u. bound_as (t.Shared (method_sort query) (unlisted us) r) []) named)))

  -- in the scope in which the type parameters are
  module _ {N : Type 0} (inner : TypeScope) (e : inner ≡ within s g) (old new : State) (c : Sharing) (before after : Names) (show : N → List Form → Unit {0}) (r : Result N Refusal) where
    pub function_there : (body : Expression ℕ) → Pushes (function_within inner x g) old new c before after show r → Pushes (signature_of s (p.Func x g body)) old new c before after show r
    function_there body h = pushes_as (function_within (within s g) x g) (signature_of s (p.Func x g body)) old new c before after show (function_is body) r
        (subst (λ (i : TypeScope). Pushes (function_within i x g) old new c before after show r) e h)

    pub class_there : (fields : Declarations ℕ) → Pushes (class_within inner x g) old new c before after show r → Pushes (signature_of s (p.Class x g fields)) old new c before after show r
    class_there fields h = pushes_as (class_within (within s g) x g) (signature_of s (p.Class x g fields)) old new c before after show (class_is fields) r
        (subst (λ (i : TypeScope). Pushes (class_within i x g) old new c before after show r) e h)

  pub method_there : {N : Type 0} (query : Bool) (context : Option (Pattern ℕ)) (body : Expression ℕ) (old new : State) (c : Sharing) (before after : Names) (show : N → List Form → Unit {0}) (r : Result N Refusal) → Pushes (method_within s x g query) old new c before after show r
      → Pushes (signature_of s (p.Method query context x g body)) old new c before after show r
  method_there query context body old new c before after show r h = pushes_as (method_within s x g query) (signature_of s (p.Method query context x g body)) old new c before after show (method_is query context body) r h
