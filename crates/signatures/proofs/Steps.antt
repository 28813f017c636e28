-- Names of functions, classes and public functions.
use Rattle.std.proofs.Common.{◌≡◌, ℕ, Bool, true, false, List, [], ◌∷◌, Ok, Err, Option, Some, None, inl, inr, refl, sym, ap, ◌∙◌, subst, map}
use Rattle.std.proofs.Math.Path.{fun_ext}
use Rattle.std.specs.Prelude.{Result}
use Rattle.mo_types.specs.declared.node.Sort.{Sort}
use Rattle.type_terms.specs.declared.form.Form.{Form}
use Rattle.type_terms.specs.declared.form.Form.TheVariants as form
use Rattle.type_terms.specs.declared.form.TermId.{TermId}
use Rattle.typing_rules.specs.declared.condition.Condition.TheVariants as condition
use Rattle.typing_rules.specs.AbstractSyntax.{Bytes, Pattern}
use Rattle.typing_rules.specs.Answers.{fault}
use Rattle.typing_rules.specs.Contexts.{Scope, generic}
use Rattle.typing_rules.specs.Heads.{head}
use Rattle.typing_rules.specs.Judgements.{Judgement, Gives, Asks, IsShareable, Meets, Needs, NeedsEach, Part, Tests, Fine}
use Rattle.typing_rules.specs.Patterns.{Stands}
use Rattle.typing_rules.specs.Signatures.{ContextOf, context_type, method_sort}
use Rattle.typing_rules.specs.Terms.{Term, unit, unlisted}
use Rattle.typing_rules.specs.Terms as t
use Rattle.typing_rules.specs.TypedTrees.{Note}
use Rattle.typing_rules.specs.TypeScopes.{TypeScope}
use Rattle.typed_tree.specs.Shareable as share
use Rattle.type_definitions.specs.Definitions.{Listed, rules_in}
use Rattle.type_definitions.specs.Meanings.{term, term_of}
use Rattle.type_definitions.specs.Tables.{Later}
use Rattle.met_types.specs.States.{State, Goes, IsReached, IsSo, Kept}
use Rattle.definition_rules.proofs.Promoting.{same_itself}
use Rattle.shareable_types.specs.declared.sharing.Sharing.{Sharing}
use Rattle.shareable_types.specs.Answers.{IsAnswer}
use Rattle.shareable_types.specs.Shared.{IsAs}
use Rattle.type_judgements.specs.declared.refusal.Refusal.{Refusal}
use Rattle.type_judgements.specs.declared.refusal.Refusal.TheVariants as refusal
use Rattle.type_judgements.specs.Judged.{Gave, Judged}
use Rattle.type_judgements.specs.LeftBehind.{LeavesOn}
use Rattle.value_scopes.specs.declared.bound.Bound.{Bound}
use Rattle.written_types.specs.Written.{Interned, Wrote}
use Rattle.proper_types.specs.Passing.{Ready, Passed, Refused, Judges}
use Rattle.proper_types.specs.Rules.{Rule, done}
use Rattle.proper_types.proofs.Judging.{first_judges, given, goes_itself, judges_as, left_itself, ready_on, then_judges}
use Rattle.proper_types.proofs.Turns.{turns}
use Rattle.typed_patterns.specs.Binding.{Binds, Names, Pushes, bind, stands}
use Rattle.typed_patterns.proofs.Joining.{Into, binds_none, first_pushes, made_of, not_made, pushes_as, then_pushes}
use Rattle.signatures.specs.Naming.{Binding, bound_to, no_more, shared_of}
use Rattle.signatures.specs.Rules.{all_shareable, each_shareable, is_shareable}
use Rattle.signatures.specs.Taking.{context_of, context_stands}
use Rattle.signatures.proofs.Before.{pushes_before, pushes_there}

-- ---- a type that is met

abbrev meeting : TermId → Rule (Unit {0})
meeting id l later = Meets (term later id) Fine

pub met : (old new : State) (c : Sharing) (id : TermId) → Ready old c → Kept new → Goes old new → Gave (λ later. Meets (term later id) Fine) old new (λ later. tt) → Passed (meeting id old.listed) old new c (done tt)
met old new c id ready k g h = record { ready = ready_on old new c ready k g; goes = g; gave = h }

pub not_met : (old new : State) (c : Sharing) (id : TermId) (e : Refusal) → LeavesOn old new e → Judged (λ later. Meets (term later id) Fine) old new done (Err e) → Judges (meeting id) old new c done (Err e)
not_met old new c id (refusal.False place x) l h = record { left = l; names = h }
not_met old new c id refusal.Memory l h = tt

-- ---- the context of a call

module _ (s : TypeScope) (q : Pattern ℕ) (old mid : State) (id : TermId) (w : Wrote old mid context_type id) where
  abbrev met_first : Rule (Scope × Pattern Note)
  met_first l later = Part (meeting id l later) (λ u. stands s q id l later)

  caller_is : (later : List Form) → Later mid.forms later → met_first mid.listed later ≡ context_stands s q mid.listed later
  caller_is later l = ap (λ (u : Term). Meets u (Stands (rules_in later mid.listed) s q u)) (w.made.is later l)

  pub caller_not_met : {N : Type 0} (new : State) (a c : Sharing) (before after : Names) (show : N → List Form → Pattern Note) (e : Refusal) → Judges (meeting id) mid new a done (Err e) → Pushes (context_stands s q) old new c before after show (Err e)
  caller_not_met new a c before after show e h = pushes_before (context_stands s q) old mid new w.same c before after show (Err e)
      (pushes_there met_first (context_stands s q) mid new c before after show caller_is (Err e) (first_pushes (meeting id) (λ l later u. stands s q id l later) mid new a c before after done show e h))

  pub caller_met : {N : Type 0} (next new : State) (a c : Sharing) (before after : Names) (show : N → List Form → Pattern Note) (r : Result N Refusal) → Passed (meeting id mid.listed) mid next a (done tt) → Pushes (stands s q id) next new c before after show r
      → Pushes (context_stands s q) old new c before after show r
  caller_met next new a c before after show r h g = pushes_before (context_stands s q) old mid new w.same c before after show r
      (pushes_there met_first (context_stands s q) mid new c before after show caller_is r (then_pushes (meeting id) (λ l later u. stands s q id l later) mid next new a c before after (done tt) show r h g))

module _ (s : TypeScope) (o : Option (Pattern ℕ)) where
  abbrev or_none : Option (Pattern ℕ) → Rule (Scope × Option (Pattern Note))
  or_none m l later = ContextOf (rules_in later l) s m

  pub no_context : (st : State) (c : Sharing) (names : Names) (x : List Form → Option (Pattern Note)) → o ≡ None → x ≡ (λ later. None) → Ready st c → Binds (context_of s o) st st c names names x
  no_context st c names x e f ready = subst (λ (m : Option (Pattern ℕ)). Binds (or_none m) st st c names names x) (sym e)
      (subst (λ (y : List Form → Option (Pattern Note)). Binds (or_none None) st st c names names y) (sym f)
      (binds_none (or_none None) st st c names (λ later. None) (given (or_none None st.listed) st st c (bind [] (λ later. None)) (same_itself st ready.kept) ready (λ later l. refl))))

  module _ (q : Pattern ℕ) (e : o ≡ Some q) where
    abbrev some_context : Rule (Scope × Option (Pattern Note))
    some_context = Into (context_stands s q) (λ later x. Some x)

    some_is : (l : Listed) (later : List Form) → some_context l later ≡ context_of s o l later
    some_is l later = ap (λ (m : Option (Pattern ℕ)). or_none m l later) (sym e)

    pub context_not : {M N : Type 0} (old new : State) (c : Sharing) (before after : Names) (see : M → List Form → Pattern Note) (show : N → List Form → Option (Pattern Note)) (r : Refusal) → Pushes (context_stands s q) old new c before after see (Err r)
        → Pushes (context_of s o) old new c before after show (Err r)
    context_not old new c before after see show r h = pushes_as some_context (context_of s o) old new c before after show some_is (Err r) (not_made (context_stands s q) (λ later x. Some x) old new c before after see show r h)

    pub context_is : (old new : State) (c : Sharing) (before after : Names) (x : List Form → Pattern Note) → Binds (context_stands s q) old new c before after x → Binds (context_of s o) old new c before after (λ later. Some (x later))
    context_is old new c before after x h = pushes_as some_context (context_of s o) old new c before after (λ (u : Unit {0}) later. Some (x later)) some_is (Ok tt)
        (made_of (context_stands s q) (λ later y. Some y) old new c before after x (λ later. Some (x later)) (λ later. refl) h)

-- ---- a name

module _ (x : Bytes) (places : List ℕ) (id : TermId) where
  abbrev bound : Listed → List Form → Unit {0} → Judgement (Scope × Unit {0})
  bound l later u = Gives ((x, generic places (term later id)) ∷ [], tt)

  pub not_bound : {N : Type 0} (old new : State) (a c : Sharing) (before after : Names) (show : N → List Form → Unit {0}) (e : Refusal) → Judges (meeting id) old new a done (Err e) → Pushes (bound_to x places id) old new c before after show (Err e)
  not_bound old new a c before after show e h = first_pushes (meeting id) bound old new a c before after done show e h

  pub is_bound : (old new : State) (c : Sharing) (before after : Names) (b : Bound) → b ≡ record { kind = id; mutable = false; generics = places } → after ≡ (x, b) ∷ before → IsReached new id → Passed (meeting id old.listed) old new c (done tt)
      → Binds (bound_to x places id) old new c before after (no_more tt)
  is_bound old new c before after b e m r h = record {
    more = (x, record { kind = id; mutable = false; generics = places }) ∷ [];
    names = m ∙ ap (λ (d : Bound). (x, d) ∷ before) e;
    reached = (r, tt);
    passed = then_judges (meeting id) bound old new new c c (done tt) (λ (u : Unit {0}). bind ((x, record { kind = id; mutable = false; generics = places }) ∷ []) (no_more tt)) (Ok tt) h
        (given (λ later. bound new.listed later tt) new new c (bind ((x, record { kind = id; mutable = false; generics = places }) ∷ []) (no_more tt)) (same_itself new h.ready.kept) h.ready (λ later l. refl));
  }

-- the type of the form is made first
module _ (x : Bytes) (places : List ℕ) (f : Form) (id : TermId) (old mid : State) (i : Interned old mid f id) (j : Rule (Scope × Unit {0})) (e : (later : List Form) → Binding x places (term_of (term later) f) ≡ j mid.listed later) where
  made_is : (later : List Form) → Later mid.forms later → bound_to x places id mid.listed later ≡ j mid.listed later
  made_is later l = ap (Binding x places) (i.made.is later l) ∙ e later

  pub made_first : {N : Type 0} (new : State) (c : Sharing) (before after : Names) (show : N → List Form → Unit {0}) (r : Result N Refusal) → Pushes (bound_to x places id) mid new c before after show r → Pushes j old new c before after show r
  made_first new c before after show r h = pushes_before j old mid new i.same c before after show r (pushes_there (bound_to x places id) j mid new c before after show made_is r h)

-- ---- types that are shareable

module _ (at : ℕ) (id : TermId) (st : State) (a : Bool) (c : Sharing) (e : a ≡ true) where
  asked : (is : Bool) → IsAnswer a st id is → (later : List Form) → Later st.forms later → IsSo is (share.IsShareable (head (rules_in later st.listed)) (term later id))
  asked is h later l = subst (λ (b : Bool). IsSo is (IsAs b (head (rules_in later st.listed)) (term later id))) e (h later l)

  pub is_sent : Ready st c → IsAnswer a st id true → Passed (is_shareable at id st.listed) st st c (done tt)
  is_sent ready h = record { ready = ready; goes = goes_itself st; gave = record { by = λ met st later l. (met, st, inl (asked true h later l, refl)) } }

  pub is_not_sent : IsAnswer a st id false → Refused (is_shareable at id st.listed) st st (fault condition.NotShared at)
  is_not_sent h = record { left = left_itself st; names = record { by = λ met st later l. (met, inr (asked false h later l, refl)) } }

abbrev pub one_shareable : ℕ → Listed → List Form → TermId → Judgement (Unit {0})
one_shareable at l later id = is_shareable at id l later

needs_then : (at : ℕ) (u : Term) (us : List Term) → Part (Needs condition.NotShared at (IsShareable u) Fine) (λ b. NeedsEach condition.NotShared at (map IsShareable us) Fine) ≡ NeedsEach condition.NotShared at (map IsShareable (u ∷ us)) Fine
needs_then at u us = ap (Asks (IsShareable u)) (fun_ext by) where
  by : (yes : Bool) → Part (Tests condition.NotShared at yes Fine) (λ b. NeedsEach condition.NotShared at (map IsShareable us) Fine) ≡ Tests condition.NotShared at yes (NeedsEach condition.NotShared at (map IsShareable us) Fine)
  by true = refl
  by false = refl

pub each_sent : (at : ℕ) (ids : List TermId) (l : Listed) (later : List Form) → turns (one_shareable at) ids l later ≡ each_shareable at ids l later
each_sent at [] l later = refl
each_sent at (id ∷ ids) l later =
    ap (λ (j : Judgement (Unit {0})). Part (is_shareable at id l later) (λ b. j)) (each_sent at ids l later) ∙ needs_then at (term later id) (map (term later) ids)

module _ (at : ℕ) (ids : List TermId) (id : TermId) where
  sent_first : (l : Listed) (later : List Form) → Part (is_shareable at id l later) (λ u. each_shareable at ids l later) ≡ all_shareable at ids id l later
  sent_first l later = needs_then at (term later id) (map (term later) ids)

  pub not_promised : (old new : State) (a c : Sharing) (e : Refusal) → Judges (is_shareable at id) old new a done (Err e) → Judges (all_shareable at ids id) old new c done (Err e)
  not_promised old new a c e h = judges_as (λ l later. Part (is_shareable at id l later) (λ u. each_shareable at ids l later)) (all_shareable at ids id) old new c done (Err e) sent_first
      (first_judges (is_shareable at id) (λ l later u. each_shareable at ids l later) old new a c done done e h)

  pub all_sent : (old mid new : State) (a c : Sharing) (r : Result (Unit {0}) Refusal) → Passed (is_shareable at id old.listed) old mid a (done tt) → Judges (each_shareable at ids) mid new c done r → Judges (all_shareable at ids id) old new c done r
  all_sent old mid new a c r h g = judges_as (λ l later. Part (is_shareable at id l later) (λ u. each_shareable at ids l later)) (all_shareable at ids id) old new c done r sent_first
      (then_judges (is_shareable at id) (λ l later u. each_shareable at ids l later) old mid new a c (done tt) done r h g)

pub each_judged : (at : ℕ) (ids : List TermId) (old new : State) (c : Sharing) (r : Result (Unit {0}) Refusal) → Judges (turns (one_shareable at) ids) old new c done r → Judges (each_shareable at ids) old new c done r
each_judged at ids old new c r h = judges_as (turns (one_shareable at) ids) (each_shareable at ids) old new c done r (each_sent at ids) h

pub shared_first : {N : Type 0} (x : Bytes) (query : Bool) (ids : List TermId) (of : TermId) (places : List ℕ) (o : Sort) → places ≡ [] → o ≡ method_sort query → (id : TermId) (old mid : State) → Interned old mid (form.Shared o ids of) id
    → (new : State) (c : Sharing) (before after : Names) (show : N → List Form → Unit {0}) (r : Result N Refusal) → Pushes (bound_to x places id) mid new c before after show r → Pushes (shared_of x query ids of) old new c before after show r
shared_first x query ids of places o e f id old mid i new c before after show r h =
    made_first x places (form.Shared o ids of) id old mid i (shared_of x query ids of)
    (λ later. ap (λ (ps : List ℕ). Binding x ps (t.Shared o (unlisted (map (term later) ids)) (term later of))) e ∙ ap (λ (s : Sort). Binding x [] (t.Shared s (unlisted (map (term later) ids)) (term later of))) f)
    new c before after show r h
