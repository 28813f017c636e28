-- Types that are read, type parameters and definitions.
use Rattle.std.proofs.Common.{◌≡◌, ℕ, Bool, true, false, List, [], ◌∷◌, ◌++◌, Ok, Err, Option, Some, None, is_some, refl, sym, ap, ◌∙◌, subst, map}
use Rattle.std.proofs.Math.Path.{fun_ext}
use Rattle.std.specs.Prelude.{Result, IfErr, IfOk, OnOk}
use Rattle.mo_types.specs.Sub.{Each}
use Rattle.type_terms.specs.declared.form.Form.{Form}
use Rattle.type_terms.specs.declared.form.Form.TheVariants as form
use Rattle.type_terms.specs.declared.form.TermId.{TermId}
use Rattle.typing_rules.specs.declared.condition.Condition.{Condition}
use Rattle.typing_rules.specs.declared.condition.Condition.TheVariants as condition
use Rattle.typing_rules.specs.AbstractSyntax.{Named, TypeNode}
use Rattle.typing_rules.specs.Terms.{Term, Any}
use Rattle.typing_rules.specs.Definitions.{Definitions, definition_at, reached}
use Rattle.typing_rules.specs.Groups.{keeps_parameters}
use Rattle.typing_rules.specs.Judgements.{Judgement, Gives, Fails, Asks, Meets, Part, Tests, Fine}
use Rattle.typing_rules.specs.Answers.{Fault, fault}
use Rattle.typing_rules.specs.TypeScopes.{TypeScope}
use Rattle.typing_rules.specs.TypeScopes as rules
use Rattle.typing_rules.specs.Types.{Reads, ReadsEach, ReadsOr, ends}
use Rattle.type_definitions.specs.Meanings.{term}
use Rattle.type_definitions.specs.Tables.{IsTermOf, Later, Makes, Within}
use Rattle.type_definitions.specs.Definitions.{Listed, rules_in}
use Rattle.type_definitions.specs.declared.chains.Outcome.{Outcome}
use Rattle.type_definitions.proofs.Meanings.{later_on}
use Rattle.met_types.specs.States.{State, Kept, Goes, IsReached}
use Rattle.definition_rules.specs.Bounds.{Same, Ends}
use Rattle.definition_rules.specs.Outcomes.{HasType}
use Rattle.definition_rules.specs.Uses.{KeepsParameters}
use Rattle.definition_rules.proofs.Promoting.{same_itself}
use Rattle.shareable_types.specs.declared.sharing.Sharing.{Sharing}
use Rattle.abstract_types.specs.declared.types.TypeNode as value
use Rattle.abstract_types.specs.declared.types.TypeParameter as value_parameter
use Rattle.abstract_types.specs.TypeView.{annotation, parameter, type_node}
use Rattle.written_types.specs.Written.{Is}
use Rattle.type_judgements.specs.declared.refusal.Refusal.{Refusal}
use Rattle.type_judgements.specs.declared.refusal.Refusal.TheVariants as refusal
use Rattle.type_judgements.specs.Judged.{Gave, Names, Judged}
use Rattle.type_judgements.specs.LeftBehind.{LeavesOn}
use Rattle.type_judgements.proofs.Turns.{gave_then, names_first}
use Rattle.proper_types.specs.Passing.{Ready, Passed, Refused, Judges}
use Rattle.proper_types.specs.Rules.{Rule, InTurn, as_term, as_terms, bound_ends, defines, done, generics, given_or, is_met, proper, reads, reads_each, stands}
use Rattle.proper_types.proofs.Judging.{failed, first_judges, gave_as, given, goes_itself, goes_on, judges_as, left_on, left_there, names_as, ready_on, then_judges}
use Rattle.proper_types.proofs.Turns.{part_alike, part_assoc, turns}

-- ---- terms that are made before a step

module _ {A : Type 0} (j : List Form → Judgement A) (old mid new : State) (same : Same old mid) where
  gave_before : (a : List Form → A) → Gave j mid new a → Gave j old new a
  gave_before a g = record { by = λ met st later l. g.by met (same.stands met st) later l }

  names_before : (f : Fault) → Names j mid new f → Names j old new f
  names_before f g = record { by = λ met st later l. g.by met (same.stands met st) later l }

-- ---- a type that is read

pub within_reached : (s : State) (id : TermId) → Kept s → IsReached s id → Within s.forms id
within_reached s id k h = k.formed.within h.0 id h.1

pub reached_on : (old new : State) (id : TermId) → Goes old new → IsReached old id → IsReached new id
reached_on old new id g h = (h.0, g.reached h.0 id h.1)

pub each_reached_on : (old new : State) (ids : List TermId) → Goes old new → Each (IsReached old) ids → Each (IsReached new) ids
each_reached_on old new [] g h = tt
each_reached_on old new (id ∷ ids) g h = (reached_on old new id g h.0, each_reached_on old new ids g h.1)

module _ (s : TypeScope) (n : TypeNode) where
  abbrev meeting : Listed → List Form → Unit {0} → Judgement Term
  meeting l later u = Meets (rules.term s n) (Gives (rules.term s n))

  pub improper : (old new : State) (a c : Sharing) (e : Refusal) → Judges (proper s n) old new a done (Err e) → Judges (reads s n) old new c as_term (Err e)
  improper old new a c e h = first_judges (proper s n) meeting old new a c done as_term e h

  module _ (old mid next new : State) (a : Sharing) (id : TermId) (p : Passed (proper s n old.listed) old mid a (done tt)) (same : Same mid next) (m : Makes mid.forms (Is (rules.term s n) id) id next.forms) where
    is_written : (later : List Form) → Later next.forms later → Part (Meets (term later id) Fine) (λ u. Gives (term later id)) ≡ meeting mid.listed later tt
    is_written later l = ap (λ (u : Term). Meets u (Gives u)) (m.is later l)

    pub met : Kept new → Goes next new → Gave (λ later. Meets (term later id) Fine) next new (λ later. tt) → Passed (reads s n old.listed) old new a (as_term id)
    met k g h = then_judges (proper s n) meeting old mid new a a (done tt) as_term (Ok id) p (record {
      ready = ready_on next new a (ready_on mid next a p.ready same.kept same.goes) k g;
      goes = goes_on mid next new same.goes g;
      gave = gave_before (λ later. meeting mid.listed later tt) mid next new same (as_term id)
          (gave_as (λ later. Part (Meets (term later id) Fine) (λ u. Gives (term later id))) (λ later. meeting mid.listed later tt) next new (λ later l. is_written later (later_on next.forms new.forms later g.forms l)) (as_term id)
          (gave_then (λ later. Meets (term later id) Fine) (λ later u. Gives (term later id)) next new new (λ later. tt) (as_term id) h (goes_itself new) (record { by = λ met st later l. (met, st, refl) })));
    })

    pub not_met : (e : Refusal) → LeavesOn next new e → Judged (λ later. Meets (term later id) Fine) next new done (Err e) → Judges (reads s n) old new a as_term (Err e)
    not_met e left h = then_judges (proper s n) meeting old mid new a a (done tt) as_term (Err e) p (by e left h) where
      by : (e : Refusal) → LeavesOn next new e → Judged (λ later. Meets (term later id) Fine) next new done (Err e) → Judges (λ l later. meeting l later tt) mid new a as_term (Err e)
      by (refusal.False place c) left h = record {
        left = left_on mid next new same.goes left;
        names = names_before (λ later. meeting mid.listed later tt) mid next new same (fault c place)
            (names_as (λ later. Part (Meets (term later id) Fine) (λ u. Gives (term later id))) (λ later. meeting mid.listed later tt) next new (λ later l. is_written later (later_on next.forms new.forms later left.forms l)) (fault c place)
            (names_first (λ later. Meets (term later id) Fine) (λ later u. Gives (term later id)) next new (fault c place) h));
      }
      by refusal.Memory left h = tt

pub read_within : (s : TypeScope) (n : TypeNode) (old new : State) (c : Sharing) (r : Result TermId Refusal) → IfOk r (IsReached new) → Judges (reads s n) old new c as_term r → IfOk r (Within new.forms)
read_within s n old new c (Ok id) h p = within_reached new id p.ready.kept h
read_within s n old new c (Err e) h p = tt

-- ---- another in its place

module _ (s : TypeScope) (o : Option TypeNode) (other : TermId) where
  pub written_or : (n : TypeNode) (old new : State) (c : Sharing) (r : Result TermId Refusal) → o ≡ Some n → Judges (reads s n) old new c as_term r → Judges (given_or s o other) old new c as_term r
  written_or n old new c r h w = subst (λ (m : Option TypeNode). Judges (given_or s m other) old new c as_term r) (sym h) w

  pub other_given : (old : State) (c : Sharing) → o ≡ None → Ready old c → Passed (given_or s o other old.listed) old old c (as_term other)
  other_given old c h ready = subst (λ (m : Option TypeNode). Passed (given_or s m other old.listed) old old c (as_term other)) (sym h)
      (given (given_or s None other old.listed) old old c (as_term other) (same_itself old ready.kept) ready (λ later l. refl))

pub each_more : {A : Type 0} (P : A → Type 0) (xs ys : List A) (x : A) → ys ≡ xs ++ x ∷ [] → Each P xs → P x → Each P ys
each_more {A} P xs ys x e h k = subst (λ (l : List A). Each P l) (sym e) (both xs h) where
  both : (xs : List A) → Each P xs → Each P (xs ++ x ∷ [])
  both [] h = (k, tt)
  both (y ∷ xs) h = (h.0, both xs h.1)

-- ---- several

part_gives : {A : Type 0} (j : Judgement A) → Part j (λ a. Gives a) ≡ j
part_gives (Gives a) = refl
part_gives (Fails c place) = refl
part_gives (Asks q next) = ap (Asks q) (fun_ext (λ yes. part_gives (next yes)))
part_gives (Meets t next) = ap (Meets t) (part_gives next)

behind_alike : {A B : Type 0} (j : Judgement A) (k m : A → Judgement B) → ((a : A) → k a ≡ m a) → Part j k ≡ Part j m
behind_alike {A} {B} j k m e = ap (λ (f : A → Judgement B). Part j f) (fun_ext e)

module _ (defs : Definitions) (s : TypeScope) where
  in_parts : (xs ys : List TypeNode) → Part (ReadsEach defs s xs) (λ us. Part (ReadsEach defs s ys) (λ vs. Gives (us ++ vs))) ≡ ReadsEach defs s (xs ++ ys)
  in_parts [] ys = part_gives (ReadsEach defs s ys)
  in_parts (x ∷ xs) ys =
      part_assoc (Reads defs s x) (λ u. Part (ReadsEach defs s xs) (λ us. Gives (u ∷ us))) (λ us. Part (ReadsEach defs s ys) (λ vs. Gives (us ++ vs)))
      ∙ behind_alike (Reads defs s x) (λ u. Part (Part (ReadsEach defs s xs) (λ us. Gives (u ∷ us))) (λ us. Part (ReadsEach defs s ys) (λ vs. Gives (us ++ vs)))) (λ u. Part (ReadsEach defs s (xs ++ ys)) (λ ws. Gives (u ∷ ws)))
      (λ u.
      part_assoc (ReadsEach defs s xs) (λ us. Gives (u ∷ us)) (λ us. Part (ReadsEach defs s ys) (λ vs. Gives (us ++ vs)))
      ∙ (sym (behind_alike (ReadsEach defs s xs) (λ us. Part (Part (ReadsEach defs s ys) (λ vs. Gives (us ++ vs))) (λ ws. Gives (u ∷ ws))) (λ us. Part (ReadsEach defs s ys) (λ vs. Gives (u ∷ (us ++ vs))))
      (λ us. part_assoc (ReadsEach defs s ys) (λ vs. Gives (us ++ vs)) (λ ws. Gives (u ∷ ws))))
      ∙ (sym (part_assoc (ReadsEach defs s xs) (λ us. Part (ReadsEach defs s ys) (λ vs. Gives (us ++ vs))) (λ ws. Gives (u ∷ ws)))
      ∙ ap (λ (j : Judgement (List Term)). Part j (λ ws. Gives (u ∷ ws))) (in_parts xs ys))))

  one_part : (x : TypeNode) (us : List Term) → Part (Reads defs s x) (λ v. Gives (us ++ v ∷ [])) ≡ Part (ReadsEach defs s (x ∷ [])) (λ vs. Gives (us ++ vs))
  one_part x us = sym (part_assoc (Reads defs s x) (λ u. Gives (u ∷ [])) (λ vs. Gives (us ++ vs)))

map_more : {A B : Type 0} (f : A → B) (xs : List A) (x : A) → map f (xs ++ x ∷ []) ≡ map f xs ++ f x ∷ []
map_more f [] x = refl
map_more f (y ∷ xs) x = ap (λ l. f y ∷ l) (map_more f xs x)

map_two : {A B : Type 0} (f : A → B) (xs ys : List A) → map f (xs ++ ys) ≡ map f xs ++ map f ys
map_two f [] ys = refl
map_two f (y ∷ xs) ys = ap (λ l. f y ∷ l) (map_two f xs ys)

module _ (s : TypeScope) where
  abbrev pub all_read : List value.TypeNode → Rule (List Term)
  all_read xs = reads_each s (map type_node xs)

  pub none_read : (a : State) (c : Sharing) → Ready a c → Passed (all_read [] a.listed) a a c (as_terms [])
  none_read a c ready = given (all_read [] a.listed) a a c (as_terms []) (same_itself a ready.kept) ready (λ later l. refl)

  pub next_read : (old mid new : State) (a c : Sharing) (xs ys : List value.TypeNode) (n : value.TypeNode) (ids qs : List TermId) (id : TermId) → ys ≡ xs ++ n ∷ [] → qs ≡ ids ++ id ∷ []
      → Passed (all_read xs old.listed) old mid a (as_terms ids) → Passed (reads s (type_node n) mid.listed) mid new c (as_term id) → Passed (all_read ys old.listed) old new c (as_terms qs)
  next_read old mid new a c xs ys n ids qs id e q p w =
      subst (λ (zs : List value.TypeNode). Passed (all_read zs old.listed) old new c (as_terms qs)) (sym e)
      (subst (λ (is : List TermId). Passed (all_read (xs ++ n ∷ []) old.listed) old new c (as_terms is)) (sym q)
      (subst (λ (g : List Form → List Term). Passed (all_read (xs ++ n ∷ []) old.listed) old new c g) (fun_ext (λ later. sym (map_more (term later) ids id)))
      (judges_as (λ l later. Part (all_read xs l later) (λ us. Part (reads s (type_node n) l later) (λ v. Gives (us ++ v ∷ [])))) (all_read (xs ++ n ∷ [])) old new c (λ (u : Unit {0}) later. map (term later) ids ++ term later id ∷ []) (Ok tt)
      (λ l later.
      behind_alike (all_read xs l later) (λ us. Part (reads s (type_node n) l later) (λ v. Gives (us ++ v ∷ []))) (λ us. Part (reads_each s (type_node n ∷ []) l later) (λ vs. Gives (us ++ vs)))
      (λ us. one_part (rules_in later l) s (type_node n) us)
      ∙ (in_parts (rules_in later l) s (map type_node xs) (type_node n ∷ []) ∙ ap (λ (ns : List TypeNode). reads_each s ns l later) (sym (map_more type_node xs n))))
      (then_judges (all_read xs) (λ l later us. Part (reads s (type_node n) l later) (λ v. Gives (us ++ v ∷ []))) old mid new a c (as_terms ids) (λ (u : Unit {0}) later. map (term later) ids ++ term later id ∷ []) (Ok tt) p
      (then_judges (reads s (type_node n)) (λ l later v. Gives (as_terms ids later ++ v ∷ [])) mid new new c c (as_term id) (λ (u : Unit {0}) later. map (term later) ids ++ term later id ∷ []) (Ok tt) w
      (given (λ later. Gives (as_terms ids later ++ term later id ∷ [])) new new c (λ later. map (term later) ids ++ term later id ∷ []) (same_itself new w.ready.kept) w.ready (λ later l. refl)))))))

  pub read_refused : {N : Type 0} (give : N → List Form → List Term) (old mid new : State) (a c : Sharing) (xs ys zs : List value.TypeNode) (n : value.TypeNode) (ids : List TermId) (e : Refusal) → zs ≡ xs ++ n ∷ ys
      → Passed (all_read xs old.listed) old mid a (as_terms ids) → Judges (reads s (type_node n)) mid new c as_term (Err e) → Judges (all_read zs) old new c give (Err e)
  read_refused {N} give old mid new a c xs ys zs n ids e h p w =
      subst (λ (vs : List value.TypeNode). Judges (all_read vs) old new c give (Err e)) (sym h)
      (judges_as (λ l later. Part (all_read xs l later) (λ us. Part (all_read (n ∷ ys) l later) (λ vs. Gives (us ++ vs)))) (all_read (xs ++ n ∷ ys)) old new c give (Err e)
      (λ l later. in_parts (rules_in later l) s (map type_node xs) (type_node n ∷ map type_node ys) ∙ ap (λ (ns : List TypeNode). reads_each s ns l later) (sym (map_two type_node xs (n ∷ ys))))
      (then_judges (all_read xs) (λ l later us. Part (all_read (n ∷ ys) l later) (λ vs. Gives (us ++ vs))) old mid new a c (as_terms ids) give (Err e) p
      (first_judges (all_read (n ∷ ys)) (λ l later vs. Gives (as_terms ids later ++ vs)) mid new c c give give e
      (first_judges (reads s (type_node n)) (λ l later u. Part (all_read ys l later) (λ us. Gives (u ∷ us))) mid new c c as_term give e w))))

-- ---- type parameters

tests_then : (c : Condition) (at : ℕ) (b : Bool) (j k : Judgement (Unit {0})) → Part (Tests c at b j) (λ u. k) ≡ Tests c at b (Part j (λ u. k))
tests_then c at true j k = refl
tests_then c at false j k = refl

pub ends_there : (at : ℕ) (old new : State) (c : Sharing) (is : Bool) → Same old new → Ready old c → Ends old.listed at new.forms is → is ≡ true → Passed (bound_ends at old.listed) old new c (done tt)
ends_there at old new c is same ready h e = given (bound_ends at old.listed) old new c (done tt) same (ready_on old new c ready same.kept same.goes)
    (λ later l. ap (λ (b : Bool). Tests condition.BadDefinition at b Fine) (sym e ∙ h later l))

pub ends_nowhere : (at : ℕ) (old new : State) (is : Bool) → Same old new → Ends old.listed at new.forms is → is ≡ false → Refused (bound_ends at old.listed) old new (fault condition.BadDefinition at)
ends_nowhere at old new is same h e = failed (bound_ends at old.listed) old new condition.BadDefinition at (left_there old new same.goes)
    (λ later l. ap (λ (b : Bool). Tests condition.BadDefinition at b Fine) (sym e ∙ h later l))

-- it is met
module _ (at : ℕ) (old next new : State) (a : Sharing) (id : TermId) (ready : Ready old a) (same : Same old next) (m : Makes old.forms (IsTermOf (form.Parameter at) id) id next.forms) where
  pub parameter_met : (r : Result (Unit {0}) Refusal) → OnOk r (Kept new) → OnOk r (Goes next new) → IfErr r (LeavesOn next new) → Judged (λ later. Meets (term later id) Fine) next new done r → Judges (is_met at) old new a done r
  parameter_met (Ok u) k g left h = record {
    ready = ready_on next new a (ready_on old next a ready same.kept same.goes) k g;
    goes = goes_on old next new same.goes g;
    gave = gave_before (is_met at old.listed) old next new same (done u)
        (gave_as (λ later. Meets (term later id) Fine) (is_met at old.listed) next new (λ later l. ap (λ (t : Term). Meets t Fine) (m.is later (later_on next.forms new.forms later g.forms l))) (done u) h);
  }
  parameter_met (Err (refusal.False place c)) k g left h = record {
    left = left_on old next new same.goes left;
    names = names_before (is_met at old.listed) old next new same (fault c place)
        (names_as (λ later. Meets (term later id) Fine) (is_met at old.listed) next new (λ later l. ap (λ (t : Term). Meets t Fine) (m.is later (later_on next.forms new.forms later left.forms l))) (fault c place) h);
  }
  parameter_met (Err refusal.Memory) k g left h = tt

module _ (at : ℕ) where
  in_two_steps : (l : Listed) (later : List Form) → Part (bound_ends at l later) (λ u. is_met at l later) ≡ stands at l later
  in_two_steps l later = tests_then condition.BadDefinition at (ends (rules_in later l) at) Fine (is_met at l later)

  pub ends_and_met : (old mid new : State) (a c : Sharing) (r : Result (Unit {0}) Refusal) → Passed (bound_ends at old.listed) old mid a (done tt) → Judges (is_met at) mid new c done r → Judges (stands at) old new c done r
  ends_and_met old mid new a c r p w =
      judges_as (λ l later. Part (bound_ends at l later) (λ u. is_met at l later)) (stands at) old new c done r in_two_steps
      (then_judges (bound_ends at) (λ l later u. is_met at l later) old mid new a c (done tt) done r p w)

  pub ends_not : (old new : State) (a : Sharing) (e : Refusal) → Judges (bound_ends at) old new a done (Err e) → Judges (stands at) old new a done (Err e)
  ends_not old new a e w =
      judges_as (λ l later. Part (bound_ends at l later) (λ u. is_met at l later)) (stands at) old new a done (Err e) in_two_steps
      (first_judges (bound_ends at) (λ l later u. is_met at l later) old new a a done done e w)

module _ (s : TypeScope) where
  abbrev pub one_generic : Listed → List Form → value_parameter.TypeParameter → Judgement (Unit {0})
  one_generic l later g = generics s (parameter g ∷ []) l later

  abbrev given_first : Listed → List Form → value_parameter.TypeParameter → Judgement Term
  given_first l later g = ReadsOr (rules_in later l) s (annotation g.bound) Any

  pub generics_are : (l : Listed) (later : List Form) (gs : List value_parameter.TypeParameter) → InTurn (one_generic l later) gs ≡ generics s (map parameter gs) l later
  generics_are l later [] = refl
  generics_are l later (g ∷ gs) =
      part_alike (one_generic l later g) (InTurn (one_generic l later) gs) (generics s (map parameter gs) l later) (generics_are l later gs)
      ∙ (part_assoc (given_first l later g) (λ u. stands g.name.at l later) (λ u. generics s (map parameter gs) l later)
      ∙ behind_alike (given_first l later g) (λ u. Part (stands g.name.at l later) (λ v. generics s (map parameter gs) l later)) (λ u. Tests condition.BadDefinition g.name.at (ends (rules_in later l) g.name.at) (Part (is_met g.name.at l later) (λ v. generics s (map parameter gs) l later)))
      (λ u. tests_then condition.BadDefinition g.name.at (ends (rules_in later l) g.name.at) (is_met g.name.at l later) (generics s (map parameter gs) l later)))

  module _ (g : value_parameter.TypeParameter) where
    unbounded : (l : Listed) (later : List Form) → g.bound ≡ None → stands g.name.at l later ≡ one_generic l later g
    unbounded l later h = ap (λ (o : Option value.TypeNode). Part (ReadsOr (rules_in later l) s (annotation o) Any) (λ u. stands g.name.at l later)) (sym h)

    bounded : (b : value.TypeNode) (l : Listed) (later : List Form) → g.bound ≡ Some b → Part (reads s (type_node b) l later) (λ u. stands g.name.at l later) ≡ one_generic l later g
    bounded b l later h = ap (λ (o : Option value.TypeNode). Part (ReadsOr (rules_in later l) s (annotation o) Any) (λ u. stands g.name.at l later)) (sym h)

    pub none_bounds : (old new : State) (c : Sharing) (r : Result (Unit {0}) Refusal) → g.bound ≡ None → Judges (stands g.name.at) old new c done r → Judges (generics s (parameter g ∷ [])) old new c done r
    none_bounds old new c r h w = judges_as (stands g.name.at) (generics s (parameter g ∷ [])) old new c done r (λ l later. unbounded l later h) w

    pub bound_refused : (b : value.TypeNode) (old new : State) (a c : Sharing) (e : Refusal) → g.bound ≡ Some b → Judges (reads s (type_node b)) old new a as_term (Err e) → Judges (generics s (parameter g ∷ [])) old new c done (Err e)
    bound_refused b old new a c e h w =
        judges_as (λ l later. Part (reads s (type_node b) l later) (λ u. stands g.name.at l later)) (generics s (parameter g ∷ [])) old new c done (Err e) (λ l later. bounded b l later h)
        (first_judges (reads s (type_node b)) (λ l later u. stands g.name.at l later) old new a c as_term done e w)

    pub bound_read : (b : value.TypeNode) (id : TermId) (old mid new : State) (a c : Sharing) (r : Result (Unit {0}) Refusal) → g.bound ≡ Some b → Passed (reads s (type_node b) old.listed) old mid a (as_term id)
        → Judges (stands g.name.at) mid new c done r → Judges (generics s (parameter g ∷ [])) old new c done r
    bound_read b id old mid new a c r h p w =
        judges_as (λ l later. Part (reads s (type_node b) l later) (λ u. stands g.name.at l later)) (generics s (parameter g ∷ [])) old new c done r (λ l later. bounded b l later h)
        (then_judges (reads s (type_node b)) (λ l later u. stands g.name.at l later) old mid new a c (as_term id) done r p w)

  pub all_generics : (gs : List value_parameter.TypeParameter) (old new : State) (c : Sharing) (r : Result (Unit {0}) Refusal) → Judges (turns one_generic gs) old new c done r → Judges (generics s (map parameter gs)) old new c done r
  all_generics gs old new c r w = judges_as (turns one_generic gs) (generics s (map parameter gs)) old new c done r (λ l later. generics_are l later gs) w

-- ---- definitions

pub has_type_in : (s : State) (l : Listed) (os : List Outcome) (at : ℕ) (a : Bool) → l ≡ s.listed → os ≡ s.outcomes → HasType l os at a → HasType s.listed s.outcomes at a
has_type_in s l os at a e f h = subst (λ (d : Listed). HasType d s.outcomes at a) e (subst (λ (q : List Outcome). HasType l q at a) f h)

pub keeps_in : (s : State) (l : Listed) (forms : List Form) (at : ℕ) (b : Bool) → l ≡ s.listed → forms ≡ s.forms → KeepsParameters l forms at b → KeepsParameters s.listed s.forms at b
keeps_in s l forms at b e f h = subst (λ (d : Listed). KeepsParameters d s.forms at b) e (subst (λ (q : List Form). KeepsParameters l q at b) f h)

module _ (x : Named) (s : State) (k : Kept s) where
  two : (a b c d : Bool) → a ≡ c → b ≡ d → Tests condition.BadDefinition x.at a (Tests condition.BadDefinition x.at b Fine) ≡ Tests condition.BadDefinition x.at c (Tests condition.BadDefinition x.at d Fine)
  two a b c d e f = ap (λ (y : Bool). Tests condition.BadDefinition x.at y (Tests condition.BadDefinition x.at b Fine)) e ∙ ap (λ (y : Bool). Tests condition.BadDefinition x.at c (Tests condition.BadDefinition x.at y Fine)) f

  defined : (a : Bool) → HasType s.listed s.outcomes x.at a → (later : List Form) → Later s.forms later → a ≡ is_some (reached (rules_in later s.listed).types x.at)
  defined a h later l = h s.forms k.outcomes later l

  pub has_no_type : (a : Bool) → HasType s.listed s.outcomes x.at a → a ≡ false → Names (defines x s.listed) s s (fault condition.BadDefinition x.at)
  has_no_type a h e = names_as (λ later. Fails condition.BadDefinition x.at) (defines x s.listed) s s
      (λ later l. ap (λ (y : Bool). Tests condition.BadDefinition x.at y (Tests condition.BadDefinition x.at (keeps_parameters (rules_in later s.listed).types (definition_at (rules_in later s.listed).types x.at)) Fine)) (sym e ∙ defined a h later l))
      (fault condition.BadDefinition x.at) (record { by = λ met st later l. (met, refl) })

  pub keeps_not : (a b : Bool) → HasType s.listed s.outcomes x.at a → KeepsParameters s.listed s.forms x.at b → a ≡ true → b ≡ false → Names (defines x s.listed) s s (fault condition.BadDefinition x.at)
  keeps_not a b h i e f = names_as (λ later. Fails condition.BadDefinition x.at) (defines x s.listed) s s (λ later l. two true false _ _ (sym e ∙ defined a h later l) (sym f ∙ i later l))
      (fault condition.BadDefinition x.at) (record { by = λ met st later l. (met, refl) })

  pub keeps_both : (a b : Bool) → HasType s.listed s.outcomes x.at a → KeepsParameters s.listed s.forms x.at b → a ≡ true → b ≡ true → Gave (defines x s.listed) s s (λ later. tt)
  keeps_both a b h i e f = gave_as (λ later. Fine) (defines x s.listed) s s (λ later l. two true true _ _ (sym e ∙ defined a h later l) (sym f ∙ i later l)) (λ later. tt) (record { by = λ met st later l. (met, st, refl) })
