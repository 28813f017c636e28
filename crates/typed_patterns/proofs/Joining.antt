-- What functions that judge patterns come to, one after another.
use Rattle.std.proofs.Common.{◌≡◌, true, false, List, [], ◌∷◌, ◌++◌, Ok, Err, refl, sym, ap, ◌∙◌, subst, append_assoc}
use Rattle.std.specs.Prelude.{Result}
use Rattle.std.specs.Result.{IsErr, IsErrAnd}
use Rattle.mo_types.specs.Sub.{Each}
use Rattle.type_terms.specs.declared.form.Form.{Form}
use Rattle.typing_rules.specs.Contexts.{Scope}
use Rattle.typing_rules.specs.Judgements.{Judgement, Gives, Part}
use Rattle.typing_rules.specs.Answers.{fault}
use Rattle.type_definitions.specs.Definitions.{Listed}
use Rattle.met_types.specs.States.{State, Goes, IsReached}
use Rattle.definition_rules.proofs.Promoting.{same_itself}
use Rattle.shareable_types.specs.declared.sharing.Sharing.{Sharing}
use Rattle.type_judgements.specs.declared.refusal.Refusal.{Refusal}
use Rattle.type_judgements.specs.declared.refusal.Refusal.TheVariants as refusal
use Rattle.type_judgements.specs.Refusals.{memory}
use Rattle.type_judgements.specs.Judged.{Gave, Judged}
use Rattle.value_scopes.specs.Values.{scope_in}
use Rattle.value_scopes.proofs.Seeing.{scope_joined}
use Rattle.proper_types.specs.Passing.{Ready, Passed, Judges}
use Rattle.proper_types.specs.Rules.{Rule}
use Rattle.proper_types.proofs.Judging.{first_judges, given, goes_itself, judges_as, left_itself, names_as, then_judges}
use Rattle.proper_types.proofs.Readings.{reached_on}
use Rattle.typed_patterns.specs.Binding.{Binds, Names, Pushes, bind}

-- ---- steps that leave the types as they are

pub still : {A : Type 0} (j : List Form → Judgement A) (s : State) (sharing : Sharing) (a : List Form → A) → Ready s sharing → Gave j s s a → Passed j s s sharing a
still j s sharing a ready g = record { ready = ready; goes = goes_itself s; gave = g }

pub still_refused : {A M : Type 0} (j : Rule A) (s : State) (sharing : Sharing) (see : M → List Form → A) (e : Refusal) → Judged (j s.listed) s s see (Err e) → Judges j s s sharing see (Err e)
still_refused j s sharing see (refusal.False place c) h = record { left = left_itself s; names = h }
still_refused j s sharing see refusal.Memory h = tt

-- ---- names

pub each_joined : {A : Type 0} (P : A → Type 0) (xs ys : List A) → Each P xs → Each P ys → Each P (xs ++ ys)
each_joined P [] ys h k = k
each_joined P (x ∷ xs) ys h k = (h.0, each_joined P xs ys h.1 k)

pub names_reached : (old new : State) (more : Names) → Goes old new → Each (λ q. IsReached old q.1.kind) more → Each (λ q. IsReached new q.1.kind) more
names_reached old new [] g h = tt
names_reached old new (q ∷ more) g h = (reached_on old new q.1.kind g h.0, names_reached old new more g h.1)

-- ---- refusals and memory

module _ {X M : Type 0} (j : Rule (Scope × X)) (old new : State) (a c : Sharing) (before after : Names) where
  pub refused : {N : Type 0} (see : M → List Form → Scope × X) (show : N → List Form → X) (e : Refusal) → Judges j old new a see (Err e) → Pushes j old new c before after show (Err e)
  refused see show (refusal.False place f) h = h
  refused see show refusal.Memory h = tt

  pub unpushed : {N : Type 0} (see : M → List Form → Scope × X) (show : N → List Form → X) (e : Refusal) → Pushes j old new c before after show (Err e) → Judges j old new a see (Err e)
  unpushed see show (refusal.False place f) h = h
  unpushed see show refusal.Memory h = tt

module _ {X N : Type 0} (j : Rule (Scope × X)) (old new : State) (c : Sharing) (before after : Names) (show : N → List Form → X) where
  pub handed_on : (e : Refusal) (r : Result N Refusal) → IsErr r × IsErrAnd r (λ x. x ≡ e) → Pushes j old new c before after show (Err e) → Pushes j old new c before after show r
  handed_on e (Ok m) h k = let z : false ≡ true = h.0 in cc
  handed_on e (Err x) h k = subst (λ (y : Refusal). Pushes j old new c before after show (Err y)) (sym h.1) k

  pub of_memory : (r : Result N Refusal) → IsErr r × IsErrAnd r (λ x. x ≡ memory) → Pushes j old new c before after show r
  of_memory (Ok m) h = let z : false ≡ true = h.0 in cc
  of_memory (Err x) h = subst (λ (y : Refusal). Pushes j old new c before after show (Err y)) (sym h.1) tt

module _ {X M : Type 0} (j k : Rule (Scope × X)) (old new : State) (c : Sharing) (before after : Names) (see : M → List Form → X) (e : (l : Listed) (later : List Form) → j l later ≡ k l later) where
  pub pushes_as : (r : Result M Refusal) → Pushes j old new c before after see r → Pushes k old new c before after see r
  pushes_as (Ok m) h = record {
    more = h.more;
    names = h.names;
    reached = h.reached;
    passed = judges_as j k old new c (λ (u : Unit {0}). bind h.more (see m)) (Ok tt) e h.passed;
  }
  pushes_as (Err (refusal.False place f)) h = record { left = h.left; names = names_as (j old.listed) (k old.listed) old new (λ later x. e old.listed later) (fault f place) h.names }
  pushes_as (Err refusal.Memory) h = tt

-- ---- a part, and then what binds names

module _ {B X : Type 0} (j : Rule B) (k : Listed → List Form → B → Judgement (Scope × X)) where
  pub then_pushes : {M : Type 0} (old mid new : State) (a c : Sharing) (before after : Names) (b : List Form → B) (see : M → List Form → X) (r : Result M Refusal) → Passed (j old.listed) old mid a b
      → Pushes (λ l later. k l later (b later)) mid new c before after see r → Pushes (λ l later. Part (j l later) (k l later)) old new c before after see r
  then_pushes old mid new a c before after b see (Ok m) p h = record {
    more = h.more;
    names = h.names;
    reached = h.reached;
    passed = then_judges j k old mid new a c b (λ (u : Unit {0}). bind h.more (see m)) (Ok tt) p h.passed;
  }
  then_pushes {M} old mid new a c before after b see (Err (refusal.False place f)) p h = then_judges j k old mid new a c b (λ (u : M) later. bind [] (see u) later) (Err (refusal.False place f)) p h
  then_pushes old mid new a c before after b see (Err refusal.Memory) p h = tt

  pub first_pushes : {M N : Type 0} (old new : State) (a c : Sharing) (before after : Names) (see : M → List Form → B) (show : N → List Form → X) (e : Refusal) → Judges j old new a see (Err e)
      → Pushes (λ l later. Part (j l later) (k l later)) old new c before after show (Err e)
  first_pushes {M} {N} old new a c before after see show (refusal.False place f) h = first_judges j k old new a c see (λ (u : N) later. bind [] (show u) later) (refusal.False place f) h
  first_pushes old new a c before after see show refusal.Memory h = tt

-- ---- what is made of what was bound

-- g makes of the one what is given
abbrev pub Into : {X Y : Type 0} → Rule (Scope × X) → (List Form → X → Y) → Rule (Scope × Y)
Into j g l later = Part (j l later) (λ b. Gives (b.0, g later b.1))

module _ {X Y : Type 0} (j : Rule (Scope × X)) (g : List Form → X → Y) where
  pub made_of : (old new : State) (c : Sharing) (before after : Names) (x : List Form → X) (y : List Form → Y) → ((later : List Form) → g later (x later) ≡ y later) → Binds j old new c before after x → Binds (Into j g) old new c before after y
  made_of old new c before after x y e h = record {
    more = h.more;
    names = h.names;
    reached = h.reached;
    passed = then_judges j (λ l later b. Gives (b.0, g later b.1)) old new new c c (bind h.more x) (λ (u : Unit {0}). bind h.more y) (Ok tt) h.passed
        (given (λ later. Gives (scope_in later h.more, g later (x later))) new new c (bind h.more y) (same_itself new h.passed.ready.kept) h.passed.ready
        (λ later l. ap (λ (z : Y). Gives (scope_in later h.more, z)) (sym (e later))));
  }

  pub not_made : {M N : Type 0} (old new : State) (c : Sharing) (before after : Names) (see : M → List Form → X) (show : N → List Form → Y) (e : Refusal) → Pushes j old new c before after see (Err e) → Pushes (Into j g) old new c before after show (Err e)
  not_made {M} {N} old new c before after see show (refusal.False place f) h =
      first_judges j (λ l later b. Gives (b.0, g later b.1)) old new c c (λ (u : M) later. bind [] (see u) later) (λ (u : N) later. bind [] (show u) later) (refusal.False place f) h
  not_made old new c before after see show refusal.Memory h = tt

-- nothing is bound
pub binds_none : {X : Type 0} (j : Rule (Scope × X)) (old new : State) (c : Sharing) (names : Names) (x : List Form → X) → Passed (j old.listed) old new c (bind [] x) → Binds j old new c names names x
binds_none j old new c names x p = record { more = []; names = refl; reached = tt; passed = p }

-- ---- two that bind names

-- g makes of both what is given
abbrev pub Joins : {X Y Z : Type 0} → Rule (Scope × X) → Rule (Scope × Y) → (X → Y → Z) → Rule (Scope × Z)
Joins j k g l later = Part (j l later) (λ b. Part (k l later) (λ c. Gives (c.0 ++ b.0, g b.1 c.1)))

module _ {X Y Z : Type 0} (j : Rule (Scope × X)) (k : Rule (Scope × Y)) (g : X → Y → Z) where
  abbrev pub second : Listed → List Form → Scope × X → Judgement (Scope × Z)
  second l later b = Part (k l later) (λ c. Gives (c.0 ++ b.0, g b.1 c.1))

  pub both_bind : (old mid new : State) (a c : Sharing) (before between after : Names) (x : List Form → X) (y : List Form → Y) (z : List Form → Z) → ((later : List Form) → g (x later) (y later) ≡ z later)
      → Binds j old mid a before between x → Binds k mid new c between after y → Binds (Joins j k g) old new c before after z
  both_bind old mid new a c before between after x y z e p q = record {
    more = q.more ++ p.more;
    names = q.names ∙ (ap (λ (n : Names). q.more ++ n) p.names ∙ sym (append_assoc q.more p.more before));
    reached = each_joined (λ r. IsReached new r.1.kind) q.more p.more q.reached (names_reached mid new p.more q.passed.goes p.reached);
    passed = then_judges j second old mid new a c (bind p.more x) (λ (u : Unit {0}). bind (q.more ++ p.more) z) (Ok tt) p.passed
        (then_judges k (λ l later r. Gives (r.0 ++ scope_in later p.more, g (x later) r.1)) mid new new c c (bind q.more y) (λ (u : Unit {0}). bind (q.more ++ p.more) z) (Ok tt) q.passed
        (given (λ later. Gives (scope_in later q.more ++ scope_in later p.more, g (x later) (y later))) new new c (bind (q.more ++ p.more) z) (same_itself new q.passed.ready.kept) q.passed.ready
        (λ later l. ap (λ (s : Scope). Gives (s, z later)) (scope_joined later q.more p.more) ∙ ap (λ (v : Z). Gives (scope_in later q.more ++ scope_in later p.more, v)) (sym (e later)))));
  }

  pub second_refused : {M N : Type 0} (old mid new : State) (a c : Sharing) (before between after : Names) (x : List Form → X) (see : M → List Form → Y) (show : N → List Form → Z) (e : Refusal)
      → Binds j old mid a before between x → Pushes k mid new c between after see (Err e) → Pushes (Joins j k g) old new c before after show (Err e)
  second_refused {M} {N} old mid new a c before between after x see show (refusal.False place f) p h =
      then_judges j second old mid new a c (bind p.more x) (λ (u : N) later. bind [] (show u) later) (Err (refusal.False place f)) p.passed
      (first_judges k (λ l later r. Gives (r.0 ++ scope_in later p.more, g (x later) r.1)) mid new c c (λ (u : M) later. bind [] (see u) later) (λ (u : N) later. bind [] (show u) later) (refusal.False place f) h)
  second_refused old mid new a c before between after x see show refusal.Memory p h = tt
