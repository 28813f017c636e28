-- Terms that forms are.
use Rattle.std.proofs.Common.{◌≡◌, ◌+◌, ℕ, List, [], ◌∷◌, ◌++◌, ap, map, refl, subst, sym, take}
use Rattle.std.specs.Prelude.{Result, IfOk, Ok, Err}
use Rattle.type_terms.specs.declared.form.Form.{Form}
use Rattle.type_terms.specs.declared.form.Form.TheVariants as form
use Rattle.type_terms.specs.declared.form.TermId.{TermId}
use Rattle.typing_rules.specs.Terms.{Term, unit, unlisted}
use Rattle.typing_rules.specs.Terms as t
use Rattle.type_definitions.specs.Meanings.{term, term_of}
use Rattle.met_types.specs.States.{State, Kept}
use Rattle.definition_rules.proofs.Promoting.{same_itself}
use Rattle.written_types.specs.Written.{Interned, Wrote, WroteEach}
use Rattle.written_types.proofs.Making.{more_written, then_written}

if_ok : {A E : Type 0} (r : Result A E) (P Q : A → Type 0) → IfOk r P → ((a : A) → P a → Q a) → IfOk r Q
if_ok (Ok a) P Q h f = f a h
if_ok (Err x) P Q h f = tt

map_more : {A B : Type 0} (f : A → B) (xs : List A) (x : A) → map f (xs ++ x ∷ []) ≡ map f xs ++ f x ∷ []
map_more f [] x = refl
map_more f (y ∷ xs) x = ap (λ l. f y ∷ l) (map_more f xs x)

module _ {E : Type 0} (old new : State) (r : Result TermId E) (k : Kept old) where
  -- a form that is this term, whatever its parts are
  pub written_as : (f : Form) (u : Term) → ((later : List Form) → term_of (term later) f ≡ u) → IfOk r (Interned old new f) → IfOk r (Wrote old new u)
  written_as f u e h = if_ok r (Interned old new f) (Wrote old new u) h (λ id i. then_written old old new f id u (same_itself old k) i (λ later l. e later))

  pub unit_written : (ids : List TermId) → ids ≡ [] → IfOk r (Interned old new (form.Tuple ids)) → IfOk r (Wrote old new unit)
  unit_written ids e h = written_as (form.Tuple ids) unit (λ later. ap (λ (is : List TermId). t.Tuple (unlisted (map (term later) is))) e) h

  pub parameter_written : (at : ℕ) → IfOk r (Interned old new (form.Parameter at)) → IfOk r (Wrote old new (t.Parameter at))
  parameter_written at h = written_as (form.Parameter at) (t.Parameter at) (λ later. refl) h

module _ {E : Type 0} (old mid new : State) (r : Result TermId E) where
  pub class_written : (at : ℕ) (us : List Term) (ids : List TermId) → WroteEach old mid us ids → IfOk r (Interned mid new (form.Use at ids)) → IfOk r (Wrote old new (t.Use at (unlisted us)))
  class_written at us ids w h = if_ok r (Interned mid new (form.Use at ids)) (Wrote old new (t.Use at (unlisted us))) h
      (λ id i. then_written old mid new (form.Use at ids) id (t.Use at (unlisted us)) w.same i (λ later l. ap (λ (vs : List Term). t.Use at (unlisted vs)) (w.made.is later l)))

pub next_parameter : (old mid new : State) (xs : List ℕ) (i x : ℕ) (ids qs : List TermId) (id : TermId) → take (i + 1) xs ≡ take i xs ++ x ∷ [] → qs ≡ ids ++ id ∷ [] → WroteEach old mid (map t.Parameter (take i xs)) ids → Wrote mid new (t.Parameter x) id
    → WroteEach old new (map t.Parameter (take (i + 1) xs)) qs
next_parameter old mid new xs i x ids qs id e q w m =
    subst (λ (ys : List ℕ). WroteEach old new (map t.Parameter ys) qs) (sym e)
    (subst (λ (us : List Term). WroteEach old new us qs) (sym (map_more t.Parameter (take i xs) x))
    (subst (λ (rs : List TermId). WroteEach old new (map t.Parameter (take i xs) ++ t.Parameter x ∷ []) rs) (sym q) (more_written old mid new (map t.Parameter (take i xs)) ids (t.Parameter x) id w m)))
