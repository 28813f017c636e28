-- Fields that are added one after another.
use Rattle.std.proofs.Common.{◌≡◌, ◌+◌, ◌≤◌, ℕ, Bool, List, [], ◌∷◌, ◌++◌, ap, append-nil, append_assoc, length, map, refl, subst, sym, take, ◌∙◌}
use Rattle.std.specs.Prelude.{Result, OnOk, Ok, Err}
use Rattle.mo_types.specs.declared.node.Field.{Field}
use Rattle.mo_types.specs.declared.node.Sort.{Sort}
use Rattle.mo_types.specs.Sub.{Each}
use Rattle.mo_subtype.specs.Renamed.{on_field}
use Rattle.type_terms.specs.declared.form.Form.{Form}
use Rattle.type_terms.specs.declared.form.Form.TheVariants as form
use Rattle.type_terms.specs.declared.form.TermId.{TermId}
use Rattle.typing_rules.specs.AbstractSyntax.{Bytes}
use Rattle.typing_rules.specs.DeclaredTypes.{parameter_terms, pattern_term}
use Rattle.typing_rules.specs.Terms.{Term, Terms, Fields, unlisted}
use Rattle.typing_rules.specs.Terms as t
use Rattle.typing_rules.specs.TypeScopes.{TypeScope}
use Rattle.type_definitions.specs.Meanings.{term, unlisted_fields}
use Rattle.type_definitions.specs.Tables.{Later, Within}
use Rattle.type_definitions.proofs.Meanings.{each_within, later_on}
use Rattle.met_types.specs.States.{State, Kept}
use Rattle.definition_rules.proofs.Adding.{take_all}
use Rattle.definition_rules.proofs.Promoting.{same_itself, same_on}
use Rattle.abstract_types.specs.declared.patterns.Pattern.{Pattern}
use Rattle.abstract_types.specs.declared.patterns.Signature.{Signature}
use Rattle.abstract_types.specs.PatternView.{plain, plain_signature}
use Rattle.written_types.specs.Written.{Interned, Wrote, WroteEach, with_fields}
use Rattle.written_types.proofs.Making.{then_written}
use Rattle.declared_types.proofs.Signed.{listing}
use Rattle.object_types.specs.Adding.{Adds}
use Rattle.object_types.specs.Joining.{together}

pub on_ok : {A E : Type 0} (r : Result A E) (P Q : Type 0) → OnOk r P → (P → Q) → OnOk r Q
on_ok (Ok a) P Q h k = k h
on_ok (Err e) P Q h k = tt

pub if_so : {A E : Type 0} (r : Result A E) (P : Type 0) → P → OnOk r P
if_so (Ok a) P h = h
if_so (Err e) P h = tt

-- ---- fields before others

with_more : (at : TermId → Term) (fs gs : List (Field TermId)) (rest : Fields) → with_fields (map (on_field at) (fs ++ gs)) rest ≡ with_fields (map (on_field at) fs) (with_fields (map (on_field at) gs) rest)
with_more at [] gs rest = refl
with_more at (f ∷ fs) gs rest = ap (λ (z : Fields). t.WithField f.label f.mutable (at f.part) z) (with_more at fs gs rest)

parts_more : (P : TermId → Type 0) (fs gs : List (Field TermId)) → Each P (map (λ f. f.part) fs) → Each P (map (λ f. f.part) gs) → Each P (map (λ f. f.part) (fs ++ gs))
parts_more P [] gs h k = k
parts_more P (f ∷ fs) gs h k = (h.0, parts_more P fs gs h.1 k)

unlisted_with : (fs : List (Field Term)) → unlisted_fields fs ≡ with_fields fs t.NoFields
unlisted_with [] = refl
unlisted_with (f ∷ fs) = ap (λ (z : Fields). t.WithField f.label f.mutable f.part z) (unlisted_with fs)

-- ---- what is added

pub adds_none : (a : State) (xs : List (Field TermId)) → Kept a → Adds a a (λ rest. rest) xs xs
adds_none a xs k = record { same = same_itself a k; more = []; added = sym (append-nil xs); within = tt; is = λ later l rest. refl }

pub adds_one : (old new : State) (x : Bytes) (mutable : Bool) (u : Term) (id : TermId) (xs ys : List (Field TermId)) → Wrote old new u id → ys ≡ xs ++ record { label = x; mutable = mutable; part = id } ∷ []
    → Adds old new (λ rest. t.WithField x mutable u rest) xs ys
adds_one old new x mutable u id xs ys w e = record {
  same = w.same;
  more = record { label = x; mutable = mutable; part = id } ∷ [];
  added = e;
  within = (w.made.within, tt);
  is = λ later l rest. ap (λ (v : Term). t.WithField x mutable v rest) (sym (w.made.is later l));
}

pub adds_as : (old new : State) (f g : Fields → Fields) (xs ys : List (Field TermId)) → ((rest : Fields) → g rest ≡ f rest) → Adds old new f xs ys → Adds old new g xs ys
adds_as old new f g xs ys e a = record { same = a.same; more = a.more; added = a.added; within = a.within; is = λ later l rest. e rest ∙ a.is later l rest }

pub adds_then : (old mid new : State) (f g : Fields → Fields) (xs ys zs : List (Field TermId)) → Adds old mid f xs ys → Adds mid new g ys zs → Adds old new (λ rest. f (g rest)) xs zs
adds_then old mid new f g xs ys zs a b = record {
  same = same_on old mid new a.same b.same;
  more = a.more ++ b.more;
  added = b.added ∙ (ap (λ (l : List (Field TermId)). l ++ b.more) a.added ∙ append_assoc xs a.more b.more);
  within = parts_more (Within new.forms) a.more b.more (each_within mid.forms new.forms (map (λ m. m.part) a.more) b.same.goes.forms a.within) b.within;
  is = λ later l rest.
      a.is later (later_on mid.forms new.forms later b.same.goes.forms l) (g rest)
      ∙ (ap (λ (z : Fields). with_fields (map (on_field (term later)) a.more) z) (b.is later l rest) ∙ sym (with_more (term later) a.more b.more rest));
}

-- ---- lists

module _ {A : Type 0} (f : A → Fields → Fields) where
  together_more : (xs : List A) (x : A) (rest : Fields) → together (map f (xs ++ x ∷ [])) rest ≡ together (map f xs) (f x rest)
  together_more [] x rest = refl
  together_more (y ∷ xs) x rest = ap (f y) (together_more xs x rest)

  pub first_added : (a : State) (xs : List A) (ms : List (Field TermId)) → Kept a → Adds a a (together (map f (take 0 xs))) ms ms
  first_added a xs ms k = adds_none a ms k

  pub next_added : (old mid new : State) (xs : List A) (i : ℕ) (x : A) (ms ns os : List (Field TermId)) → take (i + 1) xs ≡ take i xs ++ x ∷ []
      → Adds old mid (together (map f (take i xs))) ms ns → Adds mid new (f x) ns os → Adds old new (together (map f (take (i + 1) xs))) ms os
  next_added old mid new xs i x ms ns os e a b =
      adds_as old new (λ rest. together (map f (take i xs)) (f x rest)) (together (map f (take (i + 1) xs))) ms os (λ rest. ap (λ (l : List A). together (map f l) rest) e ∙ together_more (take i xs) x rest)
      (adds_then old mid new (together (map f (take i xs))) (f x) ms ns os a b)

  pub all_added : (old new : State) (g : Fields → Fields) (xs : List A) (i : ℕ) (ms ns : List (Field TermId)) → length xs ≤ i → ((rest : Fields) → g rest ≡ together (map f xs) rest)
      → Adds old new (together (map f (take i xs))) ms ns → Adds old new g ms ns
  all_added old new g xs i ms ns h e a = adds_as old new (together (map f (take i xs))) g ms ns (λ rest. e rest ∙ ap (λ (l : List A). together (map f l) rest) (sym (take_all xs i h))) a

-- ---- objects and actors

pub from_none : (old new : State) (f : Fields → Fields) (none made : List (Field TermId)) → none ≡ [] → Adds old new f none made → Adds old new f [] made
from_none old new f none made e a = subst (λ (l : List (Field TermId)). Adds old new f l made) e a

module _ (old mid : State) (f : Fields → Fields) (fs : Fields) (made fields : List (Field TermId)) (e : f t.NoFields ≡ fs) (a : Adds old mid f [] made) (same : fields ≡ made) where
  pub fields_within : Each (Within mid.forms) (map (λ m. m.part) fields)
  fields_within = subst (λ (l : List (Field TermId)). Each (Within mid.forms) (map (λ m. m.part) l)) (sym (same ∙ a.added)) a.within

  fields_are : (later : List Form) → Later mid.forms later → unlisted_fields (map (on_field (term later)) fields) ≡ fs
  fields_are later l =
      ap (λ (gs : List (Field TermId)). unlisted_fields (map (on_field (term later)) gs)) (same ∙ a.added)
      ∙ (unlisted_with (map (on_field (term later)) a.more) ∙ (sym (a.is later l t.NoFields) ∙ e))

  pub object_made : (new : State) (r : TermId) → Interned mid new (form.Object fields) r → Wrote old new (t.Object fs) r
  object_made new r i = then_written old mid new (form.Object fields) r (t.Object fs) a.same i (λ later l. ap (λ (z : Fields). t.Object z) (fields_are later l))

  pub actor_made : (new : State) (r : TermId) → Interned mid new (form.Actor fields) r → Wrote old new (t.Actor fs) r
  actor_made new r i = then_written old mid new (form.Actor fields) r (t.Actor fs) a.same i (λ later l. ap (λ (z : Fields). t.Actor z) (fields_are later l))

-- ---- methods

module _ (s : TypeScope) (g : Signature ℕ) (ps : List (Pattern ℕ)) (e : ps ≡ g.parameters) where
  pub method_made : (old mid two new : State) (o v : Sort) (u : Term) (ids : List TermId) (id r : TermId) → o ≡ v → WroteEach old mid (map (λ q. pattern_term s (plain q)) ps) ids → Wrote mid two u id → Interned two new (form.Shared o ids id) r
      → Wrote old new (t.Shared v (parameter_terms s (plain_signature g).parameters) u) r
  method_made old mid two new o v u ids id r h w m i = then_written old two new (form.Shared o ids id) r (t.Shared v (parameter_terms s (plain_signature g).parameters) u) (same_on old mid two w.same m.same) i
      (λ later l.
      ap (λ (vs : List Term). t.Shared o (unlisted vs) (term later id)) (w.made.is later (later_on mid.forms two.forms later m.made.grows l))
      ∙ (ap (λ (qs : List (Pattern ℕ)). t.Shared o (unlisted (map (λ q. pattern_term s (plain q)) qs)) (term later id)) e
      ∙ (ap (λ (us : Terms). t.Shared o us (term later id)) (listing s g.parameters)
      ∙ (ap (λ (x : Term). t.Shared o (parameter_terms s (plain_signature g).parameters) x) (m.made.is later l) ∙ ap (λ (k : Sort). t.Shared k (parameter_terms s (plain_signature g).parameters) u) h))))
