-- Types that are written out as terms.
use Rattle.std.proofs.Common.{◌≡◌, ◌∙◌, ℕ, ◌<◌, Bool, false, List, [], ◌∷◌, ◌++◌, Ok, Err, Option, Some, None, option_map, map, refl, sym, ap, subst}
use Rattle.std.proofs.lemmas.Map.Made.{lookup-map_values}
use Rattle.std.specs.Prelude.{Result, IfOk, OnOk}
use Rattle.std.specs.Str.{bytes_eq}
use Rattle.mo_num.specs.declared.memory.Memory.{Memory}
use Rattle.mo_scopes.specs.declared.library.Member.{Member}
use Rattle.mo_scopes.specs.declared.library.Member.TheVariants as member
use Rattle.mo_scopes.specs.Scopes.{named}
use Rattle.mo_types.specs.declared.node.Field.{Field}
use Rattle.mo_types.specs.Sub.{Each}
use Rattle.type_terms.specs.declared.form.Form.{Form}
use Rattle.type_terms.specs.declared.form.Form.TheVariants as form
use Rattle.type_terms.specs.declared.form.TermId.{TermId}
use Rattle.type_terms.specs.Layouts.{layout, parts}
use Rattle.type_terms.specs.Tables.{PartsBelow}
use Rattle.typing_rules.specs.Contexts.{Bound}
use Rattle.typing_rules.specs.Members.{error_code, function, member_bound, nat32, refusal}
use Rattle.typing_rules.specs.Terms.{Term, unlisted}
use Rattle.typing_rules.specs.Terms as t
use Rattle.type_definitions.specs.Meanings.{fields_at, term}
use Rattle.type_definitions.specs.Tables.{IsTermOf, Later, Makes, Within}
use Rattle.type_definitions.proofs.Meanings.{forms_alike, grows_not, grows_on, later_on, term_stays, within_on}
use Rattle.met_types.specs.States.{State, Goes, Kept, Stands}
use Rattle.built_in_members.specs.Codes.{code_tags}
use Rattle.built_in_members.specs.declared.value_members.ValueMember.{ValueMember}
use Rattle.built_in_members.specs.Named.{value_member}
use Rattle.built_in_members.specs.Written.{Added, AreWritten, FoundWritten, IsTermIn, Writes, WritesFound, Written, plain_field, plain_term}

pub added_on : (a b c : State) → Added a b → Added b c → Added a c
added_on a b c x y = record {
  kept = y.kept;
  goes = record {
    forms = grows_on a.forms b.forms c.forms x.goes.forms y.goes.forms;
    listed = y.goes.listed ∙ x.goes.listed;
    outcomes = y.goes.outcomes ∙ x.goes.outcomes;
    reached = λ i u h. y.goes.reached i u (x.goes.reached i u h);
  };
  stands = λ met s. y.stands met (x.stands met s);
}

pub added_not : (a : State) → Kept a → Added a a
added_not a k = record { kept = k; goes = record { forms = grows_not a.forms; listed = refl; outcomes = refl; reached = λ i u h. h }; stands = λ met s. s }

pub written_on : (a b : State) (id : TermId) (u : Term) → Added a b → Written a id u → Written b id u
written_on a b id u x w = record {
  within = within_on a.forms b.forms id x.goes.forms w.within;
  is = λ later l. w.is later (later_on a.forms b.forms later x.goes.forms l);
}

-- each term of the table is itself
pub itself : (s : State) (id : TermId) → Within s.forms id → Written s id (term s.forms id)
itself s id w = record { within = w; is = λ later l. term_stays s.forms later id l.grows w }

-- the term of a form was found or made
pub wrote : (a b : State) (f : Form) (r : Result TermId Memory) → OnOk r (Kept b) → OnOk r (Goes a b) → OnOk r ((met : List Term) → Stands met a → Stands met b)
    → IfOk r (λ id. Makes a.forms (IsTermOf f id) id b.forms) → (u : Term) → IsTermIn a f u → IfOk r (λ id. Writes a u id b)
wrote a b f (Ok id) k g s m u e = record {
  added = record { kept = k; goes = g; stands = s };
  written = record { within = m.within; is = λ later l. m.is later l ∙ e later (later_on a.forms b.forms later g.forms l) };
}
wrote a b f (Err e) k g s m u h = tt

-- a type that is written after others
pub then_ok : (a b c : State) (u : Term) (r : Result TermId Memory) → Added a b → IfOk r (λ id. Writes b u id c) → IfOk r (λ id. Writes a u id c)
then_ok a b c u (Ok id) x w = record { added = added_on a b c x w.added; written = w.written }
then_ok a b c u (Err e) x w = tt

-- ---- what forms stand for

pub plain_is : (s : State) (f : Form) → parts f ≡ [] → IsTermIn s f (plain_term f)
plain_is s f e later l = forms_alike (term later) (λ id. t.Bottom) f (subst (λ (ids : List TermId). Each (λ p. term later p ≡ t.Bottom) ids) (sym e) tt)

parts_are : (s : State) (later : List Form) → Later s.forms later → (ids : List TermId) (us : List Term) → AreWritten s ids us → map (term later) ids ≡ us
parts_are s later l [] [] w = refl
parts_are s later l [] (u ∷ us) w = absurd w
parts_are s later l (id ∷ ids) [] w = absurd w
parts_are s later l (id ∷ ids) (u ∷ us) w = ap (λ (z : Term). z ∷ map (term later) ids) (w.0.is later l) ∙ ap (λ (zs : List Term). u ∷ zs) (parts_are s later l ids us w.1)

module _ (s : State) where
  pub function_is : (ids is : List TermId) (id : TermId) (us : List Term) (r : Term) → is ≡ ids → AreWritten s ids us → Written s id r → IsTermIn s (form.Function is id) (function us r)
  function_is ids is id us r e w v =
      subst (λ (z : List TermId). IsTermIn s (form.Function z id) (function us r)) (sym e)
      (λ later l. ap (λ (zs : List Term). t.Function (unlisted zs) (term later id)) (parts_are s later l ids us w) ∙ ap (λ (z : Term). t.Function (unlisted us) z) (v.is later l))

  pub array_is : (id : TermId) (u : Term) → Written s id u → IsTermIn s (form.Array id) (t.Array u)
  array_is id u w later l = ap t.Array (w.is later l)

  pub mutable_is : (id : TermId) (u : Term) → Written s id u → IsTermIn s (form.MutableArray id) (t.MutableArray u)
  mutable_is id u w later l = ap t.MutableArray (w.is later l)

  pub optional_is : (id : TermId) (u : Term) → Written s id u → IsTermIn s (form.Optional id) (t.Optional u)
  optional_is id u w later l = ap t.Optional (w.is later l)

  pub object_is : (fs : List (Field TermId)) (x : List ℕ) (id : TermId) (u : Term) → fs ≡ plain_field x id ∷ [] → Written s id u → IsTermIn s (form.Object fs) (t.Object (t.constant x u t.NoFields))
  object_is fs x id u e w =
      subst (λ (z : List (Field TermId)). IsTermIn s (form.Object z) (t.Object (t.constant x u t.NoFields))) (sym e) (λ later l. ap (λ (z : Term). t.Object (t.constant x z t.NoFields)) (w.is later l))

  abbrev codes_of : (later : List Form) → TermId → TermId → TermId → Term
  codes_of later a b c = t.Variant (fields_at (term later) (code_tags a b c))

  pub codes_are : (fs : List (Field TermId)) (a b c : TermId) → fs ≡ code_tags a b c → Written s a t.unit → Written s b nat32 → Written s c refusal → IsTermIn s (form.Variant fs) error_code
  codes_are fs a b c e u n r =
      subst (λ (z : List (Field TermId)). IsTermIn s (form.Variant z) error_code) (sym e)
      (λ later l. let x : term later a ≡ t.unit = u.is later l in let y : term later b ≡ nat32 = n.is later l in let z : term later c ≡ refusal = r.is later l in rw x (rw y (rw z refl)))

-- ---- where the parts of forms stand

each_append : {A : Type 0} (P : A → Type 0) (xs ys : List A) → Each P xs → Each P ys → Each P (xs ++ ys)
each_append P [] ys h k = k
each_append P (x ∷ xs) ys h k = (h.0, each_append P xs ys h.1 k)

pub below_function : (n : ℕ) (ids is : List TermId) (id : TermId) → is ≡ ids → Each (λ q. q.index < n) ids → id.index < n → PartsBelow n (form.Function is id)
unfolding layout
below_function n ids is id e h k = subst (λ (z : List TermId). Each (λ q. q.index < n) (z ++ id ∷ [])) (sym e) (each_append (λ q. q.index < n) ids (id ∷ []) h (k, tt))

pub below_array : (n : ℕ) (id : TermId) → id.index < n → PartsBelow n (form.Array id)
unfolding layout
below_array n id h = (h, tt)

pub below_mutable : (n : ℕ) (id : TermId) → id.index < n → PartsBelow n (form.MutableArray id)
unfolding layout
below_mutable n id h = (h, tt)

pub below_optional : (n : ℕ) (id : TermId) → id.index < n → PartsBelow n (form.Optional id)
unfolding layout
below_optional n id h = (h, tt)

abbrev part_of : Field TermId → TermId
part_of m = m.part

pub below_object : (n : ℕ) (fs : List (Field TermId)) (x : List ℕ) (id : TermId) → fs ≡ plain_field x id ∷ [] → id.index < n → PartsBelow n (form.Object fs)
unfolding layout
below_object n fs x id e h = subst (λ (z : List (Field TermId)). Each (λ q. q.index < n) (map (λ m. m.part) z)) (sym e) (h, tt)

pub below_codes : (n : ℕ) (fs : List (Field TermId)) (a b c : TermId) → fs ≡ code_tags a b c → a.index < n → b.index < n → c.index < n → PartsBelow n (form.Variant fs)
unfolding layout
below_codes n fs a b c e h i j = subst (λ (z : List (Field TermId)). Each (λ q. q.index < n) (map (λ m. m.part) z)) (sym e) (h, (h, (h, (h, (h, (i, (j, tt)))))))

pub below_plain : (n : ℕ) (f : Form) → parts f ≡ [] → PartsBelow n f
below_plain n f e = subst (λ (ids : List TermId). Each (λ q. q.index < n) ids) (sym e) tt

-- ---- forms without parts

pub plain_parameter : (at : ℕ) → parts (form.Parameter at) ≡ []
unfolding layout
plain_parameter at = refl

pub plain_principal : parts form.Principal ≡ []
unfolding layout
plain_principal = refl

pub plain_actor : (fs : List (Field TermId)) → fs ≡ [] → parts (form.Actor fs) ≡ []
unfolding layout
plain_actor fs e = ap (λ (z : List (Field TermId)). map (λ (m : Field TermId). m.part) z) e

pub plain_tuple : (ids : List TermId) → ids ≡ [] → parts (form.Tuple ids) ≡ []
unfolding layout
plain_tuple ids e = ap (λ (z : List TermId). z ++ []) e

-- one field
pub one_field : (fs before : List (Field TermId)) (m g : Field TermId) → before ≡ [] → m ≡ g → fs ≡ before ++ m ∷ [] → fs ≡ g ∷ []
one_field fs before m g e i h = h ∙ (ap (λ (z : List (Field TermId)). z ++ m ∷ []) e ∙ ap (λ (z : Field TermId). z ∷ []) i)

-- ---- what members stand for

same_flag : (m : Member) → (member_bound m).mutable ≡ false
same_flag member.DebugPrint = refl
same_flag _ = refl

pub bound_is : (m : Member) (u : Term) (xs : List ℕ) → u ≡ (member_bound m).type → xs ≡ (member_bound m).generics → ◌≡◌ {A = Bound} (record { type = u; mutable = false; generics = xs }) (member_bound m)
bound_is m u xs e f =
    ap (λ (z : Term). bound z false xs) e ∙ (ap (λ (z : Bool). bound (member_bound m).type z xs) (sym (same_flag m)) ∙ ap (λ (z : List ℕ). bound (member_bound m).type (member_bound m).mutable z) f)
  where
    bound : Term → Bool → List ℕ → Bound
    bound z b ys = record { type = z; mutable = b; generics = ys }

module _ (u : Term) (names : List (List ℕ × ValueMember)) (x : List ℕ) where
  abbrev all : List (List ℕ × Term)
  all = map (λ (q : List ℕ × ValueMember). (q.0, value_member u q.1)) names

  pub member_named : (o : Option ValueMember) → o ≡ named names x → named all x ≡ option_map (value_member u) o
  member_named o e = lookup-map_values (value_member u) (bytes_eq x) names ∙ ap (option_map (value_member u)) (sym e)

pub found_written : (s n : State) (m : ValueMember) (id : TermId) (u : Term) (o : Option Term) → o ≡ Some (value_member u m) → Writes s (value_member u m) id n → WritesFound s o (Some id) n
found_written s n m id u o e w = record { added = w.added; written = subst (λ (z : Option Term). FoundWritten n (Some id) z) (sym e) w.written }

pub none_written : (s : State) (o : Option Term) → Kept s → o ≡ None → WritesFound s o None s
none_written s o k e = record { added = added_not s k; written = subst (λ (z : Option Term). FoundWritten s None z) (sym e) tt }
