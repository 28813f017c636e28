-- Patterns, form by form.
use Rattle.std.proofs.Common.{◌≡◌, ◌+◌, ◌<◌, ℕ, suc, add-one, drop, drop-cons, get_or, length, Bool, true, false, List, [], ◌∷◌, ◌++◌, Ok, Err, refl, sym, ap, ◌∙◌, subst, map}
use Rattle.std.specs.Prelude.{Result}
use Rattle.std.specs.Result.{IsErr, IsErrAnd}
use Rattle.typing_rules.specs.AbstractSyntax.{Pattern, PatternFields, TypeNode}
use Rattle.typing_rules.specs.AbstractSyntax as p
use Rattle.typing_rules.specs.Judgements.{Judgement, Fails, Part, Fine}
use Rattle.typing_rules.specs.PublicFields.{AllAnnotated, EachAnnotated, FieldsAnnotated}
use Rattle.abstract_types.specs.declared.patterns.Pattern as value
use Rattle.abstract_types.specs.declared.patterns.PatternForm.{PatternForm}
use Rattle.abstract_types.specs.declared.patterns.PatternForm.TheVariants as e
use Rattle.abstract_types.specs.declared.patterns.PatternField.{PatternField}
use Rattle.abstract_types.specs.PatternView.{FieldView, fields, listed, plain, plain_field, plain_form}
use Rattle.abstract_types.specs.TypeView.{named}
use Rattle.type_judgements.specs.declared.refusal.Refusal.{Refusal}
use Rattle.type_judgements.specs.declared.refusal.Refusal.TheVariants as refusal
use Rattle.typed_patterns.proofs.Views.{field_is, pattern_is, seen_Object, seen_Tuple}
use Rattle.annotated_names.specs.Verdicts.{IsVerdict, is_variable}

pub verdict_as : (j k : Judgement (Unit {0})) (r : Result (Unit {0}) Refusal) → k ≡ j → IsVerdict j r → IsVerdict k r
verdict_as j k r e h = subst (λ (m : Judgement (Unit {0})). IsVerdict m r) (sym e) h

-- the form is judged so, and the pattern too
pub arm : (q : value.Pattern ℕ) (f : PatternForm ℕ) (g : p.PatternForm ℕ) (r : Result (Unit {0}) Refusal) → q.form ≡ f → plain_form f ≡ g → IsVerdict (EachAnnotated (p.pattern q.note g)) r → IsVerdict (EachAnnotated (plain q)) r
arm q f g r h k w = verdict_as (EachAnnotated (p.pattern q.note g)) (EachAnnotated (plain q)) r (ap EachAnnotated (pattern_is (λ n. n) q f h ∙ ap (p.pattern q.note) k)) w

pub variable_is : (q : value.Pattern ℕ) (f : PatternForm ℕ) (g : p.PatternForm ℕ) → q.form ≡ f → plain_form f ≡ g → is_variable (p.pattern q.note g) ≡ is_variable (plain q)
variable_is q f g h k = ap is_variable (sym (pattern_is (λ n. n) q f h ∙ ap (p.pattern q.note) k))

-- ---- `p : A`

pub name_there : (at : ℕ) (q : Pattern ℕ) (a : TypeNode) → is_variable q ≡ true → EachAnnotated (p.pattern at (p.Annotated q a)) ≡ Fine
name_there at (p.pattern i (p.Variable x)) a h = refl
name_there at (p.pattern i (p.Annotated q b)) a h = cc
name_there at (p.pattern i (p.Alternative q r)) a h = cc
name_there at (p.pattern i (p.Optional q)) a h = cc
name_there at (p.pattern i (p.Tag x)) a h = cc
name_there at (p.pattern i (p.Tagged x q)) a h = cc
name_there at (p.pattern i p.Wildcard) a h = cc
name_there at (p.pattern i (p.Constant minus l)) a h = cc
name_there at (p.pattern i (p.Tuple items)) a h = cc
name_there at (p.pattern i (p.Object fs)) a h = cc

pub no_name_there : (at : ℕ) (q : Pattern ℕ) (a : TypeNode) → is_variable q ≡ false → EachAnnotated (p.pattern at (p.Annotated q a)) ≡ EachAnnotated q
no_name_there at (p.pattern i (p.Variable x)) a h = cc
no_name_there at (p.pattern i (p.Annotated q b)) a h = refl
no_name_there at (p.pattern i (p.Alternative q r)) a h = refl
no_name_there at (p.pattern i (p.Optional q)) a h = refl
no_name_there at (p.pattern i (p.Tag x)) a h = refl
no_name_there at (p.pattern i (p.Tagged x q)) a h = refl
no_name_there at (p.pattern i p.Wildcard) a h = refl
no_name_there at (p.pattern i (p.Constant minus l)) a h = refl
no_name_there at (p.pattern i (p.Tuple items)) a h = refl
no_name_there at (p.pattern i (p.Object fs)) a h = refl

-- ---- several

abbrev pub all_of : List (value.Pattern ℕ) → Judgement (Unit {0})
all_of qs = AllAnnotated (listed (map plain qs))

abbrev pub fields_of : List (PatternField ℕ) → Judgement (Unit {0})
fields_of fs = FieldsAnnotated (fields (map plain_field fs))

-- one is as it has to be, and the others are judged
next_in : (j k : Judgement (Unit {0})) → j ≡ Fine → Part j (λ u. k) ≡ k
next_in j k h = ap (λ (m : Judgement (Unit {0})). Part m (λ u. k)) h

-- one is not, whatever is behind it
stops_in : (j k : Judgement (Unit {0})) (e : Refusal) → IsVerdict j (Err e) → IsVerdict (Part j (λ u. k)) (Err e)
stops_in j k (refusal.False place c) h = ap (λ (m : Judgement (Unit {0})). Part m (λ u. k)) h
stops_in j k refusal.Memory h = tt

handed : (j : Judgement (Unit {0})) (e : Refusal) (r : Result (Unit {0}) Refusal) → IsErr r × IsErrAnd r (λ x. x ≡ e) → IsVerdict j (Err e) → IsVerdict j r
handed j e (Ok u) h k = let z : false ≡ true = h.0 in cc
handed j e (Err x) h k = subst (λ (y : Refusal). IsVerdict j (Err y)) (sym h.1) k

module _ (whole : List (value.Pattern ℕ)) (xs ys : List (value.Pattern ℕ)) (x : value.Pattern ℕ) (d : xs ≡ x ∷ ys) (h : all_of whole ≡ all_of xs) where
  pub next_fine : EachAnnotated (plain x) ≡ Fine → all_of whole ≡ all_of ys
  next_fine k = h ∙ (ap all_of d ∙ next_in (EachAnnotated (plain x)) (all_of ys) k)

  pub stops_there : (e : Refusal) (r : Result (Unit {0}) Refusal) → IsErr r × IsErrAnd r (λ y. y ≡ e) → IsVerdict (EachAnnotated (plain x)) (Err e) → IsVerdict (all_of whole) r
  stops_there e r g k = handed (all_of whole) e r g (verdict_as (all_of (x ∷ ys)) (all_of whole) (Err e) (h ∙ ap all_of d) (stops_in (EachAnnotated (plain x)) (all_of ys) e k))

module _ (whole : List (PatternField ℕ)) (xs ys : List (PatternField ℕ)) (x : PatternField ℕ) (d : xs ≡ x ∷ ys) (h : fields_of whole ≡ fields_of xs) where
  one_first : fields_of (x ∷ ys) ≡ Part (EachAnnotated (plain x.pattern)) (λ u. fields_of ys)
  one_first = ap (λ (v : FieldView ℕ). FieldsAnnotated (v (fields (map plain_field ys)))) (field_is (λ n. n) x)

  pub next_field_fine : EachAnnotated (plain x.pattern) ≡ Fine → fields_of whole ≡ fields_of ys
  next_field_fine k = h ∙ (ap fields_of d ∙ (one_first ∙ next_in (EachAnnotated (plain x.pattern)) (fields_of ys) k))

  pub field_stops : (e : Refusal) (r : Result (Unit {0}) Refusal) → IsErr r × IsErrAnd r (λ y. y ≡ e) → IsVerdict (EachAnnotated (plain x.pattern)) (Err e) → IsVerdict (fields_of whole) r
  field_stops e r g k = handed (fields_of whole) e r g
      (verdict_as (Part (EachAnnotated (plain x.pattern)) (λ u. fields_of ys)) (fields_of whole) (Err e) (h ∙ (ap fields_of d ∙ one_first)) (stops_in (EachAnnotated (plain x.pattern)) (fields_of ys) e k))

-- ---- forms of several

pub tuple_arm : (q : value.Pattern ℕ) (xs ys : List (value.Pattern ℕ)) (r : Result (Unit {0}) Refusal) → q.form ≡ e.Tuple xs → ys ≡ xs → IsVerdict (all_of ys) r → IsVerdict (EachAnnotated (plain q)) r
tuple_arm q xs ys r h z w = arm q (e.Tuple xs) (p.Tuple (listed (map plain xs))) r h (seen_Tuple (λ n. n) xs) (subst (λ (zs : List (value.Pattern ℕ)). IsVerdict (all_of zs) r) z w)

pub object_arm : (q : value.Pattern ℕ) (xs ys : List (PatternField ℕ)) (r : Result (Unit {0}) Refusal) → q.form ≡ e.Object xs → ys ≡ xs → IsVerdict (fields_of ys) r → IsVerdict (EachAnnotated (plain q)) r
object_arm q xs ys r h z w = arm q (e.Object xs) (p.Object (fields (map plain_field xs))) r h (seen_Object (λ n. n) xs) (subst (λ (zs : List (PatternField ℕ)). IsVerdict (fields_of zs) r) z w)

-- ---- places in lists

pub drop_more : {A : Type 0} (xs : List A) (i : ℕ) (x : A) → i < length xs → x ≡ get_or xs i x → drop i xs ≡ x ∷ drop (i + 1) xs
drop_more xs i x h e = rw (add-one, drop-cons xs i x h) (ap (λ y. y ∷ drop (suc i) xs) (sym e))
