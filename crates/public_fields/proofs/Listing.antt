-- Lists of fields, one after another.
use Rattle.std.proofs.Common.{◌≡◌, ◌∙◌, ◌==◌, ℕ, Bool, true, false, List, [], ◌∷◌, length, map, Ok, Err, refl, sym, ap, subst}
use Rattle.std.proofs.Math.Dec.{eqb-suc-zero}
use Rattle.std.specs.Prelude.{Result}
use Rattle.std.specs.Result.{IsErr, IsErrAnd}
use Rattle.typing_rules.specs.declared.condition.Condition.TheVariants as condition
use Rattle.typing_rules.specs.AbstractSyntax as p
use Rattle.typing_rules.specs.Judgements.{Judgement, Part, Fine, Tests}
use Rattle.typing_rules.specs.Patterns.{is_empty}
use Rattle.typing_rules.specs.PublicFields.{PublicField, PublicFields}
use Rattle.abstract_tree.specs.declared.declarations.Declaration.{Declaration}
use Rattle.abstract_tree.specs.declared.declarations.DeclarationForm.{DeclarationForm}
use Rattle.abstract_tree.specs.TreeView.{DeclarationView, declarations, plain_declaration, plain_declaration_form}
use Rattle.abstract_tree.proofs.TreeViews.{declaration_is}
use Rattle.type_judgements.specs.declared.refusal.Refusal.{Refusal}
use Rattle.type_judgements.specs.declared.refusal.Refusal.TheVariants as refusal
use Rattle.annotated_names.specs.Verdicts.{IsVerdict}
use Rattle.annotated_names.proofs.Annotated.{verdict_as}
use Rattle.public_fields.specs.Fields.{field_if}

abbrev pub all_of : List (Declaration ℕ) → Judgement (Unit {0})
all_of ds = PublicFields (declarations (map plain_declaration ds))

abbrev pub one_of : Declaration ℕ → Judgement (Unit {0})
one_of d = field_if d.public (plain_declaration_form d.form)

one_first : (x : Declaration ℕ) (ys : List (Declaration ℕ)) → all_of (x ∷ ys) ≡ Part (one_of x) (λ u. all_of ys)
one_first x ys = ap (λ (v : DeclarationView ℕ). PublicFields (v (declarations (map plain_declaration ys)))) (declaration_is x) ∙ by x.public where
  by : (b : Bool) → PublicFields (p.Then b x.note (plain_declaration_form x.form) (declarations (map plain_declaration ys))) ≡ Part (field_if b (plain_declaration_form x.form)) (λ u. all_of ys)
  by true = refl
  by false = refl

next_in : (j k : Judgement (Unit {0})) → j ≡ Fine → Part j (λ u. k) ≡ k
next_in j k h = ap (λ (m : Judgement (Unit {0})). Part m (λ u. k)) h

stops_in : (j k : Judgement (Unit {0})) (e : Refusal) → IsVerdict j (Err e) → IsVerdict (Part j (λ u. k)) (Err e)
stops_in j k (refusal.False place c) h = ap (λ (m : Judgement (Unit {0})). Part m (λ u. k)) h
stops_in j k refusal.Memory h = tt

handed : (j : Judgement (Unit {0})) (e : Refusal) (r : Result (Unit {0}) Refusal) → IsErr r × IsErrAnd r (λ x. x ≡ e) → IsVerdict j (Err e) → IsVerdict j r
handed j e (Ok u) h k = let z : false ≡ true = h.0 in cc
handed j e (Err x) h k = subst (λ (y : Refusal). IsVerdict j (Err y)) (sym h.1) k

module _ (whole : List (Declaration ℕ)) (xs ys : List (Declaration ℕ)) (x : Declaration ℕ) (d : xs ≡ x ∷ ys) (h : all_of whole ≡ all_of xs) where
  pub next_fine : one_of x ≡ Fine → all_of whole ≡ all_of ys
  next_fine k = h ∙ (ap all_of d ∙ (one_first x ys ∙ next_in (one_of x) (all_of ys) k))

  pub stops_there : (e : Refusal) (r : Result (Unit {0}) Refusal) → IsErr r × IsErrAnd r (λ y. y ≡ e) → IsVerdict (one_of x) (Err e) → IsVerdict (all_of whole) r
  stops_there e r g k =
      handed (all_of whole) e r g (verdict_as (Part (one_of x) (λ u. all_of ys)) (all_of whole) (Err e) (h ∙ (ap all_of d ∙ one_first x ys)) (stops_in (one_of x) (all_of ys) e k))

-- ---- one declaration

-- by its form
pub by_form : (f g : DeclarationForm ℕ) (d : p.Declaration ℕ) (r : Result (Unit {0}) Refusal) → f ≡ g → plain_declaration_form g ≡ d → IsVerdict (PublicField d) r → IsVerdict (PublicField (plain_declaration_form f)) r
by_form f g d r h k w = verdict_as (PublicField d) (PublicField (plain_declaration_form f)) r (ap PublicField (ap plain_declaration_form h ∙ k)) w

pub by_public : (b : Bool) (d : p.Declaration ℕ) (r : Result (Unit {0}) Refusal) → b ≡ true → IsVerdict (PublicField d) r → IsVerdict (field_if b d) r
by_public b d r h w = verdict_as (PublicField d) (field_if b d) r (ap (λ (x : Bool). field_if x d) h) w

pub not_public : (b : Bool) (d : p.Declaration ℕ) → b ≡ false → field_if b d ≡ Fine
not_public b d h = ap (λ (x : Bool). field_if x d) h

-- ---- type parameters

empty_is : {A B : Type 0} (xs : List A) (f : A → B) → is_empty (map f xs) ≡ (length xs == 0)
empty_is [] f = refl
empty_is (x ∷ xs) f = sym (eqb-suc-zero (length xs))

module _ {A B : Type 0} (place : ℕ) (xs : List A) (f : A → B) (b : Bool) (h : b ≡ (length xs == 0)) where
  tested : (c : Bool) → b ≡ c → Tests condition.TypeArguments place (is_empty (map f xs)) Fine ≡ Tests condition.TypeArguments place c Fine
  tested c e = ap (λ (x : Bool). Tests condition.TypeArguments place x Fine) (empty_is xs f ∙ (sym h ∙ e))

  pub none_there : b ≡ true → Tests condition.TypeArguments place (is_empty (map f xs)) Fine ≡ Fine
  none_there e = tested true e

  pub some_there : b ≡ false → IsVerdict (Tests condition.TypeArguments place (is_empty (map f xs)) Fine) (Err (refusal.False place condition.TypeArguments))
  some_there e = tested false e
