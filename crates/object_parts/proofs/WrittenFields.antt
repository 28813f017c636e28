-- The fields of an object as it is written.
use Rattle.std.proofs.Common.{◌≡◌, ◌∙◌, ◌+◌, ◌<◌, ◌≤◌, ℕ, suc, Bool, true, false, List, drop, get_or, length, map, sym, ap, arith}
use Rattle.std.proofs.lemmas.List.{drop_all}
use Rattle.std.specs.Prelude.{cond}
use Rattle.std.specs.Str.{bytes_eq}
use Rattle.mo_types.specs.declared.node.Field.{Field}
use Rattle.mo_subtype.specs.Renamed.{on_field}
use Rattle.type_terms.specs.declared.form.TermId.{TermId}
use Rattle.abstract_types.specs.TypeView.{annotation, named}
use Rattle.abstract_tree.specs.declared.expressions.ObjectField.{ObjectField, fold_out-ObjectField}
use Rattle.abstract_tree.specs.TreeView.{CaseView, FieldView, DeclarationView, expression, expression_form, declaration, declaration_form, case, object_field, plain, plain_field, declaration_form_step, form_step, declaration_step, case_step, expression_step, field_step}
use Rattle.abstract_tree.specs.TreeView as view
use Rattle.typing_rules.specs.AbstractSyntax.{Bytes, ObjectFields}
use Rattle.typing_rules.specs.AbstractSyntax as p
use Rattle.typing_rules.specs.Expressions.{all_there, has_field}
use Rattle.typing_rules.specs.Terms.{Term}
use Rattle.judging.proofs.ListParts.{one_at}

-- how notes are seen
abbrev same : ℕ → ℕ
same n = n

pub field_is : (f : ObjectField ℕ) → plain_field f ≡ (λ rest. p.Field f.mutable (named f.name) (annotation f.annotation) (plain f.value) rest)
unfolding expression expression_form declaration declaration_form case object_field
field_is f = fold_out-ObjectField ℕ (p.Declaration ℕ) (p.Form ℕ) (DeclarationView ℕ) (CaseView ℕ) (p.Expression ℕ) (FieldView ℕ) (declaration_form_step same) (form_step same) (declaration_step same) (case_step same) (expression_step same) (field_step same) f

abbrev pub written_fields : List (ObjectField ℕ) → ObjectFields ℕ
written_fields xs = view.fields (map plain_field xs)

-- ---- a field of this label

module _ (l : Bytes) (xs : List (ObjectField ℕ)) (i : ℕ) where
  -- the first of these have other labels
  abbrev pub Looking : Type 0
  Looking = has_field l (written_fields xs) ≡ has_field l (written_fields (drop i xs))

  pub not_there : Looking → length xs ≤ i → false ≡ has_field l (written_fields xs)
  not_there g h = sym (g ∙ ap (λ (ys : List (ObjectField ℕ)). has_field l (written_fields ys)) (drop_all i xs h))

  module _ (x : ObjectField ℕ) (h : i < length xs) (e : x ≡ get_or xs i x) (b : Bool) (q : b ≡ bytes_eq x.name.bytes l) where
    one_field : has_field l (written_fields (drop i xs)) ≡ cond b true (has_field l (written_fields (drop (i + 1) xs)))
    one_field =
        let k : suc i ≡ i + 1 = omega arith in
        ap (λ (ys : List (ObjectField ℕ)). has_field l (written_fields ys)) (one_at xs i x h e)
        ∙ (ap (λ (f : FieldView ℕ). has_field l (f (written_fields (drop (suc i) xs)))) (field_is x)
        ∙ (ap (λ (n : ℕ). cond (bytes_eq x.name.bytes l) true (has_field l (written_fields (drop n xs)))) k
        ∙ ap (λ (y : Bool). cond y true (has_field l (written_fields (drop (i + 1) xs)))) (sym q)))

    pub there : Looking → b ≡ true → true ≡ has_field l (written_fields xs)
    there g z = sym (g ∙ (one_field ∙ ap (λ (y : Bool). cond y true (has_field l (written_fields (drop (i + 1) xs)))) z))

    pub look_on : Looking → b ≡ false → has_field l (written_fields xs) ≡ has_field l (written_fields (drop (i + 1) xs))
    look_on g z = g ∙ (one_field ∙ ap (λ (y : Bool). cond y true (has_field l (written_fields (drop (i + 1) xs)))) z)

-- ---- all that are wanted

module _ (written : List (ObjectField ℕ)) (at : TermId → Term) (gs : List (Field TermId)) (i : ℕ) where
  abbrev at_those : List (Field TermId) → Bool
  at_those fs = all_there (written_fields written) (map (on_field at) fs)

  -- the first of these are there
  abbrev pub AreThere : Type 0
  AreThere = at_those gs ≡ at_those (drop i gs)

  pub all_are : AreThere → length gs ≤ i → true ≡ at_those gs
  all_are g h = sym (g ∙ ap at_those (drop_all i gs h))

  module _ (x : Field TermId) (h : i < length gs) (e : x ≡ get_or gs i x) (b : Bool) (q : b ≡ has_field x.label (written_fields written)) where
    one_wanted : at_those (drop i gs) ≡ cond b (at_those (drop (i + 1) gs)) false
    one_wanted =
        let k : suc i ≡ i + 1 = omega arith in
        ap at_those (one_at gs i x h e)
        ∙ (ap (λ (n : ℕ). cond (has_field x.label (written_fields written)) (at_those (drop n gs)) false) k
        ∙ ap (λ (y : Bool). cond y (at_those (drop (i + 1) gs)) false) (sym q))

    pub one_lacks : AreThere → b ≡ false → false ≡ at_those gs
    one_lacks g z = sym (g ∙ (one_wanted ∙ ap (λ (y : Bool). cond y (at_those (drop (i + 1) gs)) false) z))

    pub one_is_there : AreThere → b ≡ true → at_those gs ≡ at_those (drop (i + 1) gs)
    one_is_there g z = g ∙ (one_wanted ∙ ap (λ (y : Bool). cond y (at_those (drop (i + 1) gs)) false) z)
