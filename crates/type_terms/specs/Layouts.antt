-- A form as a number, a detail and its parts, by which forms are compared and hashed.
use Rattle.std.specs.Prelude.{ℕ, Bool, ◌&&◌, List, [], ◌∷◌, ◌++◌, nat_eq, fold, map}
use Rattle.std.specs.Bool.{beq}
use Rattle.std.specs.Cmp.Lexicographic.{pointwise}
use Rattle.mo_types.specs.declared.node.Field.{Field}
use Rattle.mo_types.specs.Label.{label_id}
use Rattle.mo_types.specs.Layout.{Layout, plain, with_part, with_fields, kind_number, sort_number, mix}
use Rattle.type_terms.specs.declared.form.Form.{Form}
use Rattle.type_terms.specs.declared.form.Form.TheVariants as form
use Rattle.type_terms.specs.declared.form.TermId.{TermId}

abbrev with_detail : ℕ → ℕ → List TermId → Layout TermId
with_detail n detail first = record { form = n; detail = detail; first = first; second = []; fields = [] }

abbrev with_result : ℕ → ℕ → List TermId → TermId → Layout TermId
with_result n detail first r = record { form = n; detail = detail; first = first; second = r ∷ []; fields = [] }

unfoldable pub layout : Form → Layout TermId
layout (form.Number k) = with_detail 0 (kind_number k) []
layout form.Boolean = plain 1
layout form.Character = plain 2
layout form.Text = plain 3
layout form.Blob = plain 4
layout form.Principal = plain 5
layout form.Error = plain 6
layout form.Null = plain 7
layout form.Any = plain 8
layout form.Bottom = plain 9
layout (form.Optional a) = with_part 10 a
layout (form.Array a) = with_part 11 a
layout (form.MutableArray a) = with_part 12 a
layout (form.Tuple ts) = with_detail 13 0 ts
layout (form.Object fs) = with_fields 14 fs
layout (form.Actor fs) = with_fields 15 fs
layout (form.Variant fs) = with_fields 16 fs
layout (form.Function ps r) = with_result 17 0 ps r
layout (form.Shared s ps r) = with_result 18 (sort_number s) ps r
layout (form.Async a) = with_part 19 a
layout (form.Parameter at) = with_detail 20 at []
layout (form.Use at ts) = with_detail 21 at ts

-- the parts of a form
abbrev pub parts : Form → List TermId
parts f = (layout f).first ++ ((layout f).second ++ map (λ m. m.part) (layout f).fields)

abbrev pub same_id : TermId → TermId → Bool
same_id a b = nat_eq a.index b.index

abbrev pub same_parts : List TermId → List TermId → Bool
same_parts a b = pointwise same_id a b

abbrev pub same_field : Field TermId → Field TermId → Bool
same_field f g = pointwise nat_eq f.label g.label && (beq f.mutable g.mutable && same_id f.part g.part)

abbrev pub same_fields : List (Field TermId) → List (Field TermId) → Bool
same_fields a b = pointwise same_field a b

abbrev pub same_layout : Layout TermId → Layout TermId → Bool
same_layout a b = nat_eq a.form b.form && (nat_eq a.detail b.detail && (same_parts a.first b.first && (same_parts a.second b.second && same_fields a.fields b.fields)))

-- whether two forms are the same
abbrev pub same_form : Form → Form → Bool
same_form a b = same_layout (layout a) (layout b)

-- numbers mixed into one, by which forms are found
abbrev pub mix_part : ℕ → TermId → ℕ
mix_part digest id = mix digest id.index

abbrev pub mix_field : ℕ → Field TermId → ℕ
mix_field digest field = mix (mix digest (label_id field.label)) field.part.index

abbrev pub digest_of : Layout TermId → ℕ
digest_of l = fold mix_field (fold mix_part (fold mix_part (mix l.form l.detail) l.first) l.second) l.fields

unfoldable pub digest : Form → ℕ
digest f = digest_of (layout f)
