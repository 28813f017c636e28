-- Forms with other parts.
use Rattle.std.specs.Prelude.{List, [], ◌∷◌, length, take, drop}
use Rattle.mo_types.specs.declared.node.Field.{Field}
use Rattle.type_terms.specs.declared.form.Form.{Form}
use Rattle.type_terms.specs.declared.form.Form.TheVariants as form
use Rattle.type_terms.specs.declared.form.TermId.{TermId}

abbrev pub first_or : TermId → List TermId → TermId
first_or a [] = a
first_or a (q ∷ qs) = q

abbrev pub fields_with : List (Field TermId) → List TermId → List (Field TermId)
fields_with [] qs = []
fields_with (f ∷ fs) [] = []
fields_with (f ∷ fs) (q ∷ qs) = record { label = f.label; mutable = f.mutable; part = q } ∷ fields_with fs qs

-- the form with these in the place of its parts, in their order
abbrev pub with_parts : Form → List TermId → Form
with_parts (form.Optional a) qs = form.Optional (first_or a qs)
with_parts (form.Array a) qs = form.Array (first_or a qs)
with_parts (form.MutableArray a) qs = form.MutableArray (first_or a qs)
with_parts (form.Tuple ts) qs = form.Tuple qs
with_parts (form.Object fs) qs = form.Object (fields_with fs qs)
with_parts (form.Actor fs) qs = form.Actor (fields_with fs qs)
with_parts (form.Variant fs) qs = form.Variant (fields_with fs qs)
with_parts (form.Function ps r) qs = form.Function (take (length ps) qs) (first_or r (drop (length ps) qs))
with_parts (form.Shared s ps r) qs = form.Shared s (take (length ps) qs) (first_or r (drop (length ps) qs))
with_parts (form.Async a) qs = form.Async (first_or a qs)
with_parts (form.Use at ts) qs = form.Use at qs
with_parts f qs = f
