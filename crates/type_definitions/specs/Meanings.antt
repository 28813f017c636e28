-- The terms that a table stands for: under each number the term of its form, whose parts are the terms under lesser numbers.
use Rattle.std.specs.Prelude.{List, [], ◌∷◌, ◌++◌, map, Option, Some, None, slice_get}
use Rattle.mo_types.specs.declared.node.Field.{Field}
use Rattle.mo_subtype.specs.Renamed.{on_field}
use Rattle.type_terms.specs.declared.form.Form.{Form}
use Rattle.type_terms.specs.declared.form.Form.TheVariants as form
use Rattle.type_terms.specs.declared.form.TermId.{TermId}
use Rattle.typing_rules.specs.Terms.{Term, Fields, unlisted}
use Rattle.typing_rules.specs.Terms as t

abbrev pub unlisted_fields : List (Field Term) → Fields
unlisted_fields [] = t.NoFields
unlisted_fields (f ∷ fs) = t.WithField f.label f.mutable f.part (unlisted_fields fs)

module _ (at : TermId → Term) where
  abbrev pub parts_at : List TermId → List Term
  parts_at ids = map at ids

  abbrev pub fields_at : List (Field TermId) → Fields
  fields_at fs = unlisted_fields (map (on_field at) fs)

  -- the term of a form, where these are the terms of its parts
  abbrev pub term_of : Form → Term
  term_of (form.Number k) = t.Number k
  term_of form.Boolean = t.Boolean
  term_of form.Character = t.Character
  term_of form.Text = t.Text
  term_of form.Blob = t.Blob
  term_of form.Principal = t.Principal
  term_of form.Error = t.Error
  term_of form.Null = t.Null
  term_of form.Any = t.Any
  term_of form.Bottom = t.Bottom
  term_of (form.Optional a) = t.Optional (at a)
  term_of (form.Array a) = t.Array (at a)
  term_of (form.MutableArray a) = t.MutableArray (at a)
  term_of (form.Tuple ts) = t.Tuple (unlisted (parts_at ts))
  term_of (form.Object fs) = t.Object (fields_at fs)
  term_of (form.Actor fs) = t.Actor (fields_at fs)
  term_of (form.Variant fs) = t.Variant (fields_at fs)
  term_of (form.Function ps r) = t.Function (unlisted (parts_at ps)) (at r)
  term_of (form.Shared s ps r) = t.Shared s (unlisted (parts_at ps)) (at r)
  term_of (form.Async a) = t.Async (at a)
  term_of (form.Parameter n) = t.Parameter n
  term_of (form.Use n ts) = t.Use n (unlisted (parts_at ts))

abbrev pub or_bottom : Option Term → Term
or_bottom None = t.Bottom
or_bottom (Some u) = u

abbrev pub listed_at : List Term → TermId → Term
listed_at us id = or_bottom (slice_get us id.index)

abbrev pub terms_from : List Term → List Form → List Term
terms_from us [] = us
terms_from us (f ∷ fs) = terms_from (us ++ term_of (listed_at us) f ∷ []) fs

-- the terms of a table, in the order of their numbers
unfoldable pub terms : List Form → List Term
terms forms = terms_from [] forms

-- the term of this number
abbrev pub term : List Form → TermId → Term
term forms id = listed_at (terms forms) id
