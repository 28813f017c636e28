-- What a form needs, by what is known of its parts.
use Rattle.std.specs.Prelude.{ℕ, Bool, true, false, ◌&&◌, not, List, [], ◌∷◌, map, Option, Some, None}
use Rattle.mo_types.specs.declared.node.Field.{Field}
use Rattle.type_terms.specs.declared.form.Form.{Form}
use Rattle.type_terms.specs.declared.form.Form.TheVariants as form
use Rattle.type_terms.specs.declared.form.TermId.{TermId}
use Rattle.type_definitions.specs.declared.definitions.Definition.{Definition}
use Rattle.type_definitions.specs.Definitions.{Listed, definition_of}
use Rattle.type_definitions.specs.Outcomes.{argument_in}
use Rattle.shareable_types.specs.declared.needs.Needs.{Needs}
use Rattle.shareable_types.specs.Sharing.{every, allowed, is_sent}
use Rattle.shareable_types.specs.Settled.{allowed_at, needed_at}

-- no field is a `var` field
abbrev pub constant_fields : List (Field TermId) → Bool
constant_fields [] = true
constant_fields (f ∷ fs) = not f.mutable && constant_fields fs

abbrev pub allowed_or_none : (ℕ → Bool) → List Needs → Option TermId → Bool
allowed_or_none x known None = true
allowed_or_none x known (Some id) = allowed_at x known id

-- the argument of a parameter of a definition
abbrev pub argument_allowed : (ℕ → Bool) → List Needs → Option Definition → List TermId → ℕ → Bool
argument_allowed x known d ids p = allowed_or_none x known (argument_in d ids p)

abbrev pub parts_allowed : (ℕ → Bool) → List Needs → List TermId → Bool
parts_allowed x known ids = every (map (allowed_at x known) ids)

abbrev pub fields_allowed : (ℕ → Bool) → List Needs → List (Field TermId) → Bool
fields_allowed x known fs = every (map (λ f. allowed_at x known f.part) fs)

-- whether it is so of a type of this form
abbrev pub form_allowed : Bool → Listed → List Needs → List Needs → (ℕ → Bool) → Form → Bool
form_allowed any l ns known x form.Error = false
form_allowed any l ns known x form.Any = any
form_allowed any l ns known x (form.Optional a) = parts_allowed x known (a ∷ [])
form_allowed any l ns known x (form.Array a) = parts_allowed x known (a ∷ [])
form_allowed any l ns known x (form.MutableArray a) = false
form_allowed any l ns known x (form.Tuple ts) = parts_allowed x known ts
form_allowed any l ns known x (form.Object fs) = constant_fields fs && fields_allowed x known fs
form_allowed any l ns known x (form.Variant fs) = fields_allowed x known fs
form_allowed any l ns known x (form.Function ps r) = false
form_allowed any l ns known x (form.Shared s ps r) = is_sent s
form_allowed any l ns known x (form.Async a) = false
form_allowed any l ns known x (form.Parameter n) = x n
form_allowed any l ns known x (form.Use n ids) = allowed (argument_allowed x known (definition_of l n) ids) (needed_at l.names ns n)
form_allowed any l ns known x f = true
