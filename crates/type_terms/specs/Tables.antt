-- Tables of terms: forms whose parts are forms before them, none twice.
use Rattle.std.specs.Prelude.{◌≡◌, ℕ, ◌<◌, ◌≤◌, List, [], ◌∷◌, ◌++◌, ◌⊎◌, length, slice_get, Some}
use Rattle.mo_types.specs.Sub.{Each}
use Rattle.type_terms.specs.declared.form.Form.{Form}
use Rattle.type_terms.specs.declared.form.TermId.{TermId}
use Rattle.type_terms.specs.Layouts.{parts}

-- the parts of the form have numbers below n
abbrev pub PartsBelow : ℕ → Form → Type 0
PartsBelow n f = Each (λ p. p.index < n) (parts f)

-- each form is made of those before it
abbrev pub Founded : List Form → Type 0
Founded forms = (i : ℕ) (f : Form) → slice_get forms i ≡ Some f → PartsBelow i f

-- a table, whose numbers are those of 32 bits
pub record IsTable (forms : List Form) : Type 0 where
  pub founded : Founded forms
  pub few : length forms ≤ 4294967295

-- no form stands under two numbers
abbrev pub Distinct : List Form → Type 0
Distinct forms = (i j : ℕ) (f : Form) → slice_get forms i ≡ Some f → slice_get forms j ≡ Some f → i ≡ j

-- the form is not there
abbrev pub IsNew : List Form → Form → Type 0
IsNew forms f = (i : ℕ) → slice_get forms i ≡ Some f → ⊥

-- what intern does: it finds the form, or adds it
abbrev pub Interns : List Form → Form → TermId → List Form → Type 0
Interns old f id new =
    ((slice_get old id.index ≡ Some f) × (new ≡ old))
    ⊎ (IsNew old f × (id.index ≡ length old) × (new ≡ old ++ f ∷ []))
