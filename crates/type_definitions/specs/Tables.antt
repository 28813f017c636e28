-- Tables that grow. What is said of terms holds in the table that is there at last, so that it need not be carried from one table to the next.
use Rattle.std.specs.Prelude.{◌≡◌, ◌<◌, List, ◌++◌, length}
use Rattle.type_terms.specs.declared.form.Form.{Form}
use Rattle.type_terms.specs.declared.form.TermId.{TermId}
use Rattle.mo_types.specs.Sub.{Each}
use Rattle.type_terms.specs.Tables.{Distinct, Founded}
use Rattle.type_definitions.specs.Meanings.{term, term_of}

abbrev pub Grows : List Form → List Form → Type 0
Grows old new = (more : List Form) × (new ≡ old ++ more)

-- a term of the table
abbrev pub Within : List Form → TermId → Type 0
Within forms id = id.index < length forms

-- a later table
pub record Later (old later : List Form) : Type 0 where
  pub grows : Grows old later
  pub founded : Founded later
  pub distinct : Distinct later

-- a term was found or made, and in each later table this holds
pub record Makes (old : List Form) (P : List Form → Type 0) (id : TermId) (new : List Form) : Type 0 where
  pub grows : Grows old new
  pub within : Within new id
  pub is : (later : List Form) → Later new later → P later

-- the same of several terms, as many as these
pub record MakesParts (old : List Form) (parts : List TermId) (P : List Form → Type 0) (ids : List TermId) (new : List Form) : Type 0 where
  pub grows : Grows old new
  pub many : length ids ≡ length parts
  pub within : Each (Within new) ids
  pub is : (later : List Form) → Later new later → P later

-- the same of a list
pub record MakesList (old : List Form) (P : List Form → Type 0) (ids : List TermId) (new : List Form) : Type 0 where
  pub grows : Grows old new
  pub within : Each (Within new) ids
  pub is : (later : List Form) → Later new later → P later

-- it is the term of the form
abbrev pub IsTermOf : Form → TermId → List Form → Type 0
IsTermOf f id later = term later id ≡ term_of (term later) f
