-- The types within a type, and the names that it uses.
use Rattle.std.specs.Prelude.{◌≡◌, ℕ, ◌<◌, ◌≤◌, Bool, true, false, nat_eq, length, List, [], ◌∷◌, ◌++◌, map, Option, Some, slice_get}
use Rattle.subtype_laws.specs.Reached.{Among}
use Rattle.type_terms.specs.declared.form.Form.{Form}
use Rattle.type_terms.specs.declared.form.Form.TheVariants as form
use Rattle.type_terms.specs.declared.form.TermId.{TermId}
use Rattle.type_terms.specs.Layouts.{parts}
use Rattle.typing_rules.specs.Terms.{Term}
use Rattle.typing_rules.specs.Groups.{uses_in, are_parameters, is_among, joined, leads_to, uses_of, at_own, keeps_parameters}
use Rattle.typing_rules.specs.Definitions as rule
use Rattle.typing_rules.specs.Definitions.{definition_at}
use Rattle.type_definitions.specs.Meanings.{term}
use Rattle.type_definitions.specs.Tables.{Later}
use Rattle.type_definitions.specs.Definitions.{Listed, types_in}

module _ (forms : List Form) (id : TermId) where
  -- a type within the type
  pub data Within : TermId → Type 0 where
    Itself : Within id
    Part : (a b : TermId) (f : Form) → Within b → slice_get forms b.index ≡ Some f → Among a (parts f) → Within a

-- these are the types within the type
pub record AreWithin (forms : List Form) (id : TermId) (found : List TermId) : Type 0 where
  pub sound : (a : TermId) → Among a found → Within forms id a
  pub all : (a : TermId) → Within forms id a → Among a found

-- These are the old ones, and those of the list that were not among them.
pub record Adds {A : Type 0} (old xs new : List A) : Type 0 where
  pub more : List A
  pub grows : new ≡ old ++ more
  pub from : (a : A) → Among a more → Among a xs
  pub all : (a : A) → Among a xs → Among a new

-- with the parts of the type
abbrev pub AddsParts : List Form → TermId → List TermId → List TermId → Type 0
AddsParts forms id old new = (f : Form) → slice_get forms id.index ≡ Some f → Adds old (parts f) new

-- the name that a type of the table is a use of
abbrev pub name_in : Option Form → List ℕ
name_in (Some (form.Use n ids)) = n ∷ []
name_in _ = []

abbrev pub name_of : List Form → TermId → List ℕ
name_of forms id = name_in (slice_get forms id.index)

-- the names that a type uses
abbrev pub names_in : Term → List ℕ
names_in u = map (λ (x : ℕ × List Term). x.0) (uses_in u)

-- These are the old ones, and those that the type uses.
pub record AddsUsed (forms : List Form) (id : TermId) (old new : List ℕ) : Type 0 where
  pub more : List ℕ
  pub grows : new ≡ old ++ more
  pub from : (later : List Form) → Later forms later → (m : ℕ) → Among m more → Among m (names_in (term later id))
  pub all : (later : List Form) → Later forms later → (m : ℕ) → Among m (names_in (term later id)) → Among m new

-- whether a type of the table is the parameter of this number
abbrev pub is_parameter : Option Form → ℕ → Bool
is_parameter (Some (form.Parameter at)) n = nat_eq at n
is_parameter _ n = false

-- whether these are the parameters, in their order
abbrev pub AreOwn : List Form → List ℕ → List TermId → Bool → Type 0
AreOwn forms own ids is = (later : List Form) → Later forms later → is ≡ are_parameters own (map (term later) ids)

module _ (l : Listed) (forms : List Form) where
  -- the definition of the one name uses the other
  abbrev pub UsesName : List Form → ℕ → ℕ → Type 0
  UsesName later n m = Among m (map (λ (x : ℕ × List Term). x.0) (uses_of (types_in later l) (definition_at (types_in later l) n)))

  -- These are the old ones, and those that the definition of the name uses.
  pub record AddsUsesOf (n : ℕ) (old new : List ℕ) : Type 0 where
    pub more : List ℕ
    pub grows : new ≡ old ++ more
    pub from : (later : List Form) → Later forms later → (m : ℕ) → Among m more → UsesName later n m
    pub all : (later : List Form) → Later forms later → (m : ℕ) → UsesName later n m → Among m new

  abbrev pub AddsUsesAt : ℕ → List ℕ → List ℕ → Type 0
  AddsUsesAt place old new = (n : ℕ) → slice_get old place ≡ Some n → AddsUsesOf n old new

  -- These are the old ones, and those that the definitions of the names from this place on use, up to another place.
  pub record AddsFrom (place until : ℕ) (old new : List ℕ) : Type 0 where
    pub more : List ℕ
    pub grows : new ≡ old ++ more
    pub from : (later : List Form) → Later forms later → (m : ℕ) → Among m more → (n : ℕ) × Among n old × UsesName later n m
    pub all : (later : List Form) → Later forms later → (i n m : ℕ) → place ≤ i → i < until → slice_get old i ≡ Some n → UsesName later n m → Among m new

  -- whether what a definition of this right side uses leads to the name
  abbrev pub LeadsTo : TermId → ℕ → Bool → Type 0
  LeadsTo right name is = (later : List Form) → Later forms later → is ≡ is_among name (leads_to (types_in later l) (length (types_in later l)) (joined [] (uses_in (term later right))))

  -- whether a definition of this name, with these parameters, uses that name as it may
  abbrev pub UsesAsOwn : ℕ → List ℕ → ℕ → List TermId → Bool → Type 0
  UsesAsOwn name own at ids is = (later : List Form) → Later forms later → (d : rule.Definition) → d.at ≡ name → is ≡ at_own (types_in later l) d own (map (term later) ids) (definition_at (types_in later l) at)

  -- the same of a type that may be a use
  abbrev pub MayUse : ℕ → List ℕ → Option Form → Bool → Type 0
  MayUse name own (Some (form.Use n ids)) is = UsesAsOwn name own n ids is
  MayUse name own _ is = is ≡ true

  -- whether the definition of this name, with these parameters and this right side, keeps to its parameters
  abbrev pub Keeps : ℕ → List ℕ → TermId → Bool → Type 0
  Keeps name own right is = (later : List Form) → Later forms later → (d : rule.Definition) → d.at ≡ name → d.outer ++ d.own ≡ own → d.right ≡ term later right → is ≡ keeps_parameters (types_in later l) (Some d)

  -- whether the definition of this name keeps to its parameters
  abbrev pub KeepsParameters : ℕ → Bool → Type 0
  KeepsParameters at is = (later : List Form) → Later forms later → is ≡ keeps_parameters (types_in later l) (definition_at (types_in later l) at)
