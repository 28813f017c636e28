-- What the definitions of a program need of their arguments: not more than is so, and not less.
use Rattle.std.specs.Prelude.{◌≡◌, ℕ, Bool, true, false, List, [], length, Option, Some, None, slice_get}
use Rattle.mo_types.specs.Sub.{Each}
use Rattle.type_terms.specs.declared.form.Form.{Form}
use Rattle.type_terms.specs.declared.form.TermId.{TermId}
use Rattle.type_terms.specs.Layouts.{parts}
use Rattle.typing_rules.specs.Terms.{Term, Terms, argument_of}
use Rattle.typing_rules.specs.Terms as t
use Rattle.typing_rules.specs.Definitions.{reached}
use Rattle.typing_rules.specs.Heads.{head}
use Rattle.type_definitions.specs.declared.definitions.Definition.{Definition}
use Rattle.type_definitions.specs.declared.chains.Outcome.{Outcome}
use Rattle.type_definitions.specs.declared.chains.Outcome.TheVariants as outcome
use Rattle.type_definitions.specs.Meanings.{term}
use Rattle.type_definitions.specs.Tables.{Later}
use Rattle.type_definitions.specs.Places.{first_place}
use Rattle.type_definitions.specs.Definitions.{Listed, at_place, definition_of, types_in, rules_in}
use Rattle.type_definitions.specs.Outcomes.{or_endless}
use Rattle.shareable_types.specs.declared.needs.Needs.{Needs}
use Rattle.shareable_types.specs.Sharing.{allowed, shares}
use Rattle.shareable_types.specs.Shared.{IsAs}

-- where nothing is needed
abbrev pub nothing : Needs
nothing = record { never = false; parameters = [] }

abbrev pub or_nothing : Option Needs → Needs
or_nothing None = nothing
or_nothing (Some n) = n

abbrev pub needed_at : List ℕ → List Needs → ℕ → Needs
needed_at names ns at = or_nothing (at_place ns (first_place names at))

abbrev pub own_parameters : Option Definition → List ℕ
own_parameters None = []
own_parameters (Some d) = d.parameters

-- what is known of a term by its number
abbrev pub allowed_at : (ℕ → Bool) → List Needs → TermId → Bool
allowed_at x known id = allowed x (or_nothing (slice_get known id.index))

module _ (any : Bool) (l : Listed) (ns : List Needs) where
  abbrev pub parameters_at : ℕ → List ℕ
  parameters_at at = own_parameters (definition_of l at)

  -- whether values of a type may be sent, by what definitions need
  abbrev pub shares_by : (ℕ → Bool) → Term → Bool
  shares_by x t = shares any parameters_at (needed_at l.names ns) x t

  module _ (later : List Form) where
    abbrev pub IsSent : Term → Type 0
    IsSent t = IsAs any (head (rules_in later l)) t

    -- What is needed of a use is so where its values may be sent.
    abbrev pub Valid : Type 0
    Valid = (at : ℕ) (us : Terms) → IsSent (t.Use at us)
        → ((needed_at l.names ns at).never ≡ false) × Each (λ p. IsSent (argument_of (parameters_at at) us p)) (needed_at l.names ns at).parameters

    -- of the argument that a use leads to, or else of the right side
    abbrev pub Suits : (ℕ → Bool) → Definition → Term → Type 0
    Suits x d (t.Parameter p) = x p ≡ true
    Suits x d u = shares_by x (term later d.right) ≡ true

    -- Where what is needed is so, the right side may be sent.
    abbrev pub Fixed : Type 0
    Fixed = (at : ℕ) (d : Definition) (u : Term) → definition_of l at ≡ Some d → reached (types_in later l) at ≡ Some u
        → (x : ℕ → Bool) → allowed x (needed_at l.names ns at) ≡ true → Suits x d u

  -- this is what the parts of a form need
  abbrev pub KnownParts : (ℕ → Bool) → (TermId → Term) → List Needs → Form → Type 0
  KnownParts x at known f = Each (λ p. shares_by x (at p) ≡ allowed_at x known p) (parts f)

  -- this is what the terms of a table need
  abbrev pub Knows : List Form → List Needs → Type 0
  Knows forms known = (later : List Form) → Later forms later → (id : TermId) (n : Needs) → slice_get known id.index ≡ Some n → (x : ℕ → Bool) → shares_by x (term later id) ≡ allowed x n

  module _ (forms : List Form) where
    -- what a definition needs, by what it leads to
    abbrev pub IsNeedOf : Outcome → Definition → Needs → Type 0
    IsNeedOf outcome.Endless d n = (x : ℕ → Bool) → allowed x n ≡ true
    IsNeedOf (outcome.Parameter p) d n = (x : ℕ → Bool) → allowed x n ≡ x p
    IsNeedOf outcome.Form d n = (later : List Form) → Later forms later → (x : ℕ → Bool) → shares_by x (term later d.right) ≡ allowed x n

    -- what each definition needs, where it is so of those that it uses
    pub record IsRound (outcomes : List Outcome) (made : List Needs) : Type 0 where
      pub many : length made ≡ length l.types
      pub each : (i : ℕ) (d : Definition) (n : Needs) → slice_get l.types i ≡ Some d → slice_get made i ≡ Some n → IsNeedOf (or_endless (slice_get outcomes i)) d n

    pub record Settled : Type 0 where
      pub valid : (later : List Form) → Later forms later → Valid later
      pub fixed : (later : List Form) → Later forms later → Fixed later

-- ---- rounds

abbrev pub AreNothing : List Needs → Type 0
AreNothing ns = Each (λ n. (x : ℕ → Bool) → allowed x n ≡ true) ns

-- what a definition needs, by what is known of terms
abbrev pub NeedIn : List Needs → Outcome → Definition → Needs → Type 0
NeedIn known outcome.Endless d n = (x : ℕ → Bool) → allowed x n ≡ true
NeedIn known (outcome.Parameter p) d n = (x : ℕ → Bool) → allowed x n ≡ x p
NeedIn known outcome.Form d n = (x : ℕ → Bool) → allowed x n ≡ allowed_at x known d.right

-- where what is needed by the one is so, it is so by the other
abbrev pub AreCovered : List Needs → List Needs → Type 0
AreCovered ns ms = (i : ℕ) (n m : Needs) → slice_get ns i ≡ Some n → slice_get ms i ≡ Some m → (x : ℕ → Bool) → allowed x n ≡ true → allowed x m ≡ true
