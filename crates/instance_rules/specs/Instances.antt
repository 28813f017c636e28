-- Types at type arguments, in each later table.
use Rattle.std.specs.Prelude.{◌≡◌, ℕ, List, length, map}
use Rattle.mo_types.specs.Sub.{Each}
use Rattle.type_terms.specs.declared.form.Form.{Form}
use Rattle.type_terms.specs.declared.form.TermId.{TermId}
use Rattle.typing_rules.specs.declared.condition.Condition.TheVariants as condition
use Rattle.typing_rules.specs.AbstractSyntax.{TypeNode}
use Rattle.typing_rules.specs.Calls.{Instance, bound_questions, bound_terms}
use Rattle.typing_rules.specs.Definitions.{bound_at}
use Rattle.typing_rules.specs.Judgements.{Gives, Judgement, MeetsEach, NeedsEach}
use Rattle.typing_rules.specs.Terms.{Term, with_arguments, zipped}
use Rattle.typing_rules.specs.Types.{ReadsEach}
use Rattle.type_definitions.specs.Definitions.{Listed, rules_in}
use Rattle.type_definitions.specs.Meanings.{term}
use Rattle.type_definitions.specs.Tables.{Later, Within}
use Rattle.met_types.specs.States.{State, Goes, IsReached, Kept, Stands}
use Rattle.type_scopes.specs.Scopes.{seen}
use Rattle.value_scopes.specs.declared.bound.Bound.{Bound}
use Rattle.value_scopes.specs.Values.{bound_in}
use Rattle.judging.specs.Views.{View, definitions}

-- ---- terms that were found or made, where what was met is as before

module _ (old : State) (P : List Form → Type 0) where
  pub record Puts (id : TermId) (new : State) : Type 0 where
    pub kept : Kept new
    pub goes : Goes old new
    pub stands : (met : List Term) → Stands met old → Stands met new
    pub within : Within new.forms id
    pub is : (later : List Form) → Later new.forms later → P later

  -- as many as there are parameters
  pub record PutsEach (parameters : List ℕ) (ids : List TermId) (new : State) : Type 0 where
    pub kept : Kept new
    pub goes : Goes old new
    pub stands : (met : List Term) → Stands met old → Stands met new
    pub many : length ids ≡ length parameters
    pub within : Each (Within new.forms) ids
    pub is : (later : List Form) → Later new.forms later → P later

-- the bound of a parameter
abbrev pub IsBound : Listed → ℕ → TermId → List Form → Type 0
IsBound l g id later = term later id ≡ bound_at (rules_in later l).parameters g

module _ (gs : List ℕ) (us : List TermId) where
  -- a type with these arguments in the place of the parameters
  abbrev pub with_these : List Form → Term → Term
  with_these later u = with_arguments (zipped gs (map (term later) us)) u

  abbrev pub IsWith : TermId → TermId → List Form → Type 0
  IsWith id made later = term later made ≡ with_these later (term later id)

  -- the bound of a parameter with these arguments
  abbrev pub bound_with : Listed → List Form → ℕ → Term
  bound_with l later g = with_these later (bound_at (rules_in later l).parameters g)

  abbrev pub IsBoundWith : Listed → ℕ → TermId → List Form → Type 0
  IsBoundWith l g id later = term later id ≡ bound_with l later g

  abbrev pub AreBoundsWith : Listed → List ℕ → List TermId → List Form → Type 0
  AreBoundsWith l xs ids later = map (term later) ids ≡ map (bound_with l later) xs

-- ---- judgements

abbrev pub terms_in : List TermId → List Form → List Term
terms_in ids later = map (term later) ids

abbrev pub all_reached : State → List TermId → Type 0
all_reached s ids = Each (IsReached s) ids

abbrev pub reads_each : List TypeNode → View → Judgement (List Term)
reads_each ns v = ReadsEach (definitions v) (seen v.scopes.types) ns

abbrev pub instance : ℕ → Bound → List TypeNode → View → Judgement Term
instance at b ns v = Instance (definitions v) at (seen v.scopes.types) (bound_in v.later b) ns

-- each argument is below its bound, and the type at all of them is given
abbrev pub at_arguments : ℕ → Bound → List TermId → View → Judgement Term
at_arguments at b us v =
    MeetsEach (bound_terms (definitions v) (zipped b.generics (map (term v.later) us)) (zipped b.generics (map (term v.later) us)))
    (NeedsEach condition.Bound at (bound_questions (definitions v) (zipped b.generics (map (term v.later) us)) (zipped b.generics (map (term v.later) us)))
    (Gives (with_these b.generics us v.later (term v.later b.kind))))
