-- Types of values in a program.
use Rattle.std.specs.Prelude.{◌≡◌, ℕ, List, None}
use Rattle.mo_types.specs.Heads.{async_of}
use Rattle.subtype_laws.specs.Reached.{Among}
use Rattle.typed_tree.specs.Instances.{MentionsOnly}
use Rattle.typing_rules.specs.Definitions.{Definitions}
use Rattle.typing_rules.specs.Heads.{head}
use Rattle.typing_rules.specs.Terms.{Term}

-- a type in which no type parameters but these are met, and not that of a future
pub record IsFine (defs : Definitions) (vs : List ℕ) (u : Term) : Type 0 where
  pub scoped : MentionsOnly (head defs) vs u
  pub no_future : async_of (head defs u) ≡ None

-- one that was met
pub record IsKnown (defs : Definitions) (terms : List Term) (vs : List ℕ) (u : Term) : Type 0 where
  pub there : Among u terms
  pub fine : IsFine defs vs u
