-- A declaration that stands around what is behind it (Motoko language manual, section "Declarations"), as an expression that runs.
use Rattle.std.specs.Prelude.{◌≡◌, ◌⊎◌, List}
use Rattle.mo_types.specs.declared.node.TypeId.{TypeId}
use Rattle.typed_tree.specs.Language.{Exp, Functions, Group, let_in}
use Rattle.typed_tree.specs.Patterns.{Pat}
use Rattle.typed_tree.specs.Wants.{Want}
use Rattle.mo_soundness.specs.RunningPatterns.{BindsAt}
use Rattle.mo_soundness.specs.Running.{Around, AnswerTypes, with_names, Typed, FunctionsTyped}
use Rattle.mo_soundness.specs.Worlds.{World}

module _ (world : World) (answers : AnswerTypes) (kinds : List TypeId) where
  -- f is b behind a declaration whose names stand for these: a value that is met by a pattern, or functions
  abbrev pub Opens : Around → List (Want TypeId) → Exp → Exp → Type 0
  Opens c ns f b =
      ((e : Exp) × (p : Pat) × (a : Want TypeId) × (f ≡ let_in p e b) × Typed world answers kinds c e a × BindsAt world.head p a ns)
      ⊎ ((fns : Functions) × (f ≡ Group fns b) × FunctionsTyped world answers kinds (with_names ns c) fns ns)
