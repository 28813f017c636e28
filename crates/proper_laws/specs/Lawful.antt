-- What is asked of the types of a program, said of those that are met and reached in it.
use Rattle.std.specs.Prelude.{◌≡◌, ℕ, ◌<◌, List}
use Rattle.mo_types.specs.declared.node.Node.TheVariants as node
use Rattle.typed_tree.specs.Types.{IsLawfulNode, HasNoFuture}
use Rattle.typing_rules.specs.Counts.{Reached}
use Rattle.typing_rules.specs.Definitions.{Definitions}
use Rattle.typing_rules.specs.Heads.{head}
use Rattle.typing_rules.specs.Terms.{Term}

pub record AreTypesLawful (defs : Definitions) (met : List Term) : Type 0 where
  pub nodes : (u : Term) → Reached defs met u → IsLawfulNode (head defs) (head defs u) × HasNoFuture (head defs) (head defs u)
  -- a type parameter has one bound
  pub bounds : (t u b c : Term) (v : ℕ) → Reached defs met t → Reached defs met u → head defs t ≡ node.Variable v b → head defs u ≡ node.Variable v c → b ≡ c
  -- bounds that are parameters themselves come to an end
  pub rank : ℕ → ℕ
  pub bounds_end : (t b c : Term) (v w : ℕ) → Reached defs met t → head defs t ≡ node.Variable v b → head defs b ≡ node.Variable w c → rank w < rank v
