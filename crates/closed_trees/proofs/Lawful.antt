-- The types of a program in environments are as a run asks.
use Rattle.std.proofs.Common.{◌≡◌, ◌≤◌, ◌∙◌, ℕ, List, [], length, None, Some, refl, sym, ap}
use Rattle.mo_num.specs.declared.kind.Kind.TheVariants as kind
use Rattle.mo_types.specs.declared.node.Node.TheVariants as node
use Rattle.mo_types.specs.Graph.{Slot, head_at}
use Rattle.mo_types.specs.Heads.{variable_of}
use Rattle.typed_tree.specs.Basics.{HasBasics}
use Rattle.typed_tree.specs.Types.{AreLawful}
use Rattle.closed_types.specs.Expanded.{close_in, expanded}
use Rattle.closed_types.proofs.Environments.{closed}
use Rattle.closed_types.proofs.Expanded.{closing}
use Rattle.closed_rules.proofs.Heads.{at}
use Rattle.mo_soundness.specs.Lawful.{IsLawful}

pub closed_lawful : (types : List Slot) (first : ℕ) → length types ≤ first → AreLawful types → HasBasics types → IsLawful (expanded types first)
closed_lawful types first past graph basics = record {
  own = (closed types first past graph).own;
  one = λ t w x y v e f. absurd (let z : None ≡ Some v = sym ((closed types first past graph).none t) ∙ ap variable_of e in cc);
  flag = close_in types first [] basics.flag;
  is_flag = at (head_at types) (expanded types first) (closing types first past []) basics.flag node.Bool basics.is_flag refl;
  unit = close_in types first [] basics.unit;
  is_unit = at (head_at types) (expanded types first) (closing types first past []) basics.unit (node.Tuple []) basics.is_unit refl;
  natural = close_in types first [] basics.natural;
  is_natural = at (head_at types) (expanded types first) (closing types first past []) basics.natural (node.Number kind.Nat) basics.is_natural refl;
}
