-- Keys of a graph, and how they are compared and hashed.
use Rattle.std.proofs.Common.{◌≡◌, ℕ, Bool, false, List, nat_eq, ap}
use Rattle.std.specs.Bool.{Decides}
use Rattle.std.specs.Cmp.{unsigned_Decides}
use Rattle.std.specs.Hash as fed
use Rattle.mo_types.specs.declared.key.Key.{Key}
use Rattle.mo_types.specs.declared.key.Key.TheVariants as key
use Rattle.mo_types.specs.declared.node.Node.{Node}
use Rattle.mo_types.specs.declared.node.Node.TheVariants as node
use Rattle.mo_types.specs.declared.node.TypeId.{TypeId}
use Rattle.mo_types.specs.Layout.{digest, same_node}
use Rattle.mo_types.specs.Same.{node_decides}

abbrev pub same_key : Key → Key → Bool
same_key (key.Fresh m) (key.Fresh n) = nat_eq m n
same_key (key.Interned m) (key.Interned n) = same_node m n
same_key _ _ = false

abbrev pub fed_key : Key → List (List ℕ)
fed_key (key.Fresh n) = fed.u32 n
fed_key (key.Interned n) = fed.u32 (digest n)

abbrev number_in : Key → ℕ
number_in (key.Fresh n) = n
number_in (key.Interned n) = 0

abbrev node_in : Key → Node TypeId
node_in (key.Fresh n) = node.Bool
node_in (key.Interned n) = n

pub key_decides : (a b : Key) → Decides (same_key a b) (a ≡ b)
key_decides (key.Fresh m) (key.Fresh n) = (λ h. ap (λ (x : ℕ). key.Fresh x) ((unsigned_Decides m n).0 h), λ h. (unsigned_Decides m n).1 (ap number_in h))
key_decides (key.Interned m) (key.Interned n) = (λ h. ap (λ (x : Node TypeId). key.Interned x) ((node_decides m n).0 h), λ h. (node_decides m n).1 (ap node_in h))
key_decides (key.Fresh m) (key.Interned n) = (λ h. cc, λ h. cc)
key_decides (key.Interned m) (key.Fresh n) = (λ h. cc, λ h. cc)
