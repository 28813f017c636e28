-- How many types are reached from some, with their fields and parts.
use Rattle.std.specs.Prelude.{ℕ, ◌+◌, Bool, false, ◌||◌, List, [], ◌∷◌, ◌++◌, length, sum_by, flat_map}
use Rattle.mo_types.specs.declared.node.TypeId.{TypeId}
use Rattle.mo_types.specs.Graph.{node_of, node_or_bottom, head_at}
use Rattle.mo_types.specs.Layout.{entries, same_id}
use Rattle.mo_meaning.specs.Coding.{Types, parts_of}
use Rattle.mo_coding.specs.Walks.{visit}

abbrev pub has_id : List TypeId → TypeId → Bool
has_id [] t = false
has_id (u ∷ us) t = same_id u t || has_id us t

-- these types, and all parts of nodes: no other is reached
abbrev pub all_parts : Types → List TypeId
all_parts slots = flat_map (λ s. parts_of (node_or_bottom (node_of s))) slots

-- the types that are reached from these, in the order of first visit
abbrev pub reached : Types → List TypeId → List TypeId
reached slots types = visit has_id (λ t. parts_of (head_at slots t)) (length (types ++ all_parts slots)) [] types

abbrev pub extent : Types → List TypeId → ℕ
extent slots types = let all = reached slots types in length all + sum_by (λ t. entries (head_at slots t)) all
