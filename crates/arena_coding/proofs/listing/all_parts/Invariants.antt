use Rattle.std.proofs.Common.{◌≡◌, ℕ, drop}
use Rattle.typed_tree.specs.Language.{Functions}
use Rattle.arena_coding.proofs.Parts.{behind, parts_at}
use Rattle.arena_coding.proofs.listing.all_parts.Given as goal

abbrev pub invariant-loop-place : goal.invariant-loop-place
invariant-loop-place l =
    (groups : ℕ → Functions) → parts_at l.types l.arena groups l.ids l.values ≡ behind l.parts.items (parts_at l.types l.arena groups (drop l.place l.ids) (drop l.place l.values))
