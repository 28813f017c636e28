-- What a tuple's shape says, and whether nothing stands behind a tag.
use Rattle.std.proofs.Common.{◌≡◌, ℕ, suc, List, [], ◌∷◌, length, Bool, false, refl, sym, ap, ◌∙◌, rules}
use Rattle.std.specs.Prelude.{◌==◌}
use Rattle.std.proofs.lemmas.List.{length-map}
use Rattle.mo_types.specs.declared.node.Node.{Node}
use Rattle.mo_types.specs.declared.node.TypeId.{TypeId}
use Rattle.typed_tree.specs.Patterns.{Parts}
use Rattle.pattern_coverage.specs.Known.{Known}
use Rattle.pattern_coverage.specs.Known as K
use Rattle.mo_coverage.specs.declared.shape.Shape.{Shape, fold-roll-Shape}
use Rattle.mo_coverage.specs.declared.shape.Shape.TheVariants as V
use Rattle.mo_coverage.specs.declared.shape.Shape.TheOpen as S
use Rattle.mo_coverage.specs.Shapes.{known, knowns, all_known, shape_step}
use Rattle.shape_patterns.specs.Stands.{part_patterns}
use Rattle.shape_patterns.specs.Writes.{is_unit}

pub parts_view : (ks : _) → known (V.Parts ks) ≡ K.Parts (knowns (all_known ks.items))
unfolding known
parts_view ks = ap known (sym (V.rolls-Parts ks)) ∙ fold-roll-Shape Known shape_step (S.Parts ks)

nothing_there : (n : ℕ) → (suc n == 0) ≡ false
nothing_there n = search rules

bare : (head : TypeId → Node TypeId) (has : TypeId → Bool) (ks : List Known) (ts : List TypeId) → (length ks == 0) ≡ is_unit (Parts (part_patterns head has (knowns ks) ts))
bare head has [] ts = refl
bare head has (k ∷ ks) [] = nothing_there (length ks)
bare head has (k ∷ ks) (t ∷ ts) = nothing_there (length ks)

pub bare_parts : (head : TypeId → Node TypeId) (has : TypeId → Bool) (ks : List Shape) (ts : List TypeId) → (length ks == 0) ≡ is_unit (Parts (part_patterns head has (knowns (all_known ks)) ts))
bare_parts head has ks ts = ap (λ n. n == 0) (sym (length-map ks known)) ∙ bare head has (all_known ks) ts
