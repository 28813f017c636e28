use Rattle.std.proofs.Common.{List, map, refl}
use Rattle.abstract_tree.specs.declared.declarations.Declaration.{Declaration}
use Rattle.abstract_tree.specs.TreeView.{declaration, declarations}
use Rattle.value_scopes.specs.declared.note.Note.{Note}
use Rattle.desugaring.specs.FreeNames.{names_of_list}
use Rattle.judged_parts.specs.Parts.{See}
use Rattle.kernel_names.proofs.Collecting.{all_left, none_left, one_less}
use Rattle.kernel_names.proofs.Forms.{of_names_member}
use Rattle.kernel_names.proofs.binding.list_names.Goals as goal

pub loop-one-init : goal.loop-one-init
loop-one-init c = λ (see : See). all_left (λ (xs : List (Declaration Note)). names_of_list (declarations (map (declaration see) xs))) c.args.list.now c.args.names.now

pub loop-one-preserved : goal.loop-one-preserved
loop-one-preserved c = λ (see : See). one_less (λ (xs : List (Declaration Note)). names_of_list (declarations (map (declaration see) xs))) c.args.list.now c.args.names.now _ _ _ _ _ c.loop-one-test.true c.one-item.is (rw c.get.ensures at (c.in_ok-declaration_names.ensures see)) (of_names_member see _ _) (c.loop-one.invariant see)

pub returns : goal.returns
returns c = λ (see : See). none_left (λ (xs : List (Declaration Note)). names_of_list (declarations (map (declaration see) xs))) c.args.list.now c.args.names.now _ _ c.loop-one-test.false refl (c.loop-one.invariant see)
