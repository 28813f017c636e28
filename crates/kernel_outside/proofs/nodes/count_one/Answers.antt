use Rattle.std.proofs.Common.{refl}
use Rattle.abstract_tree.specs.TreeView.{declaration_form}
use Rattle.judged_parts.specs.Parts.{See}
use Rattle.kernel_outside.proofs.Adding.{all_counted, none_counted}
use Rattle.kernel_outside.proofs.nodes.count_one.Goals as goal

pub returns-in-Method : goal.returns-in-Method
returns-in-Method c = λ (see : See). none_counted _ (declaration_form see c.args.form.now) c.args.counted c.in_ok-counted.counted (c.in-Method.ensures see) c.in_ok-counted.ensures refl

pub returns-in-System : goal.returns-in-System
returns-in-System c = λ (see : See). none_counted _ (declaration_form see c.args.form.now) c.args.counted c.in_ok-counted.counted (c.in-System.ensures see) c.in_ok-counted.ensures refl

pub returns-in-Function : goal.returns-in-Function
returns-in-Function c = λ (see : See). none_counted _ (declaration_form see c.args.form.now) c.args.counted c.in_ok-counted.counted (c.in-Function.ensures see) c.in_ok-counted.ensures refl

pub returns-in-Stable : goal.returns-in-Stable
returns-in-Stable c = λ (see : See). all_counted _ (declaration_form see c.args.form.now) c.args.counted c.in_ok-counted.counted (c.in-Stable.ensures see) c.in_ok-counted.ensures c.count_declaration.result refl (c.count_declaration.ensures see)

pub returns-in-Other : goal.returns-in-Other
returns-in-Other c = λ (see : See). all_counted _ (declaration_form see c.args.form.now) c.args.counted c.in_ok-counted.counted (c.in-Other.ensures see) c.in_ok-counted.ensures c.count_declaration-in-Other.result refl (c.count_declaration-in-Other.ensures see)
