use Rattle.std.proofs.Common.{[], ◌∷◌, refl}
use Rattle.abstract_tree.specs.TreeView.{declaration_form}
use Rattle.judged_parts.specs.Parts.{See}
use Rattle.desugaring.specs.Frames.{Unnamed}
use Rattle.kernel_roles.specs.Roles.{role_of}
use Rattle.kernel_outside.proofs.FramesBehind.{behind_as, none_behind}
use Rattle.kernel_outside.proofs.behind.push_one.Goals as goal

pub returns-in-Method : goal.returns-in-Method
returns-in-Method c = λ (see : See). behind_as _ (role_of (declaration_form see c.args.form.now)) (c.in-Method.ensures see) c.args.frames.now c.push_unnamed.new.self c.push_unnamed.result (Unnamed ∷ []) refl c.push_unnamed.ensures

pub returns-in-System : goal.returns-in-System
returns-in-System c = λ (see : See). behind_as _ (role_of (declaration_form see c.args.form.now)) (c.in-System.ensures see) c.args.frames.now c.push_unnamed-in-System.new.self c.push_unnamed-in-System.result (Unnamed ∷ []) refl c.push_unnamed-in-System.ensures

pub returns-in-Stable : goal.returns-in-Stable
returns-in-Stable c = λ (see : See). none_behind _ (role_of (declaration_form see c.args.form.now)) c.args.frames.now (c.in-Stable.ensures see) refl

pub returns-in-Function : goal.returns-in-Function
returns-in-Function c = λ (see : See). none_behind _ (role_of (declaration_form see c.args.form.now)) c.args.frames.now (c.in-Function.ensures see) refl

pub returns-in-Other : goal.returns-in-Other
returns-in-Other c = λ (see : See). none_behind _ (role_of (declaration_form see c.args.form.now)) c.args.frames.now (c.in-Other.ensures see) refl
