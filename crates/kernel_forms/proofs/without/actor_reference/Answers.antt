use Rattle.desugaring.specs.Frames.{Frame}
use Rattle.std.proofs.Common.{ℕ, List, ap}
use Rattle.typed_tree.specs.declared.literal.Literal.TheVariants as literal
use Rattle.desugaring.specs.PrincipalBytes.{principal_bytes}
use Rattle.kernel_nodes.specs.Made.{constant_at}
use Rattle.kernel_nodes.proofs.Rolling.{if_same}
use Rattle.kernel_forms.proofs.without.actor_reference.Goals as goal

pub returns : goal.returns
returns c = λ (f : Frame). if_same c.constant.result (constant_at c.args.types.now c.args.note.kind (literal.Actor c.in_ok-read.read)) (constant_at c.args.types.now c.args.note.kind (literal.Actor (principal_bytes c.args.text.now))) (ap (λ (l : List ℕ). constant_at c.args.types.now c.args.note.kind (literal.Actor l)) c.in_ok-read.ensures) c.constant.ensures
