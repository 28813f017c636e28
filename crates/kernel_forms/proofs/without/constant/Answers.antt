use Rattle.desugaring.specs.Frames.{Frame}
use Rattle.std.proofs.Common.{false, ap}
use Rattle.typed_tree.specs.declared.literal.Literal.{Literal}
use Rattle.typing_rules.specs.Spans.{literal_of}
use Rattle.desugaring.specs.Nodes.{literal_at}
use Rattle.kernel_types.specs.Numbers.{head_of}
use Rattle.kernel_nodes.specs.Made.{constant_at}
use Rattle.kernel_nodes.proofs.Rolling.{if_same}
use Rattle.kernel_forms.proofs.without.constant.Goals as goal

pub returns : goal.returns
returns c = λ (f : Frame). if_same c.constant.result (constant_at c.args.types.now c.args.note.kind c.in_ok-value.value) (constant_at c.args.types.now c.args.note.kind (literal_at false (literal_of c.args.literal.now) (head_of c.args.types.now c.args.note.kind))) (ap (λ (z : Literal). constant_at c.args.types.now c.args.note.kind z) c.in_ok-value.ensures) c.constant.ensures
