use Rattle.std.proofs.Common.{true, ap}
use Rattle.typed_tree.specs.declared.literal.Literal.{Literal}
use Rattle.typing_rules.specs.AbstractSyntax as p
use Rattle.desugaring.specs.Nodes.{literal_at}
use Rattle.kernel_types.specs.Numbers.{head_of}
use Rattle.kernel_nodes.specs.Made.{constant_at}
use Rattle.kernel_nodes.proofs.Rolling.{if_same}
use Rattle.kernel_choices.proofs.places.signed_number.Goals as goal

pub returns : goal.returns
returns c =
    if_same c.constant.result (constant_at c.args.types.now c.args.note.kind c.in_ok-literal.literal) (constant_at c.args.types.now c.args.note.kind (literal_at true (p.Number c.args.number) (head_of c.args.types.now c.args.note.kind)))
    (ap (λ (l : Literal). constant_at c.args.types.now c.args.note.kind l) c.in_ok-literal.ensures) c.constant.ensures
