use Rattle.typing_rules.specs.AbstractSyntax as p
use Rattle.typing_rules.specs.Spans.{literal_of}
use Rattle.typed_patterns.specs.Binding.{stands}
use Rattle.typed_patterns.specs.Making.{pattern_in}
use Rattle.std.proofs.Common.{sym}
use Rattle.typed_patterns.proofs.Joining.{handed_on}
use Rattle.typed_patterns.proofs.Standing.{constant_refused, constant_stands}
use Rattle.typed_patterns.proofs.leaves.constant_stands.Goals as goal

pub returns-in_err-literal_on : goal.returns-in_err-literal_on
returns-in_err-literal_on c s =
    handed_on (stands s (p.pattern c.args.note.at (p.Constant c.args.minus (literal_of c.args.literal.now))) c.args.note.kind) c.args.types.now c.args.types.now c.args.sharing.now c.args.names.now c.args.names.now pattern_in c.in_err-literal_on.field-0.0 c.from_residual.result c.from_residual.ensures
    (constant_refused s c.args.note.at c.args.note.kind c.args.types.now c.args.sharing.now c.args.names.now c.requires c.args.minus c.args.literal.now pattern_in c.in_err-literal_on.field-0.0 c.in_err-literal_on.ensures)

pub returns : goal.returns
returns c s = constant_stands s c.args.note.at c.args.note.kind c.args.types.now c.args.sharing.now c.args.names.now c.requires c.args.minus c.args.literal.now (pattern_in c.in_ok-constant.field-0) (λ later. sym (c.in_ok-constant.ensures later)) c.in_ok-literal_on.ensures
