use Rattle.std.proofs.Common.{None, Some}
use Rattle.typing_rules.specs.AbstractExpressions.{in_expression, signature_span}
use Rattle.typing_rules.specs.AbstractPrograms.{in_prefix}
use Rattle.abstract_programs.proofs.ProgramMaking.{method_made}
use Rattle.abstract_programs.proofs.program_making.method.Goals as goal

pub returns : goal.returns
returns c =
    let x = c.args.written.now in
    method_made (in_prefix x.prefix) x.name (signature_span None x.parameters (Some x.result) x.equal_sign) (in_expression x.body) c.args.at _ _ _ _ _ _ _ _ _ _ _ _ c.in_ok-number_behind.ensures c.in_ok-query.ensures c.in_ok-place.ensures c.in_ok-name.ensures c.in_ok-number_behind-2.ensures c.in_ok-signature.ensures (rw c.get.ensures at c.in_ok-body.ensures) c.in_ok-make_declaration.ensures
