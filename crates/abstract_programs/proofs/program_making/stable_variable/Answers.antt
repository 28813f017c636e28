use Rattle.abstract_programs.proofs.ProgramMaking.{stable_made}
use Rattle.abstract_programs.proofs.program_making.stable_variable.Goals as goal

pub returns : goal.returns
returns c = stable_made c.args.private c.args.name.now c.args.kind.now c.args.a.now c.args.at _ _ _ _ _ _ _ _ c.count_if.ensures.count c.in_ok-place.ensures c.in_ok-name.ensures c.in_ok-annotation.ensures (rw c.get.ensures at c.in_ok-value.ensures) c.in_ok-make_declaration.ensures
