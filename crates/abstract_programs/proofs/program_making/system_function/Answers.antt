use Rattle.abstract_programs.proofs.ProgramMaking.{system_made}
use Rattle.abstract_programs.proofs.program_making.system_function.Goals as goal

pub returns : goal.returns
returns c = system_made c.args.name.now c.args.equal_sign c.args.body.now c.args.at _ _ _ _ _ _ c.in_ok-number_behind.ensures c.in_ok-name.ensures c.count_if.ensures.count (rw c.get.ensures at c.in_ok-body.ensures) c.in_ok-make_declaration.ensures
