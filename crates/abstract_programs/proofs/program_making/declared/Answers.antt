use Rattle.abstract_programs.proofs.ProgramMaking.{declared_made}
use Rattle.abstract_programs.proofs.program_making.declared.Goals as goal

pub returns : goal.returns
returns c = declared_made c.args.private c.args.d.now c.args.at _ _ _ _ c.count_if.ensures.count (rw c.get.ensures at c.in_ok-form.ensures) c.in_ok-make_declaration.ensures
