use Rattle.first_scopes.proofs.Beginning.{begins_sound}
use Rattle.first_scopes.proofs.scopes.first_scopes.Goals as goal

pub returns-clause-sound : goal.returns-clause-sound
returns-clause-sound c = begins_sound c.args.checker.now c.own_type.new.types c.args.program.now.name c.in_ok-own.own _ c.requires c.in_ok-own.ensures.same.kept c.in_ok-own.ensures.same.goes c.in_ok-own.ensures.made.within
    c.in_ok-values.ensures c.new-2.ensures
