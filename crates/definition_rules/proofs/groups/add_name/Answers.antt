use Rattle.definition_rules.proofs.Adding.{adds_none, adds_one, same_number}
use Rattle.std.specs.Prelude.{nat_eq}
use Rattle.definition_rules.proofs.groups.add_name.Goals as goal

pub returns : goal.returns
returns c = adds_one nat_eq same_number c.args.names.now.keys _ c.args.names.now.keys c.insert.new.self.keys c.args.name (adds_none nat_eq same_number c.args.names.now.keys) c.in_ok-insert.ensures.keys
