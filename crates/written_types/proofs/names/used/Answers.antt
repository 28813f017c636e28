use Rattle.std.proofs.Common.{Some, ◌∙◌, ap, sym}
use Rattle.type_definitions.proofs.PutIn.{if_ok}
use Rattle.type_scopes.specs.Scopes.{seen_name}
use Rattle.written_types.proofs.Making.{meant, used_definition}
use Rattle.written_types.proofs.names.used.Goals as goal

pub returns-in-Some-Definition : goal.returns-in-Some-Definition
returns-in-Some-Definition c = if_ok c.use_of.result _ _ c.use_of.ensures
    (λ r h. meant c.args.types.now c.use_of.new.types c.args.name.now _ _ c.args.arguments.now r (ap (λ n. Some (seen_name n)) (sym c.in-Some-Definition.field-0-is) ∙ c.in-Some-Definition.ensures)
    (used_definition c.args.types.now c.use_of.new.types c.args.name.now _ _ _ c.args.arguments.now r h))
