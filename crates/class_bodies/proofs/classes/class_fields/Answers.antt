use Rattle.class_bodies.proofs.Fielded.{fields_come, not_public}
use Rattle.class_bodies.proofs.classes.class_fields.Goals as goal

pub returns-in_err-public_fields : goal.returns-in_err-public_fields
returns-in_err-public_fields g c =
    not_public c.args.at c.args.list.now c.args.scopes.now c.args.checker.now c.requires.sound c.in_err-public_fields.field-0.0 c.from_residual.result c.from_residual.ensures c.in_err-public_fields.ensures

pub returns : goal.returns
returns g c =
    fields_come c.args.at c.args.list.now c.args.scopes.now c.args.checker.now c.requires.sound tt c.class_list.new.scopes c.class_list.new.checker c.class_list.result c.in_ok-public_fields.ensures c.class_list.ensures
