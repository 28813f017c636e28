use Rattle.std.proofs.Common.{length}
use Rattle.typing_rules.specs.Terms as t
use Rattle.built_in_members.specs.Written.{plain_field}
use Rattle.built_in_members.proofs.Interned.{below_object, object_is, one_field}
use Rattle.built_in_members.proofs.writing.object.Goals as goal

pub write-requires-clause-below : goal.write-requires-clause-below
write-requires-clause-below c =
    below_object (length c.args.types.now.forms) c.push.new.self c.args.label.now c.args.part
    (one_field c.push.new.self c.new-fields.result c.in_ok-field.field-0 (plain_field c.args.label.now c.args.part) c.new-fields.ensures c.in_ok-field.ensures c.in_ok-push.ensures.ok) c.requires.part

pub returns : goal.returns
returns c = λ u w.
    c.write.ensures (t.Object (t.constant c.args.label.now u t.NoFields))
    (object_is c.args.types.now c.push.new.self c.args.label.now c.args.part u
    (one_field c.push.new.self c.new-fields.result c.in_ok-field.field-0 (plain_field c.args.label.now c.args.part) c.new-fields.ensures c.in_ok-field.ensures c.in_ok-push.ensures.ok) w)
