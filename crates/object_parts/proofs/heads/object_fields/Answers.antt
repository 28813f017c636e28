use Rattle.object_parts.proofs.FieldParts.{fields_reached, no_object, object_is}
use Rattle.object_parts.proofs.heads.object_fields.Goals as goal

pub returns-in_ok-fields_in-in-Some-object_of-clause-is : goal.returns-in_ok-fields_in-in-Some-object_of-clause-is
returns-in_ok-fields_in-in-Some-object_of-clause-is c =
    object_is c.args.types.now c.args.id c.in-Some.node.now c.in-Some.ensures.there c.in-Some-object_of.fields.now c.in_ok-fields_in-in-Some-object_of.field-0.items c.in-Some-object_of.ensures
    c.in_ok-fields_in-in-Some-object_of.ensures

pub returns-in_ok-fields_in-in-Some-object_of-clause-reached : goal.returns-in_ok-fields_in-in-Some-object_of-clause-reached
returns-in_ok-fields_in-in-Some-object_of-clause-reached c =
    fields_reached c.args.types.now c.in-Some-object_of.fields.now c.in_ok-fields_in-in-Some-object_of.field-0.items c.in_ok-fields_in-in-Some-object_of.ensures

pub returns-in-None-object_of-clause-is : goal.returns-in-None-object_of-clause-is
returns-in-None-object_of-clause-is c = no_object c.args.types.now c.args.id c.in-Some.node.now c.in-Some.ensures.there c.in-None-object_of.ensures

pub returns-in-None-clause-is : goal.returns-in-None-clause-is
returns-in-None-clause-is c = absurd (c.in-None.ensures.missing c.requires.reached)
