use Rattle.std.proofs.Common.{map}
use Rattle.abstract_types.specs.PatternView.{plain}
use Rattle.class_bodies.proofs.Enclosed.{fields_given, no_fields, no_parameters, sound_there}
use Rattle.class_bodies.proofs.classes.class_parts.Goals as goal

pub class_fields-requires-clause-sound : goal.class_fields-requires-clause-sound
class_fields-requires-clause-sound g c =
    sound_there c.args.lists.now.layer.site.place c.args.at (map plain c.args.patterns.now) c.args.list.now c.args.scopes.now c.parameters.new.scopes c.args.checker.now c.parameters.new.checker c.in_ok-taken.taken c.in_ok-taken.ensures.binds

pub returns-in_err-taken : goal.returns-in_err-taken
returns-in_err-taken g c =
    no_parameters c.args.lists.now.layer.site.place c.args.at (map plain c.args.patterns.now) c.args.list.now c.args.scopes.now c.parameters.new.scopes c.parameters.new.scopes c.args.checker.now c.parameters.new.checker c.in_err-taken.field-0.0 c.from_residual.result c.from_residual.ensures c.in_err-taken.ensures.binds

pub returns-in_err-list : goal.returns-in_err-list
returns-in_err-list g c =
    no_fields c.args.lists.now.layer.site.place c.args.at (map plain c.args.patterns.now) c.args.list.now c.args.scopes.now c.parameters.new.scopes c.args.checker.now c.parameters.new.checker c.in_ok-taken.taken c.in_ok-taken.ensures.binds
    c.class_fields.new.scopes c.class_fields.new.scopes c.class_fields.new.checker c.in_err-list.field-0.0 c.from_residual-in_err-list.result c.from_residual-in_err-list.ensures c.in_err-list.ensures

pub returns : goal.returns
returns g c =
    fields_given c.args.lists.now.layer.site.place c.args.at (map plain c.args.patterns.now) c.args.list.now c.args.scopes.now c.parameters.new.scopes c.args.checker.now c.parameters.new.checker c.in_ok-taken.taken c.in_ok-taken.ensures.binds
    c.class_fields.new.scopes c.unbind.new.scopes c.class_fields.new.checker c.in_ok-list.list c.len-count.result c.unbind.ensures c.len-count.ensures c.in_ok-list.ensures
