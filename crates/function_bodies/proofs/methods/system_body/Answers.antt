use Rattle.std.proofs.Common.{ap}
use Rattle.abstract_types.specs.TypeView.{named}
use Rattle.abstract_tree.specs.TreeView.{plain}
use Rattle.judging.proofs.Chains.{no_memory}
use Rattle.judging.proofs.Steps.{sound_on}
use Rattle.function_bodies.specs.Bodies.{any_made, body_in}
use Rattle.function_bodies.proofs.Systems.{system_given, system_not}
use Rattle.function_bodies.proofs.methods.system_body.Goals as goal

pub returns-in_err-copy : goal.returns-in_err-copy
returns-in_err-copy g c rest = no_memory (body_in rest) any_made _ c.args.scopes.now _ c.args.checker.now _ c.from_residual.result c.from_residual.ensures

pub returns-in_err-kind : goal.returns-in_err-kind
returns-in_err-kind g c rest = no_memory (body_in rest) any_made _ c.args.scopes.now _ c.args.checker.now _ c.from_residual-in_err-kind.result c.from_residual-in_err-kind.ensures

pub judge_body-requires-clause-sound : goal.judge_body-requires-clause-sound
judge_body-requires-clause-sound g c = sound_on c.args.checker.now c.args.scopes.now c.unit.new.types c.requires.sound c.in_ok-kind.ensures.same.kept c.in_ok-kind.ensures.same.goes

pub judge_body-requires-clause-within : goal.judge_body-requires-clause-within
judge_body-requires-clause-within g c = c.in_ok-kind.ensures.made.within

pub returns-in_err-body : goal.returns-in_err-body
returns-in_err-body g c rest =
    system_not c.args.layer.now.site.place c.args.at (named c.args.name.now) (plain c.args.a.now) rest c.args.scopes.now c.args.checker.now c.unit.new.types c.in_ok-kind.kind c.in_ok-kind.ensures c.judge_body.new.scopes c.judge_body.new.checker c.in_err-body.field-0.0 c.from_residual-in_err-body.result
    c.from_residual-in_err-body.ensures c.in_err-body.ensures.answer

pub returns : goal.returns
returns g c rest =
    system_given c.args.layer.now.site.place c.args.at (named c.args.name.now) (plain c.args.a.now) rest c.args.scopes.now c.args.checker.now c.unit.new.types c.in_ok-kind.kind c.in_ok-kind.ensures c.judge_body.new.scopes c.judge_body.new.checker c.in_ok-body.body c.in_ok-body.ensures.answer
    c.in_ok-copy.copy (ap named c.in_ok-copy.ensures)
