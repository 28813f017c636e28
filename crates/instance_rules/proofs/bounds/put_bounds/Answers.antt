use Rattle.std.proofs.lemmas.List.{take_more}
use Rattle.std.proofs.Common.{◌+◌, List, [], ℕ, subst, sym, take}
use Rattle.type_terms.specs.declared.form.TermId.{TermId}
use Rattle.type_definitions.proofs.Meanings.{each_within}
use Rattle.judging.proofs.NodeParts.{take_all}
use Rattle.instance_rules.specs.Instances.{AreBoundsWith, PutsEach}
use Rattle.instance_rules.proofs.Bounding.{next_bound, no_bounds}
use Rattle.instance_rules.proofs.bounds.put_bounds.Goals as goal

pub put_bound-requires-clause-arguments : goal.put_bound-requires-clause-arguments
put_bound-requires-clause-arguments c = each_within c.args.types.now.forms c.loop-parameter.types.forms c.args.arguments.now.arguments.now c.loop-parameter.invariant.goes.forms c.requires.arguments

pub loop-parameter-init : goal.loop-parameter-init
loop-parameter-init c =
    subst (λ (ids : List TermId). PutsEach c.args.types.now (AreBoundsWith c.args.arguments.now.parameters.now c.args.arguments.now.arguments.now c.args.types.now.listed [] ids) [] ids c.args.types.now) (sym c.new-made.ensures)
    (no_bounds c.args.arguments.now.parameters.now c.args.arguments.now.arguments.now c.args.types.now c.requires.kept)

pub loop-parameter-preserved : goal.loop-parameter-preserved
loop-parameter-preserved c =
    next_bound c.args.arguments.now.parameters.now c.args.arguments.now.arguments.now c.args.types.now c.loop-parameter.types c.put_bound.new.types (take c.loop-parameter.parameter-index c.args.parameters.now)
    (take (c.loop-parameter.parameter-index + 1) c.args.parameters.now) c.loop-parameter.made c.push.new.self _ c.in_ok-bound.bound (take_more c.args.parameters.now c.loop-parameter.parameter-index _ c.loop-parameter-test.true)
    c.in_ok-push.ensures.ok c.loop-parameter.invariant c.in_ok-bound.ensures

pub returns : goal.returns
returns c =
    subst
    (λ (xs : List ℕ). PutsEach c.args.types.now (AreBoundsWith c.args.arguments.now.parameters.now c.args.arguments.now.arguments.now c.args.types.now.listed xs c.loop-parameter.made) xs c.loop-parameter.made c.loop-parameter.types)
    (take_all c.args.parameters.now c.loop-parameter.parameter-index c.loop-parameter-test.false) c.loop-parameter.invariant
