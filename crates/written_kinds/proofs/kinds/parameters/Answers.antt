use Rattle.std.proofs.lemmas.List.{take_more}
use Rattle.std.proofs.Common.{ℕ, List, map, subst}
use Rattle.typing_rules.specs.Terms as t
use Rattle.definition_rules.proofs.Adding.{take_all}
use Rattle.written_types.specs.Written.{WroteEach}
use Rattle.written_kinds.proofs.Forms.{next_parameter}
use Rattle.written_kinds.proofs.kinds.parameters.Goals as goal

pub loop-at-preserved : goal.loop-at-preserved
loop-at-preserved c = next_parameter c.args.types.now c.loop-at.types c.parameter.new.types c.args.places.now c.loop-at.at-index _ c.loop-at.made c.push.new.self c.in_ok-parameter.field-0 (take_more c.args.places.now c.loop-at.at-index _ c.loop-at-test.true) c.in_ok-push.ensures.ok c.loop-at.invariant c.in_ok-parameter.ensures

pub returns : goal.returns
returns c = subst (λ (ps : List ℕ). WroteEach c.args.types.now c.loop-at.types (map t.Parameter ps) c.loop-at.made) (take_all c.args.places.now c.loop-at.at-index c.loop-at-test.false) c.loop-at.invariant
