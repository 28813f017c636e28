use Rattle.std.proofs.Common.{List, ap, ◌∙◌}
use Rattle.mo_values.specs.Shapes.{Error}
use Rattle.mo_machine.specs.Values.{Made}
use Rattle.value_arena.specs.declared.node.ValueId.{ValueId}
use Rattle.value_arena.specs.Meaning.{values_of}
use Rattle.arena_events.proofs.Givens.{reject_given}
use Rattle.arena_events.proofs.filling.given_reject.Goals as goal

pub returns : goal.returns
returns c = λ types.
    reject_given types c.args.code c.args.text.now c.in_ok-text.text c.reject_code.result c.args.arena.now c.make.new.self c.in_ok-error.error c.in_ok-text.ensures c.reject_code.ensures
    (record {
      grows = c.in_ok-error.ensures.ok.grows;
      within = c.in_ok-error.ensures.ok.within;
      means = λ groups. c.in_ok-error.ensures.ok.means groups ∙ ap (λ (l : List ValueId). Made (Error c.reject_code.result c.in_ok-text.text) (values_of groups c.args.arena.now l)) c.new.ensures;
    })
