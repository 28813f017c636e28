use Rattle.type_judgements.proofs.Turns.{met_few, meet_refused}
use Rattle.type_judgements.proofs.steps.meets.Goals as goal

pub returns-in_err-meet-clause-judged : goal.returns-in_err-meet-clause-judged
returns-in_err-meet-clause-judged c =
    meet_refused c.args.types.now c.meet.new.self c.args.id c.in_err-meet.field-0.0 c.from_residual.result c.from_residual.ensures c.requires.within c.in_err-meet.ensures.left c.in_err-meet.ensures.many

pub returns-clause-judged : goal.returns-clause-judged
returns-clause-judged c = met_few c.args.types.now c.meet.new.self c.args.id c.requires.within c.in_ok-meet.ensures.goes c.in_ok-meet.ensures.stands c.in_ok-meet.ensures.few
