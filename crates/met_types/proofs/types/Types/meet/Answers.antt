use Rattle.std.proofs.Common.{length, ap}
use Rattle.type_definitions.proofs.Meanings.{grows_not}
use Rattle.met_types.proofs.Failing.{same_err, if_too_many, err_too_many, on_ok}
use Rattle.met_types.proofs.Staying.{overflows, outcomes_kept, formed_kept, close_overflows, closed, left_on, on_ok_four}
use Rattle.met_types.proofs.types.Types.meet.Goals as goal

pub returns-in_err-number_of-clause-many : goal.returns-in_err-number_of-clause-many
returns-in_err-number_of-clause-many c =
    same_err c.from_residual.result c.in_err-number_of.field-0.0 _ c.from_residual.ensures
    (if_too_many c.in_err-number_of.field-0.0 _ _ c.in_err-number_of.ensures.full
    (λ r. overflows c.self.inside.terms c.self.inside.definitions c.self.inside.outcomes.items c.self.inside.reached c.self.inside.graph c.args.id c.args.self.now c.self.view_is c.requires.kept c.requires.within c.number_of.new.reached r.0 r.1))

pub returns-in_err-number_of-clause-left : goal.returns-in_err-number_of-clause-left
returns-in_err-number_of-clause-left c =
    same_err c.from_residual.result c.in_err-number_of.field-0.0 _ c.from_residual.ensures
    (if_too_many c.in_err-number_of.field-0.0 _ _ c.in_err-number_of.ensures.full
    (λ r. left_on c.self.inside.terms c.self.inside.terms c.self.inside.definitions c.self.inside.outcomes.items c.self.inside.reached c.number_of.new.reached c.self.inside.graph c.number_of.new.graph c.args.self.now c.self.view_is (grows_not c.self.inside.terms)))

pub close-requires-clause-outcomes : goal.close-requires-clause-outcomes
close-requires-clause-outcomes c =
    outcomes_kept c.self.inside.terms c.self.inside.definitions c.self.inside.outcomes.items c.self.inside.reached c.self.inside.graph c.args.id c.args.self.now c.self.view_is c.requires.kept c.as_slice.result.now c.as_slice.ensures.value

pub close-requires-clause-formed : goal.close-requires-clause-formed
close-requires-clause-formed c =
    formed_kept c.self.inside.terms c.self.inside.definitions c.self.inside.outcomes.items c.self.inside.reached c.self.inside.graph c.args.id c.args.self.now c.self.view_is c.requires.kept c.requires.within
    c.number_of.new.reached c.number_of.new.graph _ c.in_ok-number_of.ensures.ok (ap length c.as_slice-start.ensures)

pub returns : goal.returns
returns c =
    let all = on_ok_four c.close.result _ _ _ _ _ c.close.ensures.grows c.close.ensures.keeps c.close.ensures.formed c.close.ensures.covers
    (λ g k f v. closed c.self.inside.terms c.self.inside.definitions c.self.inside.outcomes.items c.self.inside.reached c.self.inside.graph c.args.id c.args.self.now c.self.view_is c.requires.kept c.requires.within
    c.close.new.terms c.number_of.new.reached c.close.new.reached c.number_of.new.graph c.close.new.graph c.in_ok-number_of.field-0 c.in_ok-number_of.ensures.there c.in_ok-number_of.ensures.ok g k f v) in
    record {
      kept = on_ok c.close.result _ _ all (λ z. z.kept);
      goes = on_ok c.close.result _ _ all (λ z. z.goes);
      left = err_too_many c.close.result _ _ c.close.ensures.left (λ g. left_on c.self.inside.terms c.close.new.terms c.self.inside.definitions c.self.inside.outcomes.items c.self.inside.reached c.close.new.reached c.self.inside.graph c.close.new.graph c.args.self.now c.self.view_is g);
      reached = on_ok c.close.result _ _ all (λ z. z.reached);
      stands = on_ok c.close.result _ _ all (λ z. z.stands);
      few = on_ok c.close.result _ _ all (λ z. z.few);
      many = err_too_many c.close.result _ _ c.close.ensures.full
          (λ f. close_overflows c.self.inside.terms c.self.inside.definitions c.self.inside.outcomes.items c.self.inside.reached c.self.inside.graph c.args.id c.args.self.now c.self.view_is c.requires.kept c.requires.within
          c.close.new.terms c.number_of.new.reached c.number_of.new.graph c.in_ok-number_of.field-0 c.in_ok-number_of.ensures.there c.in_ok-number_of.ensures.ok f);
    }
