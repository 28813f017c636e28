use Rattle.std.proofs.Common.{◌≡◌, ◌+◌, [], ℕ, suc, List, arith, subst, sym}
use Rattle.std.proofs.lemmas.List.{drop_all}
use Rattle.mo_types.specs.declared.node.Field.{Field}
use Rattle.type_terms.specs.declared.form.TermId.{TermId}
use Rattle.abstract_tree.specs.declared.expressions.ObjectField.{ObjectField}
use Rattle.value_scopes.specs.declared.note.Note.{Note}
use Rattle.judging.proofs.Chains.{no_memory}
use Rattle.judging.proofs.ListParts.{one_at}
use Rattle.object_rules.specs.Values.{made_in, made_reached}
use Rattle.object_rules.proofs.Fielding.{Judging, all_judged, all_reached_on, kind_of, next, none_yet, one_kind_more, refused}
use Rattle.object_rules.proofs.fields.judge_fields.Goals as goal

pub loop-i-init : goal.loop-i-init
loop-i-init g c = record {
  judging = subst (λ (fs : List (ObjectField Note)). Judging c.args.layer.now.site.place c.args.wanted.now c.args.fields.now c.args.scopes.now c.args.checker.now 0 fs c.new-kinds.result c.args.scopes.now c.args.checker.now) (sym c.new-made.ensures)
      (subst (λ (gs : List (Field TermId)). Judging c.args.layer.now.site.place c.args.wanted.now c.args.fields.now c.args.scopes.now c.args.checker.now 0 [] gs c.args.scopes.now c.args.checker.now) (sym c.new-kinds.ensures)
      (none_yet c.args.layer.now.site.place c.args.wanted.now c.args.fields.now c.args.scopes.now c.args.checker.now));
  ready = c.requires.ready;
  wanted = c.requires.wanted;
}

pub returns-clause-answer : goal.returns-clause-answer
returns-clause-answer g c =
    all_judged c.args.layer.now.site.place c.args.wanted.now c.args.fields.now c.args.scopes.now c.args.checker.now c.loop-i.i c.loop-i.made c.loop-i.kinds c.loop-i.scopes c.loop-i.checker
    (drop_all c.loop-i.i c.args.fields.now c.loop-i-test.false) c.loop-i.invariant.ready.sound c.loop-i.invariant.judging

pub returns-in_err-one-clause-answer : goal.returns-in_err-one-clause-answer
returns-in_err-one-clause-answer g c =
    refused c.args.layer.now.site.place c.args.wanted.now c.args.fields.now c.args.scopes.now c.args.checker.now c.loop-i.i c.loop-i.made c.loop-i.kinds c.loop-i.scopes c.judge_value.new.scopes c.loop-i.checker c.judge_value.new.checker
    c.index-fields-i.result (one_at c.args.fields.now c.loop-i.i c.index-fields-i.result c.loop-i-test.true c.index-fields-i.is) c.loop-i.invariant.judging c.in_err-one.field-0.0 c.from_residual.result c.from_residual.ensures c.in_err-one.ensures.answer

pub returns-in_err-part-clause-answer : goal.returns-in_err-part-clause-answer
returns-in_err-part-clause-answer g c = no_memory made_in made_reached _ c.args.scopes.now _ c.args.checker.now _ c.from_residual-in_err-part.result c.from_residual-in_err-part.ensures

pub returns-in_err-named-clause-answer : goal.returns-in_err-named-clause-answer
returns-in_err-named-clause-answer g c = no_memory made_in made_reached _ c.args.scopes.now _ c.args.checker.now _ c.from_residual-in_err-named.result c.from_residual-in_err-named.ensures

pub returns-in_err-push-clause-answer : goal.returns-in_err-push-clause-answer
returns-in_err-push-clause-answer g c = no_memory made_in made_reached _ c.args.scopes.now _ c.args.checker.now _ c.from_residual-in_err-push.result c.from_residual-in_err-push.ensures

pub returns-in_err-push-2-clause-answer : goal.returns-in_err-push-2-clause-answer
returns-in_err-push-2-clause-answer g c = no_memory made_in made_reached _ c.args.scopes.now _ c.args.checker.now _ c.from_residual-in_err-push-2.result c.from_residual-in_err-push-2.ensures

pub loop-i-preserved : goal.loop-i-preserved
loop-i-preserved g c =
    let one_more : suc c.loop-i.i ≡ c.loop-i.i + 1 = omega arith in
    record {
      judging = subst (λ (n : ℕ). Judging c.args.layer.now.site.place c.args.wanted.now c.args.fields.now c.args.scopes.now c.args.checker.now n c.push-in-loop-i.new.self c.push.new.self c.judge_value.new.scopes c.judge_value.new.checker) one_more
          (next c.args.layer.now.site.place c.args.wanted.now c.args.fields.now c.args.scopes.now c.args.checker.now c.loop-i.i c.loop-i.made c.loop-i.kinds c.loop-i.scopes c.judge_value.new.scopes c.loop-i.checker c.judge_value.new.checker
          c.index-fields-i.result (one_at c.args.fields.now c.loop-i.i c.index-fields-i.result c.loop-i-test.true c.index-fields-i.is) c.loop-i.invariant.judging c.in_ok-one.one c.in_ok-named.named c.push-in-loop-i.new.self c.push.new.self
          c.in_ok-named.ensures c.in_ok-push-2.ensures.ok (one_kind_more c.loop-i.kinds c.push.new.self c.in_ok-part.part (kind_of c.index-fields-i.result c.in_ok-one.one.kind) c.in_ok-part.ensures c.in_ok-push.ensures.ok) c.in_ok-one.ensures.answer);
      ready = c.in_ok-one.ensures.ready;
      wanted = all_reached_on c.loop-i.checker.types c.judge_value.new.checker.types c.args.wanted.now c.in_ok-one.ensures.answer.outcome.goes c.loop-i.invariant.wanted;
    }
