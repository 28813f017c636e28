use Rattle.std.proofs.Common.{◌≡◌, ◌+◌, ℕ, suc, Err, List, Ok, Option, arith, length, subst, sym}
use Rattle.std.proofs.lemmas.List.{drop_all}
use Rattle.type_terms.specs.declared.form.TermId.{TermId}
use Rattle.type_definitions.specs.Tables.{Within}
use Rattle.type_definitions.proofs.Meanings.{within_on}
use Rattle.abstract_tree.specs.TreeView.{plain}
use Rattle.judging.specs.Answers.{Answers}
use Rattle.judging.specs.Views.{each_in, each_reached, judge, kind_reached, typed_in}
use Rattle.judging.proofs.Chains.{no_memory}
use Rattle.judging.proofs.ListParts.{Judging, all_judged, next, none_yet, one_at, refused}
use Rattle.judging.proofs.Steps.{some_on}
use Rattle.judging.proofs.TypedParts.{Given}
use Rattle.array_rules.proofs.AllElements.{as_all, for_each, wanted_of}
use Rattle.array_rules.proofs.elements.all.Goals as goal

pub loop-i-init : goal.loop-i-init
loop-i-init g c = record {
  judging = subst (λ (made : List Given). Judging c.args.layer.now.site.place c.args.parts.now (for_each c.args.wanted (length c.args.parts.now)) c.args.scopes.now c.args.checker.now 0 made c.args.scopes.now c.args.checker.now)
      (sym c.new-made.ensures)
      (none_yet c.args.layer.now.site.place c.args.parts.now (for_each c.args.wanted (length c.args.parts.now)) c.args.scopes.now c.args.checker.now);
  ready = c.requires.ready;
  wanted = c.requires.wanted;
}

pub returns-in_err-part-clause-answer : goal.returns-in_err-part-clause-answer
returns-in_err-part-clause-answer g c =
    as_all c.args.layer.now.site.place c.args.parts.now c.args.wanted c.args.scopes.now c.part.new.scopes c.args.checker.now c.part.new.checker c.from_residual.result
    (refused c.args.layer.now.site.place c.args.parts.now (for_each c.args.wanted (length c.args.parts.now)) c.args.scopes.now c.args.checker.now c.loop-i.i c.loop-i.made c.loop-i.scopes c.part.new.scopes c.loop-i.checker
    c.part.new.checker c.index-parts-i.result (one_at c.args.parts.now c.loop-i.i c.index-parts-i.result c.loop-i-test.true c.index-parts-i.is) c.loop-i.invariant.judging c.in_err-part.field-0.0 c.from_residual.result
    c.from_residual.ensures
    (subst (λ (o : Option TermId). Answers typed_in kind_reached (judge c.args.layer.now.site.place (plain c.index-parts-i.result) o) c.loop-i.scopes c.loop-i.checker c.part.new.scopes c.part.new.checker (Err c.in_err-part.field-0.0))
    (sym (wanted_of c.args.wanted (length c.args.parts.now) c.loop-i.i c.loop-i-test.true)) c.in_err-part.ensures.answer))

pub returns-in_err-push-clause-answer : goal.returns-in_err-push-clause-answer
returns-in_err-push-clause-answer g c = no_memory each_in each_reached _ c.args.scopes.now _ c.args.checker.now _ c.from_residual-in_err-push.result c.from_residual-in_err-push.ensures

pub loop-i-preserved : goal.loop-i-preserved
loop-i-preserved g c =
    let h = subst (λ (o : Option TermId). Answers typed_in kind_reached (judge c.args.layer.now.site.place (plain c.index-parts-i.result) o) c.loop-i.scopes c.loop-i.checker c.part.new.scopes c.part.new.checker (Ok c.in_ok-part.part))
    (sym (wanted_of c.args.wanted (length c.args.parts.now) c.loop-i.i c.loop-i-test.true)) c.in_ok-part.ensures.answer in
    let one_more : suc c.loop-i.i ≡ c.loop-i.i + 1 = omega arith in
    record {
      judging = subst (λ (n : ℕ). Judging c.args.layer.now.site.place c.args.parts.now (for_each c.args.wanted (length c.args.parts.now)) c.args.scopes.now c.args.checker.now n c.push.new.self c.part.new.scopes c.part.new.checker) one_more
          (next c.args.layer.now.site.place c.args.parts.now (for_each c.args.wanted (length c.args.parts.now)) c.args.scopes.now c.args.checker.now c.loop-i.i c.loop-i.made c.loop-i.scopes c.part.new.scopes c.loop-i.checker
          c.part.new.checker c.index-parts-i.result (one_at c.args.parts.now c.loop-i.i c.index-parts-i.result c.loop-i-test.true c.index-parts-i.is) c.loop-i.invariant.judging c.in_ok-part.part c.push.new.self c.in_ok-push.ensures.ok h);
      ready = c.in_ok-part.ensures.ready;
      wanted = some_on (Within c.loop-i.checker.types.forms) (Within c.part.new.checker.types.forms) c.args.wanted (λ id. within_on c.loop-i.checker.types.forms c.part.new.checker.types.forms id h.outcome.goes.forms) c.loop-i.invariant.wanted;
    }

pub returns-clause-answer : goal.returns-clause-answer
returns-clause-answer g c =
    as_all c.args.layer.now.site.place c.args.parts.now c.args.wanted c.args.scopes.now c.loop-i.scopes c.args.checker.now c.loop-i.checker (Ok c.loop-i.made)
    (all_judged c.args.layer.now.site.place c.args.parts.now (for_each c.args.wanted (length c.args.parts.now)) c.args.scopes.now c.args.checker.now c.loop-i.i c.loop-i.made c.loop-i.scopes c.loop-i.checker
    (drop_all c.loop-i.i c.args.parts.now c.loop-i-test.false) c.loop-i.invariant.ready.sound c.loop-i.invariant.judging)
