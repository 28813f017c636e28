use Rattle.std.proofs.Common.{◌≡◌, ◌∙◌, ◌+◌, ℕ, suc, List, [], arith, drop, subst, sym}
use Rattle.std.proofs.lemmas.List.{drop_all}
use Rattle.std.specs.Vec.Iter.{into_iter_items}
use Rattle.abstract_tree.specs.declared.declarations.Declaration.{Declaration}
use Rattle.value_scopes.specs.declared.note.Note.{Note}
use Rattle.judging.proofs.Chains.{no_memory}
use Rattle.judging.proofs.ListParts.{one_at}
use Rattle.judging.proofs.Steps.{ready_on}
use Rattle.list_judging.specs.Lists.{declarations_in}
use Rattle.list_rules.specs.Lists.{any_list}
use Rattle.list_rules.proofs.InTurn.{Judging, all_judged, more_of, next, none_yet, refused}
use Rattle.list_rules.proofs.bodies.judge_bodies.Goals as goal

pub loop-i-init : goal.loop-i-init
loop-i-init g c = record {
  judging = subst (λ (all : List (Declaration Note)). Judging c.args.lists.now.layer.site.place c.args.list.now c.args.made c.args.scopes.now c.args.checker.now 0 all (into_iter_items c.into_iter-rest.result) c.args.scopes.now c.args.checker.now) (sym c.new-all.ensures)
      (none_yet c.args.lists.now.layer.site.place c.args.list.now c.args.made c.args.scopes.now c.args.checker.now (into_iter_items c.into_iter-rest.result) (c.into_iter-rest.ensures.rest ∙ c.into_vec.ensures));
  ready = c.requires.ready;
}

pub judge_declaration-requires-clause-sound : goal.judge_declaration-requires-clause-sound
judge_declaration-requires-clause-sound g c = c.loop-i.invariant.ready.sound

pub returns-in_err-one : goal.returns-in_err-one
returns-in_err-one g c =
    refused c.args.lists.now.layer.site.place c.args.list.now c.args.made c.args.scopes.now c.args.checker.now c.loop-i.i c.loop-i.all (into_iter_items c.loop-i.rest) c.loop-i.scopes c.judge_declaration.new.scopes c.loop-i.checker
    c.judge_declaration.new.checker c.index-list-i.result (one_at c.args.list.now c.loop-i.i c.index-list-i.result c.loop-i-test.true c.index-list-i.is) c.loop-i.invariant.judging (into_iter_items c.judge_declaration.new.rest)
    c.in_err-one.field-0.0 c.from_residual.result c.from_residual.ensures c.in_err-one.ensures.answer

pub returns-in_err-declaration : goal.returns-in_err-declaration
returns-in_err-declaration g c = no_memory declarations_in any_list _ c.args.scopes.now _ c.args.checker.now _ c.from_residual-in_err-declaration.result c.from_residual-in_err-declaration.ensures

pub returns-in_err-push : goal.returns-in_err-push
returns-in_err-push g c = no_memory declarations_in any_list _ c.args.scopes.now _ c.args.checker.now _ c.from_residual-in_err-push.result c.from_residual-in_err-push.ensures

pub loop-i-preserved : goal.loop-i-preserved
loop-i-preserved g c =
    let one_more : suc c.loop-i.i ≡ c.loop-i.i + 1 = omega arith in
    record {
      judging = subst (λ (n : ℕ). Judging c.args.lists.now.layer.site.place c.args.list.now c.args.made c.args.scopes.now c.args.checker.now n c.push.new.self (into_iter_items c.judge_declaration.new.rest) c.judge_declaration.new.scopes c.judge_declaration.new.checker) one_more
          (next c.args.lists.now.layer.site.place c.args.list.now c.args.made c.args.scopes.now c.args.checker.now c.loop-i.i c.loop-i.all (into_iter_items c.loop-i.rest) c.loop-i.scopes c.judge_declaration.new.scopes c.loop-i.checker
          c.judge_declaration.new.checker c.index-list-i.result (one_at c.args.list.now c.loop-i.i c.index-list-i.result c.loop-i-test.true c.index-list-i.is) c.loop-i.invariant.judging c.in_ok-one.one
          (into_iter_items c.judge_declaration.new.rest) c.push.new.self (more_of c.loop-i.all c.push.new.self c.in_ok-declaration.declaration (record { public = c.index-list-i.result.public; note = c.in_ok-one.one.note; form = c.in_ok-one.one.form }) c.in_ok-push.ensures.ok c.in_ok-declaration.ensures) c.in_ok-one.ensures.answer);
      ready = ready_on c.loop-i.checker c.judge_declaration.new.checker c.loop-i.scopes c.judge_declaration.new.scopes c.args.lists.now.layer.site c.loop-i.invariant.ready c.in_ok-one.ensures.answer.outcome.sound c.in_ok-one.ensures.answer.outcome.goes;
    }

pub returns : goal.returns
returns g c =
    let none : drop c.loop-i.i c.args.list.now ≡ [] = drop_all c.loop-i.i c.args.list.now c.loop-i-test.false in
    all_judged c.args.lists.now.layer.site.place c.args.list.now c.args.made c.args.scopes.now c.args.checker.now c.loop-i.i c.loop-i.all (into_iter_items c.loop-i.rest) c.loop-i.scopes c.loop-i.checker none c.loop-i.invariant.ready.sound c.loop-i.invariant.judging
