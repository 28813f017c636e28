use Rattle.std.proofs.Common.{◌≡◌, ◌+◌, ℕ, List, [], None, suc, arith, drop, subst, sym}
use Rattle.std.proofs.lemmas.List.{drop_all}
use Rattle.judging.proofs.ListParts.{one_at}
use Rattle.order_rules.specs.declared.entries.MadeDeclaration.{MadeDeclaration}
use Rattle.order_rules.specs.Entries.{run_in, run_reached}
use Rattle.order_rules.proofs.Entering.{no_memory_enters, ready_entered}
use Rattle.order_rules.proofs.InOrder.{Ordering, all_judged, is_wanted, next, no_end, none_yet, refused, sound_before}
use Rattle.order_rules.proofs.ordering.judge_order.Goals as goal

pub loop-i-init : goal.loop-i-init
loop-i-init g c = record {
  ordering = subst (λ (made : List MadeDeclaration). Ordering c.args.lists.now.layer.site c.args.value c.args.list.now c.args.scopes.now c.args.checker.now 0 made None c.args.scopes.now c.args.checker.now) (sym c.new-made.ensures)
      (none_yet c.args.lists.now.layer.site c.args.value c.args.list.now c.args.scopes.now c.args.checker.now);
  ready = c.requires.ready;
}

pub returns-in_err-entry-clause-enters : goal.returns-in_err-entry-clause-enters
returns-in_err-entry-clause-enters g c =
    refused c.args.lists.now.layer.site c.args.value c.args.list.now c.args.scopes.now c.args.checker.now c.loop-i.i c.loop-i.made c.loop-i.before c.loop-i.scopes c.judge_one.new.scopes c.loop-i.checker c.judge_one.new.checker c.index-list-i.result
    (one_at c.args.list.now c.loop-i.i c.index-list-i.result c.loop-i-test.true c.index-list-i.is) c.loop-i.invariant.ordering c.is_last-last.result
    (is_wanted c.args.lists.now.layer.site c.args.value c.is_last-last.result c.args.list.now c.loop-i.i c.loop-i-test.true c.is_last-last.ensures)
    c.judge_one.new.scopes c.in_err-entry.field-0.0 c.from_residual.result c.from_residual.ensures c.in_err-entry.ensures.enters

pub returns-in_err-push_made-clause-enters : goal.returns-in_err-push_made-clause-enters
returns-in_err-push_made-clause-enters g c = no_memory_enters (run_in c.args.scopes.now c.args.lists.now.layer.site.place) run_reached _ c.args.scopes.now _ c.args.checker.now _ c.from_residual-in_err-push_made.result c.from_residual-in_err-push_made.ensures

pub loop-i-preserved : goal.loop-i-preserved
loop-i-preserved g c =
    let one_more : suc c.loop-i.i ≡ c.loop-i.i + 1 = omega arith in
    record {
      ordering = subst (λ (n : ℕ). Ordering c.args.lists.now.layer.site c.args.value c.args.list.now c.args.scopes.now c.args.checker.now n c.push_made.new.made c.in_ok-entry.entry.value c.judge_one.new.scopes c.judge_one.new.checker) one_more
          (next c.args.lists.now.layer.site c.args.value c.args.list.now c.args.scopes.now c.args.checker.now c.loop-i.i c.loop-i.made c.loop-i.before c.loop-i.scopes c.judge_one.new.scopes c.loop-i.checker c.judge_one.new.checker c.index-list-i.result
          (one_at c.args.list.now c.loop-i.i c.index-list-i.result c.loop-i-test.true c.index-list-i.is) c.loop-i.invariant.ordering c.is_last-last.result
          (is_wanted c.args.lists.now.layer.site c.args.value c.is_last-last.result c.args.list.now c.loop-i.i c.loop-i-test.true c.is_last-last.ensures)
          c.in_ok-entry.entry c.push_made.new.made c.in_ok-push_made.ensures c.in_ok-entry.ensures.enters);
      ready = c.in_ok-entry.ensures.ready;
    }

pub ends_list-requires-clause-wanting : goal.ends_list-requires-clause-wanting
ends_list-requires-clause-wanting g c = c.loop-i.invariant.ready.wanting

pub ends_list-requires-clause-last : goal.ends_list-requires-clause-last
ends_list-requires-clause-last g c = c.loop-i.invariant.ordering.last_reached

pub returns-in_err-kind-clause-enters : goal.returns-in_err-kind-clause-enters
returns-in_err-kind-clause-enters g c =
    let none : drop c.loop-i.i c.args.list.now ≡ [] = drop_all c.loop-i.i c.args.list.now c.loop-i-test.false in
    let before = sound_before c.args.lists.now.layer.site c.args.value c.args.list.now c.args.scopes.now c.args.checker.now c.loop-i.i c.loop-i.made c.loop-i.before c.loop-i.scopes c.loop-i.checker c.ends_list.new.checker none c.loop-i.invariant.ready.sound c.loop-i.invariant.ordering in
    no_end c.args.lists.now.layer.site c.args.value c.args.list.now c.args.scopes.now c.args.checker.now c.loop-i.i c.loop-i.made c.loop-i.before c.loop-i.scopes c.loop-i.checker c.ends_list.new.checker none c.loop-i.invariant.ready.sound c.loop-i.invariant.ordering
    c.loop-i.scopes c.in_err-kind.field-0.0 c.from_residual-in_err-kind.result c.from_residual-in_err-kind.ensures (c.in_err-kind.ensures c.args.scopes.now before)

pub returns-clause-enters : goal.returns-clause-enters
returns-clause-enters g c =
    let none : drop c.loop-i.i c.args.list.now ≡ [] = drop_all c.loop-i.i c.args.list.now c.loop-i-test.false in
    let before = sound_before c.args.lists.now.layer.site c.args.value c.args.list.now c.args.scopes.now c.args.checker.now c.loop-i.i c.loop-i.made c.loop-i.before c.loop-i.scopes c.loop-i.checker c.ends_list.new.checker none c.loop-i.invariant.ready.sound c.loop-i.invariant.ordering in
    all_judged c.args.lists.now.layer.site c.args.value c.args.list.now c.args.scopes.now c.args.checker.now c.loop-i.i c.loop-i.made c.loop-i.before c.loop-i.scopes c.loop-i.checker c.ends_list.new.checker none c.loop-i.invariant.ready.sound c.loop-i.invariant.ordering
    c.in_ok-kind.kind (c.in_ok-kind.ensures c.args.scopes.now before)

pub returns-clause-ready : goal.returns-clause-ready
returns-clause-ready g c =
    ready_entered (run_in c.args.scopes.now c.args.lists.now.layer.site.place) run_reached _ c.args.scopes.now c.loop-i.scopes c.args.checker.now c.ends_list.new.checker _ c.args.lists.now.layer.site (returns-clause-enters g c) c.requires.ready
