use Rattle.std.proofs.Common.{[], ◌∷◌, ◌∙◌, ap, sym}
use Rattle.canister_execution.specs.declared.execution.Entry.{Entry}
use Rattle.canister_execution.specs.Executed.{operands_of, store_with}
use Rattle.canister_execution.proofs.execution.enter.Goals as goal
use Rattle.canister_execution.proofs.Entering.{has_run, has_stayed, one_entry, stays_so, with_kind}

pub returns-in-None-clause-ended : goal.returns-in-None-clause-ended
returns-in-None-clause-ended c =
    let i = c.args.instance.now in
    let j = c.run.new.self in
    let h = c.args.host.now in
    let e : Entry = c.in-Some.entry in
    one_entry i.limits c.args.tree.now i.standing i.was_refused h.world i.left c.run.result j.left (store_with j.standing j.was_refused c.run.new.host.world) c.args.entry e [] c.in-Some.is (ap operands_of c.in-None.is)
    (has_run c.args.tree.now i.limits.pages i.limits.stack e.function [] i.standing j.standing i.was_refused j.was_refused (with_kind h e.kind) c.run.new.host i.left j.left c.requires.imported c.run.result c.run.ensures.ran)

pub returns-in-None-clause-stays : goal.returns-in-None-clause-stays
returns-in-None-clause-stays c =
    let i = c.args.instance.now in
    let j = c.run.new.self in
    let h = c.args.host.now in
    let e : Entry = c.in-Some.entry in
    stays_so h c.run.new.host e.kind c.run.result
    (has_stayed c.args.tree.now i.limits.pages i.limits.stack e.function [] i.standing j.standing i.was_refused j.was_refused (with_kind h e.kind) c.run.new.host i.left j.left c.requires.imported c.run.result c.run.ensures.ran)

pub returns-in-Some-operand-clause-ended : goal.returns-in-Some-operand-clause-ended
returns-in-Some-operand-clause-ended c =
    let r = c.run-in-Some-operand in
    let i = c.args.instance.now in
    let j = r.new.self in
    let h = c.args.host.now in
    let e : Entry = c.in-Some.entry in
    one_entry i.limits c.args.tree.now i.standing i.was_refused h.world i.left r.result j.left (store_with j.standing j.was_refused r.new.host.world) c.args.entry e (c.from.result ∷ []) c.in-Some.is
    (ap operands_of c.in-Some-operand.is ∙ ap (λ x. x ∷ []) (sym c.from.ensures))
    (has_run c.args.tree.now i.limits.pages i.limits.stack e.function (c.from.result ∷ []) i.standing j.standing i.was_refused j.was_refused (with_kind h e.kind) r.new.host i.left j.left c.requires.imported r.result r.ensures.ran)

pub returns-in-Some-operand-clause-stays : goal.returns-in-Some-operand-clause-stays
returns-in-Some-operand-clause-stays c =
    let r = c.run-in-Some-operand in
    let i = c.args.instance.now in
    let j = r.new.self in
    let h = c.args.host.now in
    let e : Entry = c.in-Some.entry in
    stays_so h r.new.host e.kind r.result
    (has_stayed c.args.tree.now i.limits.pages i.limits.stack e.function (c.from.result ∷ []) i.standing j.standing i.was_refused j.was_refused (with_kind h e.kind) r.new.host i.left j.left c.requires.imported r.result r.ensures.ran)
