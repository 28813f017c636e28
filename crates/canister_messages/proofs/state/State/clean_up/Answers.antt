use Rattle.std.proofs.Common.{◌≡◌, ◌++◌, ◌∷◌, [], ◌∙◌, sym, ap, Some}
use Rattle.play_script.specs.declared.item.Item.TheVariants as item
use Rattle.canister_host.specs.HostRun.{closing, clean_up, printed}
use Rattle.canister_calls.specs.Calling.{during, state_with}
use Rattle.canister_execution.specs.Executed.{execution_limits}
use Rattle.canister_messages.specs.States.{canister_at, limits_of, state_at}
use Rattle.canister_messages.proofs.Ending.{not_cleaned, ok_along}
use Rattle.canister_messages.proofs.state.State.clean_up.Goals as goal

pub returns-in-None-clause-ok : goal.returns-in-None-clause-ok
returns-in-None-clause-ok c = λ call prints same items_so.
    let s = c.args.self.now in
    let m = c.args.tree.now in
    let was = canister_at m s.memories.kept in
    let state = during (Some c.args.number) (state_at m s) in
    ok_along c.break_off.result (clean_up (limits_of s) s.own was call c.args.word prints state) (closing c.args.call.owner (c.args.items ++ item.Trapped c.args.word ∷ []) state) (state_at m c.break_off.new.self)
    (not_cleaned (limits_of s) s.own was call c.args.word prints state (ap (λ a. a.on_cleanup) same ∙ c.in-None.is)
    ∙ ap (λ o. closing o (printed prints ++ item.Trapped c.args.word ∷ []) state) (ap (λ a. a.owner) same)
    ∙ ap (λ l. closing c.args.call.owner (l ++ item.Trapped c.args.word ∷ []) state) (sym items_so))
    (c.break_off.ensures.ok m)

pub returns-in-Some-clause-ok : goal.returns-in-Some-clause-ok
returns-in-Some-clause-ok c = λ call prints same items_so.
    let s = c.args.self.now in
    let m = c.args.tree.now in
    let was = canister_at m s.memories.kept in
    let x = c.restore.new.self in
    let state = during (Some c.args.number) (state_at m s) in
    ok_along c.run_cleanup.result (clean_up (limits_of s) s.own was call c.args.word prints state)
    (clean_up (execution_limits x.limits) s.own (canister_at m x.kept) call c.args.word prints (during (Some c.args.number) (state_with (Some (canister_at m x.kept)) s.calls))) (state_at m c.run_cleanup.new.self)
    (ap (λ l. clean_up (execution_limits l) s.own was call c.args.word prints state) (sym c.restore.ensures.limits)
    ∙ ap (λ k. clean_up (execution_limits x.limits) s.own (canister_at m k) call c.args.word prints (during (Some c.args.number) (state_with (Some (canister_at m k)) s.calls))) (sym c.restore.ensures.kept))
    (c.run_cleanup.ensures.ok call prints (ap (λ a. a.owner) same) (ap (λ a. a.on_cleanup) same ∙ c.in-Some.is) items_so)
