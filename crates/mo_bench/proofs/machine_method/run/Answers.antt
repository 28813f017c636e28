use Rattle.std.proofs.Common.{◌≡◌, ◌∙◌, List, map, subst, sym, ap}
use Rattle.wasm_machine.specs.Asked.{IsMadeFor}
use Rattle.ic0_world.specs.declared.function.Ic0.{Ic0}
use Rattle.canister_host.specs.Types.{type_of_function}
use Rattle.ic0_world.specs.declared.world.World.{World}
use Rattle.wasm_instance.specs.declared.instance.Limits.{Limits}
use Rattle.mo_bench.proofs.Running.{ran_as}
use Rattle.mo_bench.proofs.machine_method.run.Goals as goal

pub run-requires-clause-made_for : goal.run-requires-clause-made_for
run-requires-clause-made_for c = subst (λ (l : List Ic0). IsMadeFor c.args.tree.now (map type_of_function l)) (sym c.new-host.ensures.functions) c.in_ok-functions.ensures.made_for

pub returns-clause-ran : goal.returns-clause-ran
returns-clause-ran c =
    let limits = c.begin.ensures.limits ∙ c.restore.ensures.limits in
    record {
      host = c.new-host.result;
      last = c.run.new.host;
      made_for = subst (λ (l : List Ic0). IsMadeFor c.args.tree.now (map type_of_function l)) (sym c.new-host.ensures.functions) c.in_ok-functions.ensures.made_for;
      kind = ap (λ (w : World). w.kind) c.new-host.ensures.world ∙ c.in_ok-new_world.ensures.kind;
      argument = ap (λ (w : World). w.argument) c.new-host.ensures.world ∙ c.in_ok-new_world.ensures.argument;
      ran = ran_as c.new-host.result c.run.new.host c.args.tree.now c.args.function c.begin.new.self.limits c.args.instance.now.limits c.begin.new.self.left c.args.instance.now.limits.steps c.begin.new.self.standing c.args.instance.now.kept c.begin.new.self.was_refused _ _
          c.run.ensures.ran limits (c.begin.ensures.left ∙ ap (λ (l : Limits). l.steps) c.restore.ensures.limits) (c.begin.ensures.standing ∙ c.restore.ensures.standing) c.begin.ensures.refused;
    }
