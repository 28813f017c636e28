use Rattle.std.proofs.Common.{◌≡◌, ◌∙◌, sym}
use Rattle.mo_types.specs.declared.node.Sort.TheVariants as sort
use Rattle.type_definitions.proofs.PutIn.{if_ok}
use Rattle.application_rules.proofs.FunctionParts.{future_call, local_call}
use Rattle.application_rules.proofs.functions.called.Goals as goal

pub returns-in-Local : goal.returns-in-Local
returns-in-Local c = local_call c.args.types.now c.result_of.new.types c.args.results c.in_ok-given.given c.in_ok-given.ensures c.args.sort c.in-Local.is

pub returns-in-Shared : goal.returns-in-Shared
returns-in-Shared c = if_ok c.future_of.result _ _ c.future_of.ensures
    (λ made y. future_call c.args.types.now c.result_of.new.types c.args.results c.in_ok-given.given c.in_ok-given.ensures c.args.sort (λ e. let z : sort.Shared ≡ sort.Local = sym c.in-Shared.is ∙ e in cc) c.future_of.new.types made y)

pub returns-in-Query : goal.returns-in-Query
returns-in-Query c = if_ok c.future_of-in-Query.result _ _ c.future_of-in-Query.ensures
    (λ made y. future_call c.args.types.now c.result_of.new.types c.args.results c.in_ok-given.given c.in_ok-given.ensures c.args.sort (λ e. let z : sort.Query ≡ sort.Local = sym c.in-Query.is ∙ e in cc) c.future_of-in-Query.new.types made y)
