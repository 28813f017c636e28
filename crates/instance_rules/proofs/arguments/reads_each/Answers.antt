use Rattle.std.proofs.Common.{map, refl}
use Rattle.std.proofs.lemmas.Result.{IfOk-at_ok}
use Rattle.mo_types.specs.Sub.{Each}
use Rattle.met_types.specs.States.{IsReached}
use Rattle.abstract_types.specs.TypeView.{type_node}
use Rattle.scope_judging.proofs.Answered.{answered}
use Rattle.instance_rules.specs.Instances.{all_reached, reads_each, terms_in}
use Rattle.instance_rules.proofs.arguments.reads_each.Goals as goal

pub returns : goal.returns
returns c =
    answered terms_in all_reached (reads_each (map type_node c.args.written.now)) c.args.scopes.now c.args.checker.now (record c.args.checker.now { types = c.reads_each.new.types; messages = c.reads_each.new.sharing }) c.reads_each.result
    c.requires refl (λ m e. IfOk-at_ok (Each (IsReached c.reads_each.new.types)) e c.reads_each.ensures.reached) c.reads_each.ensures.judged
