use Rattle.std.proofs.Common.{◌∙◌, sym}
use Rattle.typing_rules.specs.declared.condition.Condition.TheVariants as condition
use Rattle.typing_rules.specs.AsyncPlaces.{calls}
use Rattle.abstract_tree.specs.TreeView.{plain}
use Rattle.value_scopes.specs.Places.{body_in}
use Rattle.judging.specs.Views.{kind_reached, typed_in}
use Rattle.judging.proofs.Cases.{tests_fail, tests_hold}
use Rattle.call_rules.proofs.Promises.{awaits}
use Rattle.call_rules.proofs.futures.awaiting.Goals as goal

pub returns-then-calls : goal.returns-then-calls
returns-then-calls g c =
    tests_hold typed_in kind_reached condition.AsyncPlace c.args.layer.now.site.at (calls (body_in c.args.layer.now.site.place.body)) (awaits c.args.layer.now.site (plain c.args.a.now)) c.args.scopes.now c.awaited.new.scopes c.args.checker.now
    c.awaited.new.checker c.awaited.result (sym c.calls.ensures ∙ c.if-calls.true) c.awaited.ensures

pub returns-else-calls : goal.returns-else-calls
returns-else-calls g c =
    tests_fail typed_in kind_reached condition.AsyncPlace c.args.layer.now.site.at (calls (body_in c.args.layer.now.site.place.body)) (awaits c.args.layer.now.site (plain c.args.a.now)) c.args.scopes.now c.args.checker.now (sym c.calls.ensures ∙ c.if-calls.false)
