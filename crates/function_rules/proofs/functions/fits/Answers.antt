use Rattle.std.proofs.Common.{length, nat_eq, rules}
use Rattle.typing_rules.specs.declared.condition.Condition.TheVariants as condition
use Rattle.abstract_types.specs.PatternView.{plain_signature}
use Rattle.abstract_tree.specs.TreeView.{plain}
use Rattle.judging.specs.Views.{kind_reached, typed_in}
use Rattle.judging.proofs.Cases.{tests_fail, tests_hold}
use Rattle.function_rules.specs.Functions.{function_on}
use Rattle.function_rules.proofs.functions.fits.Goals as goal

pub returns-then-wanted-len : goal.returns-then-wanted-len
returns-then-wanted-len g c =
    tests_fail typed_in kind_reached condition.Mismatch c.args.layer.now.site.at (nat_eq (length c.args.wanted.now) (length c.args.signature.now.parameters)) (function_on c.args.layer.now.site (plain_signature c.args.signature.now) (plain c.args.body.now) c.args.wanted.now c.args.other)
    c.args.scopes.now c.args.checker.now (search rules)

pub returns : goal.returns
returns g c =
    tests_hold typed_in kind_reached condition.Mismatch c.args.layer.now.site.at (nat_eq (length c.args.wanted.now) (length c.args.signature.now.parameters)) (function_on c.args.layer.now.site (plain_signature c.args.signature.now) (plain c.args.body.now) c.args.wanted.now c.args.other)
    c.args.scopes.now c.function_on.new.scopes c.args.checker.now c.function_on.new.checker c.function_on.result (search rules) c.function_on.ensures
