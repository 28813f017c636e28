use Rattle.std.proofs.Common.{length, nat_eq, rules}
use Rattle.typing_rules.specs.AbstractSyntax as p
use Rattle.typing_rules.specs.declared.condition.Condition.TheVariants as condition
use Rattle.typing_rules.specs.Judgements.{Part}
use Rattle.type_definitions.specs.Tables.{Within}
use Rattle.type_definitions.proofs.Meanings.{each_map}
use Rattle.met_types.specs.States.{IsReached}
use Rattle.judging.proofs.Steps.{reached_on, reached_within}
use Rattle.value_scopes.specs.Values.{noted}
use Rattle.judging.specs.Views.{each_in, each_reached, kind_reached, typed_in}
use Rattle.judging.proofs.Chains.{goes_on, stops}
use Rattle.judging.proofs.Forms.{seen_Tuple}
use Rattle.judging.proofs.Cases.{tests_fail, tests_hold}
use Rattle.data_rules.proofs.ByTuple.{items_at, wanted_end}
use Rattle.data_rules.proofs.tuples.tuple_fits.Goals as goal

pub each-requires-clause-wanted : goal.each-requires-clause-wanted
each-requires-clause-wanted g c = each_map (IsReached c.args.checker.now.types) (Within c.args.checker.now.types.forms) (λ id. reached_within c.args.checker.now.types id c.requires.ready.sound.known.kept) c.args.kinds.now c.requires.kinds

pub gives-requires : goal.gives-requires
gives-requires g c = reached_on c.args.checker.now.types c.each.new.checker.types c.args.wanted c.in_ok-made.ensures.answer.outcome.goes c.requires.wanted

pub returns-then-kinds-items : goal.returns-then-kinds-items
returns-then-kinds-items g c = tests_fail typed_in kind_reached condition.Mismatch c.args.layer.now.site.at (nat_eq (length c.args.kinds.now) (length c.args.items.now)) (λ v. Part (items_at c.args.layer.now.site c.args.items.now c.args.kinds.now v) (wanted_end c.args.layer.now.site c.args.items.now c.args.wanted v)) c.args.scopes.now c.args.checker.now (search rules)

pub returns-in_err-made : goal.returns-in_err-made
returns-in_err-made g c =
    tests_hold typed_in kind_reached condition.Mismatch c.args.layer.now.site.at (nat_eq (length c.args.kinds.now) (length c.args.items.now)) (λ v. Part (items_at c.args.layer.now.site c.args.items.now c.args.kinds.now v) (wanted_end c.args.layer.now.site c.args.items.now c.args.wanted v)) c.args.scopes.now c.each.new.scopes c.args.checker.now c.each.new.checker c.from_residual.result (search rules)
    (stops typed_in kind_reached each_in each_reached (items_at c.args.layer.now.site c.args.items.now c.args.kinds.now) (wanted_end c.args.layer.now.site c.args.items.now c.args.wanted) c.args.scopes.now c.each.new.scopes c.args.checker.now c.each.new.checker c.in_err-made.field-0.0 c.from_residual.result c.from_residual.ensures c.in_err-made.ensures.answer)

pub returns : goal.returns
returns g c =
    tests_hold typed_in kind_reached condition.Mismatch c.args.layer.now.site.at (nat_eq (length c.args.kinds.now) (length c.args.items.now)) (λ v. Part (items_at c.args.layer.now.site c.args.items.now c.args.kinds.now v) (wanted_end c.args.layer.now.site c.args.items.now c.args.wanted v)) c.args.scopes.now c.each.new.scopes c.args.checker.now c.each.new.checker c.gives.result (search rules)
    (goes_on typed_in kind_reached each_in each_reached (items_at c.args.layer.now.site c.args.items.now c.args.kinds.now) (wanted_end c.args.layer.now.site c.args.items.now c.args.wanted) c.args.scopes.now c.each.new.scopes c.each.new.scopes c.args.checker.now c.each.new.checker c.each.new.checker c.in_ok-made.made c.gives.result c.in_ok-made.ensures.answer
    (c.gives.ensures c.each.new.scopes c.in_ok-made.ensures.ready.sound (λ later. p.Tuple (each_in c.in_ok-made.made later)) (λ later. seen_Tuple (noted later) c.in_ok-made.made)))
