use Rattle.std.proofs.Common.{◌∙◌, Err, None, ap, option_map, rules}
use Rattle.mo_types.specs.Heads.{opt_of}
use Rattle.typing_rules.specs.declared.condition.Condition.TheVariants as condition
use Rattle.typing_rules.specs.AbstractSyntax as p
use Rattle.typing_rules.specs.Heads.{head}
use Rattle.typing_rules.specs.Terms.{Term}
use Rattle.typing_rules.specs.Judgements.{Given, Part}
use Rattle.typing_rules.specs.Ends.{Has}
use Rattle.typing_rules.specs.TypedTrees.{type_of}
use Rattle.type_definitions.specs.Definitions.{rules_in}
use Rattle.type_definitions.specs.Meanings.{term}
use Rattle.type_judgements.specs.declared.refusal.Refusal.TheVariants as refusal
use Rattle.abstract_tree.specs.TreeView.{plain}
use Rattle.value_scopes.specs.Values.{noted}
use Rattle.judging.specs.Views.{definitions, judge, kind_reached, typed_in, wanted_in}
use Rattle.judging.proofs.Cases.{given_none, given_some, tests_fail, tests_hold}
use Rattle.judging.proofs.Forms.{seen_Bang, type_is}
use Rattle.judging.proofs.Steps.{reached_within}
use Rattle.judging.proofs.TypedParts.{part_given, part_refused}
use Rattle.data_rules.proofs.options.bang.Goals as goal

pub option_part-requires-clause-reached : goal.option_part-requires-clause-reached
option_part-requires-clause-reached g c = c.in_ok-of.ensures.answer.outcome.holds

pub has-requires-clause-within : goal.has-requires-clause-within
has-requires-clause-within g c = reached_within c.part.new.checker.types c.in-Some.part c.in_ok-of.ensures.ready.sound.known.kept (search rules)

pub returns-then-not-layer : goal.returns-then-not-layer
returns-then-not-layer g c = tests_fail typed_in kind_reached condition.BangPlace c.args.layer.now.site.at c.args.layer.now.site.place.ends (λ v. Part (judge c.args.layer.now.site.place (plain c.args.a.now) None v) (λ b. Given condition.NotOption c.args.layer.now.site.at (opt_of (head (definitions v) (type_of b))) (λ u. Has c.args.layer.now.site.at (wanted_in v c.args.layer.now.site.wanted) u (p.Bang b)))) c.args.scopes.now c.args.checker.now c.if-not-layer.true

pub returns-in_err-of : goal.returns-in_err-of
returns-in_err-of g c =
    tests_hold typed_in kind_reached condition.BangPlace c.args.layer.now.site.at c.args.layer.now.site.place.ends (λ v. Part (judge c.args.layer.now.site.place (plain c.args.a.now) None v) (λ b. Given condition.NotOption c.args.layer.now.site.at (opt_of (head (definitions v) (type_of b))) (λ u. Has c.args.layer.now.site.at (wanted_in v c.args.layer.now.site.wanted) u (p.Bang b)))) c.args.scopes.now c.part.new.scopes c.args.checker.now c.part.new.checker c.from_residual.result c.if-not-layer.false
    (part_refused (judge c.args.layer.now.site.place (plain c.args.a.now) None) (λ v b. Given condition.NotOption c.args.layer.now.site.at (opt_of (head (definitions v) (type_of b))) (λ u. Has c.args.layer.now.site.at (wanted_in v c.args.layer.now.site.wanted) u (p.Bang b)))
    c.args.scopes.now c.part.new.scopes c.args.checker.now c.part.new.checker c.in_err-of.field-0.0 c.from_residual.result c.from_residual.ensures c.in_err-of.ensures.answer)

pub returns-in-Some : goal.returns-in-Some
returns-in-Some g c =
    tests_hold typed_in kind_reached condition.BangPlace c.args.layer.now.site.at c.args.layer.now.site.place.ends (λ v. Part (judge c.args.layer.now.site.place (plain c.args.a.now) None v) (λ b. Given condition.NotOption c.args.layer.now.site.at (opt_of (head (definitions v) (type_of b))) (λ u. Has c.args.layer.now.site.at (wanted_in v c.args.layer.now.site.wanted) u (p.Bang b)))) c.args.scopes.now c.part.new.scopes c.args.checker.now c.has.new.checker c.has.result c.if-not-layer.false
    (part_given (judge c.args.layer.now.site.place (plain c.args.a.now) None) (λ v b. Given condition.NotOption c.args.layer.now.site.at (opt_of (head (definitions v) (type_of b))) (λ u. Has c.args.layer.now.site.at (wanted_in v c.args.layer.now.site.wanted) u (p.Bang b)))
    c.args.scopes.now c.part.new.scopes c.part.new.scopes c.args.checker.now c.part.new.checker c.has.new.checker c.in_ok-of.of c.has.result c.in_ok-of.ensures.answer
    (given_some typed_in kind_reached (λ v. opt_of (head (definitions v) (type_of (typed_in c.in_ok-of.of v.later)))) c.part.new.scopes c.part.new.scopes c.part.new.checker c.has.new.checker c.has.result condition.NotOption c.args.layer.now.site.at
    (λ v u. Has c.args.layer.now.site.at (wanted_in v c.args.layer.now.site.wanted) u (p.Bang (typed_in c.in_ok-of.of v.later))) (λ later. term later c.in-Some.part)
    (λ later w. ap (λ (u : Term). opt_of (head (rules_in later c.part.new.checker.types.listed) u)) (type_is c.in_ok-of.of later) ∙ (c.option_part.ensures.is later w ∙ ap (option_map (term later)) c.in-Some.is))
    (c.has.ensures c.part.new.scopes c.in_ok-of.ensures.ready.sound (λ later. p.Bang (typed_in c.in_ok-of.of later)) (λ later. seen_Bang (noted later) c.in_ok-of.of))))

pub returns-in-None : goal.returns-in-None
returns-in-None g c =
    tests_hold typed_in kind_reached condition.BangPlace c.args.layer.now.site.at c.args.layer.now.site.place.ends (λ v. Part (judge c.args.layer.now.site.place (plain c.args.a.now) None v) (λ b. Given condition.NotOption c.args.layer.now.site.at (opt_of (head (definitions v) (type_of b))) (λ u. Has c.args.layer.now.site.at (wanted_in v c.args.layer.now.site.wanted) u (p.Bang b)))) c.args.scopes.now c.part.new.scopes c.args.checker.now c.part.new.checker (Err (refusal.False c.args.layer.now.site.at condition.NotOption)) c.if-not-layer.false
    (part_given (judge c.args.layer.now.site.place (plain c.args.a.now) None) (λ v b. Given condition.NotOption c.args.layer.now.site.at (opt_of (head (definitions v) (type_of b))) (λ u. Has c.args.layer.now.site.at (wanted_in v c.args.layer.now.site.wanted) u (p.Bang b)))
    c.args.scopes.now c.part.new.scopes c.part.new.scopes c.args.checker.now c.part.new.checker c.part.new.checker c.in_ok-of.of (Err (refusal.False c.args.layer.now.site.at condition.NotOption)) c.in_ok-of.ensures.answer
    (given_none typed_in kind_reached condition.NotOption c.args.layer.now.site.at (λ v. opt_of (head (definitions v) (type_of (typed_in c.in_ok-of.of v.later)))) c.part.new.scopes c.part.new.checker
    (λ v u. Has c.args.layer.now.site.at (wanted_in v c.args.layer.now.site.wanted) u (p.Bang (typed_in c.in_ok-of.of v.later)))
    (λ later w. ap (λ (u : Term). opt_of (head (rules_in later c.part.new.checker.types.listed) u)) (type_is c.in_ok-of.of later) ∙ (c.option_part.ensures.is later w ∙ ap (option_map (term later)) c.in-None.is))))
