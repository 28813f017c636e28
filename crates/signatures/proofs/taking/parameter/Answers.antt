use Rattle.abstract_types.specs.PatternView.{plain}
use Rattle.type_scopes.specs.Scopes.{seen}
use Rattle.proper_types.specs.Rules.{as_term}
use Rattle.typed_patterns.specs.Making.{pattern_in}
use Rattle.typed_patterns.proofs.Joining.{handed_on}
use Rattle.signatures.specs.Taking.{one_in, parameter}
use Rattle.signatures.proofs.Several.{stands_not, stands_on, unkind_refused}
use Rattle.signatures.proofs.taking.parameter.Goals as goal

pub returns-in_err-kind-clause-judged : goal.returns-in_err-kind-clause-judged
returns-in_err-kind-clause-judged c =
    handed_on (parameter (seen c.args.scope.now) (plain c.args.pattern.now) c.args.wanted) c.args.types.now c.kind_of.new.types c.kind_of.new.sharing c.args.names.now c.args.names.now one_in c.in_err-kind.field-0.0 c.from_residual.result c.from_residual.ensures
    (unkind_refused (seen c.args.scope.now) (plain c.args.pattern.now) c.args.wanted c.args.types.now c.kind_of.new.types c.kind_of.new.sharing c.kind_of.new.sharing c.args.names.now c.args.names.now as_term one_in c.in_err-kind.field-0.0 c.in_err-kind.ensures.judged)

pub returns-in_err-pattern-clause-judged : goal.returns-in_err-pattern-clause-judged
returns-in_err-pattern-clause-judged c =
    handed_on (parameter (seen c.args.scope.now) (plain c.args.pattern.now) c.args.wanted) c.args.types.now c.stands.new.types c.stands.new.sharing c.args.names.now c.stands.new.names one_in c.in_err-pattern.field-0.0 c.from_residual-in_err-pattern.result c.from_residual-in_err-pattern.ensures
    (stands_not (seen c.args.scope.now) (plain c.args.pattern.now) c.args.wanted c.in_ok-kind.kind c.args.types.now c.kind_of.new.types c.stands.new.types c.kind_of.new.sharing c.stands.new.sharing c.args.names.now c.stands.new.names c.in_ok-kind.ensures.judged pattern_in one_in c.in_err-pattern.field-0.0 c.in_err-pattern.ensures)

pub returns-clause-judged : goal.returns-clause-judged
returns-clause-judged c = stands_on (seen c.args.scope.now) (plain c.args.pattern.now) c.args.wanted c.in_ok-kind.kind c.args.types.now c.kind_of.new.types c.stands.new.types c.kind_of.new.sharing c.stands.new.sharing c.args.names.now c.stands.new.names c.in_ok-kind.ensures.judged (pattern_in c.in_ok-pattern.pattern) c.in_ok-pattern.ensures
