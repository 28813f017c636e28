use Rattle.std.proofs.Common.{ℕ, Option, None, ap, option_map, refl}
use Rattle.typing_rules.specs.AbstractSyntax as p
use Rattle.abstract_types.specs.declared.patterns.Pattern.{Pattern}
use Rattle.abstract_types.specs.PatternView.{plain}
use Rattle.type_scopes.specs.Scopes.{seen}
use Rattle.typed_patterns.specs.Making.{pattern_in}
use Rattle.typed_patterns.proofs.Joining.{handed_on}
use Rattle.signatures.specs.Taking.{context_in, context_of}
use Rattle.signatures.proofs.Steps.{context_is, context_not, no_context}
use Rattle.signatures.proofs.context.context_of.Goals as goal

abbrev seen_there : Option (Pattern ℕ) → Option (p.Pattern ℕ)
seen_there o = option_map plain o

pub returns-in_err-context_stands-in-Some : goal.returns-in_err-context_stands-in-Some
returns-in_err-context_stands-in-Some c =
    handed_on (context_of (seen c.args.scope.now) (seen_there c.args.pattern.now)) c.args.types.now c.context_stands.new.types c.context_stands.new.sharing c.args.names.now c.context_stands.new.names context_in c.in_err-context_stands-in-Some.field-0.0 c.from_residual.result c.from_residual.ensures
    (context_not (seen c.args.scope.now) (seen_there c.args.pattern.now) (plain c.in-Some.pattern) (ap seen_there c.in-Some.is) c.args.types.now c.context_stands.new.types c.context_stands.new.sharing c.args.names.now c.context_stands.new.names pattern_in context_in c.in_err-context_stands-in-Some.field-0.0 c.in_err-context_stands-in-Some.ensures)

pub returns-in-None : goal.returns-in-None
returns-in-None c = no_context (seen c.args.scope.now) (seen_there c.args.pattern.now) c.args.types.now c.args.sharing.now c.args.names.now (context_in None) (ap seen_there c.in-None.is) refl c.requires

pub returns-in_ok-context_stands-in-Some : goal.returns-in_ok-context_stands-in-Some
returns-in_ok-context_stands-in-Some c =
    context_is (seen c.args.scope.now) (seen_there c.args.pattern.now) (plain c.in-Some.pattern) (ap seen_there c.in-Some.is) c.args.types.now c.context_stands.new.types c.context_stands.new.sharing c.args.names.now c.context_stands.new.names (pattern_in c.in_ok-context_stands-in-Some.field-0) c.in_ok-context_stands-in-Some.ensures
