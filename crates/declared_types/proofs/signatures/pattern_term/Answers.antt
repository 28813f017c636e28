use Rattle.std.proofs.Common.{Some, None}
use Rattle.typing_rules.specs.Terms as t
use Rattle.typing_rules.specs.TypeScopes.{term}
use Rattle.abstract_types.specs.PatternView.{plain}
use Rattle.abstract_types.specs.TypeView.{type_node}
use Rattle.typing_rules.specs.DeclaredTypes.{pattern_term}
use Rattle.type_scopes.specs.Scopes.{seen}
use Rattle.declared_types.proofs.Signed.{if_wrote_as, pattern_as}
use Rattle.declared_types.proofs.signatures.pattern_term.Goals as goal

pub returns-in-Some : goal.returns-in-Some
returns-in-Some c = if_wrote_as c.args.types.now c.written.new.types (term (seen c.args.scope.now) (type_node c.in-Some.node.now)) (pattern_term (seen c.args.scope.now) (plain c.args.q.now)) c.written.result
    (pattern_as (seen c.args.scope.now) c.args.q.now (Some (type_node c.in-Some.node.now)) c.in-Some.ensures) c.written.ensures

pub returns-in-None : goal.returns-in-None
returns-in-None c = if_wrote_as c.args.types.now c.bottom.new.types t.Bottom (pattern_term (seen c.args.scope.now) (plain c.args.q.now)) c.bottom.result
    (pattern_as (seen c.args.scope.now) c.args.q.now None c.in-None.ensures) c.bottom.ensures
