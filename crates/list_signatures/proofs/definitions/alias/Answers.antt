use Rattle.std.proofs.Common.{◌∙◌}
use Rattle.typing_rules.specs.AbstractSyntax as p
use Rattle.abstract_types.specs.TypeView.{named, type_node}
use Rattle.std.proofs.Common.{map}
use Rattle.type_scopes.specs.Scopes.{seen}
use Rattle.declared_names.proofs.Entering.{taken_back}
use Rattle.proper_types.specs.Rules.{done}
use Rattle.proper_types.proofs.Judging.{handed}
use Rattle.list_signatures.specs.Listing.{definition_of}
use Rattle.list_signatures.proofs.Defined.{aliased, improper, scope_kept}
use Rattle.list_signatures.proofs.definitions.alias.Goals as goal

pub returns-in_err-proper-clause-judged : goal.returns-in_err-proper-clause-judged
returns-in_err-proper-clause-judged c =
    handed (definition_of (seen c.args.scope.now) (p.TypeAlias (named c.args.name.now) (map named c.args.parameters.now) (type_node c.args.of.now))) c.args.types.now c.proper.new.types c.proper.new.sharing c.proper.new.sharing done done c.in_err-proper.field-0.0 c.from_residual-in_err-proper.result c.from_residual-in_err-proper.ensures
    (improper (seen c.args.scope.now) (seen c.push_names.new.scope) (named c.args.name.now) (map named c.args.parameters.now) (type_node c.args.of.now) c.in_ok-push_names.ensures.seen c.args.types.now c.proper.new.types c.proper.new.sharing c.proper.new.sharing c.in_err-proper.field-0.0 c.in_err-proper.ensures)

pub returns-clause-judged : goal.returns-clause-judged
returns-clause-judged c =
    aliased (seen c.args.scope.now) (seen c.push_names.new.scope) (named c.args.name.now) (map named c.args.parameters.now) (type_node c.args.of.now) c.in_ok-push_names.ensures.seen c.args.types.now c.proper.new.types c.proper.new.sharing c.defines.result c.in_ok-proper.ensures c.defines.ensures

pub returns-clause-scope : goal.returns-clause-scope
returns-clause-scope c = scope_kept c.defines.result (c.truncate.ensures ∙ taken_back c.args.scope.now c.push_names.new.scope c.len-len.result c.len-len.ensures.names c.len-len.ensures.declared c.in_ok-push_names.ensures.extends)
