use Rattle.std.proofs.Common.{◌∙◌}
use Rattle.abstract_types.specs.PatternView.{plain_signature}
use Rattle.abstract_types.specs.TypeView.{named}
use Rattle.type_scopes.specs.Scopes.{seen}
use Rattle.typing_rules.specs.DeclaredTypes.{class_term}
use Rattle.declared_names.proofs.Entering.{taken_back}
use Rattle.declared_types.specs.Signing.{class_within}
use Rattle.declared_types.proofs.Signed.{in_class, wrote_as}
use Rattle.declared_types.proofs.signatures.class_term.Goals as goal

pub returns-clause-made : goal.returns-clause-made
returns-clause-made c = wrote_as c.args.types.now c.class_within.new.types (class_within (seen c.push_generics.new.scope) (named c.args.name.now) (plain_signature c.args.signature.now)) (class_term (seen c.args.scope.now) (named c.args.name.now) (plain_signature c.args.signature.now)) c.in_ok-made.made
    (in_class (seen c.args.scope.now) (seen c.push_generics.new.scope) (named c.args.name.now) (plain_signature c.args.signature.now) (rw c.as_slice.ensures at c.in_ok-push_generics.ensures.seen)) c.in_ok-made.ensures

pub returns-clause-scope : goal.returns-clause-scope
returns-clause-scope c = c.truncate.ensures ∙ taken_back c.args.scope.now c.push_generics.new.scope c.len-len.result c.len-len.ensures.names c.len-len.ensures.declared c.in_ok-push_generics.ensures.extends
