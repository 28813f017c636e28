use Rattle.std.proofs.Common.{◌∙◌, Ok, Err}
use Rattle.typing_rules.specs.AbstractSyntax as p
use Rattle.abstract_types.specs.PatternView.{plain_signature}
use Rattle.abstract_types.specs.TypeView.{named}
use Rattle.type_scopes.specs.Scopes.{seen}
use Rattle.typed_patterns.proofs.Joining.{handed_on}
use Rattle.signatures.specs.Naming.{no_more, signature_of}
use Rattle.declared_names.proofs.Entering.{taken_back}
use Rattle.signatures.proofs.Signed.{class_there}
use Rattle.signatures.proofs.naming.class_signature.Goals as goal

pub returns-in_err-class_within-clause-judged : goal.returns-in_err-class_within-clause-judged
returns-in_err-class_within-clause-judged c fields =
    handed_on (signature_of (seen c.args.scope.now) (p.Class (named c.args.name.now) (plain_signature c.args.signature.now) fields)) c.args.types.now c.class_within.new.types c.class_within.new.sharing c.args.names.now c.class_within.new.names no_more c.in_err-class_within.field-0.0 c.from_residual-in_err-class_within.result c.from_residual-in_err-class_within.ensures
    (class_there (seen c.args.scope.now) (named c.args.name.now) (plain_signature c.args.signature.now) (seen c.push_generics.new.scope) (rw c.as_slice.ensures at c.in_ok-push_generics.ensures.seen) c.args.types.now c.class_within.new.types c.class_within.new.sharing c.args.names.now c.class_within.new.names no_more (Err c.in_err-class_within.field-0.0) fields c.in_err-class_within.ensures)

pub returns-clause-judged : goal.returns-clause-judged
returns-clause-judged c fields = class_there (seen c.args.scope.now) (named c.args.name.now) (plain_signature c.args.signature.now) (seen c.push_generics.new.scope) (rw c.as_slice.ensures at c.in_ok-push_generics.ensures.seen) c.args.types.now c.class_within.new.types c.class_within.new.sharing c.args.names.now c.class_within.new.names no_more (Ok tt) fields c.in_ok-class_within.ensures

pub returns-clause-scope : goal.returns-clause-scope
returns-clause-scope c = c.truncate.ensures ∙ taken_back c.args.scope.now c.push_generics.new.scope c.len-len.result c.len-len.ensures.names c.len-len.ensures.declared c.in_ok-push_generics.ensures.extends
