use Rattle.std.proofs.Common.{◌∙◌, Option, Some, ap, sym}
use Rattle.typed_tree.specs.declared.pattern.TypedPattern.{TypedPattern}
use Rattle.abstract_types.specs.declared.patterns.Pattern.{Pattern}
use Rattle.value_scopes.specs.declared.note.Note.{Note}
use Rattle.kernel_methods.specs.Methods.{context_in}
use Rattle.kernel_methods.proofs.public_functions.context_pattern.Goals as goal

pub returns-in-None : goal.returns-in-None
returns-in-None c = ap (λ (q : Option (Pattern Note)). context_in c.args.types.now q) (sym c.in-None.is)

pub returns-in_ok-made-in-Some : goal.returns-in_ok-made-in-Some
returns-in_ok-made-in-Some c = ap (λ (z : TypedPattern). Some z) c.in_ok-made-in-Some.ensures ∙ ap (λ (q : Option (Pattern Note)). context_in c.args.types.now q) (sym c.in-Some.is)
