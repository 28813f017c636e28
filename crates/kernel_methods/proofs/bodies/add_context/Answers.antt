use Rattle.std.proofs.Common.{Option, ap}
use Rattle.abstract_types.specs.declared.patterns.Pattern.{Pattern}
use Rattle.abstract_types.specs.PatternView.{pattern}
use Rattle.value_scopes.specs.declared.note.Note.{Note}
use Rattle.judged_parts.specs.Parts.{See}
use Rattle.desugaring.specs.FreeNames.{names_in}
use Rattle.kernel_methods.specs.Methods.{context_names_of}
use Rattle.kernel_methods.proofs.Around.{none_more, same_more}
use Rattle.kernel_methods.proofs.bodies.add_context.Goals as goal

pub returns-in-None : goal.returns-in-None
returns-in-None c = λ (see : See). none_more (context_names_of see c.args.context.now) c.args.names.now (ap (λ (q : Option (Pattern Note)). context_names_of see q) c.in-None.is)

pub returns-in-Some : goal.returns-in-Some
returns-in-Some c = λ (see : See).
    same_more c.pattern_names.result (context_names_of see c.args.context.now) (names_in (pattern see c.in-Some.q)) c.args.names.now c.pattern_names.new.names (c.pattern_names.ensures see) (ap (λ (q : Option (Pattern Note)). context_names_of see q) c.in-Some.is)
