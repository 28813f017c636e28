use Rattle.std.proofs.Common.{◌∙◌, List, ap, length, subst, sym}
use Rattle.mo_types.specs.Sub.{Each}
use Rattle.type_terms.specs.declared.form.TermId.{TermId}
use Rattle.typing_rules.specs.AbstractSyntax as p
use Rattle.typing_rules.specs.TypedTrees.{Note, signature}
use Rattle.type_definitions.specs.Tables.{Within}
use Rattle.abstract_types.specs.declared.patterns.Pattern.{Pattern}
use Rattle.abstract_types.specs.PatternView.{plain_signature}
use Rattle.written_types.proofs.Making.{function_below}
use Rattle.value_scopes.specs.declared.note.Note as value_note
use Rattle.value_scopes.specs.Values.{noted}
use Rattle.typed_patterns.specs.Binding.{patterns_in}
use Rattle.judging.specs.Views.{kind_reached, typed_in}
use Rattle.judging.proofs.Chains.{no_memory}
use Rattle.judging.proofs.Forms.{seen_Function}
use Rattle.function_rules.proofs.Ended.{ended_by}
use Rattle.function_rules.proofs.functions.ends.Goals as goal

pub has_form-requires-clause-below : goal.has_form-requires-clause-below
has_form-requires-clause-below c =
    function_below (length c.args.checker.now.types.forms) c.into_parts-kinds.result.0 c.args.made.closed.of
    (subst (λ (q : List TermId × List (Pattern value_note.Note)). Each (Within c.args.checker.now.types.forms) q.0) (sym c.into_parts-kinds.ensures) c.requires.fine.0) c.requires.fine.1.0

pub returns-in_err-signature : goal.returns-in_err-signature
returns-in_err-signature c = λ names s. no_memory typed_in kind_reached _ names names c.args.checker.now c.args.checker.now c.from_residual.result c.from_residual.ensures

pub returns : goal.returns
returns c = λ names s.
    ended_by c.args.site.now (plain_signature c.args.signature.now) names names c.args.checker.now c.has_form.new.checker c.has_form.result c.args.made c.into_parts-kinds.result c.into_parts-kinds.ensures
    (c.has_form.ensures names s (λ later. p.Function (signature (plain_signature c.args.signature.now) (patterns_in c.into_parts-kinds.result.1 later)) (typed_in c.args.made.closed.body later))
    (λ later.
    seen_Function (noted later) c.in_ok-signature.signature c.args.made.closed.body
    ∙ ap (λ (g : p.Signature Note). p.Function g (typed_in c.args.made.closed.body later)) (c.in_ok-signature.ensures later)))
