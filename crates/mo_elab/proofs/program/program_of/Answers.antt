use Rattle.std.proofs.Common.{List, suc, map, ap, ◌∙◌}
use Rattle.mo_types.specs.Graph.{head_at}
use Rattle.core_ir.specs.declared.program.StableVariable.{StableVariable}
use Rattle.core_ir.specs.ProgramView as core
use Rattle.core_ir.specs.View.{core_body}
use Rattle.typed_tree.specs.ProgramView as source
use Rattle.elaboration.specs.Programs.{methods_of}
use Rattle.mo_elab.proofs.Serving.{variables_view}
use Rattle.mo_elab.proofs.Whole.{program_is}
use Rattle.mo_elab.proofs.program.program_of.Goals as goal

pub returns : goal.returns
returns c =
    let a = c.in_ok-start.field-0 in
    program_is c.args.program.now c.in_ok-types.types a.groups a.methods c.in_ok-methods.methods c.in_ok-stable.stable a.save c.in_ok-parameters.parameters a.start (ap head_at c.in_ok-types.ensures ∙ c.in_ok-graph.ensures) c.in_ok-start.ensures
    (c.in_ok-methods.ensures ∙ ap (λ xs. methods_of (map source.method xs) (map core_body a.methods)) c.as_slice-2.ensures)
    (ap (λ (vs : List StableVariable). map core.stable_variable vs) c.in_ok-stable.ensures ∙ (c.in_ok-variables.ensures ∙ ap variables_view c.as_slice.ensures)) (c.in_ok-parameters.ensures ∙ ap suc (c.in_ok-kept.ensures ∙ c.len.ensures))
