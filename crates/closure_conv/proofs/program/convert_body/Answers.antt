use Rattle.std.proofs.Common.{◌∙◌, ap, map}
use Rattle.std.proofs.lemmas.List.{take_all}
use Rattle.core_ir.specs.CodeView.{Names, code_of, names_of}
use Rattle.core_laws.specs.Conversion.{convert}
use Rattle.closure_conv.proofs.Programs.{map_twice, body_is}
use Rattle.closure_conv.proofs.program.convert_body.Goals as goal

pub returns : goal.returns
returns c f s =
    let needs = c.args.needs.now in
    let used = c.args.used.now in
    let b = c.args.body.now in
    let outer : Names = names_of c.args.functions c.args.sees b in
    let items = c.as_slice-segment-items.result.now in
    body_is needs used b.parameters b.slots b.nodes _ _ (
    c.loop-segment.invariant _
    ∙ ap (λ cs. map (λ c. convert needs used (code_of c outer)) cs) (take_all c.loop-segment.segment-index items c.loop-segment-test.false ∙ c.as_slice-segment-items.ensures)
    ∙ map_twice (λ c. code_of c outer) (convert needs used) b.segments)
