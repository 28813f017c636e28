use Rattle.std.proofs.Common.{◌≡◌, ◌∙◌, ap, map, length, List, ℕ}
use Rattle.std.proofs.lemmas.List.{take_all}
use Rattle.core_ir.specs.CodeView.{code_body}
use Rattle.core_ir.specs.Code.{Body}
use Rattle.core_ir.specs.Programs.{Group}
use Rattle.core_laws.specs.Conversion.{convert_body}
use Rattle.closure_conv.proofs.Programs.{map_twice}
use Rattle.closure_conv.proofs.program.convert_group.Goals as goal

pub returns : goal.returns
returns c =
    let needs = c.args.needs.now in
    let used = c.args.used.now in
    let g = c.args.group.now in
    let sources = c.as_slice-sources.result.now in
    let bodies = c.loop-body.bodies in
    let sees = c.in-Ok-try_from.sees in
    let e = c.loop-body.invariant (length bodies) sees in
    let s : sources ≡ g.bodies = c.as_slice-sources.ensures in
    let f : c.in-Ok.functions ≡ length g.bodies = c.in-Ok.ensures.1 ∙ ap length s in
    let made : map (code_body (length bodies) sees) bodies ≡ map (convert_body needs used) (map (code_body (length g.bodies) g.sees) g.bodies) =
    e ∙ ap (λ xs. map (λ b. convert_body needs used (code_body c.in-Ok.functions g.sees b)) xs) (take_all c.loop-body.body-index sources c.loop-body-test.false ∙ s)
    ∙ ap (λ n. map (λ b. convert_body needs used (code_body n g.sees b)) g.bodies) f
    ∙ map_twice (code_body (length g.bodies) g.sees) (convert_body needs used) g.bodies in
    ap (λ (xs : List Body). let it : Group Body = record { sees = sees; bodies = xs } in it) made
    ∙ ap (λ (n : ℕ). let it : Group Body = record { sees = n; bodies = map (convert_body needs used) (map (code_body (length g.bodies) g.sees) g.bodies) } in it) (c.in-Ok-try_from.ensures.1 ∙ c.len.ensures)
