use Rattle.std.proofs.Common.{ap, sym, [], ◌∷◌, ◌∙◌}
use Rattle.core_layers.specs.Layers.{layered, pending, seen_fails}
use Rattle.core_layers.proofs.Adding.{layers_behind}
use Rattle.core_layers.proofs.nesting.around.Goals as goal

pub loop-outer-preserved : goal.loop-outer-preserved
loop-outer-preserved c =
    let fails = seen_fails c.args.fails in
    let rest = c.pop.new.self.items in
    let inner = pending c.loop-outer.made in
    ap (layered rest fails) c.in_ok-made.ensures ∙ sym (layers_behind rest (c.in-Some.outer ∷ []) fails inner) ∙ ap (λ xs. layered xs fails inner) (sym c.in-Some.ensures.items) ∙ c.loop-outer.invariant
