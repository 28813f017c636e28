use Rattle.std.proofs.Common.{◌≡◌, ◌++◌, ◌∷◌, [], length, arith, sym, ap, subst}
use Rattle.std.proofs.lemmas.List.{length-append}
use Rattle.mo_types.specs.Values.{copies}
use Rattle.pattern_coverage.specs.Known.{Unknown}
use Rattle.mo_coverage.specs.Shapes.{all_known}
use Rattle.mo_coverage.specs.declared.shape.Shape.TheVariants as V
use Rattle.mo_coverage.proofs.Lists.{one_more_unknown}
use Rattle.mo_coverage.proofs.ShapeViews.{unknown_view}
use Rattle.mo_coverage.proofs.columns.unknowns.Goals as goal

pub loop-made-preserved : goal.loop-made-preserved
loop-made-preserved c =
    let e : c.push.new.self.items ≡ c.loop-made.made.items ++ V.Unknown ∷ [] = grind (arith) in
    let l : length c.push.new.self.items ≡ length (c.loop-made.made.items ++ V.Unknown ∷ []) = ap length e in
    (omega (arith, l, length-append c.loop-made.made.items (V.Unknown ∷ [])), subst (λ z. all_known z ≡ copies (length z) Unknown) (sym e) (one_more_unknown c.loop-made.made.items V.Unknown unknown_view c.loop-made.invariant.1))
