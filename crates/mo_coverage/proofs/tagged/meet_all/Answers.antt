use Rattle.std.proofs.Common.{◌≡◌, [], ◌∷◌, ◌+◌, List, drop, length, map, reverse, false, refl, sym, ap, ◌∙◌, subst, rules}
use Rattle.std.proofs.Math.ListN.{replicate}
use Rattle.std.proofs.lemmas.List.{drop_more}
use Rattle.mo_types.specs.Sub.{Each}
use Rattle.typed_tree.specs.PatternView.{pattern}
use Rattle.typed_tree.specs.Patterns.{Pat}
use Rattle.mo_coverage.specs.Met.{IsEasyTag, met, met_by, met_marks}
use Rattle.mo_coverage.proofs.MetMarks.{none_met}
use Rattle.mo_coverage.proofs.tagged.meet_all.Goals as goal

pub loop-typed-init : goal.loop-typed-init
loop-typed-init c =
    let e : c.in_ok-vec.field-0.items ≡ replicate (length c.args.tags.now) false = search rules in
    let n : c.new.result.items ≡ [] = search rules in
    (λ h. h, e ∙ none_met c.args.tags.now (length c.args.tags.now) refl ∙ ap (λ ls. met_marks c.args.tags.now (reverse ls)) (sym n), ap (λ ls. met (map (λ p. pattern p.now) c.args.patterns.now) (reverse ls)) n)

pub loop-typed-preserved : goal.loop-typed-preserved
loop-typed-preserved c =
    let d : map (λ p. pattern p.now) (drop c.loop-typed.typed-index c.args.patterns.now) ≡ pattern c.typed-item.result.now ∷ map (λ p. pattern p.now) (drop (c.loop-typed.typed-index + 1) c.args.patterns.now) =
    ap (map (λ p. pattern p.now)) (drop_more c.args.patterns.now c.loop-typed.typed-index c.typed-item.result c.loop-typed-test.true ∙ ap (λ v. v ∷ drop (c.loop-typed.typed-index + 1) c.args.patterns.now) (sym c.typed-item.is)) in
    let easy = c.in-Some.ensures.place in
    let told = c.in_ok-meet-in-Some.ensures easy.0 easy.2 in (
      λ h. c.loop-typed.invariant.0 (subst (Each (IsEasyTag c.args.tags.now)) (sym d) ((c.in-Some.place, easy), h)),
      told.1,
      ap (met (map (λ p. pattern p.now) (drop (c.loop-typed.typed-index + 1) c.args.patterns.now))) (told.0 ∙ ap (λ p. met_by p (reverse c.loop-typed.found.labels.items)) (sym easy.3))
          ∙ ap (λ (ps : List Pat). met ps (reverse c.loop-typed.found.labels.items)) (sym d)
          ∙ c.loop-typed.invariant.2,
    )
