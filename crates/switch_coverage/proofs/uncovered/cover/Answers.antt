use denote.Bor.{Bor}
use Rattle.std.proofs.Common.{◌≡◌, IfOk, map, sym, ap, ◌∙◌, subst}
use Rattle.mo_types.specs.Sub.{Each}
use Rattle.typed_tree.specs.declared.pattern.TypedPattern.{TypedPattern}
use Rattle.typed_tree.specs.Opening.{Code}
use Rattle.typed_tree.specs.PatternView.{pattern}
use Rattle.pattern_coverage.specs.Cover.{IsExact}
use Rattle.pattern_coverage.specs.Followed.{value_head}
use Rattle.pattern_coverage.specs.Suited.{IsOn}
use Rattle.mo_coverage.specs.Covering.{cover_in}
use Rattle.switch_coverage.specs.Found.{patterns_in}
use Rattle.switch_coverage.proofs.uncovered.cover.Goals as goal

pub covers-requires-clause-on : goal.covers-requires-clause-on
covers-requires-clause-on c =
    let e : map (λ (p : Bor TypedPattern). pattern p.now) c.as_slice.result.now ≡ patterns_in c.args.found.now.cases.now =
    ap (map (λ (p : Bor TypedPattern). pattern p.now)) c.as_slice.ensures.value ∙ c.in_ok-patterns.ensures in
    subst (λ ps. Each (λ p. IsOn (value_head c.args.types.now) p c.args.found.now.of_type) ps) (sym e) c.requires.fits

pub returns : goal.returns
returns c =
    let e : map (λ (p : Bor TypedPattern). pattern p.now) c.as_slice.result.now ≡ patterns_in c.args.found.now.cases.now =
    ap (map (λ (p : Bor TypedPattern). pattern p.now)) c.as_slice.ensures.value ∙ c.in_ok-patterns.ensures in
    subst (λ ps. IfOk c.covers.result (λ cover. IsExact (value_head c.args.types.now) Code c.args.found.now.of_type ps (cover_in cover))) e c.covers.ensures.exact
