use Rattle.std.proofs.Common.{◌≡◌, length, true, refl, sym, ap, ◌∙◌, rules}
use Rattle.std.specs.Str.{bytes_eq}
use Rattle.std.proofs.lemmas.Option.{slice_get_read}
use Rattle.typed_tree.specs.PatternView.{pattern}
use Rattle.typed_tree.specs.Patterns.{Tagged}
use Rattle.typed_tree.proofs.Views.{pattern_views}
use Rattle.pattern_coverage.proofs.Option.{bytes_same}
use Rattle.tag_coverage.proofs.Sorting.{of_form}
use Rattle.tag_coverage.proofs.payloads.sort_in.Goals as goal

pub returns-in_ok-put-in-Tagged : goal.returns-in_ok-put-in-Tagged
returns-in_ok-put-in-Tagged c = λ _.
    let b : bytes_eq c.index-tags-place.result.label c.in-Tagged.label ≡ true = search rules in (
      c.hint-place.result,
      c.index-tags-place.result,
      pattern c.in-Tagged.inside,
      slice_get_read c.args.tags.now (length c.args.tags.now) c.hint-place.result c.index-tags-place.result refl c.if-place-tags.true c.index-tags-place.is,
      of_form c.args.typed.now _ (sym c.get.ensures ∙ c.in-Tagged.is) ∙ pattern_views.tagged c.in-Tagged.label c.in-Tagged.inside ∙ ap (λ l. Tagged l (pattern c.in-Tagged.inside)) (sym (bytes_same c.index-tags-place.result.label c.in-Tagged.label b)),
      λ n h. c.in_ok-put-in-Tagged.ensures n h,
    )
