use Rattle.std.proofs.Common.{◌≡◌, length, true, refl, sym, ap, ◌∙◌, rules}
use Rattle.std.specs.Str.{bytes_eq}
use Rattle.std.proofs.lemmas.Option.{slice_get_read}
use Rattle.typed_tree.specs.PatternView.{pattern}
use Rattle.typed_tree.specs.Patterns.{Tagged}
use Rattle.typed_tree.proofs.Views.{pattern_views}
use Rattle.pattern_coverage.proofs.Option.{bytes_same}
use Rattle.mo_coverage.specs.Easy.{is_easy}
use Rattle.mo_coverage.proofs.Patterns.{of_form}
use Rattle.mo_coverage.proofs.tagged.easy_place.Goals as goal

pub returns-then-is_easy-clause-place : goal.returns-then-is_easy-clause-place
returns-then-is_easy-clause-place c =
    let b : bytes_eq c.index-tags-place.result.label c.in-Tagged.label ≡ true = search rules in
    let y : is_easy (pattern c.in-Tagged.payload) ≡ true = search rules in (
      c.index-tags-place.result,
      pattern c.in-Tagged.payload,
      slice_get_read c.args.tags.now (length c.args.tags.now) c.hint-place.result c.index-tags-place.result refl c.if-place-tags.true c.index-tags-place.is,
      of_form c.args.typed.now _ (sym c.get.ensures ∙ c.in-Tagged.is) ∙ pattern_views.tagged c.in-Tagged.label c.in-Tagged.payload ∙ ap (λ l. Tagged l (pattern c.in-Tagged.payload)) (sym (bytes_same c.index-tags-place.result.label c.in-Tagged.label b)),
      y,
    )
