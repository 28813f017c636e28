use Rattle.std.proofs.Common.{◌≡◌, true, false, sym, ap, ◌∙◌, subst, rules}
use Rattle.mo_types.specs.Sub.{Each}
use Rattle.typed_tree.specs.Opening.{Code}
use Rattle.pattern_coverage.specs.Cover.{IsExact}
use Rattle.pattern_coverage.specs.Followed.{value_head}
use Rattle.pattern_coverage.specs.Suited.{IsOn}
use Rattle.mo_coverage.specs.Covering.{cover_in}
use Rattle.tag_coverage.specs.Alternatives.{all_alternatives}
use Rattle.tag_coverage.specs.Options.{all_of_option, insides, some_null}
use Rattle.tag_coverage.specs.Payloads.{AreSorted, IsTag, listed, patterns_in}
use Rattle.tag_coverage.proofs.Each.{if_ok}
use Rattle.tag_coverage.proofs.Flattening.{all_on, exact_by_alternatives}
use Rattle.tag_coverage.proofs.Held.{exact_in_option, insides_on, missing_null}
use Rattle.tag_coverage.proofs.Variants.{exact_by_tag, lists_on}
use Rattle.tag_coverage.proofs.covering.+parts.Goals as goal

pub by_option-returns-then-not-some_null : goal.by_option-returns-then-not-some_null
by_option-returns-then-not-some_null t c =
    let all : all_of_option (patterns_in c.args.patterns.now) ≡ true = search rules in
    let none : some_null (patterns_in c.args.patterns.now) ≡ false = search rules in
    subst (IsExact (value_head c.args.types.now) Code c.args.id (patterns_in c.args.patterns.now)) (sym c.null_missed.ensures) (missing_null (value_head c.args.types.now) c.args.id c.args.of c.requires.is (patterns_in c.args.patterns.now) all none)

pub by_option-covers_within-requires : goal.by_option-covers_within-requires
by_option-covers_within-requires t c =
    let e : patterns_in c.as_slice.result.now ≡ insides (patterns_in c.args.patterns.now) = ap patterns_in c.as_slice.ensures.value ∙ c.in_ok-list.ensures in
    (search rules, (c.requires.lawful, (c.requires.table, subst (Each (λ p. IsOn (value_head c.args.types.now) p c.args.of)) (sym e) (insides_on (value_head c.args.types.now) c.args.id c.args.of c.requires.is (patterns_in c.args.patterns.now) c.requires.on))))

pub by_option-returns : goal.by_option-returns
by_option-returns t c =
    let all : all_of_option (patterns_in c.args.patterns.now) ≡ true = search rules in
    let some : some_null (patterns_in c.args.patterns.now) ≡ true = search rules in
    let e : patterns_in c.as_slice.result.now ≡ insides (patterns_in c.args.patterns.now) = ap patterns_in c.as_slice.ensures.value ∙ c.in_ok-list.ensures in
    let told : IsExact (value_head c.args.types.now) Code c.args.of (insides (patterns_in c.args.patterns.now)) (cover_in c.in_ok-inside.inside) =
    subst (λ ps. IsExact (value_head c.args.types.now) Code c.args.of ps (cover_in c.in_ok-inside.inside)) e c.in_ok-inside.ensures in
    subst (IsExact (value_head c.args.types.now) Code c.args.id (patterns_in c.args.patterns.now)) (sym c.in_ok-in_option.ensures)
    (exact_in_option (value_head c.args.types.now) c.args.id c.args.of c.requires.is (patterns_in c.args.patterns.now) all some (cover_in c.in_ok-inside.inside) told)

pub by_tags-told_by_tag-requires : goal.by_tags-told_by_tag-requires
by_tags-told_by_tag-requires t c =
    let sorted : AreSorted c.args.tags.now (patterns_in c.args.patterns.now) c.in-Some.lists.items = search rules in
    let all : AreSorted c.args.tags.now (patterns_in c.args.patterns.now) c.as_slice.result.now = subst (AreSorted c.args.tags.now (patterns_in c.args.patterns.now)) (sym c.as_slice.ensures.value) sorted in
    (search rules, (c.requires.lawful, (c.requires.table, (all.0, lists_on c.args.types.now c.requires.lawful c.args.id c.args.tags.now c.requires.is (patterns_in c.args.patterns.now) (listed c.as_slice.result.now) all.1 c.requires.on))))

pub by_tags-returns-in_ok-told_by_tag-in-Some : goal.by_tags-returns-in_ok-told_by_tag-in-Some
by_tags-returns-in_ok-told_by_tag-in-Some t c =
    let sorted : AreSorted c.args.tags.now (patterns_in c.args.patterns.now) c.in-Some.lists.items = search rules in
    let all : AreSorted c.args.tags.now (patterns_in c.args.patterns.now) c.as_slice.result.now = subst (AreSorted c.args.tags.now (patterns_in c.args.patterns.now)) (sym c.as_slice.ensures.value) sorted in
    let tags : Each IsTag (patterns_in c.args.patterns.now) = search rules in
    exact_by_tag c.args.types.now c.requires.lawful c.args.id c.args.tags.now c.requires.is (patterns_in c.args.patterns.now) (listed c.as_slice.result.now) all.1 tags (cover_in c.in_ok-told_by_tag-in-Some.field-0) c.in_ok-told_by_tag-in-Some.ensures

pub covers_within-by_parts-requires : goal.covers_within-by_parts-requires
covers_within-by_parts-requires t c =
    let e : patterns_in c.as_slice.result.now ≡ all_alternatives (patterns_in c.args.patterns.now) = ap patterns_in c.as_slice.ensures.value ∙ c.in_ok-each.ensures in
    (search rules, (c.requires.lawful, (c.requires.table, subst (Each (λ p. IsOn (value_head c.args.types.now) p c.args.id)) (sym e) (all_on (value_head c.args.types.now) c.args.id (patterns_in c.args.patterns.now) c.requires.on))))

pub covers_within-returns-in-Some : goal.covers_within-returns-in-Some
covers_within-returns-in-Some t c =
    let e : patterns_in c.as_slice.result.now ≡ all_alternatives (patterns_in c.args.patterns.now) = ap patterns_in c.as_slice.ensures.value ∙ c.in_ok-each.ensures in
    let told : IsExact (value_head c.args.types.now) Code c.args.id (patterns_in c.as_slice.result.now) (cover_in c.in-Some.cover) = search rules in
    exact_by_alternatives Code (value_head c.args.types.now) c.args.id (patterns_in c.args.patterns.now) (cover_in c.in-Some.cover)
    (subst (λ ps. IsExact (value_head c.args.types.now) Code c.args.id ps (cover_in c.in-Some.cover)) e told)

pub covers_within-covers-requires-clause-on : goal.covers_within-covers-requires-clause-on
covers_within-covers-requires-clause-on t c =
    let e : patterns_in c.as_slice-in-None.result.now ≡ all_alternatives (patterns_in c.args.patterns.now) = ap patterns_in c.as_slice-in-None.ensures.value ∙ c.in_ok-each.ensures in
    subst (Each (λ p. IsOn (value_head c.args.types.now) p c.args.id)) (sym e) (all_on (value_head c.args.types.now) c.args.id (patterns_in c.args.patterns.now) c.requires.on)

pub covers_within-returns : goal.covers_within-returns
covers_within-returns t c =
    let e : patterns_in c.as_slice-in-None.result.now ≡ all_alternatives (patterns_in c.args.patterns.now) = ap patterns_in c.as_slice-in-None.ensures.value ∙ c.in_ok-each.ensures in
    if_ok c.covers.result _ (λ cover. IsExact (value_head c.args.types.now) Code c.args.id (patterns_in c.args.patterns.now) (cover_in cover))
    (λ cover h. exact_by_alternatives Code (value_head c.args.types.now) c.args.id (patterns_in c.args.patterns.now) (cover_in cover) (subst (λ ps. IsExact (value_head c.args.types.now) Code c.args.id ps (cover_in cover)) e h)) c.covers.ensures.exact
