use Rattle.std.proofs.Common.{◌≡◌, true, false, List, sym, ◌∙◌, subst}
use Rattle.mo_types.specs.declared.datum.Datum.{Datum}
use Rattle.mo_types.specs.Graph.{head_at}
use Rattle.kept_parts.specs.Keeping.{HasForm}
use Rattle.kept_parts.proofs.Kept.{value_none}
use Rattle.kept_parts.proofs.keeping.value_of.Goals as goal

pub returns-then-fits : goal.returns-then-fits
returns-then-fits c =
    let Of : List Datum → Type 0 = λ ps. HasForm (head_at c.args.types.now) c.args.of_type ps c.args.candid.now in
    subst Of c.as_slice.ensures.value (c.in_ok-fits.ensures.0 c.if-fits.true)

pub returns-else-fits : goal.returns-else-fits
returns-else-fits c =
    let Of : List Datum → Type 0 = λ ps. HasForm (head_at c.args.types.now) c.args.of_type ps c.args.candid.now in
    value_none (head_at c.args.types.now) c.args.of_type c.in_ok-parts.parts.items c.args.candid.now c.in_ok-parts.ensures
    (λ h. absurd (let e : false ≡ true = sym c.if-fits.false ∙ c.in_ok-fits.ensures.1 (subst Of (sym c.as_slice.ensures.value) h) in cc))
