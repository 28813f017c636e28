use Rattle.std.proofs.Common.{◌≡◌, ◌∙◌, ap, unwrap_or}
use Rattle.low_emit.specs.Texts.{place_from}
use Rattle.text_table.proofs.Places.{found}
use Rattle.text_table.proofs.table.TextTable.place.Goals as goal

pub returns-in-Some : goal.returns-in-Some
returns-in-Some c =
    let t = c.args.text.now in
    ap (λ o. unwrap_or o 0) c.in-Some.ensures.value ∙ found (λ k. k.items) t c.self.inside.places.entries 1 c.self.inside.end c.self.invariant ∙ ap (place_from 1 t) c.self.view_is

pub returns-in-None : goal.returns-in-None
returns-in-None c =
    let t = c.args.text.now in
    ap (λ o. unwrap_or o 0) c.in-None.ensures.value ∙ found (λ k. k.items) t c.self.inside.places.entries 1 c.self.inside.end c.self.invariant ∙ ap (place_from 1 t) c.self.view_is
