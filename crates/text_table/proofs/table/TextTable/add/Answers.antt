use Rattle.std.proofs.Common.{◌≡◌, ◌∙◌, ap, sym, subst, map}
use Rattle.low_emit.specs.Texts.{with_text}
use Rattle.text_table.specs.Placed.{ArePlaced}
use Rattle.text_table.proofs.Places.{stays, grown, placed, seen_as}
use Rattle.text_table.proofs.table.TextTable.add.Goals as goal

pub returns-then-contains_key : goal.returns-then-contains_key
returns-then-contains_key c =
    let t = c.args.text.now in
    sym c.self.view_is ∙ stays (λ k. k.items) t c.self.inside.places.entries (sym c.contains_key.ensures ∙ c.if-contains_key.true) ∙ ap (with_text t) c.self.view_is

pub invariant_of-self-2 : goal.invariant_of-self-2
invariant_of-self-2 c =
    let t = c.args.text.now in
    subst (λ es. ArePlaced 1 (seen_as (λ k. k.items) es) c.in-Some.end) (sym c.in_ok-insert.ensures.entries)
    (placed (λ k. k.items) t c.self.inside.places.entries c.in_ok-key.key c.self.inside.end c.in-Some.end c.in_ok-key.ensures.items (sym c.contains_key.ensures ∙ c.if-contains_key.false) c.self.invariant c.in-Some.ensures)

pub returns : goal.returns
returns c =
    let t = c.args.text.now in
    ap (λ es. map (λ e. e.0.items) es) c.in_ok-insert.ensures.entries
    ∙ grown (λ k. k.items) t c.self.inside.places.entries c.in_ok-key.key c.self.inside.end c.in_ok-key.ensures.items (sym c.contains_key.ensures ∙ c.if-contains_key.false)
    ∙ ap (with_text t) c.self.view_is
