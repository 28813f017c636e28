use Rattle.std.proofs.Common.{◌≡◌, ◌∙◌, ap, sym, subst, length, rules, List, ℕ, [], ◌∷◌, ◌++◌}
use Rattle.mo_name_table.specs.Places.{place_at, Kept}
use Rattle.mo_name_table.proofs.Finding.{popped, roomy, hid}
use Rattle.type_scopes.proofs.names.NamePlaces.pop.Goals as goal

pub keep-requires : goal.keep-requires
keep-requires c = roomy _ c.self.inside.names.items c.pop-2.new.self.items c.as_slice.result.now (c.self.invariant.0 c.as_slice.result.now)
    (c.in-Some.ensures.items ∙ ap (λ (z : List ℕ). c.pop-2.new.self.items ++ z ∷ []) (sym c.as_slice.ensures))

pub invariant_of-self : goal.invariant_of-self
invariant_of-self c =
    let e : c.self.inside.names.items ≡ c.pop-2.new.self.items ++ c.as_slice.result.now ∷ [] =
    c.in-Some.ensures.items ∙ ap (λ (z : List ℕ). c.pop-2.new.self.items ++ z ∷ []) (sym c.as_slice.ensures) in
    let kept = subst (λ (l : List (List ℕ)). Kept (place_at c.self.inside.places) c.self.inside.hidden.items l) e c.self.invariant in
    let n : c.self.inside.hidden.len ≡ length c.self.inside.hidden.items = search rules in
    popped (place_at c.self.inside.places) (place_at c.keep.new.places) c.self.inside.hidden.items c.pop.new.self.items c.pop-2.new.self.items c.as_slice.result.now c.unwrap_or-uncovered.result kept
    (hid (place_at c.self.inside.places) c.self.inside.hidden.items c.pop.new.self.items c.pop-2.new.self.items c.as_slice.result.now c.pop.result c.unwrap_or-uncovered.result c.self.inside.hidden.len kept
    c.pop.ensures.items c.pop.ensures.variant n c.unwrap_or-uncovered.ensures) c.keep.ensures
