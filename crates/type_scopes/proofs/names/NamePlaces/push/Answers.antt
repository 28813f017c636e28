use Rattle.std.proofs.Common.{◌≡◌, ℕ, ◌∙◌, ap, cond, Option, Some, length, rules}
use Rattle.std.specs.Str.{bytes_eq}
use Rattle.mo_name_table.specs.Places.{place_at}
use Rattle.mo_name_table.proofs.Finding.{pushed}
use Rattle.type_scopes.proofs.names.NamePlaces.push.Goals as goal

pub invariant_of-self-2 : goal.invariant_of-self-2
invariant_of-self-2 c =
    let n : c.len-place.result ≡ length c.self.inside.names.items = search rules in
    rw (c.in_ok-push_both.ensures.names, c.in_ok-push_both.ensures.hidden, c.in_ok-copy.ensures)
    (pushed (place_at c.self.inside.places) (place_at c.keep.new.places) c.self.inside.hidden.items c.self.inside.names.items c.args.name.now c.place_of-covered.result c.self.invariant c.place_of-covered.ensures
    (λ y. c.keep.ensures y
    ∙ (ap (λ (k : ℕ). cond (bytes_eq c.args.name.now y) (Some k) (place_at c.make_room.new.places y)) n
    ∙ ap (λ (l : Option ℕ). cond (bytes_eq c.args.name.now y) (Some (length c.self.inside.names.items)) l) (c.make_room.ensures.stay y))))
