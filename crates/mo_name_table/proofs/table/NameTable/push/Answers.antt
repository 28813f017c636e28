use Rattle.std.proofs.Common.{◌≡◌, ℕ, ◌∙◌, ap, sym, cond, Option, Some, length, rules}
use Rattle.std.specs.Str.{bytes_eq}
use Rattle.std.proofs.lemmas.List.{length-map}
use Rattle.mo_syntax.specs.declared.name.Name.{Name}
use Rattle.mo_name_table.specs.Places.{place_at, texts}
use Rattle.mo_name_table.proofs.Finding.{pushed, at_end, texts_more}
use Rattle.mo_name_table.proofs.table.NameTable.push.Goals as goal

pub invariant_of-self-2 : goal.invariant_of-self-2
invariant_of-self-2 c =
    let n : c.len-place.result ≡ length c.self.inside.names.items = search rules in
    let i : c.index.result.now ≡ c.args.name = at_end c.self.inside.names.items _ c.args.name c.index.result.now c.len-place.result c.in_ok-push_both.ensures.names n c.index.ensures in
    let m : c.len-place.result ≡ length (texts c.self.inside.names.items) = n ∙ sym (length-map c.self.inside.names.items (λ x. x.bytes)) in
    rw (c.in_ok-push_both.ensures.names, texts_more c.self.inside.names.items c.args.name, c.in_ok-push_both.ensures.hidden)
    (pushed (place_at c.self.inside.places) (place_at c.keep.new.places) c.self.inside.hidden.items (texts c.self.inside.names.items) c.args.name.bytes c.place_of-covered.result c.self.invariant c.place_of-covered.ensures
    (λ y. c.keep.ensures y ∙ (ap (λ (z : Name). cond (bytes_eq z.bytes y) (Some c.len-place.result) (place_at c.make_room.new.places y)) i
    ∙ (ap (λ (k : ℕ). cond (bytes_eq c.args.name.bytes y) (Some k) (place_at c.make_room.new.places y)) m
    ∙ ap (λ (l : Option ℕ). cond (bytes_eq c.args.name.bytes y) (Some (length (texts c.self.inside.names.items))) l) (c.make_room.ensures.stay y)))))
