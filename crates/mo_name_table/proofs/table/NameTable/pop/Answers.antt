use Rattle.std.proofs.Common.{◌≡◌, ◌∙◌, ap, length, rules}
use Rattle.mo_name_table.specs.Places.{place_at, texts}
use Rattle.mo_name_table.proofs.Finding.{popped, roomy, hid, texts_more}
use Rattle.mo_name_table.proofs.table.NameTable.pop.Goals as goal

pub keep-requires : goal.keep-requires
keep-requires c = roomy _ (texts c.self.inside.names.items) (texts c.pop-2.new.self.items) _ (c.self.invariant.0 _) (ap texts c.in-Some.ensures.items ∙ texts_more c.pop-2.new.self.items _)

pub invariant_of-self : goal.invariant_of-self
invariant_of-self c =
    let kept = rw (c.in-Some.ensures.items, texts_more c.pop-2.new.self.items _) at c.self.invariant in
    let n : c.self.inside.hidden.len ≡ length c.self.inside.hidden.items = search rules in
    popped (place_at c.self.inside.places) (place_at c.keep.new.places) c.self.inside.hidden.items c.pop.new.self.items (texts c.pop-2.new.self.items) _ c.unwrap_or-uncovered.result kept
    (hid (place_at c.self.inside.places) c.self.inside.hidden.items c.pop.new.self.items (texts c.pop-2.new.self.items) _ c.pop.result c.unwrap_or-uncovered.result c.self.inside.hidden.len kept
    c.pop.ensures.items c.pop.ensures.variant n c.unwrap_or-uncovered.ensures) c.keep.ensures
