use Rattle.std.proofs.Common.{arith, rules, ◌≡◌, ◌∙◌, ap, take, length, List, ℕ, subst, sym}
use Rattle.page_store.specs.Pages.{AreMarked, LinearMemory}
use Rattle.page_store.proofs.MarkLemmas.{cut_marked, take_own}
use Rattle.page_store.proofs.pages.Pages.copy_marked.Goals as goal

pub copy_marked_pages-requires-clause-marked : goal.copy_marked_pages-requires-clause-marked
copy_marked_pages-requires-clause-marked c =
    let from : c.as_slice.result.now ≡ c.args.other.now.bytes = search rules in
    let to : c.as_mut_slice.result.now ≡ take c.len-shared.result c.args.self.now.bytes =
    c.as_mut_slice.ensures.value ∙ c.truncate.ensures.items ∙ take_own c.len.result c.len-shared.result c.self.inside.bytes.items (omega (arith, ap length c.as_mut_slice.ensures.value, ap length c.truncate.ensures.items))
    ∙ ap (λ (m : LinearMemory). take c.len-shared.result m.bytes) c.self.view_is in
    rw (from, to) (cut_marked c.args.marks.now c.args.other.now.bytes c.args.self.now.bytes c.len-shared.result c.requires.marked (omega arith))
