use Rattle.std.proofs.Common.{arith, rules, ap, ◌∙◌, ◌≡◌, subst, sym, List, Bool, ℕ, length}
use Rattle.page_store.specs.Pages.{AreMarked, LinearMemory, HasMarked}
use Rattle.page_store.proofs.MarkLemmas.{all_marks, cleared_marked}
use Rattle.page_store.proofs.kept_pages.KeptPages.clear.Goals as goal

pub invariant_of-self : goal.invariant_of-self
invariant_of-self c =
    let more : HasMarked 0 c.size-end.result c.self.inside.marks.items c.mark.new.marks = subst (λ (l : List Bool). HasMarked 0 c.size-end.result l c.mark.new.marks) c.as_mut_slice.ensures.value c.mark.ensures in
    let marked = cleared_marked c.size-end.result c.self.inside.live.bytes c.self.inside.kept.bytes c.self.inside.marks.items c.mark.new.marks c.self.invariant.2 more (omega arith) in
    let none : c.clear.new.self.bytes ≡ _ = ap (λ (m : LinearMemory). m.bytes) c.clear.ensures in (
      search rules,
      search rules,
      rw (all_marks c.self.inside.marks.len c.self.inside.marks.items c.mark.new.marks (search rules) (search rules), none) marked,
    )
