use Rattle.std.proofs.Common.{arith, rules, ap, ◌∙◌, ◌≡◌, ◌+◌, ◌++◌, subst, sym, List, Bool, ℕ, length}
use Rattle.page_store.specs.Pages.{AreMarked, LinearMemory, HasMarked, zero_pages}
use Rattle.page_store.proofs.MarkLemmas.{all_marks, grown_marked}
use Rattle.page_store.proofs.kept_pages.KeptPages.grow.Goals as goal

pub invariant_of-self-2 : goal.invariant_of-self-2
invariant_of-self-2 c =
    let first = c.size-first.result in
    let more : HasMarked first (first + c.args.by) c.self.inside.marks.items c.mark.new.marks = subst (λ (l : List Bool). HasMarked first (first + c.args.by) l c.mark.new.marks) c.as_mut_slice.ensures.value c.mark.ensures in
    let marked = grown_marked first c.args.by c.self.inside.live.bytes c.self.inside.kept.bytes c.self.inside.marks.items c.mark.new.marks c.self.invariant.2 more (omega arith) in
    let longer : c.grow.new.self.bytes ≡ c.self.inside.live.bytes ++ zero_pages c.args.by = ap (λ (m : LinearMemory). m.bytes) c.in_ok-size.ensures.grown in (
      search rules,
      search rules,
      rw (all_marks c.self.inside.marks.len c.self.inside.marks.items c.mark.new.marks (search rules) (search rules), longer) marked,
    )
