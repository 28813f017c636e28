use Rattle.std.proofs.Common.{arith, rules, ap, ◌∙◌, ◌≡◌, ◌+◌, ◌≤◌, ◌/◌, ◌-◌, subst, sym, List, Bool, ℕ, length}
use Rattle.std.proofs.lemmas.Bool.Decides.{nat_tests}
use Rattle.page_store.specs.Pages.{AreMarked, LinearMemory, HasMarked, page_bytes, overwritten}
use Rattle.page_store.proofs.MarkLemmas.{all_marks, written_marked}
use Rattle.page_store.proofs.kept_pages.KeptPages.write.Goals as goal

pub invariant_of-self-2 : goal.invariant_of-self-2
invariant_of-self-2 c =
    let more : HasMarked (c.args.place / page_bytes) c.div_ceil.result c.self.inside.marks.items c.mark.new.marks = subst (λ (l : List Bool). HasMarked (c.args.place / page_bytes) c.div_ceil.result l c.mark.new.marks) c.as_mut_slice.ensures.value c.mark.ensures in
    let within : c.args.place + length c.args.these.now ≤ length c.self.inside.live.bytes = (let inside = c.if-not-write.ensures.inside in grind (arith, nat_tests)) in
    let marked = written_marked (c.args.place / page_bytes) c.div_ceil.result c.args.place c.args.these.now c.self.inside.live.bytes c.self.inside.kept.bytes c.self.inside.marks.items c.mark.new.marks c.self.invariant.2 more within (omega arith) (omega arith) in
    let written : c.write.new.self.bytes ≡ overwritten c.args.place c.args.these.now c.self.inside.live.bytes = ap (λ (m : LinearMemory). m.bytes) c.if-not-write.ensures.written in (
      search rules,
      search rules,
      rw (all_marks c.self.inside.marks.len c.self.inside.marks.items c.mark.new.marks (search rules) (search rules), written) marked,
    )
