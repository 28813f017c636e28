use Rattle.std.proofs.Common.{◌≡◌, length, refl, ap, ◌∙◌, sym, arith}
use Rattle.page_store.specs.Pages.{LinearMemory, page_at}
use Rattle.page_store.proofs.PageLemmas.{differing_pages-none, differing_pages-same, differing_pages-other, differing_pages-le, changed_pages-is}
use Rattle.page_store.proofs.committed.Committed.changed.Goals as goal
use Rattle.page_store.proofs.committed.Committed.changed.Goals.{then-not-is_same_page, else-not-is_same_page}

pub loop-page-init : goal.loop-page-init
loop-page-init c = omega (arith, differing_pages-none c.args.self.now.bytes c.args.now.now.bytes)

pub overflow_add-count : goal.overflow_add-count
overflow_add-count c = omega (arith, differing_pages-le c.args.self.now.bytes c.args.now.now.bytes c.loop-page.page)

pub loop-page-preserved : goal.loop-page-preserved
loop-page-preserved c =
    let old = c.args.self.now.bytes in
    let new = c.args.now.now.bytes in
    let page = c.loop-page.page in
    let was : page_at c.bytes.result.now page ≡ page_at old page = ap (λ bytes. page_at bytes page) (c.bytes.ensures.value ∙ ap (λ (m : LinearMemory). m.bytes) c.self.view_is) in
    let is : page_at c.bytes-in-loop-page.result.now page ≡ page_at new page = ap (λ bytes. page_at bytes page) c.bytes-in-loop-page.ensures.value in
    elim c.if-not-is_same_page.branch [
      | then-not-is_same_page w ↦
          (let other : page_at old page ≡ page_at new page → ⊥ = λ (same : page_at old page ≡ page_at new page). cc (w.if-not-is_same_page.ensures.1 (was ∙ same ∙ sym is)) in
          omega (arith, differing_pages-other old new page other))
      | else-not-is_same_page w ↦
          (let same : page_at old page ≡ page_at new page = sym was ∙ w.if-not-is_same_page.ensures.0 refl ∙ is in
          omega (arith, differing_pages-same old new page same))
    ]

pub returns : goal.returns
returns c =
    changed_pages-is c.args.self.now c.args.now.now c.size-kept.result c.size-live.result c.loop-page.page c.loop-page.count
    (c.size-kept.ensures.whole ∙ ap (λ (m : LinearMemory). length m.bytes) c.self.view_is) c.size-live.ensures.whole
    (omega arith) (rw (← c.max.ensures, ← c.min-shared.ensures) c.loop-page.invariant)
