use Rattle.std.proofs.Common.{suc, List, drop, length, sym, ap, ◌∙◌, add-one, arith}
use Rattle.mo_types.specs.declared.datum.Datum.{Datum}
use Rattle.arena_coding.proofs.Parts.{behind, one_below, parts_at, parts_end, parts_none, parts_on, parts_over}
use Rattle.arena_coding.proofs.listing.all_parts.Goals.{then-place-ids+in_ok-more+in-Some+in_ok-append-in-Some, else-place-ids}
use Rattle.arena_coding.proofs.listing.all_parts.Goals as goal

pub plain-requires : goal.plain-requires
plain-requires c = one_below (length c.args.arena.now) c.loop-place.place (record { index = 0 }) c.args.values.now c.requires c.loop-place-test.true

pub returns-in-None : goal.returns-in-None
returns-in-None c = λ groups.
    parts_none c.args.types.now c.args.arena.now groups c.args.ids.now c.args.values.now c.loop-place.place (record { index = 0 }) (record { index = 0 }) c.loop-place-test.true c.loop-place.parts.items c.if-place-ids.true
    ((rw c.in-None.is at c.in_ok-more.ensures) groups)
    ∙ sym (c.loop-place.invariant groups)

pub loop-place-preserved : goal.loop-place-preserved
loop-place-preserved c =
    rw add-one
    (elim c.if-place-ids.branch [
      | then-place-ids+in_ok-more+in-Some+in_ok-append-in-Some w ↦ λ groups.
          c.loop-place.invariant groups
          ∙ parts_on c.args.types.now c.args.arena.now groups c.args.ids.now c.args.values.now c.loop-place.place (record { index = 0 }) (record { index = 0 }) c.loop-place-test.true c.loop-place.parts.items w.in-Some.more.items
          w.if-place-ids.true ((rw w.in-Some.is at w.in_ok-more.ensures) groups)
          ∙ ap (λ (ps : List Datum). behind ps (parts_at c.args.types.now c.args.arena.now groups (drop (suc c.loop-place.place) c.args.ids.now) (drop (suc c.loop-place.place) c.args.values.now)))
          (sym (ap (λ x. x.items) w.parts-is ∙ w.in_ok-append-in-Some.ensures.items))
      | else-place-ids w ↦ λ groups.
          c.loop-place.invariant groups
          ∙ ap (behind c.loop-place.parts.items)
          (parts_over c.args.types.now c.args.arena.now groups c.args.ids.now c.args.values.now c.loop-place.place (record { index = 0 }) (record { index = 0 }) c.loop-place-test.true (omega (arith, w.if-place-ids.false)))
          ∙ ap (λ (ps : List Datum). behind ps (parts_at c.args.types.now c.args.arena.now groups (drop (suc c.loop-place.place) c.args.ids.now) (drop (suc c.loop-place.place) c.args.values.now)))
          (sym (ap (λ x. x.items) w.parts-is))
    ])

pub returns : goal.returns
returns c = λ groups.
    parts_end c.args.types.now c.args.arena.now groups c.args.ids.now c.args.values.now c.loop-place.place c.loop-place.parts.items (omega (arith, c.loop-place-test.false)) ∙ sym (c.loop-place.invariant groups)
