use Rattle.std.proofs.Common.{List, subst}
use Rattle.std.proofs.lemmas.Result.{IfOk-weaker}
use Rattle.mo_types.specs.declared.datum.Datum.{Datum}
use Rattle.arena_keeping.specs.Taking.{value_wanted, IsTakenOver}
use Rattle.arena_keeping.proofs.Values.{is_kept, not_kept}
use Rattle.arena_keeping.proofs.taking.kept_at.Goals as goal

pub returns-in-Some : goal.returns-in-Some
returns-in-Some c =
    IfOk-weaker c.value_at.result _ _
    (λ t h.
    let Of : List Datum → Type 0 = λ ps. IsTakenOver c.args.arena.now (value_wanted c.args.new.now c.args.to ps) t c.value_at.new.arena in
    is_kept c.args.old.now c.args.new.now c.args.from c.args.to c.args.parts.now c.in-Some.kept.items c.args.arena.now c.value_at.new.arena t (rw c.in-Some.is at c.in_ok-kept.ensures) (subst Of c.as_slice.ensures.value h))
    c.value_at.ensures

pub returns-in-None : goal.returns-in-None
returns-in-None c = not_kept c.args.old.now c.args.new.now c.args.from c.args.to c.args.parts.now c.args.arena.now (rw c.in-None.is at c.in_ok-kept.ensures)
