use Rattle.std.proofs.Common.{◌≡◌, ◌∙◌, ap, refl, sym, subst, true, false, nat_eq, ◌++◌, ◌∷◌, []}
use Rattle.std.specs.List.{list_any}
use Rattle.mo_types.specs.Header.{IsSimple, parts_of}
use Rattle.candid_types.specs.Shapes.{or_empty}
use Rattle.candid_write.specs.Classes.{class_at}
use Rattle.candid_write.proofs.VisitLemmas.{skips, olds, news, on_ok}
use Rattle.candid_write.proofs.places.step.Goals as goal

pub returns-in-None : goal.returns-in-None
returns-in-None c = skips c.args.number c.args.table.now c.args.todo.now.items c.requires (subst IsSimple (ap or_empty c.in-None.ensures) tt)

pub returns-then-is_simple : goal.returns-then-is_simple
returns-then-is_simple c = skips c.args.number c.args.table.now c.args.todo.now.items c.requires (subst IsSimple (ap or_empty c.in-Some.ensures) (c.if-is_simple.ensures.yes refl))

pub returns-then-contains : goal.returns-then-contains
returns-then-contains c = olds c.args.number c.args.table.now c.args.todo.now.items c.requires
    (subst (λ k. list_any (nat_eq k) c.args.table.now.seen.keys ≡ true) (c.class_at-class.ensures ∙ ap (λ l. class_at l c.args.number) c.as_slice.ensures.value) (sym c.if-contains.ensures))

pub returns : goal.returns
returns c =
    let k = c.class_at-class.ensures ∙ ap (λ l. class_at l c.args.number) c.as_slice.ensures.value in
    on_ok c.put_types.result c.put_types.ensures (λ e. news c.args.number c.args.table.now c.add.new.table c.args.todo.now.items c.put_types.new.todo.items c.as_slice-2.result.now c.requires
    (λ s. c.if-is_simple.ensures.no refl (subst IsSimple (sym (ap or_empty c.in-Some.ensures)) s)) (c.as_slice-2.ensures.value ∙ c.in_ok-parts.ensures ∙ ap (λ o. parts_of (or_empty o)) c.in-Some.ensures)
    (subst (λ k. list_any (nat_eq k) c.args.table.now.seen.keys ≡ false) k (sym c.if-contains.ensures)) c.add.ensures.shapes c.add.ensures.classes c.in_ok-add.ensures.order
    (c.in_ok-add.ensures.seen ∙ ap (λ z. c.args.table.now.seen.keys ++ z ∷ []) k) e)
