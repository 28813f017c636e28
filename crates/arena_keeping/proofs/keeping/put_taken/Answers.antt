use Rattle.std.proofs.Common.{refl, sym, subst}
use Rattle.arena_keeping.specs.declared.taken.Taken.{Taken}
use Rattle.arena_keeping.specs.Keeping.{IsPut}
use Rattle.std.proofs.Common.{true, false}
use Rattle.arena_keeping.proofs.keeping.put_taken.Goals as goal

pub returns-in_ok-push-in-Fresh : goal.returns-in_ok-push-in-Fresh
returns-in_ok-push-in-Fresh c = let Of : Taken → Type 0 = λ t. IsPut t true c.args.found.now.items c.push.new.self.items in subst Of (sym c.in-Fresh.is) (refl, c.in_ok-push-in-Fresh.ensures.items)

pub returns-in_ok-push-in-Kept : goal.returns-in_ok-push-in-Kept
returns-in_ok-push-in-Kept c = let Of : Taken → Type 0 = λ t. IsPut t true c.args.found.now.items c.push-in-Kept.new.self.items in subst Of (sym c.in-Kept.is) (refl, c.in_ok-push-in-Kept.ensures.items)

pub returns-in-Incompatible : goal.returns-in-Incompatible
returns-in-Incompatible c = let Of : Taken → Type 0 = λ t. IsPut t false c.args.found.now.items c.args.found.now.items in subst Of (sym c.in-Incompatible.is) refl
