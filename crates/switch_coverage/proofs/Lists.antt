-- Lists to which one is added.
use Rattle.std.proofs.Common.{◌≡◌, List, [], ◌∷◌, ◌++◌, map, Result, Ok, Err, IfOk, refl, ap}
use Rattle.mo_coverage.specs.Shapes.{known}
use Rattle.switch_coverage.specs.declared.uncovered.Uncovered.{Uncovered}
use Rattle.switch_coverage.specs.declared.walk.Found.{Found}
use Rattle.switch_coverage.specs.Found.{switch_in, switches_in}
use Rattle.switch_coverage.specs.Uncovered.{missing, all_missing}

pub one_more : {A B : Type 0} (f : A → B) (xs : List A) (x : A) → map f (xs ++ x ∷ []) ≡ map f xs ++ f x ∷ []
one_more f [] x = refl
one_more f (y ∷ ys) x = ap (λ z. f y ∷ z) (one_more f ys x)

pub one_found : (fs : List Found) (f : Found) → switches_in (fs ++ f ∷ []) ≡ switches_in fs ++ switch_in f ∷ []
one_found fs f = one_more switch_in fs f

pub one_missing : (us : List Uncovered) (u : Uncovered) → all_missing (us ++ u ∷ []) ≡ all_missing us ++ missing u.token u.of_type (known u.missed) ∷ []
one_missing us u = one_more (λ (u : Uncovered). missing u.token u.of_type (known u.missed)) us u

-- two facts of what is given come to a third
pub ok_both : {A E : Type 0} (r : Result A E) (P Q R : A → Type 0) → IfOk r P → IfOk r Q → ((a : A) → P a → Q a → R a) → IfOk r R
ok_both (Ok a) P Q R p q f = f a p q
ok_both (Err e) P Q R p q f = tt
