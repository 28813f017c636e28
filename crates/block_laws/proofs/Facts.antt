-- What a list is made of is what is asked of lists in the order of evaluation.
use Rattle.std.proofs.Common.{◌≡◌, inl, inr, ℕ, zero, suc, ◌<◌, List, [], ◌∷◌, ◌++◌, Some, refl, sym, ap, ◌∙◌, subst, arith}
use Rattle.mo_types.specs.declared.node.TypeId.{TypeId}
use Rattle.typed_tree.specs.Wants.{Want}
use Rattle.typing_rules.specs.AbstractSyntax.{Bytes}
use Rattle.typing_rules.specs.Contexts.{Bound, Scope}
use Rattle.list_laws.specs.Facts.{Fact, Evaluates, IsFunction, Other, FunctionBefore, scope_at, nth}
use Rattle.block_laws.specs.Lists.{behind}
use Rattle.block_laws.proofs.Naming.{IsBoundIn, AllBoundIn}

-- ---- places in a list of facts

abbrev pub scope_of : Fact → Scope
scope_of (Evaluates xs s) = s
scope_of _ = []

abbrev pub dropped : ℕ → List Fact → List Fact
dropped zero facts = facts
dropped (suc n) [] = []
dropped (suc n) (x ∷ facts) = dropped n facts

pub nth_dropped : (n : ℕ) (facts : List Fact) (x : Fact) (xs : List Fact) → dropped n facts ≡ x ∷ xs → (nth n facts ≡ Some x) × (dropped (suc n) facts ≡ xs)
nth_dropped zero [] x xs h = cc
nth_dropped zero (y ∷ ys) x xs h = (cc, cc)
nth_dropped (suc n) [] x xs h = cc
nth_dropped (suc n) (y ∷ ys) x xs h = nth_dropped n ys x xs h

pub scope_first : (x : Fact) (n : ℕ) (facts : List Fact) (base : Scope) → scope_at (suc n) (x ∷ facts) base ≡ scope_at n facts (scope_of x ++ base)
scope_first (Evaluates xs s) n facts base = refl
scope_first (IsFunction x p b w) n facts base = refl
scope_first Other n facts base = refl

-- behind the n-th
pub scope_next : (n : ℕ) (facts : List Fact) (base : Scope) (x : Fact) → nth n facts ≡ Some x → scope_at (suc n) facts base ≡ scope_of x ++ scope_at n facts base
scope_next n [] base x h = cc
scope_next zero (y ∷ ys) base x h = let e : y ≡ x = cc in scope_first y zero ys base ∙ ap (λ z. scope_of z ++ base) e
scope_next (suc n) (y ∷ ys) base x h = scope_first y (suc n) ys base ∙ (scope_next n ys (scope_of y ++ base) x h ∙ ap (λ z. scope_of x ++ z) (sym (scope_first y n ys base)))

pub bound_at : (n : ℕ) (facts : List Fact) (base : Scope) (x : Fact) → nth n facts ≡ Some x → AllBoundIn base facts → IsBoundIn base x
bound_at n [] base x e h = cc
bound_at zero (y ∷ ys) base x e h = let i : y ≡ x = cc in subst (λ z. IsBoundIn base z) i h.0
bound_at (suc n) (y ∷ ys) base x e h = bound_at n ys base x e h.1

below_next : (p : ℕ) → p < suc p
below_next p = omega (arith)

further : (k : ℕ) (y : Bytes) (x : Fact) (facts : List Fact) → FunctionBefore k y facts → FunctionBefore k y (x ∷ facts)
further k y (Evaluates xs s) facts h = h
further k y (IsFunction x p b w) facts h = inr h
further k y Other facts h = h

pub function_at : (n : ℕ) (facts : List Fact) (x : Bytes) (p : ℕ) (b : Bound) (w : Want TypeId) → nth n facts ≡ Some (IsFunction x p b w) → FunctionBefore (suc p) x facts
function_at n [] x p b w e = cc
function_at zero (y ∷ ys) x p b w e = let i : y ≡ IsFunction x p b w = cc in subst (λ z. FunctionBefore (suc p) x (z ∷ ys)) (sym i) (inl (refl, below_next p))
function_at (suc n) (y ∷ ys) x p b w e = further (suc p) x y ys (function_at n ys x p b w e)
