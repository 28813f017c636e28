-- Names of lists whose names differ: what they are bound to.
use Rattle.std.proofs.Common.{◌≡◌, ◌≢◌, ◌⊎◌, inl, inr, ℕ, zero, suc, List, [], ◌∷◌, ◌++◌, length, refl, sym, ◌∙◌}
use Rattle.mo_scopes.specs.Scopes.{named}
use Rattle.subtype_laws.specs.Reached.{Among}
use Rattle.typed_tree.specs.OperationTypes.{Distinct}
use Rattle.typing_rules.specs.AbstractSyntax.{Bytes}
use Rattle.typing_rules.specs.Contexts.{Scope}
use Rattle.desugaring_laws.proofs.Graph.{among_each}
use Rattle.expression_laws.proofs.Forms.{in_right}
use Rattle.list_laws.specs.Facts.{Fact, Evaluates, IsFunction, Other, scope_at, DefinedBefore, FunctionBefore}
use Rattle.block_laws.specs.Order.{Reaches}

pub differ_apart : (xs ys : List Bytes) → Distinct (xs ++ ys) → (y : Bytes) → Among y xs → Among y ys → ⊥
differ_apart [] ys h y m n = absurd m
differ_apart (x ∷ xs) ys h y (inl e) n = among_each (λ z. x ≢ z) (xs ++ ys) y h.0 (in_right xs ys y n) e
differ_apart (x ∷ xs) ys h y (inr m) n = differ_apart xs ys h.1 y m n

pub differ_behind : (xs ys : List Bytes) → Distinct (xs ++ ys) → Distinct ys
differ_behind [] ys h = h
differ_behind (x ∷ xs) ys h = differ_behind xs ys h.1

-- ---- names of facts

abbrev pub evaluated_names : Fact → List Bytes
evaluated_names (Evaluates xs s) = xs
evaluated_names _ = []

abbrev pub function_names : Fact → List Bytes
function_names (IsFunction x p b w) = x ∷ []
function_names _ = []

abbrev pub Defined : Bytes → List Fact → Type 0
Defined y [] = ⊥
Defined y (x ∷ facts) = Among y (evaluated_names x) ⊎ Defined y facts

-- it binds no other names
abbrev pub BindsOnly : Fact → Type 0
BindsOnly (Evaluates xs s) = (y : Bytes) → (Among y xs → ⊥) → (u : Scope) → named (s ++ u) y ≡ named u y
BindsOnly _ = Unit {0}

abbrev pub AllBindOnly : List Fact → Type 0
AllBindOnly [] = Unit {0}
AllBindOnly (x ∷ facts) = BindsOnly x × AllBindOnly facts

-- none is defined twice
abbrev pub AreApart : List Fact → Type 0
AreApart [] = Unit {0}
AreApart (x ∷ facts) = ((y : Bytes) → Among y (evaluated_names x) → Defined y facts → ⊥) × AreApart facts

-- a name that is not defined is bound as it is outside
pub kept : (y : Bytes) (facts : List Fact) → AllBindOnly facts → (Defined y facts → ⊥) → (n : ℕ) (base : Scope) → named (scope_at n facts base) y ≡ named base y
kept y facts o h zero base = refl
kept y [] o h (suc n) base = refl
kept y (Evaluates xs s ∷ facts) o h (suc n) base = kept y facts o.1 (λ m. h (inr m)) n (s ++ base) ∙ o.0 y (λ m. h (inl m)) base
kept y (IsFunction x p b w ∷ facts) o h (suc n) base = kept y facts o.1 (λ m. h (inr m)) n base
kept y (Other ∷ facts) o h (suc n) base = kept y facts o.1 (λ m. h (inr m)) n base

-- one that is defined by the first n stays bound so
settled : (y : Bytes) (facts : List Fact) → AllBindOnly facts → AreApart facts → (n : ℕ) → DefinedBefore n y facts → (base : Scope) → named (scope_at (length facts) facts base) y ≡ named (scope_at n facts base) y
settled y facts o a zero d base = absurd d
settled y [] o a (suc n) d base = absurd d
settled y (Evaluates xs s ∷ facts) o a (suc n) (inl m) base = kept y facts o.1 (a.0 y m) (length facts) (s ++ base) ∙ sym (kept y facts o.1 (a.0 y m) n (s ++ base))
settled y (Evaluates xs s ∷ facts) o a (suc n) (inr d) base = settled y facts o.1 a.1 n d (s ++ base)
settled y (IsFunction x p b w ∷ facts) o a (suc n) d base = settled y facts o.1 a.1 n d base
settled y (Other ∷ facts) o a (suc n) d base = settled y facts o.1 a.1 n d base

-- A name that stands at some stage is bound so at the end of the list.
pub bound_to_end : (outer : List Bytes) (facts : List Fact) → AllBindOnly facts → AreApart facts → ((y : Bytes) → Among y outer → Defined y facts → ⊥) → ((k : ℕ) (y : Bytes) → FunctionBefore k y facts → Defined y facts → ⊥)
    → (k n : ℕ) (y : Bytes) → Reaches outer facts k n y → (base : Scope) → named (scope_at (length facts) facts base) y ≡ named (scope_at n facts base) y
bound_to_end outer facts o a h g k n y (inl m) base = kept y facts o (h y m) (length facts) base ∙ sym (kept y facts o (h y m) n base)
bound_to_end outer facts o a h g k n y (inr (inl d)) base = settled y facts o a n d base
bound_to_end outer facts o a h g k n y (inr (inr f)) base = kept y facts o (g k y f) (length facts) base ∙ sym (kept y facts o (g k y f) n base)

pub split_function : (k : ℕ) (y : Bytes) (x : Fact) (facts : List Fact) → FunctionBefore k y (x ∷ facts) → Among y (function_names x) ⊎ FunctionBefore k y facts
split_function k y (Evaluates xs s) facts f = inr f
split_function k y (IsFunction x p b w) facts (inl e) = inl (inl (sym e.0))
split_function k y (IsFunction x p b w) facts (inr f) = inr f
split_function k y Other facts f = inr f

pub not_both : (y : Bytes) (x : Fact) → Among y (evaluated_names x) → Among y (function_names x) → ⊥
not_both y (Evaluates xs s) m n = n
not_both y (IsFunction x p b w) m n = m
not_both y Other m n = m
