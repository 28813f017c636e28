-- The names of a list, as its facts have them.
use Rattle.std.proofs.Common.{◌≡◌, ◌⊎◌, inl, inr, ℕ, List, [], ◌∷◌, ◌++◌, Some, refl, sym, ap, ◌∙◌, subst}
use Rattle.std.proofs.lemmas.Slice.Eq.{bytes_eq-Decides}
use Rattle.std.specs.Prelude.{cond}
use Rattle.mo_scopes.specs.Scopes.{named}
use Rattle.mo_types.specs.declared.node.TypeId.{TypeId}
use Rattle.mo_types.specs.Graph.{Slot}
use Rattle.subtype_laws.specs.Reached.{Among}
use Rattle.typed_tree.specs.OperationTypes.{Distinct}
use Rattle.typed_tree.specs.Placing.{Declared}
use Rattle.typing_rules.specs.AbstractSyntax.{Bytes, Declaration, Declarations}
use Rattle.typing_rules.specs.AbstractSyntax as p
use Rattle.typing_rules.specs.Contexts.{Bound, Scope, constant, generic}
use Rattle.typing_rules.specs.DeclaredTypes.{function_term, class_term}
use Rattle.typing_rules.specs.Lists.{Entry as Given}
use Rattle.typing_rules.specs.Terms.{Term}
use Rattle.typing_rules.specs.TypedTrees.{Note}
use Rattle.typing_rules.specs.TypeScopes.{TypeScope}
use Rattle.desugaring.specs.FreeNames.{names_of, names_of_list, declared}
use Rattle.expression_laws.proofs.Forms.{in_left, in_right}
use Rattle.list_laws.specs.Facts.{Fact, IsFunction, FunctionBefore}
use Rattle.list_laws.proofs.Reaching.{unequal}
use Rattle.declaration_laws.specs.Laws.{own_of}
use Rattle.block_laws.specs.Lists.{method_term, signed_one, signed}
use Rattle.block_laws.specs.Order.{fact_of, facts_of, first_scope, others}
use Rattle.block_laws.proofs.Keeping.{evaluated_names, function_names, Defined, AreApart, differ_apart, differ_behind, split_function, not_both}

module _ (slots : List Slot) (number : Term → TypeId) (s : TypeScope) (all : List Declared) where
  evaluated_of : (d : Declared) (x : Declaration ℕ) (z : Scope) (y : Bytes) → Among y (evaluated_names (fact_of slots number s all d x z)) → Among y (names_of x)
  evaluated_of d (p.Let q a) z y m = m
  evaluated_of d (p.Var stable x u a) z y m = m
  evaluated_of d (p.NamedObject x fields) z y m = m
  evaluated_of d (p.Func x g body) z y m = absurd m
  evaluated_of d (p.Class x g fields) z y m = absurd m
  evaluated_of d (p.Method query context x g body) z y m = absurd m
  evaluated_of d (p.System x body) z y m = absurd m
  evaluated_of d (p.TypeAlias x parameters u) z y m = absurd m
  evaluated_of d (p.Evaluate a) z y m = absurd m

  function_of : (d : Declared) (x : Declaration ℕ) (z : Scope) (y : Bytes) → Among y (function_names (fact_of slots number s all d x z)) → Among y (names_of x)
  function_of d (p.Let q a) z y m = absurd m
  function_of d (p.Var stable x u a) z y m = absurd m
  function_of d (p.NamedObject x fields) z y m = absurd m
  function_of d (p.Func x g body) z y m = m
  function_of d (p.Class x g fields) z y m = m
  function_of d (p.Method query context x g body) z y m = absurd m
  function_of d (p.System x body) z y m = absurd m
  function_of d (p.TypeAlias x parameters u) z y m = absurd m
  function_of d (p.Evaluate a) z y m = absurd m

  abbrev Facts : Declarations ℕ → Declarations Note → List Given → List Fact
  Facts = facts_of slots number s all

  -- what is defined is named by the list
  pub defined_named : (ds : Declarations ℕ) (made : Declarations Note) (given : List Given) (y : Bytes) → Defined y (Facts ds made given) → Among y (names_of_list ds)
  defined_named p.End made given y m = absurd m
  defined_named (p.Then public n d rest) p.End given y m = absurd m
  defined_named (p.Then public n d rest) (p.Then public_too k b bs) given y (inl m) = in_left (names_of d) (names_of_list rest) y (evaluated_of (declared b) d (first_scope given) y m)
  defined_named (p.Then public n d rest) (p.Then public_too k b bs) given y (inr m) = in_right (names_of d) (names_of_list rest) y (defined_named rest bs (others given) y m)

  function_named : (ds : Declarations ℕ) (made : Declarations Note) (given : List Given) (k : ℕ) (y : Bytes) → FunctionBefore k y (Facts ds made given) → Among y (names_of_list ds)
  function_named p.End made given k y m = absurd m
  function_named (p.Then public n d rest) p.End given k y m = absurd m
  function_named (p.Then public n d rest) (p.Then public_too i b bs) given k y m = by (split_function k y (fact_of slots number s all (declared b) d (first_scope given)) (Facts rest bs (others given)) m) (function_named rest bs (others given) k y) where
    by : Among y (function_names (fact_of slots number s all (declared b) d (first_scope given))) ⊎ FunctionBefore k y (Facts rest bs (others given)) → (FunctionBefore k y (Facts rest bs (others given)) → Among y (names_of_list rest))
        → Among y (names_of_list (p.Then public n d rest))
    by (inl f) next = in_left (names_of d) (names_of_list rest) y (function_of (declared b) d (first_scope given) y f)
    by (inr f) next = in_right (names_of d) (names_of_list rest) y (next f)

  pub facts_apart : (ds : Declarations ℕ) (made : Declarations Note) (given : List Given) → Distinct (names_of_list ds) → AreApart (Facts ds made given)
  facts_apart p.End made given h = tt
  facts_apart (p.Then public n d rest) p.End given h = tt
  facts_apart (p.Then public n d rest) (p.Then public_too k b bs) given h = (
    (λ y m i. differ_apart (names_of d) (names_of_list rest) h y (evaluated_of (declared b) d (first_scope given) y m) (defined_named rest bs (others given) y i)),
    facts_apart rest bs (others given) (differ_behind (names_of d) (names_of_list rest) h),
  )

  -- no function has a name that is evaluated
  pub functions_apart : (ds : Declarations ℕ) (made : Declarations Note) (given : List Given) → Distinct (names_of_list ds) → (k : ℕ) (y : Bytes) → FunctionBefore k y (Facts ds made given) → Defined y (Facts ds made given) → ⊥
  functions_apart p.End made given h k y f m = absurd m
  functions_apart (p.Then public n d rest) p.End given h k y f m = absurd m
  functions_apart (p.Then public n d rest) (p.Then public_too i b bs) given h k y f m =
      by (split_function k y (fact_of slots number s all (declared b) d (first_scope given)) (Facts rest bs (others given)) f) m (functions_apart rest bs (others given) (differ_behind (names_of d) (names_of_list rest) h) k y) where
        by : Among y (function_names (fact_of slots number s all (declared b) d (first_scope given))) ⊎ FunctionBefore k y (Facts rest bs (others given))
            → Among y (evaluated_names (fact_of slots number s all (declared b) d (first_scope given))) ⊎ Defined y (Facts rest bs (others given)) → (FunctionBefore k y (Facts rest bs (others given)) → Defined y (Facts rest bs (others given)) → ⊥) → ⊥
        by (inl g) (inl e) next = not_both y (fact_of slots number s all (declared b) d (first_scope given)) e g
        by (inl g) (inr e) next = differ_apart (names_of d) (names_of_list rest) h y (function_of (declared b) d (first_scope given) y g) (defined_named rest bs (others given) y e)
        by (inr g) (inl e) next = differ_apart (names_of d) (names_of_list rest) h y (evaluated_of (declared b) d (first_scope given) y e) (function_named rest bs (others given) k y g)
        by (inr g) (inr e) next = next g e

-- ---- what the names of functions are bound to

append_assoc : {A : Type 0} (xs ys zs : List A) → (xs ++ ys) ++ zs ≡ xs ++ (ys ++ zs)
append_assoc [] ys zs = refl
append_assoc (x ∷ xs) ys zs = ap (λ l. x ∷ l) (append_assoc xs ys zs)

skip_one : (s : TypeScope) (d : Declaration ℕ) (y : Bytes) → (Among y (names_of d) → ⊥) → (u : Scope) → named (signed_one s d ++ u) y ≡ named u y
skip_one s (p.Func x g body) y h u = ap (λ z. cond z (Some (generic (own_of g) (function_term s g))) (named u y)) (unequal y x.bytes (λ e. h (inl e)))
skip_one s (p.Class x g fields) y h u = ap (λ z. cond z (Some (generic (own_of g) (class_term s x g))) (named u y)) (unequal y x.bytes (λ e. h (inl e)))
skip_one s (p.Let q a) y h u = refl
skip_one s (p.Var stable x v a) y h u = refl
skip_one s (p.NamedObject x fields) y h u = refl
skip_one s (p.Method query context x g body) y h u = ap (λ z. cond z (Some (constant (method_term s query g))) (named u y)) (unequal y x.bytes (λ e. h (inl e)))
skip_one s (p.System x body) y h u = refl
skip_one s (p.TypeAlias x parameters v) y h u = refl
skip_one s (p.Evaluate a) y h u = refl

-- another name is bound as it is outside
pub skip_signed : (s : TypeScope) (ds : Declarations ℕ) (y : Bytes) → (Among y (names_of_list ds) → ⊥) → (u : Scope) → named (signed s ds ++ u) y ≡ named u y
skip_signed s p.End y h u = refl
skip_signed s (p.Then public n d rest) y h u =
    ap (λ z. named z y) (append_assoc (signed s rest) (signed_one s d) u)
    ∙ (skip_signed s rest y (λ m. h (in_right (names_of d) (names_of_list rest) y m)) (signed_one s d ++ u)
    ∙ skip_one s d y (λ m. h (in_left (names_of d) (names_of_list rest) y m)) u)

abbrev pub IsBoundIn : Scope → Fact → Type 0
IsBoundIn base (IsFunction x p b w) = named base x ≡ Some b
IsBoundIn base _ = Unit {0}

abbrev pub AllBoundIn : Scope → List Fact → Type 0
AllBoundIn base [] = Unit {0}
AllBoundIn base (x ∷ facts) = IsBoundIn base x × AllBoundIn base facts

module _ (slots : List Slot) (number : Term → TypeId) (s : TypeScope) (all : List Declared) where
  head_bound : (x : Bytes) (b : Bound) (u : Scope) → named ((x, b) ∷ u) x ≡ Some b
  head_bound x b u = ap (λ z. cond z (Some b) (named u x)) ((bytes_eq-Decides x x).1 refl)

  one_bound : (d : Declared) (x : Declaration ℕ) (z : Scope) (rest : Declarations ℕ) → Distinct (names_of x ++ names_of_list rest) → (u : Scope) → IsBoundIn (signed s rest ++ (signed_one s x ++ u)) (fact_of slots number s all d x z)
  one_bound d (p.Func x g body) z rest h u = skip_signed s rest x.bytes (λ m. differ_apart (x.bytes ∷ []) (names_of_list rest) h x.bytes (inl refl) m) (signed_one s (p.Func x g body) ++ u) ∙ head_bound x.bytes (generic (own_of g) (function_term s g)) u
  one_bound d (p.Class x g fields) z rest h u = skip_signed s rest x.bytes (λ m. differ_apart (x.bytes ∷ []) (names_of_list rest) h x.bytes (inl refl) m) (signed_one s (p.Class x g fields) ++ u) ∙ head_bound x.bytes (generic (own_of g) (class_term s x g)) u
  one_bound d (p.Let q a) z rest h u = tt
  one_bound d (p.Var stable x v a) z rest h u = tt
  one_bound d (p.NamedObject x fields) z rest h u = tt
  one_bound d (p.Method query context x g body) z rest h u = tt
  one_bound d (p.System x body) z rest h u = tt
  one_bound d (p.TypeAlias x parameters v) z rest h u = tt
  one_bound d (p.Evaluate a) z rest h u = tt

  pub facts_bound : (ds : Declarations ℕ) (made : Declarations Note) (given : List Given) → Distinct (names_of_list ds) → (u : Scope) → AllBoundIn (signed s ds ++ u) (facts_of slots number s all ds made given)
  facts_bound p.End made given h u = tt
  facts_bound (p.Then public n d rest) p.End given h u = tt
  facts_bound (p.Then public n d rest) (p.Then public_too k b bs) given h u =
      subst (λ base. IsBoundIn base (fact_of slots number s all (declared b) d (first_scope given)) × AllBoundIn base (facts_of slots number s all rest bs (others given)))
      (sym (append_assoc (signed s rest) (signed_one s d) u))
      (one_bound (declared b) d (first_scope given) rest h u, facts_bound rest bs (others given) (differ_behind (names_of d) (names_of_list rest) h) (signed_one s d ++ u))
