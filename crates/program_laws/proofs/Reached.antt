-- Each name that is bound at the end of an actor's declarations is reached there.
use Rattle.std.proofs.Common.{◌≡◌, ◌⊎◌, inl, inr, ℕ, suc, ◌<◌, ◌≤◌, ◌+◌, Bool, true, false, List, [], ◌∷◌, ◌++◌, length, map, Option, Some, None, refl, sym, ap, ◌∙◌, subst, arith}
use Rattle.std.proofs.lemmas.Slice.Eq.{bytes_eq-Decides}
use Rattle.std.specs.Prelude.{cond}
use Rattle.std.specs.List.{list_any}
use Rattle.std.specs.Str.{bytes_eq}
use Rattle.mo_scopes.specs.Scopes.{named}
use Rattle.mo_types.specs.declared.node.TypeId.{TypeId}
use Rattle.mo_types.specs.Graph.{Slot}
use Rattle.subtype_laws.specs.Reached.{Among}
use Rattle.typed_tree.specs.Placing.{Declared, place}
use Rattle.typed_tree.specs.Placing as placing
use Rattle.typing_rules.specs.AbstractSyntax.{Bytes, Declaration, Declarations}
use Rattle.typing_rules.specs.AbstractSyntax as p
use Rattle.typing_rules.specs.AsyncPlaces.{Other as Apart}
use Rattle.typing_rules.specs.Contexts.{Bound, Scope, Context, constant, directly}
use Rattle.typing_rules.specs.DeclaredTypes.{with_list}
use Rattle.typing_rules.specs.Definitions.{Definitions}
use Rattle.typing_rules.specs.Gathered.{gathered}
use Rattle.typing_rules.specs.Lists.{Entry as Given}
use Rattle.typing_rules.specs.Programs.{first_context, actor_type, own_name}
use Rattle.typing_rules.specs.Terms.{Term}
use Rattle.typing_rules.specs.TypedTrees.{Note}
use Rattle.typing_rules.specs.TypeScopes.{TypeScope, no_types}
use Rattle.desugaring.specs.Expressions.{pieces}
use Rattle.desugaring.specs.FreeNames.{names_of_list, in_declarations, declared, without}
use Rattle.desugaring.specs.FreeNames as free
use Rattle.expression_laws.proofs.Forms.{in_left}
use Rattle.expression_laws.proofs.Outside.{outside}
use Rattle.list_laws.specs.Facts.{Fact, Evaluates, IsFunction, Other, scope_at, DefinedBefore, FunctionBefore}
use Rattle.block_laws.specs.Lists.{AreMade, signed, in_scope, behind}
use Rattle.block_laws.specs.Order.{Reaches, fact_of, facts_of}
use Rattle.block_laws.proofs.Keeping.{evaluated_names, Defined, AllBindOnly, kept}
use Rattle.block_laws.proofs.Naming.{skip_signed}
use Rattle.block_laws.proofs.Whole.{all_bind_only, behind_all}
use Rattle.block_forms.proofs.Whole.{many_facts}
use Rattle.method_laws.proofs.Entering.{among_split}
use Rattle.actor_laws.specs.Order.{public_functions, outer_of}
use Rattle.program_laws.specs.Around.{own_names, NamesAreReached}

-- whether a name is one of these
pub decided : (y : Bytes) (xs : List Bytes) → Among y xs ⊎ (Among y xs → ⊥)
decided y [] = inr (λ m. m)
decided y (x ∷ xs) = by (bytes_eq x y) refl (decided y xs) where
  by : (b : Bool) → bytes_eq x y ≡ b → Among y xs ⊎ (Among y xs → ⊥) → Among y (x ∷ xs) ⊎ (Among y (x ∷ xs) → ⊥)
  by true e rest = inl (inl ((bytes_eq-Decides x y).0 e))
  by false e (inl m) = inl (inr m)
  by false e (inr n) = inr other where
    other : Among y (x ∷ xs) → ⊥
    other (inl q) = let t : true ≡ false = sym ((bytes_eq-Decides x y).1 q) ∙ e in absurd (let z : true ≡ false = t in cc)
    other (inr m) = n m

-- ---- what is evaluated

defined_or_not : (y : Bytes) (facts : List Fact) → Defined y facts ⊎ (Defined y facts → ⊥)
defined_or_not y [] = inr (λ m. m)
defined_or_not y (x ∷ facts) = by (decided y (evaluated_names x)) (defined_or_not y facts) where
  by : Among y (evaluated_names x) ⊎ (Among y (evaluated_names x) → ⊥) → Defined y facts ⊎ (Defined y facts → ⊥) → Defined y (x ∷ facts) ⊎ (Defined y (x ∷ facts) → ⊥)
  by (inl m) r = inl (inl m)
  by (inr n) (inl m) = inl (inr m)
  by (inr n) (inr k) = inr none where
    none : Defined y (x ∷ facts) → ⊥
    none (inl m) = n m
    none (inr m) = k m

defined_before : (y : Bytes) (facts : List Fact) → Defined y facts → DefinedBefore (length facts) y facts
defined_before y [] m = absurd m
defined_before y (Evaluates xs s ∷ facts) (inl m) = inl m
defined_before y (Evaluates xs s ∷ facts) (inr m) = inr (defined_before y facts m)
defined_before y (IsFunction x q b w ∷ facts) (inl m) = absurd m
defined_before y (IsFunction x q b w ∷ facts) (inr m) = defined_before y facts m
defined_before y (Other ∷ facts) (inl m) = absurd m
defined_before y (Other ∷ facts) (inr m) = defined_before y facts m

-- ---- other names of the list

module _ (slots : List Slot) (number : Term → TypeId) (s : TypeScope) (all : List Declared) (k : ℕ) (within : (d : Declared) → place all d < k) where
  abbrev Facts : Declarations ℕ → Declarations Note → List Given → List Fact
  Facts = facts_of slots number s all

  -- the name of a declaration is evaluated, that of a function, or that of a public function
  abbrev Found : Bytes → Declarations ℕ → List Fact → Type 0
  Found y ds facts = Defined y facts ⊎ (FunctionBefore k y facts ⊎ Among y (public_functions ds))

  behind_fact : (y : Bytes) (x : Fact) (facts : List Fact) → FunctionBefore k y facts → FunctionBefore k y (x ∷ facts)
  behind_fact y (Evaluates xs z) facts f = f
  behind_fact y (IsFunction v q b w) facts f = inr f
  behind_fact y Other facts f = f

  more_functions : (y : Bytes) (public : Bool) (n : ℕ) (d : Declaration ℕ) (rest : Declarations ℕ) → Among y (public_functions rest) → Among y (public_functions (p.Then public n d rest))
  more_functions y public n (p.Let q a) rest m = m
  more_functions y public n (p.Var stable x u a) rest m = m
  more_functions y public n (p.Func x g body) rest m = m
  more_functions y public n (p.Method query context x g body) rest m = inr m
  more_functions y public n (p.System x body) rest m = m
  more_functions y public n (p.TypeAlias x ps u) rest m = m
  more_functions y public n (p.Class x g fields) rest m = m
  more_functions y public n (p.NamedObject x fields) rest m = m
  more_functions y public n (p.Evaluate a) rest m = m

  here : (y : Bytes) (public : Bool) (n : ℕ) (d : Declaration ℕ) (rest : Declarations ℕ) (x : Declared) (z : Scope) (facts : List Fact) → Among y (free.names_of d) → Found y (p.Then public n d rest) (fact_of slots number s all x d z ∷ facts)
  here y public n (p.Let q a) rest x z facts m = inl (inl m)
  here y public n (p.Var stable v u a) rest x z facts m = inl (inl m)
  here y public n (p.NamedObject v fields) rest x z facts m = inl (inl m)
  here y public n (p.Func v g body) rest x z facts (inl e) = inr (inl (inl (sym e, within x)))
  here y public n (p.Func v g body) rest x z facts (inr m) = absurd m
  here y public n (p.Class v g fields) rest x z facts (inl e) = inr (inl (inl (sym e, within x)))
  here y public n (p.Class v g fields) rest x z facts (inr m) = absurd m
  here y public n (p.Method query context v g body) rest x z facts (inl e) = inr (inr (inl e))
  here y public n (p.Method query context v g body) rest x z facts (inr m) = absurd m
  here y public n (p.System v body) rest x z facts m = absurd m
  here y public n (p.TypeAlias v ps u) rest x z facts m = absurd m
  here y public n (p.Evaluate a) rest x z facts m = absurd m

  later : (y : Bytes) (public : Bool) (n : ℕ) (d : Declaration ℕ) (rest : Declarations ℕ) (x : Fact) (facts : List Fact) → Found y rest facts → Found y (p.Then public n d rest) (x ∷ facts)
  later y public n d rest x facts (inl m) = inl (inr m)
  later y public n d rest x facts (inr (inl f)) = inr (inl (behind_fact y x facts f))
  later y public n d rest x facts (inr (inr m)) = inr (inr (more_functions y public n d rest m))

  module _ (defs : Definitions) (terms : List Term) (vs : List ℕ) (last : Context) (value : Bool) (w : Option Term) where
    pub listed : (e : Context) (ds : Declarations ℕ) (given : List Given) (made : Declarations Note) → AreMade defs slots terms number vs last value e ds w given made → (y : Bytes) → Among y (names_of_list ds) → Found y ds (Facts ds made given)
    listed e p.End given made h y m = absurd m
    listed e (p.Then public n d rest) [] made h y m = absurd h
    listed e (p.Then public n d rest) (one ∷ ones) p.End h y m = absurd h
    listed e (p.Then public n d rest) (one ∷ ones) (p.Then public_too l b bs) h y m = by (among_split (free.names_of d) (names_of_list rest) y m) (λ i. listed _ rest ones bs h.2 y i) where
      by : Among y (free.names_of d) ⊎ Among y (names_of_list rest) → (Among y (names_of_list rest) → Found y rest (Facts rest bs ones)) → Found y (p.Then public n d rest) (fact_of slots number s all (declared b) d one.scope ∷ Facts rest bs ones)
      by (inl i) next = here y public n d rest (declared b) one.scope (Facts rest bs ones) i
      by (inr i) next = later y public n d rest (fact_of slots number s all (declared b) d one.scope) (Facts rest bs ones) (next i)

-- ---- a bound name

no_bound : (b : Bound) → None ≡ Some b → ⊥
no_bound b h = cc

own_bound : (o : Option Bytes) (u : Term) (y : Bytes) (b : Bound) → named (own_name o u) y ≡ Some b → Among y (own_names o)
own_bound None u y b h = absurd (no_bound b h)
own_bound (Some x) u y b h = by (bytes_eq y x) refl h where
  by : (t : Bool) → bytes_eq y x ≡ t → cond t (Some (constant u)) None ≡ Some b → Among y (x ∷ [])
  by true i q = inl (sym ((bytes_eq-Decides y x).0 i))
  by false i q = let r : None ≡ Some b = q in absurd (no_bound b r)

module _ (slots : List Slot) (number : Term → TypeId) (s : TypeScope) (o : Option Bytes) (u : Term) (ds : Declarations ℕ) (facts : List Fact) (only : AllBindOnly facts)
    (found : (y : Bytes) → Among y (names_of_list ds) → Defined y facts ⊎ (FunctionBefore (suc (length facts)) y facts ⊎ Among y (public_functions ds))) where
  public_outer : (y : Bytes) → Among y (public_functions ds) → Among y (outer_of (own_names o) ds)
  public_outer y m = beyond (without (names_of_list ds) (own_names o ++ in_declarations ds)) m where
    beyond : (xs : List Bytes) → Among y (public_functions ds) → Among y (xs ++ public_functions ds)
    beyond [] m = m
    beyond (x ∷ xs) m = inr (beyond xs m)

  pub bound_reached : (y : Bytes) (b : Bound) → named (scope_at (length facts) facts (signed s ds ++ own_name o u)) y ≡ Some b → Reaches (outer_of (own_names o) ds) facts (suc (length facts)) (length facts) y
  bound_reached y b h = by (decided y (names_of_list ds)) (defined_or_not y facts) where
    by : Among y (names_of_list ds) ⊎ (Among y (names_of_list ds) → ⊥) → Defined y facts ⊎ (Defined y facts → ⊥) → Reaches (outer_of (own_names o) ds) facts (suc (length facts)) (length facts) y
    by r (inl m) = inr (inl (defined_before y facts m))
    by (inl m) (inr none) = on (found y m) where
      on : Defined y facts ⊎ (FunctionBefore (suc (length facts)) y facts ⊎ Among y (public_functions ds)) → Reaches (outer_of (own_names o) ds) facts (suc (length facts)) (length facts) y
      on (inl k) = absurd (none k)
      on (inr (inl f)) = inr (inr f)
      on (inr (inr k)) = inl (public_outer y k)
    by (inr absent) (inr none) = on (outside (names_of_list ds) (own_names o ++ in_declarations ds) y (in_left (own_names o) (in_declarations ds) y own)) where
      own : Among y (own_names o)
      own = own_bound o u y b (sym (kept y facts only none (length facts) (signed s ds ++ own_name o u) ∙ skip_signed s ds y absent (own_name o u)) ∙ h)

      on : Among y (names_of_list ds) ⊎ Among y (without (names_of_list ds) (own_names o ++ in_declarations ds)) → Reaches (outer_of (own_names o) ds) facts (suc (length facts)) (length facts) y
      on (inl m) = absurd (absent m)
      on (inr m) = inl (in_left (without (names_of_list ds) (own_names o ++ in_declarations ds)) (public_functions ds) y m)

-- ---- places

behind_within : (last n : ℕ) (ds : List Declared) (xs : List Bytes) → last ≤ n → placing.behind last n ds xs ≤ n + length ds
behind_within last n [] xs h = omega (arith, h)
behind_within last n (d ∷ ds) xs h =
    omega (arith, behind_within (cond (list_any (λ x. placing.is_among x xs) d.defines) (suc n) last) (suc n) ds xs (by (list_any (λ x. placing.is_among x xs) d.defines)))
  where
    by : (b : Bool) → cond b (suc n) last ≤ suc n
    by true = omega (arith)
    by false = omega (arith, h)

map_length : {A B : Type 0} (f : A → B) (xs : List A) → length (map f xs) ≡ length xs
map_length f [] = refl
map_length f (x ∷ xs) = ap suc (map_length f xs)

place_within : (ds : List Declared) (n : ℕ) → length ds ≡ n → (d : Declared) → place ds d < suc n
place_within ds n e d = omega (arith, e, behind_within 0 0 ds (placing.reached (length ds) ds d.occurs) (omega (arith)))

pub names_are_reached : NamesAreReached
names_are_reached program slots terms number q m y b h =
    let defs = gathered program in
    let ds = program.fields in
    let s = with_list no_types program.fields in
    let k = in_scope (first_context program) program.fields in
    let last = directly Apart (record (in_scope (first_context program) program.fields) { values = behind m.list.given (in_scope (first_context program) program.fields).values }) in
    let all = map (λ z. z.declared) (pieces (gathered program) number q.1) in
    let facts = facts_of slots number s all ds q.1 m.list.given in
    let many = map_length (λ z. z.declared) (pieces (gathered program) number q.1) ∙ many_facts defs slots terms number [] last false k None s all ds m.list.given q.1 m.list.made in
    bound_reached slots number s program.name (actor_type program) ds facts (all_bind_only defs slots terms number [] last false None k all k.values ds m.list.given q.1 m.list.made)
    (λ z n. listed slots number s all (suc (length facts)) (place_within all (length facts) many) defs terms [] last false None k ds m.list.given q.1 m.list.made z n) y b
    (subst (λ v. named v y ≡ Some b) (behind_all defs slots terms number [] last false None k all k.values ds m.list.given q.1 m.list.made) h)
