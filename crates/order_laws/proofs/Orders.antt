-- Lists in order.
use Rattle.std.proofs.Common.{◌≡◌, ◌⊎◌, inl, inr, ℕ, zero, suc, ◌+◌, ◌<◌, ◌≤◌, Bool, true, false, List, Some, None, refl, sym, ap, ◌∙◌, subst, arith}
use Rattle.mo_types.specs.declared.node.TypeId.{TypeId}
use Rattle.mo_types.specs.Graph.{Slot}
use Rattle.subtype_laws.specs.Reached.{Among}
use Rattle.typed_tree.specs.Placing.{Declared, is_among, place}
use Rattle.typing_rules.specs.AbstractSyntax.{Bytes, Declaration, Declarations}
use Rattle.typing_rules.specs.AbstractSyntax as p
use Rattle.typing_rules.specs.AsyncPlaces.{Other}
use Rattle.typing_rules.specs.Contexts.{Scope, directly}
use Rattle.typing_rules.specs.DeclaredTypes.{with_list}
use Rattle.typing_rules.specs.Expressions.{JudgeOrder, JudgeBodies}
use Rattle.typing_rules.specs.Lists.{Entry as Given, Listed}
use Rattle.typing_rules.specs.Terms.{Term}
use Rattle.typing_rules.specs.TypedTrees.{Note}
use Rattle.typing_rules.specs.TypeScopes.{TypeScope}
use Rattle.desugaring.specs.FreeNames.{declared, names_of_list, in_declaration, in_declarations, without}
use Rattle.desugaring_laws.proofs.Yielding.{more}
use Rattle.list_laws.specs.Facts.{Fact}
use Rattle.block_laws.specs.Order.{Reaches, UsesInOrder, AllInOrder, facts_of, IsInOrder}
use Rattle.block_forms.specs.Blocks.{AreNested}
use Rattle.kept_names.specs.Keeping.{AllKept, ListKept}
use Rattle.kept_names.proofs.Judged.{lists_are_kept}
use Rattle.kept_names.proofs.Names.{any_among, among_any, stays_of}
use Rattle.kernel_places.specs.Reaching.{at}
use Rattle.kernel_places.specs.Reaching as reaching
use Rattle.order_laws.specs.Laws.{ListsAreInOrder}
use Rattle.order_laws.specs.Ordered.{declareds, IsOrdered}
use Rattle.order_laws.proofs.Made.{placed_so, all_plain, AllPublic, Alike, all_alike, Located, Defined, IsFunction, IsPublic, located, used_in}
use Rattle.order_laws.proofs.Placing.{not_earlier, before_place, place_before, AsLong, defined_before, function_before}

decided : (ns : List Bytes) (y : Bytes) → Among y ns ⊎ (Among y ns → ⊥)
decided ns y = by (is_among y ns) refl where
  clash : (b : Bool) → b ≡ false → b ≡ true → ⊥
  clash b h i = cc

  by : (b : Bool) → is_among y ns ≡ b → Among y ns ⊎ (Among y ns → ⊥)
  by true h = inl (any_among ns y h)
  by false h = inr (λ m. clash (is_among y ns) h (among_any ns y m))

as_long : (slots : List Slot) (number : Term → TypeId) (u : TypeScope) (all : List Declared) (s t : Scope) (ds : Declarations ℕ) (bs : Declarations Note) → AllKept s t ds bs → AsLong slots number u all ds bs
as_long slots number u all s t p.End p.End k = tt
as_long slots number u all s t p.End (p.Then public m b bs) k = absurd k
as_long slots number u all s t (p.Then public n d rest) p.End k = absurd k
as_long slots number u all s t (p.Then public n d rest) (p.Then public_too m b bs) k = as_long slots number u all s t rest bs k.1

module _ (slots : List Slot) (number : Term → TypeId) (u : TypeScope) (s : Scope) (ds : Declarations ℕ) (bs : Declarations Note) (k : ListKept s ds bs) (given : List Given) (outer : List Bytes)
    (outside : (y : Bytes) → Among y (in_declarations ds) → (Among y (names_of_list ds) → ⊥) → Among y outer) (Public : Bytes → Type 0) (all_public : AllPublic Public ds) (public_ones : (y : Bytes) → Public y → Among y outer) (o : IsOrdered (declareds ds)) where
  abbrev xs : List Declared
  xs = declareds ds

  abbrev zs : List Declared
  zs = declareds bs

  abbrev Own : Bytes → Type 0
  Own y = Among y (names_of_list ds)

  abbrev facts : List Fact
  facts = facts_of slots number u zs ds bs given

  alike : (i : ℕ) → Alike Own (at xs i) (at zs i)
  alike = all_alike Own s k.inner k.own ds bs k.each

  long : AsLong slots number u zs ds bs
  long = as_long slots number u zs s k.inner ds bs k.each

  -- of a function or class
  function_uses : (n : ℕ) (f : Bytes) → (at xs n).function ≡ Some f → (y : Bytes) → Among y (at xs n).occurs → Reaches outer facts (suc (place zs (at zs n))) (place zs (at zs n)) y
  function_uses n f e y m = by (decided (names_of_list ds) y) where
    used : Among y (names_of_list ds) → is_among y (at zs n).occurs ≡ true
    used i = (alike n).kept f e y i (among_any (at xs n).occurs y m)

    at_place : Among y (names_of_list ds) → Located xs Public y → Reaches outer facts (suc (place zs (at zs n))) (place zs (at zs n)) y
    at_place i (Defined j d) =
        let there : is_among y (at zs j).defines ≡ true = subst (λ z. is_among y z ≡ true) (sym (alike j).defines) (among_any (at xs j).defines y d) in
        inr (inl (defined_before slots number u zs ds bs long given j (place zs (at zs n)) y (before_place zs (at zs n) j y there (used i)) d))
    at_place i (IsFunction j d) =
        let no_later : place zs (at zs j) ≤ place zs (at zs n) = not_earlier zs (at zs n) j y ((alike j).function ∙ d) (used i) in
        let less : place zs (at zs j) < suc (place zs (at zs n)) = omega arith in
        inr (inr (function_before slots number u zs ds bs long given j (suc (place zs (at zs n))) y d less))
    at_place i (IsPublic d) = inl (public_ones y d)

    by : Among y (names_of_list ds) ⊎ (Among y (names_of_list ds) → ⊥) → Reaches outer facts (suc (place zs (at zs n))) (place zs (at zs n)) y
    by (inl i) = at_place i (located Public ds all_public y i)
    by (inr i) = inl (outside y (used_in ds n y m) i)

  -- of another declaration
  other_uses : (n : ℕ) → (at xs n).function ≡ None → (y : Bytes) → Among y (at xs n).occurs → Reaches outer facts (suc n) n y
  other_uses n e y m = by (decided (names_of_list ds) y) where
    used : is_among y (at xs n).occurs ≡ true
    used = among_any (at xs n).occurs y m

    at_place : Located xs Public y → Reaches outer facts (suc n) n y
    at_place (Defined j d) =
        inr (inl (defined_before slots number u zs ds bs long given j n y (o n j e (record { name = y; defined = among_any (at xs j).defines y d; reached = reaching.Reaches.Occurring y used })) d))
    at_place (IsFunction j d) = inr (inr (function_before slots number u zs ds bs long given j (suc n) y d (place_before Own xs zs alike n j y (λ i h. o n i e h) d used)))
    at_place (IsPublic d) = inl (public_ones y d)

    by : Among y (names_of_list ds) ⊎ (Among y (names_of_list ds) → ⊥) → Reaches outer facts (suc n) n y
    by (inl i) = at_place (located Public ds all_public y i)
    by (inr i) = inl (outside y (used_in ds n y m) i)

  -- the n-th declaration
  function_at : (n : ℕ) (d : Declaration ℕ) (b : Declaration Note) (f : Bytes) → at xs n ≡ declared d → at zs n ≡ declared b → (declared d).function ≡ Some f → (y : Bytes) → Among y (in_declaration d)
      → Reaches outer facts (suc (place zs (declared b))) (place zs (declared b)) y
  function_at n d b f i j e y m =
      subst (λ z. Reaches outer facts (suc (place zs z)) (place zs z) y) j (function_uses n f (ap (λ z. z.function) i ∙ e) y (subst (λ z. Among y z.occurs) (sym i) m))

  other_at : (n : ℕ) (d : Declaration ℕ) → at xs n ≡ declared d → (declared d).function ≡ None → (y : Bytes) → Among y (in_declaration d) → Reaches outer facts (suc n) n y
  other_at n d i e y m = other_uses n (ap (λ z. z.function) i ∙ e) y (subst (λ z. Among y z.occurs) (sym i) m)

  one_in_order : (n : ℕ) (d : Declaration ℕ) (b : Declaration Note) → at xs n ≡ declared d → at zs n ≡ declared b → UsesInOrder outer zs facts n (declared b) d
  one_in_order n (p.Let q a) b i j = other_at n (p.Let q a) i refl
  one_in_order n (p.Var stable x v a) b i j = other_at n (p.Var stable x v a) i refl
  one_in_order n (p.Func x g body) b i j = function_at n (p.Func x g body) b x.bytes i j refl
  one_in_order n (p.Method query context x g body) b i j = other_at n (p.Method query context x g body) i refl
  one_in_order n (p.System x body) b i j = other_at n (p.System x body) i refl
  one_in_order n (p.TypeAlias x parameters v) b i j = other_at n (p.TypeAlias x parameters v) i refl
  one_in_order n (p.Class x g fields) b i j = function_at n (p.Class x g fields) b x.bytes i j refl
  one_in_order n (p.NamedObject x fields) b i j = other_at n (p.NamedObject x fields) i refl
  one_in_order n (p.Evaluate a) b i j = other_at n (p.Evaluate a) i refl

  from : (n : ℕ) (es : Declarations ℕ) (cs : Declarations Note) → ((i : ℕ) → at xs (n + i) ≡ at (declareds es) i) → ((i : ℕ) → at zs (n + i) ≡ at (declareds cs) i) → AllInOrder outer zs facts n es cs
  from n p.End cs h l = tt
  from n (p.Then public m d rest) p.End h l = tt
  from n (p.Then public m d rest) (p.Then public_too j b cs) h l =
      let e : n + 0 ≡ n = omega arith in (
        one_in_order n d b (ap (λ i. at xs i) (sym e) ∙ h 0) (ap (λ i. at zs i) (sym e) ∙ l 0),
        from (suc n) rest cs (λ i. let q : suc n + i ≡ n + suc i = omega arith in ap (λ z. at xs z) q ∙ h (suc i)) (λ i. let q : suc n + i ≡ n + suc i = omega arith in ap (λ z. at zs z) q ∙ l (suc i)),
      )

  pub all_in_order : AllInOrder outer zs facts zero ds bs
  all_in_order = from zero ds bs (λ i. let q : zero + i ≡ i = omega arith in ap (λ z. at xs z) q) (λ i. let q : zero + i ≡ i = omega arith in ap (λ z. at zs z) q)

-- ---- blocks and objects

none_public : (ds : Declarations ℕ) → AreNested ds → AllPublic (λ y. ⊥) ds
none_public p.End h = tt
none_public (p.Then public n (p.Let q a) rest) h = none_public rest h.1
none_public (p.Then public n (p.Var stable x u a) rest) h = none_public rest h.1
none_public (p.Then public n (p.Func x g body) rest) h = none_public rest h.1
none_public (p.Then public n (p.Method query context x g body) rest) h = absurd h.0
none_public (p.Then public n (p.System x body) rest) h = none_public rest h.1
none_public (p.Then public n (p.TypeAlias x parameters u) rest) h = none_public rest h.1
none_public (p.Then public n (p.Class x g fields) rest) h = none_public rest h.1
none_public (p.Then public n (p.NamedObject x fields) rest) h = none_public rest h.1
none_public (p.Then public n (p.Evaluate a) rest) h = none_public rest h.1

pub lists_are_in_order : ListsAreInOrder
lists_are_in_order defs slots terms number value scope ds differ nested ordered e e_is at w =
    more defs terms (Listed defs (directly Other e) ds (λ known. JudgeOrder defs known at value ds None w) (λ known made. JudgeBodies defs known ds made)) (λ q. ListKept e.values ds q.1)
    (λ q. IsInOrder defs slots number (with_list scope ds) ds q.1) (lists_are_kept defs terms (directly Other e) at value ds w) (λ q k. record {
      differ = differ;
      used = λ given. subst (λ all. AllInOrder (without (names_of_list ds) (in_declarations ds)) all (facts_of slots number (with_list scope ds) all ds q.1 given) zero ds q.1) (sym (placed_so defs number q.1))
          (all_in_order slots number (with_list scope ds) e.values ds q.1 k given (without (names_of_list ds) (in_declarations ds)) (λ y m n. stays_of (names_of_list ds) (in_declarations ds) y m n)
          (λ y. ⊥) (none_public ds nested) (λ y m. absurd m) (ordered (all_plain e.values k.inner ds q.1 k.each)));
    })
