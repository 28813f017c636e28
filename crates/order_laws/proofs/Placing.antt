-- Where declarations stand by what they use.
use Rattle.std.proofs.Common.{◌≡◌, ◌⊎◌, inl, inr, ℕ, zero, suc, ◌<◌, ◌≤◌, true, List, ◌∷◌, Some, None, sym, ◌∙◌, subst, arith}
use Rattle.std.proofs.Math.Logic.{⊎_elim}
use Rattle.mo_types.specs.declared.node.TypeId.{TypeId}
use Rattle.mo_types.specs.Graph.{Slot}
use Rattle.subtype_laws.specs.Reached.{Among}
use Rattle.typed_tree.specs.Placing.{Declared, is_among, place}
use Rattle.typing_rules.specs.AbstractSyntax.{Bytes, Declaration, Declarations}
use Rattle.typing_rules.specs.AbstractSyntax as p
use Rattle.typing_rules.specs.Lists.{Entry as Given}
use Rattle.typing_rules.specs.Terms.{Term}
use Rattle.typing_rules.specs.TypedTrees.{Note}
use Rattle.typing_rules.specs.TypeScopes.{TypeScope}
use Rattle.desugaring.specs.FreeNames.{declared}
use Rattle.list_laws.specs.Facts.{Fact, Evaluates, IsFunction, Other, DefinedBefore, FunctionBefore}
use Rattle.block_laws.specs.Order.{fact_of, facts_of, first_scope, others}
use Rattle.kernel_places.specs.Reaching.{at, Reaches, Hits}
use Rattle.kernel_places.proofs.Placed.{place_has}
use Rattle.order_laws.specs.Ordered.{declareds}
use Rattle.order_laws.proofs.Made.{Alike}

-- what is reached from the names of a function is reached from its name
through : (ds : List Declared) (names : List Bytes) (k : ℕ) (f x : Bytes) → Reaches ds names f → (at ds k).function ≡ Some f → Reaches ds (at ds k).occurs x → Reaches ds names x
through ds names k f x r e (Reaches.Occurring y h) = Reaches.Through k f y r e h
through ds names k f x r e (Reaches.Through j g y s i o) = Reaches.Through j g y (through ds names k f g r e s) i o

-- A function that uses another one stands no earlier.
pub not_earlier : (ds : List Declared) (a : Declared) (k : ℕ) (f : Bytes) → (at ds k).function ≡ Some f → is_among f a.occurs ≡ true → place ds (at ds k) ≤ place ds a
not_earlier ds a k f e u =
    ⊎_elim (λ q. let i : place ds (at ds k) ≡ 0 = q in omega arith)
    (λ w. let i : place ds (at ds k) ≡ suc w.0 = w.1 in
    let l : w.0 < place ds a = (place_has ds a).last w.0 (record { name = w.2.name; defined = w.2.defined; reached = through ds a.occurs k f w.2.name (Reaches.Occurring f u) e w.2.reached }) in
    omega arith)
    (place_has ds (at ds k)).first

-- What a function uses stands before it.
pub before_place : (ds : List Declared) (a : Declared) (m : ℕ) (y : Bytes) → is_among y (at ds m).defines ≡ true → is_among y a.occurs ≡ true → m < place ds a
before_place ds a m y d u = (place_has ds a).last m (record { name = y; defined = d; reached = Reaches.Occurring y u })

-- ---- as they are written

module _ (Own : Bytes → Type 0) (xs zs : List Declared) (alike : (k : ℕ) → Alike Own (at xs k) (at zs k)) where
  written : (names more : List Bytes) → ((y : Bytes) → is_among y names ≡ true → is_among y more ≡ true) → (y : Bytes) → Reaches zs names y → Reaches xs more y
  written names more h y (Reaches.Occurring x i) = Reaches.Occurring x (h x i)
  written names more h y (Reaches.Through k f x r e o) = Reaches.Through k f x (written names more h f r) (sym (alike k).function ∙ e) ((alike k).fewer x o)

  -- A function that is used by the n-th declaration stands before it, where all that this one reaches does.
  pub place_before : (n k : ℕ) (f : Bytes) → ((m : ℕ) → Hits xs (at xs n).occurs m → m < n) → (at xs k).function ≡ Some f → is_among f (at xs n).occurs ≡ true → place zs (at zs k) < suc n
  place_before n k f h e u =
      ⊎_elim (λ q. let i : place zs (at zs k) ≡ 0 = q in omega arith)
      (λ w. let i : place zs (at zs k) ≡ suc w.0 = w.1 in
      let r : Reaches xs (at xs k).occurs w.2.name = written (at zs k).occurs (at xs k).occurs (alike k).fewer w.2.name w.2.reached in
      let d : is_among w.2.name (at xs w.0).defines ≡ true = subst (λ z. is_among w.2.name z ≡ true) (alike w.0).defines w.2.defined in
      let l : w.0 < n = h w.0 (record { name = w.2.name; defined = d; reached = through xs (at xs n).occurs k f w.2.name (Reaches.Occurring f u) e r }) in
      omega arith)
      (place_has zs (at zs k)).first

-- ---- by facts

defined_on : (n : ℕ) (y : Bytes) (x : Fact) (facts : List Fact) → DefinedBefore n y facts → DefinedBefore (suc n) y (x ∷ facts)
defined_on n y (Evaluates xs s) facts d = inr d
defined_on n y (IsFunction x p b w) facts d = d
defined_on n y Other facts d = d

function_on : (k : ℕ) (y : Bytes) (x : Fact) (facts : List Fact) → FunctionBefore k y facts → FunctionBefore k y (x ∷ facts)
function_on k y (Evaluates xs s) facts f = f
function_on k y (IsFunction x p b w) facts f = inr f
function_on k y Other facts f = f

no_some : (f : Bytes) → None ≡ Some f → ⊥
no_some f h = cc

some_is : (x y : Bytes) → Some x ≡ Some y → y ≡ x
some_is x y h = cc

module _ (slots : List Slot) (number : Term → TypeId) (s : TypeScope) (all : List Declared) where
  -- a list as long as another
  abbrev pub AsLong : Declarations ℕ → Declarations Note → Type 0
  AsLong p.End p.End = Unit {0}
  AsLong (p.Then public n d rest) (p.Then public_too m b bs) = AsLong rest bs
  AsLong _ _ = ⊥

  defined_here : (n : ℕ) (y : Bytes) (e : Declared) (d : Declaration ℕ) (given : List Given) (facts : List Fact) → Among y (declared d).defines → DefinedBefore (suc n) y (fact_of slots number s all e d (first_scope given) ∷ facts)
  defined_here n y e (p.Let q a) given facts m = inl m
  defined_here n y e (p.Var stable x u a) given facts m = inl m
  defined_here n y e (p.Func x g body) given facts m = absurd m
  defined_here n y e (p.Method query context x g body) given facts m = absurd m
  defined_here n y e (p.System x body) given facts m = absurd m
  defined_here n y e (p.TypeAlias x parameters u) given facts m = absurd m
  defined_here n y e (p.Class x g fields) given facts m = absurd m
  defined_here n y e (p.NamedObject x fields) given facts m = inl m
  defined_here n y e (p.Evaluate a) given facts m = absurd m

  pub defined_before : (ds : Declarations ℕ) (bs : Declarations Note) → AsLong ds bs → (given : List Given) (m n : ℕ) (y : Bytes) → m < n → Among y (at (declareds ds) m).defines
      → DefinedBefore n y (facts_of slots number s all ds bs given)
  defined_before p.End bs l given m n y h i = absurd i
  defined_before (p.Then public k d rest) p.End l given m n y h i = absurd l
  defined_before (p.Then public k d rest) (p.Then public_too j b bs) l given m zero y h i = absurd (omega arith)
  defined_before (p.Then public k d rest) (p.Then public_too j b bs) l given zero (suc n) y h i = defined_here n y (declared b) d given (facts_of slots number s all rest bs (others given)) i
  defined_before (p.Then public k d rest) (p.Then public_too j b bs) l given (suc m) (suc n) y h i =
      let less : m < n = omega arith in
      defined_on n y (fact_of slots number s all (declared b) d (first_scope given)) (facts_of slots number s all rest bs (others given)) (defined_before rest bs l (others given) m n y less i)

  function_here : (k : ℕ) (y : Bytes) (e : Declared) (d : Declaration ℕ) (given : List Given) (facts : List Fact) → (declared d).function ≡ Some y → place all e < k
      → FunctionBefore k y (fact_of slots number s all e d (first_scope given) ∷ facts)
  function_here k y e (p.Let q a) given facts i l = absurd (no_some y i)
  function_here k y e (p.Var stable x u a) given facts i l = absurd (no_some y i)
  function_here k y e (p.Func x g body) given facts i l = inl (some_is x.bytes y i, l)
  function_here k y e (p.Method query context x g body) given facts i l = absurd (no_some y i)
  function_here k y e (p.System x body) given facts i l = absurd (no_some y i)
  function_here k y e (p.TypeAlias x parameters u) given facts i l = absurd (no_some y i)
  function_here k y e (p.Class x g fields) given facts i l = inl (some_is x.bytes y i, l)
  function_here k y e (p.NamedObject x fields) given facts i l = absurd (no_some y i)
  function_here k y e (p.Evaluate a) given facts i l = absurd (no_some y i)

  pub function_before : (ds : Declarations ℕ) (bs : Declarations Note) → AsLong ds bs → (given : List Given) (m k : ℕ) (y : Bytes) → (at (declareds ds) m).function ≡ Some y
      → place all (at (declareds bs) m) < k → FunctionBefore k y (facts_of slots number s all ds bs given)
  function_before p.End bs l given m k y e h = absurd (no_some y e)
  function_before (p.Then public n d rest) p.End l given m k y e h = absurd l
  function_before (p.Then public n d rest) (p.Then public_too j b bs) l given zero k y e h = function_here k y (declared b) d given (facts_of slots number s all rest bs (others given)) e h
  function_before (p.Then public n d rest) (p.Then public_too j b bs) l given (suc m) k y e h =
      function_on k y (fact_of slots number s all (declared b) d (first_scope given)) (facts_of slots number s all rest bs (others given)) (function_before rest bs l (others given) m k y e h)
