-- Declarations as they are placed, before and after they are judged.
use Rattle.std.proofs.Common.{◌≡◌, ◌⊎◌, inl, inr, ℕ, zero, suc, Bool, true, List, ◌∷◌, map, Some, None, refl, ap, subst}
use Rattle.mo_types.specs.declared.node.TypeId.{TypeId}
use Rattle.subtype_laws.specs.Reached.{Among}
use Rattle.typed_tree.specs.Placing.{Declared, is_among}
use Rattle.typing_rules.specs.AbstractSyntax.{Bytes, Declaration, Declarations}
use Rattle.typing_rules.specs.AbstractSyntax as p
use Rattle.typing_rules.specs.Contexts.{Scope}
use Rattle.typing_rules.specs.Definitions.{Definitions}
use Rattle.typing_rules.specs.Terms.{Term}
use Rattle.typing_rules.specs.TypedTrees.{Note}
use Rattle.desugaring.specs.Expressions.{pieces}
use Rattle.desugaring.specs.FreeNames.{declared, names_of, names_of_list, in_declaration, in_declarations}
use Rattle.kept_names.specs.Keeping.{IsBound, DeclarationKept, scope_of, AllKept}
use Rattle.kept_names.specs.Plain.{ArePlain}
use Rattle.kept_names.proofs.Names.{among_left, among_right, among_either, any_among, among_any}
use Rattle.kernel_places.specs.Reaching.{at}
use Rattle.order_laws.specs.Ordered.{declareds}

pub placed_so : (defs : Definitions) (number : Term → TypeId) (bs : Declarations Note) → map (λ b. b.declared) (pieces defs number bs) ≡ declareds bs
placed_so defs number p.End = refl
placed_so defs number (p.Then public n b bs) = ap (λ xs. declared b ∷ xs) (placed_so defs number bs)

pub all_plain : (s t : Scope) (ds : Declarations ℕ) (bs : Declarations Note) → AllKept s t ds bs → ArePlain ds
all_plain s t p.End p.End k = tt
all_plain s t p.End (p.Then public m b bs) k = absurd k
all_plain s t (p.Then public n d rest) p.End k = absurd k
all_plain s t (p.Then public n d rest) (p.Then public_too m b bs) k = (k.0.keeps.plain, all_plain s t rest bs k.1)

-- as it is written, and as it is made; of a function each of these names is kept
pub record Alike (Own : Bytes → Type 0) (a b : Declared) : Type 0 where
  pub defines : b.defines ≡ a.defines
  pub function : b.function ≡ a.function
  pub fewer : (y : Bytes) → is_among y b.occurs ≡ true → is_among y a.occurs ≡ true
  pub kept : (f : Bytes) → a.function ≡ Some f → (y : Bytes) → Own y → is_among y a.occurs ≡ true → is_among y b.occurs ≡ true

module _ (Own : Bytes → Type 0) (s t : Scope) (own : (y : Bytes) → Own y → IsBound t y) where
  fewer : (d : Declaration ℕ) (b : Declaration Note) → DeclarationKept (scope_of s t d) d b → (y : Bytes) → is_among y (declared b).occurs ≡ true → is_among y (declared d).occurs ≡ true
  fewer d b k y h = among_any (in_declaration d) y (k.keeps.fewer y (any_among (in_declaration b) y h))

  -- what a function uses of its list
  uses : (d : Declaration ℕ) (b : Declaration Note) → DeclarationKept t d b → (y : Bytes) → Own y → is_among y (in_declaration d) ≡ true → is_among y (in_declaration b) ≡ true
  uses d b k y o h = among_any (in_declaration b) y (k.keeps.kept y (any_among (in_declaration d) y h) (own y o))

  no_some : (f : Bytes) → None ≡ Some f → ⊥
  no_some f h = cc

  kept : (d : Declaration ℕ) (b : Declaration Note) → DeclarationKept (scope_of s t d) d b → (f : Bytes) → (declared d).function ≡ Some f → (y : Bytes) → Own y → is_among y (declared d).occurs ≡ true
      → is_among y (declared b).occurs ≡ true
  kept (p.Let q a) b k f e y o h = absurd (no_some f e)
  kept (p.Var stable x u a) b k f e y o h = absurd (no_some f e)
  kept (p.Func x g body) b k f e y o h = uses (p.Func x g body) b k y o h
  kept (p.Method query context x g body) b k f e y o h = absurd (no_some f e)
  kept (p.System x body) b k f e y o h = absurd (no_some f e)
  kept (p.TypeAlias x parameters u) b k f e y o h = absurd (no_some f e)
  kept (p.Class x g fields) b k f e y o h = uses (p.Class x g fields) b k y o h
  kept (p.NamedObject x fields) b k f e y o h = absurd (no_some f e)
  kept (p.Evaluate a) b k f e y o h = absurd (no_some f e)

  one_alike : (d : Declaration ℕ) (b : Declaration Note) → DeclarationKept (scope_of s t d) d b → Alike Own (declared d) (declared b)
  one_alike d b k = record { defines = k.defines; function = k.function; fewer = fewer d b k; kept = kept d b k }

  pub all_alike : (ds : Declarations ℕ) (bs : Declarations Note) → AllKept s t ds bs → (k : ℕ) → Alike Own (at (declareds ds) k) (at (declareds bs) k)
  all_alike p.End p.End h k = record { defines = refl; function = refl; fewer = λ y i. i; kept = λ f e y o i. i }
  all_alike p.End (p.Then public m b bs) h k = absurd h
  all_alike (p.Then public n d rest) p.End h k = absurd h
  all_alike (p.Then public n d rest) (p.Then public_too m b bs) h zero = one_alike d b h.0
  all_alike (p.Then public n d rest) (p.Then public_too m b bs) h (suc k) = all_alike rest bs h.1 k

-- ---- where the names of a list come from

pub data Located (ds : List Declared) (Public : Bytes → Type 0) (y : Bytes) : Type 0 where
  Defined : (m : ℕ) → Among y (at ds m).defines → Located ds Public y
  IsFunction : (m : ℕ) → (at ds m).function ≡ Some y → Located ds Public y
  IsPublic : Public y → Located ds Public y

-- the name of each public function is one of these
abbrev pub AllPublic : (Bytes → Type 0) → Declarations ℕ → Type 0
AllPublic Public p.End = Unit {0}
AllPublic Public (p.Then public n (p.Method query context x g body) rest) = Public x.bytes × AllPublic Public rest
AllPublic Public (p.Then public n _ rest) = AllPublic Public rest

module _ (Public : Bytes → Type 0) where
  abbrev Of : Declarations ℕ → Bytes → Type 0
  Of ds y = Located (declareds ds) Public y

  public_rest : (public : Bool) (n : ℕ) (d : Declaration ℕ) (rest : Declarations ℕ) → AllPublic Public (p.Then public n d rest) → AllPublic Public rest
  public_rest public n (p.Let q a) rest h = h
  public_rest public n (p.Var stable x u a) rest h = h
  public_rest public n (p.Func x g body) rest h = h
  public_rest public n (p.Method query context x g body) rest h = h.1
  public_rest public n (p.System x body) rest h = h
  public_rest public n (p.TypeAlias x parameters u) rest h = h
  public_rest public n (p.Class x g fields) rest h = h
  public_rest public n (p.NamedObject x fields) rest h = h
  public_rest public n (p.Evaluate a) rest h = h

  here : (public : Bool) (n : ℕ) (d : Declaration ℕ) (rest : Declarations ℕ) → AllPublic Public (p.Then public n d rest) → (y : Bytes) → Among y (names_of d) → Of (p.Then public n d rest) y
  here public n (p.Let q a) rest h y m = Defined zero m
  here public n (p.Var stable x u a) rest h y m = Defined zero m
  here public n (p.Func x g body) rest h y (inl e) = IsFunction zero (ap Some e)
  here public n (p.Func x g body) rest h y (inr m) = absurd m
  here public n (p.Method query context x g body) rest h y (inl e) = IsPublic (subst Public e h.0)
  here public n (p.Method query context x g body) rest h y (inr m) = absurd m
  here public n (p.System x body) rest h y m = absurd m
  here public n (p.TypeAlias x parameters u) rest h y m = absurd m
  here public n (p.Class x g fields) rest h y (inl e) = IsFunction zero (ap Some e)
  here public n (p.Class x g fields) rest h y (inr m) = absurd m
  here public n (p.NamedObject x fields) rest h y m = Defined zero m
  here public n (p.Evaluate a) rest h y m = absurd m

  further : (public : Bool) (n : ℕ) (d : Declaration ℕ) (rest : Declarations ℕ) (y : Bytes) → Of rest y → Of (p.Then public n d rest) y
  further public n d rest y (Defined m i) = Defined (suc m) i
  further public n d rest y (IsFunction m e) = IsFunction (suc m) e
  further public n d rest y (IsPublic i) = IsPublic i

  pub located : (ds : Declarations ℕ) → AllPublic Public ds → (y : Bytes) → Among y (names_of_list ds) → Located (declareds ds) Public y
  located p.End h y m = absurd m
  located (p.Then public n d rest) h y m = by (λ i. located rest (public_rest public n d rest h) y i) (among_either (names_of d) (names_of_list rest) y m) where
    by : (Among y (names_of_list rest) → Of rest y) → Among y (names_of d) ⊎ Among y (names_of_list rest) → Of (p.Then public n d rest) y
    by rec (inl i) = here public n d rest h y i
    by rec (inr i) = further public n d rest y (rec i)

pub used_in : (ds : Declarations ℕ) (k : ℕ) (y : Bytes) → Among y (at (declareds ds) k).occurs → Among y (in_declarations ds)
used_in p.End k y m = absurd m
used_in (p.Then public n d rest) zero y m = among_left (in_declaration d) (in_declarations rest) y m
used_in (p.Then public n d rest) (suc k) y m = among_right (in_declaration d) (in_declarations rest) y (used_in rest k y m)
