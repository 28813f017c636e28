-- The names of lists of declarations.
use Rattle.std.proofs.Common.{◌≡◌, ◌⊎◌, inl, inr, ℕ, Bool, List, [], ◌∷◌, ◌++◌, refl, sym, ap₂, subst}
use Rattle.subtype_laws.specs.Reached.{Among}
use Rattle.typing_rules.specs.AbstractSyntax.{Bytes, Declaration, Declarations}
use Rattle.typing_rules.specs.AbstractSyntax as p
use Rattle.typing_rules.specs.Contexts.{Scope, Context, with_values, with_types, constant, generic}
use Rattle.typing_rules.specs.DeclaredTypes.{within, with_list, class_type}
use Rattle.typing_rules.specs.Definitions.{Definitions}
use Rattle.typing_rules.specs.Judgements.{Judgement}
use Rattle.typing_rules.specs.Lists.{Made, Entry as Given, Run, Listed, TakesMade}
use Rattle.typing_rules.specs.Signatures.{SignatureOf, Signatures, DefinitionsOf, ParameterTypes, AsyncResult, method_sort}
use Rattle.typing_rules.specs.Terms.{Term, unlisted, unit}
use Rattle.typing_rules.specs.Terms as t
use Rattle.typing_rules.specs.TypedTrees.{Note}
use Rattle.typing_rules.specs.TypeScopes.{TypeScope, names_of as generic_names, places_of}
use Rattle.typing_rules.specs.Types.{AllShareable, Generics, ReadsOr}
use Rattle.desugaring.specs.FreeNames.{names_of, names_of_list, in_declaration, in_declarations, without}
use Rattle.desugaring_laws.specs.Yields.{Yields}
use Rattle.desugaring_laws.proofs.Yielding.{anything, part as after}
use Rattle.kept_names.specs.Plain.{DeclarationIsPlain, ArePlain}
use Rattle.kept_names.specs.Keeping.{IsBound, Keeps, DeclarationKept, scope_of, AllKept, ListKept}
use Rattle.kept_names.proofs.Names.{bound_here, bound_left, bound_right, among_left, among_right, among_either, left_of, stays_of, two, weaker}

-- ---- what a list has

-- what is bound around a list is bound where each declaration is judged
around_one : (s t : Scope) → ((y : Bytes) → IsBound s y → IsBound t y) → (d : Declaration ℕ) (y : Bytes) → IsBound s y → IsBound (scope_of s t d) y
around_one s t h (p.Let q a) y b = b
around_one s t h (p.Var stable x u a) y b = b
around_one s t h (p.Func x g body) y b = h y b
around_one s t h (p.Method query context x g body) y b = b
around_one s t h (p.System x body) y b = b
around_one s t h (p.TypeAlias x parameters u) y b = b
around_one s t h (p.Class x g fields) y b = h y b
around_one s t h (p.NamedObject x fields) y b = b
around_one s t h (p.Evaluate a) y b = b

pub same_names : (s t : Scope) (ds : Declarations ℕ) (bs : Declarations Note) → AllKept s t ds bs → names_of_list bs ≡ names_of_list ds
same_names s t p.End p.End k = refl
same_names s t p.End (p.Then public m b bs) k = absurd k
same_names s t (p.Then public n d rest) p.End k = absurd k
same_names s t (p.Then public n d rest) (p.Then public_too m b bs) k = ap₂ (λ x y. x ++ y) k.0.names (same_names s t rest bs k.1)

all_keep : (s t : Scope) → ((y : Bytes) → IsBound s y → IsBound t y) → (ds : Declarations ℕ) (bs : Declarations Note) → AllKept s t ds bs → Keeps s (ArePlain ds) (in_declarations ds) (in_declarations bs)
all_keep s t h p.End p.End k = record { plain = tt; fewer = λ y m. m; kept = λ y m b. m }
all_keep s t h p.End (p.Then public m b bs) k = absurd k
all_keep s t h (p.Then public n d rest) p.End k = absurd k
all_keep s t h (p.Then public n d rest) (p.Then public_too m b bs) k =
    two s (DeclarationIsPlain d) (ArePlain rest) (in_declaration d) (in_declaration b) (in_declarations rest) (in_declarations bs)
    (weaker s (scope_of s t d) (DeclarationIsPlain d) (in_declaration d) (in_declaration b) (around_one s t h d) k.0.keeps) (all_keep s t h rest bs k.1)

-- seen from outside
pub list_keeps : (s : Scope) (ds : Declarations ℕ) (bs : Declarations Note) → ListKept s ds bs
    → Keeps s (ArePlain ds) (without (names_of_list ds) (in_declarations ds)) (without (names_of_list bs) (in_declarations bs))
list_keeps s ds bs k = record {
  plain = all.plain;
  fewer = λ y m. let l = left_of (names_of_list bs) (in_declarations bs) y m in stays_of (names_of_list ds) (in_declarations ds) y (all.fewer y l.0) (λ n. l.1 (subst (λ z. Among y z) (sym names) n));
  kept = λ y m b. let l = left_of (names_of_list ds) (in_declarations ds) y m in stays_of (names_of_list bs) (in_declarations bs) y (all.kept y l.0 b) (λ n. l.1 (subst (λ z. Among y z) names n));
} where
  names : names_of_list bs ≡ names_of_list ds
  names = same_names s k.inner ds bs k.each

  all : Keeps s (ArePlain ds) (in_declarations ds) (in_declarations bs)
  all = all_keep s k.inner k.around ds bs k.each

-- ---- what is evaluated in order

abbrev pub One : Scope → Declaration ℕ → List Made → List Made → Type 0
One s d ms ns = (m : Made) × (ms ≡ m ∷ ns) × DeclarationKept s d m.1

-- what is taken of the declarations that were evaluated: the next one, or none
abbrev pub TakesOf : Scope → Declaration ℕ → List Made → List Made → Type 0
TakesOf s (p.Let q a) ms ns = One s (p.Let q a) ms ns
TakesOf s (p.Var stable x u a) ms ns = One s (p.Var stable x u a) ms ns
TakesOf s (p.NamedObject x fields) ms ns = One s (p.NamedObject x fields) ms ns
TakesOf s (p.Evaluate a) ms ns = One s (p.Evaluate a) ms ns
TakesOf s _ ms ns = ms ≡ ns

abbrev pub AreTaken : Scope → Declarations ℕ → List Made → Type 0
AreTaken s p.End ms = Unit {0}
AreTaken s (p.Then public n d rest) ms = (ns : List Made) × TakesOf s d ms ns × AreTaken s rest ns

-- the names that are bound in order
abbrev pub evaluated_names : Declaration ℕ → List Bytes
evaluated_names (p.Func x g body) = []
evaluated_names (p.Method query context x g body) = []
evaluated_names (p.Class x g fields) = []
evaluated_names d = names_of d

abbrev pub all_evaluated : Declarations ℕ → List Bytes
all_evaluated p.End = []
all_evaluated (p.Then public n d rest) = evaluated_names d ++ all_evaluated rest

pub record Evaluated (s : Scope) (d : Declaration ℕ) (one : Given) : Type 0 where
  pub taken : (ns : List Made) → TakesOf s d (one.made ++ ns) ns
  pub binds : (y : Bytes) → Among y (evaluated_names d) → IsBound one.scope y

-- from here on, where this is bound
pub record Ran (s now : Scope) (ds : Declarations ℕ) (run : Run) : Type 0 where
  pub taken : AreTaken s ds run.made
  pub around : (y : Bytes) → IsBound now y → IsBound run.known.values y
  pub binds : (y : Bytes) → Among y (all_evaluated ds) → IsBound run.known.values y

pub ran_on : (s now : Scope) (public : Bool) (n : ℕ) (d : Declaration ℕ) (rest : Declarations ℕ) (one : Given) (run : Run) → Evaluated s d one → Ran s (one.scope ++ now) rest run
    → Ran s now (p.Then public n d rest) (record { type = run.type; known = run.known; made = one.made ++ run.made })
ran_on s now public n d rest one run i j = record {
  taken = (run.made, i.taken run.made, j.taken);
  around = λ y b. j.around y (bound_right one.scope now y b);
  binds = λ y m. binds y (among_either (evaluated_names d) (all_evaluated rest) y m);
} where
  binds : (y : Bytes) → Among y (evaluated_names d) ⊎ Among y (all_evaluated rest) → IsBound run.known.values y
  binds y (inl m) = j.around y (bound_left one.scope now y (i.binds y m))
  binds y (inr m) = j.binds y m

-- ---- signatures

abbrev signed_names : Declaration ℕ → List Bytes
signed_names (p.Func x g body) = x.bytes ∷ []
signed_names (p.Method query context x g body) = x.bytes ∷ []
signed_names (p.Class x g fields) = x.bytes ∷ []
signed_names _ = []

abbrev all_signed : Declarations ℕ → List Bytes
all_signed p.End = []
all_signed (p.Then public n d rest) = signed_names d ++ all_signed rest

-- each name is bound in order or by a signature
one_split : (d : Declaration ℕ) (y : Bytes) → Among y (names_of d) → Among y (signed_names d) ⊎ Among y (evaluated_names d)
one_split (p.Let q a) y m = inr m
one_split (p.Var stable x u a) y m = inr m
one_split (p.Func x g body) y m = inl m
one_split (p.Method query context x g body) y m = inl m
one_split (p.System x body) y m = absurd m
one_split (p.TypeAlias x parameters u) y m = absurd m
one_split (p.Class x g fields) y m = inl m
one_split (p.NamedObject x fields) y m = inr m
one_split (p.Evaluate a) y m = absurd m

module _ (defs : Definitions) (terms : List Term) (s : TypeScope) where
  abbrev OneSigned : Declaration ℕ → Scope → Type 0
  OneSigned d names = (y : Bytes) → Among y (signed_names d) → IsBound names y

  only : (x : Bytes) (names : Scope) → IsBound names x → (y : Bytes) → Among y (x ∷ []) → IsBound names y
  only x names b y (inl e) = subst (λ z. IsBound names z) e b
  only x names b y (inr m) = absurd m

  one_signed : (d : Declaration ℕ) → Yields defs terms (SignatureOf defs s d) (OneSigned d)
  one_signed (p.Let q a) = λ y m. absurd m
  one_signed (p.Var stable x u a) = λ y m. absurd m
  one_signed (p.Func x g body) =
      let P = OneSigned (p.Func x g body) in
      after defs terms (Generics defs (within s g) g.generics) _ (λ z. Unit {0}) P (anything defs terms (Generics defs (within s g) g.generics)) (λ z i.
      after defs terms (ParameterTypes defs (within s g) g.parameters) _ (λ us. Unit {0}) P (anything defs terms (ParameterTypes defs (within s g) g.parameters)) (λ us k.
      after defs terms (ReadsOr defs (within s g) g.result unit) _ (λ r. Unit {0}) P (anything defs terms (ReadsOr defs (within s g) g.result unit)) (λ r h. λ m.
      let b = generic (places_of (generic_names g.generics)) (t.Function (unlisted us) r) in only x.bytes ((x.bytes, b) ∷ []) (bound_here x.bytes b []))))
  one_signed (p.Method query context x g body) =
      let P = OneSigned (p.Method query context x g body) in
      after defs terms (ParameterTypes defs s g.parameters) _ (λ us. Unit {0}) P (anything defs terms (ParameterTypes defs s g.parameters)) (λ us k.
      after defs terms (AsyncResult defs x.at s g.result) _ (λ r. Unit {0}) P (anything defs terms (AsyncResult defs x.at s g.result)) (λ r h.
      after defs terms (AllShareable x.at us r) _ (λ z. Unit {0}) P (anything defs terms (AllShareable x.at us r)) (λ z i. λ m.
      let b = constant (t.Shared (method_sort query) (unlisted us) r) in only x.bytes ((x.bytes, b) ∷ []) (bound_here x.bytes b []))))
  one_signed (p.System x body) = λ y m. absurd m
  one_signed (p.TypeAlias x parameters u) = λ y m. absurd m
  one_signed (p.Class x g fields) =
      let P = OneSigned (p.Class x g fields) in
      after defs terms (Generics defs (within s g) g.generics) _ (λ z. Unit {0}) P (anything defs terms (Generics defs (within s g) g.generics)) (λ z i.
      after defs terms (ParameterTypes defs (within s g) g.parameters) _ (λ us. Unit {0}) P (anything defs terms (ParameterTypes defs (within s g) g.parameters)) (λ us k. λ m.
      let b = generic (places_of (generic_names g.generics)) (t.Function (unlisted us) (class_type (within s g) x)) in only x.bytes ((x.bytes, b) ∷ []) (bound_here x.bytes b [])))
  one_signed (p.NamedObject x fields) = λ y m. absurd m
  one_signed (p.Evaluate a) = λ y m. absurd m

  abbrev AreSigned : Declarations ℕ → Scope → Type 0
  AreSigned ds names = (y : Bytes) → Among y (all_signed ds) → IsBound names y

  are_signed : (ds : Declarations ℕ) → Yields defs terms (Signatures defs s ds) (AreSigned ds)
  are_signed p.End = λ y m. absurd m
  are_signed (p.Then public n d rest) =
      let P = AreSigned (p.Then public n d rest) in
      after defs terms (SignatureOf defs s d) _ (OneSigned d) P (one_signed d) (λ one i.
      after defs terms (Signatures defs s rest) _ (AreSigned rest) P (are_signed rest) (λ more j. λ y m. both one more i j y (among_either (signed_names d) (all_signed rest) y m))) where
        both : (one more : Scope) → OneSigned d one → AreSigned rest more → (y : Bytes) → Among y (signed_names d) ⊎ Among y (all_signed rest) → IsBound (more ++ one) y
        both one more i j y (inl m) = bound_right more one y (i y m)
        both one more i j y (inr m) = bound_left more one y (j y m)

-- what is bound at the end of a list
own_bound : (ds : Declarations ℕ) (s : Scope) → ((y : Bytes) → Among y (all_signed ds) → IsBound s y) → ((y : Bytes) → Among y (all_evaluated ds) → IsBound s y) → (y : Bytes) → Among y (names_of_list ds) → IsBound s y
own_bound p.End s h k y m = absurd m
own_bound (p.Then public n d rest) s h k y m =
    by (λ i. own_bound rest s (λ z j. h z (among_right (signed_names d) (all_signed rest) z j)) (λ z j. k z (among_right (evaluated_names d) (all_evaluated rest) z j)) y i)
    (among_either (names_of d) (names_of_list rest) y m) where
      first : Among y (signed_names d) ⊎ Among y (evaluated_names d) → IsBound s y
      first (inl i) = h y (among_left (signed_names d) (all_signed rest) y i)
      first (inr i) = k y (among_left (evaluated_names d) (all_evaluated rest) y i)

      by : (Among y (names_of_list rest) → IsBound s y) → Among y (names_of d) ⊎ Among y (names_of_list rest) → IsBound s y
      by others (inl i) = first (one_split d y i)
      by others (inr i) = others i

module _ (defs : Definitions) (terms : List Term) where
  abbrev pub BodyKept : Scope → Scope → Declaration ℕ → List Made → Made × List Made → Type 0
  BodyKept s t d ns q = (q.1 ≡ ns) × DeclarationKept (scope_of s t d) d q.0.1

  pub takes_one : (s : Scope) (d : Declaration ℕ) (ms ns : List Made) → One s d ms ns → Yields defs terms (TakesMade ms) (λ q. (q.1 ≡ ns) × DeclarationKept s d q.0.1)
  takes_one s d ms ns i = subst (λ z. Yields defs terms (TakesMade z) (λ q. (q.1 ≡ ns) × DeclarationKept s d q.0.1)) (sym i.1) (refl, i.2)

  -- a whole list, where what is evaluated and its bodies are judged so
  pub listed : (e : Context) (ds : Declarations ℕ) (order : Context → Judgement Run) (bodies : Context → List Made → Judgement (Declarations Note))
      → ((k : Context) → ((y : Bytes) → IsBound e.values y → IsBound k.values y) → Yields defs terms (order k) (Ran e.values k.values ds))
      → ((k : Context) (ms : List Made) → AreTaken e.values ds ms → Yields defs terms (bodies k ms) (λ bs. AllKept e.values k.values ds bs))
      → Yields defs terms (Listed defs e ds order bodies) (λ q. ListKept e.values ds q.1)
  listed e ds order bodies h k =
      let inner = with_list e.types ds in
      let P = λ (q : Term × Declarations Note). ListKept e.values ds q.1 in
      after defs terms (DefinitionsOf defs inner ds) _ (λ u. Unit {0}) P (anything defs terms (DefinitionsOf defs inner ds)) (λ u z.
      after defs terms (Signatures defs inner ds) _ (AreSigned defs terms inner ds) P (are_signed defs terms inner ds) (λ names i.
      let known = with_values names (with_types inner e) in
      after defs terms (order known) _ (Ran e.values known.values ds) P (h known (λ y b. bound_right names e.values y b)) (λ run j.
      after defs terms (bodies run.known run.made) _ (λ bs. AllKept e.values run.known.values ds bs) P (k run.known run.made j.taken) (λ made l.
      record {
        inner = run.known.values;
        around = λ y b. j.around y (bound_right names e.values y b);
        own = own_bound ds run.known.values (λ y m. j.around y (bound_left names e.values y (i y m))) j.binds;
        each = l;
      }))))
