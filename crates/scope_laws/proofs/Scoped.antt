-- Names of types, with those of type parameters and of definitions.
use Rattle.std.proofs.Common.{◌≡◌, ◌⊎◌, inl, inr, ℕ, Bool, true, false, List, [], ◌∷◌, ◌++◌, length, Option, Some, refl, sym, ◌∙◌, subst}
use Rattle.std.proofs.lemmas.List.{append_assoc, append-nil}
use Rattle.std.specs.Prelude.{cond}
use Rattle.std.specs.Str.{bytes_eq}
use Rattle.mo_scopes.specs.Scopes.{named}
use Rattle.mo_types.specs.Sub.{Each}
use Rattle.typed_tree.specs.Instances.{IsAmong}
use Rattle.typing_rules.specs.AbstractSyntax.{Bytes, Named, Declaration, Declarations}
use Rattle.typing_rules.specs.AbstractSyntax as p
use Rattle.typing_rules.specs.DeclaredTypes.{with_declared, with_list}
use Rattle.typing_rules.specs.TypeScopes.{TypeName, IsParameter, IsDefinition, TypeScope, type_named, with_parameter, with_parameters, with_definition, places_of}
use Rattle.desugaring_laws.specs.Scopes.{IsNameIn}
use Rattle.desugaring_laws.proofs.Scoping.{each_among_of, name_more}
use Rattle.desugaring_laws.proofs.Weakening.{among_behind, each_more}
use Rattle.scope_laws.specs.Laws.{ParametersStayFine}
use Rattle.scope_laws.proofs.Parts.{among_first, among_last, among_split, each_of}

-- each name is one in the scope of the type parameters there
abbrev pub AreNamesIn : TypeScope → Type 0
AreNamesIn s = (x : Bytes) (d : TypeName) → type_named s x ≡ Some d → IsNameIn s.parameters d

same_name : (d e : TypeName) → Some d ≡ Some e → d ≡ e
same_name d e h = cc

-- what a name stands for that is the first, or stands behind
first_or_behind : (b : Bool) (d : TypeName) (o : Option TypeName) (e : TypeName) → cond b (Some d) o ≡ Some e → (d ≡ e) ⊎ (o ≡ Some e)
first_or_behind true d o e h = inl (same_name d e h)
first_or_behind false d o e h = inr h

-- ---- one more

pub names_with_parameter : (s : TypeScope) → AreNamesIn s → (x : Named) → AreNamesIn (with_parameter s x)
names_with_parameter s h x y d e = by (first_or_behind (bytes_eq y x.bytes) (IsParameter x.at) (named s.names y) d e) where
  by : (IsParameter x.at ≡ d) ⊎ (named s.names y ≡ Some d) → IsNameIn (s.parameters ++ x.at ∷ []) d
  by (inl q) = subst (λ z. IsNameIn (s.parameters ++ x.at ∷ []) z) q (among_last s.parameters x.at)
  by (inr q) = name_more s.parameters (s.parameters ++ x.at ∷ []) (among_first s.parameters (x.at ∷ [])) d (h y d q)

pub names_with_definition : (s : TypeScope) → AreNamesIn s → (x : Named) (own : ℕ) → AreNamesIn (with_definition s x own)
names_with_definition s h x own y d e = by (first_or_behind (bytes_eq y x.bytes) (IsDefinition x.at s.parameters own) (named s.names y) d e) where
  by : (IsDefinition x.at s.parameters own ≡ d) ⊎ (named s.names y ≡ Some d) → IsNameIn s.parameters d
  by (inl q) = subst (λ z. IsNameIn s.parameters z) q (each_of (λ v. IsAmong v s.parameters) s.parameters (λ v m. m))
  by (inr q) = h y d q

-- ---- type parameters

pub names_with_parameters : (xs : List Named) (s : TypeScope) → AreNamesIn s → AreNamesIn (with_parameters s xs)
names_with_parameters [] s h = h
names_with_parameters (x ∷ xs) s h = names_with_parameters xs (with_parameter s x) (names_with_parameter s h x)

pub parameters_with : (xs : List Named) (s : TypeScope) → (with_parameters s xs).parameters ≡ s.parameters ++ places_of xs
parameters_with [] s = sym (append-nil s.parameters)
parameters_with (x ∷ xs) s = parameters_with xs (with_parameter s x) ∙ append_assoc s.parameters (x.at ∷ []) (places_of xs)

-- a definition is no type parameter
behind_parameter : (b : Bool) (at : ℕ) (o : Option TypeName) (n : ℕ) (outer : List ℕ) (own : ℕ) → cond b (Some (IsParameter at)) o ≡ Some (IsDefinition n outer own) → o ≡ Some (IsDefinition n outer own)
behind_parameter true at o n outer own e = cc
behind_parameter false at o n outer own e = e

pub definition_named : (xs : List Named) (s : TypeScope) (y : Bytes) (at : ℕ) (outer : List ℕ) (own : ℕ) → type_named (with_parameters s xs) y ≡ Some (IsDefinition at outer own) → type_named s y ≡ Some (IsDefinition at outer own)
definition_named [] s y at outer own e = e
definition_named (x ∷ xs) s y at outer own e = behind_parameter (bytes_eq y x.bytes) x.at (named s.names y) at outer own (definition_named xs (with_parameter s x) y at outer own e)

pub parameters_stay_fine : ParametersStayFine
parameters_stay_fine defs vs s fine xs = record {
  names = names_with_parameters xs s fine.names;
  futures = λ y at outer own e. fine.futures y at outer own (definition_named xs s y at outer own e);
  parameters = subst (λ ps. Each (λ v. IsAmong v (places_of xs ++ vs)) ps) (sym (parameters_with xs s)) (each_joined s.parameters (places_of xs)
      (each_more (λ v. IsAmong v vs) (λ v. IsAmong v (places_of xs ++ vs)) (λ v m. among_behind (places_of xs) vs v m) s.parameters fine.parameters)
      (each_of (λ v. IsAmong v (places_of xs ++ vs)) (places_of xs) (λ v m. among_first (places_of xs) vs v m)));
  others = subst (λ ps. Each (λ v. IsAmong v ps) (places_of xs ++ vs)) (sym (parameters_with xs s)) (each_of (λ v. IsAmong v (s.parameters ++ places_of xs)) (places_of xs ++ vs) (λ v m. other v (among_split (places_of xs) vs v m)));
}
  where
    other : (v : ℕ) → IsAmong v (places_of xs) ⊎ IsAmong v vs → IsAmong v (s.parameters ++ places_of xs)
    other v (inl m) = among_behind s.parameters (places_of xs) v m
    other v (inr m) = among_first s.parameters (places_of xs) v (each_among_of vs (λ u. IsAmong u s.parameters) fine.others v m)

    each_joined : (ps qs : List ℕ) → Each (λ v. IsAmong v (places_of xs ++ vs)) ps → Each (λ v. IsAmong v (places_of xs ++ vs)) qs → Each (λ v. IsAmong v (places_of xs ++ vs)) (ps ++ qs)
    each_joined [] qs h k = k
    each_joined (q ∷ ps) qs h k = (h.0, each_joined ps qs h.1 k)

-- ---- the types that a list defines

pub names_with_declared : (s : TypeScope) → AreNamesIn s → (d : Declaration ℕ) → AreNamesIn (with_declared s d)
names_with_declared s h (p.TypeAlias x ps a) = names_with_definition s h x (length ps)
names_with_declared s h (p.Class x g fields) = names_with_definition s h x (length g.generics)
names_with_declared s h (p.Let q a) = h
names_with_declared s h (p.Var stable x u a) = h
names_with_declared s h (p.Func x g body) = h
names_with_declared s h (p.Method query context x g body) = h
names_with_declared s h (p.System x body) = h
names_with_declared s h (p.NamedObject x fields) = h
names_with_declared s h (p.Evaluate a) = h

pub names_with_list : (ds : Declarations ℕ) (s : TypeScope) → AreNamesIn s → AreNamesIn (with_list s ds)
names_with_list p.End s h = h
names_with_list (p.Then public n d rest) s h = names_with_list rest (with_declared s d) (names_with_declared s h d)

parameters_declared : (s : TypeScope) (d : Declaration ℕ) → (with_declared s d).parameters ≡ s.parameters
parameters_declared s (p.TypeAlias x ps a) = refl
parameters_declared s (p.Class x g fields) = refl
parameters_declared s (p.Let q a) = refl
parameters_declared s (p.Var stable x u a) = refl
parameters_declared s (p.Func x g body) = refl
parameters_declared s (p.Method query context x g body) = refl
parameters_declared s (p.System x body) = refl
parameters_declared s (p.NamedObject x fields) = refl
parameters_declared s (p.Evaluate a) = refl

pub parameters_listed : (ds : Declarations ℕ) (s : TypeScope) → (with_list s ds).parameters ≡ s.parameters
parameters_listed p.End s = refl
parameters_listed (p.Then public n d rest) s = parameters_listed rest (with_declared s d) ∙ parameters_declared s d

-- a definition of this number is in the list
abbrev pub Defined : Declarations ℕ → ℕ → Type 0
Defined p.End at = ⊥
Defined (p.Then public n (p.TypeAlias x ps a) rest) at = (x.at ≡ at) ⊎ Defined rest at
Defined (p.Then public n (p.Class x g fields) rest) at = (x.at ≡ at) ⊎ Defined rest at
Defined (p.Then public n _ rest) at = Defined rest at

defined_or_behind : (b : Bool) (x : ℕ) (ps : List ℕ) (k : ℕ) (o : Option TypeName) (at : ℕ) (outer : List ℕ) (own : ℕ) → cond b (Some (IsDefinition x ps k)) o ≡ Some (IsDefinition at outer own)
    → (o ≡ Some (IsDefinition at outer own)) ⊎ (x ≡ at)
defined_or_behind true x ps k o at outer own e = inr (number_of e) where
  number_of : Some (IsDefinition x ps k) ≡ Some (IsDefinition at outer own) → x ≡ at
  number_of e = cc
defined_or_behind false x ps k o at outer own e = inl e

-- a definition that is named there is named around the list, or is in it
pub from_list : (ds : Declarations ℕ) (s : TypeScope) (y : Bytes) (at : ℕ) (outer : List ℕ) (own : ℕ) → type_named (with_list s ds) y ≡ Some (IsDefinition at outer own)
    → (type_named s y ≡ Some (IsDefinition at outer own)) ⊎ Defined ds at
from_list p.End s y at outer own e = inl e
from_list (p.Then public n (p.TypeAlias x ps a) rest) s y at outer own e = on (from_list rest (with_definition s x (length ps)) y at outer own e) where
  on : (type_named (with_definition s x (length ps)) y ≡ Some (IsDefinition at outer own)) ⊎ Defined rest at → (type_named s y ≡ Some (IsDefinition at outer own)) ⊎ ((x.at ≡ at) ⊎ Defined rest at)
  on (inl q) = by (defined_or_behind (bytes_eq y x.bytes) x.at s.parameters (length ps) (named s.names y) at outer own q) where
    by : (named s.names y ≡ Some (IsDefinition at outer own)) ⊎ (x.at ≡ at) → (type_named s y ≡ Some (IsDefinition at outer own)) ⊎ ((x.at ≡ at) ⊎ Defined rest at)
    by (inl r) = inl r
    by (inr r) = inr (inl r)
  on (inr q) = inr (inr q)
from_list (p.Then public n (p.Class x g fields) rest) s y at outer own e = on (from_list rest (with_definition s x (length g.generics)) y at outer own e) where
  on : (type_named (with_definition s x (length g.generics)) y ≡ Some (IsDefinition at outer own)) ⊎ Defined rest at → (type_named s y ≡ Some (IsDefinition at outer own)) ⊎ ((x.at ≡ at) ⊎ Defined rest at)
  on (inl q) = by (defined_or_behind (bytes_eq y x.bytes) x.at s.parameters (length g.generics) (named s.names y) at outer own q) where
    by : (named s.names y ≡ Some (IsDefinition at outer own)) ⊎ (x.at ≡ at) → (type_named s y ≡ Some (IsDefinition at outer own)) ⊎ ((x.at ≡ at) ⊎ Defined rest at)
    by (inl r) = inl r
    by (inr r) = inr (inl r)
  on (inr q) = inr (inr q)
from_list (p.Then public n (p.Let q a) rest) s y at outer own e = from_list rest s y at outer own e
from_list (p.Then public n (p.Var stable x u a) rest) s y at outer own e = from_list rest s y at outer own e
from_list (p.Then public n (p.Func x g body) rest) s y at outer own e = from_list rest s y at outer own e
from_list (p.Then public n (p.Method query context x g body) rest) s y at outer own e = from_list rest s y at outer own e
from_list (p.Then public n (p.System x body) rest) s y at outer own e = from_list rest s y at outer own e
from_list (p.Then public n (p.NamedObject x fields) rest) s y at outer own e = from_list rest s y at outer own e
from_list (p.Then public n (p.Evaluate a) rest) s y at outer own e = from_list rest s y at outer own e
