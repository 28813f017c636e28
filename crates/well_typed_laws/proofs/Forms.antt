-- Declarations by what they are in an actor: public and system functions, stable variables, and others.
use Rattle.std.proofs.Common.{◌≡◌, ℕ, Bool, true, false, Option, refl}
use Rattle.mo_types.specs.declared.node.TypeId.{TypeId}
use Rattle.typing_rules.specs.AbstractSyntax.{Bytes, Named, TypeNode, Pattern, Signature, Expression, Declaration, Declarations}
use Rattle.typing_rules.specs.AbstractSyntax as p
use Rattle.typing_rules.specs.Definitions.{Definitions}
use Rattle.typing_rules.specs.Programs.{method_fields}
use Rattle.typing_rules.specs.Terms.{Term}
use Rattle.typing_rules.specs.TypedTrees.{Note}
use Rattle.typing_rules.specs.TypeScopes.{TypeScope}
use Rattle.desugaring.specs.Frames.{Frame}
use Rattle.desugaring.specs.Programs.{count_behind, methods_of, system_of, stable_of}
use Rattle.actor_laws.specs.Order.{public_functions}
use Rattle.program_laws.proofs.Around.{IsPlain}
use Rattle.well_typed_laws.specs.Source.{system_names}

-- what holds of each of these holds of a declaration
module _ (C : Declaration Note → Type 0) (method : (query : Bool) (context : Option (Pattern Note)) (x : Named) (g : Signature Note) (body : Expression Note) → C (p.Method query context x g body)) (system : (x : Named) (body : Expression Note) → C (p.System x body))
    (stable : (x : Named) (u : Option TypeNode) (a : Expression Note) → C (p.Var true x u a)) (other : (b : Declaration Note) → IsPlain b → C b) where
  pub by_kind : (b : Declaration Note) → C b
  by_kind (p.Let q a) = other (p.Let q a) tt
  by_kind (p.Var true x u a) = stable x u a
  by_kind (p.Var false x u a) = other (p.Var false x u a) tt
  by_kind (p.Func x g body) = other (p.Func x g body) tt
  by_kind (p.Method query context x g body) = method query context x g body
  by_kind (p.System x body) = system x body
  by_kind (p.TypeAlias x ps u) = other (p.TypeAlias x ps u) tt
  by_kind (p.Class x g fields) = other (p.Class x g fields) tt
  by_kind (p.NamedObject x fields) = other (p.NamedObject x fields) tt
  by_kind (p.Evaluate a) = other (p.Evaluate a) tt

-- the others are neither functions behind the declarations nor kept
pub record Skipped (defs : Definitions) (number : Term → TypeId) (l : Note) (public : Bool) (b : Declaration Note) (bs : Declarations Note) : Type 0 where
  pub methods : (f : Frame) → methods_of defs number f (p.Then public l b bs) ≡ methods_of defs number f bs
  pub count : count_behind (p.Then public l b bs) ≡ count_behind bs
  pub names : system_names (p.Then public l b bs) ≡ system_names bs
  pub systems : (f : Frame) (x : Bytes) → system_of defs number f x (p.Then public l b bs) ≡ system_of defs number f x bs
  pub stable : (f : Frame) → stable_of defs number f (p.Then public l b bs) ≡ stable_of defs number f bs

pub skipped : (defs : Definitions) (number : Term → TypeId) (l : Note) (public : Bool) (b : Declaration Note) (bs : Declarations Note) → IsPlain b → Skipped defs number l public b bs
skipped defs number l public (p.Let q a) bs h = record { methods = λ f. refl; count = refl; names = refl; systems = λ f x. refl; stable = λ f. refl }
skipped defs number l public (p.Var true x u a) bs h = absurd h
skipped defs number l public (p.Var false x u a) bs h = record { methods = λ f. refl; count = refl; names = refl; systems = λ f x. refl; stable = λ f. refl }
skipped defs number l public (p.Func x g body) bs h = record { methods = λ f. refl; count = refl; names = refl; systems = λ f x. refl; stable = λ f. refl }
skipped defs number l public (p.Method query context x g body) bs h = absurd h
skipped defs number l public (p.System x body) bs h = absurd h
skipped defs number l public (p.TypeAlias x ps u) bs h = record { methods = λ f. refl; count = refl; names = refl; systems = λ f x. refl; stable = λ f. refl }
skipped defs number l public (p.Class x g fields) bs h = record { methods = λ f. refl; count = refl; names = refl; systems = λ f x. refl; stable = λ f. refl }
skipped defs number l public (p.NamedObject x fields) bs h = record { methods = λ f. refl; count = refl; names = refl; systems = λ f x. refl; stable = λ f. refl }
skipped defs number l public (p.Evaluate a) bs h = record { methods = λ f. refl; count = refl; names = refl; systems = λ f x. refl; stable = λ f. refl }

-- the same of the source
pub record SkippedSource (s : TypeScope) (public : Bool) (n : ℕ) (d : Declaration ℕ) (ds : Declarations ℕ) : Type 0 where
  pub functions : public_functions (p.Then public n d ds) ≡ public_functions ds
  pub fields : method_fields s (p.Then public n d ds) ≡ method_fields s ds
  pub names : system_names (p.Then public n d ds) ≡ system_names ds

pub skipped_source : (s : TypeScope) (public : Bool) (n : ℕ) (d : Declaration ℕ) (ds : Declarations ℕ) → IsPlain d → SkippedSource s public n d ds
skipped_source s public n (p.Let q a) ds h = record { functions = refl; fields = refl; names = refl }
skipped_source s public n (p.Var true x u a) ds h = absurd h
skipped_source s public n (p.Var false x u a) ds h = record { functions = refl; fields = refl; names = refl }
skipped_source s public n (p.Func x g body) ds h = record { functions = refl; fields = refl; names = refl }
skipped_source s public n (p.Method query context x g body) ds h = absurd h
skipped_source s public n (p.System x body) ds h = absurd h
skipped_source s public n (p.TypeAlias x ps u) ds h = record { functions = refl; fields = refl; names = refl }
skipped_source s public n (p.Class x g fields) ds h = record { functions = refl; fields = refl; names = refl }
skipped_source s public n (p.NamedObject x fields) ds h = record { functions = refl; fields = refl; names = refl }
skipped_source s public n (p.Evaluate a) ds h = record { functions = refl; fields = refl; names = refl }
