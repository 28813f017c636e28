-- The names around the declarations of an actor, by what those become.
use Rattle.std.proofs.Common.{◌≡◌, ◌≢◌, inl, inr, ℕ, zero, suc, Bool, true, false, List, [], ◌∷◌, map, Option, Some, refl, sym, ap, ap₂, ◌∙◌, subst}
use Rattle.std.proofs.lemmas.Slice.Eq.{bytes_eq-Decides}
use Rattle.std.specs.Prelude.{cond, slice_get}
use Rattle.std.specs.Str.{bytes_eq}
use Rattle.mo_types.specs.declared.node.TypeId.{TypeId}
use Rattle.mo_types.specs.Graph.{Slot}
use Rattle.mo_types.specs.Sub.{Each}
use Rattle.subtype_laws.specs.Reached.{Among}
use Rattle.typed_tree.specs.OperationTypes.{Distinct}
use Rattle.typed_tree.specs.Wants.{Of, KeptOf}
use Rattle.typing_rules.specs.AbstractSyntax.{Bytes, Named, TypeNode, Pattern, Signature, Expression, Declaration, Declarations}
use Rattle.typing_rules.specs.AbstractSyntax as p
use Rattle.typing_rules.specs.Contexts.{Scope, Context, variable}
use Rattle.typing_rules.specs.Definitions.{Definitions}
use Rattle.typing_rules.specs.Lists.{Entry as Given}
use Rattle.typing_rules.specs.Terms.{Term}
use Rattle.typing_rules.specs.TypedTrees.{Note}
use Rattle.typing_rules.specs.TypeScopes.{TypeScope}
use Rattle.desugaring.specs.Frames.{Entry, Named as Named_, Kept, Unnamed, kept_from}
use Rattle.desugaring.specs.FreeNames.{names_of_list, occurring}
use Rattle.desugaring.specs.FreeNames as free
use Rattle.desugaring.specs.Programs.{method_names, stable_names}
use Rattle.desugaring_laws.specs.Laws.{wants}
use Rattle.desugaring_laws.proofs.Graph.{among_each}
use Rattle.expression_laws.proofs.Forms.{in_right}
use Rattle.expression_laws.proofs.Naming.{names_of}
use Rattle.list_laws.proofs.Reaching.{unequal}
use Rattle.block_laws.specs.Lists.{method_term}
use Rattle.block_laws.proofs.Keeping.{differ_behind}
use Rattle.method_laws.specs.Methods.{method_uses, MethodMade, SystemMade}
use Rattle.actor_laws.specs.Actors.{IsBehind, AreBehind}
use Rattle.program_laws.specs.Around.{stable_sources, method_wants, stables, functions_of}

apart : (stable : Bool) → stable ≡ true → stable ≡ false → ⊥
apart stable h i = cc

-- neither a public or system function nor a stable variable
abbrev pub IsPlain : {N : Type 0} → Declaration N → Type 0
IsPlain (p.Method query context x g body) = ⊥
IsPlain (p.System x body) = ⊥
IsPlain (p.Var true x u a) = ⊥
IsPlain _ = Unit {0}

module _ (defs : Definitions) (slots : List Slot) (terms : List Term) (number : Term → TypeId) (end : Context) where
  -- what it becomes is of its own form
  module _ (C : Declaration ℕ → Given → Note → Declaration Note → Type 0)
      (method : (query : Bool) (context : Option (Pattern ℕ)) (x : Named) (g : Signature ℕ) (body : Expression ℕ) (one : Given) (l : Note) (query' : Bool) (context' : Option (Pattern Note)) (y : Named) (h : Signature Note) (b : Expression Note)
      → MethodMade defs slots terms number (method_uses context g body) end query x (method_term end.types query g) (l, p.Method query' context' y h b) → C (p.Method query context x g body) one l (p.Method query' context' y h b))
      (system : (x : Named) (body : Expression ℕ) (one : Given) (l : Note) (y : Named) (b : Expression Note) → SystemMade defs slots terms number (occurring body) end x (l, p.System y b) → C (p.System x body) one l (p.System y b))
      (stable : (x : Named) (u : Option TypeNode) (a : Expression ℕ) (one : Given) (l : Note) (y : Named) (v : Option TypeNode) (b : Expression Note) → y ≡ x → one.scope ≡ (x.bytes, variable l.type) ∷ [] → C (p.Var true x u a) one l (p.Var true y v b))
      (other : (d : Declaration ℕ) (one : Given) (l : Note) (b : Declaration Note) → IsPlain d → IsPlain b → C d one l b) where
    pub by_form : (d : Declaration ℕ) (one : Given) (l : Note) (b : Declaration Note) → IsBehind defs slots terms number end d one (l, b) → C d one l b
    by_form (p.Let q a) one l (p.Let q' a') h = other (p.Let q a) one l (p.Let q' a') tt tt
    by_form (p.Let q a) one l (p.Var true x' u' a') h = absurd h
    by_form (p.Let q a) one l (p.Var false x' u' a') h = absurd h
    by_form (p.Let q a) one l (p.Func x' g' body') h = absurd h
    by_form (p.Let q a) one l (p.Method query' context' x' g' body') h = absurd h
    by_form (p.Let q a) one l (p.System x' body') h = absurd h
    by_form (p.Let q a) one l (p.TypeAlias x' ps' u') h = absurd h
    by_form (p.Let q a) one l (p.Class x' g' fields') h = absurd h
    by_form (p.Let q a) one l (p.NamedObject x' fields') h = absurd h
    by_form (p.Let q a) one l (p.Evaluate a') h = absurd h
    by_form (p.Var true x u a) one l (p.Let q' a') h = absurd h
    by_form (p.Var true x u a) one l (p.Var true x' u' a') h = stable x u a one l x' u' a' h.1 h.2
    by_form (p.Var true x u a) one l (p.Var false x' u' a') h = absurd (apart true refl (sym h.0))
    by_form (p.Var true x u a) one l (p.Func x' g' body') h = absurd h
    by_form (p.Var true x u a) one l (p.Method query' context' x' g' body') h = absurd h
    by_form (p.Var true x u a) one l (p.System x' body') h = absurd h
    by_form (p.Var true x u a) one l (p.TypeAlias x' ps' u') h = absurd h
    by_form (p.Var true x u a) one l (p.Class x' g' fields') h = absurd h
    by_form (p.Var true x u a) one l (p.NamedObject x' fields') h = absurd h
    by_form (p.Var true x u a) one l (p.Evaluate a') h = absurd h
    by_form (p.Var false x u a) one l (p.Let q' a') h = absurd h
    by_form (p.Var false x u a) one l (p.Var true x' u' a') h = absurd (apart true refl h.0)
    by_form (p.Var false x u a) one l (p.Var false x' u' a') h = other (p.Var false x u a) one l (p.Var false x' u' a') tt tt
    by_form (p.Var false x u a) one l (p.Func x' g' body') h = absurd h
    by_form (p.Var false x u a) one l (p.Method query' context' x' g' body') h = absurd h
    by_form (p.Var false x u a) one l (p.System x' body') h = absurd h
    by_form (p.Var false x u a) one l (p.TypeAlias x' ps' u') h = absurd h
    by_form (p.Var false x u a) one l (p.Class x' g' fields') h = absurd h
    by_form (p.Var false x u a) one l (p.NamedObject x' fields') h = absurd h
    by_form (p.Var false x u a) one l (p.Evaluate a') h = absurd h
    by_form (p.Func x g body) one l (p.Let q' a') h = absurd h
    by_form (p.Func x g body) one l (p.Var true x' u' a') h = absurd h
    by_form (p.Func x g body) one l (p.Var false x' u' a') h = absurd h
    by_form (p.Func x g body) one l (p.Func x' g' body') h = other (p.Func x g body) one l (p.Func x' g' body') tt tt
    by_form (p.Func x g body) one l (p.Method query' context' x' g' body') h = absurd h
    by_form (p.Func x g body) one l (p.System x' body') h = absurd h
    by_form (p.Func x g body) one l (p.TypeAlias x' ps' u') h = absurd h
    by_form (p.Func x g body) one l (p.Class x' g' fields') h = absurd h
    by_form (p.Func x g body) one l (p.NamedObject x' fields') h = absurd h
    by_form (p.Func x g body) one l (p.Evaluate a') h = absurd h
    by_form (p.Method query context x g body) one l (p.Let q' a') h = absurd h
    by_form (p.Method query context x g body) one l (p.Var true x' u' a') h = absurd h
    by_form (p.Method query context x g body) one l (p.Var false x' u' a') h = absurd h
    by_form (p.Method query context x g body) one l (p.Func x' g' body') h = absurd h
    by_form (p.Method query context x g body) one l (p.Method query' context' x' g' body') h = method query context x g body one l query' context' x' g' body' h
    by_form (p.Method query context x g body) one l (p.System x' body') h = absurd h
    by_form (p.Method query context x g body) one l (p.TypeAlias x' ps' u') h = absurd h
    by_form (p.Method query context x g body) one l (p.Class x' g' fields') h = absurd h
    by_form (p.Method query context x g body) one l (p.NamedObject x' fields') h = absurd h
    by_form (p.Method query context x g body) one l (p.Evaluate a') h = absurd h
    by_form (p.System x body) one l (p.Let q' a') h = absurd h
    by_form (p.System x body) one l (p.Var true x' u' a') h = absurd h
    by_form (p.System x body) one l (p.Var false x' u' a') h = absurd h
    by_form (p.System x body) one l (p.Func x' g' body') h = absurd h
    by_form (p.System x body) one l (p.Method query' context' x' g' body') h = absurd h
    by_form (p.System x body) one l (p.System x' body') h = system x body one l x' body' h
    by_form (p.System x body) one l (p.TypeAlias x' ps' u') h = absurd h
    by_form (p.System x body) one l (p.Class x' g' fields') h = absurd h
    by_form (p.System x body) one l (p.NamedObject x' fields') h = absurd h
    by_form (p.System x body) one l (p.Evaluate a') h = absurd h
    by_form (p.TypeAlias x ps u) one l (p.Let q' a') h = absurd h
    by_form (p.TypeAlias x ps u) one l (p.Var true x' u' a') h = absurd h
    by_form (p.TypeAlias x ps u) one l (p.Var false x' u' a') h = absurd h
    by_form (p.TypeAlias x ps u) one l (p.Func x' g' body') h = absurd h
    by_form (p.TypeAlias x ps u) one l (p.Method query' context' x' g' body') h = absurd h
    by_form (p.TypeAlias x ps u) one l (p.System x' body') h = absurd h
    by_form (p.TypeAlias x ps u) one l (p.TypeAlias x' ps' u') h = other (p.TypeAlias x ps u) one l (p.TypeAlias x' ps' u') tt tt
    by_form (p.TypeAlias x ps u) one l (p.Class x' g' fields') h = absurd h
    by_form (p.TypeAlias x ps u) one l (p.NamedObject x' fields') h = absurd h
    by_form (p.TypeAlias x ps u) one l (p.Evaluate a') h = absurd h
    by_form (p.Class x g fields) one l (p.Let q' a') h = absurd h
    by_form (p.Class x g fields) one l (p.Var true x' u' a') h = absurd h
    by_form (p.Class x g fields) one l (p.Var false x' u' a') h = absurd h
    by_form (p.Class x g fields) one l (p.Func x' g' body') h = absurd h
    by_form (p.Class x g fields) one l (p.Method query' context' x' g' body') h = absurd h
    by_form (p.Class x g fields) one l (p.System x' body') h = absurd h
    by_form (p.Class x g fields) one l (p.TypeAlias x' ps' u') h = absurd h
    by_form (p.Class x g fields) one l (p.Class x' g' fields') h = other (p.Class x g fields) one l (p.Class x' g' fields') tt tt
    by_form (p.Class x g fields) one l (p.NamedObject x' fields') h = absurd h
    by_form (p.Class x g fields) one l (p.Evaluate a') h = absurd h
    by_form (p.NamedObject x fields) one l (p.Let q' a') h = absurd h
    by_form (p.NamedObject x fields) one l (p.Var true x' u' a') h = absurd h
    by_form (p.NamedObject x fields) one l (p.Var false x' u' a') h = absurd h
    by_form (p.NamedObject x fields) one l (p.Func x' g' body') h = absurd h
    by_form (p.NamedObject x fields) one l (p.Method query' context' x' g' body') h = absurd h
    by_form (p.NamedObject x fields) one l (p.System x' body') h = absurd h
    by_form (p.NamedObject x fields) one l (p.TypeAlias x' ps' u') h = absurd h
    by_form (p.NamedObject x fields) one l (p.Class x' g' fields') h = absurd h
    by_form (p.NamedObject x fields) one l (p.NamedObject x' fields') h = other (p.NamedObject x fields) one l (p.NamedObject x' fields') tt tt
    by_form (p.NamedObject x fields) one l (p.Evaluate a') h = absurd h
    by_form (p.Evaluate a) one l (p.Let q' a') h = absurd h
    by_form (p.Evaluate a) one l (p.Var true x' u' a') h = absurd h
    by_form (p.Evaluate a) one l (p.Var false x' u' a') h = absurd h
    by_form (p.Evaluate a) one l (p.Func x' g' body') h = absurd h
    by_form (p.Evaluate a) one l (p.Method query' context' x' g' body') h = absurd h
    by_form (p.Evaluate a) one l (p.System x' body') h = absurd h
    by_form (p.Evaluate a) one l (p.TypeAlias x' ps' u') h = absurd h
    by_form (p.Evaluate a) one l (p.Class x' g' fields') h = absurd h
    by_form (p.Evaluate a) one l (p.NamedObject x' fields') h = absurd h
    by_form (p.Evaluate a) one l (p.Evaluate a') h = other (p.Evaluate a) one l (p.Evaluate a') tt tt

-- ---- names of public functions and of stable variables

pub skip_names : (public : Bool) (l : Note) (b : Declaration Note) (bs : Declarations Note) → IsPlain b → method_names (p.Then public l b bs) ≡ method_names bs
skip_names public l (p.Let q a) bs h = refl
skip_names public l (p.Var true x u a) bs h = absurd h
skip_names public l (p.Var false x u a) bs h = refl
skip_names public l (p.Func x g body) bs h = refl
skip_names public l (p.Method query context x g body) bs h = absurd h
skip_names public l (p.System x body) bs h = absurd h
skip_names public l (p.TypeAlias x ps u) bs h = refl
skip_names public l (p.Class x g fields) bs h = refl
skip_names public l (p.NamedObject x fields) bs h = refl
skip_names public l (p.Evaluate a) bs h = refl

pub skip_stable : (public : Bool) (l : Note) (b : Declaration Note) (bs : Declarations Note) → IsPlain b → stable_names (p.Then public l b bs) ≡ stable_names bs
skip_stable public l (p.Let q a) bs h = refl
skip_stable public l (p.Var true x u a) bs h = absurd h
skip_stable public l (p.Var false x u a) bs h = refl
skip_stable public l (p.Func x g body) bs h = refl
skip_stable public l (p.Method query context x g body) bs h = absurd h
skip_stable public l (p.System x body) bs h = absurd h
skip_stable public l (p.TypeAlias x ps u) bs h = refl
skip_stable public l (p.Class x g fields) bs h = refl
skip_stable public l (p.NamedObject x fields) bs h = refl
skip_stable public l (p.Evaluate a) bs h = refl

module _ (number : Term → TypeId) where
  pub skip_wants : (public : Bool) (l : Note) (b : Declaration Note) (bs : Declarations Note) → IsPlain b → method_wants number (p.Then public l b bs) ≡ method_wants number bs
  skip_wants public l (p.Let q a) bs h = refl
  skip_wants public l (p.Var true x u a) bs h = absurd h
  skip_wants public l (p.Var false x u a) bs h = refl
  skip_wants public l (p.Func x g body) bs h = refl
  skip_wants public l (p.Method query context x g body) bs h = absurd h
  skip_wants public l (p.System x body) bs h = absurd h
  skip_wants public l (p.TypeAlias x ps u) bs h = refl
  skip_wants public l (p.Class x g fields) bs h = refl
  skip_wants public l (p.NamedObject x fields) bs h = refl
  skip_wants public l (p.Evaluate a) bs h = refl

  pub skip_stables : (public : Bool) (l : Note) (b : Declaration Note) (bs : Declarations Note) → IsPlain b → stables number (p.Then public l b bs) ≡ stables number bs
  skip_stables public l (p.Let q a) bs h = refl
  skip_stables public l (p.Var true x u a) bs h = absurd h
  skip_stables public l (p.Var false x u a) bs h = refl
  skip_stables public l (p.Func x g body) bs h = refl
  skip_stables public l (p.Method query context x g body) bs h = absurd h
  skip_stables public l (p.System x body) bs h = absurd h
  skip_stables public l (p.TypeAlias x ps u) bs h = refl
  skip_stables public l (p.Class x g fields) bs h = refl
  skip_stables public l (p.NamedObject x fields) bs h = refl
  skip_stables public l (p.Evaluate a) bs h = refl

pub skip_functions : (s : TypeScope) (public : Bool) (n : ℕ) (d : Declaration ℕ) (ds : Declarations ℕ) → IsPlain d → functions_of s (p.Then public n d ds) ≡ functions_of s ds
skip_functions s public n (p.Let q a) ds h = refl
skip_functions s public n (p.Var true x u a) ds h = absurd h
skip_functions s public n (p.Var false x u a) ds h = refl
skip_functions s public n (p.Func x g body) ds h = refl
skip_functions s public n (p.Method query context x g body) ds h = absurd h
skip_functions s public n (p.System x body) ds h = absurd h
skip_functions s public n (p.TypeAlias x ps u) ds h = refl
skip_functions s public n (p.Class x g fields) ds h = refl
skip_functions s public n (p.NamedObject x fields) ds h = refl
skip_functions s public n (p.Evaluate a) ds h = refl

pub skip_sources : (public : Bool) (n : ℕ) (d : Declaration ℕ) (ds : Declarations ℕ) → IsPlain d → stable_sources (p.Then public n d ds) ≡ stable_sources ds
skip_sources public n (p.Let q a) ds h = refl
skip_sources public n (p.Var true x u a) ds h = absurd h
skip_sources public n (p.Var false x u a) ds h = refl
skip_sources public n (p.Func x g body) ds h = refl
skip_sources public n (p.Method query context x g body) ds h = absurd h
skip_sources public n (p.System x body) ds h = absurd h
skip_sources public n (p.TypeAlias x ps u) ds h = refl
skip_sources public n (p.Class x g fields) ds h = refl
skip_sources public n (p.NamedObject x fields) ds h = refl
skip_sources public n (p.Evaluate a) ds h = refl

abbrev first_type : Term → Scope → Term
first_type u [] = u
first_type u (z ∷ zs) = z.1.type

abbrev pub one_variable : Named → Term → Scope
one_variable x u = (x.bytes, variable u) ∷ []

pub same_type : (x : Named) (u v : Term) → one_variable x u ≡ one_variable x v → u ≡ v
same_type x u v h = ap (first_type u) h

module _ (defs : Definitions) (slots : List Slot) (terms : List Term) (number : Term → TypeId) (end : Context) where
  pub record AreAround (ds : Declarations ℕ) (made : Declarations Note) : Type 0 where
    pub names : method_names made ≡ names_of (functions_of end.types ds)
    pub wanted : method_wants number made ≡ wants number (functions_of end.types ds)
    pub kept : stable_names made ≡ map (λ z. z.0) (stables number made)
    pub from : map (λ z. z.0) (stables number made) ≡ stable_sources ds

  abbrev Step : Declaration ℕ → Given → Note → Declaration Note → Type 0
  Step d one l b = (public public_too : Bool) (n : ℕ) (ds : Declarations ℕ) (bs : Declarations Note) → AreAround ds bs → AreAround (p.Then public n d ds) (p.Then public_too l b bs)

  one_around : (d : Declaration ℕ) (one : Given) (l : Note) (b : Declaration Note) → IsBehind defs slots terms number end d one (l, b) → Step d one l b
  one_around = by_form defs slots terms number end Step
      (λ query context x g body one l query' context' y h b i'. λ public public_too n ds bs i. record {
        names = ap₂ (λ z zs. z ∷ zs) (ap (λ z. z.bytes) i'.1) i.names;
        wanted = ap₂ (λ z zs. Of (number z) ∷ zs) i'.2 i.wanted;
        kept = i.kept;
        from = i.from;
      })
      (λ x body one l y b i'. λ public public_too n ds bs i. record { names = i.names; wanted = i.wanted; kept = i.kept; from = i.from })
      (λ x u a one l y v b e t. λ public public_too n ds bs i. record {
        names = i.names;
        wanted = i.wanted;
        kept = ap (λ zs. y.bytes ∷ zs) i.kept;
        from = ap₂ (λ z zs. z ∷ zs) (ap (λ z. z.bytes) e) i.from;
      })
      (λ d one l b plain plain'. λ public public_too n ds bs i. record {
        names = skip_names public_too l b bs plain' ∙ (i.names ∙ sym (ap (λ z. names_of z) (skip_functions end.types public n d ds plain)));
        wanted = skip_wants number public_too l b bs plain' ∙ (i.wanted ∙ sym (ap (λ z. wants number z) (skip_functions end.types public n d ds plain)));
        kept = skip_stable public_too l b bs plain' ∙ (i.kept ∙ sym (ap (λ z. map (λ y. y.0) z) (skip_stables number public_too l b bs plain')));
        from = ap (λ z. map (λ y. y.0) z) (skip_stables number public_too l b bs plain') ∙ (i.from ∙ sym (skip_sources public n d ds plain));
      })

  pub all_around : (ds : Declarations ℕ) (given : List Given) (made : Declarations Note) → AreBehind defs slots terms number end ds given made → AreAround ds made
  all_around p.End [] p.End h = record { names = refl; wanted = refl; kept = refl; from = refl }
  all_around p.End [] (p.Then public l b bs) h = absurd h
  all_around p.End (one ∷ ones) made h = absurd h
  all_around (p.Then public n d ds) [] made h = absurd h
  all_around (p.Then public n d ds) (one ∷ ones) p.End h = absurd h
  all_around (p.Then public n d ds) (one ∷ ones) (p.Then public_too l b bs) h = one_around d one l b h.0 public public_too n ds bs (all_around ds ones bs h.1)

  -- each stable variable of the list is among those that are made
  abbrev pub IsAmongStables : List (Bytes × TypeId) → Declaration ℕ → Given → Type 0
  IsAmongStables ys (p.Var true x u a) one = (v : Term) → one.scope ≡ (x.bytes, variable v) ∷ [] → Among (x.bytes, number v) ys
  IsAmongStables ys _ one = Unit {0}

  abbrev pub AllAmongStables : List (Bytes × TypeId) → Declarations ℕ → List Given → Type 0
  AllAmongStables ys (p.Then public n d ds) (one ∷ ones) = IsAmongStables ys d one × AllAmongStables ys ds ones
  AllAmongStables ys _ _ = Unit {0}

  plain_among : (ys : List (Bytes × TypeId)) (d : Declaration ℕ) (one : Given) → IsPlain d → IsAmongStables ys d one
  plain_among ys (p.Let q a) one h = tt
  plain_among ys (p.Var true x u a) one h = absurd h
  plain_among ys (p.Var false x u a) one h = tt
  plain_among ys (p.Func x g body) one h = tt
  plain_among ys (p.Method query context x g body) one h = absurd h
  plain_among ys (p.System x body) one h = absurd h
  plain_among ys (p.TypeAlias x ps u) one h = tt
  plain_among ys (p.Class x g fields) one h = tt
  plain_among ys (p.NamedObject x fields) one h = tt
  plain_among ys (p.Evaluate a) one h = tt

  abbrev Stands : Declaration ℕ → Given → Note → Declaration Note → Type 0
  Stands d one l b = (ys : List (Bytes × TypeId)) (public : Bool) (bs : Declarations Note) → ((z : Bytes × TypeId) → Among z (stables number (p.Then public l b bs)) → Among z ys) → IsAmongStables ys d one × ((z : Bytes × TypeId) → Among z (stables number bs) → Among z ys)

  one_among : (d : Declaration ℕ) (one : Given) (l : Note) (b : Declaration Note) → IsBehind defs slots terms number end d one (l, b) → Stands d one l b
  one_among = by_form defs slots terms number end Stands
      (λ query context x g body one l query' context' y h b i. λ ys public bs f. (tt, f))
      (λ x body one l y b i. λ ys public bs f. (tt, f))
      (λ x u a one l y v b e t. λ ys public bs f. (
        (λ w i. subst (λ z. Among (x.bytes, number z) ys) (same_type x l.type w (sym t ∙ i)) (subst (λ z. Among (z, number l.type) ys) (ap (λ z. z.bytes) e) (f (y.bytes, number l.type) (inl refl)))),
        (λ z k. f z (inr k)),
      ))
      (λ d one l b plain plain'. λ ys public bs f. (plain_among ys d one plain, λ z k. f z (subst (λ zs. Among z zs) (sym (skip_stables number public l b bs plain')) k)))

  all_among : (ys : List (Bytes × TypeId)) (ds : Declarations ℕ) (given : List Given) (made : Declarations Note) → AreBehind defs slots terms number end ds given made → ((z : Bytes × TypeId) → Among z (stables number made) → Among z ys) → AllAmongStables ys ds given
  all_among ys p.End given made h f = tt
  all_among ys (p.Then public n d ds) [] made h f = tt
  all_among ys (p.Then public n d ds) (one ∷ ones) p.End h f = absurd h
  all_among ys (p.Then public n d ds) (one ∷ ones) (p.Then public_too l b bs) h f =
      let r = one_among d one l b h.0 ys public_too bs f in
      (r.0, all_among ys ds ones bs h.1 r.1)

  pub each_among : (ds : Declarations ℕ) (given : List Given) (made : Declarations Note) → AreBehind defs slots terms number end ds given made → AllAmongStables (stables number made) ds given
  each_among ds given made h = all_among (stables number made) ds given made h (λ z k. k)

-- ---- what was kept

kept_next : (n : ℕ) (es : List Entry) (x : Bytes) → kept_from (suc n) es x ≡ suc (kept_from n es x)
kept_next n [] x = refl
kept_next n (Named_ y is_cell ∷ es) x = kept_next (suc n) es x
kept_next n (Kept y ∷ es) x = by (bytes_eq y x) (kept_next (suc n) es x) where
  by : (b : Bool) → kept_from (suc (suc n)) es x ≡ suc (kept_from (suc n) es x) → cond b (suc n) (kept_from (suc (suc n)) es x) ≡ suc (cond b n (kept_from (suc n) es x))
  by true h = refl
  by false h = h
kept_next n (Unnamed ∷ es) x = kept_next (suc n) es x

-- a name that differs from those before it
pub kept_there : (ys : List (Bytes × TypeId)) → Distinct (map (λ z. z.0) ys) → (x : Bytes) (u : TypeId) → Among (x, u) ys → slice_get (map (λ z. KeptOf z.1) ys) (kept_from zero (map (λ z. Kept z.0) ys) x) ≡ Some (KeptOf u)
kept_there [] d x u m = absurd m
kept_there (y ∷ ys) d x u (inl e) =
    subst (λ z. slice_get (map (λ v. KeptOf v.1) (y ∷ ys)) (kept_from zero (map (λ v. Kept v.0) (y ∷ ys)) z.0) ≡ Some (KeptOf z.1)) e
    (ap (λ b. slice_get (KeptOf y.1 ∷ map (λ v. KeptOf v.1) ys) (cond b zero (kept_from 1 (map (λ v. Kept v.0) ys) y.0))) ((bytes_eq-Decides y.0 y.0).1 refl))
kept_there (y ∷ ys) d x u (inr m) =
    ap (λ b. slice_get (KeptOf y.1 ∷ map (λ v. KeptOf v.1) ys) (cond b zero (kept_from 1 (map (λ v. Kept v.0) ys) x))) (unlike y.0 x ys d.0 (name_of ys m))
    ∙ (ap (λ i. slice_get (KeptOf y.1 ∷ map (λ v. KeptOf v.1) ys) i) (kept_next zero (map (λ v. Kept v.0) ys) x) ∙ kept_there ys d.1 x u m)
  where
    name_of : (zs : List (Bytes × TypeId)) → Among (x, u) zs → Among x (map (λ z. z.0) zs)
    name_of [] k = absurd k
    name_of (z ∷ zs) (inl e) = inl (ap (λ v. v.0) e)
    name_of (z ∷ zs) (inr k) = inr (name_of zs k)

    unlike : (v w : Bytes) (zs : List (Bytes × TypeId)) → Each (λ i. v ≢ i) (map (λ z. z.0) zs) → Among w (map (λ z. z.0) zs) → bytes_eq v w ≡ false
    unlike v w [] h k = absurd k
    unlike v w (z ∷ zs) h (inl e) = unequal v w (λ i. h.0 (sym i ∙ sym e))
    unlike v w (z ∷ zs) h (inr k) = unlike v w zs h.1 k

-- ---- stable variables differ, as all names do

pub source_named : (ds : Declarations ℕ) (y : Bytes) → Among y (stable_sources ds) → Among y (names_of_list ds)
source_named p.End y m = absurd m
source_named (p.Then public n (p.Let q a) rest) y m = in_right (free.names_of {N = ℕ} (p.Let q a)) (names_of_list rest) y (source_named rest y m)
source_named (p.Then public n (p.Var true x u a) rest) y (inl e) = inl e
source_named (p.Then public n (p.Var true x u a) rest) y (inr m) = inr (source_named rest y m)
source_named (p.Then public n (p.Var false x u a) rest) y m = in_right (free.names_of {N = ℕ} (p.Var false x u a)) (names_of_list rest) y (source_named rest y m)
source_named (p.Then public n (p.Func x g body) rest) y m = in_right (free.names_of {N = ℕ} (p.Func x g body)) (names_of_list rest) y (source_named rest y m)
source_named (p.Then public n (p.Method query context x g body) rest) y m = in_right (free.names_of {N = ℕ} (p.Method query context x g body)) (names_of_list rest) y (source_named rest y m)
source_named (p.Then public n (p.System x body) rest) y m = in_right (free.names_of {N = ℕ} (p.System x body)) (names_of_list rest) y (source_named rest y m)
source_named (p.Then public n (p.TypeAlias x ps u) rest) y m = in_right (free.names_of {N = ℕ} (p.TypeAlias x ps u)) (names_of_list rest) y (source_named rest y m)
source_named (p.Then public n (p.Class x g fields) rest) y m = in_right (free.names_of {N = ℕ} (p.Class x g fields)) (names_of_list rest) y (source_named rest y m)
source_named (p.Then public n (p.NamedObject x fields) rest) y m = in_right (free.names_of {N = ℕ} (p.NamedObject x fields)) (names_of_list rest) y (source_named rest y m)
source_named (p.Then public n (p.Evaluate a) rest) y m = in_right (free.names_of {N = ℕ} (p.Evaluate a)) (names_of_list rest) y (source_named rest y m)

pub each_source : (x : Bytes) (ys zs : List Bytes) → Each (λ i. x ≢ i) zs → ((y : Bytes) → Among y ys → Among y zs) → Each (λ i. x ≢ i) ys
each_source x [] zs h f = tt
each_source x (y ∷ ys) zs h f = (among_each (λ i. x ≢ i) zs y h (f y (inl refl)), each_source x ys zs h (λ z m. f z (inr m)))

pub sources_differ : (ds : Declarations ℕ) → Distinct (names_of_list ds) → Distinct (stable_sources ds)
sources_differ p.End h = tt
sources_differ (p.Then public n (p.Let q a) rest) h = sources_differ rest (differ_behind (free.names_of {N = ℕ} (p.Let q a)) (names_of_list rest) h)
sources_differ (p.Then public n (p.Var true x u a) rest) h = (each_source x.bytes (stable_sources rest) (names_of_list rest) h.0 (source_named rest), sources_differ rest h.1)
sources_differ (p.Then public n (p.Var false x u a) rest) h = sources_differ rest (differ_behind (free.names_of {N = ℕ} (p.Var false x u a)) (names_of_list rest) h)
sources_differ (p.Then public n (p.Func x g body) rest) h = sources_differ rest (differ_behind (free.names_of {N = ℕ} (p.Func x g body)) (names_of_list rest) h)
sources_differ (p.Then public n (p.Method query context x g body) rest) h = sources_differ rest (differ_behind (free.names_of {N = ℕ} (p.Method query context x g body)) (names_of_list rest) h)
sources_differ (p.Then public n (p.System x body) rest) h = sources_differ rest (differ_behind (free.names_of {N = ℕ} (p.System x body)) (names_of_list rest) h)
sources_differ (p.Then public n (p.TypeAlias x ps u) rest) h = sources_differ rest (differ_behind (free.names_of {N = ℕ} (p.TypeAlias x ps u)) (names_of_list rest) h)
sources_differ (p.Then public n (p.Class x g fields) rest) h = sources_differ rest (differ_behind (free.names_of {N = ℕ} (p.Class x g fields)) (names_of_list rest) h)
sources_differ (p.Then public n (p.NamedObject x fields) rest) h = sources_differ rest (differ_behind (free.names_of {N = ℕ} (p.NamedObject x fields)) (names_of_list rest) h)
sources_differ (p.Then public n (p.Evaluate a) rest) h = sources_differ rest (differ_behind (free.names_of {N = ℕ} (p.Evaluate a)) (names_of_list rest) h)
