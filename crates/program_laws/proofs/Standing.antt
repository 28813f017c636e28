-- The names around the declarations of a program stand for their types.
use Rattle.std.proofs.Common.{◌≡◌, ◌⊎◌, inl, inr, ℕ, zero, suc, Bool, true, false, not, List, [], ◌∷◌, ◌++◌, length, map, Option, Some, None, refl, sym, ap, ap₂, ◌∙◌, subst, append_assoc}
use Rattle.std.proofs.lemmas.Slice.Eq.{bytes_eq-Decides}
use Rattle.std.specs.Prelude.{cond, slice_get}
use Rattle.std.specs.List.{list_any}
use Rattle.std.specs.Str.{bytes_eq}
use Rattle.mo_scopes.specs.Scopes.{named}
use Rattle.mo_types.specs.declared.node.Node.TheVariants as node
use Rattle.mo_types.specs.declared.node.TypeId.{TypeId}
use Rattle.mo_types.specs.Graph.{Slot}
use Rattle.mo_types.specs.Sub.{Each}
use Rattle.subtype_laws.specs.Reached.{Among}
use Rattle.typed_tree.specs.declared.program.Program.{Program as TypedProgram}
use Rattle.typed_tree.specs.ActionTypes as typed
use Rattle.typed_tree.specs.OperationTypes.{Distinct}
use Rattle.typed_tree.specs.Wants.{Want, Of, KeptOf}
use Rattle.typed_tree.specs.WellTyped.{around}
use Rattle.typing_rules.specs.AbstractSyntax.{Bytes, Declarations, Program}
use Rattle.typing_rules.specs.AbstractSyntax as p
use Rattle.typing_rules.specs.AsyncPlaces.{Local, Other}
use Rattle.typing_rules.specs.Contexts.{Bound, Scope, Label, Context, constant, directly}
use Rattle.typing_rules.specs.DeclaredTypes.{with_list}
use Rattle.typing_rules.specs.Definitions.{Definitions}
use Rattle.typing_rules.specs.Gathered.{gathered}
use Rattle.typing_rules.specs.Heads.{head}
use Rattle.typing_rules.specs.Lists.{Entry as Given}
use Rattle.typing_rules.specs.Programs.{first_context, actor_type, method_fields, made_program, own_name}
use Rattle.typing_rules.specs.Terms.{Term, Fields, listed_fields}
use Rattle.typing_rules.specs.Terms as t
use Rattle.typing_rules.specs.TypedTrees.{Note}
use Rattle.typing_rules.specs.TypeScopes.{TypeScope, no_types}
use Rattle.desugaring.specs.Frames.{Entry, Kept, Unnamed, value, Frame, found_from, kept_from, kept_at}
use Rattle.desugaring.specs.FreeNames.{names_of_list, in_declarations, without}
use Rattle.desugaring.specs.FreeNames as free
use Rattle.desugaring.specs.Expressions.{pieces}
use Rattle.desugaring.specs.Pieces.{arranged}
use Rattle.desugaring.specs.Programs.{own_entry, stable_of, desugared}
use Rattle.desugaring.specs.Programs as written
use Rattle.desugaring_laws.specs.GraphOf.{IsGraphOf}
use Rattle.desugaring_laws.specs.Known.{IsKnown}
use Rattle.desugaring_laws.specs.Laws.{wants}
use Rattle.desugaring_laws.specs.Names.{Names}
use Rattle.desugaring_laws.proofs.Patterns.{entered_on}
use Rattle.expression_laws.specs.Fitting.{AValue, Fits}
use Rattle.expression_laws.proofs.Heads.{made_fine}
use Rattle.expression_laws.proofs.Naming.{names_of, names_stand}
use Rattle.expression_laws.proofs.Outside.{outside}
use Rattle.list_laws.specs.Facts.{At}
use Rattle.list_laws.specs.Laws.{Walked}
use Rattle.list_laws.specs.Standing.{entry_names, NoneKept, StandsAt, StandsIn}
use Rattle.list_laws.proofs.Reaching.{stands_beyond, kept_beyond}
use Rattle.block_forms.proofs.Written.{entered_named, name_among}
use Rattle.block_laws.specs.Lists.{method_term, signed_one, signed, AreSigned, AreKept, in_scope, behind}
use Rattle.block_laws.specs.Order.{facts_of}
use Rattle.block_laws.proofs.Naming.{skip_signed}
use Rattle.block_laws.proofs.Keeping.{differ_apart, differ_behind}
use Rattle.block_laws.proofs.Walking.{not_bound}
use Rattle.method_laws.proofs.Entering.{among_split, hidden_apart}
use Rattle.actor_laws.specs.Actors.{ActorMade}
use Rattle.actor_laws.specs.Order.{public_functions, outer_of, IsActorInOrder}
use Rattle.actor_laws.proofs.Walking.{functions_named, walked}
use Rattle.program_laws.specs.Around.{functions_of, method_wants, stables, own_names, own_want, ProgramsAreWalked}
use Rattle.program_laws.proofs.Around.{AreAround, all_around, AllAmongStables, each_among, kept_there, each_source, sources_differ}
use Rattle.program_laws.proofs.Programs.{no_types_fine, no_bounds}

-- ---- public functions

pub public_named : (s : TypeScope) (ds : Declarations ℕ) → public_functions ds ≡ names_of (functions_of s ds)
public_named s p.End = refl
public_named s (p.Then public n (p.Let q a) rest) = public_named s rest
public_named s (p.Then public n (p.Var true x u a) rest) = public_named s rest
public_named s (p.Then public n (p.Var false x u a) rest) = public_named s rest
public_named s (p.Then public n (p.Func x g body) rest) = public_named s rest
public_named s (p.Then public n (p.Method query context x g body) rest) = ap (λ zs. x.bytes ∷ zs) (public_named s rest)
public_named s (p.Then public n (p.System x body) rest) = public_named s rest
public_named s (p.Then public n (p.TypeAlias x ps u) rest) = public_named s rest
public_named s (p.Then public n (p.Class x g fields) rest) = public_named s rest
public_named s (p.Then public n (p.NamedObject x fields) rest) = public_named s rest
public_named s (p.Then public n (p.Evaluate a) rest) = public_named s rest

pub functions_differ : (ds : Declarations ℕ) → Distinct (names_of_list ds) → Distinct (public_functions ds)
functions_differ p.End h = tt
functions_differ (p.Then public n (p.Let q a) rest) h = functions_differ rest (differ_behind (free.names_of {N = ℕ} (p.Let q a)) (names_of_list rest) h)
functions_differ (p.Then public n (p.Var true x u a) rest) h = functions_differ rest (differ_behind (free.names_of {N = ℕ} (p.Var true x u a)) (names_of_list rest) h)
functions_differ (p.Then public n (p.Var false x u a) rest) h = functions_differ rest (differ_behind (free.names_of {N = ℕ} (p.Var false x u a)) (names_of_list rest) h)
functions_differ (p.Then public n (p.Func x g body) rest) h = functions_differ rest (differ_behind (free.names_of {N = ℕ} (p.Func x g body)) (names_of_list rest) h)
functions_differ (p.Then public n (p.Method query context x g body) rest) h = (each_source x.bytes (public_functions rest) (names_of_list rest) h.0 (functions_named rest), functions_differ rest h.1)
functions_differ (p.Then public n (p.System x body) rest) h = functions_differ rest (differ_behind (free.names_of {N = ℕ} (p.System x body)) (names_of_list rest) h)
functions_differ (p.Then public n (p.TypeAlias x ps u) rest) h = functions_differ rest (differ_behind (free.names_of {N = ℕ} (p.TypeAlias x ps u)) (names_of_list rest) h)
functions_differ (p.Then public n (p.Class x g fields) rest) h = functions_differ rest (differ_behind (free.names_of {N = ℕ} (p.Class x g fields)) (names_of_list rest) h)
functions_differ (p.Then public n (p.NamedObject x fields) rest) h = functions_differ rest (differ_behind (free.names_of {N = ℕ} (p.NamedObject x fields)) (names_of_list rest) h)
functions_differ (p.Then public n (p.Evaluate a) rest) h = functions_differ rest (differ_behind (free.names_of {N = ℕ} (p.Evaluate a)) (names_of_list rest) h)

-- each is bound to its type in the whole list
signed_function : (s : TypeScope) (ds : Declarations ℕ) → Distinct (names_of_list ds) → (z : Bytes × Term) → Among z (functions_of s ds) → (base : Scope) → named (signed s ds ++ base) z.0 ≡ Some (constant z.1)
signed_function s p.End h z m base = absurd m
signed_function s (p.Then public n (p.Let q a) rest) h z m base = ap (λ v. named v z.0) (append_assoc (signed s rest) (signed_one s (p.Let q a)) base) ∙ signed_function s rest (differ_behind (free.names_of {N = ℕ} (p.Let q a)) (names_of_list rest) h) z m (signed_one s (p.Let q a) ++ base)
signed_function s (p.Then public n (p.Var true x u a) rest) h z m base = ap (λ v. named v z.0) (append_assoc (signed s rest) (signed_one s (p.Var true x u a)) base) ∙ signed_function s rest (differ_behind (free.names_of {N = ℕ} (p.Var true x u a)) (names_of_list rest) h) z m (signed_one s (p.Var true x u a) ++ base)
signed_function s (p.Then public n (p.Var false x u a) rest) h z m base = ap (λ v. named v z.0) (append_assoc (signed s rest) (signed_one s (p.Var false x u a)) base) ∙ signed_function s rest (differ_behind (free.names_of {N = ℕ} (p.Var false x u a)) (names_of_list rest) h) z m (signed_one s (p.Var false x u a) ++ base)
signed_function s (p.Then public n (p.Func x g body) rest) h z m base = ap (λ v. named v z.0) (append_assoc (signed s rest) (signed_one s (p.Func x g body)) base) ∙ signed_function s rest (differ_behind (free.names_of {N = ℕ} (p.Func x g body)) (names_of_list rest) h) z m (signed_one s (p.Func x g body) ++ base)
signed_function s (p.Then public n (p.Method query context x g body) rest) h z (inl e) base =
    ap (λ v. named v z.0) (append_assoc (signed s rest) (signed_one s (p.Method query context x g body)) base)
    ∙ subst (λ v. named (signed s rest ++ ((x.bytes, constant (method_term s query g)) ∷ base)) v.0 ≡ Some (constant v.1)) e
    (skip_signed s rest x.bytes (λ m. differ_apart (x.bytes ∷ []) (names_of_list rest) h x.bytes (inl refl) m) ((x.bytes, constant (method_term s query g)) ∷ base)
    ∙ ap (λ b. cond b (Some (constant (method_term s query g))) (named base x.bytes)) ((bytes_eq-Decides x.bytes x.bytes).1 refl))
signed_function s (p.Then public n (p.Method query context x g body) rest) h z (inr m) base = ap (λ v. named v z.0) (append_assoc (signed s rest) (signed_one s (p.Method query context x g body)) base) ∙ signed_function s rest (differ_behind (free.names_of {N = ℕ} (p.Method query context x g body)) (names_of_list rest) h) z m (signed_one s (p.Method query context x g body) ++ base)
signed_function s (p.Then public n (p.System x body) rest) h z m base = ap (λ v. named v z.0) (append_assoc (signed s rest) (signed_one s (p.System x body)) base) ∙ signed_function s rest (differ_behind (free.names_of {N = ℕ} (p.System x body)) (names_of_list rest) h) z m (signed_one s (p.System x body) ++ base)
signed_function s (p.Then public n (p.TypeAlias x ps u) rest) h z m base = ap (λ v. named v z.0) (append_assoc (signed s rest) (signed_one s (p.TypeAlias x ps u)) base) ∙ signed_function s rest (differ_behind (free.names_of {N = ℕ} (p.TypeAlias x ps u)) (names_of_list rest) h) z m (signed_one s (p.TypeAlias x ps u) ++ base)
signed_function s (p.Then public n (p.Class x g fields) rest) h z m base = ap (λ v. named v z.0) (append_assoc (signed s rest) (signed_one s (p.Class x g fields)) base) ∙ signed_function s rest (differ_behind (free.names_of {N = ℕ} (p.Class x g fields)) (names_of_list rest) h) z m (signed_one s (p.Class x g fields) ++ base)
signed_function s (p.Then public n (p.NamedObject x fields) rest) h z m base = ap (λ v. named v z.0) (append_assoc (signed s rest) (signed_one s (p.NamedObject x fields)) base) ∙ signed_function s rest (differ_behind (free.names_of {N = ℕ} (p.NamedObject x fields)) (names_of_list rest) h) z m (signed_one s (p.NamedObject x fields) ++ base)
signed_function s (p.Then public n (p.Evaluate a) rest) h z m base = ap (λ v. named v z.0) (append_assoc (signed s rest) (signed_one s (p.Evaluate a)) base) ∙ signed_function s rest (differ_behind (free.names_of {N = ℕ} (p.Evaluate a)) (names_of_list rest) h) z m (signed_one s (p.Evaluate a) ++ base)

module _ (defs : Definitions) (terms : List Term) (s : TypeScope) where
  functions_known : (ds : Declarations ℕ) → AreSigned defs terms [] s ds → Each (λ z. IsKnown defs terms [] z.1) (functions_of s ds)
  functions_known p.End k = tt
  functions_known (p.Then public n (p.Let q a) rest) k = functions_known rest k.1
  functions_known (p.Then public n (p.Var true x u a) rest) k = functions_known rest k.1
  functions_known (p.Then public n (p.Var false x u a) rest) k = functions_known rest k.1
  functions_known (p.Then public n (p.Func x g body) rest) k = functions_known rest k.1
  functions_known (p.Then public n (p.Method query context x g body) rest) k = (k.0.0, functions_known rest k.1)
  functions_known (p.Then public n (p.System x body) rest) k = functions_known rest k.1
  functions_known (p.Then public n (p.TypeAlias x ps u) rest) k = functions_known rest k.1
  functions_known (p.Then public n (p.Class x g fields) rest) k = functions_known rest k.1
  functions_known (p.Then public n (p.NamedObject x fields) rest) k = functions_known rest k.1
  functions_known (p.Then public n (p.Evaluate a) rest) k = functions_known rest k.1

  -- the methods of the actor's type
  part_known : (ds : Declarations ℕ) → AreSigned defs terms [] s ds → (v : Term) → Among v (map (λ g. g.part) (listed_fields (method_fields s ds))) → IsKnown defs terms [] v
  part_known p.End k v m = absurd m
  part_known (p.Then public n (p.Let q a) rest) k v m = part_known rest k.1 v m
  part_known (p.Then public n (p.Var true x u a) rest) k v m = part_known rest k.1 v m
  part_known (p.Then public n (p.Var false x u a) rest) k v m = part_known rest k.1 v m
  part_known (p.Then public n (p.Func x g body) rest) k v m = part_known rest k.1 v m
  part_known (p.Then public n (p.Method query context x g body) rest) k v (inl e) = subst (λ z. IsKnown defs terms [] z) e k.0.0
  part_known (p.Then public n (p.Method query context x g body) rest) k v (inr m) = part_known rest k.1 v m
  part_known (p.Then public n (p.System x body) rest) k v m = part_known rest k.1 v m
  part_known (p.Then public n (p.TypeAlias x ps u) rest) k v m = part_known rest k.1 v m
  part_known (p.Then public n (p.Class x g fields) rest) k v m = part_known rest k.1 v m
  part_known (p.Then public n (p.NamedObject x fields) rest) k v m = part_known rest k.1 v m
  part_known (p.Then public n (p.Evaluate a) rest) k v m = part_known rest k.1 v m

pub actor_head : (defs : Definitions) (fs : Fields) → head defs (t.Actor fs) ≡ node.Actor (listed_fields fs)
unfolding head
actor_head defs fs = refl

stable_wanted : (defs : Definitions) (number : Term → TypeId) (frame : Frame) (made : Declarations Note) → map (λ v. KeptOf v.of_type) (stable_of defs number frame made) ≡ map (λ z. KeptOf z.1) (stables number made)
stable_wanted defs number frame p.End = refl
stable_wanted defs number frame (p.Then public l (p.Let q a) rest) = stable_wanted defs number frame rest
stable_wanted defs number frame (p.Then public l (p.Var true x u a) rest) = ap (λ zs. KeptOf (number l.type) ∷ zs) (stable_wanted defs number frame rest)
stable_wanted defs number frame (p.Then public l (p.Var false x u a) rest) = stable_wanted defs number frame rest
stable_wanted defs number frame (p.Then public l (p.Func x g body) rest) = stable_wanted defs number frame rest
stable_wanted defs number frame (p.Then public l (p.Method query context x g body) rest) = stable_wanted defs number frame rest
stable_wanted defs number frame (p.Then public l (p.System x body) rest) = stable_wanted defs number frame rest
stable_wanted defs number frame (p.Then public l (p.TypeAlias x ps u) rest) = stable_wanted defs number frame rest
stable_wanted defs number frame (p.Then public l (p.Class x g fields) rest) = stable_wanted defs number frame rest
stable_wanted defs number frame (p.Then public l (p.NamedObject x fields) rest) = stable_wanted defs number frame rest
stable_wanted defs number frame (p.Then public l (p.Evaluate a) rest) = stable_wanted defs number frame rest

-- ---- lists of names

kept_mapped : (ys : List (Bytes × TypeId)) → map Kept (map (λ z. z.0) ys) ≡ map (λ z. Kept z.0) ys
kept_mapped [] = refl
kept_mapped (y ∷ ys) = ap (λ zs. Kept y.0 ∷ zs) (kept_mapped ys)

type_of_name : (xs : Names) (y : Bytes) → Among y (names_of xs) → (u : Term) × Among (y, u) xs
type_of_name [] y m = absurd m
type_of_name (x ∷ xs) y (inl e) = (x.1, inl (ap (λ z. (z, x.1)) e))
type_of_name (x ∷ xs) y (inr m) = let r = type_of_name xs y m in (r.0, inr r.1)

none_kept : (xs : Names) → NoneKept (map value (names_of xs))
none_kept [] = tt
none_kept (x ∷ xs) = none_kept xs

own_unkept : (methods : List Bytes) (o : Option Bytes) (es : List Entry) → NoneKept es → NoneKept (own_entry methods o ∷ es)
own_unkept methods None es h = h
own_unkept methods (Some x) es h = by (list_any (λ z. bytes_eq x z) methods) where
  by : (b : Bool) → NoneKept (cond b Unnamed (value x) ∷ es)
  by true = h
  by false = h

as_many : (number : Term → TypeId) (xs : Names) → length (wants number xs) ≡ length (map value (names_of xs))
as_many number [] = refl
as_many number (x ∷ xs) = ap suc (as_many number xs)

same_constant : (u : Term) (b : Bound) → Some (constant u) ≡ Some b → constant u ≡ b
same_constant u b h = cc

no_bound : (b : Bound) → None ≡ Some b → ⊥
no_bound b h = cc

no_label : (l : Label) → None ≡ Some l → ⊥
no_label l h = cc

no_type : (u : Term) → None ≡ Some u → ⊥
no_type u h = cc

not_so : false ≡ true → ⊥
not_so h = cc

module _ (defs : Definitions) (slots : List Slot) (terms : List Term) (number : Term → TypeId) where
  -- the actor itself, where no public function has this name
  own_stands : (methods : List Bytes) (o : Option Bytes) (u : Term) → ((x : Bytes) → o ≡ Some x → IsKnown defs terms [] u) → (es : List Entry) (ns : List (Want TypeId)) (y : Bytes) (b : Bound) → (Among y methods → ⊥) → named (own_name o u) y ≡ Some b
      → StandsIn defs slots terms number [] Local (own_entry methods o ∷ es) (own_want o (number u) ∷ ns) y b
  own_stands methods None u k es ns y b n h = absurd (no_bound b h)
  own_stands methods (Some x) u k es ns y b n h = by (bytes_eq y x) refl h where
    shown : y ≡ x → own_entry methods (Some x) ≡ value x
    shown e = on (outside methods (x ∷ []) x (inl refl)) where
      not_there : (b : Bool) → Among x (cond (not b) (x ∷ []) []) → cond b Unnamed (value x) ≡ value x
      not_there true m = absurd m
      not_there false m = refl

      on : Among x methods ⊎ Among x (without methods (x ∷ [])) → own_entry methods (Some x) ≡ value x
      on (inl m) = absurd (n (subst (λ z. Among z methods) (sym e) m))
      on (inr m) = not_there (list_any (λ z. bytes_eq x z) methods) m

    by : (t : Bool) → bytes_eq y x ≡ t → cond t (Some (constant u)) None ≡ Some b → StandsIn defs slots terms number [] Local (own_entry methods (Some x) ∷ es) (Of (number u) ∷ ns) y b
    by false i h = absurd (no_bound b h)
    by true i h =
        let e : y ≡ x = (bytes_eq-Decides y x).0 i in
        subst (λ z. StandsIn defs slots terms number [] Local (z ∷ es) (Of (number u) ∷ ns) y b) (sym (shown e))
        (subst (λ z. StandsAt defs slots terms number [] Local z (Of (number u) ∷ ns) b) (sym (ap (λ t. cond t (record { index = zero; cell = false }) (found_from 1 es y)) ((bytes_eq-Decides x y).1 (sym e))))
        (subst (λ z. StandsAt defs slots terms number [] Local (record { index = zero; cell = false }) (Of (number u) ∷ ns) z) (same_constant u b h) (Of (number u), refl, AValue refl refl refl (k x refl) refl)))

  -- a public function behind it
  own_apart : (methods : List Bytes) (o : Option Bytes) (y : Bytes) → Among y methods → Among y (entry_names (own_entry methods o ∷ [])) → ⊥
  own_apart methods None y h m = m
  own_apart methods (Some x) y h m = hidden_apart methods (x ∷ []) y h m

  function_stands : (o : Option Bytes) (w : Want TypeId) (xs : Names) → Distinct (names_of xs) → Each (λ z. IsKnown defs terms [] z.1) xs → (es : List Entry) (ns : List (Want TypeId)) (y : Bytes) (u : Term) → Among (y, u) xs
      → StandsIn defs slots terms number [] Local (own_entry (names_of xs) o ∷ (map value (names_of xs) ++ es)) (w ∷ (wants number xs ++ ns)) y (constant u)
  function_stands o w xs d k es ns y u m =
      stands_beyond defs slots terms number [] Local (own_entry (names_of xs) o ∷ []) (map value (names_of xs) ++ es) (w ∷ []) (wants number xs ++ ns) y (constant u) (own_apart (names_of xs) o y (name_among (y, u) xs m)) refl
      (names_stand defs slots terms number [] Local [] xs d k [] es ns (λ z n. absurd n) y (inl (name_among (y, u) xs m)) (constant u) (ap (λ z. named z y) (entered_on xs []) ∙ entered_named xs [] (y, u) d m))

  abbrev Gets : Frame → typed.Context → List (Bytes × TypeId) → Type 0
  Gets f c ys = (x : Bytes) (v : TypeId) → Among (x, v) ys → slice_get c.names (kept_at f x) ≡ Some (KeptOf v)

  all_kept : (end : Context) (f : Frame) (c : typed.Context) (ys : List (Bytes × TypeId)) → Gets f c ys → (ds : Declarations ℕ) (given : List Given) → AllAmongStables defs slots terms number end ys ds given → AreKept defs slots terms number f c ds given
  all_kept end f c ys gets p.End given h = tt
  all_kept end f c ys gets (p.Then public n (p.Let q a) rest) [] h = tt
  all_kept end f c ys gets (p.Then public n (p.Let q a) rest) (one ∷ ones) h = (tt, all_kept end f c ys gets rest ones h.1)
  all_kept end f c ys gets (p.Then public n (p.Var true x u a) rest) [] h = tt
  all_kept end f c ys gets (p.Then public n (p.Var true x u a) rest) (one ∷ ones) h = ((λ v i. gets x.bytes (number v) (h.0 v i)), all_kept end f c ys gets rest ones h.1)
  all_kept end f c ys gets (p.Then public n (p.Var false x u a) rest) [] h = tt
  all_kept end f c ys gets (p.Then public n (p.Var false x u a) rest) (one ∷ ones) h = (tt, all_kept end f c ys gets rest ones h.1)
  all_kept end f c ys gets (p.Then public n (p.Func x g body) rest) [] h = tt
  all_kept end f c ys gets (p.Then public n (p.Func x g body) rest) (one ∷ ones) h = (tt, all_kept end f c ys gets rest ones h.1)
  all_kept end f c ys gets (p.Then public n (p.Method query context x g body) rest) [] h = tt
  all_kept end f c ys gets (p.Then public n (p.Method query context x g body) rest) (one ∷ ones) h = (tt, all_kept end f c ys gets rest ones h.1)
  all_kept end f c ys gets (p.Then public n (p.System x body) rest) [] h = tt
  all_kept end f c ys gets (p.Then public n (p.System x body) rest) (one ∷ ones) h = (tt, all_kept end f c ys gets rest ones h.1)
  all_kept end f c ys gets (p.Then public n (p.TypeAlias x ps u) rest) [] h = tt
  all_kept end f c ys gets (p.Then public n (p.TypeAlias x ps u) rest) (one ∷ ones) h = (tt, all_kept end f c ys gets rest ones h.1)
  all_kept end f c ys gets (p.Then public n (p.Class x g fields) rest) [] h = tt
  all_kept end f c ys gets (p.Then public n (p.Class x g fields) rest) (one ∷ ones) h = (tt, all_kept end f c ys gets rest ones h.1)
  all_kept end f c ys gets (p.Then public n (p.NamedObject x fields) rest) [] h = tt
  all_kept end f c ys gets (p.Then public n (p.NamedObject x fields) rest) (one ∷ ones) h = (tt, all_kept end f c ys gets rest ones h.1)
  all_kept end f c ys gets (p.Then public n (p.Evaluate a) rest) [] h = tt
  all_kept end f c ys gets (p.Then public n (p.Evaluate a) rest) (one ∷ ones) h = (tt, all_kept end f c ys gets rest ones h.1)

-- ---- the program

module _ (program : Program ℕ) (slots : List Slot) (terms : List Term) (number : Term → TypeId) (graph : IsGraphOf (gathered program) slots terms number) (there : (x : Bytes) → program.name ≡ Some x → Among (actor_type program) terms)
    (q : Term × Declarations Note) (m : ActorMade (gathered program) slots terms number (first_context program) program.fields q)
    (o : IsActorInOrder (gathered program) slots number (with_list no_types program.fields) (own_names program.name) program.fields q.1) where
  abbrev defs : Definitions
  defs = gathered program

  abbrev ds : Declarations ℕ
  ds = program.fields

  abbrev s : TypeScope
  s = with_list no_types program.fields

  abbrev pub e : Context
  e = first_context program

  abbrev end : Context
  end = directly Other (record (in_scope (first_context program) program.fields) { values = behind m.list.given (in_scope (first_context program) program.fields).values })

  abbrev xs : Names
  xs = functions_of (with_list no_types program.fields) program.fields

  abbrev ys : List (Bytes × TypeId)
  ys = stables number q.1

  abbrev pub P : TypedProgram
  P = desugared (gathered program) number slots (made_program program q.1)

  abbrev pub f : Frame
  f = written.around (made_program program q.1)

  abbrev pub own : Want TypeId
  own = own_want program.name (number (actor_type program))

  abbrev pub c : typed.Context
  c = around slots own (method_wants number q.1) P.stable

  around_made : AreAround defs slots terms number end ds q.1
  around_made = all_around defs slots terms number end ds m.list.given q.1 m.behind_list

  actor_known : (x : Bytes) → program.name ≡ Some x → IsKnown defs terms [] (actor_type program)
  actor_known x h = record {
    there = there x h;
    fine = made_fine defs [] (actor_type program) (node.Actor (listed_fields (method_fields s ds))) (actor_head defs (method_fields s ds)) tt refl (λ v n. (part_known defs terms s ds m.list.known v n).fine.scoped);
  }

  functions_distinct : Distinct (names_of xs)
  functions_distinct = subst (λ zs. Distinct zs) (public_named s ds) (functions_differ ds o.differ)

  stables_distinct : Distinct (map (λ z. z.0) ys)
  stables_distinct = subst (λ zs. Distinct zs) (sym around_made.from) (sources_differ ds o.differ)

  abbrev E : List Entry
  E = own_entry (names_of xs) program.name ∷ (map value (names_of xs) ++ map (λ z. Kept z.0) ys)

  abbrev W : List (Want TypeId)
  W = own ∷ (wants number xs ++ map (λ z. KeptOf z.1) ys)

  entries_are : E ≡ f.names
  entries_are = ap₂ (λ a b. own_entry a program.name ∷ (map value a ++ b)) (sym around_made.names) (sym (kept_mapped ys) ∙ ap (λ zs. map Kept zs) (sym around_made.kept))

  wants_are : W ≡ c.names
  wants_are = ap₂ (λ a b. own ∷ (a ++ b)) (sym around_made.wanted) (sym (stable_wanted defs number (arranged false (pieces defs number q.1) f).frame q.1))

  stand_in : (y : Bytes) → Among y (outer_of (own_names program.name) ds) → (b : Bound) → named (in_scope e ds).values y ≡ Some b → StandsIn defs slots terms number [] Local E W y b
  stand_in y i b h = by (among_split (without (names_of_list ds) (own_names program.name ++ in_declarations ds)) (public_functions ds) y i) where
    by : Among y (without (names_of_list ds) (own_names program.name ++ in_declarations ds)) ⊎ Among y (public_functions ds) → StandsIn defs slots terms number [] Local E W y b
    by (inl k) =
        let out = not_bound (names_of_list ds) (own_names program.name ++ in_declarations ds) y k in
        own_stands defs slots terms number (names_of xs) program.name (actor_type program) actor_known (map value (names_of xs) ++ map (λ z. Kept z.0) ys) (wants number xs ++ map (λ z. KeptOf z.1) ys) y b
        (λ n. out (functions_named ds y (subst (λ zs. Among y zs) (sym (public_named s ds)) n))) (sym (skip_signed s ds y out e.values) ∙ h)
    by (inr k) =
        let r = type_of_name xs y (subst (λ zs. Among y zs) (public_named s ds) k) in
        subst (λ z. StandsIn defs slots terms number [] Local E W y z) (same_constant r.0 b (sym (signed_function s ds o.differ (y, r.0) r.1 e.values) ∙ h))
        (function_stands defs slots terms number program.name own xs functions_distinct (functions_known defs terms s ds m.list.known) (map (λ z. Kept z.0) ys) (map (λ z. KeptOf z.1) ys) y r.0 r.1)

  pub stand : (y : Bytes) → Among y (outer_of (own_names program.name) ds) → (b : Bound) → named (in_scope e ds).values y ≡ Some b → StandsIn defs slots terms number [] Local f.names c.names y b
  stand y i b h = subst (λ zs. StandsIn defs slots terms number [] Local f.names zs y b) wants_are (subst (λ zs. StandsIn defs slots terms number [] Local zs W y b) entries_are (stand_in y i b h))

  gets : Gets defs slots terms number f c ys
  gets x v n =
      subst (λ zs. slice_get zs (kept_at f x) ≡ Some (KeptOf v)) wants_are
      (subst (λ zs. slice_get W (kept_from zero zs x) ≡ Some (KeptOf v)) entries_are
      (kept_beyond (own_entry (names_of xs) program.name ∷ map value (names_of xs)) (map (λ z. Kept z.0) ys) (own ∷ wants number xs) (map (λ z. KeptOf z.1) ys) x (own_unkept (names_of xs) program.name (map value (names_of xs)) (none_kept xs)) (ap suc (as_many number xs))
      ∙ kept_there ys stables_distinct x v n))

  pub kept : AreKept defs slots terms number f c ds m.list.given
  kept = all_kept defs slots terms number end f c ys gets ds m.list.given (each_among defs slots terms number end ds m.list.given q.1 m.behind_list)

  pub fit : Fits defs slots terms number e.types [] (directly Other e) f c
  fit = record {
    names = λ x n b h. absurd n;
    labels = λ x l h. absurd (no_label l h);
    returns = λ u h. absurd (no_type u h);
    options = λ h. absurd (not_so h);
    body_is = refl;
    types = no_types_fine defs;
    bounds = no_bounds defs;
    scope_is = refl;
  }

  pub walk : Walked slots (pieces defs number q.1)
      (At defs slots terms number Local (in_scope e ds).values f c (outer_of (own_names program.name) ds) (facts_of slots number s (map (λ b. b.declared) (pieces defs number q.1)) ds q.1 m.list.given)) (Of (number q.0)) (arranged false (pieces defs number q.1) f) c
  walk = walked defs slots terms number graph e (own_names program.name) ds f own (method_wants number q.1) P.stable fit q m.list kept stand o

pub programs_are_walked : ProgramsAreWalked
programs_are_walked program slots terms number graph there q m o = let w = walk program slots terms number graph there q m o in (w.end, w.declared)
