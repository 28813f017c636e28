-- What the layout of a module tells of its functions' types, and which functions may be called.
use Rattle.std.proofs.Common.{◌≡◌, ◌≤◌, ◌<◌, ℕ, List, [], ◌∷◌, length, Option, Some, None, refl, sym, ap, subst, ◌∙◌, true, false, Bool, arith, get_or}
use Rattle.std.specs.Prelude.{◌&&◌, ◌==◌, IfSome, slice_get}
use Rattle.std.proofs.Math.Dec.{eqb-suc-zero}
use Rattle.std.proofs.lemmas.Option.{slice_get_past, slice_get-get_or}
use Rattle.std.proofs.lemmas.Bool.{ne_eqb}
use Rattle.wasm_machine.proofs.Callees.{signature_within}
use Rattle.wasm_tree.specs.declared.rule.Rule.TheVariants as rule
use Rattle.wasm_tree.specs.declared.types.ValueType.{ValueType}
use Rattle.wasm_tree.specs.declared.types.ValueType.TheVariants.{I32, I64}
use Rattle.wasm_tree.specs.declared.types.FunctionType.{FunctionType}
use Rattle.wasm_tree.specs.declared.module_parts.Module.{Module}
use Rattle.wasm_tree.specs.Rules.{or_no, every, signatures}
use Rattle.wasm_tree.specs.Exec.{same_kinds, same_type, type_of}
use Rattle.wasm_tree.specs.Imports.{entry_type}
use Rattle.wasm_tree.specs.Valid.{IsEntered}
use Rattle.wasm_steps.specs.declared.step.Step.{Step}
use Rattle.wasm_steps.specs.declared.layout.FunctionLayout.{FunctionLayout}
use Rattle.wasm_steps.specs.declared.layout.ModuleLayout.{ModuleLayout}
use Rattle.wasm_steps.specs.Layout.{IsModuleLayout, IsFunctionLayout}
use Rattle.wasm_machine.specs.Ran.{IsCallable}
use Rattle.canister_host.specs.Entries.{callback_type}

-- Past the functions there is no type.
pub outside : (m : Module) (layout : ModuleLayout) (f : ℕ) (t : FunctionType) → IsModuleLayout m layout → length layout.functions ≤ f → same_type (type_of m f) (Some t) ≡ false
outside m layout f t laid past =
    let gone : length (signatures m) ≤ f = let e = laid.count in omega arith in
    ap (λ o. same_type (or_no o (slice_get m.types)) (Some t)) (slice_get_past (signatures m) f gone)

typed : (m : Module) (steps : List Step) (f : ℕ) (l : FunctionLayout) (laid : IsFunctionLayout m steps f l) → type_of m f ≡ Some laid.type
typed m steps f l laid = ap (λ found. or_no found (slice_get m.types)) laid.signature ∙ laid.of_type

none_same : (ks : List ValueType) → same_kinds ks [] ≡ (length ks == 0)
none_same [] = refl
none_same (k ∷ ks) = sym (eqb-suc-zero (length ks))

-- A function takes and gives nothing where it has no parameters and no results.
pub plain : (m : Module) (layout : ModuleLayout) → IsModuleLayout m layout → (f : ℕ) (l : FunctionLayout) → slice_get layout.functions f ≡ Some l
    → same_type (type_of m f) (Some entry_type) ≡ ((l.params == 0) && (l.results == 0))
plain m layout laid f l is =
    let facts = laid.each f l is in
    ap (λ o. same_type o (Some entry_type)) (typed m layout.steps f l facts)
    ∙ ap (λ a. a && same_kinds facts.type.results []) (none_same facts.type.params)
    ∙ ap (λ b. (length facts.type.params == 0) && b) (none_same facts.type.results)
    ∙ ap (λ n. (n == 0) && (length facts.type.results == 0)) (sym facts.params)
    ∙ ap (λ n. (l.params == 0) && (n == 0)) (sym facts.results)

some_same : {A : Type 0} (a b : A) → Some a ≡ Some b → a ≡ b
some_same {A = A} a b e = ap (or_other a) e
  where
    or_other : A → Option A → A
    or_other x None = x
    or_other x (Some y) = y

swapped : (a b : Bool) → (a && b) ≡ (b && a)
swapped true true = refl
swapped true false = refl
swapped false true = refl
swapped false false = refl

-- A function is a callback where its one parameter is an i32 and it has no results.
pub takes_environment : (m : Module) (layout : ModuleLayout) → IsModuleLayout m layout → (f : ℕ) (l : FunctionLayout) → slice_get layout.functions f ≡ Some l
    → (t : FunctionType) → slice_get m.types l.signature ≡ Some t → same_type (type_of m f) (Some callback_type) ≡ ((l.results == 0) && same_kinds t.params (I32 ∷ []))
takes_environment m layout laid f l is t of_type =
    let facts = laid.each f l is in
    let same : facts.type ≡ t = some_same facts.type t (sym facts.of_type ∙ of_type) in
    ap (λ o. same_type o (Some callback_type)) (typed m layout.steps f l facts)
    ∙ ap (λ b. same_kinds facts.type.params (I32 ∷ []) && b) (none_same facts.type.results)
    ∙ ap (λ n. same_kinds facts.type.params (I32 ∷ []) && (n == 0)) (sym facts.results)
    ∙ swapped (same_kinds facts.type.params (I32 ∷ [])) (l.results == 0)
    ∙ ap (λ (u : FunctionType). (l.results == 0) && same_kinds u.params (I32 ∷ [])) same

no_kinds : (ks : List ValueType) → same_kinds ks [] ≡ true → ks ≡ []
no_kinds [] e = refl
no_kinds (k ∷ ks) e = cc

one_kind : (ks : List ValueType) → same_kinds ks (I32 ∷ []) ≡ true → 1 ≡ length ks
one_kind [] e = cc
one_kind (I32 ∷ []) e = refl
one_kind (I64 ∷ ks) e = cc
one_kind (I32 ∷ k ∷ ks) e = cc

both : (a b : Bool) → (a && b) ≡ true → (a ≡ true) × (b ≡ true)
both true b e = (refl, e)
both false b e = cc

entry_callable : (m : Module) (f : ℕ) (o : Option FunctionType) → type_of m f ≡ o → same_type o (Some entry_type) ≡ true → IsCallable m f []
entry_callable m f None typed e = cc
entry_callable m f (Some t) typed e =
    let h = both (same_kinds t.params []) (same_kinds t.results []) e in
    record { type = t; of_type = typed; many = sym (ap length (no_kinds t.params h.0)); none = no_kinds t.results h.1 }

pub callable : (m : Module) (f : ℕ) → same_type (type_of m f) (Some entry_type) ≡ true → IsCallable m f []
callable m f e = entry_callable m f (type_of m f) refl e

environment_callable : (m : Module) (f : ℕ) (o : Option FunctionType) → type_of m f ≡ o → same_type o (Some callback_type) ≡ true → (environment : ℕ) → IsCallable m f (environment ∷ [])
environment_callable m f None typed e environment = cc
environment_callable m f (Some t) typed e environment =
    let h = both (same_kinds t.params (I32 ∷ [])) (same_kinds t.results []) e in
    record { type = t; of_type = typed; many = one_kind t.params h.0; none = no_kinds t.results h.1 }

pub callback_callable : (m : Module) (f : ℕ) → same_type (type_of m f) (Some callback_type) ≡ true → (environment : ℕ) → IsCallable m f (environment ∷ [])
callback_callable m f e = environment_callable m f (type_of m f) refl e

start_of : (m : Module) (start : Option ℕ) → IfSome start (IsEntered every m rule.Start) → IfSome start (λ f. IsCallable m f [])
start_of m None v = tt
start_of m (Some f) v =
    record { type = v.type; of_type = v.of_function.there tt; many = sym (ap (λ (t : FunctionType). length t.params) (v.plain tt)); none = ap (λ (t : FunctionType). t.results) (v.plain tt) }

-- The start function of a valid module may be called.
pub start_callable : (m : Module) → IfSome m.start (IsEntered every m rule.Start) → IfSome m.start (λ f. IsCallable m f [])
start_callable m v = start_of m m.start v

unlike_one : (k j : ValueType) (ks : List ValueType) → same_kinds (k ∷ j ∷ ks) (I32 ∷ []) ≡ false
unlike_one I32 j ks = refl
unlike_one I64 j ks = refl

-- No other list of kinds is one i32.
pub other_kinds : (ks : List ValueType) → 2 ≤ length ks → false ≡ same_kinds ks (I32 ∷ [])
other_kinds [] long = absurd (omega arith)
other_kinds (k ∷ []) long = absurd (omega arith)
other_kinds (k ∷ j ∷ ks) long = sym (unlike_one k j ks)

-- What is found at an index of the layout's functions.
pub plain_at : (m : Module) (layout : ModuleLayout) → IsModuleLayout m layout → (functions : List FunctionLayout) → functions ≡ layout.functions → (f : ℕ) → f < length functions → (d : FunctionLayout)
    → same_type (type_of m f) (Some entry_type) ≡ (((get_or functions f d).params == 0) && ((get_or functions f d).results == 0))
plain_at m layout laid functions same f less d =
    plain m layout laid f (get_or functions f d) (subst (λ (l : List FunctionLayout). slice_get l f ≡ Some (get_or functions f d)) same (slice_get-get_or functions f d less))

pub both_zero : (a b : ℕ) (t : Bool) → t ≡ ((a == 0) && (b == 0)) → a ≡ 0 → (b == 0) ≡ t
both_zero a b t e zero_a = sym (e ∙ ap (λ n. (n == 0) && (b == 0)) zero_a)

not_first : (x y : Bool) → x ≡ false → x ≡ (x && y)
not_first true y e = cc
not_first false y e = refl

pub first_not_zero : (a b : ℕ) (t : Bool) → t ≡ ((a == 0) && (b == 0)) → (a ≡ 0 → ⊥) → (a == 0) ≡ t
first_not_zero a b t e some = not_first (a == 0) (b == 0) (ne_eqb a 0 some) ∙ sym e

pub environment_at : (m : Module) (layout : ModuleLayout) → IsModuleLayout m layout → (functions : List FunctionLayout) → functions ≡ layout.functions → (f : ℕ) → f < length functions → (d : FunctionLayout)
    → (types : List FunctionType) → types ≡ m.types → (e : FunctionType) → same_type (type_of m f) (Some callback_type) ≡ (((get_or functions f d).results == 0) && same_kinds (get_or types (get_or functions f d).signature e).params (I32 ∷ []))
environment_at m layout laid functions same f less d types are e =
    let found : slice_get layout.functions f ≡ Some (get_or functions f d) = subst (λ (l : List FunctionLayout). slice_get l f ≡ Some (get_or functions f d)) same (slice_get-get_or functions f d less) in
    takes_environment m layout laid f (get_or functions f d) found (get_or types (get_or functions f d).signature e)
    (subst (λ (l : List FunctionType). slice_get l (get_or functions f d).signature ≡ Some (get_or types (get_or functions f d).signature e)) are
    (slice_get-get_or types (get_or functions f d).signature e (subst (λ (l : List FunctionType). (get_or functions f d).signature < length l) (sym are) (signature_within m layout laid f (get_or functions f d) found))))

pub signature_at : (m : Module) (layout : ModuleLayout) → IsModuleLayout m layout → (functions : List FunctionLayout) → functions ≡ layout.functions → (f : ℕ) → f < length functions → (d : FunctionLayout)
    → (types : List FunctionType) → types ≡ m.types → (get_or functions f d).signature < length types
signature_at m layout laid functions same f less d types are =
    subst (λ (l : List FunctionType). (get_or functions f d).signature < length l) (sym are)
    (signature_within m layout laid f (get_or functions f d) (subst (λ (l : List FunctionLayout). slice_get l f ≡ Some (get_or functions f d)) same (slice_get-get_or functions f d less)))

pub no_results : (r : ℕ) (k t : Bool) → t ≡ ((r == 0) && k) → r ≡ 0 → k ≡ t
no_results r k t e zero_r = sym (e ∙ ap (λ n. (n == 0) && k) zero_r)

pub some_results : (r : ℕ) (k t : Bool) → t ≡ ((r == 0) && k) → (r ≡ 0 → ⊥) → (r == 0) ≡ t
some_results r k t e some = not_first (r == 0) k (ne_eqb r 0 some) ∙ sym e
