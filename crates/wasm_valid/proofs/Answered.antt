-- What the tests of parts of a module answer.
use Rattle.std.proofs.Common.{◌≡◌, ℕ, zero, suc, ◌<◌, ◌≤◌, List, [], ◌∷◌, ◌++◌, length, take, drop, get_or, codes, Option, Some, None, refl, sym, ap, ◌∙◌, arith, Bool, true, false, inl, inr, ◌⊎◌, length-append, length-drop}
use Rattle.std.proofs.lemmas.Bool.{eqb-true, ltb-true, leb-true, lt-ltb, le-leb}
use Rattle.std.proofs.lemmas.Slice.Eq.{bytes_eq-Decides}
use Rattle.std.proofs.Math.Seq.{drop-append_seam, take-append_seam}
use Rattle.std.proofs.lemmas.List.{take-append-drop}
use Rattle.std.specs.Prelude.{◌&&◌, ◌||◌, ◌==◌, ◌≢◌, IfSome, Contains, nat_lt, nat_le}
use Rattle.std.specs.List.{AllByRecursion}
use Rattle.std.specs.Str.{bytes_eq}
use Rattle.wasm_tree.specs.declared.types.ValueType.{ValueType}
use Rattle.wasm_tree.specs.declared.types.ValueType.TheVariants.{I32, I64}
use Rattle.wasm_tree.specs.declared.types.FunctionType.{FunctionType}
use Rattle.wasm_tree.specs.declared.types.Limits.{Limits}
use Rattle.wasm_tree.specs.declared.op.Plain.{Plain}
use Rattle.wasm_tree.specs.declared.op.Plain.TheVariants as plain
use Rattle.wasm_tree.specs.declared.op.Op.{Op}
use Rattle.wasm_tree.specs.declared.op.Op.TheVariants as op
use Rattle.wasm_tree.specs.declared.module_parts.ExportKind.{ExportKind}
use Rattle.wasm_tree.specs.declared.module_parts.ExportKind.TheVariants as export
use Rattle.wasm_tree.specs.declared.module_parts.Module.{Module}
use Rattle.wasm_tree.specs.Exec.{same_kind}
use Rattle.wasm_tree.specs.Rules.{signatures}
use Rattle.wasm_tree.specs.Imports.{function_type, entry_type, IsMethodName, IsEntryName}
use Rattle.wasm_tree.specs.Valid.{IsConstant, IsWithin, IsThere}
use Rattle.wasm_valid.specs.Parts.{max_within, within, constant_plain, is_constant, same_kinds, knows, is_plain, is_there, is_visible, is_method, is_entry_name}
use Rattle.wasm_valid.proofs.Stacks.{same_eq, same_refl}

pub both : (b d : Bool) → b && d ≡ true → (b ≡ true) × (d ≡ true)
both true d e = (refl, e)
both false d e = cc

pub both_of : (b d : Bool) → b ≡ true → d ≡ true → b && d ≡ true
both_of b d x y = ap (λ b. b && d) x ∙ y

either : (b d : Bool) → b || d ≡ true → (b ≡ true) ⊎ (d ≡ true)
either true d e = inl refl
either false d e = inr e

left_of : (b d : Bool) → b ≡ true → b || d ≡ true
left_of b d x = ap (λ b. b || d) x

right_of : (b d : Bool) → d ≡ true → b || d ≡ true
right_of true d x = refl
right_of false d x = x

max_sound : (bound min : ℕ) (max : Option ℕ) → max_within bound min max ≡ true → IfSome max (λ max. (min ≤ max) × (max ≤ bound))
max_sound bound min None e = tt
max_sound bound min (Some max) e = let h = both (nat_le min max) (nat_le max bound) e in (leb-true min max h.0, leb-true max bound h.1)

max_complete : (bound min : ℕ) (max : Option ℕ) → IfSome max (λ max. (min ≤ max) × (max ≤ bound)) → max_within bound min max ≡ true
max_complete bound min None h = refl
max_complete bound min (Some max) h = both_of (nat_le min max) (nat_le max bound) (le-leb min max h.0) (le-leb max bound h.1)

pub within_sound : (bound : ℕ) (l : Limits) → within bound l ≡ true → IsWithin bound l
within_sound bound l e = let h = both (nat_le l.min bound) (max_within bound l.min l.max) e in record { min = leb-true l.min bound h.0; max = max_sound bound l.min l.max h.1 }

pub within_complete : (bound : ℕ) (l : Limits) → IsWithin bound l → within bound l ≡ true
within_complete bound l w = both_of (nat_le l.min bound) (max_within bound l.min l.max) (le-leb l.min bound w.min) (max_complete bound l.min l.max w.max)

constant_plain_sound : (kind : ValueType) (p : Plain) → constant_plain kind p ≡ true → IsConstant kind (op.Plain p ∷ [])
constant_plain_sound kind (plain.I32Const z) e = inl (z, refl, same_eq kind I32 e)
constant_plain_sound kind (plain.I64Const z) e = inr (z, refl, same_eq kind I64 e)
constant_plain_sound kind p e = cc

pub constant_sound : (kind : ValueType) (ops : List Op) → is_constant kind ops ≡ true → IsConstant kind ops
constant_sound kind [] e = cc
constant_sound kind (op.Plain p ∷ []) e = constant_plain_sound kind p e
constant_sound kind (op.Plain p ∷ o ∷ ops) e = cc
constant_sound kind (o ∷ ops) e = cc

pub constant_complete : (kind : ValueType) (ops : List Op) → IsConstant kind ops → is_constant kind ops ≡ true
constant_complete kind ops (inl h) = ap (is_constant kind) h.1 ∙ ap (λ k. same_kind k I32) h.2
constant_complete kind ops (inr h) = ap (is_constant kind) h.1 ∙ ap (λ k. same_kind k I64) h.2

same_kinds_eq : (js ks : List ValueType) → same_kinds js ks ≡ true → js ≡ ks
same_kinds_eq [] [] e = refl
same_kinds_eq [] (k ∷ ks) e = cc
same_kinds_eq (j ∷ js) [] e = cc
same_kinds_eq (j ∷ js) (k ∷ ks) e =
    let h = both (same_kind j k) (same_kinds js ks) e in
    ap (λ j. j ∷ js) (same_eq j k h.0) ∙ ap (λ js. k ∷ js) (same_kinds_eq js ks h.1)

same_kinds_refl : (ks : List ValueType) → same_kinds ks ks ≡ true
same_kinds_refl [] = refl
same_kinds_refl (k ∷ ks) = both_of (same_kind k k) (same_kinds ks ks) (same_refl k) (same_kinds_refl ks)

empty : {A : Type 0} (list : List A) → length list ≡ 0 → list ≡ []
empty [] e = refl
empty (a ∷ list) e = absurd (omega arith)

pub plain_sound : (t : FunctionType) → is_plain t ≡ true → t ≡ entry_type
plain_sound t e =
    let h = both (length t.params == 0) (length t.results == 0) e in
    ap (λ ps. function_type ps t.results) (empty t.params (eqb-true (length t.params) 0 h.0)) ∙ ap (λ rs. function_type [] rs) (empty t.results (eqb-true (length t.results) 0 h.1))

pub plain_complete : (t : FunctionType) → t ≡ entry_type → is_plain t ≡ true
plain_complete t e = ap is_plain e

pub there_sound : (m : Module) (kind : ExportKind) → is_there m (signatures m) kind ≡ true → IsThere m kind
there_sound m (export.Function f) e = ltb-true f (length (signatures m)) e
there_sound m (export.Table t) e = ltb-true t (length m.tables) e
there_sound m (export.Memory x) e = ltb-true x (length m.memories) e
there_sound m (export.Global g) e = ltb-true g (length m.globals) e

pub there_complete : (m : Module) (kind : ExportKind) → IsThere m kind → is_there m (signatures m) kind ≡ true
there_complete m (export.Function f) h = lt-ltb f (length (signatures m)) h
there_complete m (export.Table t) h = lt-ltb t (length m.tables) h
there_complete m (export.Memory x) h = lt-ltb x (length m.memories) h
there_complete m (export.Global g) h = lt-ltb g (length m.globals) h

visible_sound : (bytes : List ℕ) → is_visible bytes ≡ true → AllByRecursion (λ b. (33 ≤ b) × (b ≤ 126)) bytes
visible_sound [] e = tt
visible_sound (b ∷ bytes) e =
    let h = both (nat_le 33 b && nat_le b 126) (is_visible bytes) e in
    let g = both (nat_le 33 b) (nat_le b 126) h.0 in
    ((leb-true 33 b g.0, leb-true b 126 g.1), visible_sound bytes h.1)

visible_complete : (bytes : List ℕ) → AllByRecursion (λ b. (33 ≤ b) × (b ≤ 126)) bytes → is_visible bytes ≡ true
visible_complete [] h = refl
visible_complete (b ∷ bytes) h =
    both_of (nat_le 33 b && nat_le b 126) (is_visible bytes) (both_of (nat_le 33 b) (nat_le b 126) (le-leb 33 b h.0.0) (le-leb b 126 h.0.1)) (visible_complete bytes h.1)

pub name_eq : (xs ys : List ℕ) → bytes_eq xs ys ≡ true → xs ≡ ys
name_eq xs ys e = (bytes_eq-Decides xs ys).0 e

pub name_same : (xs ys : List ℕ) → xs ≡ ys → bytes_eq xs ys ≡ true
name_same xs ys e = (bytes_eq-Decides xs ys).1 e

known_at : (f : List ℕ × FunctionType) (name : List ℕ) (t : FunctionType) → bytes_eq f.0 name && (same_kinds f.1.params t.params && same_kinds f.1.results t.results) ≡ true → f ≡ (name, t)
known_at f name t e =
    let h = both (bytes_eq f.0 name) (same_kinds f.1.params t.params && same_kinds f.1.results t.results) e in
    let g = both (same_kinds f.1.params t.params) (same_kinds f.1.results t.results) h.1 in
    ap (λ n. (n, f.1)) (name_eq f.0 name h.0) ∙ ap (λ ps. (name, function_type ps f.1.results)) (same_kinds_eq f.1.params t.params g.0)
    ∙ ap (λ rs. (name, function_type t.params rs)) (same_kinds_eq f.1.results t.results g.1)

pub knows_sound : (fs : List (List ℕ × FunctionType)) (name : List ℕ) (t : FunctionType) → knows fs name t ≡ true → Contains fs (name, t)
knows_sound [] name t e = cc
knows_sound (f ∷ fs) name t e =
    elim (either (bytes_eq f.0 name && (same_kinds f.1.params t.params && same_kinds f.1.results t.results)) (knows fs name t) e) [
      | inl h ↦ (0, omega arith, known_at f name t h)
      | inr h ↦ let r = knows_sound fs name t h in (suc r.0, omega (arith, r.1), r.2)
    ]

same_known : (f : List ℕ × FunctionType) (name : List ℕ) (t : FunctionType) → f ≡ (name, t) → bytes_eq f.0 name && (same_kinds f.1.params t.params && same_kinds f.1.results t.results) ≡ true
same_known f name t e =
    ap (λ f. bytes_eq f.0 name && (same_kinds f.1.params t.params && same_kinds f.1.results t.results)) e
    ∙ both_of (bytes_eq name name) (same_kinds t.params t.params && same_kinds t.results t.results) (name_same name name refl)
    (both_of (same_kinds t.params t.params) (same_kinds t.results t.results) (same_kinds_refl t.params) (same_kinds_refl t.results))

pub knows_complete : (fs : List (List ℕ × FunctionType)) (name : List ℕ) (t : FunctionType) (k : ℕ) → k < length fs → get_or fs k (name, t) ≡ (name, t) → knows fs name t ≡ true
knows_complete [] name t k h e = absurd (omega arith)
knows_complete (f ∷ fs) name t zero h e = left_of (bytes_eq f.0 name && (same_kinds f.1.params t.params && same_kinds f.1.results t.results)) (knows fs name t) (same_known f name t e)
knows_complete (f ∷ fs) name t (suc k) h e =
    right_of (bytes_eq f.0 name && (same_kinds f.1.params t.params && same_kinds f.1.results t.results)) (knows fs name t) (knows_complete fs name t k (omega arith) e)

method_sound : (front name : List ℕ) → is_method front name ≡ true → (method : List ℕ) × IsMethodName method × (name ≡ front ++ method)
method_sound front name e =
    let h = both (nat_lt (length front) (length name)) (bytes_eq (take (length front) name) front && is_visible (drop (length front) name)) e in
    let g = both (bytes_eq (take (length front) name) front) (is_visible (drop (length front) name)) h.1 in
    let longer = ltb-true (length front) (length name) h.0 in (
      drop (length front) name,
      record {
        some = λ none. let z : length (drop (length front) name) ≡ 0 = ap length none in omega (arith, longer, z, length-drop (length front) name);
        visible = visible_sound (drop (length front) name) g.1;
      },
      sym (take-append-drop (length front) name) ∙ ap (λ l. l ++ drop (length front) name) (name_eq (take (length front) name) front g.0),
    )

method_complete : (front method : List ℕ) → IsMethodName method → is_method front (front ++ method) ≡ true
method_complete front method m =
    both_of (nat_lt (length front) (length (front ++ method))) (bytes_eq (take (length front) (front ++ method)) front && is_visible (drop (length front) (front ++ method)))
    (lt-ltb (length front) (length (front ++ method)) (longer method m.some))
    (both_of (bytes_eq (take (length front) (front ++ method)) front) (is_visible (drop (length front) (front ++ method)))
    (name_same (take (length front) (front ++ method)) front (take-append_seam front method)) (ap is_visible (drop-append_seam front method) ∙ visible_complete method m.visible))
  where
    longer : (method : List ℕ) → method ≢ [] → length front < length (front ++ method)
    longer [] h = absurd (h refl)
    longer (b ∷ method) h = omega (arith, length-append front (b ∷ method))

pub entry_sound : (name : List ℕ) → is_entry_name name ≡ true → IsEntryName name
entry_sound name e =
    elim (either (bytes_eq name (codes "canister_init") || (bytes_eq name (codes "canister_pre_upgrade") || bytes_eq name (codes "canister_post_upgrade"))) (is_method (codes "canister_update ") name || is_method (codes "canister_query ") name) e) [
      | inl h ↦
          elim (either (bytes_eq name (codes "canister_init")) (bytes_eq name (codes "canister_pre_upgrade") || bytes_eq name (codes "canister_post_upgrade")) h) [
            | inl g ↦ inl (name_eq name (codes "canister_init") g)
            | inr g ↦
                elim (either (bytes_eq name (codes "canister_pre_upgrade")) (bytes_eq name (codes "canister_post_upgrade")) g) [
                  | inl f ↦ inr (inl (name_eq name (codes "canister_pre_upgrade") f))
                  | inr f ↦ inr (inr (inl (name_eq name (codes "canister_post_upgrade") f)))
                ]
          ]
      | inr h ↦
          elim (either (is_method (codes "canister_update ") name) (is_method (codes "canister_query ") name) h) [
            | inl g ↦ let w = method_sound (codes "canister_update ") name g in inr (inr (inr (w.0, w.1, inl w.2)))
            | inr g ↦ let w = method_sound (codes "canister_query ") name g in inr (inr (inr (w.0, w.1, inr w.2)))
          ]
    ]

pub entry_complete : (name : List ℕ) → IsEntryName name → is_entry_name name ≡ true
entry_complete name (inl h) = left_of _ _ (left_of _ _ (name_same name (codes "canister_init") h))
entry_complete name (inr (inl h)) = left_of _ _ (right_of (bytes_eq name (codes "canister_init")) _ (left_of _ _ (name_same name (codes "canister_pre_upgrade") h)))
entry_complete name (inr (inr (inl h))) = left_of _ _ (right_of (bytes_eq name (codes "canister_init")) _ (right_of (bytes_eq name (codes "canister_pre_upgrade")) _ (name_same name (codes "canister_post_upgrade") h)))
entry_complete name (inr (inr (inr h))) =
    right_of (bytes_eq name (codes "canister_init") || (bytes_eq name (codes "canister_pre_upgrade") || bytes_eq name (codes "canister_post_upgrade"))) (is_method (codes "canister_update ") name || is_method (codes "canister_query ") name)
    (elim h.2 [
      | inl e ↦ left_of (is_method (codes "canister_update ") name) (is_method (codes "canister_query ") name) (ap (is_method (codes "canister_update ")) e ∙ method_complete (codes "canister_update ") h.0 h.1)
      | inr e ↦ right_of (is_method (codes "canister_update ") name) (is_method (codes "canister_query ") name) (ap (is_method (codes "canister_query ")) e ∙ method_complete (codes "canister_query ") h.0 h.1)
    ])
