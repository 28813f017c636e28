-- The functions of `ic0` that a valid module imports have the types that it asks for.
use Rattle.std.proofs.Common.{◌≡◌, ◌≤◌, ◌<◌, ◌-◌, ℕ, zero, suc, List, [], ◌∷◌, ◌++◌, length, map, Option, Some, None, refl, sym, ap, subst, ◌∙◌, arith, cond, get_or, codes, inl, inr}
use Rattle.std.specs.Prelude.{slice_get, option_map}
use Rattle.std.specs.List.{AllByRecursion}
use Rattle.std.proofs.lemmas.Bool.{cases_lt, le-ltb}
use Rattle.std.proofs.lemmas.Option.{slice_get-map}
use Rattle.wasm_tree.specs.declared.types.FunctionType.{FunctionType}
use Rattle.wasm_tree.specs.declared.module_parts.ImportKind.{ImportKind}
use Rattle.wasm_tree.specs.declared.module_parts.ImportKind.TheVariants as «import»
use Rattle.wasm_tree.specs.declared.module_parts.Import.{Import}
use Rattle.wasm_tree.specs.declared.module_parts.Module.{Module}
use Rattle.wasm_tree.specs.Rules.{or_no, every, imported_signatures, signatures}
use Rattle.wasm_tree.specs.Exec.{type_of}
use Rattle.wasm_tree.specs.Frames.{defined, imported_count}
use Rattle.wasm_tree.specs.Imports.{ic0}
use Rattle.wasm_tree.specs.Valid.{IsIc0, IsValidImport, ValidModule}
use Rattle.wasm_machine.specs.Asked.{IsMadeFor}
use Rattle.ic0_world.specs.declared.function.Ic0.{Ic0}
use Rattle.ic0_world.specs.declared.function.Ic0.TheVariants as f
use Rattle.ic0_world.specs.Names.{function_of, functions}
use Rattle.canister_host.specs.Types.{type_of_function}
use Rattle.canister_host.specs.Entries.{imported_names, then_named, imported_function}
use Rattle.module_entries.specs.Imported.{one_found, functions_of}

-- A function of `ic0` has this name and this type.
record Known (name : List ℕ) (type : FunctionType) : Type 0 where
  function : Ic0
  named : function_of name ≡ Some function
  typed : type_of_function function ≡ type

known : (name : List ℕ) (function : Ic0) → function_of name ≡ Some function → Known name (type_of_function function)
known name function named = record { function = function; named = named; typed = refl }

KnownPair : (List ℕ × FunctionType) → Type 0
KnownPair p = Known p.0 p.1

all_known : AllByRecursion (λ p. Known p.0 p.1) ic0
unfolding function_of functions
all_known = (
  known (codes "msg_arg_data_size") f.MsgArgDataSize refl,
  (
    known (codes "msg_arg_data_copy") f.MsgArgDataCopy refl,
    (
      known (codes "msg_caller_size") f.MsgCallerSize refl,
      (
        known (codes "msg_caller_copy") f.MsgCallerCopy refl,
        (
          known (codes "msg_reply_data_append") f.MsgReplyDataAppend refl,
          (
            known (codes "msg_reject") f.MsgReject refl,
            (
              known (codes "msg_reply") f.MsgReply refl,
              (
                known (codes "msg_reject_code") f.MsgRejectCode refl,
                (
                  known (codes "msg_reject_msg_size") f.MsgRejectMsgSize refl,
                  (
                    known (codes "msg_reject_msg_copy") f.MsgRejectMsgCopy refl,
                    (
                      known (codes "canister_self_size") f.CanisterSelfSize refl,
                      (
                        known (codes "canister_self_copy") f.CanisterSelfCopy refl,
                        (
                          known (codes "call_new") f.CallNew refl,
                          (
                            known (codes "call_on_cleanup") f.CallOnCleanup refl,
                            (
                              known (codes "call_data_append") f.CallDataAppend refl,
                              (
                                known (codes "call_perform") f.CallPerform refl,
                                (
                                  known (codes "stable64_size") f.StableSize refl,
                                  (
                                    known (codes "stable64_grow") f.StableGrow refl,
                                    (
                                      known (codes "stable64_read") f.StableRead refl,
                                      (
                                        known (codes "stable64_write") f.StableWrite refl,
                                        (
                                          known (codes "debug_print") f.DebugPrint refl,
                                          (known (codes "trap") f.Trap refl, tt),
                                        ),
                                      ),
                                    ),
                                  ),
                                ),
                              ),
                            ),
                          ),
                        ),
                      ),
                    ),
                  ),
                ),
              ),
            ),
          ),
        ),
      ),
    ),
  ),
)

known_at : (pairs : List (List ℕ × FunctionType)) → AllByRecursion (λ p. Known p.0 p.1) pairs → (name : List ℕ) (t : FunctionType) (k : ℕ) → k < length pairs → get_or pairs k (name, t) ≡ (name, t) → Known name t
known_at [] all name t k h e = absurd (omega arith)
known_at (p ∷ pairs) all name t zero h e = subst (λ (q : List ℕ × FunctionType). Known q.0 q.1) e all.0
known_at (p ∷ pairs) all name t (suc k) h e = known_at pairs all.1 name t k (omega arith) e

-- An import of a valid module is a function of `ic0` with its type.
record KnownImport (m : Module) (name : List ℕ) (kind : ImportKind) : Type 0 where
  signature : ℕ
  function : Ic0
  is : kind ≡ «import».Function signature
  named : function_of name ≡ Some function
  typed : slice_get m.types signature ≡ Some (type_of_function function)

known_import : (m : Module) (name : List ℕ) (kind : ImportKind) → IsIc0 every m name kind → KnownImport m name kind
known_import m name («import».Function signature) v =
    let c = v.2 tt in
    let k = known_at ic0 all_known name v.0 c.0 c.1 c.2 in
    record { signature = signature; function = k.function; is = refl; named = k.named; typed = v.1.there tt ∙ ap Some (sym k.typed) }
known_import m name («import».Table l) v = absurd (v tt)
known_import m name («import».Memory l) v = absurd (v tt)
known_import m name («import».Global g) v = absurd (v tt)

-- The function and the type at each index are those of the import there.
record At (m : Module) (is : List Import) (index : ℕ) : Type 0 where
  named : slice_get (functions_of is) index ≡ then_named (slice_get (imported_names is) index)
  typed : option_map type_of_function (slice_get (functions_of is) index) ≡ or_no (slice_get (imported_signatures is) index) (slice_get m.types)

import_of : List ℕ → List ℕ → ImportKind → Import
import_of from name kind = record { «module» = from; name = name; kind = kind }

at_one : (m : Module) (from name : List ℕ) (kind : ImportKind) → IsIc0 every m name kind → (is : List Import) → ((index : ℕ) → At m is index) → (index : ℕ) → At m (record { «module» = from; name = name; kind = kind } ∷ is) index
at_one m from name («import».Function signature) v is later zero =
    let c = v.2 tt in
    let k = known_at ic0 all_known name v.0 c.0 c.1 c.2 in
    record {
      named = ap (λ o. slice_get (one_found o ++ functions_of is) zero) k.named ∙ sym k.named;
      typed = ap (λ o. option_map type_of_function (slice_get (one_found o ++ functions_of is) zero)) k.named ∙ ap Some k.typed ∙ sym (v.1.there tt);
    }
at_one m from name («import».Function signature) v is later (suc index) =
    let c = v.2 tt in
    let k = known_at ic0 all_known name v.0 c.0 c.1 c.2 in
    record {
      named = ap (λ o. slice_get (one_found o ++ functions_of is) (suc index)) k.named ∙ (later index).named;
      typed = ap (λ o. option_map type_of_function (slice_get (one_found o ++ functions_of is) (suc index))) k.named ∙ (later index).typed;
    }
at_one m from name («import».Table l) v is later index = absurd (v tt)
at_one m from name («import».Memory l) v is later index = absurd (v tt)
at_one m from name («import».Global g) v is later index = absurd (v tt)

at_each : (m : Module) (is : List Import) → AllByRecursion (IsValidImport every m) is → (index : ℕ) → At m is index
at_each m [] all index = record { named = refl; typed = refl }
at_each m (i ∷ is) all index = at_one m i.«module» i.name i.kind all.0.function is (λ index. at_each m is all.1 index) index

-- The functions of the imports are those that the module's indices name.
pub each_imported : (m : Module) → ValidModule m → (index : ℕ) → slice_get (functions_of m.imports) index ≡ imported_function m index
each_imported m v index = (at_each m m.imports v.parts.imports index).named

in_front : (xs ys : List ℕ) (i : ℕ) → i < length xs → slice_get (xs ++ ys) i ≡ slice_get xs i
in_front [] ys i l = absurd (omega arith)
in_front (x ∷ xs) ys zero l = refl
in_front (x ∷ xs) ys (suc i) l = in_front xs ys i (omega arith)

nothing_less : (n : ℕ) → n - 0 ≡ n
nothing_less n = omega arith

behind : (xs ys : List ℕ) (i : ℕ) → length xs ≤ i → slice_get (xs ++ ys) i ≡ slice_get ys (i - length xs)
behind [] ys i l = ap (slice_get ys) (sym (nothing_less i))
behind (x ∷ xs) ys zero l = absurd (omega arith)
behind (x ∷ xs) ys (suc i) l = behind xs ys i (omega arith) ∙ ap (slice_get ys) (sym (one_less i (length xs)))
  where
    one_less : (a b : ℕ) → suc a - suc b ≡ a - b
    one_less a b = omega arith

no_type : (m : Module) (o : Option ℕ) (t : FunctionType) → o ≡ None → or_no o (slice_get m.types) ≡ Some t → ⊥
no_type m None t e typed = cc
no_type m (Some s) t e typed = cc

-- A function that the module does not define is imported.
imported_within : (m : Module) (index : ℕ) (t : FunctionType) → type_of m index ≡ Some t → defined m index ≡ None → index < imported_count m
imported_within m index t typed none =
    elim (cases_lt index (imported_count m)) [
      | inl less ↦ less
      | inr past ↦ absurd (gone past)
    ]
  where
    gone : imported_count m ≤ index → ⊥
    gone past =
        let lacks : slice_get m.functions (index - imported_count m) ≡ None = ap (λ b. cond b None (slice_get m.functions (index - imported_count m))) (sym (le-ltb index (imported_count m) past)) ∙ none in
        let gap : slice_get (signatures m) index ≡ None =
        behind (imported_signatures m.imports) (map (λ f. f.signature) m.functions) index past
        ∙ slice_get-map (λ f. f.signature) m.functions (index - imported_count m)
        ∙ ap (option_map (λ f. f.signature)) lacks in
        no_type m (slice_get (signatures m) index) t gap typed

pub made_for : (m : Module) → ValidModule m → IsMadeFor m (map type_of_function (functions_of m.imports))
made_for m v index t typed none =
    slice_get-map type_of_function (functions_of m.imports) index
    ∙ (at_each m m.imports v.parts.imports index).typed
    ∙ ap (λ o. or_no o (slice_get m.types)) (sym (in_front (imported_signatures m.imports) (map (λ f. f.signature) m.functions) index (imported_within m index t typed none)))
    ∙ typed

-- The functions that were pushed behind none.
pushed : (m tree : Module) → tree ≡ m → (imports : List Import) → imports ≡ tree.imports → (before after : List Ic0) → before ≡ [] → after ≡ before ++ functions_of imports → after ≡ functions_of m.imports
pushed m tree same imports are before after none e = e ∙ ap (λ l. l ++ functions_of imports) none ∙ ap functions_of are ∙ ap (λ (t : Module). functions_of t.imports) same

pub imported_are : (m tree : Module) → tree ≡ m → ValidModule tree → (imports : List Import) → imports ≡ tree.imports → (before : List Ic0) → before ≡ [] → (after : List Ic0) → after ≡ before ++ functions_of imports
    → (index : ℕ) → slice_get after index ≡ imported_function m index
imported_are m tree same v imports are before none after e index =
    ap (λ l. slice_get l index) (pushed m tree same imports are before after none e) ∙ each_imported m (subst ValidModule same v) index

pub made_of : (m tree : Module) → tree ≡ m → ValidModule tree → (imports : List Import) → imports ≡ tree.imports → (before : List Ic0) → before ≡ [] → (after : List Ic0) → after ≡ before ++ functions_of imports
    → IsMadeFor m (map type_of_function after)
made_of m tree same v imports are before none after e =
    subst (λ l. IsMadeFor m (map type_of_function l)) (sym (pushed m tree same imports are before after none e)) (made_for m (subst ValidModule same v))
