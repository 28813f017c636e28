-- Codes of routines in a function's locals, and calls of routines: how these end.
use Rattle.std.proofs.Common.{◌≡◌, ◌⊎◌, inl, inr, ℕ, ◌+◌, ◌*◌, ◌<◌, ◌≤◌, List, [], ◌∷◌, length, Bool, true, false, cond, nat_eq, Some, None, refl, sym, ap, ◌∙◌, subst, arith}
use Rattle.std.specs.Prelude.{slice_index, slice_set}
use Rattle.std.proofs.lemmas.Bool.Decides.{nat_tests}
use Rattle.std.proofs.lemmas.List.{length-set}
use Rattle.mo_values.specs.Costs.{Cost}
use Rattle.mo_values.specs.Shapes.{Bytes}
use Rattle.wasm_tree.specs.declared.trap.Trap.{Trap}
use Rattle.wasm_tree.specs.declared.trap.Trap.TheVariants as trap
use Rattle.wasm_tree.specs.declared.types.ValueType.{ValueType}
use Rattle.wasm_tree.specs.Exec.{Host, Store}
use Rattle.core_ir.specs.Primitives.{Done, Gives, Prints, Fails, Stuck}
use Rattle.core_ir.specs.Values.{Value}
use Rattle.core_ir.specs.Worlds.{World}
use Rattle.low_ir.specs.declared.op.Operand.{Operand}
use Rattle.low_ir.specs.declared.op.Operand.TheVariants.{Local, Word, Long}
use Rattle.low_ir.specs.Tree.{Code, Stop, Module}
use Rattle.low_ir.specs.Frames.{enter}
use Rattle.low_rules.specs.Rule.{CodeEnd, Next, Stops, CallEnd, Comes, Dies, ComesTo, Before, value_of, ends, spend, after_call, ResultTo}
use Rattle.low_rules.proofs.Entering.{weaker}
use Rattle.inlined_code.specs.Inlining.{Places, code_at, IsOwn}
use Rattle.number_routines.specs.Lines.{long_of}
use Rattle.heap_layout.specs.Ghosts.{Ghost}
use Rattle.heap_layout.specs.Means.{Rep}
use Rattle.heap_layout.specs.Heaps.{Plan}
use Rattle.emitted_steps.specs.Operations.{HeapHeld, IsPut, Worked}
use Rattle.emitted_steps.proofs.Frames.{local_here, local_other}
use Rattle.operation_codes.specs.Codes.{settle, calls, copies}
use Rattle.operation_lines.specs.Laws.{operation_steps}
use Rattle.operation_lines.proofs.Placed.{KeepsRest, Agree, goes_inline, begins_so, begins_inline}
use Rattle.operation_lines.proofs.Work.{start, End, Runs, does, worked}

same_number : (i j : ℕ) → nat_eq i j ≡ true → i ≡ j
same_number i j e = grind (arith, nat_tests, e)

other_number : (i j : ℕ) → nat_eq i j ≡ false → i ≡ j → ⊥
other_number i j e k = grind (arith, nat_tests, e, k)

-- ---- parts of ends of calls

abbrev store_of : {W : Type 0} → Store W → CallEnd W → Store W
store_of s (Comes n store v) = store
store_of s (Dies cause n store) = store

abbrev steps_of : {W : Type 0} → CallEnd W → ℕ
steps_of (Comes n store v) = n
steps_of (Dies cause n store) = n

abbrev cause_of : {W : Type 0} → CallEnd W → Trap
cause_of (Comes n store v) = trap.Host
cause_of (Dies cause n store) = cause

abbrev word_of : {W : Type 0} → CallEnd W → ℕ
word_of (Comes n store (Some w)) = w
word_of (Comes n store None) = 0
word_of (Dies cause n store) = 0

-- Whether an end is one of a result.
abbrev comes : {W : Type 0} → CallEnd W → Bool
comes (Comes n store v) = true
comes (Dies cause n store) = false

differ : {A : Type 0} → true ≡ false → A
differ e = absurd (cc e)

module _ {W : Type 0} (plan : Plan) (told fell : W → Bytes → W) (roof : ℕ) (g : Ghost) (world : World) (store : Store W) (top : ℕ) (heap : HeapHeld plan g world store top) (locals : List ℕ) (to free : ℕ) where
  -- A call that changes nothing ends as the primitive does, within so many steps.
  abbrev pub EndsSo : ℕ → Done → CallEnd W → Type 0
  EndsSo most (Gives cost v after) end = (spent : ℕ) × (word : ℕ) × (end ≡ Comes spent store (Some word)) × (spent ≤ most) × Rep g store.memory word v × (after ≡ world.store)
  EndsSo most (Fails cost text) end = (spent : ℕ) × (after : Store W) × (end ≡ Dies trap.Host spent after) × (spent ≤ most) × (after.world ≡ fell store.world text)
  EndsSo most (Prints cost text) end = ⊥
  EndsSo most Stuck end = ⊥

  abbrev pub weight_of : Done → ℕ
  weight_of (Gives cost v after) = cost.weight
  weight_of (Fails cost text) = cost.weight
  weight_of (Prints cost text) = cost.weight
  weight_of Stuck = 0

  module _ (pages : ℕ) (m : Module) (host : Host W) (deep room : ℕ) (to_fits : to < length locals) where
    -- ---- a call

    abbrev After : Done → CallEnd W → Type 0
    After d end = after_call (spend 3 (start plan told fell roof g world store top heap locals to free)) (ResultTo (Some to) (λ h. End plan told fell roof g world store top heap locals to free d (Next h))) (End plan told fell roof g world store top heap locals to free d) end

    called_end : (most : ℕ) (d : Done) → most + 8 ≤ operation_steps * weight_of d → (end : CallEnd W) → EndsSo most d end → After d end
    called_end most (Gives cost v after) few end h =
        let put : IsPut to free h.1 locals (slice_set locals to h.1) = record { long = length-set locals to h.1; word_is = local_here locals to h.1 to_fits; others = λ x lt ne. local_other locals to x h.1 ne } in
        let left : Worked plan told fell operation_steps g world store locals top to free cost.weight [] v world.store (record { spent = 0 + 3 + h.0 + 1; store = store; locals = slice_set locals to h.1 }) =
        worked plan told fell roof g world store top heap locals to free cost.weight (0 + 3 + h.0 + 1) h.1 v (slice_set locals to h.1) (omega arith) (let n = h.3 in omega (arith, n, few)) h.4 put in
        subst (After (Gives cost v after)) (sym h.2) (subst (λ a. Worked plan told fell operation_steps g world store locals top to free cost.weight [] v a (record { spent = 0 + 3 + h.0 + 1; store = store; locals = slice_set locals to h.1 })) (sym h.5) left)
    called_end most (Fails cost text) few end h = subst (After (Fails cost text)) (sym h.2) (inl (record { cause_is = refl; few = let n = h.3 in omega (arith, n, few); world = h.4 }))
    called_end most (Prints cost text) few end h = absurd h
    called_end most Stuck few end h = absurd h

    pub call_runs : (f most : ℕ) (d : Done) → most + 8 ≤ operation_steps * weight_of d → (a b : Operand) → ComesTo (enter deep pages m host room) f store (value_of a locals ∷ value_of b locals ∷ []) (EndsSo most d) → Runs plan told fell roof g world store top heap locals to free pages m host deep room d (calls f to (a ∷ b ∷ []))
    call_runs f most d few a b c = weaker _ f store (value_of a locals ∷ value_of b locals ∷ []) (EndsSo most d) _ (called_end most d few) c

    -- ---- code inline

    module _ (at : Places) (mine : ℕ → Bool) (count : ℕ) (can : (x : ℕ) → mine x ≡ true → IsOwn at count (length locals) x) (writes : (x : ℕ) → mine x ≡ true → (at.write x ≡ to) ⊎ (free ≤ at.write x)) where
      rest_put : (word : ℕ) (own : List ℕ) → length own ≡ length locals → KeepsRest at mine locals own → (x : ℕ) → x < free → (x ≡ to → ⊥) → slice_index own x ≡ slice_index locals x
      rest_put word own long rest x lt ne = rest x (λ y k e. apart (writes y k) e)
        where
          apart : {y : ℕ} → (at.write y ≡ to) ⊎ (free ≤ at.write y) → x ≡ at.write y → ⊥
          apart (inl t) e = ne (e ∙ t)
          apart (inr f) e = omega (arith, f, e, lt)

      module _ (weight spent word : ℕ) (v : Value) (own : List ℕ) (some : 1 ≤ spent) (few : spent ≤ 60) (paid : 1 ≤ weight) (long : length own ≡ length locals) (rest : KeepsRest at mine locals own) (rep : Rep g store.memory word v) where
        abbrev Left : ℕ → List ℕ → Type 0
        Left spent own = Worked plan told fell operation_steps g world store locals top to free weight [] v world.store (record { spent = spent; store = store; locals = own })

        copied : Left (0 + spent + (1 + 1)) (slice_set own to word)
        copied = worked plan told fell roof g world store top heap locals to free weight (0 + spent + (1 + 1)) word v (slice_set own to word) (omega arith) (omega (arith, few, paid)) rep
            (record { long = length-set own to word ∙ long; word_is = local_here own to word (omega (arith, long, to_fits)); others = λ x lt ne. local_other own to x word ne ∙ rest_put word own long rest x lt ne })

        stays : slice_index own to ≡ word → Left (0 + spent) own
        stays e = worked plan told fell roof g world store top heap locals to free weight (0 + spent) word v own (omega (arith, some)) (omega (arith, few, paid)) rep (record { long = long; word_is = e; others = rest_put word own long rest })

      -- what was made goes into its local
      settled : (cost : Cost) (spent word : ℕ) (v : Value) (own : List ℕ) → 1 ≤ spent → spent ≤ 60 → 1 ≤ cost.weight → length own ≡ length locals → KeepsRest at mine locals own → Rep g store.memory word v → (a : Operand) → value_of a own ≡ word
          → Before pages m (does plan told fell roof g world store top heap locals to free pages m host deep room) (settle to a) (End plan told fell roof g world store top heap locals to free (Gives cost v world.store)) (record { spent = 0 + spent; store = store; locals = own })
      settled cost spent word v own some few paid long rest rep (Local x) e = by (nat_eq x to) refl
        where
          by : (t : Bool) → nat_eq x to ≡ t → Before pages m (does plan told fell roof g world store top heap locals to free pages m host deep room) (cond t Stop (copies to (Local x))) (End plan told fell roof g world store top heap locals to free (Gives cost v world.store)) (record { spent = 0 + spent; store = store; locals = own })
          by true k = stays cost.weight spent word v own some few paid long rest rep (ap (slice_index own) (sym (same_number x to k)) ∙ e)
          by false k = subst (λ w. Left cost.weight spent word v own some few paid long rest rep (0 + spent + (1 + 1)) (slice_set own to w)) (sym e) (copied cost.weight spent word v own some few paid long rest rep)
      settled cost spent word v own some few paid long rest rep (Word z) e = subst (λ w. Left cost.weight spent word v own some few paid long rest rep (0 + spent + (1 + 1)) (slice_set own to w)) (sym e) (copied cost.weight spent word v own some few paid long rest rep)
      settled cost spent word v own some few paid long rest rep (Long z) e = subst (λ w. Left cost.weight spent word v own some few paid long rest rep (0 + spent + (1 + 1)) (slice_set own to w)) (sym e) (copied cost.weight spent word v own some few paid long rest rep)

      module _ (params : List ValueType) (d : Done) (paid : 1 ≤ weight_of d) where
        abbrev p : CodeEnd W → Type 0
        p end = ends (long_of params) (EndsSo 60 d) end

        gives_of : (d : Done) → 1 ≤ weight_of d → (a : Operand) (spent v : ℕ) (after : Store W) (own : List ℕ) → 1 ≤ spent → length own ≡ length locals → KeepsRest at mine locals own → value_of a own ≡ v → EndsSo 60 d (Comes (spent + 2) after (Some v))
            → Before pages m (does plan told fell roof g world store top heap locals to free pages m host deep room) (settle to a) (End plan told fell roof g world store top heap locals to free d) (record { spent = 0 + spent; store = after; locals = own })
        gives_of (Gives cost u later) paid a spent v after own some long rest e h =
            let n_is : spent + 2 ≡ h.0 = ap steps_of h.2 in
            let w_is : v ≡ h.1 = ap word_of h.2 in
            let s_is : after ≡ store = ap (store_of store) h.2 in
            subst (λ s. Before pages m (does plan told fell roof g world store top heap locals to free pages m host deep room) (settle to a) (End plan told fell roof g world store top heap locals to free (Gives cost u later)) (record { spent = 0 + spent; store = s; locals = own })) (sym s_is)
            (subst (λ l. Before pages m (does plan told fell roof g world store top heap locals to free pages m host deep room) (settle to a) (End plan told fell roof g world store top heap locals to free (Gives cost u l)) (record { spent = 0 + spent; store = store; locals = own })) (sym h.5)
            (settled cost spent h.1 u own some (let few = h.3 in omega (arith, few, n_is)) paid long rest h.4 a (e ∙ w_is)))
        gives_of (Fails cost text) paid a spent v after own some long rest e h = differ (ap comes h.2)
        gives_of (Prints cost text) paid a spent v after own some long rest e h = absurd h
        gives_of Stuck paid a spent v after own some long rest e h = absurd h

        stops_of : (d : Done) → 1 ≤ weight_of d → (cause : Trap) (spent : ℕ) (after : Store W) → EndsSo 60 d (Dies cause spent after) → End plan told fell roof g world store top heap locals to free d (Stops cause (0 + spent) after)
        stops_of (Gives cost u later) paid cause spent after h = differ (sym (ap comes h.2))
        stops_of (Fails cost text) paid cause spent after h =
            let n_is : spent ≡ h.0 = ap steps_of h.2 in
            let c_is : cause ≡ trap.Host = ap cause_of h.2 in
            let s_is : after ≡ h.1 = ap (store_of h.1) h.2 in
            inl (record { cause_is = c_is; few = let few = h.3 in omega (arith, few, n_is, paid); world = ap (λ s. s.world) s_is ∙ h.4 })
        stops_of (Prints cost text) paid cause spent after h = absurd h
        stops_of Stuck paid cause spent after h = absurd h

        -- The code of a routine that ends as the primitive does, on words of the operands.
        pub inline_runs : (c : Code) (known : ℕ → Bool) (inner : List ℕ) → begins_so c ≡ true → goes_inline mine count c known ≡ true → Agree at mine count (length locals) locals known inner locals
            → Before pages m (does plan told fell roof g world store top heap locals to free pages m host deep room) c p (record { spent = 0; store = store; locals = inner })
            → Runs plan told fell roof g world store top heap locals to free pages m host deep room d (code_at at (settle to) c)
        inline_runs c known inner begins goes agree b =
            begins_inline pages m (does plan told fell roof g world store top heap locals to free pages m host deep room) (λ f store args q r then c. weaker _ f store args q r then c) at mine count (length locals) locals can (settle to) 0 c known begins goes p (End plan told fell roof g world store top heap locals to free d)
            (stops_of d paid) (λ a spent v after inner own some long rest e h. gives_of d paid a spent v after own some long rest e h) 0 store inner locals agree b
