-- Emitted code is formed.
use Rattle.std.proofs.Common.{◌≡◌, ℕ, zero, suc, ◌+◌, ◌-◌, ◌*◌, ◌<◌, ◌≤◌, ◌^◌, List, [], ◌∷◌, ◌++◌, length, replicate, Some, pos, refl, ap, ◌∙◌, subst, arith, FitsSigned, true}
use Rattle.std.specs.Prelude.{slice_get}
use Rattle.std.specs.Int.{w64}
use Rattle.std.specs.List.{AllZip}
use Rattle.mo_types.specs.Label.{label_id}
use Rattle.wasm_tree.specs.declared.types.ValueType.{ValueType}
use Rattle.wasm_tree.specs.declared.types.ValueType.TheVariants.{I32, I64}
use Rattle.wasm_tree.specs.declared.op.Conversion.TheVariants.{Wrap}
use Rattle.wasm_tree.specs.declared.op.StoreKind.TheVariants as store
use Rattle.core_ir.specs.declared.primitive.Primitive.{Primitive}
use Rattle.core_ir.specs.declared.primitive.Constructor.{Constructor}
use Rattle.core_ir.specs.declared.primitive.Constructor.TheVariants.{Present, Tagged}
use Rattle.core_ir.specs.declared.code.Operand.{Operand}
use Rattle.core_ir.specs.declared.code.Operand.TheVariants.{Slot, Captured, Member, Global}
use Rattle.core_ir.specs.declared.code.Operand.TheVariants as operand
use Rattle.core_ir.specs.Code as flat
use Rattle.low_ir.specs.declared.op.Operand as low
use Rattle.low_ir.specs.declared.op.Operand.TheVariants.{Local}
use Rattle.low_ir.specs.declared.op.Operation.TheVariants.{Convert}
use Rattle.low_ir.specs.Tree.{Code, Stop, Return, Set, Store, If, CallIndirect, Module}
use Rattle.low_ir.specs.Formed.{OperandIs, IsFormed}
use Rattle.code_sequences.specs.Sequences.{seq}
use Rattle.heap_layout.specs.Heaps.{Plan}
use Rattle.flat_emission.specs.Emission.{Linkage, Here, slot, first_word, second_word, value_word, place_local, place, places, fetch, fetches, readied, operated, opens, entries, captures, handles, makes, finds, nowhere, emit}
use Rattle.operation_forms.specs.Laws.{of_address, LocalsFit, AreWords}
use Rattle.operation_forms.proofs.Forms.{word, long}
use Rattle.operation_forms.proofs.Sequences.{sequences_formed}
use Rattle.emission_forms.specs.Spelled.{SpelledOperand, SpelledOperands, Spelled}
use Rattle.emission_forms.specs.Laws.{arity_type, LinkFits}

-- The kinds of a function's locals.
pub record Kinds (here : Here) (locals : List ValueType) : Type 0 where
  pub block : slice_get locals 0 ≡ Some I32
  pub slots : (x : ℕ) → x < here.slots → slice_get locals (slot x) ≡ Some I64
  pub first : slice_get locals (first_word here) ≡ Some I32
  pub second : slice_get locals (second_word here) ≡ Some I32
  pub value : slice_get locals (value_word here) ≡ Some I64
  pub places : (i : ℕ) → i < here.most → slice_get locals (place_local here i) ≡ Some I64

-- At the end of a function a value is owed.
abbrev pub owed : ℕ → List ValueType
owed zero = I64 ∷ []
owed (suc within) = []

label_fits : (l : List ℕ) → FitsSigned w64 (pos (label_id l))
label_fits l = long (label_id l) (omega arith)

module _ (m : Module) (plan : Plan) (link : Linkage) (most : ℕ) (fits : LinkFits m link most) (here : Here) (locals : List ValueType) (k : Kinds here locals) where
  abbrev Formed : (labels : ℕ) → List ValueType → Code → Type 0
  Formed labels owed c = IsFormed m locals (I64 ∷ []) labels owed c

  abbrev IsWord : low.Operand → Type 0
  IsWord a = OperandIs locals a I64

  -- ---- operands

  place_word : (i : ℕ) (x : Operand) → i < here.most → SpelledOperand plan link most here x → IsWord (place plan link here i x)
  place_word i (Slot x) lt s = k.slots x s
  place_word i (Captured x) lt s = k.places i lt
  place_word i (Member x) lt s = k.places i lt
  place_word i (Global x) lt s = k.places i lt
  place_word i (operand.Constant c) lt s = (refl, s)

  places_words : (i : ℕ) (xs : List Operand) → i + length xs ≤ here.most → SpelledOperands plan link most here xs → AreWords locals (places plan link here i xs)
  places_words i [] le s = tt
  places_words i (x ∷ xs) le s = (place_word i x (omega (arith, le)) s.0, places_words (suc i) xs (omega (arith, le)) s.1)

  fetch_formed : (labels : ℕ) (owed : List ValueType) (i : ℕ) (x : Operand) (rest : Code) → i < here.most → SpelledOperand plan link most here x → Formed labels owed rest → Formed labels owed (fetch plan link here i x rest)
  fetch_formed labels owed i (Slot x) rest lt s h = h
  fetch_formed labels owed i (Captured x) rest lt s h = (I64, k.places i lt, (k.block, s, refl), h)
  fetch_formed labels owed i (Member x) rest lt s h = (I64, k.places i lt, (k.block, refl), (I64, k.places i lt, (k.places i lt, (refl, long (8 * (2 * x)) s), refl), h))
  fetch_formed labels owed i (Global x) rest lt s h = (I64, k.places i lt, ((refl, word 0 (omega arith)), s, refl), h)
  fetch_formed labels owed i (operand.Constant c) rest lt s h = h

  fetches_formed : (labels : ℕ) (owed : List ValueType) (i : ℕ) (xs : List Operand) (rest : Code) → i + length xs ≤ here.most → SpelledOperands plan link most here xs → Formed labels owed rest → Formed labels owed (fetches plan link here i xs rest)
  fetches_formed labels owed i [] rest le s h = h
  fetches_formed labels owed i (x ∷ xs) rest le s h =
      fetch_formed labels owed i x (fetches plan link here (suc i) xs rest) (omega (arith, le)) s.0 (fetches_formed labels owed (suc i) xs rest (omega (arith, le)) s.1 h)

  readied_formed : (labels : ℕ) (owed : List ValueType) (xs : List Operand) (more : Code) → length xs ≤ here.most → SpelledOperands plan link most here xs → Formed labels owed more → Formed labels owed (readied plan link here xs more)
  readied_formed labels owed xs more le s h =
      sequences_formed m locals (I64 ∷ []) labels owed (fetches plan link here 0 xs Stop) more (fetches_formed labels [] 0 xs Stop (omega (arith, le)) s refl) h

  locals_fit : (t : ℕ) → slice_get locals t ≡ Some I64 → LocalsFit locals t (first_word here)
  locals_fit t e =
      let one : second_word here ≡ 1 + first_word here = omega arith in
      let two : value_word here ≡ 2 + first_word here = omega arith in
      record { value = e; first = k.first; second = subst (λ x. slice_get locals x ≡ Some I32) one k.second; third = subst (λ x. slice_get locals x ≡ Some I64) two k.value }

  operated_formed : (labels : ℕ) (owed : List ValueType) (t : ℕ) (p : Primitive) (xs : List Operand) (more : Code) → slice_get locals t ≡ Some I64 → link.treated p ≡ true → SpelledOperands plan link most here xs → length xs ≤ here.most → Formed labels owed more → Formed labels owed (operated plan link here t p xs more)
  operated_formed labels owed t p xs more e treated s le h =
      readied_formed labels owed xs (seq (link.operation p t (first_word here) (places plan link here 0 xs)) more) le s
      (sequences_formed m locals (I64 ∷ []) labels owed (link.operation p t (first_word here) (places plan link here 0 xs)) more
      (fits.operations p treated locals (I64 ∷ []) labels t (first_word here) (places plan link here 0 xs) (locals_fit t e) (places_words 0 xs (omega (arith, le)) s)) h)

  -- ---- forms of values

  opens_formed : (labels : ℕ) (owed : List ValueType) (t : ℕ) (c : Constructor) (a : low.Operand) (y n rest : Code) → t < here.slots → IsWord a → Formed (suc labels) [] y → Formed (suc labels) [] n → Formed labels owed rest → Formed labels owed (opens plan link here t c a y n rest)
  opens_formed labels owed t Present a y n rest lt ia hy hn h =
      (I32, k.first, (ia, refl), (k.first, hn, (I32, k.first, (ia, refl), (I64, k.slots t lt, (k.first, omega arith, refl), hy)), h))
  opens_formed labels owed t (Tagged l) a y n rest lt ia hy hn h = (
    I32,
    k.first,
    (ia, refl),
    (
      I64,
      k.value,
      (k.first, omega arith, refl),
      (
        I32,
        k.second,
        (k.value, (refl, label_fits l), refl),
        (k.second, (I64, k.slots t lt, (k.first, omega arith, refl), hy), hn, h),
      ),
    ),
  )

  -- ---- groups of functions

  entries_formed : (labels : ℕ) (owed : List ValueType) (code i count : ℕ) (rest : Code) → ((j : ℕ) → i ≤ j → j < i + count → plan.entry_of code j < 2 ^ 63) → 8 * (2 * (i + count)) < 2 ^ 31 → Formed labels owed rest → Formed labels owed (entries plan link here code i count rest)
  entries_formed labels owed code i zero rest small few h = h
  entries_formed labels owed code i (suc count) rest small few h = (
    k.first,
    omega (arith, few),
    (refl, long (plan.entry_of code i) (small i (omega arith) (omega arith))),
    (k.first, omega (arith, few), k.value, entries_formed labels owed code (suc i) count rest (λ j le lt. small j (omega (arith, le)) (omega (arith, lt))) (omega (arith, few)) h),
  )

  captures_formed : (labels : ℕ) (owed : List ValueType) (i : ℕ) (xs : List Operand) (rest : Code) → 1 ≤ here.most → SpelledOperands plan link most here xs → 8 * (i + length xs) < 2 ^ 31 → Formed labels owed rest → Formed labels owed (captures plan link here i xs rest)
  captures_formed labels owed i [] rest some s few h = h
  captures_formed labels owed i (x ∷ xs) rest some s few h =
      fetch_formed labels owed 0 x (Store store.I64 (Local (first_word here)) (8 * i) (place plan link here 0 x) (captures plan link here (suc i) xs rest)) (omega (arith, some)) s.0
      (k.first, omega (arith, few), place_word 0 x (omega (arith, some)) s.0, captures_formed labels owed (suc i) xs rest some s.1 (omega (arith, few)) h)

  handles_formed : (labels t i count : ℕ) → t + count ≤ here.slots → 8 * (2 * (i + count)) < 2 ^ 31 → Formed labels [] (handles plan link here t i count)
  handles_formed labels t i zero le few = refl
  handles_formed labels t i (suc count) le few =
      (I64, k.slots t (omega (arith, le)), (k.value, (refl, long (8 * (2 * i)) (omega (arith, few))), refl), handles_formed labels (suc t) (suc i) count (omega (arith, le)) (omega (arith, few)))

  makes_formed : (labels t : ℕ) (seen : List Operand) (code : ℕ) → t + plan.sizes code ≤ here.slots → SpelledOperands plan link most here seen → 1 ≤ here.most → 8 * (2 * plan.sizes code + length seen) < 2 ^ 31 → ((j : ℕ) → j < plan.sizes code → plan.entry_of code j < 2 ^ 63) → Formed labels [] (makes plan link here t seen code)
  makes_formed labels t seen code le s some few small = (
    record { type = of_address; is = fits.allocation; kinds = ((refl, word (8 * (2 * plan.sizes code + length seen)) few), tt); gives = (I32, refl, k.first) },
    (
      I64,
      k.value,
      (k.first, refl),
      entries_formed labels [] code 0 (plan.sizes code) (captures plan link here (2 * plan.sizes code) seen (handles plan link here t 0 (plan.sizes code))) (λ j a lt. small j (omega (arith, lt))) (omega (arith, few))
          (captures_formed labels [] (2 * plan.sizes code) seen (handles plan link here t 0 (plan.sizes code)) some s (omega (arith, few)) (handles_formed labels t 0 (plan.sizes code) le (omega (arith, few)))),
    ),
  )

  -- ---- code

  finds_formed : (labels : ℕ) (owed : List ValueType) (f : Operand) (more : Code) → 0 < here.most → SpelledOperand plan link most here f → Formed labels owed more → Formed labels owed (finds plan link here f more)
  finds_formed labels owed f more some s h =
      (I32, k.second, (place_word 0 f some s, refl), (I32, k.first, (k.second, omega arith, refl), (I32, k.second, (k.second, omega arith, refl), h)))

  all_words : (xs : List low.Operand) (n : ℕ) → length xs ≡ n → AreWords locals xs → AllZip (OperandIs locals) xs (replicate n I64)
  all_words [] zero e are = tt
  all_words [] (suc n) e are = absurd (omega (arith, e))
  all_words (x ∷ xs) zero e are = absurd (omega (arith, e))
  all_words (x ∷ xs) (suc n) e are = (are.0, all_words xs n (omega (arith, e)) are.1)

  places_length : (i : ℕ) (xs : List Operand) → length (places plan link here i xs) ≡ length xs
  places_length i [] = refl
  places_length i (x ∷ xs) = ap suc (places_length (suc i) xs)

  stop_formed : (within : ℕ) → 0 < within → [] ≡ owed within
  stop_formed zero lt = absurd (omega (arith, lt))
  stop_formed (suc within) lt = refl

  nowhere_formed : (within : ℕ) → Formed within (owed within) nowhere
  nowhere_formed within = (I64, (refl, long 0 (omega arith)), refl)

  pub emit_formed : (within : ℕ) (c : flat.Code) → Spelled plan link most here within c → Formed within (owed within) (emit plan link here c)
  emit_formed within flat.Stop s = stop_formed within s
  emit_formed within (flat.Let t p xs c) s = operated_formed within (owed within) (slot t) p xs (emit plan link here c) (k.slots t s.0) s.1 s.2 s.3 (emit_formed within c s.4)
  emit_formed within (flat.If p xs y n c) s =
      operated_formed within (owed within) (value_word here) p xs (Set (first_word here) (Convert Wrap (Local (value_word here))) (If (Local (first_word here)) (emit plan link here y) (emit plan link here n) (emit plan link here c))) k.value s.0 s.1 s.2 (I32, k.first, (k.value, refl), (k.first, emit_formed (suc within) y s.3, emit_formed (suc within) n s.4, emit_formed within c s.5))
  emit_formed within (flat.Match t f x y n c) s =
      let some = s.2 in
      readied_formed within (owed within) (x ∷ []) (opens plan link here t f (place plan link here 0 x) (emit plan link here y) (emit plan link here n) (emit plan link here c)) (omega (arith, some)) (s.1, tt)
      (opens_formed within (owed within) t f (place plan link here 0 x) (emit plan link here y) (emit plan link here n) (emit plan link here c) s.0 (place_word 0 x (omega (arith, some)) s.1) (emit_formed (suc within) y s.3) (emit_formed (suc within) n s.4) (emit_formed within c s.5))
  emit_formed within (flat.Loop b c) s = (emit_formed (suc within) b s.0, emit_formed within c s.1)
  emit_formed within (flat.Label b c) s = (emit_formed (suc within) b s.0, emit_formed within c s.1)
  emit_formed within (flat.Branch l) s = s
  emit_formed within (flat.Make t xs code c) s =
      sequences_formed m locals (I64 ∷ []) within (owed within) (makes plan link here t xs code) (emit plan link here c) (makes_formed within t xs code s.0 s.1 s.2 s.3 s.4) (emit_formed within c s.5)
  emit_formed within (flat.Call t f xs c) s =
      let few = s.3 in
      let count = places_length 1 xs in
      readied_formed within (owed within) (f ∷ xs) (finds plan link here f (CallIndirect (Some (slot t)) (link.type_of (length xs)) (Local (first_word here) ∷ places plan link here 1 xs) (Local (second_word here)) (emit plan link here c))) (omega (arith, few)) (s.1, s.2)
      (finds_formed within (owed within) f (CallIndirect (Some (slot t)) (link.type_of (length xs)) (Local (first_word here) ∷ places plan link here 1 xs) (Local (second_word here)) (emit plan link here c)) (omega (arith, few)) s.1 (
        record { type = arity_type (length xs); is = fits.types (length xs) s.4; kinds = (k.first, all_words (places plan link here 1 xs) (length xs) count (places_words 1 xs (omega (arith, few)) s.2)); gives = (I64, refl, k.slots t s.0) },
        k.second,
        emit_formed within c s.5,
      ))
  emit_formed within (flat.Return x) s = let some = s.1 in readied_formed within (owed within) (x ∷ []) (Return (Some (place plan link here 0 x))) (omega (arith, some)) (s.0, tt) (I64, place_word 0 x (omega (arith, some)) s.0, refl)
  emit_formed within (flat.Leave j) s = nowhere_formed within
  emit_formed within (flat.Pass t x j) s = nowhere_formed within
  emit_formed within (flat.Tabulate t n f c) s = nowhere_formed within
  emit_formed within (flat.Send t s' f xs h c) s = nowhere_formed within
  emit_formed within (flat.Wait t x h j) s = nowhere_formed within
  emit_formed within (flat.Raise x h) s = nowhere_formed within
