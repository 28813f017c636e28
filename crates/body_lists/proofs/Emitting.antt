-- Emitted code as lists.
use Rattle.std.proofs.Common.{◌≡◌, ℕ, zero, suc, ◌+◌, ◌-◌, ◌*◌, ◌<◌, List, [], ◌∷◌, ◌++◌, length, Bool, true, refl, sym, ap, ◌∙◌, append_assoc, pos, Some, arith}
use Rattle.wasm_tree.specs.declared.types.ValueType.TheVariants.{I64}
use Rattle.wasm_tree.specs.declared.op.BinaryOperator.TheVariants.{Add}
use Rattle.wasm_tree.specs.declared.op.Conversion.TheVariants.{ExtendU}
use Rattle.wasm_tree.specs.declared.op.StoreKind.TheVariants as store
use Rattle.core_ir.specs.declared.primitive.Primitive.{Primitive}
use Rattle.core_ir.specs.declared.code.Operand.{Operand}
use Rattle.core_ir.specs.declared.code.Operand.TheVariants.{Slot, Captured, Member, Global, Constant}
use Rattle.low_ir.specs.declared.op.LowOp.{LowOp}
use Rattle.low_ir.specs.declared.op.LowOp.TheVariants as op
use Rattle.low_ir.specs.declared.op.Operand.TheVariants.{Local, Word, Long}
use Rattle.low_ir.specs.declared.op.Operation.TheVariants.{Binary, Convert}
use Rattle.low_ir.specs.Tree.{Code, Stop, Set, Store, Call}
use Rattle.low_ir.specs.Flat.{flat}
use Rattle.low_ir.specs.Numbering.{host_count}
use Rattle.code_sequences.specs.Sequences.{seq, is_open}
use Rattle.code_sequences.proofs.Lists.{lists}
use Rattle.heap_layout.specs.Heaps.{Plan}
use Rattle.operation_codes.specs.Codes.{code_of}
use Rattle.flat_emission.specs.Emission.{Linkage, Here, first_word, value_word, slot, place, places, fetch, fetches, readied, operated, entries, captures, handles, makes}
use Rattle.body_lists.specs.declared.known.Known.{Known}
use Rattle.body_lists.specs.Known.{plan_of, link_of}
use Rattle.operation_lists.specs.Linked.{links_of}
use Rattle.body_lists.proofs.Opening.{opened}

module _ (plan : Plan) (link : Linkage) (here : Here) where
  seq_fetch : (i : ℕ) (x : Operand) (rest more : Code) → seq (fetch plan link here i x rest) more ≡ fetch plan link here i x (seq rest more)
  seq_fetch i (Slot x) rest more = refl
  seq_fetch i (Captured x) rest more = refl
  seq_fetch i (Member x) rest more = refl
  seq_fetch i (Global x) rest more = refl
  seq_fetch i (Constant x) rest more = refl

  seq_fetches : (i : ℕ) (xs : List Operand) (rest more : Code) → seq (fetches plan link here i xs rest) more ≡ fetches plan link here i xs (seq rest more)
  seq_fetches i [] rest more = refl
  seq_fetches i (x ∷ xs) rest more = seq_fetch i x (fetches plan link here (suc i) xs rest) more ∙ ap (fetch plan link here i x) (seq_fetches (suc i) xs rest more)

  pub readied_is : (xs : List Operand) (more : Code) → readied plan link here xs more ≡ fetches plan link here 0 xs more
  readied_is xs more = seq_fetches 0 xs Stop more

  fetch_open : (i : ℕ) (x : Operand) (rest : Code) → is_open (fetch plan link here i x rest) ≡ is_open rest
  fetch_open i (Slot x) rest = refl
  fetch_open i (Captured x) rest = refl
  fetch_open i (Member x) rest = refl
  fetch_open i (Global x) rest = refl
  fetch_open i (Constant x) rest = refl

  handles_open : (t k count : ℕ) → is_open (handles plan link here t k count) ≡ true
  handles_open t k zero = refl
  handles_open t k (suc count) = handles_open (suc t) (suc k) count

  captures_open : (i : ℕ) (xs : List Operand) (rest : Code) → is_open rest ≡ true → is_open (captures plan link here i xs rest) ≡ true
  captures_open i [] rest h = h
  captures_open i (x ∷ xs) rest h = fetch_open 0 x _ ∙ captures_open (suc i) xs rest h

  entries_open : (code k count : ℕ) (rest : Code) → is_open rest ≡ true → is_open (entries plan link here code k count rest) ≡ true
  entries_open code k zero rest h = h
  entries_open code k (suc count) rest h = entries_open code (suc k) count rest h

  makes_open : (t code : ℕ) (seen : List Operand) → is_open (makes plan link here t seen code) ≡ true
  makes_open t code seen = entries_open code 0 (plan.sizes code) _ (captures_open (2 * plan.sizes code) seen _ (handles_open t 0 (plan.sizes code)))

  -- what makes a group before more
  pub made : (t code : ℕ) (seen : List Operand) (more : Code) → flat (seq (makes plan link here t seen code) more) ≡ flat (makes plan link here t seen code) ++ flat more
  made t code seen more = lists (makes plan link here t seen code) more (makes_open t code seen)

  -- one more function
  pub entry_more : (code k count : ℕ) (rest : Code) → k < count
      → entries plan link here code k (count - k) rest
      ≡ Store store.I64 (Local (first_word here)) (8 * (2 * k)) (Long (pos (plan.entry_of code k)))
      (Store store.I64 (Local (first_word here)) (8 * (2 * k + 1)) (Local (value_word here)) (entries plan link here code (k + 1) (count - (k + 1)) rest))
  entry_more code k count rest l =
      ap (λ n. entries plan link here code k n rest) (let e : count - k ≡ suc (count - (k + 1)) = omega (arith, l) in e)
      ∙ ap (λ n. Store store.I64 (Local (first_word here)) (8 * (2 * k)) (Long (pos (plan.entry_of code k))) (Store store.I64 (Local (first_word here)) (8 * (2 * k + 1)) (Local (value_word here)) (entries plan link here code n (count - (k + 1)) rest))) (let e : suc k ≡ k + 1 = omega arith in e)

  pub handle_more : (t k count : ℕ) → k < count
      → handles plan link here (t + k) k (count - k) ≡ Set (slot (t + k)) (Binary I64 Add (Local (value_word here)) (Long (pos (8 * (2 * k))))) (handles plan link here (t + (k + 1)) (k + 1) (count - (k + 1)))
  handle_more t k count l =
      ap (handles plan link here (t + k) k) (let e : count - k ≡ suc (count - (k + 1)) = omega (arith, l) in e)
      ∙ ap (λ n. Set (slot (t + k)) (Binary I64 Add (Local (value_word here)) (Long (pos (8 * (2 * k))))) (handles plan link here n (suc k) (count - (k + 1)))) (let e : suc (t + k) ≡ t + (k + 1) = omega arith in e)
      ∙ ap (λ n. Set (slot (t + k)) (Binary I64 Add (Local (value_word here)) (Long (pos (8 * (2 * k))))) (handles plan link here (t + (k + 1)) n (count - (k + 1)))) (let e : suc k ≡ k + 1 = omega arith in e)

module _ (m : Known) (here : Here) where
  -- a primitive before more
  pub operated_is : (t : ℕ) (p : Primitive) (xs : List Operand) (more : Code) → readied (plan_of m) (link_of m) here xs (seq (code_of (links_of m.links) p t (first_word here) (places (plan_of m) (link_of m) here 0 xs)) more) ≡ fetches (plan_of m) (link_of m) here 0 xs (seq (code_of (links_of m.links) p t (first_word here) (places (plan_of m) (link_of m) here 0 xs)) more)
  operated_is t p xs more = readied_is (plan_of m) (link_of m) here xs _

  pub performed : (t : ℕ) (p : Primitive) (xs : List Operand) (more : Code) (new old : List LowOp) → new ≡ old ++ flat (code_of (links_of m.links) p t (first_word here) (places (plan_of m) (link_of m) here 0 xs))
      → new ++ flat more ≡ old ++ flat (seq (code_of (links_of m.links) p t (first_word here) (places (plan_of m) (link_of m) here 0 xs)) more)
  performed t p xs more new old e =
      let c : Code = code_of (links_of m.links) p t (first_word here) (places (plan_of m) (link_of m) here 0 xs) in
      ap (λ l. l ++ flat more) e ∙ append_assoc old (flat c) (flat more) ∙ ap (λ l. old ++ l) (sym (lists c more (opened (links_of m.links) p t (first_word here) (places (plan_of m) (link_of m) here 0 xs))))

  -- what makes a group of so many functions
  abbrev pub made_with : ℕ → ℕ → List Operand → ℕ → Code
  made_with t code seen n =
      Call (Some (first_word here)) host_count (Word (pos (8 * (2 * (plan_of m).sizes code + length seen))) ∷ [])
      (Set (value_word here) (Convert ExtendU (Local (first_word here)))
      (entries (plan_of m) (link_of m) here code 0 n (captures (plan_of m) (link_of m) here (2 * n) seen (handles (plan_of m) (link_of m) here t 0 n))))

pub none : (old : List LowOp) → old ≡ old ++ []
none [] = refl
none (x ∷ old) = ap (λ l. x ∷ l) (none old)

-- behind what was there
pub behind : (new old part more : List LowOp) → new ≡ old ++ part → new ++ more ≡ old ++ (part ++ more)
behind new old part more e = ap (λ l. l ++ more) e ∙ append_assoc old part more

-- a construct behind its mark
pub construct : (one two three old : List LowOp) (mark : LowOp) (body more : List LowOp) → one ≡ old ++ mark ∷ [] → two ≡ one ++ body → three ≡ two ++ op.End ∷ [] → three ++ more ≡ old ++ mark ∷ (body ++ op.End ∷ more)
construct one two three old mark body more e f g = behind three two (op.End ∷ []) more g ∙ behind two one body (op.End ∷ more) f ∙ behind one old (mark ∷ []) (body ++ op.End ∷ more) e

-- both sides of a choice
pub two_sides : (one two three four five : List LowOp) (first second more : List LowOp) → two ≡ one ++ first → three ≡ two ++ op.Else ∷ [] → four ≡ three ++ second → five ≡ four ++ op.End ∷ []
    → five ++ more ≡ one ++ (first ++ op.Else ∷ (second ++ op.End ∷ more))
two_sides one two three four five first second more e f g h =
    behind five four (op.End ∷ []) more h ∙ behind four three second (op.End ∷ more) g ∙ behind three two (op.Else ∷ []) (second ++ op.End ∷ more) f ∙ behind two one first (op.Else ∷ (second ++ op.End ∷ more)) e

-- where the second side opens a value first
pub opened_side : (one two three four five six : List LowOp) (first opens second more : List LowOp) → two ≡ one ++ first → three ≡ two ++ op.Else ∷ [] → four ≡ three ++ opens → five ≡ four ++ second → six ≡ five ++ op.End ∷ []
    → six ++ more ≡ one ++ (first ++ op.Else ∷ (opens ++ (second ++ op.End ∷ more)))
opened_side one two three four five six first opens second more e f g h i =
    behind six five (op.End ∷ []) more i ∙ behind five four second (op.End ∷ more) h ∙ behind four three opens (second ++ op.End ∷ more) g
    ∙ behind three two (op.Else ∷ []) (opens ++ (second ++ op.End ∷ more)) f ∙ behind two one first (op.Else ∷ (opens ++ (second ++ op.End ∷ more))) e
