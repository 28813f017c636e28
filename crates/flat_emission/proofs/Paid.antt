-- Frames of emitted functions.
use Rattle.std.proofs.Common.{◌≡◌, ℕ, zero, suc, ◌+◌, ◌-◌, ◌*◌, ◌≤◌, max, List, [], ◌∷◌, ◌++◌, length, replicate, refl, ap, ◌∙◌, arith, length-append}
use Rattle.std.proofs.Math.Nat.{le-max_left, le-max_right, max-le}
use Rattle.std.proofs.lemmas.List.{length-replicate}
use Rattle.wasm_tree.specs.declared.types.ValueType.{ValueType}
use Rattle.wasm_tree.specs.declared.types.ValueType.TheVariants.{I32, I64}
use Rattle.core_ir.specs.declared.primitive.Primitive.{Primitive}
use Rattle.core_ir.specs.declared.primitive.Constructor.{Constructor}
use Rattle.core_ir.specs.declared.primitive.Constructor.TheVariants.{Present, Tagged}
use Rattle.core_ir.specs.declared.code.Operand.{Operand}
use Rattle.core_ir.specs.declared.code.Operand.TheVariants.{Slot, Captured, Member, Global, Constant}
use Rattle.core_ir.specs.Code as flat
use Rattle.core_ir.specs.CodeMachine.{first_of}
use Rattle.core_ir.specs.FormedCode.{most_of, most_operands, nesting}
use Rattle.low_ir.specs.declared.op.Operand as low
use Rattle.low_ir.specs.Tree.{Code, Stop, Return, Branch, Trap, Set, SetGlobal, Store, Grow, GrowStable, Block, Loop, If, BranchIf, Call, CallIndirect}
use Rattle.low_ir.specs.Frames.{operands_of, value_count, height, depth}
use Rattle.code_sequences.specs.Sequences.{seq}
use Rattle.heap_layout.specs.Heaps.{Plan}
use Rattle.flat_emission.specs.Emission.{Linkage, Here, here_of, first_word, place, places, fetch, fetches, readied, operated, opens, entries, captures, handles, makes, emit}
use Rattle.flat_emission.specs.Laws.{Shallow, FramesArePaid}

left : (a b k : ℕ) → max a b ≤ k → a ≤ k
left a b k h = let l = le-max_left a b in omega (arith, h, l)

right : (a b k : ℕ) → max a b ≤ k → b ≤ k
right a b k h = let l = le-max_right a b in omega (arith, h, l)

-- of the code that comes after
suc_left : (a b k : ℕ) → suc (max a b) ≤ k → suc a ≤ k
suc_left a b k h = let l = le-max_left a b in omega (arith, h, l)

suc_right : (a b k : ℕ) → suc (max a b) ≤ k → suc b ≤ k
suc_right a b k h = let l = le-max_right a b in omega (arith, h, l)

-- ---- code before code

high_seq : (a b : Code) (k : ℕ) → height a ≤ k → height b ≤ k → height (seq a b) ≤ k
high_seq Stop b k h l = l
high_seq (Return v) b k h l = h
high_seq (Branch x) b k h l = h
high_seq (Trap x y) b k h l = h
high_seq (Set x o rest) b k h l = max-le (left (operands_of o) (height rest) k h) (high_seq rest b k (right (operands_of o) (height rest) k h) l)
high_seq (SetGlobal x a rest) b k h l = max-le (left 1 (height rest) k h) (high_seq rest b k (right 1 (height rest) k h) l)
high_seq (Store kind a o v rest) b k h l = max-le (left 2 (height rest) k h) (high_seq rest b k (right 2 (height rest) k h) l)
high_seq (Grow a rest) b k h l = max-le (left 2 (height rest) k h) (high_seq rest b k (right 2 (height rest) k h) l)
high_seq (GrowStable a rest) b k h l = max-le (left 2 (height rest) k h) (high_seq rest b k (right 2 (height rest) k h) l)
high_seq (Block body rest) b k h l = max-le (left (height body) (height rest) k h) (high_seq rest b k (right (height body) (height rest) k h) l)
high_seq (Loop body rest) b k h l = max-le (left (height body) (height rest) k h) (high_seq rest b k (right (height body) (height rest) k h) l)
high_seq (If a x y rest) b k h l =
    let h1 = right 1 (max (height x) (max (height y) (height rest))) k h in
    let h2 = right (height x) (max (height y) (height rest)) k h1 in
    max-le (left 1 (max (height x) (max (height y) (height rest))) k h)
    (max-le (left (height x) (max (height y) (height rest)) k h1) (max-le (left (height y) (height rest) k h2) (high_seq rest b k (right (height y) (height rest) k h2) l)))
high_seq (BranchIf a x rest) b k h l = max-le (left 1 (height rest) k h) (high_seq rest b k (right 1 (height rest) k h) l)
high_seq (Call r f args rest) b k h l =
    let h1 = right (length args) (max (value_count r) (height rest)) k h in
    max-le (left (length args) (max (value_count r) (height rest)) k h) (max-le (left (value_count r) (height rest) k h1) (high_seq rest b k (right (value_count r) (height rest) k h1) l))
high_seq (CallIndirect r x args a rest) b k h l =
    let h1 = right (1 + length args) (max (value_count r) (height rest)) k h in
    max-le (left (1 + length args) (max (value_count r) (height rest)) k h) (max-le (left (value_count r) (height rest) k h1) (high_seq rest b k (right (value_count r) (height rest) k h1) l))

deep_seq : (a b : Code) (k : ℕ) → depth a ≤ k → depth b ≤ k → depth (seq a b) ≤ k
deep_seq Stop b k h l = l
deep_seq (Return v) b k h l = h
deep_seq (Branch x) b k h l = h
deep_seq (Trap x y) b k h l = h
deep_seq (Set x o rest) b k h l = deep_seq rest b k h l
deep_seq (SetGlobal x a rest) b k h l = deep_seq rest b k h l
deep_seq (Store kind a o v rest) b k h l = deep_seq rest b k h l
deep_seq (Grow a rest) b k h l = max-le (left 1 (depth rest) k h) (deep_seq rest b k (right 1 (depth rest) k h) l)
deep_seq (GrowStable a rest) b k h l = max-le (left 1 (depth rest) k h) (deep_seq rest b k (right 1 (depth rest) k h) l)
deep_seq (Block body rest) b k h l = max-le (left (1 + depth body) (depth rest) k h) (deep_seq rest b k (right (1 + depth body) (depth rest) k h) l)
deep_seq (Loop body rest) b k h l = max-le (left (1 + depth body) (depth rest) k h) (deep_seq rest b k (right (1 + depth body) (depth rest) k h) l)
deep_seq (If a x y rest) b k h l =
    let h1 = right (1 + depth x) (max (1 + depth y) (depth rest)) k h in
    max-le (left (1 + depth x) (max (1 + depth y) (depth rest)) k h) (max-le (left (1 + depth y) (depth rest) k h1) (deep_seq rest b k (right (1 + depth y) (depth rest) k h1) l))
deep_seq (BranchIf a x rest) b k h l = deep_seq rest b k h l
deep_seq (Call r f args rest) b k h l = deep_seq rest b k h l
deep_seq (CallIndirect r x args a rest) b k h l = deep_seq rest b k h l

module _ (plan : Plan) (link : Linkage) (extra : ℕ) (shallow : Shallow link extra) (here : Here) where
  -- ---- operands

  places_count : (i : ℕ) (xs : List Operand) → length (places plan link here i xs) ≡ length xs
  places_count i [] = refl
  places_count i (x ∷ xs) = ap suc (places_count (suc i) xs)

  high_fetch : (i : ℕ) (x : Operand) (rest : Code) (k : ℕ) → 2 ≤ k → height rest ≤ k → height (fetch plan link here i x rest) ≤ k
  high_fetch i (Slot x) rest k two h = h
  high_fetch i (Constant c) rest k two h = h
  high_fetch i (Captured x) rest k two h = max-le (omega (arith, two)) h
  high_fetch i (Global x) rest k two h = max-le (omega (arith, two)) h
  high_fetch i (Member x) rest k two h = max-le (omega (arith, two)) (max-le two h)

  high_fetches : (i : ℕ) (xs : List Operand) (rest : Code) (k : ℕ) → suc (length xs) ≤ k → height rest ≤ k → height (fetches plan link here i xs rest) ≤ k
  high_fetches i [] rest k le h = h
  high_fetches i (x ∷ xs) rest k le h = high_fetch i x (fetches plan link here (suc i) xs rest) k (omega (arith, le)) (high_fetches (suc i) xs rest k (omega (arith, le)) h)

  deep_fetch : (i : ℕ) (x : Operand) (rest : Code) (k : ℕ) → depth rest ≤ k → depth (fetch plan link here i x rest) ≤ k
  deep_fetch i (Slot x) rest k h = h
  deep_fetch i (Constant c) rest k h = h
  deep_fetch i (Captured x) rest k h = h
  deep_fetch i (Global x) rest k h = h
  deep_fetch i (Member x) rest k h = h

  deep_fetches : (i : ℕ) (xs : List Operand) (rest : Code) (k : ℕ) → depth rest ≤ k → depth (fetches plan link here i xs rest) ≤ k
  deep_fetches i [] rest k h = h
  deep_fetches i (x ∷ xs) rest k h = deep_fetch i x (fetches plan link here (suc i) xs rest) k (deep_fetches (suc i) xs rest k h)

  high_readied : (xs : List Operand) (more : Code) (k : ℕ) → suc (length xs) ≤ k → height more ≤ k → height (readied plan link here xs more) ≤ k
  high_readied xs more k le h = high_seq (fetches plan link here 0 xs Stop) more k (high_fetches 0 xs Stop k le (omega arith)) h

  deep_readied : (xs : List Operand) (more : Code) (k : ℕ) → depth more ≤ k → depth (readied plan link here xs more) ≤ k
  deep_readied xs more k h = deep_seq (fetches plan link here 0 xs Stop) more k (deep_fetches 0 xs Stop k (omega arith)) h

  -- ---- groups of functions

  high_entries : (code i count : ℕ) (rest : Code) (k : ℕ) → 2 ≤ k → height rest ≤ k → height (entries plan link here code i count rest) ≤ k
  high_entries code i zero rest k two h = h
  high_entries code i (suc count) rest k two h = max-le two (max-le two (high_entries code (suc i) count rest k two h))

  deep_entries : (code i count : ℕ) (rest : Code) (k : ℕ) → depth rest ≤ k → depth (entries plan link here code i count rest) ≤ k
  deep_entries code i zero rest k h = h
  deep_entries code i (suc count) rest k h = deep_entries code (suc i) count rest k h

  high_captures : (i : ℕ) (xs : List Operand) (rest : Code) (k : ℕ) → 2 ≤ k → height rest ≤ k → height (captures plan link here i xs rest) ≤ k
  high_captures i [] rest k two h = h
  high_captures i (x ∷ xs) rest k two h = high_fetch 0 x _ k two (max-le two (high_captures (suc i) xs rest k two h))

  deep_captures : (i : ℕ) (xs : List Operand) (rest : Code) (k : ℕ) → depth rest ≤ k → depth (captures plan link here i xs rest) ≤ k
  deep_captures i [] rest k h = h
  deep_captures i (x ∷ xs) rest k h = deep_fetch 0 x _ k (deep_captures (suc i) xs rest k h)

  high_handles : (t i count k : ℕ) → 2 ≤ k → height (handles plan link here t i count) ≤ k
  high_handles t i zero k two = omega arith
  high_handles t i (suc count) k two = max-le two (high_handles (suc t) (suc i) count k two)

  deep_handles : (t i count k : ℕ) → depth (handles plan link here t i count) ≤ k
  deep_handles t i zero k = omega arith
  deep_handles t i (suc count) k = deep_handles (suc t) (suc i) count k

  high_makes : (t : ℕ) (seen : List Operand) (code k : ℕ) → 2 ≤ k → height (makes plan link here t seen code) ≤ k
  high_makes t seen code k two =
      max-le (omega (arith, two))
      (max-le (omega (arith, two))
      (max-le (omega (arith, two)) (high_entries code 0 (plan.sizes code) _ k two (high_captures (2 * plan.sizes code) seen (handles plan link here t 0 (plan.sizes code)) k two (high_handles t 0 (plan.sizes code) k two)))))

  deep_makes : (t : ℕ) (seen : List Operand) (code k : ℕ) → depth (makes plan link here t seen code) ≤ k
  deep_makes t seen code k = deep_entries code 0 (plan.sizes code) _ k (deep_captures (2 * plan.sizes code) seen (handles plan link here t 0 (plan.sizes code)) k (deep_handles t 0 (plan.sizes code) k))

  -- ---- code

  high_opens : (t : ℕ) (form : Constructor) (a : low.Operand) (y n c : Code) (k : ℕ) → 2 ≤ k → height y ≤ k → height n ≤ k → height c ≤ k → height (opens plan link here t form a y n c) ≤ k
  high_opens t Present a y n c k two hy hn hc =
      let one : 1 ≤ k = omega (arith, two) in
      max-le one (max-le one (max-le hn (max-le (max-le one (max-le one hy)) hc)))
  high_opens t (Tagged l) a y n c k two hy hn hc =
      let one : 1 ≤ k = omega (arith, two) in
      max-le one (max-le one (max-le two (max-le one (max-le (max-le one hy) (max-le hn hc)))))

  deep_opens : (t : ℕ) (form : Constructor) (a : low.Operand) (y n c : Code) (k : ℕ) → 1 + depth y ≤ k → 1 + depth n ≤ k → depth c ≤ k → depth (opens plan link here t form a y n c) ≤ k
  deep_opens t Present a y n c k hy hn hc = max-le hn (max-le hy hc)
  deep_opens t (Tagged l) a y n c k hy hn hc = max-le hy (max-le hn hc)

  high_operation : (t : ℕ) (p : Primitive) (xs : List Operand) (k : ℕ) → suc (length xs) ≤ k → height (link.operation p t (first_word here) (places plan link here 0 xs)) ≤ k
  high_operation t p xs k le = let h = shallow.high p t (first_word here) (places plan link here 0 xs) in let e = places_count 0 xs in omega (arith, h, e, le)

  high_operated : (t : ℕ) (p : Primitive) (xs : List Operand) (more : Code) (k : ℕ) → suc (length xs) ≤ k → height more ≤ k → height (operated plan link here t p xs more) ≤ k
  high_operated t p xs more k le h = high_readied xs _ k le (high_seq (link.operation p t (first_word here) (places plan link here 0 xs)) more k (high_operation t p xs k le) h)

  deep_operated : (t : ℕ) (p : Primitive) (xs : List Operand) (more : Code) (k : ℕ) → extra ≤ k → depth more ≤ k → depth (operated plan link here t p xs more) ≤ k
  deep_operated t p xs more k le h =
      deep_readied xs _ k (deep_seq (link.operation p t (first_word here) (places plan link here 0 xs)) more k (let d = shallow.deep p t (first_word here) (places plan link here 0 xs) in omega (arith, d, le)) h)

  high : (c : flat.Code) (k : ℕ) → suc (most_operands c) ≤ k → height (emit plan link here c) ≤ k
  high flat.Stop k h = omega arith
  high (flat.Let t p xs c) k h = high_operated (suc t) p xs (emit plan link here c) k (suc_left (length xs) (most_operands c) k h) (high c k (suc_right (length xs) (most_operands c) k h))
  high (flat.If p xs y n c) k h =
      let h1 = suc_right (length xs) (max (most_operands y) (max (most_operands n) (most_operands c))) k h in
      let h2 = suc_right (most_operands y) (max (most_operands n) (most_operands c)) k h1 in
      let one : 1 ≤ k = omega (arith, h) in
      high_operated _ p xs _ k (suc_left (length xs) (max (most_operands y) (max (most_operands n) (most_operands c))) k h)
      (max-le one (max-le one (max-le (high y k (suc_left (most_operands y) (max (most_operands n) (most_operands c)) k h1)) (max-le (high n k (suc_left (most_operands n) (most_operands c) k h2)) (high c k (suc_right (most_operands n) (most_operands c) k h2))))))
  high (flat.Match t form x y n c) k h =
      let h1 = suc_right 1 (max (most_operands y) (max (most_operands n) (most_operands c))) k h in
      let h2 = suc_right (most_operands y) (max (most_operands n) (most_operands c)) k h1 in
      let two : 2 ≤ k = suc_left 1 (max (most_operands y) (max (most_operands n) (most_operands c))) k h in
      high_readied (x ∷ []) _ k two
      (high_opens t form (place plan link here 0 x) (emit plan link here y) (emit plan link here n) (emit plan link here c) k two (high y k (suc_left (most_operands y) (max (most_operands n) (most_operands c)) k h1)) (high n k (suc_left (most_operands n) (most_operands c) k h2)) (high c k (suc_right (most_operands n) (most_operands c) k h2)))
  high (flat.Loop b c) k h = max-le (high b k (suc_left (most_operands b) (most_operands c) k h)) (high c k (suc_right (most_operands b) (most_operands c) k h))
  high (flat.Label b c) k h = max-le (high b k (suc_left (most_operands b) (most_operands c) k h)) (high c k (suc_right (most_operands b) (most_operands c) k h))
  high (flat.Branch l) k h = omega arith
  high (flat.Make t seen code c) k h = high_seq (makes plan link here t seen code) (emit plan link here c) k (high_makes t seen code k (suc_left 1 (most_operands c) k h)) (high c k (suc_right 1 (most_operands c) k h))
  high (flat.Call t f xs c) k h =
      let le : suc (suc (length xs)) ≤ k = suc_left (suc (length xs)) (most_operands c) k h in
      let one : 1 ≤ k = omega (arith, h) in
      high_readied (f ∷ xs) _ k le
      (max-le one (max-le one (max-le one (max-le (let e = places_count 1 xs in omega (arith, le, e)) (max-le one (high c k (suc_right (suc (length xs)) (most_operands c) k h)))))))
  high (flat.Return x) k h = high_readied (x ∷ []) _ k h (omega (arith, h))
  high (flat.Leave j) k h = h
  high (flat.Pass t x j) k h = omega (arith, h)
  high (flat.Tabulate t n f c) k h = let one : 1 ≤ k = omega (arith, h) in one
  high (flat.Send t s f xs hd c) k h = let one : 1 ≤ k = omega (arith, h) in one
  high (flat.Wait t x hd j) k h = omega (arith, h)
  high (flat.Raise x hd) k h = omega (arith, h)

  deep : (c : flat.Code) → depth (emit plan link here c) ≤ nesting c + extra
  deep flat.Stop = omega arith
  deep (flat.Let t p xs c) = deep_operated (suc t) p xs (emit plan link here c) (nesting c + extra) (omega arith) (deep c)
  deep (flat.If p xs y n c) =
      let a = deep y in
      let b = deep n in
      let d = deep c in
      deep_operated _ p xs _ (max (suc (max (nesting y) (nesting n))) (nesting c) + extra) (omega arith) (max-le (omega (arith, a)) (max-le (omega (arith, b)) (omega (arith, d))))
  deep (flat.Match t form x y n c) =
      let a = deep y in
      let b = deep n in
      let d = deep c in
      deep_readied (x ∷ []) _ (max (suc (max (nesting y) (nesting n))) (nesting c) + extra)
      (deep_opens t form (place plan link here 0 x) (emit plan link here y) (emit plan link here n) (emit plan link here c) (max (suc (max (nesting y) (nesting n))) (nesting c) + extra) (omega (arith, a)) (omega (arith, b)) (omega (arith, d)))
  deep (flat.Loop b c) = let a = deep b in let d = deep c in max-le (omega (arith, a)) (omega (arith, d))
  deep (flat.Label b c) = let a = deep b in let d = deep c in max-le (omega (arith, a)) (omega (arith, d))
  deep (flat.Branch l) = omega arith
  deep (flat.Make t seen code c) = deep_seq (makes plan link here t seen code) (emit plan link here c) (nesting c + extra) (deep_makes t seen code (nesting c + extra)) (deep c)
  deep (flat.Call t f xs c) = deep_readied (f ∷ xs) _ (nesting c + extra) (deep c)
  deep (flat.Return x) = deep_readied (x ∷ []) _ (0 + extra) (omega arith)
  deep (flat.Leave j) = omega arith
  deep (flat.Pass t x j) = omega arith
  deep (flat.Tabulate t n f c) = omega arith
  deep (flat.Send t s f xs h c) = omega arith
  deep (flat.Wait t x h j) = omega arith
  deep (flat.Raise x h) = omega arith

-- ---- functions

first_high : (f : flat.Code → ℕ) → f flat.Stop ≡ 0 → (cs : List flat.Code) → f (first_of cs) ≤ most_of f cs
first_high f e [] = omega (arith, e)
first_high f e (c ∷ cs) = le-max_left (f c) (most_of f cs)

locals_count : (slots most : ℕ) → length (replicate slots I64 ++ I32 ∷ I32 ∷ I64 ∷ replicate most I64) ≡ slots + suc (suc (suc most))
locals_count slots most =
    length-append (replicate slots I64) (I32 ∷ I32 ∷ I64 ∷ replicate most I64)
    ∙ ap (λ n. n + length (I32 ∷ I32 ∷ I64 ∷ replicate most I64)) (length-replicate {A = ValueType} slots I64)
    ∙ ap (λ n. slots + suc (suc (suc n))) (length-replicate {A = ValueType} most I64)

pub frames_paid : FramesArePaid
frames_paid plan link extra shallow members b le t params =
    let here : Here = here_of members b in
    let code : flat.Code = first_of b.segments in
    let most : ℕ = most_of most_operands b.segments in
    let h = high plan link extra shallow here code (suc most) (let f = first_high most_operands (omega arith) b.segments in omega (arith, f)) in
    let d = deep plan link extra shallow here code in
    let n = first_high nesting (omega arith) b.segments in
    let l = locals_count (b.slots - b.parameters) most in
    omega (arith, h, d, n, l, params, le)
