-- Calls of functions.
use Rattle.std.proofs.Common.{◌≡◌, ◌⊎◌, inl, inr, ℕ, zero, suc, ◌+◌, ◌-◌, ◌*◌, ◌<◌, ◌≤◌, ◌^◌, List, [], ◌∷◌, ◌++◌, length, take, drop, reverse, replicate, Bool, true, false, cond, nat_eq, nat_lt, Option, Some, None, Ok, Err, refl, sym, ap, ◌∙◌, subst, arith, length-append}
use Rattle.std.specs.Prelude.{slice_index, slice_set, slice_get}
use Rattle.std.proofs.lemmas.Bool.Decides.{nat_tests}
use Rattle.std.proofs.lemmas.List.{length-replicate, reverse-reverse}
use Rattle.std.proofs.lemmas.Option.{slice_get_within}
use mathlib.Core.List.{reverse_aux}
use Rattle.mo_values.specs.Shapes.{Bytes, Made, Function, unit}
use Rattle.wasm_tree.specs.declared.trap.Trap.TheVariants as trap
use Rattle.wasm_tree.specs.declared.types.ValueType.{ValueType}
use Rattle.wasm_tree.specs.declared.types.ValueType.TheVariants.{I32, I64}
use Rattle.wasm_tree.specs.declared.op.LoadKind.TheVariants as load
use Rattle.wasm_tree.specs.Numeric.{low}
use Rattle.wasm_tree.specs.Exec as exec
use Rattle.wasm_tree.specs.Exec.{Host, Store, number_of, same_type, entry}
use Rattle.core_ir.specs.declared.code.Operand.{Operand}
use Rattle.core_ir.specs.Choices.{nth}
use Rattle.core_ir.specs.Values.{Handle, Value, handle_of}
use Rattle.core_ir.specs.Worlds.{World, Context, MadeGroup}
use Rattle.core_ir.specs.Programs.{Group}
use Rattle.core_ir.specs.Code as source
use Rattle.core_ir.specs.Code.{Body, CodeProgram}
use Rattle.core_ir.specs.CodeMachine as flat
use Rattle.core_ir.specs.CodeMachine.{Frame, at, value, values, stuck, go, first_of, frame_of, entered, called, caller_with, depth_of}
use Rattle.low_ir.specs.declared.op.Operand as op
use Rattle.low_ir.specs.declared.op.Operand.TheVariants.{Local}
use Rattle.low_ir.specs.Tree as low
use Rattle.low_ir.specs.Tree.{Code, Stop, Module}
use Rattle.low_ir.specs.Meaning.{Called, Fell, Calls, Outcome, Breaks, operand, operands, tick, chosen, on_return, result_to, run}
use Rattle.low_ir.specs.Numbering.{type_of, all_types}
use Rattle.low_ir.specs.Frames.{words, finish, enter, enter_as}
use Rattle.low_rules.specs.Rule.{At, value_of, values_of, loads}
use Rattle.low_rules.proofs.Steps.{on_ok, low_is, le_test}
use Rattle.code_sequences.specs.Laws.{Goes}
use Rattle.code_sequences.proofs.Prefix.{straight}
use Rattle.code_sequences.specs.Places.{Caller, Place, calls_of, closes}
use Rattle.code_sequences.specs.Places as places
use Rattle.heap_layout.specs.Words.{word_at}
use Rattle.heap_layout.specs.Ghosts.{Ghost, Fixed}
use Rattle.heap_layout.specs.Means.{Means, Rep, Reps}
use Rattle.heap_layout.specs.Heaps.{Plan, MemberAt, GroupAt}
use Rattle.heap_layout.proofs.Meanings.{same_later}
use Rattle.flat_emission.specs.Emission.{Linkage, Here, here_of, function_of, emit, first_word, second_word, slot, finds}
use Rattle.flat_emission.specs.Emission as emission
use Rattle.emitted_steps.specs.Operations.{given}
use Rattle.emitted_steps.specs.States.{Fits, FrameHeld, Held, words_for}
use Rattle.emitted_steps.specs.Modules.{FunctionAt, FunctionsAre}
use Rattle.emitted_steps.specs.Shortage.{RunsOut, IsShort, StepsRunOut}
use Rattle.emitted_steps.specs.Steps.{Usual, own_steps}
use Rattle.emitted_steps.proofs.Frames.{local_here, local_other, frame_behind, same_number, arounds_fewer, callers_later}
use Rattle.emitted_steps.proofs.Operands.{values_length, no_calls, places_between, places_length, fixed_read, address_low}
use Rattle.emitted_steps.proofs.Control.{calls, Follows, Goes as Moves'}
use Rattle.emitted_steps.proofs.Short.{either, or_short, shows_same, short_on, closed_short, out_now, goes_or}
use Rattle.emitted_steps.proofs.Ready.{Ready, ready, operand_is, operand_none}
use Rattle.emitted_steps.proofs.Lets.{by_some}

-- ---- words of four bytes

-- the low four bytes of a word that has no more
halves : (l : List ℕ) → number_of (take 8 l) ≡ number_of (take 4 l) + 2 ^ 32 * number_of (take 4 (drop 4 l))
halves [] = refl
halves (a ∷ []) = omega arith
halves (a ∷ b ∷ []) = omega arith
halves (a ∷ b ∷ c ∷ []) = omega arith
halves (a ∷ b ∷ c ∷ d ∷ l) = omega arith

low_half : (l : List ℕ) (v : ℕ) → number_of (take 8 l) ≡ v → v < 2 ^ 32 → number_of (take 4 l) ≡ v
low_half l v e lt = let h = halves l in omega (arith, h, e, lt)

loads_half : (memory : List ℕ) (i a v : ℕ) → a ≡ 8 * i → 8 * i + 8 ≤ length memory → word_at memory i ≡ v → v < 2 ^ 32 → loads memory load.I32 a ≡ Ok v
loads_half memory i a v e h is lt =
    ap (λ n. loads memory load.I32 n) e ∙ ap (λ t. cond t (Ok (number_of (take 4 (drop (8 * i) memory)))) (Err trap.Bounds)) (le_test (8 * i + 4) (length memory) (omega (arith, h)))
    ∙ ap Ok (low_half (drop (8 * i) memory) v is lt)

not_below : (a b : ℕ) → b ≤ a → nat_lt a b ≡ false
not_below a b h = grind (arith, nat_tests)

-- ---- operands in their order

operands_are : {W : Type 0} (args : List op.Operand) (k n : ℕ) (store : Store W) (locals before : List ℕ) (next : exec.State W → List ℕ → Outcome W) → k ≡ length args + n
    → operands args (record { left = k; store = store; locals = locals }) before next ≡ next (record { left = n; store = store; locals = locals }) (values_of args locals before)
operands_are [] k n store locals before next e = ap (λ k. next (record { left = k; store = store; locals = locals }) before) (omega (arith, e))
operands_are (a ∷ args) zero n store locals before next e = absurd (omega arith)
operands_are (a ∷ args) (suc k) n store locals before next e =
    operand_is a k store locals (λ s v. operands args s (v ∷ before) next) ∙ operands_are args k n store locals (value_of a locals ∷ before) next (omega arith)

-- there are steps for them, or not
operands_or : {W : Type 0} (args : List op.Operand) (k : ℕ) (store : Store W) (locals before : List ℕ) (next : exec.State W → List ℕ → Outcome W)
    → ((n : ℕ) × (k ≡ length args + n)) ⊎ ((k < length args) × (operands args (record { left = k; store = store; locals = locals }) before next ≡ Breaks trap.Steps store))
operands_or [] k store locals before next = inl (k, omega arith)
operands_or (a ∷ args) zero store locals before next = inr (omega arith, operand_none a store locals _)
operands_or (a ∷ args) (suc k) store locals before next =
    either (operands_or args k store locals (value_of a locals ∷ before) next)
    (λ q. inl (q.0, (let e = q.1 in omega (arith, e))))
    (λ q. inr ((let lt = q.0 in omega (arith, lt)), operand_is a k store locals (λ s v. operands args s (v ∷ before) next) ∙ q.1))

values_given : (args : List op.Operand) (locals before : List ℕ) → values_of args locals before ≡ reverse_aux (given args locals) before
values_given [] locals before = refl
values_given (a ∷ args) locals before = values_given args locals (value_of a locals ∷ before)

pub in_order : (args : List op.Operand) (locals : List ℕ) → reverse (values_of args locals []) ≡ given args locals
in_order args locals = ap reverse (values_given args locals []) ∙ reverse-reverse (given args locals)

-- ---- a frame that begins

zero_at : (k x : ℕ) → slice_index (replicate k 0) x ≡ 0
zero_at zero zero = refl
zero_at zero (suc x) = refl
zero_at (suc k) zero = refl
zero_at (suc k) (suc x) = zero_at k x

unit_at : (n x : ℕ) → nth unit (replicate n unit) x ≡ unit {F = Handle}
unit_at zero x = refl
unit_at (suc n) zero = refl
unit_at (suc n) (suc x) = unit_at n x

begun : (g : Ghost) (memory : List ℕ) (ws : List ℕ) (vs : List Value) (n k x : ℕ) → Reps g memory ws vs → Rep g memory (slice_index (ws ++ replicate k 0) x) (nth unit (vs ++ replicate n unit) x)
begun g memory [] [] n k x reps = subst (λ v. Rep g memory (slice_index (replicate k 0) x) v) (sym (unit_at n x)) (subst (λ w. Rep g memory w unit) (sym (zero_at k x)) (record { small = omega arith; means = refl }))
begun g memory [] (v ∷ vs) n k x reps = absurd reps
begun g memory (w ∷ ws) [] n k x reps = absurd reps
begun g memory (w ∷ ws) (v ∷ vs) n k zero reps = reps.0
begun g memory (w ∷ ws) (v ∷ vs) n k (suc x) reps = begun g memory ws vs n k x reps.1

pub reps_length : (g : Ghost) (memory : List ℕ) (ws : List ℕ) (vs : List Value) → Reps g memory ws vs → length ws ≡ length vs
reps_length g memory [] [] r = refl
reps_length g memory [] (v ∷ vs) r = absurd r
reps_length g memory (w ∷ ws) [] r = absurd r
reps_length g memory (w ∷ ws) (v ∷ vs) r = ap suc (reps_length g memory ws vs r.1)

locals_length : (slots most : ℕ) → length (replicate slots I64 ++ I32 ∷ I32 ∷ I64 ∷ replicate most I64) ≡ slots + suc (suc (suc most))
locals_length slots most =
    length-append (replicate slots I64) (I32 ∷ I32 ∷ I64 ∷ replicate most I64)
    ∙ ap (λ n. n + length (I32 ∷ I32 ∷ I64 ∷ replicate most I64)) (length-replicate {A = ValueType} slots I64)
    ∙ ap (λ n. slots + suc (suc (suc n))) (length-replicate {A = ValueType} most I64)

-- ---- steps

pub paid : (steps unit nodes : ℕ) → steps ≤ 96 * (1 + nodes) → steps ≤ (96 + unit) * (1 + nodes)
paid steps unit nodes le = let a : (96 + unit) * (1 + nodes) ≡ 96 * (1 + nodes) + unit * (1 + nodes) = omega arith in omega (arith, a, le)

-- ---- what is called

handled : (v : Value) (h : Handle) → handle_of v ≡ Some h → v ≡ Function h
handled (Function k) h e = ap (λ o. Function (or_this k o)) e
  where
    or_this : Handle → Option Handle → Handle
    or_this d None = d
    or_this d (Some h) = h
handled (Made a b) h e = absurd (cc e)

module _ {A : Type 0} (B : A → Type 0) (none : A) where
  by_cond : (t : Bool) (a : A) → B none → (t ≡ true → B a) → B (cond t a none)
  by_cond true a n k = k refl
  by_cond false a n k = n

module _ (plan : Plan) (link : Linkage) (table : List (Option ℕ)) (sees : ℕ → ℕ) (program : CodeProgram) (context : Context) {W : Type 0} (pages : ℕ) (m : Module) (host : Host W) (told fell : W → Bytes → W) (prints_of : W → List Bytes) (out : StepsRunOut pages m host told fell prints_of) (unit_steps total roof below : ℕ)
    (are : FunctionsAre plan link table sees context.globals m program) (world : World) (g : Ghost) (top : ℕ) (ks : List flat.Around) (f : Frame) (cs : List flat.Caller) (c : Place W)
    (t : ℕ) (a : Operand) (xs : List Operand) (rest : source.Code) (h : Held plan link table sees context total g world (at (source.Call t a xs rest) ks f cs) c top) where
  abbrev F : Called W → flat.Did → Type 0
  F before d = Follows plan link table sees context pages m host told fell prints_of unit_steps total roof below before c.left top c.store.world d

  abbrev one : ℕ
  one = first_word h.here

  abbrev two : ℕ
  two = second_word h.here

  abbrev args : List op.Operand
  args = Local one ∷ emission.places plan link h.here 1 xs

  abbrev calls_it : Code
  calls_it = low.CallIndirect (Some (slot t)) (link.type_of (length xs)) args (Local two) (emit plan link h.here rest)

  module _ (v : Handle) (v_is : value context.globals f a ≡ Function v) (made : MadeGroup) (made_is : slice_get world.groups v.group ≡ Some made) (group : Group Body) (group_is : slice_get program.groups made.code ≡ Some group)
      (b : Body) (b_is : slice_get group.bodies v.member ≡ Some b) (arity : length (values context.globals f xs) ≡ b.parameters) where
    abbrev block : ℕ
    block = g.groups v.group

    at_group : GroupAt plan g c.store.memory block made
    at_group = h.heap.holds.group v.group made made_is

    E : FunctionAt plan link table sees context.globals m made.code v.member b
    E = are.functions made.code v.member group b group_is b_is

    member_lt : v.member < plan.sizes made.code
    member_lt = let e = are.sizes made.code group group_is in let lt = slice_get_within group.bodies v.member b b_is in omega (arith, e, lt)

    entry_at : MemberAt plan g c.store.memory block made.code v.member
    entry_at = at_group.members v.member member_lt

    below_top : (i : ℕ) → g.own i ≡ Fixed → i < top
    below_top i e = (fixed_read plan g world c.store top h.heap i e).0

    inside : (i : ℕ) → g.own i ≡ Fixed → 8 * i + 8 ≤ length c.store.memory
    inside i e = let lt = below_top i e in let w = h.heap.holds.heap.inside in omega (arith, lt, w)

    address : 8 * (block + 2 * v.member) < 2 ^ 32
    address = address_low plan g world c.store top h.heap (block + 2 * v.member) (below_top (block + 2 * v.member) entry_at.entry_fixed)

    -- the rest of the execution
    abbrev before : Called W
    before = places.rest_of pages m host c

    abbrev R : Type 0
    R = Ready plan link table sees context pages m host told fell prints_of out unit_steps total roof world g top (source.Call t a xs rest) ks f cs c h (a ∷ xs) (finds plan link h.here a calls_it)

    abbrev Found : At W → Type 0
    Found to =
        (to.spent ≤ 9) × (to.store ≡ c.store) × FrameHeld g c.store.memory f h.here to.locals × (slice_index to.locals one ≡ 8 * block) × (slice_index to.locals two ≡ plan.entry_of made.code v.member)
        × Reps g c.store.memory (given (emission.places plan link h.here 1 xs) to.locals) (values context.globals f xs)

    means_function : (w : ℕ) → Means g c.store.memory w (Function v) → w ≡ 8 * (block + 2 * v.member)
    means_function w r = r.0

    means_made : (w : ℕ) → Means g c.store.memory w (Function v) → v.group < g.made
    means_made w r = r.1

    found : (locals : List ℕ) → FrameHeld g c.store.memory f h.here locals → Rep g c.store.memory (value_of (emission.place plan link h.here 0 a) locals) (value context.globals f a)
        → Reps g c.store.memory (given (emission.places plan link h.here 1 xs) locals) (values context.globals f xs) → Goes pages m (calls pages m host c) (finds plan link h.here a Stop) Found (record { spent = 0; store = c.store; locals = locals })
    found locals frame rep reps =
        let w : ℕ = value_of (emission.place plan link h.here 0 a) locals in
        let w_is : w ≡ 8 * (block + 2 * v.member) = means_function w (subst (λ x. Means g c.store.memory w x) v_is rep.means) in
        let low_w : low I32 w ≡ 8 * (block + 2 * v.member) = ap (low I32) w_is ∙ low_is (8 * (block + 2 * v.member)) address in
        let first : List ℕ = slice_set locals two (low I32 w) in
        let frame_one : FrameHeld g c.store.memory f h.here first = frame_behind g c.store.memory f h.here locals two (low I32 w) (omega arith) frame in
        let at_two : slice_index first two ≡ 8 * (block + 2 * v.member) = local_here locals two (low I32 w) (let l = frame.long in omega (arith, l)) ∙ low_w in
        let second : List ℕ = slice_set first one (8 * block) in
        let frame_two : FrameHeld g c.store.memory f h.here second = frame_behind g c.store.memory f h.here first one (8 * block) (omega arith) frame_one in
        let still_two : slice_index second two ≡ 8 * (block + 2 * v.member) = local_other first one two (8 * block) (λ e. omega (arith, e)) ∙ at_two in
        let third : List ℕ = slice_set second two (plan.entry_of made.code v.member) in
        let frame_three : FrameHeld g c.store.memory f h.here third = frame_behind g c.store.memory f h.here second two (plan.entry_of made.code v.member) (omega arith) frame_two in
        let between : (l : List ℕ) (y u : ℕ) → suc h.here.slots ≤ y → y < suc (suc (suc (suc h.here.slots))) → given (emission.places plan link h.here 1 xs) (slice_set l y u) ≡ given (emission.places plan link h.here 1 xs) l =
        λ l y u p q. places_between plan link context.globals sees h.here (length f.seen) 1 xs l y u p q h.fits.1.0.1 in
        let places_are : given (emission.places plan link h.here 1 xs) third ≡ given (emission.places plan link h.here 1 xs) locals =
        between second two (plan.entry_of made.code v.member) (omega arith) (omega arith) ∙ between first one (8 * block) (omega arith) (omega arith) ∙ between locals two (low I32 w) (omega arith) (omega arith) in
        straight pages m (calls pages m host c) no_calls (λ f store args q d. absurd d) (finds plan link h.here a Stop) Found (record { spent = 0; store = c.store; locals = locals })
        (on_ok _ _ _ (8 * block)
        (loads_half c.store.memory (block + (2 * v.member + 1)) (low I32 (slice_index first two) + 8) (8 * block)
        (ap (λ x. low I32 x + 8) at_two ∙ ap (λ x. x + 8) (low_is (8 * (block + 2 * v.member)) address) ∙ omega arith)
        (inside (block + (2 * v.member + 1)) entry_at.block_fixed) entry_at.block (omega (arith, address)))
        (on_ok _ _ _ (plan.entry_of made.code v.member)
        (loads_half c.store.memory (block + 2 * v.member) (low I32 (slice_index second two) + 0) (plan.entry_of made.code v.member)
        (ap (λ x. low I32 x + 0) still_two ∙ ap (λ x. x + 0) (low_is (8 * (block + 2 * v.member)) address) ∙ omega arith)
        (inside (block + 2 * v.member) entry_at.entry_fixed) entry_at.entry E.entry_small) (
          omega arith,
          refl,
          frame_three,
          local_other second two one (plan.entry_of made.code v.member) (λ e. omega (arith, e)) ∙ local_here first one (8 * block) (let s = frame_one.long in omega (arith, s)),
          local_here second two (plan.entry_of made.code v.member) (let s = frame_two.long in omega (arith, s)),
          subst (λ l. Reps g c.store.memory l (values context.globals f xs)) (sym places_are) reps,
        )))

    abbrev fn : low.Function
    fn = function_of plan link (plan.sizes made.code) b

    abbrev frame_words : ℕ
    frame_words = words E.type fn

    -- The function that is found begins.
    entered_is : (deep d room left : ℕ) (store : Store W) (given : List ℕ) → deep ≡ suc d → frame_words ≤ room
        → calls_of pages m host deep room E.number left store given ≡ finish E.type (run pages m (calls_of pages m host d (room - frame_words)) fn.body (record { left = left; store = store; locals = given ++ replicate (length fn.locals) 0 }))
    entered_is deep d room left store given e le =
        let inner : ℕ → Calls W = λ (room : ℕ). enter d pages m host room in
        ap (λ deep. calls_of pages m host deep room E.number left store given) e
        ∙ (λ i. enter_as pages m host room inner (E.typed i) (E.is_defined i) E.number left store given)
        ∙ ap (λ x. cond x (Fell trap.Stack store) (finish E.type (run pages m (inner (room - frame_words)) fn.body (record { left = left; store = store; locals = given ++ replicate (length fn.locals) 0 })))) (not_below room frame_words le)

    abbrev caller : flat.Caller
    caller = record { frame = f; to = t; rest = rest; around = ks; gathering = None }

    len : length xs ≡ b.parameters
    len = sym (values_length context.globals f xs) ∙ arity

    args_len : length args ≡ suc (length xs)
    args_len = ap suc (places_length plan link context.globals sees h.here (length f.seen) 1 xs)

    small : length xs ≤ 8 + b.nodes
    small = let p = E.few in let l = len in omega (arith, p, l)

    few_found : (to : At W) (cost : ℕ) → Found to → to.spent ≡ 0 + cost → cost ≤ 9
    few_found to cost k e = let l = k.0 in omega (arith, e, l)

    abbrev G : List ℕ → Type 0
    G locals = Goes pages m (calls pages m host c) (finds plan link h.here a Stop) Found (record { spent = 0; store = c.store; locals = locals })

    -- the function and its arguments are there
    found_same : (r : R) (go : G r.locals) (k : ℕ) → r.rest ≡ go.cost + k → before ≡ closes pages m host c (run pages m (calls pages m host c) calls_it (record { left = k; store = c.store; locals = go.to.locals }))
    found_same r go k rest_is =
        r.same ∙ ap (closes pages m host c) (go.by calls_it r.rest k rest_is) ∙ ap (λ store. closes pages m host c (run pages m (calls pages m host c) calls_it (record { left = k; store = store; locals = go.to.locals }))) go.holds.1

    abbrev Short : Type 0
    Short = IsShort prints_of before c.left ((own_steps + unit_steps) * (1 + b.nodes)) c.store.world

    call_short : (r : R) (go : G r.locals) (k : ℕ) → r.rest ≡ go.cost + k → k ≤ length xs + 2 → run pages m (calls pages m host c) calls_it (record { left = k; store = c.store; locals = go.to.locals }) ≡ Breaks trap.Steps c.store → Short
    call_short r go k rest_is le breaks =
        let few = few_found go.to go.cost go.holds go.total in
        let p = paid (r.cost + go.cost + (length xs + 3)) unit_steps b.nodes (let l = r.few in let q = small in omega (arith, l, q, few)) in
        closed_short prints_of pages m host c before (run pages m (calls pages m host c) calls_it (record { left = k; store = c.store; locals = go.to.locals })) c.left ((own_steps + unit_steps) * (1 + b.nodes)) c.store.world (found_same r go k rest_is)
        (let e = r.count in omega (arith, p, e, rest_is, le)) (out_now prints_of _ c.store breaks)

    -- what comes after the operands
    abbrev then : exec.State W → List ℕ → Outcome W
    then s values =
        operand (Local two) s (λ s v. tick s (λ s. chosen m (link.type_of (length xs)) (entry (slice_get s.store.table (low I32 v))) s
        (λ f. on_return s.locals (calls pages m host c f s.left s.store (reverse values)) (λ s v. result_to (Some (slot t)) s v (run pages m (calls pages m host c) (emit plan link h.here rest))))))

    call_moves : (r : R) (go : G r.locals) (n : ℕ) → r.rest ≡ go.cost + (suc (length xs) + suc (suc n)) → words_for (16 + b.nodes + depth_of (caller ∷ cs)) ≤ total
        → Moves' plan link table sees context pages m host told fell prints_of unit_steps total roof below (places.rest_of pages m host c) c.left top c.store.world (1 + b.nodes) [] world (at (first_of b.segments) [] (frame_of b v.group made.seen (values context.globals f xs)) (caller ∷ cs))
    call_moves r go n rest_is over =
        let few_go : go.cost ≤ 9 = few_found go.to go.cost go.holds go.total in
        let few : r.cost + go.cost ≤ 7 * (1 + length xs) + 9 = let l = r.few in omega (arith, l, few_go) in
        let count : c.left ≡ r.cost + go.cost + (suc (length xs) + suc (suc n)) = let e = r.count in omega (arith, e, rest_is) in
        let fits : frame_words ≤ c.room = let w = E.frame in let k = h.room in omega (arith, w, k, over) in
        let d : ℕ = c.deep - 1 in
        let deep_is : c.deep ≡ suc d = let k = h.deep in omega (arith, k, over) in
        let locals : List ℕ = go.to.locals in
        let ws : List ℕ = 8 * block ∷ given (emission.places plan link h.here 1 xs) locals in
        let next : Called W → Outcome W = λ o. on_return locals o (λ s v. result_to (Some (slot t)) s v (run pages m (calls pages m host c) (emit plan link h.here rest))) in
        let went : ℕ → exec.State W → Outcome W = λ k s. next (calls pages m host c k s.left s.store (reverse (values_of args locals []))) in
        let table_is : entry (slice_get c.store.table (low I32 (slice_index locals two))) ≡ Some E.number =
        (λ i. entry (slice_get c.store.table (low I32 (go.holds.4 i)))) ∙ (λ i. entry (slice_get (h.table_is i) (low_is (plan.entry_of made.code v.member) E.entry_small i))) ∙ ap entry E.entry_is in
        let type_at : ℕ = link.type_of (length xs) in
        let same_is : same_type (type_of m E.number) (slice_get (all_types m) type_at) ≡ true = ap (λ k. same_type (type_of m E.number) (slice_get (all_types m) (link.type_of k))) len ∙ E.same in
        let s : exec.State W = record { left = n; store = c.store; locals = locals } in
        let words_are : reverse (values_of args locals []) ≡ ws = in_order args locals ∙ ap (λ w. w ∷ given (emission.places plan link h.here 1 xs) locals) go.holds.3 in
        let low_caller : Caller = record { deep = c.deep; room = c.room; type = c.type; to = Some (slot t); rest = emit plan link h.here rest; locals = locals; around = c.around } in
        let to : Place W = record { code = fn.body; left = n; store = c.store; locals = ws ++ replicate (length fn.locals) 0; around = []; deep = d; room = c.room - frame_words; type = E.type; callers = low_caller ∷ c.callers } in
        let same : places.rest_of pages m host c ≡ places.rest_of pages m host to =
        found_same r go (suc (length xs) + suc (suc n)) rest_is
        ∙ ap (closes pages m host c) (operands_are args (suc (length xs) + suc (suc n)) (suc (suc n)) c.store locals [] then (ap (λ k. k + suc (suc n)) (sym args_len)))
        ∙ ap (λ k. closes pages m host c (chosen m type_at k s (λ f. went f s))) table_is
        ∙ ap (λ q. closes pages m host c (cond q (went E.number s) (Breaks trap.Indirect s.store))) same_is
        ∙ ap (λ l. closes pages m host c (next (calls pages m host c E.number n c.store l))) words_are
        ∙ ap (λ o. closes pages m host c (next o)) (entered_is c.deep d c.room n c.store ws deep_is fits) in
        let reps : Reps g c.store.memory (given (emission.places plan link h.here 1 xs) locals) (values context.globals f xs) = go.holds.5 in
        let given_size : length (given (emission.places plan link h.here 1 xs) locals) ≡ b.parameters = reps_length g c.store.memory (given (emission.places plan link h.here 1 xs) locals) (values context.globals f xs) reps ∙ arity in
        let new : Here = here_of (plan.sizes made.code) b in
        let locals_size : length fn.locals ≡ (b.slots - b.parameters) + suc (suc (suc new.most)) = locals_length (b.slots - b.parameters) new.most in
        let own : g.groups v.group ≡ block = refl in
        record {
          to = to;
          ghost = g;
          end = top;
          held = record {
            here = new;
            code = refl;
            fits = subst (λ k. Fits plan link context.globals sees new k (first_of b.segments)) (sym (h.groups v.group made made_is)) E.fits;
            frame = record {
              long = ap suc (length-append (given (emission.places plan link h.here 1 xs) locals) (replicate (length fn.locals) 0)) ∙ (λ i. suc (given_size i + length-replicate {A = ℕ} (length fn.locals) 0 i)) ∙ (let p = E.parameters in omega (arith, locals_size, p));
              slots = λ x lt. begun g c.store.memory (given (emission.places plan link h.here 1 xs) locals) (values context.globals f xs) b.slots (length fn.locals) x reps;
              b = block;
              block_is = refl;
              low = omega (arith, address);
              block = record { captured = at_group.seen; member = λ k lt. (own, means_made (value_of (emission.place plan link h.here 0 a) r.locals) (subst (λ x. Means g c.store.memory (value_of (emission.place plan link h.here 0 a) r.locals) x) v_is r.reps.0.means), (at_group.members k lt).entry_fixed) };
            };
            around = tt;
            callers = (
              record {
                here = h.here;
                plain = refl;
                to = refl;
                to_fits = h.fits.0;
                rest = refl;
                fits = h.fits.2;
                frame = go.holds.2;
                around = arounds_fewer plan link context.globals sees h.here (length f.seen) c.left n ks c.around (omega (arith, count)) h.around;
                results = h.results;
                room = h.room;
                deep = h.deep;
              },
              callers_later plan link context.globals sees g g c.store.memory c.store.memory (same_later g c.store.memory) total c.left n cs c.callers (omega (arith, count)) h.callers,
            );
            heap = h.heap;
            names = h.names;
            groups = h.groups;
            table_is = h.table_is;
            results = E.results;
            room = let w = E.frame in let k = h.room in omega (arith, w, k, fits);
            deep = let k = h.deep in omega (arith, k, deep_is);
            within = over;
          };
          turn = Usual;
          same = same;
          steps = r.cost + go.cost + (length xs + 3);
          count = omega (arith, count);
          some = omega arith;
          few = paid (r.cost + go.cost + (length xs + 3)) unit_steps b.nodes (let q = small in omega (arith, few, q));
          bytes = omega arith;
          shown = refl;
        }

    -- the steps for the operands and the call are there, or are not
    called_or : (r : R) (go : G r.locals) (k : ℕ) → r.rest ≡ go.cost + k → words_for (16 + b.nodes + depth_of (caller ∷ cs)) ≤ total
        → Moves' plan link table sees context pages m host told fell prints_of unit_steps total roof below before c.left top c.store.world (1 + b.nodes) [] world (at (first_of b.segments) [] (frame_of b v.group made.seen (values context.globals f xs)) (caller ∷ cs)) ⊎ Short
    called_or r go k rest_is over = by (operands_or args k c.store go.to.locals [] then)
      where
        behind : (n : ℕ) → k ≡ length args + n
            → Moves' plan link table sees context pages m host told fell prints_of unit_steps total roof below before c.left top c.store.world (1 + b.nodes) [] world (at (first_of b.segments) [] (frame_of b v.group made.seen (values context.globals f xs)) (caller ∷ cs)) ⊎ Short
        behind zero e = inr (call_short r go k rest_is (let l = args_len in omega (arith, e, l)) (operands_are args k 0 c.store go.to.locals [] then e))
        behind (suc zero) e = inr (call_short r go k rest_is (let l = args_len in omega (arith, e, l)) (operands_are args k 1 c.store go.to.locals [] then e))
        behind (suc (suc n)) e = inl (call_moves r go n (let l = args_len in omega (arith, e, l, rest_is)) over)

        by : ((n : ℕ) × (k ≡ length args + n)) ⊎ ((k < length args) × (operands args (record { left = k; store = c.store; locals = go.to.locals }) [] then ≡ Breaks trap.Steps c.store))
            → Moves' plan link table sees context pages m host told fell prints_of unit_steps total roof below before c.left top c.store.world (1 + b.nodes) [] world (at (first_of b.segments) [] (frame_of b v.group made.seen (values context.globals f xs)) (caller ∷ cs)) ⊎ Short
        by (inl q) = behind q.0 q.1
        by (inr q) = inr (call_short r go k rest_is (let lt = q.0 in let l = args_len in omega (arith, lt, l)) q.1)

    call_goes : words_for (16 + b.nodes + depth_of (caller ∷ cs)) ≤ total
        → Moves' plan link table sees context pages m host told fell prints_of unit_steps total roof below before c.left top c.store.world (1 + b.nodes) [] world (at (first_of b.segments) [] (frame_of b v.group made.seen (values context.globals f xs)) (caller ∷ cs)) ⊎ Short
    call_goes over =
        either (ready plan link table sees context pages m host told fell prints_of out unit_steps total roof world g top (source.Call t a xs rest) ks f cs c h (a ∷ xs) (finds plan link h.here a calls_it) h.code h.fits.1)
        (λ r.
        let go = found r.locals r.frame r.reps.0 r.reps.1 in
        either (goes_or pages m host told fell prints_of out c.deep c.room (finds plan link h.here a Stop) calls_it (record { spent = 0; store = c.store; locals = r.locals }) Found go r.rest)
        (λ k. called_or r go k.0 k.1 over)
        (λ k.
        let few = few_found go.to go.cost go.holds go.total in
        let p = paid (r.cost + go.cost) unit_steps b.nodes (let l = r.few in let q = small in omega (arith, l, q, few)) in
        inr (closed_short prints_of pages m host c before (run pages m (calls pages m host c) (finds plan link h.here a calls_it) (record { left = r.rest; store = c.store; locals = r.locals })) c.left ((own_steps + unit_steps) * (1 + b.nodes)) c.store.world r.same
        (let e = r.count in let lt = k.0 in omega (arith, p, e, lt)) (subst (λ (store : Store W). RunsOut prints_of (run pages m (calls pages m host c) (finds plan link h.here a calls_it) (record { left = r.rest; store = c.store; locals = r.locals })) store.world) go.holds.1 k.1))))
        (λ short.
        inr (short_on prints_of before c.left (7 * suc (length xs)) ((own_steps + unit_steps) * (1 + b.nodes)) c.store.world c.store.world (paid (7 * suc (length xs)) unit_steps b.nodes (let q = small in omega (arith, q))) (shows_same prints_of c.store.world) short))

  abbrev B : flat.Did → Type 0
  B d = F (places.rest_of pages m host c) d

  abbrev none : flat.Did
  none = stuck world

  pub call_matches : F (places.rest_of pages m host c) (called program context world (value context.globals f a) (values context.globals f xs) (caller_with program context t rest ks f None) cs)
  call_matches =
      by_some B none (handle_of (value context.globals f a)) _ tt (λ v v_handle.
      by_some B none (slice_get world.groups v.group) _ tt (λ made made_is.
      by_some B none (slice_get program.groups made.code) _ tt (λ group group_is.
      by_some B none (slice_get group.bodies v.member) _ tt (λ b b_is.
      by_cond B none (nat_eq (length (values context.globals f xs)) b.parameters) _ tt (λ arity levels over.
      or_short (call_goes v (handled (value context.globals f a) v v_handle) made made_is group group_is b b_is (same_number (length (values context.globals f xs)) b.parameters arity) over))))))
