-- Code that works in a function's locals: what it leaves, in a store that it does not change.
use Rattle.std.proofs.Common.{◌≡◌, ◌⊎◌, inl, inr, ℕ, ◌+◌, ◌*◌, ◌<◌, ◌≤◌, ◌^◌, List, [], ◌∷◌, length, Bool, true, false, refl, sym, ap, ◌∙◌, subst, arith}
use Rattle.std.specs.Prelude.{slice_index, slice_set}
use Rattle.std.proofs.lemmas.List.{length-set}
use Rattle.mo_types.specs.declared.datum.Datum.TheVariants as part
use Rattle.mo_values.specs.Costs.{Cost}
use Rattle.mo_values.specs.Shapes.{Bytes, leaf, unit}
use Rattle.wasm_tree.specs.declared.trap.Trap.{Trap}
use Rattle.wasm_tree.specs.declared.types.ValueType.TheVariants.{I32, I64}
use Rattle.wasm_tree.specs.declared.op.Comparison.{Comparison}
use Rattle.wasm_tree.specs.declared.op.LoadKind.TheVariants as load
use Rattle.wasm_tree.specs.Numeric.{low, flag, equals_zero, compare}
use Rattle.wasm_tree.specs.Exec.{Host, Store}
use Rattle.core_ir.specs.Primitives.{Done, Gives}
use Rattle.core_ir.specs.Values.{Value}
use Rattle.core_ir.specs.Worlds.{World}
use Rattle.low_ir.specs.declared.op.Operand.{Operand}
use Rattle.low_ir.specs.declared.op.Operand.TheVariants.{Local, Word, Long}
use Rattle.low_ir.specs.Tree.{Code, Module}
use Rattle.low_ir.specs.Frames.{enter}
use Rattle.low_ir.specs.Meaning.{Calls}
use Rattle.low_rules.specs.Rule.{At, CodeEnd, Contracts, ComesTo, Before, value_of, loads}
use Rattle.low_rules.proofs.Steps.{on_ok, low_is as as_word}
use Rattle.code_sequences.specs.Laws as sequences
use Rattle.code_sequences.specs.Laws.{Goes, Falls}
use Rattle.code_sequences.proofs.Prefix.{prefix}
use Rattle.heap_layout.specs.Words.{word_at}
use Rattle.heap_layout.specs.Ghosts.{Ghost}
use Rattle.heap_layout.specs.Means.{Rep}
use Rattle.heap_layout.specs.Heaps.{Plan}
use Rattle.heap_layout.specs.Laws.{IsRead}
use Rattle.heap_layout.proofs.Meanings.{same_later}
use Rattle.emitted_steps.specs.Operations.{Clear, HeapHeld, IsPut, Worked, ComesAs, FallsAs}
use Rattle.emitted_steps.proofs.Frames.{local_here, local_other}
use Rattle.operation_codes.specs.Codes as codes
use Rattle.operation_lines.specs.Laws.{operation_steps}

-- ---- locals

-- The locals are as they were, but for the three from a free one on.
pub record Behind (free : ℕ) (locals base : List ℕ) : Type 0 where
  pub long : length base ≡ length locals
  pub same : (x : ℕ) → (x < free) ⊎ (3 + free ≤ x) → slice_index base x ≡ slice_index locals x

pub behind_none : (free : ℕ) (locals : List ℕ) → Behind free locals locals
behind_none free locals = record { long = refl; same = λ x s. refl }

pub behind_set : (free : ℕ) (locals base : List ℕ) (y v : ℕ) → free ≤ y → y < 3 + free → Behind free locals base → Behind free locals (slice_set base y v)
behind_set free locals base y v le lt h = record { long = length-set base y v ∙ h.long; same = λ x s. local_other base y x v (apart x s) ∙ h.same x s }
  where
    apart : (x : ℕ) → (x < free) ⊎ (3 + free ≤ x) → x ≡ y → ⊥
    apart x (inl a) e = omega (arith, a, e, le)
    apart x (inr a) e = omega (arith, a, e, lt)

pub clear_first : (free : ℕ) (a : Operand) (xs : List Operand) → Clear free (a ∷ xs) → Clear free (a ∷ [])
clear_first free (Local x) xs c = (c.0, tt)
clear_first free (Word z) xs c = tt
clear_first free (Long z) xs c = tt

pub clear_rest : (free : ℕ) (a : Operand) (xs : List Operand) → Clear free (a ∷ xs) → Clear free xs
clear_rest free (Local x) xs c = c.1
clear_rest free (Word z) xs c = c
clear_rest free (Long z) xs c = c

-- an operand's word is what it was
pub still : (free : ℕ) (locals base : List ℕ) → Behind free locals base → (a : Operand) → Clear free (a ∷ []) → value_of a base ≡ value_of a locals
still free locals base h (Local x) c = h.same x c.0
still free locals base h (Word z) c = refl
still free locals base h (Long z) c = refl

pub put_in : (to free word : ℕ) (locals base : List ℕ) → Behind free locals base → to < length locals → IsPut to free word locals (slice_set base to word)
put_in to free word locals base h lt = record {
  long = length-set base to word ∙ h.long;
  word_is = local_here base to word (let l = h.long in omega (arith, l, lt));
  others = λ x below ne. local_other base to x word ne ∙ h.same x (inl below);
}

-- ---- what is left

module _ {W : Type 0} (plan : Plan) (told fell : W → Bytes → W) (roof : ℕ) (g : Ghost) (world : World) (store : Store W) (top : ℕ) (heap : HeapHeld plan g world store top) (locals : List ℕ) (to free : ℕ) where
  abbrev pub start : At W
  start = record { spent = 0; store = store; locals = locals }

  abbrev pub P : Done → At W → Type 0
  P d h = ComesAs plan told fell operation_steps g world store locals top to free d h

  abbrev pub Q : Done → Trap → ℕ → Store W → Type 0
  Q d cause spent end = FallsAs plan told fell operation_steps g world store locals top to free roof d cause spent end

  -- how code is to end
  abbrev pub End : Done → CodeEnd W → Type 0
  End d end = sequences.Comes (P d) (Q d) end

  module _ (pages : ℕ) (m : Module) (host : Host W) (deep room : ℕ) where
    abbrev pub calls : Calls W
    calls = enter deep pages m host room

    abbrev pub does : Contracts W
    does f store args q = ComesTo calls f store args q

    -- what is asked of code
    abbrev pub Kept : Done → Code → Type 0
    Kept d code = Goes pages m calls code (P d) start ⊎ Falls pages m calls code (Q d) start

    abbrev pub Runs : Done → Code → Type 0
    Runs d code = Before pages m does code (End d) start

    pub kept_by : (d : Done) (code : Code) → Runs d code → Kept d code
    kept_by d code b = prefix pages m calls does (λ f store args q c. c) code (P d) (Q d) start b

  -- a value in a store that is as it was
  pub worked : (weight spent word : ℕ) (v : Value) (after : List ℕ) → 1 ≤ spent → spent ≤ operation_steps * weight → Rep g store.memory word v → IsPut to free word locals after
      → Worked plan told fell operation_steps g world store locals top to free weight [] v world.store (record { spent = spent; store = store; locals = after })
  worked weight spent word v after some few rep put = record {
    word = word;
    ghost = g;
    end = top;
    heap = heap;
    later = same_later g store.memory;
    rep = rep;
    put = put;
    table = refl;
    some = some;
    few = few;
    bytes = omega arith;
    shown = refl;
  }

  pub flag_rep : (b : Bool) → Rep g store.memory (flag b) (leaf (part.Flag b))
  flag_rep true = record { small = omega arith; means = refl }
  flag_rep false = record { small = omega arith; means = refl }

  module _ (pages : ℕ) (m : Module) (host : Host W) (deep room : ℕ) (to_fits : to < length locals) (free_fits : 3 + free ≤ length locals) (cost : Cost) (some : 1 ≤ cost.weight) where
    -- () into the local
    pub unit_runs : (spent : ℕ) (base : List ℕ) → Behind free locals base → spent ≤ 60 → Before pages m (does pages m host deep room) (codes.gives_unit to) (End (Gives cost unit world.store)) (record { spent = spent; store = store; locals = base })
    unit_runs spent base h few = worked cost.weight (spent + (1 + 1)) 0 unit (slice_set base to 0) (omega arith) (omega (arith, few, some)) (record { small = omega arith; means = refl }) (put_in to free 0 locals base h to_fits)

    -- an operand into the local
    pub copy_runs : (a : Operand) (v : Value) → Rep g store.memory (value_of a locals) v → Runs pages m host deep room (Gives cost v world.store) (codes.copies to a)
    copy_runs a v rep = worked cost.weight 2 (value_of a locals) v (slice_set locals to (value_of a locals)) (omega arith) (omega (arith, some)) rep (put_in to free (value_of a locals) locals locals (behind_none free locals) to_fits)

    first_word : (v : ℕ) → slice_index (slice_set locals free v) free ≡ v
    first_word v = local_here locals free v (omega (arith, free_fits))

    first_set : (v : ℕ) → Behind free locals (slice_set locals free v)
    first_set v = behind_set free locals locals free v (omega arith) (omega arith) (behind_none free locals)

    -- the truth of a test
    pub tells_runs : (test : Comparison) (a b : Operand) (t : Bool) → low I32 (compare I64 test (value_of a locals) (value_of b locals)) ≡ flag t → Runs pages m host deep room (Gives cost (leaf (part.Flag t)) world.store) (codes.tells test to free a b)
    tells_runs test a b t e =
        let v : ℕ = compare I64 test (value_of a locals) (value_of b locals) in
        let w : ℕ = low I32 (slice_index (slice_set locals free v) free) in
        let is : w ≡ flag t = ap (low I32) (first_word v) ∙ e in
        worked cost.weight 7 w (leaf (part.Flag t)) (slice_set (slice_set locals free v) to w) (omega arith) (omega (arith, some)) (subst (λ w. Rep g store.memory w (leaf (part.Flag t))) (sym is) (flag_rep t)) (put_in to free w locals (slice_set locals free v) (first_set v) to_fits)

    -- the other truth value
    pub negates_runs : (a : Operand) (t : Bool) → low I32 (equals_zero I64 (value_of a locals)) ≡ flag t → Runs pages m host deep room (Gives cost (leaf (part.Flag t)) world.store) (codes.negates to free a)
    negates_runs a t e =
        let v : ℕ = equals_zero I64 (value_of a locals) in
        let w : ℕ = low I32 (slice_index (slice_set locals free v) free) in
        let is : w ≡ flag t = ap (low I32) (first_word v) ∙ e in
        worked cost.weight 6 w (leaf (part.Flag t)) (slice_set (slice_set locals free v) to w) (omega arith) (omega (arith, some)) (subst (λ w. Rep g store.memory w (leaf (part.Flag t))) (sym is) (flag_rep t)) (put_in to free w locals (slice_set locals free v) (first_set v) to_fits)

    -- a word of a block
    pub loads_runs : (i b : ℕ) (a : Operand) (v : Value) → value_of a locals ≡ 8 * b → 8 * b < 2 ^ 32 → IsRead store.memory (b + i) → Rep g store.memory (word_at store.memory (b + i)) v → Runs pages m host deep room (Gives cost v world.store) (codes.loads to free i a)
    loads_runs i b a v e small read rep =
        let x : ℕ = low I32 (value_of a locals) in
        let low_is : low I32 (8 * b) ≡ 8 * b = let r = small in wraps (8 * b) r in
        let x_is : x ≡ 8 * b = ap (low I32) e ∙ low_is in
        let address : low I32 (slice_index (slice_set locals free x) free) + 8 * i ≡ 8 * (b + i) = ap (λ n. low I32 n + 8 * i) (first_word x ∙ x_is) ∙ ap (λ n. n + 8 * i) low_is ∙ omega arith in
        let w : ℕ = word_at store.memory (b + i) in
        on_ok _ _ _ w (ap (λ n. loads store.memory load.I64 n) address ∙ read.load)
        (worked cost.weight 6 w v (slice_set (slice_set locals free x) to w) (omega arith) (omega (arith, some)) rep (put_in to free w locals (slice_set locals free x) (first_set x) to_fits))
      where
        wraps : (n : ℕ) → n < 2 ^ 32 → low I32 n ≡ n
        wraps n lt = as_word n lt
