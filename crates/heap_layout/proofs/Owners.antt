-- Owners of words, lists by place, and words that are read.
use Rattle.std.proofs.Common.{◌≡◌, ◌⊎◌, inl, inr, ℕ, zero, suc, ◌+◌, ◌*◌, ◌<◌, ◌≤◌, List, [], ◌∷◌, ◌++◌, length, Bool, true, false, cond, nat_lt, Option, Some, None, Ok, Err, refl, ap, arith}
use Rattle.std.specs.Prelude.{slice_get, slice_set}
use Rattle.std.proofs.lemmas.Bool.Decides.{nat_tests}
use Rattle.wasm_tree.specs.declared.trap.Trap.TheVariants as trap
use Rattle.wasm_tree.specs.declared.types.ValueType.TheVariants.{I32}
use Rattle.wasm_tree.specs.Numeric.{low}
use Rattle.core_ir.specs.Values.{Value}
use Rattle.core_ir.specs.Worlds.{World}
use Rattle.low_rules.specs.Rule.{is_inside}
use Rattle.low_rules.proofs.Steps.{le_test, low_is}
use Rattle.memory_routines.specs.Heaps.{IsHeap}
use Rattle.heap_layout.specs.Words.{word_at}
use Rattle.heap_layout.specs.Ghosts.{Ghost, Owner, Free, Fixed, CellOf, MarkOf, FutureOf, RecordOf, Inner}
use Rattle.heap_layout.specs.Heaps.{Plan, Holds}
use Rattle.heap_layout.specs.Laws.{IsRead, WordsAreRead}

-- ---- owners

abbrev pub kind_of : Owner → ℕ
kind_of Free = 0
kind_of Fixed = 1
kind_of (CellOf n) = 2
kind_of (MarkOf n) = 3
kind_of (FutureOf n) = 4
kind_of (RecordOf n) = 5
kind_of Inner = 6

pub differ : {A : Type 0} (a b : Owner) → (kind_of a ≡ kind_of b → ⊥) → a ≡ b → A
differ a b ne e = absurd (ne (ap kind_of e))

pub cell_number : (a b : ℕ) → CellOf a ≡ CellOf b → a ≡ b
cell_number a b e = ap number e
  where
    number : Owner → ℕ
    number (CellOf n) = n
    number o = 0

-- ---- lists by place

pub get_set_same : (xs : List Value) (n : ℕ) (v u : Value) → n < length xs → slice_get (slice_set xs n v) n ≡ Some u → v ≡ u
get_set_same [] n v u lt e = absurd (omega arith)
get_set_same (x ∷ xs) zero v u lt e = ap (or_this v) e
  where
    or_this : Value → Option Value → Value
    or_this d None = d
    or_this d (Some x) = x
get_set_same (x ∷ xs) (suc n) v u lt e = get_set_same xs n v u (omega arith) e

pub get_set_other : (xs : List Value) (n k : ℕ) (v : Value) → (k ≡ n → ⊥) → slice_get (slice_set xs n v) k ≡ slice_get xs k
get_set_other [] n k v ne = refl
get_set_other (x ∷ xs) zero zero v ne = absurd (ne refl)
get_set_other (x ∷ xs) zero (suc k) v ne = refl
get_set_other (x ∷ xs) (suc n) zero v ne = refl
get_set_other (x ∷ xs) (suc n) (suc k) v ne = get_set_other xs n k v (λ e. ne (ap suc e))

-- an element of a list with one more behind it
pub get_appended : {X : Type 0} (xs : List X) (x u : X) (k : ℕ) → slice_get (xs ++ x ∷ []) k ≡ Some u → (slice_get xs k ≡ Some u) ⊎ ((k ≡ length xs) × (x ≡ u))
get_appended {X} [] x u zero e = inr (refl, ap (or_this x) e)
  where
    or_this : X → Option X → X
    or_this d None = d
    or_this d (Some y) = y
get_appended [] x u (suc k) e = absurd (cc)
get_appended (y ∷ xs) x u zero e = inl e
get_appended {X} (y ∷ xs) x u (suc k) e = further (get_appended xs x u k e)
  where
    further : (slice_get xs k ≡ Some u) ⊎ ((k ≡ length xs) × (x ≡ u)) → (slice_get xs k ≡ Some u) ⊎ ((suc k ≡ suc (length xs)) × (x ≡ u))
    further (inl a) = inl a
    further (inr b) = inr (ap suc b.0, b.1)

-- ---- words that are read

-- A word with an owner lies below the heap's end.
pub owned_below : (plan : Plan) (g : Ghost) (world : World) (memory : List ℕ) (count top i : ℕ) → Holds plan g world memory count top → (g.own i ≡ Free → ⊥) → i < top
owned_below plan g world memory count top i h owned = by (nat_lt i top) refl
  where
    by : (t : Bool) → nat_lt i top ≡ t → i < top
    by true e = grind (arith, nat_tests, e)
    by false e = absurd (owned (h.free i (grind (arith, nat_tests, e))))

pub is_read : (memory : List ℕ) (count top i : ℕ) → IsHeap memory count (8 * top) → i < top → IsRead memory i
is_read memory count top i heap lt =
    let room : 8 * i + 8 ≤ length memory = let h = heap.inside in omega (arith, h, lt) in
    let address : low I32 (8 * i) ≡ 8 * i = low_is (8 * i) (let w = heap.whole in let f = heap.few in omega (arith, room, w, f)) in
    let inside : is_inside memory (8 * i) 8 ≡ true = le_test (8 * i + 8) (length memory) room in
    record { address = address; inside = inside; load = ap (λ t. cond t (Ok (word_at memory i)) (Err trap.Bounds)) inside }

pub words_read : WordsAreRead
words_read plan g world memory count top h i owned = let lt = owned_below plan g world memory count top i h owned in (lt, is_read memory count top i h.heap lt)
