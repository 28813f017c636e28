-- The routines over memory as functions of one module: the number of each, what it asks for and what it does.
use Rattle.std.specs.Prelude.{⊤, ◌≡◌, ◌<◌, ◌≤◌, ◌^◌, ◌+◌, ◌*◌, ◌-◌, ℕ, zero, suc, List, [], ◌∷◌, length, drop, get_or, cond, nat_lt, Some}
use Rattle.wasm_tree.specs.declared.types.ValueType.{ValueType}
use Rattle.wasm_tree.specs.declared.types.ValueType.TheVariants.{I32, I64}
use Rattle.wasm_tree.specs.declared.types.FunctionType.{FunctionType}
use Rattle.wasm_tree.specs.Exec.{Store, Host, pages_of}
use Rattle.low_ir.specs.Tree.{Function, Module}
use Rattle.low_ir.specs.Numbering.{host_count, type_of}
use Rattle.low_rules.specs.Rule.{CallEnd}
use Rattle.low_rules.specs.Lines.{Table, host_end}
use Rattle.memory_routines.specs.Heaps.{IsHeap, HoldsBytes}
use Rattle.memory_routines.specs.Allocation.{allocation, Allocates}
use Rattle.memory_routines.specs.Copying.{copying, Copies}
use Rattle.memory_routines.specs.Numerals.{numeral, WritesDigits}
use Rattle.memory_routines.specs.Order.{ordering, AreBoth, Orders}
use Rattle.memory_routines.specs.Texts.{comparison, AreTexts, Compares}
use Rattle.memory_routines.specs.Laws.{IsThere}

pub data Role : Type 0 where
  Allocating : Role
  Copying : Role
  Comparing : Role
  Ordering : Role
  Numbering : Role

-- In the order of their numbers.
abbrev pub roles : List Role
roles = Allocating ∷ Copying ∷ Comparing ∷ Ordering ∷ Numbering ∷ []

-- The number of its function. The routines come first behind the functions of the host.
abbrev pub place : Role → ℕ
place Allocating = 22
place Copying = 23
place Comparing = 24
place Ordering = 25
place Numbering = 26

-- How many calls, one in another, it takes.
abbrev pub level_of : Role → ℕ
level_of Allocating = 1
level_of Copying = 2
level_of Comparing = 1
level_of Ordering = 1
level_of Numbering = 1

abbrev pub params_of : Role → List ValueType
params_of Allocating = I32 ∷ []
params_of Copying = I32 ∷ I32 ∷ []
params_of Comparing = I32 ∷ I32 ∷ I32 ∷ []
params_of Ordering = I32 ∷ I32 ∷ I32 ∷ I32 ∷ []
params_of Numbering = I32 ∷ I64 ∷ []

abbrev pub function_of : ℕ → Role → Function
function_of signature Allocating = allocation signature
function_of signature Copying = copying signature (place Allocating)
function_of signature Comparing = comparison signature
function_of signature Ordering = ordering signature
function_of signature Numbering = numeral signature

-- The module has them all, each with its type, which is a word.
abbrev pub AreThere : Module → (Role → ℕ) → Type 0
AreThere m signature = (r : Role) → IsThere m (place r) (params_of r) (function_of (signature r) r)

-- The heap of a store: its end is the first global.
abbrev pub top_in : {World : Type 0} → Store World → ℕ
top_in store = get_or store.globals 0 0

abbrev pub others_in : {World : Type 0} → Store World → List ℕ
others_in store = drop 1 store.globals

pub record HasHeap {World : Type 0} (store : Store World) : Type 0 where
  pub global : store.globals ≡ top_in store ∷ others_in store
  pub is : IsHeap store.memory (pages_of store.memory) (top_in store)

-- What a routine asks of the store and its arguments.
abbrev pub Asked : {World : Type 0} → Role → Store World → List ℕ → Type 0
Asked Allocating store (size ∷ []) = HasHeap store × (size < 2 ^ 32)
Asked Copying store (from ∷ size ∷ []) = HasHeap store × HoldsBytes store.memory × (from + size ≤ top_in store)
Asked Comparing store (a ∷ b ∷ size ∷ []) = AreTexts store.memory a b size
Asked Ordering store (a ∷ size ∷ b ∷ other ∷ []) = AreBoth store.memory a size b other
Asked Numbering store (to ∷ n ∷ []) = (20 ≤ to) × (to ≤ length store.memory) × (length store.memory < 2 ^ 32) × (n < 2 ^ 64)
Asked role store args = ⊥

-- How it ends: with its result, with the memory and the heap that it leaves, or with a trap, and after how many steps.
abbrev pub Done : {World : Type 0} → (pages : ℕ) → Role → Store World → List ℕ → CallEnd World → Type 0
Done pages Allocating store (size ∷ []) end = Allocates pages store store.memory (pages_of store.memory) (top_in store) (others_in store) size end
Done pages Copying store (from ∷ size ∷ []) end = Copies pages store store.memory (pages_of store.memory) (top_in store) (others_in store) from size end
Done pages Comparing store (a ∷ b ∷ size ∷ []) end = Compares store a b size end
Done pages Ordering store (a ∷ size ∷ b ∷ other ∷ []) end = Orders store a size b other end
Done pages Numbering store (to ∷ n ∷ []) end = WritesDigits store to n end
Done pages role store args end = ⊤

-- What a number stands for.
pub data Spot : Type 0 where
  Hosts : Spot
  Runs : Role → Spot
  Elsewhere : Spot

abbrev pub spot_in : List Role → ℕ → Spot
spot_in [] k = Elsewhere
spot_in (r ∷ rs) zero = Runs r
spot_in (r ∷ rs) (suc k) = spot_in rs k

abbrev pub spot_of : ℕ → Spot
spot_of f = cond (nat_lt f host_count) Hosts (spot_in roles (f - host_count))

-- A function of the host that has a type may be called, and a routine at its level.
abbrev pub AskedAt : {World : Type 0} → Module → Spot → (level f : ℕ) → Store World → List ℕ → Type 0
AskedAt m Hosts level f store args = (1 ≤ level) × ((t : FunctionType) × (type_of m f ≡ Some t))
AskedAt m (Runs r) level f store args = (level_of r ≤ level) × Asked r store args
AskedAt m Elsewhere level f store args = ⊥

abbrev pub DoneAt : {World : Type 0} → (pages : ℕ) → Host World → Spot → (f : ℕ) → Store World → List ℕ → CallEnd World → Type 0
DoneAt pages host Hosts f store args end = end ≡ host_end store (host f args store.memory store.world)
DoneAt pages host (Runs r) f store args end = Done pages r store args end
DoneAt pages host Elsewhere f store args end = ⊤

-- The stack words of the largest frame of a routine.
abbrev pub frame_words : ℕ
frame_words = 19

-- The table of the routines and of the host's functions.
abbrev pub routine_table : {World : Type 0} → ℕ → Module → Host World → Table World
routine_table pages m host = record {
  Asks = λ level f store args. AskedAt m (spot_of f) level f store args;
  Does = λ level f store args end. DoneAt pages host (spot_of f) f store args end;
  words = λ level. frame_words * level;
}
