-- Calls of the routines.
use Rattle.std.proofs.Common.{zero, suc, ◌-◌, ◌^◌, ◌<◌, [], ◌∷◌, refl, arith}
use Rattle.wasm_tree.specs.declared.types.ValueType.TheVariants.{I32, I64}
use Rattle.low_ir.specs.Meaning.{Calls}
use Rattle.low_ir.specs.Frames.{enter}
use Rattle.low_rules.specs.Rule.{Contracts, ComesTo}
use Rattle.low_rules.proofs.Entering.{routine, weaker}
use Rattle.memory_routines.specs.Heaps.{heap}
use Rattle.memory_routines.specs.Allocation.{allocation, Allocates}
use Rattle.memory_routines.specs.Copying.{copying, Copies}
use Rattle.memory_routines.specs.Numerals.{numeral, WritesDigits}
use Rattle.memory_routines.specs.Order.{ordering, Orders}
use Rattle.memory_routines.specs.Texts.{comparison, Compares}
use Rattle.memory_routines.specs.Laws.{word_of, AllocationKeepsItsLine, CopyingKeepsItsLine, ComparisonKeepsItsLine, OrderingKeepsItsLine, NumeralKeepsItsLine}
use Rattle.memory_routines.proofs.Allocating.{allocates}
use Rattle.memory_routines.proofs.Copied.{copies}
use Rattle.memory_routines.proofs.Comparing.{compares}
use Rattle.memory_routines.proofs.Ordered.{orders}
use Rattle.memory_routines.proofs.Digits.{writes}

-- A routine that calls none.
abbrev no_calls : {World : Type 0} → Contracts World
no_calls f store args q = ⊥

pub allocation_kept : (World : Type 0) → AllocationKeepsItsLine World
allocation_kept World pages m host f signature is zero room deep fits s memory count top others heaped size word = absurd (omega arith)
allocation_kept World pages m host f signature is (suc deep) room less fits s memory count top others heaped size word =
    routine pages m host deep room f (word_of (I32 ∷ [])) (allocation signature) no_calls (heap s memory top others) (size ∷ []) (Allocates pages s memory count top others size) is.typed is.there fits (λ f store args q d. absurd d)
    (allocates pages m no_calls s memory count top size others heaped (word_of (I32 ∷ [])) signature (Allocates pages s memory count top others size) refl word (λ end h. h))

pub copying_kept : (World : Type 0) → CopyingKeepsItsLine World
copying_kept World pages m host f g signature other allocates_there is zero room less fits s memory count top others heaped bytes from size under = absurd (omega arith)
copying_kept World pages m host f g signature other allocates_there is (suc deep) room less fits s memory count top others heaped bytes from size under =
    let inner : Calls World = enter deep pages m host (room - 17) in
    let does : Contracts World = λ f store args q. ComesTo inner f store args q in
    let word : size < 2 ^ 32 = omega (arith, under, heaped.inside, heaped.whole, heaped.few) in
    let called = allocation_kept World pages m host f signature allocates_there deep (room - 17) (omega (arith, less)) (omega (arith, fits)) s memory count top others heaped size word in
    routine pages m host deep room g (word_of (I32 ∷ I32 ∷ [])) (copying other f) does (heap s memory top others) (from ∷ size ∷ []) (Copies pages s memory count top others from size) is.typed is.there (omega (arith, fits)) (λ f store args q c. c)
    (copies pages m does s others memory count top heaped bytes (word_of (I32 ∷ I32 ∷ [])) refl other f from size under (Copies pages s memory count top others from size) (λ end h. h)
    (λ r then. weaker inner f (heap s memory top others) (size ∷ []) (Allocates pages s memory count top others size) r then called))

pub comparison_kept : (World : Type 0) → ComparisonKeepsItsLine World
comparison_kept World pages m host f signature is zero room less fits store a b size texts = absurd (omega arith)
comparison_kept World pages m host f signature is (suc deep) room less fits store a b size texts =
    routine pages m host deep room f (word_of (I32 ∷ I32 ∷ I32 ∷ [])) (comparison signature) no_calls store (a ∷ b ∷ size ∷ []) (Compares store a b size) is.typed is.there fits (λ f store args q d. absurd d)
    (compares pages m no_calls store (word_of (I32 ∷ I32 ∷ I32 ∷ [])) signature a b size (Compares store a b size) refl texts (λ cost le. (cost, le, refl)))

pub ordering_kept : (World : Type 0) → OrderingKeepsItsLine World
ordering_kept World pages m host f signature is zero room less fits store a size b other texts = absurd (omega arith)
ordering_kept World pages m host f signature is (suc deep) room less fits store a size b other texts =
    routine pages m host deep room f (word_of (I32 ∷ I32 ∷ I32 ∷ I32 ∷ [])) (ordering signature) no_calls store (a ∷ size ∷ b ∷ other ∷ []) (Orders store a size b other) is.typed is.there fits (λ f store args q d. absurd d)
    (orders pages m no_calls store (word_of (I32 ∷ I32 ∷ I32 ∷ I32 ∷ [])) signature a size b other (Orders store a size b other) refl texts (λ cost le. (cost, le, refl)))

pub numeral_kept : (World : Type 0) → NumeralKeepsItsLine World
numeral_kept World pages m host f signature is zero room less fits store to n far inside small long = absurd (omega arith)
numeral_kept World pages m host f signature is (suc deep) room less fits store to n far inside small long =
    routine pages m host deep room f (word_of (I32 ∷ I64 ∷ [])) (numeral signature) no_calls store (to ∷ n ∷ []) (WritesDigits store to n) is.typed is.there fits (λ f store args q d. absurd d)
    (writes pages m no_calls store to inside small (word_of (I32 ∷ I64 ∷ [])) signature n (WritesDigits store to n) refl long far (λ from cost le e. (from, cost, le, e, refl)))
