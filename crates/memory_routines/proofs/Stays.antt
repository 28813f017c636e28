-- Heaps that stay heaps.
use Rattle.std.proofs.Common.{◌≡◌, ℕ, ◌+◌, ◌-◌, ◌*◌, ◌≤◌, max, List, ◌++◌, length, take, drop, replicate, sym, ap, ◌∙◌, subst, arith, length-append, length-drop, append_assoc}
use Rattle.std.proofs.lemmas.List.{take_at, drop_at, length-take-le, take-append-le, drop-append-le}
use Rattle.memory_routines.specs.Heaps.{pages_for, heap_end, enlarged, IsHeap}
use Rattle.memory_routines.specs.Copying.{placed}
use Rattle.memory_routines.specs.Laws.{IsHeapStill, HeapsStayHeaps}
use Rattle.memory_routines.proofs.Placing.{grown_bytes, placed_bytes}
use Rattle.memory_routines.proofs.Copied.{grown_length, enough}

pages_are : (count top size : ℕ) → 65536 * count + 65536 * (pages_for (top + size) - count) ≡ 65536 * max count (pages_for (top + size))
pages_are count top size = omega arith

pages_fit : (count top size : ℕ) → count ≤ 65535 → top + size ≤ heap_end → max count (pages_for (top + size)) ≤ 65535
pages_fit count top size few short = omega (arith, few, short)

placed_length : (memory : List ℕ) (from to size : ℕ) → from + size ≤ to → to + size ≤ length memory → length (placed memory from to size) ≡ length memory
placed_length memory from to size under inside =
    let front : length (take to memory) ≡ to = length-take-le to memory (omega (arith, inside)) in
    let there = length-drop from memory in
    let middle : length (take size (drop from memory)) ≡ size = length-take-le size (drop from memory) (omega (arith, there, under, inside)) in
    let last = length-drop (to + size) memory in
    length-append (take to memory ++ take size (drop from memory)) (drop (to + size) memory) ∙ omega (arith, length-append (take to memory) (take size (drop from memory)), front, middle, last, inside)

module _ (memory : List ℕ) (count top size : ℕ) (is : IsHeap memory count top) (short : top + size ≤ heap_end) where
  abbrev grown : List ℕ
  grown = enlarged memory count (top + size)

  abbrev more : List ℕ
  more = replicate (65536 * (pages_for (top + size) - count)) 0

  whole : length grown ≡ 65536 * max count (pages_for (top + size))
  whole = grown_length memory count top size is.whole ∙ pages_are count top size

  room : top + size ≤ length grown
  room = subst (λ k. top + size ≤ k) (sym (grown_length memory count top size is.whole)) (enough count top size)

  old : take top grown ≡ take top memory
  old = take-append-le top memory more is.inside

  still : IsHeapStill memory grown count top size
  still = record { is = record { whole = whole; few = pages_fit count top size is.few short; inside = room }; bytes = grown_bytes memory (65536 * (pages_for (top + size) - count)); old = old }

  module _ (from : ℕ) (under : from + size ≤ top) where
    front : length (take top grown) ≡ top
    front = length-take-le top grown (omega (arith, room))

    same : take size (drop from grown) ≡ take size (drop from memory)
    same =
        let there = length-drop from memory in
        ap (take size) (drop-append-le from memory more (omega (arith, under, is.inside))) ∙ take-append-le size (drop from memory) more (omega (arith, there, under, is.inside))

    parts : placed grown from top size ≡ take top grown ++ (take size (drop from grown) ++ drop (top + size) grown)
    parts = append_assoc (take top grown) (take size (drop from grown)) (drop (top + size) grown)

    long : length (placed grown from top size) ≡ length grown
    long = placed_length grown from top size under room

    after : IsHeapStill memory (placed grown from top size) count top size
    after =
        record {
          is = record { whole = long ∙ whole; few = pages_fit count top size is.few short; inside = subst (λ k. top + size ≤ k) (sym long) room };
          bytes = λ h. placed_bytes grown from top size (grown_bytes memory (65536 * (pages_for (top + size) - count)) h);
          old = ap (take top) parts ∙ take_at (take top grown) (take size (drop from grown) ++ drop (top + size) grown) top front ∙ old;
        }

    new : take size (drop top (placed grown from top size)) ≡ take size (drop from memory)
    new =
        let there = length-drop from grown in
        let middle : length (take size (drop from grown)) ≡ size = length-take-le size (drop from grown) (omega (arith, there, under, room)) in
        ap (take size) (ap (drop top) parts ∙ drop_at (take top grown) (take size (drop from grown) ++ drop (top + size) grown) top front) ∙ take_at (take size (drop from grown)) (drop (top + size) grown) size middle ∙ same

pub heaps_stay : HeapsStayHeaps
heaps_stay memory count top size is short = (still memory count top size is short, λ from under. (after memory count top size is short from under, new memory count top size is short from under))
