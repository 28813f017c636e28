-- The first heap, and what blocks cost.
use Rattle.std.proofs.Common.{◌≡◌, ℕ, ◌+◌, ◌*◌, ◌/◌, ◌≤◌, List, ◌++◌, length, take, drop, refl, sym, ap, ◌∙◌, arith, length-drop, length-take}
use Rattle.std.proofs.lemmas.List.{take-append-drop, drop-append-le, take-append-le}
use Rattle.mo_values.specs.Shapes.{Head, Leaf, Present, Tuple, Array, Object, Tag, Error, Cell, Future, Shapes, NoShape, AShape}
use Rattle.core_ir.specs.Values.{Handle}
use Rattle.heap_layout.specs.Blocks.{block_words, shape_count}
use Rattle.heap_layout.specs.Table.{bytes_for}
use Rattle.heap_layout.specs.Laws.{HeapsBegin, IsBlock, BlocksArePaid, TextsStand}

pub heaps_begin : HeapsBegin
heaps_begin plan own memory count top some heap bytes based texts fixed free = record {
  some = some;
  heap = heap;
  bytes = bytes;
  based = based;
  texts = texts;
  fixed = fixed;
  free = free;
  held = refl;
  made = refl;
  cell = λ n v e. absurd (cc e);
  group = λ k made e. absurd (cc e);
}

block_paid : (head : Head) (inside : Shapes Handle) → IsBlock head inside → 8 * block_words head (shape_count inside) ≤ bytes_for (2 + shape_count inside)
block_paid Present inside is = omega arith
block_paid Tuple NoShape is = absurd is
block_paid Tuple (AShape v vs) is = omega arith
block_paid Array inside is = omega arith
block_paid (Object ls) inside is = omega arith
block_paid (Tag l) inside is = omega arith
block_paid (Leaf part) inside is = absurd is
block_paid (Error code message) inside is = absurd is
block_paid (Cell n) inside is = absurd is
block_paid (Future n) inside is = absurd is

text_paid : (n : ℕ) → 8 * (1 + (n + 7) / 8) ≤ 40 * (1 + n)
text_paid n = omega arith

pub blocks_paid : BlocksArePaid
blocks_paid = (block_paid, λ t. text_paid (length t), omega arith, λ functions seen nodes le. omega (arith, le))

part_of_front : (memory : List ℕ) (n a count : ℕ) → a + count ≤ length (take n memory) → take count (drop a memory) ≡ take count (drop a (take n memory))
part_of_front memory n a count h =
    let front : List ℕ = take n memory in
    let whole : front ++ drop n memory ≡ memory = take-append-drop n memory in
    let rest = length-drop a front in
    ap (λ m. take count (drop a m)) (sym whole) ∙ ap (take count) (drop-append-le a front (drop n memory) (omega (arith, h))) ∙ take-append-le count (drop a front) (drop n memory) (omega (arith, h, rest))

pub texts_stand : TextsStand
texts_stand plan g world memory count top h address t at =
    let long : length (take (8 * plan.base) memory) ≡ length plan.texts = ap length h.texts in
    let inside : address + length t ≤ length (take (8 * plan.base) memory) = let i = at.inside in omega (arith, i, long) in
    let short = length-take (8 * plan.base) memory in
    record {
      inside = omega (arith, inside, short);
      bytes = part_of_front memory (8 * plan.base) address (length t) inside ∙ ap (λ m. take (length t) (drop address m)) h.texts ∙ at.bytes;
    }
