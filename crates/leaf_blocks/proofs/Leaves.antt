-- What is in bytes.
use Rattle.std.proofs.Common.{◌≡◌, ℕ, ◌+◌, ◌*◌, ◌/◌, ◌<◌, ◌≤◌, ◌^◌, List, length, take, refl, sym, ap, ◌∙◌, subst, arith, length-take}
use Rattle.mo_types.specs.declared.datum.Datum.{Datum}
use Rattle.mo_types.specs.declared.datum.Datum.TheVariants as part
use Rattle.mo_values.specs.Shapes.{Bytes}
use Rattle.memory_routines.specs.Heaps.{HoldsBytes}
use Rattle.heap_layout.specs.Words.{word_at}
use Rattle.heap_layout.specs.Ghosts.{Ghost, Free, Fixed, with_block}
use Rattle.heap_layout.specs.Blocks.{text_words}
use Rattle.heap_layout.specs.Means.{TextAt, MeansText, MeansLeaf}
use Rattle.heap_layout.specs.Table.{StandsAt}
use Rattle.heap_layout.proofs.Begins.{texts_stand}
use Rattle.heap_layout.proofs.Owners.{differ, owned_below}
use Rattle.leaf_blocks.specs.Laws.{IsOfBytes, IsWritten, BytesAreMade, BytesAreReady, BytesAreThere}
use Rattle.leaf_blocks.proofs.Fronts.{word_front}
use Rattle.leaf_blocks.proofs.Bytes.{bytes_of_words, words_of_bytes}
use Rattle.leaf_blocks.proofs.Added.{own_new}

means_leaf : (g : Ghost) (m : List ℕ) (w : ℕ) (p : Datum) (t : Bytes) → IsOfBytes p t → MeansText g m w t → MeansLeaf g m w p
means_leaf g m w (part.Text u) t e r = subst (MeansText g m w) (sym e) r
means_leaf g m w (part.Blob u) t e r = subst (MeansText g m w) (sym e) r
means_leaf g m w (part.Principal u) t e r = subst (MeansText g m w) (sym e) r
means_leaf g m w (part.Actor u) t e r = subst (MeansText g m w) (sym e) r
means_leaf g m w _ t e r = absurd e

pub means_text : (g : Ghost) (m : List ℕ) (w : ℕ) (p : Datum) (t : Bytes) → IsOfBytes p t → MeansLeaf g m w p → MeansText g m w t
means_text g m w (part.Text u) t e r = subst (MeansText g m w) e r
means_text g m w (part.Blob u) t e r = subst (MeansText g m w) e r
means_text g m w (part.Principal u) t e r = subst (MeansText g m w) e r
means_text g m w (part.Actor u) t e r = subst (MeansText g m w) e r
means_text g m w _ t e r = absurd e

next_address : (i : ℕ) → 8 * i + 8 ≡ 8 * (i + 1)
next_address i = omega arith

-- from the bytes behind the size
text_at : (g : Ghost) (m : List ℕ) (i : ℕ) (t : Bytes) → HoldsBytes m → 8 * (i + 1) + 8 * ((length t + 7) / 8) ≤ length m → ((j : ℕ) → j < 1 + (length t + 7) / 8 → g.own (i + j) ≡ Fixed) → IsWritten m i t → TextAt g m i t
text_at g m i t h le fixed is = record { fixed = fixed; size = is.size; bytes = bytes_of_words m (i + 1) t h le (subst (λ a. StandsAt m a t) (next_address i) is.stands) }

pub bytes_made : BytesAreMade
bytes_made plan g world memory count top h after t s is p e =
    let room : 8 * (top + 1) + 8 * ((length t + 7) / 8) ≤ length after = let i = s.is.inside in omega (arith, i) in
    let fixed : (j : ℕ) → j < 1 + (length t + 7) / 8 → (with_block g top (text_words t)).own (top + j) ≡ Fixed = own_new plan g world memory count top h after (text_words t) s in
    record {
      small = let w = s.is.whole in let f = s.is.few in omega (arith, w, f, room);
      means = means_leaf (with_block g top (text_words t)) after (8 * top) p t e (top, refl, h.some, text_at (with_block g top (text_words t)) after top t (s.bytes h.bytes) room fixed is);
    }

pub bytes_ready : BytesAreReady
bytes_ready plan g world memory count top h i t some le is p e =
    let below : i + (1 + (length t + 7) / 8) ≤ top = let b = h.based in omega (arith, b, le) in
    let room : 8 * (i + 1) + 8 * ((length t + 7) / 8) ≤ length memory = let k = h.heap.inside in omega (arith, k, below) in
    let front : 8 * i + 8 ≤ length (take (8 * plan.base) memory) = let k = h.heap.inside in let b = h.based in let l = length-take (8 * plan.base) memory in omega (arith, k, b, l, le) in
    let written : IsWritten memory i t = record { size = word_front memory (8 * plan.base) i front ∙ ap (λ m. word_at m i) h.texts ∙ is.size; stands = texts_stand plan g world memory count top h (8 * i + 8) t is.stands } in
    record {
      small = let w = h.heap.whole in let f = h.heap.few in omega (arith, w, f, room);
      means = means_leaf g memory (8 * i) p t e (i, refl, some, text_at g memory i t h.bytes room (λ j lt. h.fixed (i + j) (omega (arith, le, lt))) written);
    }

pub bytes_there : BytesAreThere
bytes_there plan g world memory count top h w p t e r =
    let text : MeansText g memory w t = means_text g memory w p t e r.means in
    let i : ℕ = text.0 in
    let at : TextAt g memory i t = text.3 in
    let last : i + (length t + 7) / 8 < top = owned_below plan g world memory count top (i + (length t + 7) / 8) h (λ f. differ Fixed Free (λ k. omega (arith, k)) (sym (at.fixed ((length t + 7) / 8) (omega arith)) ∙ f)) in
    let room : 8 * (i + 1) + 8 * ((length t + 7) / 8) ≤ length memory = let k = h.heap.inside in omega (arith, k, last) in
    record {
      word = i;
      is = text.1;
      below = omega (arith, last);
      written = record { size = at.size; stands = subst (λ a. StandsAt memory a t) (sym (next_address i)) (words_of_bytes memory (i + 1) t h.bytes room at.bytes) };
    }
