-- Shared functions and errors, whose blocks have words of texts in them.
use Rattle.std.proofs.Common.{◌≡◌, ℕ, zero, suc, ◌+◌, ◌*◌, ◌<◌, ◌≤◌, ◌^◌, List, [], ◌∷◌, length, get_or, refl, sym, ap, ◌∙◌, subst, arith}
use Rattle.mo_types.specs.declared.datum.Datum.TheVariants as part
use Rattle.mo_values.specs.declared.error_code.ErrorCode.{ErrorCode}
use Rattle.mo_values.specs.declared.error_code.ErrorCode.TheVariants as code
use Rattle.mo_values.specs.Shapes.{Bytes, Leaf, Made, NoShape}
use Rattle.core_ir.specs.Worlds.{World}
use Rattle.memory_routines.specs.Heaps.{heap_end}
use Rattle.memory_routines.specs.Laws.{IsHeapStill}
use Rattle.heap_layout.specs.Words.{word_at}
use Rattle.heap_layout.specs.Ghosts.{Ghost, Fixed, with_block}
use Rattle.heap_layout.specs.Blocks.{code_tag, code_detail}
use Rattle.heap_layout.specs.Fills.{with_words}
use Rattle.heap_layout.specs.Means.{MeansText, TextIn, Rep}
use Rattle.heap_layout.specs.Heaps.{Plan, Holds}
use Rattle.heap_layout.proofs.Fills.{Small, word_new}
use Rattle.heap_layout.proofs.Meanings.{rep_later}
use Rattle.leaf_blocks.specs.Laws.{MethodsAreMade, ErrorsAreMade}
use Rattle.leaf_blocks.proofs.Added.{words_added, own_new, later_added}
use Rattle.leaf_blocks.proofs.Leaves.{means_text}

module _ (plan : Plan) (g : Ghost) (world : World) (memory : List ℕ) (count top : ℕ) (h : Holds plan g world memory count top) (ws : List ℕ) (small : Small ws) (short : 8 * top + 8 * length ws ≤ heap_end) where
  abbrev g' : Ghost
  g' = with_block g top (length ws)

  abbrev m' : List ℕ
  m' = with_words memory count top ws

  still : IsHeapStill memory m' count (8 * top) (8 * length ws)
  still = words_added plan g world memory count top h ws short

  pub own_word : (k : ℕ) → k < length ws → g'.own (top + k) ≡ Fixed
  own_word = own_new plan g world memory count top h m' (length ws) still

  pub word_is : (k : ℕ) → k < length ws → word_at m' (top + k) ≡ get_or ws k 0
  word_is k lt = word_new memory count top ws h.heap short small k lt

  -- a word of a text
  pub text_in : (k : ℕ) (t : Bytes) → k < length ws → Rep g memory (get_or ws k 0) (Made (Leaf (part.Text t)) NoShape) → TextIn g' m' (top + k) t
  text_in k t lt r = record {
    fixed = own_word k lt;
    means = subst (λ w. MeansText g' m' w t) (sym (word_is k lt)) (rep_later g g' memory m' (later_added plan g world memory count top h m' (length ws) still) (get_or ws k 0) (Made (Leaf (part.Text t)) NoShape) r).means;
  }

two_small : (a n : ℕ) → a < 2 ^ 64 → n < 2 ^ 64 → Small (a ∷ n ∷ [])
two_small a n p q zero = p
two_small a n p q (suc zero) = q
two_small a n p q (suc (suc k)) = omega arith

three_small : (a b n : ℕ) → a < 2 ^ 64 → b < 2 ^ 64 → n < 2 ^ 64 → Small (a ∷ b ∷ n ∷ [])
three_small a b n p q r zero = p
three_small a b n p q r (suc zero) = q
three_small a b n p q r (suc (suc zero)) = r
three_small a b n p q r (suc (suc (suc k))) = omega arith

same_place : (top : ℕ) → top + 0 ≡ top
same_place top = omega arith

pub methods_made : MethodsAreMade
methods_made plan g world memory count top h a n principal name actor text short =
    let small : Small (a ∷ n ∷ []) = two_small a n actor.small text.small in
    let room : 8 * top + 8 * length (a ∷ n ∷ []) ≤ heap_end = omega (arith, short) in
    let as_text : Rep g memory a (Made (Leaf (part.Text principal)) NoShape) = record { small = actor.small; means = actor.means } in
    record {
      small = omega (arith, short);
      means = (
        top,
        refl,
        h.some,
        subst (λ i. TextIn (with_block g top 2) (with_words memory count top (a ∷ n ∷ [])) i principal) (same_place top) (text_in plan g world memory count top h (a ∷ n ∷ []) small room 0 principal (omega arith) as_text),
        text_in plan g world memory count top h (a ∷ n ∷ []) small room 1 name (omega arith) text,
      );
    }

tag_small : (c : ErrorCode) → code_tag c < 2 ^ 64
tag_small (code.Future n) = omega arith
tag_small code.SystemFatal = omega arith
tag_small code.SystemTransient = omega arith
tag_small code.DestinationInvalid = omega arith
tag_small code.CanisterReject = omega arith
tag_small code.CanisterError = omega arith
tag_small (code.CallError n) = omega arith

pub errors_made : ErrorsAreMade
errors_made plan g world memory count top h c detail n message text short =
    let small : Small (code_tag c ∷ code_detail c ∷ n ∷ []) = three_small (code_tag c) (code_detail c) n (tag_small c) detail text.small in
    let room : 8 * top + 8 * length (code_tag c ∷ code_detail c ∷ n ∷ []) ≤ heap_end = omega (arith, short) in
    record {
      small = omega (arith, short);
      means = (
        top,
        refl,
        h.some,
        (
          own_word plan g world memory count top h (code_tag c ∷ code_detail c ∷ n ∷ []) small room 0 (omega arith),
          word_is plan g world memory count top h (code_tag c ∷ code_detail c ∷ n ∷ []) small room 0 (omega arith),
          (
            own_word plan g world memory count top h (code_tag c ∷ code_detail c ∷ n ∷ []) small room 1 (omega arith),
            word_is plan g world memory count top h (code_tag c ∷ code_detail c ∷ n ∷ []) small room 1 (omega arith),
            tt,
          ),
        ),
        text_in plan g world memory count top h (code_tag c ∷ code_detail c ∷ n ∷ []) small room 2 message (omega arith) text,
      );
    }
