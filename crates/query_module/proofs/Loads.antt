-- The memory that the module begins with: the replies, and zeros behind them.
use Rattle.std.proofs.Common.{◌≡◌, ℕ, ◌+◌, ◌≤◌, List, [], ◌∷◌, ◌++◌, length, take, drop, nat_le, slice_get, true, Some, None, refl, ap, sym, ◌∙◌, arith, append_assoc, length-append}
use Rattle.std.proofs.lemmas.Bool.Decides.{nat_tests}
use Rattle.std.proofs.lemmas.List.{length-replicate, drop_at, take_at}
use Rattle.std.specs.List.{concat}
use Rattle.wasm_tree.specs.declared.module_parts.Function.{Function}
use Rattle.wasm_tree.specs.declared.module_parts.Export.{Export}
use Rattle.wasm_tree.specs.Exec.{ExecutionLimits}
use Rattle.wasm_tree.specs.Load.{blank, Instance, Loaded, load}
use Rattle.actor_refinement.specs.Limits.{IsWithin}
use Rattle.query_module.specs.Tree.{query_function, functions_from, tree_of_parts}

abbrev zeros : List ℕ
zeros = blank 65536 0

length-zeros : length zeros ≡ 65536
unfolding blank
length-zeros = length-replicate {A = ℕ} 65536 0

le_test : (a b : ℕ) → a ≤ b → nat_le a b ≡ true
le_test a b h = grind (arith, nat_tests)

abbrev pub first_memory : List ℕ → List ℕ
first_memory bytes = bytes ++ drop (0 + length bytes) zeros

abbrev pub first_instance : List ℕ → Instance
first_instance bytes = record { memory = first_memory bytes; globals = []; table = blank 0 None }

pub loads : (functions : List Function) (exports : List Export) (bytes : List ℕ) (limits : ExecutionLimits) → IsWithin limits → length bytes ≤ 65536
    → load limits (tree_of_parts functions exports bytes) ≡ Loaded (first_instance bytes)
loads functions exports bytes limits within short =
    let pages : nat_le 1 limits.pages ≡ true = le_test 1 limits.pages within.least_pages in
    let fits : nat_le (0 + length bytes) (length zeros) ≡ true = le_test (0 + length bytes) (length zeros) (omega (arith, length-zeros)) in
    rw (pages, fits) refl

-- The replies before, this one, and those after it.
concat_split : (before : List (List ℕ)) (reply : List ℕ) (after : List (List ℕ)) → concat (before ++ reply ∷ after) ≡ concat before ++ (reply ++ concat after)
concat_split [] reply after = refl
concat_split (b ∷ bs) reply after = ap (λ x. b ++ x) (concat_split bs reply after) ∙ sym (append_assoc b (concat bs) (reply ++ concat after))

-- The reply's function names its part of the memory.
pub function_at : (before : List (List ℕ)) (reply : List ℕ) (after : List (List ℕ)) (offset : ℕ) → slice_get (functions_from offset (before ++ reply ∷ after)) (length before) ≡ Some (query_function (offset + length (concat before)) (length reply))
function_at [] reply after offset = let same : offset ≡ offset + 0 = omega arith in ap (λ n. Some (query_function n (length reply))) same
function_at (b ∷ bs) reply after offset =
    let same : (offset + length b) + length (concat bs) ≡ offset + length (b ++ concat bs) = omega (arith, length-append b (concat bs)) in
    function_at bs reply after (offset + length b) ∙ ap (λ n. Some (query_function n (length reply))) same

pub part_inside : (before : List (List ℕ)) (reply : List ℕ) (after : List (List ℕ)) → (0 + length (concat before)) + length reply ≤ length (first_memory (concat (before ++ reply ∷ after)))
part_inside before reply after =
    let bytes = concat (before ++ reply ∷ after) in
    let whole : length bytes ≡ length (concat before) + length (reply ++ concat after) = ap length (concat_split before reply after) ∙ length-append (concat before) (reply ++ concat after) in
    omega (arith, length-append reply (concat after), length-append bytes (drop (0 + length bytes) zeros))

pub part_short : (before : List (List ℕ)) (reply : List ℕ) (after : List (List ℕ)) → length reply ≤ length (concat (before ++ reply ∷ after))
part_short before reply after =
    let whole : length (concat (before ++ reply ∷ after)) ≡ length (concat before) + length (reply ++ concat after) = ap length (concat_split before reply after) ∙ length-append (concat before) (reply ++ concat after) in
    omega (arith, length-append reply (concat after))

pub front_short : (before : List (List ℕ)) (reply : List ℕ) (after : List (List ℕ)) → length (concat before) ≤ length (concat (before ++ reply ∷ after))
front_short before reply after =
    let whole : length (concat (before ++ reply ∷ after)) ≡ length (concat before) + length (reply ++ concat after) = ap length (concat_split before reply after) ∙ length-append (concat before) (reply ++ concat after) in
    omega arith

part_is_of : (front reply back rest : List ℕ) → take (length reply) (drop (0 + length front) ((front ++ (reply ++ back)) ++ rest)) ≡ reply
part_is_of front reply back rest =
    let at : length front ≡ 0 + length front = omega arith in
    ap (λ x. take (length reply) (drop (0 + length front) x)) (append_assoc front (reply ++ back) rest)
    ∙ ap (λ x. take (length reply) x) (drop_at front ((reply ++ back) ++ rest) (0 + length front) at)
    ∙ ap (λ x. take (length reply) x) (append_assoc reply back rest)
    ∙ take_at reply (back ++ rest) (length reply) refl

-- That part is the reply.
pub part_is : (before : List (List ℕ)) (reply : List ℕ) (after : List (List ℕ)) → take (length reply) (drop (0 + length (concat before)) (first_memory (concat (before ++ reply ∷ after)))) ≡ reply
part_is before reply after =
    let bytes = concat (before ++ reply ∷ after) in
    let rest = drop (0 + length bytes) zeros in
    ap (λ x. take (length reply) (drop (0 + length (concat before)) (x ++ rest))) (concat_split before reply after)
    ∙ part_is_of (concat before) reply (concat after) rest
