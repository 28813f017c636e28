-- What the host's functions do in a query that has not been answered.
use Rattle.std.proofs.Common.{◌≡◌, ◌+◌, ◌<◌, ◌≤◌, ◌^◌, ℕ, List, [], ◌∷◌, ◌++◌, length, take, drop, Some, None, false, ◌&&◌, cond, refl, ◌∙◌, arith, ap}
use Rattle.std.proofs.Math.Nat.{mod-eq_of_lt}
use Rattle.wasm_tree.specs.Exec.{Answers, Refuses}
use Rattle.ic0_world.specs.Names.{functions}
use Rattle.ic0_world.specs.declared.world.World.{World}
use Rattle.ic0_world.specs.declared.world.Answer.TheVariants.{Replied}
use Rattle.ic0_world.specs.declared.kind.ExecutionKind.TheVariants.{Query}
use Rattle.ic0_world.specs.Act.{Gives, misuse, copies, put, with_range, append_reply, trapped_with, longest_message}
use Rattle.canister_host.specs.Entries.{answer_of}
use Rattle.low_execution.specs.Host.{low_host}
use Rattle.low_rules.proofs.Steps.{le_test}

-- The world of the query.
abbrev pub fresh : World → World
fresh w = record w { kind = Query; answered = false; answer = None; reply_data = [] }

-- With so much reply data.
abbrev pub saying : List ℕ → World → World
saying text w = record w { kind = Query; answered = false; answer = None; reply_data = text }

abbrev pub answered : List ℕ → World → World
answered text w = record w { kind = Query; answered = false; answer = Some (Replied text); reply_data = text }

-- After a trap with a text.
abbrev pub trapped : List ℕ → World → World
trapped text w = record w { kind = Query; answered = false; answer = None; reply_data = []; trap_text = text }

pub host_sizes : (w : World) (memory : List ℕ) → length w.argument < 2 ^ 32 → low_host 0 [] memory (fresh w) ≡ Answers (Some (length w.argument)) memory (fresh w)
unfolding functions
host_sizes w memory small = ap (λ n. Answers (Some n) memory (fresh w)) (mod-eq_of_lt small)

pub host_copies : (w : World) (memory : List ℕ) (to size : ℕ) → to + size ≤ length memory → length memory < 2 ^ 32 → size ≤ length w.argument
    → low_host 1 (to ∷ 0 ∷ size ∷ []) memory (fresh w) ≡ Answers None ((take to memory ++ take size w.argument) ++ drop (to + length (take size w.argument)) memory) (fresh w)
unfolding functions
host_copies w memory to size inside small enough =
    let first : to < 2 ^ 32 = omega (arith, inside, small) in
    let last : size < 2 ^ 32 = omega (arith, inside, small) in
    let there : 0 + size ≤ length w.argument = omega (arith, enough) in
    (λ i. answer_of (copies (mod-eq_of_lt first i) 0 (mod-eq_of_lt last i) w.argument memory (fresh w)))
    ∙ (λ i. answer_of (cond (le_test (to + size) (length memory) inside i && le_test (0 + size) (length w.argument) there i) (Gives None (put to (take size w.argument) memory) (fresh w)) (misuse (fresh w))))

pub host_appends : (w : World) (memory : List ℕ) (from size : ℕ) → from + size ≤ length memory → length memory < 2 ^ 32 → length (take size (drop from memory)) ≤ longest_message
    → low_host 4 (from ∷ size ∷ []) memory (fresh w) ≡ Answers None memory (saying (take size (drop from memory)) w)
unfolding functions
host_appends w memory from size inside small short =
    let first : from < 2 ^ 32 = omega (arith, inside, small) in
    let last : size < 2 ^ 32 = omega (arith, inside, small) in
    let fits : 0 + length (take size (drop from memory)) ≤ longest_message = omega (arith, short) in
    (λ i. answer_of (with_range (mod-eq_of_lt first i) (mod-eq_of_lt last i) memory (fresh w) (λ more. append_reply more memory (fresh w))))
    ∙ (λ i. answer_of (cond (le_test (from + size) (length memory) inside i) (append_reply (take size (drop from memory)) memory (fresh w)) (misuse (fresh w))))
    ∙ (λ i. answer_of (cond (le_test (0 + length (take size (drop from memory))) longest_message fits i) (Gives None memory (saying (take size (drop from memory)) w)) (misuse (fresh w))))

pub host_traps : (w : World) (memory : List ℕ) (size : ℕ) → size < 2 ^ 32 → size ≤ length memory → low_host 21 (0 ∷ size ∷ []) memory (fresh w) ≡ Refuses (trapped (take size memory) w)
unfolding functions
host_traps w memory size small inside =
    let there : 0 + size ≤ length memory = omega (arith, inside) in
    (λ i. answer_of (with_range 0 (mod-eq_of_lt small i) memory (fresh w) (λ text. trapped_with text (fresh w))))
    ∙ (λ i. answer_of (cond (le_test (0 + size) (length memory) there i) (trapped_with (take size memory) (fresh w)) (misuse (fresh w))))

pub host_replies : (w : World) (memory text : List ℕ) → low_host 6 [] memory (saying text w) ≡ Answers None memory (answered text w)
unfolding functions
host_replies w memory text = refl
