-- The execution of a function of the module, from its first instruction to its end.
use Rattle.std.proofs.Common.{◌≡◌, ℕ, ◌+◌, ◌-◌, ◌%◌, ◌^◌, ◌<◌, ◌≤◌, List, [], ◌∷◌, length, take, drop, map, true, false, nat_le, nat_lt, slice_get, Some, None, refl, ap, sym, ◌∙◌, subst, arith, zero, suc, min}
use Rattle.std.proofs.lemmas.Bool.Decides.{nat_tests}
use Rattle.std.proofs.lemmas.List.{length-take}
use Rattle.std.proofs.Math.Nat.{mod-eq_of_lt}
use Rattle.wasm_tree.specs.declared.module_parts.Function.{Function}
use Rattle.wasm_tree.specs.declared.module_parts.Export.{Export}
use Rattle.wasm_tree.specs.Imports.{entry_type}
use Rattle.wasm_tree.specs.Exec.{ExecutionLimits, Host, Answers, Called, Back, type_of}
use Rattle.wasm_tree.specs.Frames.{defined, enter_as, enter}
use Rattle.wasm_tree.specs.Load.{Instance}
use Rattle.ic0_world.specs.declared.function.Ic0.TheVariants.{MsgReplyDataAppend, MsgReply}
use Rattle.ic0_world.specs.declared.kind.ExecutionKind.{ExecutionKind}
use Rattle.ic0_world.specs.declared.world.Answer.TheVariants.{Replied}
use Rattle.ic0_world.specs.declared.world.World.{World}
use Rattle.ic0_world.specs.Allowed.{answers}
use Rattle.ic0_world.specs.Names.{function_of, functions}
use Rattle.ic0_world.specs.Act.{Gives, range, is_answered, call}
use Rattle.canister_host.specs.Entries.{imported_function, answer_of, call_of, host}
use Rattle.canister_host.specs.Execution.{Finishes, store_of, execution}
use Rattle.canister_host.specs.HostRun.{entry_of}
use Rattle.actor_refinement.specs.Limits.{IsWithin}
use Rattle.query_module.specs.Tree.{query_function, tree_of_parts}

le_test : (a b : ℕ) → a ≤ b → nat_le a b ≡ true
le_test a b h = grind (arith, nat_tests)

not_below : (a b : ℕ) → b ≤ a → nat_lt a b ≡ false
not_below a b h = grind (arith, nat_tests)

-- The two functions of the host.

append_imported : (own : List Function) (exports : List Export) (bytes : List ℕ) → imported_function (tree_of_parts own exports bytes) 0 ≡ Some MsgReplyDataAppend
unfolding function_of functions
append_imported own exports bytes = refl

reply_imported : (own : List Function) (exports : List Export) (bytes : List ℕ) → imported_function (tree_of_parts own exports bytes) 1 ≡ Some MsgReply
unfolding function_of functions
reply_imported own exports bytes = refl

-- An execution that may answer its call, and has not begun to.
pub record MayAnswer (w : World) : Type 0 where
  pub allowed : answers w.kind ≡ true
  pub unanswered : is_answered w ≡ false
  pub no_data : w.reply_data ≡ []

-- A part of the memory that a reply has room for.
pub record IsPart (memory : List ℕ) (offset size : ℕ) : Type 0 where
  pub inside : offset + size ≤ length memory
  pub low : offset < 2 ^ 32
  pub short : size ≤ 2097152

abbrev pub with_data : World → List ℕ → World
with_data w reply = record w { reply_data = reply }

abbrev pub replied : World → List ℕ → World
replied w reply = record w { reply_data = reply; answer = Some (Replied reply) }

append_gives : (w : World) (memory : List ℕ) (offset size : ℕ) → MayAnswer w → IsPart memory offset size
    → call MsgReplyDataAppend (offset ∷ size ∷ []) memory w ≡ Gives None memory (with_data w (range offset size memory))
append_gives w memory offset size may part =
    let low : offset % 2 ^ 32 ≡ offset = mod-eq_of_lt part.low in
    let short : size % 2 ^ 32 ≡ size = mod-eq_of_lt (omega (arith, part.short)) in
    let inside : nat_le (offset + size) (length memory) ≡ true = le_test (offset + size) (length memory) part.inside in
    let most : length (take size (drop offset memory)) ≡ min size (length (drop offset memory)) = length-take size (drop offset memory) in
    let room : nat_le (0 + length (take size (drop offset memory))) 2097152 ≡ true = le_test (0 + length (take size (drop offset memory))) 2097152 (omega (arith, part.short)) in
    rw (may.allowed, low, short, inside, may.unanswered, may.no_data, room) refl

reply_gives : (w : World) (memory : List ℕ) → answers w.kind ≡ true → is_answered w ≡ false
    → call MsgReply [] memory w ≡ Gives None memory (replied w w.reply_data)
reply_gives w memory allowed unanswered = rw (allowed, unanswered) refl

append_answers : (own : List Function) (exports : List Export) (bytes : List ℕ) (w : World) (memory : List ℕ) (offset size : ℕ) → MayAnswer w → IsPart memory offset size
    → host (tree_of_parts own exports bytes) 0 (offset ∷ size ∷ []) memory w ≡ Answers None memory (with_data w (range offset size memory))
append_answers own exports bytes w memory offset size may part =
    ap (λ i. answer_of (call_of i (offset ∷ size ∷ []) memory w)) (append_imported own exports bytes) ∙ ap answer_of (append_gives w memory offset size may part)

reply_answers : (own : List Function) (exports : List Export) (bytes : List ℕ) (w : World) (memory reply : List ℕ) → MayAnswer w
    → host (tree_of_parts own exports bytes) 1 [] memory (with_data w reply) ≡ Answers None memory (replied w reply)
reply_answers own exports bytes w memory reply may =
    ap (λ i. answer_of (call_of i [] memory (with_data w reply))) (reply_imported own exports bytes) ∙ ap answer_of (reply_gives (with_data w reply) memory may.allowed may.unanswered)

-- Its four instructions, with room for its frame and steps for each, where the host answers so.
function_runs : (own : List Function) (exports : List Export) (bytes : List ℕ) (limits : ExecutionLimits) (h : Host World) (i : Instance) (w middle end : World) (depth room left f offset size : ℕ)
    → nat_lt room 10 ≡ false → h 0 (offset ∷ size ∷ []) i.memory w ≡ Answers None i.memory middle → h 1 [] i.memory middle ≡ Answers None i.memory end
    → enter_as limits (tree_of_parts own exports bytes) h room (λ room. enter (suc depth) limits (tree_of_parts own exports bytes) h room) (Some entry_type) (Some (query_function offset size)) f (suc (suc (suc (suc left)))) (store_of i w) []
    ≡ Back left (store_of i end) []
function_runs own exports bytes limits h i w middle end depth room left f offset size frame first second = rw (frame, first, second) refl

-- Function 2 + k of the module is the k-th of its own.
own_defined : (own : List Function) (exports : List Export) (bytes : List ℕ) (k : ℕ) (f : Function) → slice_get own k ≡ Some f → defined (tree_of_parts own exports bytes) (suc (suc k)) ≡ Some f
own_defined own exports bytes k f at =
    let above : nat_lt (suc (suc k)) 2 ≡ false = not_below (suc (suc k)) 2 (omega arith) in
    let place : suc (suc k) - 2 ≡ k = omega arith in
    rw (above, place) at

own_signature : (own : List Function) (k : ℕ) (f : Function) → slice_get own k ≡ Some f → slice_get (map (λ g. g.signature) own) k ≡ Some f.signature
own_signature [] k f at = absurd (cc)
own_signature (g ∷ gs) zero f at = let same : g ≡ f = cc in ap (λ h. Some h.signature) same
own_signature (g ∷ gs) (suc k) f at = own_signature gs k f at

pub own_type : (own : List Function) (exports : List Export) (bytes : List ℕ) (k offset size : ℕ) → slice_get own k ≡ Some (query_function offset size) → type_of (tree_of_parts own exports bytes) (suc (suc k)) ≡ Some entry_type
own_type own exports bytes k offset size at = rw (own_signature own k (query_function offset size) at) refl

-- A call of it, under all limits, replies with its part of the memory.
call_replies : (own : List Function) (exports : List Export) (bytes : List ℕ) (limits : ExecutionLimits) (i : Instance) (w : World) (k offset size : ℕ)
    → IsWithin limits → slice_get own k ≡ Some (query_function offset size) → MayAnswer w → IsPart i.memory offset size
    → enter (suc limits.stack) limits (tree_of_parts own exports bytes) (host (tree_of_parts own exports bytes)) limits.stack (suc (suc k)) limits.steps (store_of i w) []
    ≡ Back (limits.steps - 4) (store_of i (replied w (range offset size i.memory))) []
call_replies own exports bytes limits i w k offset size within at may part =
    let tree = tree_of_parts own exports bytes in
    let depth : limits.stack ≡ suc (limits.stack - 1) = omega (arith, within.least_stack) in
    let steps : limits.steps ≡ suc (suc (suc (suc (limits.steps - 4)))) = omega (arith, within.least_steps) in
    let frame : nat_lt limits.stack 10 ≡ false = not_below limits.stack 10 (omega (arith, within.least_stack)) in
    let reply : List ℕ = range offset size i.memory in
    let end : Called World = Back (limits.steps - 4) (store_of i (replied w reply)) [] in
    let runs = function_runs own exports bytes limits (host tree) i w (with_data w reply) (replied w reply) (limits.stack - 1) limits.stack (limits.steps - 4) (suc (suc k)) offset size frame (append_answers own exports bytes w i.memory offset size may part) (reply_answers own exports bytes w i.memory reply may) in
    let typed : enter_as limits tree (host tree) limits.stack (λ room. enter (suc (limits.stack - 1)) limits tree (host tree) room) (type_of tree (suc (suc k))) (defined tree (suc (suc k))) (suc (suc k)) (suc (suc (suc (suc (limits.steps - 4))))) (store_of i w) [] ≡ end =
    subst (λ t. enter_as limits tree (host tree) limits.stack (λ room. enter (suc (limits.stack - 1)) limits tree (host tree) room) t (defined tree (suc (suc k))) (suc (suc k)) (suc (suc (suc (suc (limits.steps - 4))))) (store_of i w) [] ≡ end) (sym (own_type own exports bytes k offset size at))
    (subst (λ d. enter_as limits tree (host tree) limits.stack (λ room. enter (suc (limits.stack - 1)) limits tree (host tree) room) (Some entry_type) d (suc (suc k)) (suc (suc (suc (suc (limits.steps - 4))))) (store_of i w) [] ≡ end) (sym (own_defined own exports bytes k (query_function offset size) at)) runs) in
    let deep : enter (suc limits.stack) limits tree (host tree) limits.stack (suc (suc k)) (suc (suc (suc (suc (limits.steps - 4))))) (store_of i w) [] ≡ end =
    subst (λ d. enter (suc d) limits tree (host tree) limits.stack (suc (suc k)) (suc (suc (suc (suc (limits.steps - 4))))) (store_of i w) [] ≡ end) (sym depth) typed in
    subst (λ s. enter (suc limits.stack) limits tree (host tree) limits.stack (suc (suc k)) s (store_of i w) [] ≡ end) (sym steps) deep

abbrev pub of_kind : ExecutionKind → World → World
of_kind k w = record w { kind = k }

-- So an execution of it finishes, and has replied with that part.
pub execution_replies : (own : List Function) (exports : List Export) (bytes : List ℕ) (limits : ExecutionLimits) (i : Instance) (kind : ExecutionKind) (w : World) (k offset size : ℕ)
    → IsWithin limits → slice_get own k ≡ Some (query_function offset size) → MayAnswer (of_kind kind w) → IsPart i.memory offset size
    → execution limits (tree_of_parts own exports bytes) i (entry_of kind (Some (suc (suc k))) []) w ≡ Finishes (store_of i (replied (of_kind kind w) (range offset size i.memory)))
execution_replies own exports bytes limits i kind w k offset size within at may part =
    rw (call_replies own exports bytes limits i (of_kind kind w) k offset size within at may part) refl
