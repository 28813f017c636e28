-- Calls of functions that reply.
use Rattle.std.proofs.Common.{◌≡◌, ℕ, zero, suc, ◌-◌, ◌≤◌, max, List, [], ◌∷◌, ◌++◌, length, Some, refl, sym, ap, ◌∙◌, subst, arith}
use Rattle.mo_types.specs.Form.{form}
use Rattle.mo_types.specs.Graph.{head_at}
use Rattle.mo_types.specs.Wire.{refs, wire}
use Rattle.mo_coding.specs.Heads.{of_graph}
use Rattle.mo_coding.specs.TypeTable.{canonical}
use Rattle.mo_coding.specs.Values.{values_piece}
use Rattle.wasm_tree.specs.Numeric.{flag}
use Rattle.wasm_tree.specs.Exec.{bits64}
use Rattle.low_ir.specs.Tree.{Code}
use Rattle.low_ir.specs.Meaning.{Calls}
use Rattle.low_ir.specs.Frames.{height, depth, words, enter}
use Rattle.low_rules.specs.Rule.{Contracts, ComesTo}
use Rattle.low_rules.proofs.Entering.{routine, weaker}
use Rattle.wire_numbers.specs.Writers.{IsWritten}
use Rattle.wire_numbers.proofs.Sent.{numbers_are_written, flags_are_written}
use Rattle.wire_messages.specs.declared.column.Wired.{Wired}
use Rattle.wire_messages.specs.declared.column.Wired.TheVariants.{Number, Truth, Unit as Nothing}
use Rattle.wire_messages.specs.Column.{column_piece}
use Rattle.wire_messages.specs.Replies.{writes_kind, writes_truth, put_bytes, put_values, reply, IsReplied}
use Rattle.wire_messages.specs.Laws.{RepliesAreWritten}
use Rattle.wire_messages.proofs.Pieced.{column_is}
use Rattle.wire_messages.proofs.Replied.{reply_type, joined_some, reply_is}

-- ---- the frame

most_2 : (a b : ℕ) → a ≤ 2 → b ≤ 2 → max a b ≤ 2
most_2 a b h k = omega (arith, h, k)

abbrev Small : Code → Type 0
Small c = (height c ≤ 2) × (depth c ≡ 0)

bytes_small : (bs : List ℕ) (i : ℕ) (rest : Code) → Small rest → Small (put_bytes bs i rest)
bytes_small [] i rest h = h
bytes_small (b ∷ bs) i rest h = let r = bytes_small bs (suc i) rest h in (most_2 2 (height (put_bytes bs (suc i) rest)) (omega arith) r.0, r.1)

values_small : (first : ℕ) (ws : List Wired) → Small (put_values first ws)
values_small first [] = (omega arith, refl)
values_small first (Number k ∷ ws) = let r = values_small first ws in (omega (arith, r.0), r.1)
values_small first (Truth ∷ ws) = let r = values_small first ws in (omega (arith, r.0), r.1)
values_small first (Nothing ∷ ws) = let r = values_small first ws in (omega (arith, r.0), r.1)

some_is : (a b : List ℕ) → Some a ≡ Some b → a ≡ b
some_is a b e = cc

frame : (first : ℕ) (header : List ℕ) (ws : List Wired) (signature : ℕ) → words reply_type (reply first header ws signature) ≤ 13
frame first header ws signature =
    let v = values_small first ws in
    let r = bytes_small header 0 (Rattle.wire_messages.specs.Replies.behind_header first (length header) ws) (omega (arith, v.0), v.1) in
    omega (arith, r.0, r.1)

pub replies_are_written : (World : Type 0) → RepliesAreWritten World
replies_are_written World pages m host f signature first writes header ws is writers all slots types values text of are headed spelled zero room less fits store at from may words_are = absurd (omega arith)
replies_are_written World pages m host f signature first writes header ws is writers all slots types values text of are headed spelled (suc deep) room less fits store at from may words_are =
    let most : words reply_type (reply first header ws signature) ≤ 13 = frame first header ws signature in
    let left : ℕ = room - words reply_type (reply first header ws signature) in
    let inner : Calls World = enter deep pages m host left in
    let does : Contracts World = λ f store args q. ComesTo inner f store args q in
    let j = joined_some (canonical (of_graph slots) (refs types)) (values_piece (wire (head_at slots)) (refs types) (form (head_at slots) types values)) text spelled in
    let same : j.0 ≡ header = some_is j.0 header (sym j.2 ∙ headed) in
    let piece : column_piece ws values ≡ Some j.1 = sym (column_is slots types ws values of are) ∙ j.3 in
    let whole : header ++ j.1 ≡ text = ap (λ l. l ++ j.1) (sym same) ∙ j.4 in
    routine pages m host deep room f reply_type (reply first header ws signature) does store (at ∷ from ∷ []) (IsReplied store at (length header) (length ws) text) is.typed is.there (omega (arith, most, fits)) (λ f store args q c. c)
    (reply_is pages m does store first (IsReplied store at (length header) (length ws) text)
    (λ k store at z text r e may then. weaker inner (writes_kind first k) store (at ∷ bits64 z ∷ []) (IsWritten store at text) r then (numbers_are_written World pages m host (writes_kind first k) writes k (writers.kinds k) deep left (omega (arith, less)) (omega (arith, most, fits)) store at z text e may))
    (λ store at b text r e may then. weaker inner (writes_truth first) store (at ∷ flag b ∷ []) (IsWritten store at text) r then (flags_are_written World pages m host (writes_truth first) writes writers.truths deep left (omega (arith, less)) (omega (arith, most, fits)) store at b text e may))
    header ws values at from j.1 all may are words_are piece
    (λ e h. subst (λ t. IsReplied store at (length header) (length ws) t e) whole h))
