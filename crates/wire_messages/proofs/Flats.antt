-- The instructions of a function that replies are those of its tree.
use Rattle.std.proofs.Common.{◌≡◌, ℕ, suc, List, [], ◌∷◌, ◌++◌, length, Some, pos, refl, ap, ◌∙◌, append_assoc}
use Rattle.wasm_tree.specs.declared.types.ValueType.TheVariants.{I32}
use Rattle.wasm_tree.specs.declared.op.BinaryOperator.TheVariants.{Add}
use Rattle.wasm_tree.specs.declared.op.StoreKind.TheVariants as width
use Rattle.low_ir.specs.declared.op.LowOp.{LowOp}
use Rattle.low_ir.specs.declared.op.LowOp.TheVariants as op
use Rattle.low_ir.specs.declared.op.Operand.TheVariants.{Local, Word}
use Rattle.low_ir.specs.declared.op.Operation.TheVariants.{Binary}
use Rattle.low_ir.specs.Flat.{flat}
use Rattle.low_ir.specs.Tree.{Code}
use Rattle.wire_messages.specs.declared.column.Wired.{Wired}
use Rattle.wire_messages.specs.declared.column.Wired.TheVariants.{Number, Truth, Unit as Nothing}
use Rattle.wire_messages.specs.Lists.{header_ops, wired_ops, values_ops}
use Rattle.wire_messages.specs.Replies.{put_bytes, put_values, write_reply}

header_flat : (bs : List ℕ) (i : ℕ) (rest : Code) → header_ops bs i ++ flat rest ≡ flat (put_bytes bs i rest)
header_flat [] i rest = refl
header_flat (b ∷ bs) i rest = ap (λ l. op.Store width.I32To8 (Local 0) i (Word (pos b)) ∷ l) (header_flat bs (suc i) rest)

abbrev last : List LowOp
last = op.Return (Some (Local 0)) ∷ []

values_flat : (first : ℕ) (ws : List Wired) → values_ops first ws ++ last ≡ flat (put_values first ws)
values_flat first [] = refl
values_flat first (Number k ∷ ws) = ap (λ l. wired_ops first (Number k) ++ l) (values_flat first ws)
values_flat first (Truth ∷ ws) = ap (λ l. wired_ops first Truth ++ l) (values_flat first ws)
values_flat first (Nothing ∷ ws) = ap (λ l. wired_ops first Nothing ++ l) (values_flat first ws)

abbrev step : List ℕ → List LowOp
step header = op.Set 0 (Binary I32 Add (Local 0) (Word (pos (length header)))) ∷ []

-- what was pushed in turn
pub reply_flat : (first : ℕ) (header : List ℕ) (ws : List Wired) (a b c d e : List LowOp) → a ≡ [] → b ≡ a ++ header_ops header 0 → c ≡ b ++ step header → d ≡ c ++ values_ops first ws → e ≡ d ++ last → e ≡ flat (write_reply first header ws)
reply_flat first header ws a b c d e ea eb ec ed ee =
    let one : b ≡ header_ops header 0 = eb ∙ ap (λ l. l ++ header_ops header 0) ea in
    let two : c ≡ header_ops header 0 ++ step header = ec ∙ ap (λ l. l ++ step header) one in
    let three : d ≡ header_ops header 0 ++ (step header ++ values_ops first ws) = ed ∙ ap (λ l. l ++ values_ops first ws) two ∙ append_assoc (header_ops header 0) (step header) (values_ops first ws) in
    let four : e ≡ header_ops header 0 ++ (step header ++ (values_ops first ws ++ last)) = ee ∙ ap (λ l. l ++ last) three ∙ append_assoc (header_ops header 0) (step header ++ values_ops first ws) last in
    four ∙ ap (λ l. header_ops header 0 ++ (step header ++ l)) (values_flat first ws) ∙ header_flat header 0 (Rattle.wire_messages.specs.Replies.behind_header first (length header) ws)
