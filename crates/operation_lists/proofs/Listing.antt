-- Lists of the codes of routines.
use Rattle.std.proofs.Common.{◌≡◌, ℕ, ◌∷◌, [], List, ◌++◌, Bool, true, false, refl, sym, ap, ◌∙◌, append_assoc, Some, None}
use Rattle.std.specs.Prelude.{◌&&◌}
use Rattle.mo_num.specs.declared.kind.Kind.{Kind}
use Rattle.mo_num.specs.declared.kind.Kind.TheVariants.{Nat, Int, Nat8, Nat16, Nat32, Nat64, Int8, Int16, Int32, Int64}
use Rattle.mo_num.specs.declared.operator.Operator.{Operator}
use Rattle.mo_num.specs.declared.operator.Operator.TheVariants as operator
use Rattle.mo_values.specs.declared.operation.Wrapping.{Wrapping}
use Rattle.low_ir.specs.declared.op.LowOp.{LowOp}
use Rattle.low_ir.specs.declared.op.LowOp.TheVariants as op
use Rattle.low_ir.specs.declared.op.Operand.{Operand}
use Rattle.low_ir.specs.declared.op.Operand.TheVariants.{Local}
use Rattle.low_ir.specs.Tree.{Code, Stop, Return, Trap, Set, If}
use Rattle.low_ir.specs.Flat.{flat}
use Rattle.inlined_code.specs.Inlining.{Places, code_at, operand_at}
use Rattle.number_routines.specs.declared.places.TrapPlaces.{TrapPlaces}
use Rattle.number_routines.specs.Codes.{calculate, negate, wrap}
use Rattle.operation_codes.specs.Codes.{settle, returns}
use Rattle.operation_lists.specs.Listed.{op_at, ops_at}

-- Code of such instructions alone.
abbrev pub is_listed : Code → Bool
is_listed Stop = true
is_listed (Return (Some a)) = true
is_listed (Trap a b) = true
is_listed (Set x o rest) = is_listed rest
is_listed (If a y n rest) = is_listed y && (is_listed n && is_listed rest)
is_listed c = false

both : (a b : Bool) → a && b ≡ true → (a ≡ true) × (b ≡ true)
both true true h = (refl, refl)
both true false h = absurd (cc h)
both false b h = absurd (cc h)

pub ops_behind : (at : Places) (to : ℕ) (xs ys : List LowOp) → ops_at at to (xs ++ ys) ≡ ops_at at to xs ++ ops_at at to ys
ops_behind at to [] ys = refl
ops_behind at to (x ∷ xs) ys = ap (λ l. op_at at to x ++ l) (ops_behind at to xs ys) ∙ sym (append_assoc (op_at at to x) (ops_at at to xs) (ops_at at to ys))

one : (at : Places) (to : ℕ) (xs : List LowOp) → xs ≡ xs ++ []
one at to [] = refl
one at to (x ∷ xs) = ap (λ l. x ∷ l) (one at to xs)

pub listed : (at : Places) (to : ℕ) (c : Code) → is_listed c ≡ true → flat (code_at at (settle to) c) ≡ ops_at at to (flat c)
listed at to Stop h = refl
listed at to (Return (Some a)) h = one at to (flat (settle to (operand_at at a)))
listed at to (Trap a b) h = refl
listed at to (Set x o rest) h = ap (λ l. op_at at to (op.Set x o) ++ l) (listed at to rest h)
listed at to (If a y n rest) h =
    let k = both (is_listed y) (is_listed n && is_listed rest) h in
    let m = both (is_listed n) (is_listed rest) k.1 in
    let ey = listed at to y k.0 in
    let en = listed at to n m.0 in
    let er = listed at to rest m.1 in
    ap (λ l. op.If (operand_at at a) ∷ (flat (code_at at (settle to) y) ++ op.Else ∷ (flat (code_at at (settle to) n) ++ op.End ∷ l))) er
    ∙ ap (λ l. op.If (operand_at at a) ∷ (flat (code_at at (settle to) y) ++ op.Else ∷ (l ++ op.End ∷ ops_at at to (flat rest)))) en
    ∙ ap (λ l. op.If (operand_at at a) ∷ (l ++ op.Else ∷ (ops_at at to (flat n) ++ op.End ∷ ops_at at to (flat rest)))) ey
    ∙ ap (λ l. op.If (operand_at at a) ∷ (ops_at at to (flat y) ++ op.Else ∷ l)) (sym (ops_behind at to (flat n) (op.End ∷ flat rest)))
    ∙ ap (λ l. op.If (operand_at at a) ∷ l) (sym (ops_behind at to (flat y) (op.Else ∷ (flat n ++ op.End ∷ flat rest))))
listed at to c h = absurd (cc h)
