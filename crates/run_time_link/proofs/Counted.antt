-- What is counted over the list of a tree is what the tree's frame takes.
use Rattle.std.proofs.Common.{◌≡◌, ◌+◌, ◌-◌, ◌≤◌, ℕ, List, [], ◌∷◌, ◌++◌, length, map, max, Some, None, refl, ap, sym, ◌∙◌, arith, append_assoc}
use Rattle.std.proofs.lemmas.List.{append-nil}
use Rattle.low_ir.specs.declared.op.Operand.{Operand}
use Rattle.low_ir.specs.declared.op.LowOp.{LowOp}
use Rattle.low_ir.specs.declared.op.LowOp.TheVariants as op
use Rattle.low_ir.specs.Tree.{Code, Stop, Return, Branch, Trap, Set, SetGlobal, Store, Grow, GrowStable, Block, Loop, If, BranchIf, Call, CallIndirect}
use Rattle.low_ir.specs.Flat.{flat}
use Rattle.low_ir.specs.Frames.{operands_of, value_count, height, depth}
use Rattle.run_time_link.specs.declared.frames.Count.{Count}
use Rattle.run_time_link.specs.Counting.{counted_all, no_count}

abbrev at : ℕ → ℕ → ℕ → ℕ → Count
at a h o d = record { arguments = a; height = h; inside = o; depth = d }

-- From a place inside so many constructs, with the list of what follows.
abbrev Counts : Code → Type 0
Counts c = (more : List LowOp) (h o d : ℕ) → o ≤ d → counted_all (flat c ++ more) (at 0 h o d) ≡ counted_all more (at 0 (max h (height c)) o (max d (o + depth c)))

same : (more : List LowOp) (h k o d e : ℕ) → h ≡ k → d ≡ e → counted_all more (at 0 h o d) ≡ counted_all more (at 0 k o e)
same more h k o d e p q = λ i. counted_all more (at 0 (p i) o (q i))

all_arguments : (args : List Operand) (more : List LowOp) (a h o d : ℕ) → counted_all (map op.Argument args ++ more) (at a h o d) ≡ counted_all more (at (a + length args) h o d)
all_arguments [] more a h o d = ap (λ a. counted_all more (at a h o d)) (omega arith)
all_arguments (x ∷ args) more a h o d = all_arguments args more (a + 1) h o d ∙ ap (λ a. counted_all more (at a h o d)) (omega arith)

-- Of the rest of code behind an instruction of so many operands.
wide : (more : List LowOp) (h k j o d e : ℕ) → counted_all more (at 0 (max (max h k) j) o (max d (o + e))) ≡ counted_all more (at 0 (max h (max k j)) o (max d (o + e)))
wide more h k j o d e = same more (max (max h k) j) (max h (max k j)) o (max d (o + e)) (max d (o + e)) (omega arith) refl

-- And with a construct inside.
deep : (more : List LowOp) (h k j o d e : ℕ) → counted_all more (at 0 (max (max h k) j) o (max (max d (o + 1)) (o + e))) ≡ counted_all more (at 0 (max h (max k j)) o (max d (o + max 1 e)))
deep more h k j o d e = same more (max (max h k) j) (max h (max k j)) o (max (max d (o + 1)) (o + e)) (max d (o + max 1 e)) (omega arith) (omega arith)

closes : (o : ℕ) → o + 1 - 1 ≡ o
closes o = omega arith

-- Of a construct with one body.
inside : (body rest : Code) → Counts body → Counts rest → (more : List LowOp) (h o d : ℕ) → o ≤ d
    → counted_all ((flat body ++ op.End ∷ flat rest) ++ more) (at 0 h (o + 1) (max d (o + 1))) ≡ counted_all more (at 0 (max h (max (height body) (height rest))) o (max d (o + max (1 + depth body) (depth rest))))
inside body rest b r more h o d le =
    let h' : ℕ = max h (height body) in
    let d' : ℕ = max (max d (o + 1)) (o + 1 + depth body) in
    ap (λ l. counted_all l (at 0 h (o + 1) (max d (o + 1)))) (append_assoc (flat body) (op.End ∷ flat rest) more)
    ∙ b (op.End ∷ (flat rest ++ more)) h (o + 1) (max d (o + 1)) (omega arith)
    ∙ ap (λ o. counted_all (flat rest ++ more) (at 0 h' o d')) (closes o)
    ∙ r more h' o d' (omega (arith, le))
    ∙ same more (max h' (height rest)) (max h (max (height body) (height rest))) o (max d' (o + depth rest)) (max d (o + max (1 + depth body) (depth rest))) (omega arith) (omega arith)

-- Of a choice.
both : (first second rest : Code) → Counts first → Counts second → Counts rest → (more : List LowOp) (h o d : ℕ) → o ≤ d
    → counted_all ((flat first ++ op.Else ∷ (flat second ++ op.End ∷ flat rest)) ++ more) (at 0 (max h 1) (o + 1) (max d (o + 1)))
    ≡ counted_all more (at 0 (max h (max 1 (max (height first) (max (height second) (height rest))))) o (max d (o + max (1 + depth first) (max (1 + depth second) (depth rest)))))
both first second rest f s r more h o d le =
    let h1 : ℕ = max (max h 1) (height first) in
    let d1 : ℕ = max (max d (o + 1)) (o + 1 + depth first) in
    let h2 : ℕ = max h1 (height second) in
    let d2 : ℕ = max d1 (o + 1 + depth second) in
    ap (λ l. counted_all l (at 0 (max h 1) (o + 1) (max d (o + 1)))) (append_assoc (flat first) (op.Else ∷ (flat second ++ op.End ∷ flat rest)) more)
    ∙ f (op.Else ∷ ((flat second ++ op.End ∷ flat rest) ++ more)) (max h 1) (o + 1) (max d (o + 1)) (omega arith)
    ∙ ap (λ l. counted_all l (at 0 h1 (o + 1) d1)) (append_assoc (flat second) (op.End ∷ flat rest) more)
    ∙ s (op.End ∷ (flat rest ++ more)) h1 (o + 1) d1 (omega arith)
    ∙ ap (λ o. counted_all (flat rest ++ more) (at 0 h2 o d2)) (closes o)
    ∙ r more h2 o d2 (omega (arith, le))
    ∙ same more (max h2 (height rest)) (max h (max 1 (max (height first) (max (height second) (height rest))))) o (max d2 (o + depth rest)) (max d (o + max (1 + depth first) (max (1 + depth second) (depth rest)))) (omega arith) (omega arith)

counts : (c : Code) → Counts c
counts Stop more h o d le = same more h (max h 0) o d (max d (o + 0)) (omega arith) (omega (arith, le))
counts (Return None) more h o d le = same more h (max h 0) o d (max d (o + 0)) (omega arith) (omega (arith, le))
counts (Return (Some a)) more h o d le = same more (max h 1) (max h 1) o d (max d (o + 0)) refl (omega (arith, le))
counts (Branch label) more h o d le = same more h (max h 0) o d (max d (o + 0)) (omega arith) (omega (arith, le))
counts (Trap a b) more h o d le = same more (max h 2) (max h 2) o d (max d (o + 0)) refl (omega (arith, le))
counts (Set x p rest) more h o d le = counts rest more (max h (operands_of p)) o d le ∙ wide more h (operands_of p) (height rest) o d (depth rest)
counts (SetGlobal x a rest) more h o d le = counts rest more (max h 1) o d le ∙ wide more h 1 (height rest) o d (depth rest)
counts (Store kind a offset b rest) more h o d le = counts rest more (max h 2) o d le ∙ wide more h 2 (height rest) o d (depth rest)
counts (Grow a rest) more h o d le = counts rest more (max h 2) o (max d (o + 1)) (omega (arith, le)) ∙ deep more h 2 (height rest) o d (depth rest)
counts (GrowStable a rest) more h o d le = counts rest more (max h 2) o (max d (o + 1)) (omega (arith, le)) ∙ deep more h 2 (height rest) o d (depth rest)
counts (Block body rest) more h o d le = inside body rest (counts body) (counts rest) more h o d le
counts (Loop body rest) more h o d le = inside body rest (counts body) (counts rest) more h o d le
counts (If a first second rest) more h o d le = both first second rest (counts first) (counts second) (counts rest) more h o d le
counts (BranchIf a label rest) more h o d le = counts rest more (max h 1) o d le ∙ wide more h 1 (height rest) o d (depth rest)
counts (Call result f args rest) more h o d le =
    ap (λ l. counted_all l (at 0 h o d)) (append_assoc (map op.Argument args) (op.Call result f ∷ flat rest) more)
    ∙ all_arguments args (op.Call result f ∷ (flat rest ++ more)) 0 h o d
    ∙ counts rest more (max h (max (0 + length args) (value_count result))) o d le
    ∙ same more (max (max h (max (0 + length args) (value_count result))) (height rest)) (max h (max (length args) (max (value_count result) (height rest)))) o (max d (o + depth rest)) (max d (o + depth rest)) (omega arith) refl
counts (CallIndirect result x args a rest) more h o d le =
    ap (λ l. counted_all l (at 0 h o d)) (append_assoc (map op.Argument args) (op.CallIndirect result x a ∷ flat rest) more)
    ∙ all_arguments args (op.CallIndirect result x a ∷ (flat rest ++ more)) 0 h o d
    ∙ counts rest more (max h (max (0 + length args + 1) (value_count result))) o d le
    ∙ same more (max (max h (max (0 + length args + 1) (value_count result))) (height rest)) (max h (max (1 + length args) (max (value_count result) (height rest)))) o (max d (o + depth rest)) (max d (o + depth rest)) (omega arith) refl

-- Of a whole body.
pub body_counted : (c : Code) → counted_all (flat c) no_count ≡ at 0 (height c) 0 (depth c)
body_counted c =
    ap (λ l. counted_all l (at 0 0 0 0)) (sym (append-nil (flat c))) ∙ counts c [] 0 0 0 (omega arith) ∙ (λ i. at 0 (zero_max (height c) i) 0 (zero_sum (depth c) i))
  where
    zero_max : (n : ℕ) → max 0 n ≡ n
    zero_max n = omega arith

    zero_sum : (n : ℕ) → max 0 (0 + n) ≡ n
    zero_sum n = omega arith
