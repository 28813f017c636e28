-- Flat lists that are those of trees, from an open block inwards.
use Rattle.std.proofs.Common.{◌≡◌, ℕ, zero, suc, Bool, true, false, List, [], ◌∷◌, ◌++◌, length, map, Option, ◌⊎◌, inl, inr, refl, sym, ap, ◌∙◌, subst, append_assoc}
use Rattle.wasm_tree.specs.declared.types.ValueType.{ValueType}
use Rattle.wasm_tree.specs.declared.op.Op.{Op}
use Rattle.wasm_tree.specs.declared.op.Op.TheVariants as op
use Rattle.wasm_tree.specs.Code.{Code, Stop, If, IfElse, BrTable, flat}

-- The list ends the blocks that are open, the innermost first, each with whether an `else` may come.
abbrev pub Nested : List Bool → List Op → Type 0
Nested [] ops = (c : Code) × (ops ≡ flat c)
Nested (false ∷ os) ops = (c : Code) × (more : List Op) × (ops ≡ flat c ++ op.End ∷ more) × Nested os more
Nested (true ∷ os) ops =
    (c : Code) × (more : List Op) × (((ops ≡ flat c ++ op.End ∷ more) × Nested os more)
    ⊎ ((ops ≡ flat c ++ op.Else ∷ more) × (d : Code) × (rest : List Op) × (more ≡ flat d ++ op.End ∷ rest) × Nested os rest))

-- The same behind labels that are owed.
abbrev pub Owing : ℕ → List Bool → List Op → Type 0
Owing zero os ops = Nested os ops
Owing (suc k) os ops = (labels : List ℕ) × (last : ℕ) × (more : List Op) × (length labels ≡ k) × (ops ≡ map op.Target labels ++ op.Target last ∷ more) × Nested os more

-- What stands before.
grown : (o : List Op) (x y : Code) (ops tail : List Op) → flat y ≡ o ++ flat x → ops ≡ flat x ++ tail → o ++ ops ≡ flat y ++ tail
grown o x y ops tail e h = ap (λ l. o ++ l) h ∙ sym (append_assoc o (flat x) tail) ∙ ap (λ l. l ++ tail) (sym e)

pub onto : (f : Code → Code) (o : List Op) → ((c : Code) → flat (f c) ≡ o ++ flat c) → (os : List Bool) (ops : List Op) → Nested os ops → Nested os (o ++ ops)
onto f o e [] ops h = (f h.0, ap (λ l. o ++ l) h.1 ∙ sym (e h.0))
onto f o e (false ∷ os) ops h = (f h.0, h.1, grown o h.0 (f h.0) ops (op.End ∷ h.1) (e h.0) h.2, h.3)
onto f o e (true ∷ os) ops h = (f h.0, h.1, by h.2)
  where
    by : ((ops ≡ flat h.0 ++ op.End ∷ h.1) × Nested os h.1) ⊎ ((ops ≡ flat h.0 ++ op.Else ∷ h.1) × (d : Code) × (rest : List Op) × (h.1 ≡ flat d ++ op.End ∷ rest) × Nested os rest)
        → ((o ++ ops ≡ flat (f h.0) ++ op.End ∷ h.1) × Nested os h.1) ⊎ ((o ++ ops ≡ flat (f h.0) ++ op.Else ∷ h.1) × (d : Code) × (rest : List Op) × (h.1 ≡ flat d ++ op.End ∷ rest) × Nested os rest)
    by (inl k) = inl (grown o h.0 (f h.0) ops (op.End ∷ h.1) (e h.0) k.0, k.1)
    by (inr k) = inr (grown o h.0 (f h.0) ops (op.Else ∷ h.1) (e h.0) k.0, k.1, k.2, k.3, k.4)

-- A block, its body and its end.
pub body_onto : (f : Code → Code → Code) (x : Op) → ((b r : Code) → flat (f b r) ≡ x ∷ (flat b ++ op.End ∷ flat r)) → (os : List Bool) (b : Code) (ops more : List Op) → ops ≡ flat b ++ op.End ∷ more → Nested os more → Nested os (x ∷ ops)
body_onto f x e os b ops more h n =
    let front : List Op = x ∷ (flat b ++ op.End ∷ []) in
    let k = onto (f b) front (λ r. e b r ∙ ap (λ l. x ∷ l) (sym (append_assoc (flat b) (op.End ∷ []) (flat r)))) os more n in
    let same : front ++ more ≡ x ∷ ops = ap (λ l. x ∷ l) (append_assoc (flat b) (op.End ∷ []) more ∙ sym h) in
    subst (λ l. Nested os l) same k

sides_assoc : (b d : Code) (tail : List Op) → (flat b ++ op.Else ∷ (flat d ++ op.End ∷ [])) ++ tail ≡ flat b ++ op.Else ∷ (flat d ++ op.End ∷ tail)
sides_assoc b d tail = append_assoc (flat b) (op.Else ∷ (flat d ++ op.End ∷ [])) tail ∙ ap (λ l. flat b ++ op.Else ∷ l) (append_assoc (flat d) (op.End ∷ []) tail)

pub if_onto : (kind : Option ValueType) (os : List Bool) (ops : List Op) → Nested (true ∷ os) ops → Nested os (op.If kind ∷ ops)
if_onto kind os ops h = by h.2
  where
    by : ((ops ≡ flat h.0 ++ op.End ∷ h.1) × Nested os h.1) ⊎ ((ops ≡ flat h.0 ++ op.Else ∷ h.1) × (d : Code) × (rest : List Op) × (h.1 ≡ flat d ++ op.End ∷ rest) × Nested os rest) → Nested os (op.If kind ∷ ops)
    by (inl k) = body_onto (If kind) (op.If kind) (λ b r. refl) os h.0 ops h.1 k.0 k.1
    by (inr k) =
        let front : List Op = op.If kind ∷ (flat h.0 ++ op.Else ∷ (flat k.1 ++ op.End ∷ [])) in
        let n = onto (IfElse kind h.0 k.1) front (λ r. ap (λ l. op.If kind ∷ l) (sym (sides_assoc h.0 k.1 (flat r)))) os k.2 k.4 in
        let same : front ++ k.2 ≡ op.If kind ∷ ops = ap (λ l. op.If kind ∷ l) (sides_assoc h.0 k.1 k.2 ∙ ap (λ l. flat h.0 ++ op.Else ∷ l) (sym k.3) ∙ sym k.0) in
        subst (λ l. Nested os l) same n

pub end_onto : (o : Bool) (os : List Bool) (ops : List Op) → Nested os ops → Nested (o ∷ os) (op.End ∷ ops)
end_onto false os ops h = (Stop, ops, refl, h)
end_onto true os ops h = (Stop, ops, inl (refl, h))

pub else_onto : (os : List Bool) (ops : List Op) → Nested (false ∷ os) ops → Nested (true ∷ os) (op.Else ∷ ops)
else_onto os ops h = (Stop, ops, inr (refl, h.0, h.1, h.2, h.3))

-- The labels of a `br_table`.
pub label_onto : (l k : ℕ) (os : List Bool) (ops : List Op) → Owing k os ops → Owing (suc k) os (op.Target l ∷ ops)
label_onto l zero os ops h = ([], l, ops, refl, refl, h)
label_onto l (suc k) os ops h = (l ∷ h.0, h.1, h.2, ap suc h.3, ap (λ o. op.Target l ∷ o) h.4, h.5)

pub table_onto : (count : ℕ) (os : List Bool) (ops : List Op) → Owing (suc count) os ops → Nested os (op.BrTable count ∷ ops)
table_onto count os ops h =
    let labels : List Op = map op.Target h.0 in
    let front : List Op = op.BrTable count ∷ (labels ++ op.Target h.1 ∷ []) in
    let n = onto (BrTable h.0 h.1) front (λ r. ap (λ c. op.BrTable c ∷ (labels ++ op.Target h.1 ∷ flat r)) h.3 ∙ ap (λ l. op.BrTable count ∷ l) (sym (append_assoc labels (op.Target h.1 ∷ []) (flat r)))) os h.2 h.5 in
    let same : front ++ h.2 ≡ op.BrTable count ∷ ops = ap (λ l. op.BrTable count ∷ l) (append_assoc labels (op.Target h.1 ∷ []) h.2 ∙ sym h.4) in
    subst (λ l. Nested os l) same n
