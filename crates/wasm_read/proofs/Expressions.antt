-- Expressions are read exactly.
use Rattle.std.proofs.Common.{◌≡◌, ℕ, zero, suc, ◌≤◌, ◌<◌, Bool, true, false, List, [], ◌∷◌, ◌++◌, length, map, Result, Ok, Err, refl, sym, ap, ◌∙◌, subst, append_assoc, length-append, arith}
use Rattle.wasm_tree.specs.declared.op.Op.{Op}
use Rattle.wasm_tree.specs.declared.op.Op.TheVariants as op
use Rattle.wasm_tree.specs.Spelling.{IsU32, IsEach}
use Rattle.wasm_tree.specs.Binary.{IsOp, IsExpression}
use Rattle.wasm_tree.specs.Code.{Code, Stop, Then, Unreachable, Block, Loop, If, IfElse, Br, BrIf, BrTable, Return, Call, CallIndirect, flat}
use Rattle.wasm_read.specs.declared.fault.Fault.{Fault}
use Rattle.wasm_read.specs.declared.fault.Fault.TheVariants.{Malformed}
use Rattle.exact_reading.specs.Reading.{◌>>=◌, made}
use Rattle.wasm_read.specs.Fields.{u32_at}
use Rattle.wasm_read.specs.Codes.{op_at, next_at, After, Closed, Open, Bad, after_op, after, body_by, body_at, expression_at}
use Rattle.exact_reading.proofs.Exact.{Front, Exact, ok_is, bind_ok, made_complete, not_ok}
use Rattle.wasm_read.proofs.Exact.{okay, append_nil}
use Rattle.wasm_read.proofs.Numbers.{u32_exact}
use Rattle.wasm_read.proofs.Ops.{op_sound, op_complete, IsNoLabel}
use Rattle.wasm_read.proofs.Nesting.{Owing, onto, body_onto, if_onto, end_onto, else_onto, label_onto, table_onto}

-- What is read up to the last `end`.
record Ended (owed : ℕ) (os : List Bool) (bytes : List ℕ) (ops : List Op) (rest : List ℕ) : Type 0 where
  pub front : List ℕ
  pub split : bytes ≡ front ++ 0x0b ∷ rest
  pub each : IsEach IsOp ops front
  pub nested : Owing owed os ops

abbrev Reads : ℕ → Type 0
Reads n = (owed : ℕ) (os : List Bool) (bytes : List ℕ) (r : List Op × List ℕ) → body_at n owed os bytes ≡ okay r → Ended owed os bytes r.0 r.1

step : (n : ℕ) → Reads n → (o : Op) (owed : ℕ) (os : List Bool) (then_owed : ℕ) (now : List Bool) (bytes rest : List ℕ) (r : List Op × List ℕ) → Front IsOp bytes o rest → ((ops : List Op) → Owing then_owed now ops → Owing owed os (o ∷ ops)) → (body_at n then_owed now rest >>= λ ops. Ok (o ∷ ops.0, ops.1)) ≡ okay r → Ended owed os bytes r.0 r.1
step n ih o owed os then_owed now bytes rest r a nest h =
    let s = bind_ok (body_at n then_owed now rest) _ r h in
    let e = ih then_owed now rest s.0 s.1 in
    subst (λ z. Ended owed os bytes z.0 z.1) (ok_is (o ∷ s.0.0, s.0.1) r s.2) (record {
      front = a.front ++ e.front;
      split = a.split ∙ ap (λ l. a.front ++ l) e.split ∙ sym (append_assoc a.front e.front (0x0b ∷ s.0.1));
      each = record { front = a.front; back = e.front; whole = refl; first = a.spells; second = e.each };
      nested = nest s.0.0 e.nested;
    })

by_op : (n : ℕ) → Reads n → (o : Op) (os : List Bool) (bytes rest : List ℕ) (r : List Op × List ℕ) → Front IsOp bytes o rest → body_by (after_op o os) o rest (body_at n) ≡ okay r → Ended 0 os bytes r.0 r.1
by_op n ih (op.Plain p) os bytes rest r a h = step n ih (op.Plain p) 0 os 0 os bytes rest r a (λ ops k. onto (Then p) (op.Plain p ∷ []) (λ c. refl) os ops k) h
by_op n ih op.Unreachable os bytes rest r a h = step n ih op.Unreachable 0 os 0 os bytes rest r a (λ ops k. onto Unreachable (op.Unreachable ∷ []) (λ c. refl) os ops k) h
by_op n ih (op.Block kind) os bytes rest r a h = step n ih (op.Block kind) 0 os 0 (false ∷ os) bytes rest r a (λ ops k. body_onto (Block kind) (op.Block kind) (λ b r. refl) os k.0 ops k.1 k.2 k.3) h
by_op n ih (op.Loop kind) os bytes rest r a h = step n ih (op.Loop kind) 0 os 0 (false ∷ os) bytes rest r a (λ ops k. body_onto (Loop kind) (op.Loop kind) (λ b r. refl) os k.0 ops k.1 k.2 k.3) h
by_op n ih (op.If kind) os bytes rest r a h = step n ih (op.If kind) 0 os 0 (true ∷ os) bytes rest r a (λ ops k. if_onto kind os ops k) h
by_op n ih op.Else [] bytes rest r a h = absurd (not_ok h)
by_op n ih op.Else (true ∷ os) bytes rest r a h = step n ih op.Else 0 (true ∷ os) 0 (false ∷ os) bytes rest r a (λ ops k. else_onto os ops k) h
by_op n ih op.Else (false ∷ os) bytes rest r a h = absurd (not_ok h)
by_op n ih op.End [] bytes rest r a h =
    subst (λ z. Ended 0 [] bytes z.0 z.1) (ok_is ([], rest) r h) (record { front = []; split = a.split ∙ ap (λ l. l ++ rest) a.spells; each = refl; nested = (Stop, refl) })
by_op n ih op.End (o ∷ os) bytes rest r a h = step n ih op.End 0 (o ∷ os) 0 os bytes rest r a (λ ops k. end_onto o os ops k) h
by_op n ih (op.Br l) os bytes rest r a h = step n ih (op.Br l) 0 os 0 os bytes rest r a (λ ops k. onto (Br l) (op.Br l ∷ []) (λ c. refl) os ops k) h
by_op n ih (op.BrIf l) os bytes rest r a h = step n ih (op.BrIf l) 0 os 0 os bytes rest r a (λ ops k. onto (BrIf l) (op.BrIf l ∷ []) (λ c. refl) os ops k) h
by_op n ih (op.BrTable count) os bytes rest r a h = step n ih (op.BrTable count) 0 os (suc count) os bytes rest r a (λ ops k. table_onto count os ops k) h
by_op n ih (op.Target l) os bytes rest r a h = absurd (not_ok h)
by_op n ih op.Return os bytes rest r a h = step n ih op.Return 0 os 0 os bytes rest r a (λ ops k. onto Return (op.Return ∷ []) (λ c. refl) os ops k) h
by_op n ih (op.Call f) os bytes rest r a h = step n ih (op.Call f) 0 os 0 os bytes rest r a (λ ops k. onto (Call f) (op.Call f ∷ []) (λ c. refl) os ops k) h
by_op n ih (op.CallIndirect t) os bytes rest r a h = step n ih (op.CallIndirect t) 0 os 0 os bytes rest r a (λ ops k. onto (CallIndirect t) (op.CallIndirect t ∷ []) (λ c. refl) os ops k) h

by_label : (n : ℕ) → Reads n → (k : ℕ) (os : List Bool) (bytes : List ℕ) (x : ℕ × List ℕ) (o : Op × List ℕ) (r : List Op × List ℕ) → u32_at bytes ≡ Ok x → okay (op.Target x.0, x.1) ≡ okay o → (body_at n k os o.1 >>= λ ops. Ok (o.0 ∷ ops.0, ops.1)) ≡ okay r → Ended (suc k) os bytes r.0 r.1
by_label n ih k os bytes x o r e t h =
    let a = u32_exact.sound bytes x e in
    let same : (op.Target x.0, x.1) ≡ o = ok_is (op.Target x.0, x.1) o t in
    let g : (body_at n k os x.1 >>= λ ops. Ok (op.Target x.0 ∷ ops.0, ops.1)) ≡ okay r = subst (λ (z : Op × List ℕ). (body_at n k os z.1 >>= λ ops. Ok (z.0 ∷ ops.0, ops.1)) ≡ okay r) (sym same) h in
    step n ih (op.Target x.0) (suc k) os k os bytes x.1 r (record { front = a.front; split = a.split; spells = a.spells }) (λ ops q. label_onto x.0 k os ops q) g

body_sound : (n : ℕ) → Reads n
unfolding body_at
body_sound zero owed os bytes r h = absurd (not_ok h)
body_sound (suc n) zero os bytes r h =
    let s = bind_ok (op_at bytes) _ r h in
    by_op n (body_sound n) s.0.0 os bytes s.0.1 r (op_sound bytes s.0 s.1) s.2
body_sound (suc n) (suc k) os bytes r h =
    let s = bind_ok (made op.Target u32_at bytes) _ r h in
    let t = bind_ok (u32_at bytes) _ s.0 s.1 in
    by_label n (body_sound n) k os bytes t.0 s.0 r t.1 t.2 s.2

-- What the list of a tree passes through.
abbrev onward : After → (ℕ → List Bool → Type 0) → Type 0
onward Closed P = ⊥
onward (Open owed os) P = P owed os
onward Bad P = ⊥

abbrev IsNext : ℕ → Op → Type 0
IsNext zero o = IsNoLabel o
IsNext (suc k) o = (l : ℕ) × (o ≡ op.Target l)

abbrev Passes : ℕ → List Bool → List Op → Type 0
Passes owed os [] = (owed ≡ 0) × (os ≡ [])
Passes owed os (o ∷ ops) = IsNext owed o × onward (after o owed os) (λ w now. Passes w now ops)

labels_pass : (labels : List ℕ) (last : ℕ) (os : List Bool) (tail : List Op) → Passes 0 os tail → Passes (suc (length labels)) os (map op.Target labels ++ op.Target last ∷ tail)
labels_pass [] last os tail h = ((last, refl), h)
labels_pass (l ∷ ls) last os tail h = ((l, refl), labels_pass ls last os tail h)

flat_passes : (c : Code) (os : List Bool) (tail : List Op) → Passes 0 os tail → Passes 0 os (flat c ++ tail)
flat_passes Stop os tail h = h
flat_passes (Then p r) os tail h = (λ l e. cc, flat_passes r os tail h)
flat_passes (Unreachable r) os tail h = (λ l e. cc, flat_passes r os tail h)
flat_passes (Block kind b r) os tail h =
    (λ l e. cc, subst (λ o. Passes 0 (false ∷ os) o) (sym (append_assoc (flat b) (op.End ∷ flat r) tail)) (flat_passes b (false ∷ os) (op.End ∷ (flat r ++ tail)) (λ l e. cc, flat_passes r os tail h)))
flat_passes (Loop kind b r) os tail h =
    (λ l e. cc, subst (λ o. Passes 0 (false ∷ os) o) (sym (append_assoc (flat b) (op.End ∷ flat r) tail)) (flat_passes b (false ∷ os) (op.End ∷ (flat r ++ tail)) (λ l e. cc, flat_passes r os tail h)))
flat_passes (If kind b r) os tail h =
    (λ l e. cc, subst (λ o. Passes 0 (true ∷ os) o) (sym (append_assoc (flat b) (op.End ∷ flat r) tail)) (flat_passes b (true ∷ os) (op.End ∷ (flat r ++ tail)) (λ l e. cc, flat_passes r os tail h)))
flat_passes (IfElse kind b d r) os tail h =
    let e : (flat b ++ op.Else ∷ (flat d ++ op.End ∷ flat r)) ++ tail ≡ flat b ++ op.Else ∷ (flat d ++ op.End ∷ (flat r ++ tail)) = append_assoc (flat b) (op.Else ∷ (flat d ++ op.End ∷ flat r)) tail ∙ ap (λ l. flat b ++ op.Else ∷ l) (append_assoc (flat d) (op.End ∷ flat r) tail) in
    (λ l e. cc, subst (λ o. Passes 0 (true ∷ os) o) (sym e) (flat_passes b (true ∷ os) (op.Else ∷ (flat d ++ op.End ∷ (flat r ++ tail))) (λ l e. cc, flat_passes d (false ∷ os) (op.End ∷ (flat r ++ tail)) (λ l e. cc, flat_passes r os tail h))))
flat_passes (Br l r) os tail h = (λ l e. cc, flat_passes r os tail h)
flat_passes (BrIf l r) os tail h = (λ l e. cc, flat_passes r os tail h)
flat_passes (BrTable labels last r) os tail h =
    (λ l e. cc, subst (λ o. Passes (suc (length labels)) os o) (sym (append_assoc (map op.Target labels) (op.Target last ∷ flat r) tail)) (labels_pass labels last os (flat r ++ tail) (flat_passes r os tail h)))
flat_passes (Return r) os tail h = (λ l e. cc, flat_passes r os tail h)
flat_passes (Call f r) os tail h = (λ l e. cc, flat_passes r os tail h)
flat_passes (CallIndirect t r) os tail h = (λ l e. cc, flat_passes r os tail h)

next_complete : (owed : ℕ) (o : Op) (front rest : List ℕ) → IsNext owed o → IsOp o front → next_at owed (front ++ rest) ≡ Ok (o, rest)
next_complete zero o front rest n h = op_complete o front rest n h
next_complete (suc k) o front rest n h =
    subst (λ o. IsOp o front → next_at (suc k) (front ++ rest) ≡ Ok (o, rest)) (sym n.1) (λ h. made_complete IsU32 op.Target u32_at u32_exact n.0 front rest h) h

abbrev Completes : List Op → Type 0
Completes ops = (owed : ℕ) (os : List Bool) (fuel : ℕ) (front rest : List ℕ) → length ops < fuel → IsEach IsOp ops front → Passes owed os ops → body_at fuel owed os (front ++ 0x0b ∷ rest) ≡ Ok (ops, rest)

goes_on : (n : ℕ) (o : Op) (ops : List Op) → Completes ops → (a : After) (front rest : List ℕ) → length ops < n → IsEach IsOp ops front → onward a (λ w now. Passes w now ops) → body_by a o (front ++ 0x0b ∷ rest) (body_at n) ≡ Ok (o ∷ ops, rest)
goes_on n o ops ih Closed front rest lt h p = absurd p
goes_on n o ops ih (Open owed os) front rest lt h p = ap (λ (s : Result (List Op × List ℕ) Fault). s >>= λ y. Ok (o ∷ y.0, y.1)) (ih owed os n front rest lt h p)
goes_on n o ops ih Bad front rest lt h p = absurd p

end_complete : (rest : List ℕ) → op_at (0x0b ∷ rest) ≡ Ok (op.End, rest)
end_complete rest = op_complete op.End (0x0b ∷ []) rest (λ l e. cc) refl

body_complete : (ops : List Op) → Completes ops
unfolding body_at
body_complete ops owed os zero front rest lt h p = absurd (omega arith)
body_complete [] owed os (suc n) front rest lt h p =
    let closed : body_at (suc n) 0 [] (0x0b ∷ rest) ≡ Ok ([], rest) = ap (λ (s : Result (Op × List ℕ) Fault). s >>= λ o. body_by (after o.0 0 []) o.0 o.1 (body_at n)) (end_complete rest) in
    ap (λ l. body_at (suc n) owed os (l ++ 0x0b ∷ rest)) h ∙ ap (λ w. body_at (suc n) w os (0x0b ∷ rest)) p.0 ∙ ap (λ s. body_at (suc n) 0 s (0x0b ∷ rest)) p.1 ∙ closed
body_complete (o ∷ ops) owed os (suc n) front rest lt h p =
    let e : front ++ 0x0b ∷ rest ≡ h.front ++ (h.back ++ 0x0b ∷ rest) = ap (λ l. l ++ 0x0b ∷ rest) h.whole ∙ append_assoc h.front h.back (0x0b ∷ rest) in
    let x : next_at owed (front ++ 0x0b ∷ rest) ≡ Ok (o, h.back ++ 0x0b ∷ rest) = ap (λ l. next_at owed l) e ∙ next_complete owed o h.front (h.back ++ 0x0b ∷ rest) p.0 h.first in
    ap (λ (s : Result (Op × List ℕ) Fault). s >>= λ o. body_by (after o.0 owed os) o.0 o.1 (body_at n)) x ∙ goes_on n o ops (body_complete ops) (after o owed os) h.back rest (omega (arith, lt)) h.second p.1

-- No instruction is without bytes.
none : (o : Op) → IsNoLabel o → IsOp o [] → ⊥
unfolding op_at
none o n h = let e : Err Malformed ≡ okay (o, []) = op_complete o [] [] n h in not_ok e

some : (o : Op) → IsOp o [] → ⊥
some (op.Plain p) h = none (op.Plain p) (λ l e. cc) h
some op.Unreachable h = none op.Unreachable (λ l e. cc) h
some (op.Block kind) h = none (op.Block kind) (λ l e. cc) h
some (op.Loop kind) h = none (op.Loop kind) (λ l e. cc) h
some (op.If kind) h = none (op.If kind) (λ l e. cc) h
some op.Else h = none op.Else (λ l e. cc) h
some op.End h = none op.End (λ l e. cc) h
some (op.Br l) h = none (op.Br l) (λ l e. cc) h
some (op.BrIf l) h = none (op.BrIf l) (λ l e. cc) h
some (op.BrTable count) h = none (op.BrTable count) (λ l e. cc) h
some (op.Target l) h = h.spells
some op.Return h = none op.Return (λ l e. cc) h
some (op.Call f) h = none (op.Call f) (λ l e. cc) h
some (op.CallIndirect t) h = none (op.CallIndirect t) (λ l e. cc) h

some_bytes : (o : Op) (bytes : List ℕ) → IsOp o bytes → 1 ≤ length bytes
some_bytes o [] h = absurd (some o h)
some_bytes o (b ∷ bs) h = omega arith

short : (ops : List Op) (front : List ℕ) → IsEach IsOp ops front → length ops ≤ length front
short [] front h = omega arith
short (o ∷ ops) front h =
    let i = short ops h.back h.second in
    let s = some_bytes o h.front h.first in
    omega (arith, i, s, ap length h.whole, length-append h.front h.back)

pub expression_exact : Exact IsExpression expression_at
unfolding expression_at
expression_exact = record {
  sound = λ bytes r e.
      let b = body_sound (length bytes) 0 [] bytes r e in
      record {
        front = b.front ++ 0x0b ∷ [];
        split = b.split ∙ sym (append_assoc b.front (0x0b ∷ []) r.1);
        spells = record { tree = b.nested.0; nested = b.nested.1; spells = record { front = b.front; back = 0x0b ∷ []; whole = refl; first = b.each; second = refl } };
      };
  complete = λ x front rest h.
      let s = h.spells in
      let e : front ++ rest ≡ s.front ++ 0x0b ∷ rest = ap (λ l. l ++ rest) (s.whole ∙ ap (λ l. s.front ++ l) s.second) ∙ append_assoc s.front (0x0b ∷ []) rest in
      let p : Passes 0 [] (flat h.tree ++ []) = flat_passes h.tree [] [] (refl, refl) in
      let q : flat h.tree ++ [] ≡ x = append_nil (flat h.tree) ∙ sym h.nested in
      let i = short x s.front s.first in
      let lt : length x < length (front ++ rest) = omega (arith, i, ap length e, length-append s.front (0x0b ∷ rest)) in
      ap (λ l. body_at (length (front ++ rest)) 0 [] l) e ∙ body_complete x 0 [] (length (front ++ rest)) s.front rest lt s.first (subst (λ o. Passes 0 [] o) q p);
}
