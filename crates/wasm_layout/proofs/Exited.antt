-- The pass from the end of the code finds the exits of the tree's blocks.
use Rattle.std.proofs.Common.{◌≡◌, ℕ, ◌+◌, List, [], ◌∷◌, ◌++◌, length, map, refl, ap, ◌∙◌, arith}
use Rattle.wasm_tree.specs.declared.op.Op.{Op}
use Rattle.wasm_tree.specs.declared.op.Op.TheVariants as op
use Rattle.wasm_tree.specs.Code.{Code, Stop, Then, Unreachable, Block, Loop, If, IfElse, Br, BrIf, BrTable, Return, Call, CallIndirect, flat}
use Rattle.wasm_steps.specs.Layout.{size}
use Rattle.wasm_layout.specs.declared.exits.Exit.{Exit}
use Rattle.wasm_layout.specs.declared.exits.Exits.{Exits}
use Rattle.wasm_layout.specs.Ends.{back, backs}

abbrev pub exit : ℕ → ℕ → Exit
exit otherwise end = record { otherwise = otherwise; end = end }

abbrev pub exits : ℕ → List Exit → List Exit → Exits
exits behind waiting found = record { behind = behind; «open» = waiting; found = found }

-- The exits of the blocks in the code, which has so many steps behind it, before more.
abbrev pub exits_of : Code → ℕ → List Exit → List Exit
exits_of Stop n more = more
exits_of (Then p rest) n more = exits_of rest n more
exits_of (Unreachable rest) n more = exits_of rest n more
exits_of (Block kind body rest) n more = exit (size rest + n) (size rest + n) ∷ exits_of body (size rest + n) (exits_of rest n more)
exits_of (Loop kind body rest) n more = exits_of body (size rest + n) (exits_of rest n more)
exits_of (If kind first rest) n more = exit (size rest + n) (size rest + n) ∷ exits_of first (size rest + n) (exits_of rest n more)
exits_of (IfElse kind first second rest) n more =
    exit (size second + (size rest + n)) (size rest + n) ∷ exits_of first (size second + (size rest + n) + 1) (exits_of second (size rest + n) (exits_of rest n more))
exits_of (Br l rest) n more = exits_of rest n more
exits_of (BrIf l rest) n more = exits_of rest n more
exits_of (BrTable labels last rest) n more = exits_of rest n more
exits_of (Return rest) n more = exits_of rest n more
exits_of (Call f rest) n more = exits_of rest n more
exits_of (CallIndirect x rest) n more = exits_of rest n more

backs_append : (a b : List Op) (e : Exits) → backs (a ++ b) e ≡ backs a (backs b e)
backs_append [] b e = refl
backs_append (o ∷ a) b e = ap (back o) (backs_append a b e)

targets : (ls : List ℕ) (n : ℕ) (os found : List Exit) → backs (map op.Target ls) (exits n os found) ≡ exits (length ls + n) os found
targets [] n os found = let e : n ≡ 0 + n = omega arith in ap (λ i. exits i os found) e
targets (l ∷ ls) n os found =
    let e : length ls + n + 1 ≡ length (l ∷ ls) + n = omega arith in
    ap (back (op.Target l)) (targets ls n os found) ∙ ap (λ i. exits i os found) e

pub exited : (c : Code) (n : ℕ) (os found : List Exit) → backs (flat c) (exits n os found) ≡ exits (size c + n) os (exits_of c n found)
exited Stop n os found = let e : n ≡ 0 + n = omega arith in ap (λ i. exits i os found) e
exited (Then p r) n os found =
    let e : size r + n + 1 ≡ 1 + size r + n = omega arith in ap (back (op.Plain p)) (exited r n os found) ∙ ap (λ i. exits i os (exits_of r n found)) e
exited (Unreachable r) n os found =
    let e : size r + n + 1 ≡ 1 + size r + n = omega arith in ap (back op.Unreachable) (exited r n os found) ∙ ap (λ i. exits i os (exits_of r n found)) e
exited (Block k b r) n os found =
    let x = exit (size r + n) (size r + n) in
    let split = backs_append (flat b) (op.End ∷ flat r) (exits n os found) in
    let last = ap (λ e. backs (flat b) (back op.End e)) (exited r n os found) in
    let inner = exited b (size r + n) (x ∷ os) (exits_of r n found) in
    let e : size b + (size r + n) + 1 ≡ 1 + size b + size r + n = omega arith in
    ap (back (op.Block k)) (split ∙ last ∙ inner) ∙ ap (λ i. exits i os (exits_of (Block k b r) n found)) e
exited (Loop k b r) n os found =
    let x = exit (size r + n) (size r + n) in
    let split = backs_append (flat b) (op.End ∷ flat r) (exits n os found) in
    let last = ap (λ e. backs (flat b) (back op.End e)) (exited r n os found) in
    let inner = exited b (size r + n) (x ∷ os) (exits_of r n found) in
    let e : size b + (size r + n) + 1 ≡ 1 + size b + size r + n = omega arith in
    ap (back (op.Loop k)) (split ∙ last ∙ inner) ∙ ap (λ i. exits i os (exits_of (Loop k b r) n found)) e
exited (If k b r) n os found =
    let x = exit (size r + n) (size r + n) in
    let split = backs_append (flat b) (op.End ∷ flat r) (exits n os found) in
    let last = ap (λ e. backs (flat b) (back op.End e)) (exited r n os found) in
    let inner = exited b (size r + n) (x ∷ os) (exits_of r n found) in
    let e : size b + (size r + n) + 1 ≡ 1 + size b + size r + n = omega arith in
    ap (back (op.If k)) (split ∙ last ∙ inner) ∙ ap (λ i. exits i os (exits_of (If k b r) n found)) e
exited (IfElse k a b r) n os found =
    let x = exit (size r + n) (size r + n) in
    let y = exit (size b + (size r + n)) (size r + n) in
    let split = backs_append (flat a) (op.Else ∷ (flat b ++ op.End ∷ flat r)) (exits n os found) in
    let split2 = backs_append (flat b) (op.End ∷ flat r) (exits n os found) in
    let last = ap (λ e. backs (flat b) (back op.End e)) (exited r n os found) in
    let second = split2 ∙ last ∙ exited b (size r + n) (x ∷ os) (exits_of r n found) in
    let first = exited a (size b + (size r + n) + 1) (y ∷ os) (exits_of b (size r + n) (exits_of r n found)) in
    let e : size a + (size b + (size r + n) + 1) + 1 ≡ 1 + size a + 1 + size b + size r + n = omega arith in
    ap (back (op.If k)) (split ∙ ap (λ e. backs (flat a) (back op.Else e)) second ∙ first) ∙ ap (λ i. exits i os (exits_of (IfElse k a b r) n found)) e
exited (Br l r) n os found =
    let e : size r + n + 1 ≡ 1 + size r + n = omega arith in ap (back (op.Br l)) (exited r n os found) ∙ ap (λ i. exits i os (exits_of r n found)) e
exited (BrIf l r) n os found =
    let e : size r + n + 1 ≡ 1 + size r + n = omega arith in ap (back (op.BrIf l)) (exited r n os found) ∙ ap (λ i. exits i os (exits_of r n found)) e
exited (BrTable ls last r) n os found =
    let split = backs_append (map op.Target ls) (op.Target last ∷ flat r) (exits n os found) in
    let one = ap (λ e. backs (map op.Target ls) (back (op.Target last) e)) (exited r n os found) in
    let all = targets ls (size r + n + 1) os (exits_of r n found) in
    let e : length ls + (size r + n + 1) + 1 ≡ 1 + (length ls + 1) + size r + n = omega arith in
    ap (back (op.BrTable (length ls))) (split ∙ one ∙ all) ∙ ap (λ i. exits i os (exits_of r n found)) e
exited (Return r) n os found =
    let e : size r + n + 1 ≡ 1 + size r + n = omega arith in ap (back op.Return) (exited r n os found) ∙ ap (λ i. exits i os (exits_of r n found)) e
exited (Call f r) n os found =
    let e : size r + n + 1 ≡ 1 + size r + n = omega arith in ap (back (op.Call f)) (exited r n os found) ∙ ap (λ i. exits i os (exits_of r n found)) e
exited (CallIndirect x r) n os found =
    let e : size r + n + 1 ≡ 1 + size r + n = omega arith in ap (back (op.CallIndirect x)) (exited r n os found) ∙ ap (λ i. exits i os (exits_of r n found)) e
