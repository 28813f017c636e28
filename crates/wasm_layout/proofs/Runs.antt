-- What a pass through the code of a tree leaves.
use Rattle.std.proofs.Common.{◌≡◌, ℕ, suc, ◌+◌, ◌-◌, ◌≤◌, max, List, [], ◌∷◌, ◌++◌, length, map, refl, ap, ◌∙◌, arith}
use Rattle.std.specs.Prelude.{slice_get, slice_index}
use Rattle.wasm_tree.specs.declared.op.Op.{Op}
use Rattle.wasm_tree.specs.declared.op.Op.TheVariants as op
use Rattle.wasm_tree.specs.declared.module_parts.Module.{Module}
use Rattle.wasm_tree.specs.Rules.{results_of, type_of}
use Rattle.wasm_tree.specs.Code.{Code, Stop, Then, Unreachable, Block, Loop, If, IfElse, Br, BrIf, BrTable, Return, Call, CallIndirect, flat}
use Rattle.wasm_tree.specs.Frames.{taken, given, peak, nesting, params_count, results_count}
use Rattle.wasm_steps.specs.Layout.{size}
use Rattle.wasm_layout.specs.declared.arity.Arities.{Arities}
use Rattle.wasm_layout.specs.declared.exits.Exit.{Exit}
use Rattle.wasm_layout.specs.declared.pass.Open.{Open}
use Rattle.wasm_layout.specs.declared.pass.Body.{Body}
use Rattle.wasm_layout.specs.declared.pass.Pass.{Pass}
use Rattle.wasm_layout.specs.Arities.{count_of}
use Rattle.wasm_layout.specs.Passes.{close, advance, advances}
use Rattle.wasm_layout.proofs.Exited.{exits_of, exit}
use Rattle.wasm_layout.proofs.Passed.{pass, same_pass, above, Agree, counted, keeps_of, block_open, loop_open, advances_append, Ran, again, plain_is, unreachable_is, br_is, br_if_is, br_table_is, return_is, else_is, call_is, call_indirect_is, loop_is, close_is, block_is, if_is}

-- The greatest of both sides of an `if` and what follows.
peaks_of_sides : (p t b c x r y : ℕ) → t ≤ b → t ≤ c → x ≤ r → y ≤ p → max (max (max (max (max (max p t) b) (t + 0)) c) x) r ≡ max p (max y (max b (max c r)))
peaks_of_sides p t b c x r y e f g h =
    let i : max (max p t) b ≡ max p b = omega arith in
    let j : max (max (max p b) (t + 0)) c ≡ max (max p b) c = omega arith in
    let k : max (max (max (max p b) c) x) r ≡ max (max (max p b) c) r = omega arith in
    let l : max (max (max p b) c) r ≡ max p (max b (max c r)) = omega arith in
    let n : max p (max b (max c r)) ≡ max p (max y (max b (max c r))) = omega arith in
    rw (i, j, k) (l ∙ n)

blocks_of_sides : (k l b c r : ℕ) → l ≤ k → max (max (max (max k (l + 1)) (suc l + b)) (suc l + c)) (l + r) ≡ max k (l + max (1 + b) (max (1 + c) r))
blocks_of_sides k l b c r e =
    let i : max (max k (l + 1)) (suc l + b) ≡ max k (l + (1 + b)) = omega arith in
    let j : max (max k (l + (1 + b))) (suc l + c) ≡ max k (l + max (1 + b) (1 + c)) = omega arith in
    let n : max (max k (l + max (1 + b) (1 + c))) (l + r) ≡ max k (l + max (1 + b) (max (1 + c) r)) = omega arith in
    rw (i, j) n

module _ (a : Arities) (m : Module) (agree : Agree a m) (body : Body) where
  -- A block that began ends, and its results are there.
  pub closed : (s : Pass) (ops : List Op) (place : ℕ) (exits : List Exit) (inner o : Open) (outer : List Open) (top n g b : ℕ) → inner.label.height ≡ top → top + count_of inner.result ≡ o.label.height + n
      → Ran a m agree body s ops place exits (inner ∷ o ∷ outer) top g b
      → close (advances a body ops s) ≡ pass place exits (o ∷ outer) (o.label.height + n) (max g (o.label.height + n)) b
  closed s ops place exits inner o outer top n g b e f r =
      let i : top + r.height ≡ inner.label.height + r.height = omega arith in
      ap close (r.is ∙ ap (λ t. pass place exits (inner ∷ o ∷ outer) t g b) i)
      ∙ close_is a m agree body inner (o ∷ outer) place exits r.height g b o outer n refl (omega arith)

  -- The first side of an `if` ends.
  pub turned : (s : Pass) (ops : List Op) (place : ℕ) (exits : List Exit) (inner : Open) (outer : List Open) (top g b : ℕ) → inner.label.height ≡ top
      → Ran a m agree body s ops place exits (inner ∷ outer) top g b
      → advance a body op.Else (advances a body ops s) ≡ pass (place + 1) exits (inner ∷ outer) (top + 0) (max g (top + 0)) b
  turned s ops place exits inner outer top g b e r =
      let i : top + r.height ≡ inner.label.height + r.height = omega arith in
      let j : inner.label.height + 0 ≡ top + 0 = omega arith in
      ap (advance a body op.Else) (r.is ∙ ap (λ t. pass place exits (inner ∷ outer) t g b) i)
      ∙ else_is a m agree body inner outer place exits r.height g b ∙ ap (λ t. pass (place + 1) exits (inner ∷ outer) t (max g t) b) j

  -- A block from its beginning, and the code behind it.
  pub block_ran : (s : Pass) (ops more : List Op) (place : ℕ) (exits : List Exit) (inner o : Open) (outer : List Open) (top n g b : ℕ) → inner.label.height ≡ top → top + count_of inner.result ≡ o.label.height + n
      → {pl g' b' : ℕ} {ex : List Exit} → Ran a m agree body s ops place exits (inner ∷ o ∷ outer) top g b
      → Ran a m agree body (pass place exits (o ∷ outer) (o.label.height + n) (max g (o.label.height + n)) b) more pl ex (o ∷ outer) o.label.height g' b'
      → Ran a m agree body s (ops ++ op.End ∷ more) pl ex (o ∷ outer) o.label.height g' b'
  block_ran s ops more place exits inner o outer top n g b e f r next = record {
    height = next.height;
    is = advances_append a m agree body ops (op.End ∷ more) s ∙ ap (advances a body more) (closed s ops place exits inner o outer top n g b e f r) ∙ next.is;
  }

  pub else_ran : (s : Pass) (ops more : List Op) (place : ℕ) (exits : List Exit) (inner : Open) (outer opens : List Open) (top base g b : ℕ) → inner.label.height ≡ top
      → {pl g' b' : ℕ} {ex : List Exit} → Ran a m agree body s ops place exits (inner ∷ outer) top g b
      → Ran a m agree body (pass (place + 1) exits (inner ∷ outer) (top + 0) (max g (top + 0)) b) more pl ex opens base g' b'
      → Ran a m agree body s (ops ++ op.Else ∷ more) pl ex opens base g' b'
  else_ran s ops more place exits inner outer opens top base g b e r next = record {
    height = next.height;
    is = advances_append a m agree body ops (op.Else ∷ more) s ∙ ap (advances a body more) (turned s ops place exits inner outer top g b e r) ∙ next.is;
  }

  -- The labels of a table are passed one by one.
  pub table_ran : (ls : List ℕ) (o : Open) (outer : List Open) (place : ℕ) (exits : List Exit) (h p k : ℕ) → o.label.height + h ≤ p
      → advances a body (map op.Target ls) (pass place exits (o ∷ outer) (o.label.height + h) p k) ≡ pass (place + length ls) exits (o ∷ outer) (o.label.height + h) p k
  table_ran [] o outer place exits h p k low = same_pass exits (o ∷ outer) (omega arith) refl refl refl
  table_ran (l ∷ ls) o outer place exits h p k low =
      ap (advances a body (map op.Target ls)) (same_pass exits (o ∷ outer) refl refl (omega arith) refl)
      ∙ table_ran ls o outer (place + 1) exits h p k low ∙ same_pass exits (o ∷ outer) (omega arith) refl refl refl

  pub ran : (c : Code) (n : ℕ) (more : List Exit) (o : Open) (outer : List Open) (place h p k : ℕ) → place + size c + n ≡ body.finish → o.label.height + h ≤ p → length outer ≤ k
      → Ran a m agree body (pass place (exits_of c n more) (o ∷ outer) (o.label.height + h) p k) (flat c) (place + size c) more (o ∷ outer) o.label.height
      (max p (peak m (keeps_of (o ∷ outer)) o.label.height h c)) (max k (length outer + nesting c))
  ran Stop n more o outer place h p k fin low deep =
      record { height = h; is = same_pass more (o ∷ outer) (omega arith) refl (omega arith) (omega arith) }
  ran (Then q r) n more o outer place h p k fin low deep =
      let h1 = h - taken q + given q in
      let up = above m (keeps_of (o ∷ outer)) o.label.height h1 r in
      again a m agree body (op.Plain q) (plain_is a m agree body o outer place (exits_of r n more) h p k q)
      (ran r n more o outer (place + 1) h1 (max p (o.label.height + h1)) k (omega arith) (omega arith) deep) (omega arith) (omega arith) refl
  ran (Unreachable r) n more o outer place h p k fin low deep =
      let up = above m (keeps_of (o ∷ outer)) o.label.height 0 r in
      again a m agree body op.Unreachable (unreachable_is a m agree body o outer place (exits_of r n more) h p k)
      (ran r n more o outer (place + 1) 0 (max p (o.label.height + 0)) k (omega arith) (omega arith) deep) (omega arith) (omega arith) refl
  ran (Block kind b r) n more o outer place h p k fin low deep =
      let top = o.label.height + h in
      let to = place + 1 + size b in
      let inner = block_open to top kind in
      let n1 = length (results_of kind) in
      let up = above m (keeps_of (o ∷ outer)) o.label.height (h + n1) r in
      let up2 = above m (keeps_of (inner ∷ o ∷ outer)) top 0 b in
      let e = counted kind in
      let first = ran b (size r + n) (exits_of r n more) inner (o ∷ outer) (place + 1) 0 (max p top) (max k (length outer + 1)) (omega arith) (omega arith) (omega arith) in
      let g = max (max p top) (peak m (keeps_of (inner ∷ o ∷ outer)) top 0 b) in
      let d = max (max k (length outer + 1)) (length (o ∷ outer) + nesting b) in
      let rest = ran r n more o outer to (h + n1) (max g (o.label.height + (h + n1))) d (omega arith) (omega arith) (omega arith) in
      again a m agree body (op.Block kind) (block_is a m agree body o outer place (exit (size r + n) (size r + n)) (exits_of b (size r + n) (exits_of r n more)) h p k kind to (omega arith))
      (block_ran _ (flat b) (flat r) to (exits_of r n more) inner o outer top (h + n1) g d refl (omega arith) first rest) (omega arith) (omega arith) (omega arith)
  ran (Loop kind b r) n more o outer place h p k fin low deep =
      let top = o.label.height + h in
      let to = place + 1 + size b in
      let inner = loop_open place top kind in
      let n1 = length (results_of kind) in
      let up = above m (keeps_of (o ∷ outer)) o.label.height (h + n1) r in
      let up2 = above m (keeps_of (inner ∷ o ∷ outer)) top 0 b in
      let e = counted kind in
      let first = ran b (size r + n) (exits_of r n more) inner (o ∷ outer) (place + 1) 0 (max p top) (max k (length outer + 1)) (omega arith) (omega arith) (omega arith) in
      let g = max (max p top) (peak m (keeps_of (inner ∷ o ∷ outer)) top 0 b) in
      let d = max (max k (length outer + 1)) (length (o ∷ outer) + nesting b) in
      let rest = ran r n more o outer to (h + n1) (max g (o.label.height + (h + n1))) d (omega arith) (omega arith) (omega arith) in
      again a m agree body (op.Loop kind) (loop_is a m agree body o outer place (exits_of b (size r + n) (exits_of r n more)) h p k kind)
      (block_ran _ (flat b) (flat r) to (exits_of r n more) inner o outer top (h + n1) g d refl (omega arith) first rest) (omega arith) (omega arith) (omega arith)
  ran (If kind b r) n more o outer place h p k fin low deep =
      let top = o.label.height + (h - 1) in
      let to = place + 1 + size b in
      let inner = block_open to top kind in
      let n1 = length (results_of kind) in
      let up = above m (keeps_of (o ∷ outer)) o.label.height (h - 1 + n1) r in
      let up2 = above m (keeps_of (inner ∷ o ∷ outer)) top 0 b in
      let e = counted kind in
      let first = ran b (size r + n) (exits_of r n more) inner (o ∷ outer) (place + 1) 0 (max p top) (max k (length outer + 1)) (omega arith) (omega arith) (omega arith) in
      let g = max (max p top) (peak m (keeps_of (inner ∷ o ∷ outer)) top 0 b) in
      let d = max (max k (length outer + 1)) (length (o ∷ outer) + nesting b) in
      let rest = ran r n more o outer to (h - 1 + n1) (max g (o.label.height + (h - 1 + n1))) d (omega arith) (omega arith) (omega arith) in
      again a m agree body (op.If kind) (if_is a m agree body o outer place (exit (size r + n) (size r + n)) (exits_of b (size r + n) (exits_of r n more)) h p k kind to (omega arith))
      (block_ran _ (flat b) (flat r) to (exits_of r n more) inner o outer top (h - 1 + n1) g d refl (omega arith) first rest) (omega arith) (omega arith) (omega arith)
  ran (IfElse kind b c r) n more o outer place h p k fin low deep =
      let top = o.label.height + (h - 1) in
      let mid = place + 1 + size b in
      let to = mid + 1 + size c in
      let inner = block_open to top kind in
      let n1 = length (results_of kind) in
      let up = above m (keeps_of (o ∷ outer)) o.label.height (h - 1 + n1) r in
      let up2 = above m (keeps_of (inner ∷ o ∷ outer)) top 0 b in
      let up3 = above m (keeps_of (inner ∷ o ∷ outer)) top 0 c in
      let e = counted kind in
      let x2 = exits_of c (size r + n) (exits_of r n more) in
      let first = ran b (size c + (size r + n) + 1) x2 inner (o ∷ outer) (place + 1) 0 (max p top) (max k (length outer + 1)) (omega arith) (omega arith) (omega arith) in
      let g1 = max (max p top) (peak m (keeps_of (inner ∷ o ∷ outer)) top 0 b) in
      let d1 = max (max k (length outer + 1)) (length (o ∷ outer) + nesting b) in
      let second = ran c (size r + n) (exits_of r n more) inner (o ∷ outer) (mid + 1) 0 (max g1 (top + 0)) d1 (omega arith) (omega arith) (omega arith) in
      let g2 = max (max g1 (top + 0)) (peak m (keeps_of (inner ∷ o ∷ outer)) top 0 c) in
      let d2 = max d1 (length (o ∷ outer) + nesting c) in
      let rest = ran r n more o outer to (h - 1 + n1) (max g2 (o.label.height + (h - 1 + n1))) d2 (omega arith) (omega arith) (omega arith) in
      again a m agree body (op.If kind) (if_is a m agree body o outer place (exit (size c + (size r + n)) (size r + n)) (exits_of b (size c + (size r + n) + 1) x2) h p k kind to (omega arith))
      (else_ran _ (flat b) (flat c ++ op.End ∷ flat r) mid x2 inner (o ∷ outer) (o ∷ outer) top o.label.height g1 d1 refl first
      (block_ran _ (flat c) (flat r) to (exits_of r n more) inner o outer top (h - 1 + n1) g2 d2 refl (omega arith) second rest)) (omega arith)
      (peaks_of_sides p top (peak m (keeps_of (inner ∷ o ∷ outer)) top 0 b) (peak m (keeps_of (inner ∷ o ∷ outer)) top 0 c) (o.label.height + (h - 1 + n1)) (peak m (keeps_of (o ∷ outer)) o.label.height (h - 1 + n1) r) (o.label.height + h) (omega arith) (omega arith) (omega arith) low)
      (blocks_of_sides k (length outer) (nesting b) (nesting c) (nesting r) deep)
  ran (Br l r) n more o outer place h p k fin low deep =
      let up = above m (keeps_of (o ∷ outer)) o.label.height 0 r in
      again a m agree body (op.Br l) (br_is a m agree body o outer place (exits_of r n more) h p k l)
      (ran r n more o outer (place + 1) 0 (max p (o.label.height + 0)) k (omega arith) (omega arith) deep) (omega arith) (omega arith) refl
  ran (BrIf l r) n more o outer place h p k fin low deep =
      let n1 = slice_index (keeps_of (o ∷ outer)) l in
      let h1 = h - (1 + n1) + n1 in
      let up = above m (keeps_of (o ∷ outer)) o.label.height h1 r in
      again a m agree body (op.BrIf l) (br_if_is a m agree body o outer place (exits_of r n more) h p k l)
      (ran r n more o outer (place + 1) h1 (max p (o.label.height + h1)) k (omega arith) (omega arith) deep) (omega arith) (omega arith) refl
  ran (BrTable ls last r) n more o outer place h p k fin low deep =
      let up = above m (keeps_of (o ∷ outer)) o.label.height 0 r in
      let x = exits_of r n more in
      let p1 = max p (o.label.height + 0) in
      let first = br_table_is a m agree body o outer place x h p k (length ls) in
      let second = table_ran ls o outer (place + 1) x 0 p1 k (omega arith) in
      let third = ap (advance a body (op.Target last)) (ap (advances a body (map op.Target ls)) first ∙ second)
      ∙ same_pass x (o ∷ outer) {pl' = place + 1 + length ls + 1} {pk' = p1} refl refl (omega arith) refl in
      let rest = ran r n more o outer (place + 1 + length ls + 1) 0 p1 k (omega arith) (omega arith) deep in
      record {
        height = rest.height;
        is = advances_append a m agree body (map op.Target ls) (op.Target last ∷ flat r) (advance a body (op.BrTable (length ls)) (pass place x (o ∷ outer) (o.label.height + h) p k))
            ∙ ap (advances a body (flat r)) third ∙ rest.is ∙ same_pass more (o ∷ outer) (omega arith) refl (omega arith) refl;
      }
  ran (Return r) n more o outer place h p k fin low deep =
      let up = above m (keeps_of (o ∷ outer)) o.label.height 0 r in
      again a m agree body op.Return (return_is a m agree body o outer place (exits_of r n more) h p k)
      (ran r n more o outer (place + 1) 0 (max p (o.label.height + 0)) k (omega arith) (omega arith) deep) (omega arith) (omega arith) refl
  ran (Call f r) n more o outer place h p k fin low deep =
      let h1 = h - params_count (type_of m f) + results_count (type_of m f) in
      let up = above m (keeps_of (o ∷ outer)) o.label.height h1 r in
      again a m agree body (op.Call f) (call_is a m agree body o outer place (exits_of r n more) h p k f)
      (ran r n more o outer (place + 1) h1 (max p (o.label.height + h1)) k (omega arith) (omega arith) deep) (omega arith) (omega arith) refl
  ran (CallIndirect x r) n more o outer place h p k fin low deep =
      let h1 = h - 1 - params_count (slice_get m.types x) + results_count (slice_get m.types x) in
      let up = above m (keeps_of (o ∷ outer)) o.label.height h1 r in
      again a m agree body (op.CallIndirect x) (call_indirect_is a m agree body o outer place (exits_of r n more) h p k x)
      (ran r n more o outer (place + 1) h1 (max p (o.label.height + h1)) k (omega arith) (omega arith) deep) (omega arith) (omega arith) refl
