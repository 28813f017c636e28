-- The steps of typed code are laid out as a machine wants them.
use Rattle.std.proofs.Common.{◌≡◌, ℕ, ◌+◌, ◌-◌, ◌≤◌, max, List, [], ◌∷◌, ◌++◌, length, map, Option, Some, None, refl, sym, ap, ◌∙◌, subst, arith, length-append}
use Rattle.std.specs.Prelude.{slice_get, slice_index, reverse, option_map}
use Rattle.std.proofs.lemmas.List.{length-reverse}
use Rattle.std.proofs.lemmas.Option.{slice_get-map}
use Rattle.wasm_tree.specs.declared.types.ValueType.{ValueType}
use Rattle.wasm_tree.specs.declared.types.ValueType.TheVariants.{I32}
use Rattle.wasm_tree.specs.declared.op.Op.{Op}
use Rattle.wasm_tree.specs.declared.op.Op.TheVariants as op
use Rattle.wasm_tree.specs.declared.module_parts.Module.{Module}
use Rattle.wasm_tree.specs.Rules.{Context, every, results_of, type_of}
use Rattle.wasm_tree.specs.Typing.{IsTyped}
use Rattle.wasm_tree.specs.Exec.{label_at}
use Rattle.wasm_tree.specs.Code.{Code, Stop, Then, Unreachable, Block, Loop, If, IfElse, Br, BrIf, BrTable, Return, Call, CallIndirect, flat}
use Rattle.wasm_tree.specs.Frames.{taken, given, peak, nesting, params_count, results_count}
use Rattle.wasm_steps.specs.declared.step.Label.{Label}
use Rattle.wasm_steps.specs.declared.step.Step.{Step}
use Rattle.wasm_steps.specs.declared.step.Step.TheVariants as step
use Rattle.wasm_steps.specs.Layout.{size, Laid, IsBranch}
use Rattle.wasm_layout.specs.declared.arity.Arities.{Arities}
use Rattle.wasm_layout.specs.declared.exits.Exit.{Exit}
use Rattle.wasm_layout.specs.declared.pass.Open.{Open}
use Rattle.wasm_layout.specs.declared.pass.Body.{Body}
use Rattle.wasm_layout.specs.declared.pass.Pass.{Pass}
use Rattle.wasm_layout.specs.Arities.{count_of}
use Rattle.wasm_layout.specs.Passes.{step_at, or_no_label}
use Rattle.wasm_layout.proofs.Exited.{exits_of, exit}
use Rattle.wasm_layout.proofs.Passed.{pass, above, Agree, counted, keeps_of, kept_at, block_open, loop_open, plain_is, br_if_is, br_table_is, call_is, call_indirect_is, loop_is, block_is, if_is}
use Rattle.wasm_layout.proofs.Runs.{closed, turned, ran}
use Rattle.wasm_layout.proofs.Heights.{starts_few, changes, plain_heights, Keeps, Found, find_label, table_found}
use Rattle.wasm_layout.proofs.Emits.{At, Emits, emits_front, emits_back, emits_table}

results_few : (kind : Option ValueType) → length (results_of kind) ≤ 1
results_few None = omega arith
results_few (Some k) = omega arith

some_is_none : {A : Type 0} {x : A} → Some x ≡ None → ⊥
some_is_none e = cc

sides_fit : (y b c r room : ℕ) → max y (max b (max c r)) ≤ room → (b ≤ room) × (c ≤ room) × (r ≤ room)
sides_fit y b c r room e = (omega arith, omega arith, omega arith)

call_fits : (y r room : ℕ) → max y r ≤ room → (y ≤ room) × (r ≤ room)
call_fits y r room e = (omega arith, omega arith)

module _ (a : Arities) (m : Module) (agree : Agree a m) (body : Body) (final : List Step) (kinds outcome : List ValueType) (room : ℕ) (kept : count_of body.result ≡ length outcome) where
  abbrev pub context : List (List ValueType) → Context
  context labels = record { within = m; locals = kinds; labels = labels; results = outcome }

  abbrev pub labels_of : List Open → List Label
  labels_of os = map (λ o. o.label) os

  abbrev pub LaidAt : ℕ → List Open → ℕ → ℕ → ℕ → Code → Type 0
  LaidAt place os base results h c = Laid m final (length kinds) room (count_of body.result) place (labels_of os) base results h c

  abbrev Emitted : List Op → Pass → Type 0
  Emitted ops p = Emits final a body ops p

  branch : (os : List Open) (l h : ℕ) (r : List ValueType) (f : Found os l r) → length r ≤ h → IsBranch m final (length kinds) room (count_of body.result) (labels_of os) h l f.open.label
  branch os l h r f few = record {
    named = slice_get-map (λ o. o.label) os l ∙ ap (option_map (λ (o : Open). o.label)) f.there;
    held = omega (arith, f.keep);
    few = omega (arith, f.keep, f.few);
  }

  pub laid : (c : Code) (n : ℕ) (more : List Exit) (o : Open) (outer : List Open) (place h p k : ℕ) → place + size c + n ≡ body.finish → o.label.height + h ≤ p → length outer ≤ k
      → (labels : List (List ValueType)) (before after : List ValueType) → h ≡ length before → Keeps (o ∷ outer) labels → IsTyped every (context labels) before c after → peak m (keeps_of (o ∷ outer)) o.label.height h c ≤ room
      → Emitted (flat c) (pass place (exits_of c n more) (o ∷ outer) (o.label.height + h) p k) → LaidAt place (o ∷ outer) o.label.height (length after) h c
  laid Stop n more o outer place h p k fin low deep labels before after same keeps typed fits has = same ∙ ap length (typed tt)
  laid (Then q r) n more o outer place h p k fin low deep labels before after same keeps typed fits has =
      let x = plain_heights (context labels) q before typed.0 typed.1 in
      let h1 = h - taken q + given q in
      let up = above m (keeps_of (o ∷ outer)) o.label.height h1 r in
      let rest = subst (Emitted (flat r)) (plain_is a m agree body o outer place (exits_of r n more) h p k q) has.1 in (
        has.0,
        x.named,
        omega arith,
        omega arith,
        laid r n more o outer (place + 1) h1 (max p (o.label.height + h1)) k (omega arith) (omega arith) deep labels typed.0 after (omega arith) keeps typed.2 (omega arith) rest,
      )
  laid (Unreachable r) n more o outer place h p k fin low deep labels before after same keeps typed fits has = has.0
  laid (Block kind b r) n more o outer place h p k fin low deep labels before after same keeps typed fits has =
      let top = o.label.height + h in
      let to = place + 1 + size b in
      let inner = block_open to top kind in
      let n1 = length (results_of kind) in
      let up = above m (keeps_of (o ∷ outer)) o.label.height (h + n1) r in
      let up2 = above m (keeps_of (inner ∷ o ∷ outer)) top 0 b in
      let e = counted kind in
      let x = exits_of b (size r + n) (exits_of r n more) in
      let g = max (max p top) (peak m (keeps_of (inner ∷ o ∷ outer)) top 0 b) in
      let d = max (max k (length outer + 1)) (length (o ∷ outer) + nesting b) in
      let first = ran a m agree body b (size r + n) (exits_of r n more) inner (o ∷ outer) (place + 1) 0 (max p top) (max k (length outer + 1)) (omega arith) (omega arith) (omega arith) in
      let start = pass (place + 1) x (inner ∷ o ∷ outer) (top + 0) (max p top) (max k (length outer + 1)) in
      let here = subst (Emitted (flat b ++ op.End ∷ flat r)) (block_is a m agree body o outer place (exit (size r + n) (size r + n)) x h p k kind to (omega arith)) has.1 in
      let back = emits_back final a body (flat b) (op.End ∷ flat r) start here in
      let rest = subst (Emitted (flat r)) (closed a m agree body start (flat b) to (exits_of r n more) inner o outer top (h + n1) g d refl (omega arith) first) back.1 in
      let in_body = laid b (size r + n) (exits_of r n more) inner (o ∷ outer) (place + 1) 0 (max p top) (max k (length outer + 1)) (omega arith) (omega arith) (omega arith)
      (results_of kind ∷ labels) [] (results_of kind) refl (refl, results_few kind, keeps) typed.0 (omega arith) (emits_front final a body (flat b) (op.End ∷ flat r) start here) in (
        has.0,
        in_body,
        laid r n more o outer to (h + n1) (max g (o.label.height + (h + n1))) d (omega arith) (omega arith) (omega arith) labels (results_of kind ++ before) after
            (omega (arith, length-append (results_of kind) before)) keeps typed.1 (omega arith) rest,
      )
  laid (Loop kind b r) n more o outer place h p k fin low deep labels before after same keeps typed fits has =
      let top = o.label.height + h in
      let to = place + 1 + size b in
      let inner = loop_open place top kind in
      let n1 = length (results_of kind) in
      let up = above m (keeps_of (o ∷ outer)) o.label.height (h + n1) r in
      let up2 = above m (keeps_of (inner ∷ o ∷ outer)) top 0 b in
      let e = counted kind in
      let x = exits_of b (size r + n) (exits_of r n more) in
      let g = max (max p top) (peak m (keeps_of (inner ∷ o ∷ outer)) top 0 b) in
      let d = max (max k (length outer + 1)) (length (o ∷ outer) + nesting b) in
      let first = ran a m agree body b (size r + n) (exits_of r n more) inner (o ∷ outer) (place + 1) 0 (max p top) (max k (length outer + 1)) (omega arith) (omega arith) (omega arith) in
      let start = pass (place + 1) x (inner ∷ o ∷ outer) (top + 0) (max p top) (max k (length outer + 1)) in
      let here = subst (Emitted (flat b ++ op.End ∷ flat r)) (loop_is a m agree body o outer place x h p k kind) has.1 in
      let back = emits_back final a body (flat b) (op.End ∷ flat r) start here in
      let rest = subst (Emitted (flat r)) (closed a m agree body start (flat b) to (exits_of r n more) inner o outer top (h + n1) g d refl (omega arith) first) back.1 in (
        has.0,
        laid b (size r + n) (exits_of r n more) inner (o ∷ outer) (place + 1) 0 (max p top) (max k (length outer + 1)) (omega arith) (omega arith) (omega arith)
            ([] ∷ labels) [] (results_of kind) refl (refl, omega arith, keeps) typed.0 (omega arith) (emits_front final a body (flat b) (op.End ∷ flat r) start here),
        laid r n more o outer to (h + n1) (max g (o.label.height + (h + n1))) d (omega arith) (omega arith) (omega arith) labels (results_of kind ++ before) after
            (omega (arith, length-append (results_of kind) before)) keeps typed.1 (omega arith) rest,
      )
  laid (If (Some kind) b r) n more o outer place h p k fin low deep labels before after same keeps typed fits has = let e : Some kind ≡ None = typed.2 tt in absurd (some_is_none e)
  laid (If None b r) n more o outer place h p k fin low deep labels before after same keeps typed fits has =
      let t = changes (I32 ∷ []) [] before typed.0 typed.1 in
      let top = o.label.height + (h - 1) in
      let to = place + 1 + size b in
      let inner = block_open to top None in
      let up = above m (keeps_of (o ∷ outer)) o.label.height (h - 1 + 0) r in
      let up2 = above m (keeps_of (inner ∷ o ∷ outer)) top 0 b in
      let z : h - 1 + 0 ≡ h - 1 = omega arith in
      let x = exits_of b (size r + n) (exits_of r n more) in
      let g = max (max p top) (peak m (keeps_of (inner ∷ o ∷ outer)) top 0 b) in
      let d = max (max k (length outer + 1)) (length (o ∷ outer) + nesting b) in
      let first = ran a m agree body b (size r + n) (exits_of r n more) inner (o ∷ outer) (place + 1) 0 (max p top) (max k (length outer + 1)) (omega arith) (omega arith) (omega arith) in
      let start = pass (place + 1) x (inner ∷ o ∷ outer) (top + 0) (max p top) (max k (length outer + 1)) in
      let here = subst (Emitted (flat b ++ op.End ∷ flat r)) (if_is a m agree body o outer place (exit (size r + n) (size r + n)) x h p k None to (omega arith)) has.1 in
      let back = emits_back final a body (flat b) (op.End ∷ flat r) start here in
      let rest = subst (Emitted (flat r)) (closed a m agree body start (flat b) to (exits_of r n more) inner o outer top (h - 1) g d refl (omega arith) first) back.1 in
      let room' = subst (λ i. peak m (keeps_of (o ∷ outer)) o.label.height i r ≤ room) z (omega arith) in
      let up3 = above m (keeps_of (o ∷ outer)) o.label.height (h - 1) r in
      let target : body.finish - (size r + n) ≡ to = omega arith in (
        has.0 ∙ ap (λ i. Some (step.Test i)) target,
        refl,
        h - 1,
        omega arith,
        laid b (size r + n) (exits_of r n more) inner (o ∷ outer) (place + 1) 0 (max p top) (max k (length outer + 1)) (omega arith) (omega arith) (omega arith)
            ([] ∷ labels) [] [] refl (refl, omega arith, keeps) typed.3 (omega arith) (emits_front final a body (flat b) (op.End ∷ flat r) start here),
        laid r n more o outer to (h - 1) (max g (o.label.height + (h - 1))) d (omega arith) (omega arith) (omega arith) labels typed.0 after
            (omega arith) keeps typed.4 room' rest,
      )
  laid (IfElse kind b c r) n more o outer place h p k fin low deep labels before after same keeps typed fits has =
      let t = changes (I32 ∷ []) [] before typed.0 typed.1 in
      let top = o.label.height + (h - 1) in
      let mid = place + 1 + size b in
      let to = mid + 1 + size c in
      let inner = block_open to top kind in
      let n1 = length (results_of kind) in
      let up = above m (keeps_of (o ∷ outer)) o.label.height (h - 1 + n1) r in
      let up2 = above m (keeps_of (inner ∷ o ∷ outer)) top 0 b in
      let up3 = above m (keeps_of (inner ∷ o ∷ outer)) top 0 c in
      let e = counted kind in
      let x2 = exits_of c (size r + n) (exits_of r n more) in
      let x1 = exits_of b (size c + (size r + n) + 1) x2 in
      let k1 = max k (length outer + 1) in
      let first = ran a m agree body b (size c + (size r + n) + 1) x2 inner (o ∷ outer) (place + 1) 0 (max p top) k1 (omega arith) (omega arith) (omega arith) in
      let g1 = max (max p top) (peak m (keeps_of (inner ∷ o ∷ outer)) top 0 b) in
      let d1 = max k1 (length (o ∷ outer) + nesting b) in
      let second = ran a m agree body c (size r + n) (exits_of r n more) inner (o ∷ outer) (mid + 1) 0 (max g1 (top + 0)) d1 (omega arith) (omega arith) (omega arith) in
      let g2 = max (max g1 (top + 0)) (peak m (keeps_of (inner ∷ o ∷ outer)) top 0 c) in
      let d2 = max d1 (length (o ∷ outer) + nesting c) in
      let tail = flat c ++ op.End ∷ flat r in
      let start = pass (place + 1) x1 (inner ∷ o ∷ outer) (top + 0) (max p top) k1 in
      let start2 = pass (mid + 1) x2 (inner ∷ o ∷ outer) (top + 0) (max g1 (top + 0)) d1 in
      let here = subst (Emitted (flat b ++ op.Else ∷ tail)) (if_is a m agree body o outer place (exit (size c + (size r + n)) (size r + n)) x1 h p k kind to (omega arith)) has.1 in
      let other = emits_back final a body (flat b) (op.Else ∷ tail) start here in
      let jump = subst (λ s. At final a body s.place (step_at body s op.Else)) first.is other.0 in
      let here2 = subst (Emitted tail) (turned a m agree body start (flat b) mid x2 inner (o ∷ outer) top g1 d1 refl first) other.1 in
      let back = emits_back final a body (flat c) (op.End ∷ flat r) start2 here2 in
      let rest = subst (Emitted (flat r)) (closed a m agree body start2 (flat c) to (exits_of r n more) inner o outer top (h - 1 + n1) g2 d2 refl (omega arith) second) back.1 in
      let room_b = sides_fit (o.label.height + h) (peak m (keeps_of (inner ∷ o ∷ outer)) top 0 b) (peak m (keeps_of (inner ∷ o ∷ outer)) top 0 c) (peak m (keeps_of (o ∷ outer)) o.label.height (h - 1 + n1) r) room fits in
      let target : body.finish - (size c + (size r + n)) ≡ mid + 1 = omega arith in
      let one = laid b (size c + (size r + n) + 1) x2 inner (o ∷ outer) (place + 1) 0 (max p top) k1 (omega arith) (omega arith) (omega arith)
      (results_of kind ∷ labels) [] (results_of kind) refl (refl, results_few kind, keeps) typed.2 room_b.0 (emits_front final a body (flat b) (op.Else ∷ tail) start here) in
      let two = laid c (size r + n) (exits_of r n more) inner (o ∷ outer) (mid + 1) 0 (max g1 (top + 0)) d1 (omega arith) (omega arith) (omega arith)
      (results_of kind ∷ labels) [] (results_of kind) refl (refl, results_few kind, keeps) typed.3 room_b.1 (emits_front final a body (flat c) (op.End ∷ flat r) start2 here2) in (
        has.0 ∙ ap (λ i. Some (step.Test i)) target,
        h - 1,
        omega arith,
        one,
        jump,
        two,
        laid r n more o outer to (h - 1 + n1) (max g2 (o.label.height + (h - 1 + n1))) d2 (omega arith) (omega arith) (omega arith) labels (results_of kind ++ typed.0) after
            (omega (arith, length-append (results_of kind) typed.0)) keeps typed.4 room_b.2 rest,
      )
  laid (Br l r) n more o outer place h p k fin low deep labels before after same keeps typed fits has =
      let f = find_label (o ∷ outer) labels l typed.0 keeps (typed.1.there tt) in
      let s = starts_few (typed.2 tt) in
      (f.open.label, has.0 ∙ ap (λ i. Some (step.Br (or_no_label i))) f.there, branch (o ∷ outer) l h typed.0 f (omega arith))
  laid (BrIf l r) n more o outer place h p k fin low deep labels before after same keeps typed fits has =
      let f = find_label (o ∷ outer) labels l typed.0 keeps (typed.1.there tt) in
      let t = changes (I32 ∷ typed.0) typed.0 before typed.2 typed.3 in
      let n1 = slice_index (keeps_of (o ∷ outer)) l in
      let h1 = h - (1 + n1) + n1 in
      let kept : n1 ≡ length typed.0 = sym (kept_at (o ∷ outer) l) ∙ ap (λ i. (or_no_label i).keep) f.there ∙ f.keep in
      let up = above m (keeps_of (o ∷ outer)) o.label.height h1 r in
      let rest = subst (Emitted (flat r)) (br_if_is a m agree body o outer place (exits_of r n more) h p k l) has.1 in (
        f.open.label,
        has.0 ∙ ap (λ i. Some (step.BrIf (or_no_label i))) f.there,
        h1,
        omega arith,
        branch (o ∷ outer) l h1 typed.0 f (omega arith),
        laid r n more o outer (place + 1) h1 (max p (o.label.height + h1)) k (omega arith) (omega arith) deep labels typed.2 after (omega arith) keeps typed.4 (omega arith) rest,
      )
  laid (BrTable ls last r) n more o outer place h p k fin low deep labels before after same keeps typed fits has =
      let s = starts_few (typed.3 tt) in
      let x = exits_of r n more in
      let p1 = max p (o.label.height + 0) in
      let here = subst (Emitted (map op.Target ls ++ op.Target last ∷ flat r)) (br_table_is a m agree body o outer place x h p k (length ls)) has.1 in (
        has.0,
        h - 1,
        omega arith,
        λ i few.
            let f = find_label (o ∷ outer) labels (label_at ls last i) typed.0 keeps (table_found labels typed.0 ls last i few typed.2 (typed.1.there tt)) in (
              f.open.label,
              emits_table final a body ls last (flat r) (place + 1) x (o ∷ outer) (o.label.height + 0) p1 k here i few ∙ ap (λ i. Some (step.Entry (or_no_label i))) f.there,
              branch (o ∷ outer) (label_at ls last i) (h - 1) typed.0 f (omega arith),
            ),
      )
  laid (Return r) n more o outer place h p k fin low deep labels before after same keeps typed fits has =
      let s = starts_few (typed.0 tt) in (has.0, omega arith)
  laid (Call f r) n more o outer place h p k fin low deep labels before after same keeps typed fits has =
      let t = typed.0 in
      let is : type_of m f ≡ Some t = typed.1.there tt in
      let x = changes (reverse t.params) (reverse t.results) before typed.2 typed.3 in
      let rp = length-reverse t.params in
      let rr = length-reverse t.results in
      let h1 = h - length t.params + length t.results in
      let e : h - params_count (type_of m f) + results_count (type_of m f) ≡ h1 = ap (λ i. h - params_count i + results_count i) is in
      let rest = subst (λ i. Emitted (flat r) (pass (place + 1) (exits_of r n more) (o ∷ outer) (o.label.height + i) (max p (o.label.height + i)) k)) e
      (subst (Emitted (flat r)) (call_is a m agree body o outer place (exits_of r n more) h p k f) has.1) in
      let fits1 = call_fits (o.label.height + h) (peak m (keeps_of (o ∷ outer)) o.label.height (h - params_count (type_of m f) + results_count (type_of m f)) r) room fits in
      let fits2 = subst (λ i. peak m (keeps_of (o ∷ outer)) o.label.height i r ≤ room) e fits1.1 in
      let up = above m (keeps_of (o ∷ outer)) o.label.height h1 r in (
        has.0,
        t,
        is,
        omega arith,
        fits1.0,
        omega arith,
        laid r n more o outer (place + 1) h1 (max p (o.label.height + h1)) k (omega arith) (omega arith) deep labels typed.2 after (omega arith) keeps typed.4 fits2 rest,
      )
  laid (CallIndirect y r) n more o outer place h p k fin low deep labels before after same keeps typed fits has =
      let t = typed.1 in
      let is : slice_get m.types y ≡ Some t = typed.2.there tt in
      let x = changes (I32 ∷ reverse t.params) (reverse t.results) before typed.3 typed.4 in
      let rp = length-reverse t.params in
      let rr = length-reverse t.results in
      let h1 = h - 1 - length t.params + length t.results in
      let e : h - 1 - params_count (slice_get m.types y) + results_count (slice_get m.types y) ≡ h1 = ap (λ i. h - 1 - params_count i + results_count i) is in
      let rest = subst (λ i. Emitted (flat r) (pass (place + 1) (exits_of r n more) (o ∷ outer) (o.label.height + i) (max p (o.label.height + i)) k)) e
      (subst (Emitted (flat r)) (call_indirect_is a m agree body o outer place (exits_of r n more) h p k y) has.1) in
      let fits1 = call_fits (o.label.height + h) (peak m (keeps_of (o ∷ outer)) o.label.height (h - 1 - params_count (slice_get m.types y) + results_count (slice_get m.types y)) r) room fits in
      let fits2 = subst (λ i. peak m (keeps_of (o ∷ outer)) o.label.height i r ≤ room) e fits1.1 in
      let up = above m (keeps_of (o ∷ outer)) o.label.height h1 r in (
        has.0,
        t,
        is,
        omega arith,
        fits1.0,
        omega arith,
        laid r n more o outer (place + 1) h1 (max p (o.label.height + h1)) k (omega arith) (omega arith) deep labels typed.3 after (omega arith) keeps typed.5 fits2 rest,
      )
