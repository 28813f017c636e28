-- The steps of instructions stand where the pass has its places.
use Rattle.std.proofs.Common.{◌≡◌, ℕ, zero, suc, ◌+◌, ◌<◌, ◌≤◌, List, [], ◌∷◌, ◌++◌, length, map, Option, Some, None, refl, sym, ap, ◌∙◌, subst, arith, append_assoc, length-append}
use Rattle.std.specs.Prelude.{slice_get}
use Rattle.std.proofs.Math.Seq.{get_or-append_seam}
use Rattle.std.proofs.lemmas.Option.{slice_get-get_or}
use Rattle.wasm_tree.specs.declared.op.Op.{Op}
use Rattle.wasm_tree.specs.declared.op.Op.TheVariants as op
use Rattle.wasm_tree.specs.Exec.{label_at}
use Rattle.wasm_steps.specs.declared.step.Step.{Step}
use Rattle.wasm_steps.specs.declared.step.Step.TheVariants as step
use Rattle.wasm_layout.specs.declared.arity.Arities.{Arities}
use Rattle.wasm_layout.specs.declared.exits.Exit.{Exit}
use Rattle.wasm_layout.specs.declared.pass.Open.{Open}
use Rattle.wasm_layout.specs.declared.pass.Body.{Body}
use Rattle.wasm_layout.specs.declared.pass.Pass.{Pass}
use Rattle.wasm_layout.specs.Passes.{step_at, advance, advances, one, steps_of}
use Rattle.wasm_layout.specs.Passes as passes
use Rattle.wasm_layout.proofs.Passed.{pass}

module _ (final : List Step) (a : Arities) (body : Body) where
  abbrev pub At : ℕ → Option Step → Type 0
  At place None = Unit {0}
  At place (Some s) = slice_get final place ≡ Some s

  abbrev pub Emits : List Op → Pass → Type 0
  Emits [] p = Unit {0}
  Emits (o ∷ ops) p = At p.place (step_at body p o) × Emits ops (advance a body o p)

  pub emits_front : (x y : List Op) (p : Pass) → Emits (x ++ y) p → Emits x p
  emits_front [] y p e = tt
  emits_front (o ∷ x) y p e = (e.0, emits_front x y (advance a body o p) e.1)

  pub emits_back : (x y : List Op) (p : Pass) → Emits (x ++ y) p → Emits y (advances a body x p)
  emits_back [] y p e = e
  emits_back (o ∷ x) y p e = emits_back x y (advance a body o p) e.1

  -- The entries of a table.
  pub emits_table : (ls : List ℕ) (last : ℕ) (ops : List Op) (place : ℕ) (exits : List Exit) (os : List Open) (top p k : ℕ) → Emits (map op.Target ls ++ op.Target last ∷ ops) (pass place exits os top p k)
      → (i : ℕ) → i ≤ length ls → slice_get final (place + i) ≡ Some (step.Entry (passes.label_at os (label_at ls last i)))
  emits_table [] last ops place exits os top p k e i few = let n : place ≡ place + i = omega arith in subst (λ j. slice_get final j ≡ Some (step.Entry (passes.label_at os last))) n e.0
  emits_table (l ∷ ls) last ops place exits os top p k e zero few = let n : place ≡ place + 0 = omega arith in subst (λ j. slice_get final j ≡ Some (step.Entry (passes.label_at os l))) n e.0
  emits_table (l ∷ ls) last ops place exits os top p k e (suc i) few =
      let n : place + 1 + i ≡ place + suc i = omega arith in
      subst (λ j. slice_get final j ≡ Some (step.Entry (passes.label_at os (label_at ls last i)))) n (emits_table ls last ops (place + 1) exits os top _ k e.1 i (omega arith))

-- A place moves on by the step that stands there.
placed : (a : Arities) (body : Body) (o : Op) (p : Pass) → (advance a body o p).place ≡ p.place + length (one (step_at body p o))
placed a body (op.Plain q) p = refl
placed a body op.Unreachable p = refl
placed a body (op.Block kind) p = refl
placed a body (op.Loop kind) p = refl
placed a body (op.If kind) p = refl
placed a body op.Else p = refl
placed a body op.End p = omega arith
placed a body (op.Br l) p = refl
placed a body (op.BrIf l) p = refl
placed a body (op.BrTable n) p = refl
placed a body (op.Target l) p = refl
placed a body op.Return p = refl
placed a body (op.Call f) p = refl
placed a body (op.CallIndirect t) p = refl

pub ended_place : (a : Arities) (body : Body) (ops : List Op) (p : Pass) → (advances a body ops p).place ≡ p.place + length (steps_of a body ops p)
ended_place a body [] p = omega arith
ended_place a body (o ∷ ops) p =
    omega (arith, ended_place a body ops (advance a body o p), placed a body o p, length-append (one (step_at body p o)) (steps_of a body ops (advance a body o p)))

pub at_seam : (front : List Step) (s : Step) (more : List Step) (place : ℕ) → place ≡ length front → slice_get (front ++ s ∷ more) place ≡ Some s
at_seam front s more place e =
    let within : length front < length (front ++ s ∷ more) = omega (arith, length-append front (s ∷ more)) in
    let here = slice_get-get_or (front ++ s ∷ more) (length front) s within ∙ ap Some (get_or-append_seam front s more s) in
    subst (λ i. slice_get (front ++ s ∷ more) i ≡ Some s) (sym e) here

at_one : (a : Arities) (body : Body) (front : List Step) (s : Option Step) (more : List Step) (place : ℕ) → place ≡ length front → At (front ++ (one s ++ more)) a body place s
at_one a body front None more place e = tt
at_one a body front (Some s) more place e = at_seam front s more place e

-- The steps of a pass stand behind those before it.
pub emits_all : (a : Arities) (body : Body) (ops : List Op) (front more : List Step) (p : Pass) → p.place ≡ length front → Emits (front ++ (steps_of a body ops p ++ more)) a body ops p
emits_all a body [] front more p e = tt
emits_all a body (o ∷ ops) front more p e =
    let here = one (step_at body p o) in
    let rest = steps_of a body ops (advance a body o p) in
    let inner : (here ++ rest) ++ more ≡ here ++ (rest ++ more) = append_assoc here rest more in
    let outer : (front ++ here) ++ (rest ++ more) ≡ front ++ (here ++ (rest ++ more)) = append_assoc front here (rest ++ more) in
    let shape : (front ++ here) ++ (rest ++ more) ≡ front ++ ((here ++ rest) ++ more) = outer ∙ ap (λ l. front ++ l) (sym inner) in
    let n : (advance a body o p).place ≡ length (front ++ here) = omega (arith, placed a body o p, length-append front here) in
    let tail = emits_all a body ops (front ++ here) more (advance a body o p) n in
    let first = at_one a body front (step_at body p o) (rest ++ more) p.place e in
    (subst (λ l. At l a body p.place (step_at body p o)) (outer_is here rest more front) first, subst (λ l. Emits l a body ops (advance a body o p)) shape tail)
  where
    outer_is : (here rest more front : List Step) → front ++ (here ++ (rest ++ more)) ≡ front ++ ((here ++ rest) ++ more)
    outer_is here rest more front = ap (λ l. front ++ l) (sym (append_assoc here rest more))
