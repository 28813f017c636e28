-- What one instruction adds.
use Rattle.wasm_steps.specs.declared.step.Step.{Step}
use Rattle.wasm_steps.specs.declared.step.Step.TheVariants as step
use Rattle.std.proofs.Common.{◌≡◌, ℕ, zero, suc, ◌+◌, ◌<◌, ◌≤◌, List, [], ◌∷◌, ◌++◌, length, get_or, drop, Option, Some, None, sym, ap, ◌∙◌, append_assoc, length-append, add-one, Bool, true, false, arith}
use Rattle.std.specs.Prelude.{is_some}
use Rattle.std.proofs.Math.Seq.{drop-cons}
use Rattle.wasm_tree.specs.declared.op.Plain.{Plain}
use Rattle.wasm_tree.specs.declared.op.Plain.TheVariants as plain
use Rattle.wasm_tree.specs.declared.op.Op.{Op}
use Rattle.wasm_tree.specs.declared.op.Op.TheVariants as op
use Rattle.wasm_tree.specs.Frames.{given}
use Rattle.wasm_layout.specs.declared.arity.Arities.{Arities}
use Rattle.wasm_layout.specs.declared.exits.Exits.{Exits}
use Rattle.wasm_layout.specs.declared.pass.Open.{Open}
use Rattle.wasm_layout.specs.declared.pass.Body.{Body}
use Rattle.wasm_layout.specs.declared.pass.Pass.{Pass}
use Rattle.wasm_layout.specs.Arities.{count_of, arity_at}
use Rattle.wasm_layout.specs.Ends.{without_first, back, backs, none}
use Rattle.wasm_layout.specs.Bodies.{body_of, begun_at, ended, body_steps}
use Rattle.wasm_layout.specs.Passes.{label_at, leaves_of, advance, advances, one, step_at, steps_of, IsWithin}

given_few : (q : Plain) → given q ≤ 1
given_few plain.Nop = omega arith
given_few plain.Drop = omega arith
given_few plain.Select = omega arith
given_few (plain.LocalGet x) = omega arith
given_few (plain.LocalSet x) = omega arith
given_few (plain.LocalTee x) = omega arith
given_few (plain.GlobalGet x) = omega arith
given_few (plain.GlobalSet x) = omega arith
given_few (plain.Load kind a) = omega arith
given_few (plain.Store kind a) = omega arith
given_few plain.MemorySize = omega arith
given_few plain.MemoryGrow = omega arith
given_few (plain.I32Const z) = omega arith
given_few (plain.I64Const z) = omega arith
given_few (plain.EqualsZero kind) = omega arith
given_few (plain.Compare kind o) = omega arith
given_few (plain.Unary kind o) = omega arith
given_few (plain.Binary kind o) = omega arith
given_few (plain.Convert c) = omega arith

count_few : (b : Bool) → count_of b ≤ 1
count_few false = omega arith
count_few true = omega arith

rest_few : {A : Type 0} (xs : List A) → length (without_first xs) ≤ length xs
rest_few [] = omega arith
rest_few (x ∷ xs) = omega arith

-- The labels keep at most one operand each.
keeps_more : (o : Open) (os : List Open) → o.label.keep ≤ 1 → ((l : ℕ) → (label_at os l).keep ≤ 1) → (l : ℕ) → (label_at (o ∷ os) l).keep ≤ 1
keeps_more o os few rest zero = few
keeps_more o os few rest (suc l) = rest l

keeps_less : (os : List Open) → ((l : ℕ) → (label_at os l).keep ≤ 1) → (l : ℕ) → (label_at (without_first os) l).keep ≤ 1
keeps_less [] all l = all l
keeps_less (o ∷ os) all l = all (suc l)

-- One instruction adds at most one to each.
pub within_more : (a : Arities) (body : Body) (o : Op) (place count : ℕ) (p : Pass) → IsWithin place count p → IsWithin place (count + 1) (advance a body o p)
within_more a body (op.Plain q) place count p w =
    let g = given_few q in
    record { places = omega arith; heights = omega arith; peaks = omega arith; blocks = omega arith; nested = omega arith; kept = w.kept }
within_more a body op.Unreachable place count p w = record { places = omega arith; heights = omega arith; peaks = omega arith; blocks = omega arith; nested = omega arith; kept = w.kept }
within_more a body (op.Block kind) place count p w = record { places = omega arith; heights = omega arith; peaks = omega arith; blocks = omega arith; nested = omega arith; kept = keeps_more _ p.opens (count_few (is_some kind)) w.kept }
within_more a body (op.Loop kind) place count p w = record { places = omega arith; heights = omega arith; peaks = omega arith; blocks = omega arith; nested = omega arith; kept = keeps_more _ p.opens (omega arith) w.kept }
within_more a body (op.If kind) place count p w = record { places = omega arith; heights = omega arith; peaks = omega arith; blocks = omega arith; nested = omega arith; kept = keeps_more _ p.opens (count_few (is_some kind)) w.kept }
within_more a body op.Else place count p w = record { places = omega arith; heights = omega arith; peaks = omega arith; blocks = omega arith; nested = omega arith; kept = w.kept }
within_more a body op.End place count p w =
    let g = count_few (leaves_of p.opens) in
    let r = rest_few p.opens in
    record { places = omega arith; heights = omega arith; peaks = omega arith; blocks = omega arith; nested = omega arith; kept = keeps_less p.opens w.kept }
within_more a body (op.Br l) place count p w = record { places = omega arith; heights = omega arith; peaks = omega arith; blocks = omega arith; nested = omega arith; kept = w.kept }
within_more a body (op.BrIf l) place count p w =
    let n = w.kept l in
    record { places = omega arith; heights = omega arith; peaks = omega arith; blocks = omega arith; nested = omega arith; kept = w.kept }
within_more a body (op.BrTable n) place count p w = record { places = omega arith; heights = omega arith; peaks = omega arith; blocks = omega arith; nested = omega arith; kept = w.kept }
within_more a body (op.Target l) place count p w = record { places = omega arith; heights = omega arith; peaks = omega arith; blocks = omega arith; nested = omega arith; kept = w.kept }
within_more a body op.Return place count p w = record { places = omega arith; heights = omega arith; peaks = omega arith; blocks = omega arith; nested = omega arith; kept = w.kept }
within_more a body (op.Call f) place count p w =
    let g = count_few (arity_at a.functions f).result in
    record { places = omega arith; heights = omega arith; peaks = omega arith; blocks = omega arith; nested = omega arith; kept = w.kept }
within_more a body (op.CallIndirect t) place count p w =
    let g = count_few (arity_at a.types t).result in
    record { places = omega arith; heights = omega arith; peaks = omega arith; blocks = omega arith; nested = omega arith; kept = w.kept }

-- A step at most for each instruction.
pub behind_more : (o : Op) (e : Exits) → (back o e).behind ≤ e.behind + 1
behind_more (op.Plain q) e = omega arith
behind_more op.Unreachable e = omega arith
behind_more (op.Block kind) e = omega arith
behind_more (op.Loop kind) e = omega arith
behind_more (op.If kind) e = omega arith
behind_more op.Else e = omega arith
behind_more op.End e = omega arith
behind_more (op.Br l) e = omega arith
behind_more (op.BrIf l) e = omega arith
behind_more (op.BrTable n) e = omega arith
behind_more (op.Target l) e = omega arith
behind_more op.Return e = omega arith
behind_more (op.Call f) e = omega arith
behind_more (op.CallIndirect t) e = omega arith

pub behind_few : (ops : List Op) → (backs ops none).behind ≤ length ops
behind_few [] = omega arith
behind_few (o ∷ ops) = omega (arith, behind_more o (backs ops none), behind_few ops)

-- So many instructions add at most so many.
pub within_all : (a : Arities) (body : Body) (ops : List Op) (place count : ℕ) (p : Pass) → IsWithin place count p → IsWithin place (count + length ops) (advances a body ops p)
within_all a body [] place count p w = record { places = omega arith; heights = omega arith; peaks = omega arith; blocks = omega arith; nested = omega arith; kept = w.kept }
within_all a body (o ∷ ops) place count p w =
    let r = within_all a body ops place (count + 1) (advance a body o p) (within_more a body o place count p w) in
    record { places = omega arith; heights = omega arith; peaks = omega arith; blocks = omega arith; nested = omega arith; kept = r.kept }

one_few : (s : Option Step) → length (one s) ≤ 1
one_few None = omega arith
one_few (Some s) = omega arith

pub steps_few : (a : Arities) (body : Body) (ops : List Op) (p : Pass) → length (steps_of a body ops p) ≤ length ops
steps_few a body [] p = omega arith
steps_few a body (o ∷ ops) p =
    omega (arith, length-append (one (step_at body p o)) (steps_of a body ops (advance a body o p)), one_few (step_at body p o), steps_few a body ops (advance a body o p))

-- A list from a place on.
next_op : (ops : List Op) (i : ℕ) (d : Op) → i < length ops → drop i ops ≡ get_or ops i d ∷ drop (i + 1) ops
next_op ops i d lt = rw add-one (drop-cons ops i d lt)

-- One turn of the loop over the instructions.
module _ (a : Arities) (body : Body) (ops : List Op) (i : ℕ) (d : Op) (lt : i < length ops) (p : Pass) where
  pub turn_pass : (end : Pass) → advances a body (drop i ops) p ≡ end → advances a body (drop (i + 1) ops) (advance a body (get_or ops i d) p) ≡ end
  turn_pass end e = sym (ap (λ l. advances a body l p) (next_op ops i d lt)) ∙ e

  pub turn_steps : (front all : List Step) → front ++ steps_of a body (drop i ops) p ≡ all
      → (front ++ one (step_at body p (get_or ops i d))) ++ steps_of a body (drop (i + 1) ops) (advance a body (get_or ops i d) p) ≡ all
  turn_steps front all e =
      append_assoc front (one (step_at body p (get_or ops i d))) (steps_of a body (drop (i + 1) ops) (advance a body (get_or ops i d) p))
      ∙ sym (ap (λ l. front ++ steps_of a body l p) (next_op ops i d lt)) ∙ e

-- Before the first instruction.
pub begins_within : (place : ℕ) (leaves : Bool) (ops : List Op) → IsWithin place 0 (begun_at place leaves ops)
begins_within place leaves ops = record { places = omega arith; heights = omega arith; peaks = omega arith; blocks = omega arith; nested = omega arith; kept = keeps_more _ [] (count_few leaves) (λ l. omega arith) }

-- The numbers of a body.
pub ends_within : (a : Arities) (place : ℕ) (leaves : Bool) (ops : List Op) → IsWithin place (length ops) (ended a place leaves ops)
unfolding ended
ends_within a place leaves ops =
    let w = within_all a (body_of place leaves ops) ops place 0 (begun_at place leaves ops) (begins_within place leaves ops) in
    let e : 0 + length ops ≡ length ops = omega arith in
    rw e at w

pub body_few : (a : Arities) (place : ℕ) (leaves : Bool) (ops : List Op) → length (body_steps a place leaves ops) ≤ length ops + 1
unfolding body_steps
body_few a place leaves ops =
    let b = body_of place leaves ops in
    let p = begun_at place leaves ops in
    omega (arith, length-append (steps_of a b ops p) (step.Finish ∷ []), steps_few a b ops p)

-- A body from its beginning to its end.
module _ (a : Arities) (place : ℕ) (leaves : Bool) (ops : List Op) (n : ℕ) (body : Body) (p : Pass) (same : n ≡ place) (b : body ≡ body_of n leaves ops) (q : p ≡ begun_at n leaves ops) where
  pub body_finish : body.finish ≤ place + length ops
  body_finish = let e = ap (λ (x : Body). x.finish) b in omega (arith, behind_few ops, e)

  pub body_begins : IsWithin p.place 0 p
  body_begins = let w = begins_within n leaves ops in let e = ap (λ (x : Pass). x.place) q in rw q w

  pub body_place : p.place ≡ place
  body_place = ap (λ (x : Pass). x.place) q ∙ same

  pub body_laid : (front mid all : List Step) → mid ≡ front ++ steps_of a body ops p → all ≡ mid ++ step.Finish ∷ [] → all ≡ front ++ body_steps a place leaves ops
  unfolding body_steps
  body_laid front mid all m e = let l = rw (b, q, same) at m in e ∙ ap (λ (x : List Step). x ++ step.Finish ∷ []) l ∙ append_assoc front (steps_of a (body_of place leaves ops) ops (begun_at place leaves ops)) (step.Finish ∷ [])

  pub body_ended : (end : Pass) → end ≡ advances a body ops p → end ≡ ended a place leaves ops
  unfolding ended
  body_ended end e = rw (b, q, same) at e
