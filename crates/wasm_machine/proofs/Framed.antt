-- An activation runs in its own cells.
use Rattle.std.proofs.Common.{◌≡◌, ℕ, ◌+◌, List, ◌++◌, length, take, drop, sym, ap, ◌∙◌, subst, arith, append_assoc, length-append}
use Rattle.std.proofs.Math.Seq.{take-append_seam, drop-append_seam}
use Rattle.wasm_tree.specs.Exec.{Calls}
use Rattle.wasm_steps.specs.declared.step.Step.{Step}
use Rattle.wasm_steps.specs.Moves.{Final}
use Rattle.wasm_steps.specs.Follow.{Stands, Good}
use Rattle.wasm_machine.specs.declared.frames.Here.{Here}
use Rattle.wasm_machine.specs.declared.activate.End.{End}
use Rattle.wasm_machine.specs.Operands.{tops}
use Rattle.wasm_machine.specs.Hosts.{Play}
use Rattle.wasm_machine.specs.Acts.{Given, Parts, state_of}
use Rattle.wasm_machine.specs.Active.{next_of}
use Rattle.wasm_machine.specs.Stacks.{locals_of, operands_of}

-- the locals and the operands among all cells
locals_are : (below ls os : List ℕ) (base count : ℕ) → length below ≡ base → length ls ≡ count → take count (drop base (below ++ ls ++ os)) ≡ ls
locals_are below ls os base count hb hl =
    let split : drop base (below ++ ls ++ os) ≡ ls ++ os = ap (drop base) (append_assoc below ls os) ∙ subst (λ n. drop n (below ++ (ls ++ os)) ≡ ls ++ os) hb (drop-append_seam below (ls ++ os)) in
    ap (take count) split ∙ subst (λ n. take n (ls ++ os) ≡ ls) hl (take-append_seam ls os)

operands_are : (below ls os : List ℕ) (base count : ℕ) → length below ≡ base → length ls ≡ count → drop (base + count) (below ++ ls ++ os) ≡ os
operands_are below ls os base count hb hl =
    let len : length (below ++ ls) ≡ base + count = omega (arith, length-append below ls) in
    subst (λ n. drop n (below ++ ls ++ os) ≡ os) len (drop-append_seam (below ++ ls) os)

module _ (g : Given) (calls : Calls Play) (steps : List Step) (height keep : ℕ) (whole : Final Play) (here : Here) (left : ℕ) (p after : Parts) (end : End) (cells : List ℕ) where
  pub framed_ends : (below ls os ls' os' : List ℕ) → ls ≡ locals_of here cells → os ≡ drop (here.base + here.count) cells → length ls ≡ here.count → length below ≡ here.base → length ls' ≡ length ls → (Stands g.limits g.within calls steps (length ls) height keep whole here.place (state_of g left ls p) (tops os here.held) → Good g.limits g.within calls steps (length ls) height keep whole (next_of g end ls' after (tops os'))) → Stands g.limits g.within calls steps here.count height keep whole here.place (state_of g left (locals_of here cells) p) (operands_of here cells here.held) → Good g.limits g.within calls steps here.count height keep whole (next_of g end (locals_of here (below ++ ls' ++ os')) after (operands_of here (below ++ ls' ++ os')))
  framed_ends below ls os ls' os' is_ls is_os count base same ends stands =
      let a : Stands g.limits g.within calls steps (length ls) height keep whole here.place (state_of g left (locals_of here cells) p) (operands_of here cells here.held) = subst (λ n. Stands g.limits g.within calls steps n height keep whole here.place (state_of g left (locals_of here cells) p) (operands_of here cells here.held)) (sym count) stands in
      let b : Stands g.limits g.within calls steps (length ls) height keep whole here.place (state_of g left ls p) (operands_of here cells here.held) = subst (λ l. Stands g.limits g.within calls steps (length ls) height keep whole here.place (state_of g left l p) (operands_of here cells here.held)) (sym is_ls) a in
      let d : Stands g.limits g.within calls steps (length ls) height keep whole here.place (state_of g left ls p) (tops os here.held) = subst (λ l. Stands g.limits g.within calls steps (length ls) height keep whole here.place (state_of g left ls p) (tops l here.held)) (sym is_os) b in
      let good : Good g.limits g.within calls steps here.count height keep whole (next_of g end ls' after (tops os')) = subst (λ n. Good g.limits g.within calls steps n height keep whole (next_of g end ls' after (tops os'))) count (ends d) in
      let e : Good g.limits g.within calls steps here.count height keep whole (next_of g end (locals_of here (below ++ ls' ++ os')) after (tops os')) = subst (λ l. Good g.limits g.within calls steps here.count height keep whole (next_of g end l after (tops os'))) (sym (locals_are below ls' os' here.base here.count base (same ∙ count))) good in
      subst (λ l. Good g.limits g.within calls steps here.count height keep whole (next_of g end (locals_of here (below ++ ls' ++ os')) after (tops l))) (sym (operands_are below ls' os' here.base here.count base (same ∙ count))) e
