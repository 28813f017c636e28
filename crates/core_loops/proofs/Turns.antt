-- Loops by whether they have an end.
use Rattle.std.proofs.Common.{◌≡◌, ◌∙◌, ℕ, suc, ◌+◌, Bool, false, true, cond, [], length, ap, arith}
use Rattle.core_ir.specs.Expressions.{Loop}
use Rattle.typed_tree.specs.Language.{Exp, While}
use Rattle.elaboration.specs.Elaboration.{elaborate, is_true, joined, tested_loop}
use Rattle.elaboration.specs.Members.{Elaborated, let_in}
use Rattle.elaboration.specs.Scopes.{Scope, beside, inside, nothing}
use Rattle.core_loops.specs.Shapes.{turns}
use Rattle.core_loops.proofs.Always.{is_truth}

pub endless_loop : (s : Scope) (n : ℕ) (c b : Exp) → is_true c ≡ true → elaborate s n (While c b) ≡ turns s n b
endless_loop s n c b h =
    let z : n + 0 ≡ n = omega arith in
    ap (λ i. elaborate s n (While i b)) (is_truth c h) ∙ ap (λ i. turns s i b) z

pub loop_with_end : (s : Scope) (n : ℕ) (c b : Exp) → is_true c ≡ false
    → elaborate s n (While c b) ≡ joined tested_loop (elaborate (inside s) n c) (elaborate (beside 1 (inside s)) (n + length (elaborate (inside s) n c).groups) b)
loop_with_end s n c b h =
    let x : Elaborated = elaborate (inside s) n c in
    ap (λ (e : Bool). joined (λ y z. cond e (Loop (let_in nothing z)) (tested_loop y z)) x (elaborate (record (beside 1 s) { labels = cond e s.labels (suc s.labels) }) (n + length x.groups) b)) h
