use Rattle.std.proofs.Common.{◌≡◌, ◌+◌, ◌++◌, ◌∙◌, ℕ, suc, sym, ap, List, map, drop, arith}
use Rattle.std.proofs.lemmas.Result.{IfOk-weaker}
use Rattle.core_ir.specs.declared.expression.Binding.{Binding}
use Rattle.core_ir.specs.declared.expression.Expression.{Expression}
use Rattle.core_ir.specs.Expressions as tree
use Rattle.core_ir.specs.Expressions.{Exp}
use Rattle.core_ir.specs.Outward.{outward, outward_goal}
use Rattle.core_ir.specs.View.{binding, block, expression, goal as goal_view}
use Rattle.core_measures.specs.Naming.{end_of, given_in}
use Rattle.core_measures.specs.Sizes.{size_of}
use Rattle.core_measures.proofs.Bindings.{begins_alike, block_named, one_behind}
use Rattle.core_measures.proofs.Views.{block_is, match_is, try_is}
use Rattle.core_measures.proofs.naming.+naming.Goals as goal

pub expression_names-returns-in_ok-expression_names-in-Block : goal.expression_names-returns-in_ok-expression_names-in-Block
expression_names-returns-in_ok-expression_names-in-Block t c =
    let sizes = size_of c.args.sizes.now in
    let needs : List (List ℕ) = c.args.needs.now in
    let n = c.args.near in
    let old : List ℕ = c.args.names.now in
    let cs : List Binding = c.as_slice-bindings.result.now in
    let is = ap expression c.in-Block.is ∙ block_is c.in-Block.bindings c.in-Block.value ∙ ap (λ (v : Expression). block (map binding c.in-Block.bindings) (expression v)) (sym c.get.ensures) in
    IfOk-weaker c.given_names.result _ _
    (λ u h.
    block_named sizes needs c.in-Block.bindings cs c.as_slice-bindings.ensures n c.in_ok-end-in-Block.end c.in_ok-end-in-Block.ensures.end (expression c.get.result.now) old c.made_names.new.names c.expression_names.new.names c.given_names.new.names
    c.in_ok-end-in-Block.ensures.names c.in_ok-expression_names-in-Block.ensures (h n c.in_ok-end-in-Block.ensures.end) ∙ ap (λ (x : Exp). old ++ outward sizes needs n x) (sym is))
    c.given_names.ensures

pub expression_names-returns-in_ok-sum-in-Try : goal.expression_names-returns-in_ok-sum-in-Try
expression_names-returns-in_ok-sum-in-Try t c =
    let sizes = size_of c.args.sizes.now in
    let needs : List (List ℕ) = c.args.needs.now in
    let n = c.args.near in
    let old : List ℕ = c.args.names.now in
    let a : Exp = expression c.get-in-Try.result.now in
    let b : Exp = expression c.get-in-Try-2.result.now in
    let is : expression c.args.expression.now ≡ tree.Try a b =
    ap expression c.in-Try.is ∙ try_is c.in-Try.body c.in-Try.handler ∙ ap (λ (y : Expression). tree.Try (expression y) (expression c.in-Try.handler)) (sym c.get-in-Try.ensures)
    ∙ ap (λ (y : Expression). tree.Try a (expression y)) (sym c.get-in-Try-2.ensures) in
    let more : c.in_ok-sum-in-Try.field-0 ≡ suc n = c.in_ok-sum-in-Try.ensures ∙ (let e : 1 + n ≡ suc n = omega arith in e) in
    IfOk-weaker c.expression_names-in-Try-2.result _ _
    (λ u h.
    one_behind sizes needs old (outward sizes needs n a) c.expression_names-in-Try.new.names (outward sizes needs (suc n) b) c.in_ok-expression_names-in-Try.ensures c.expression_names-in-Try-2.new.names
    (h ∙ ap (λ (m : ℕ). c.expression_names-in-Try.new.names ++ outward sizes needs m b) more) ∙ ap (λ (x : Exp). old ++ outward sizes needs n x) (sym is))
    c.expression_names-in-Try-2.ensures

pub given_names-returns : goal.given_names-returns
given_names-returns t c start same =
    let sizes = size_of c.args.sizes.now in
    let needs : List (List ℕ) = c.args.needs.now in
    let bs : List Binding = c.args.bindings.now in
    let old : List ℕ = c.args.names.now in
    let none : c.loop-number.number ≡ 0 = let z = c.loop-number-test.false in omega (arith, z) in
    let ends : end_of sizes c.loop-number.near bs ≡ end_of sizes start bs =
    sym (ap (λ (k : ℕ). end_of sizes c.loop-number.near (drop k bs)) none) ∙ c.loop-number.invariant.end ∙ same in
    let begins : c.loop-number.near ≡ start = begins_alike sizes bs c.loop-number.near start ends in
    c.loop-number.invariant.names ∙ ap (λ (k : ℕ). old ++ given_in sizes needs c.loop-number.near (drop k bs)) none ∙ ap (λ (k : ℕ). old ++ given_in sizes needs k bs) begins

pub goal_names-returns-in_ok-expression_names-in-Match : goal.goal_names-returns-in_ok-expression_names-in-Match
goal_names-returns-in_ok-expression_names-in-Match t c =
    let sizes = size_of c.args.sizes.now in
    let needs : List (List ℕ) = c.args.needs.now in
    let n = c.args.near in
    let old : List ℕ = c.args.names.now in
    let k = c.in-Match.field-0 in
    let a : Exp = expression c.get-in-Match.result.now in
    let b : Exp = expression c.get-in-Match-2.result.now in
    let is : goal_view c.args.goal.now ≡ tree.Match k a b =
    ap goal_view c.in-Match.is ∙ match_is k c.in-Match.yes c.in-Match.no ∙ ap (λ (y : Expression). tree.Match k (expression y) (expression c.in-Match.no)) (sym c.get-in-Match.ensures)
    ∙ ap (λ (y : Expression). tree.Match k a (expression y)) (sym c.get-in-Match-2.ensures) in
    let more : c.in_ok-sum-in-Match.field-0 ≡ suc n = c.in_ok-sum-in-Match.ensures ∙ (let e : 1 + n ≡ suc n = omega arith in e) in
    let first : c.expression_names-in-Match.new.names ≡ old ++ outward sizes needs (suc n) a = c.in_ok-expression_names-in-Match.ensures ∙ ap (λ (m : ℕ). old ++ outward sizes needs m a) more in
    IfOk-weaker c.expression_names-in-Match-2.result _ _
    (λ u h.
    one_behind sizes needs old (outward sizes needs (suc n) a) c.expression_names-in-Match.new.names (outward sizes needs n b) first c.expression_names-in-Match-2.new.names h ∙ ap (λ (x : tree.Goal). old ++ outward_goal sizes needs n x) (sym is))
    c.expression_names-in-Match-2.ensures
