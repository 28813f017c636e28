-- Methods, one after another.
use Rattle.std.proofs.Common.{◌≡◌, ◌∙◌, ℕ, suc, ◌+◌, ◌-◌, ◌<◌, ◌≤◌, List, [], ◌∷◌, ◌++◌, drop, get_or, length, map, refl, sym, ap, ap₂, subst, arith}
use Rattle.std.proofs.lemmas.List.{at_drop_all, at_drop_more}
use Rattle.core_ir.specs.declared.expression.CoreBody.{CoreBody}
use Rattle.core_ir.specs.Expressions.{Exp}
use Rattle.typed_tree.specs.declared.program.Method.{Method}
use Rattle.typed_tree.specs.Patterns.{Pat, Pats, APat}
use Rattle.typed_tree.specs.PatternView.{patterns}
use Rattle.typed_tree.specs.ProgramView.{context_pattern}
use Rattle.typed_tree.specs.View.{FunctionView, expression, group}
use Rattle.elaboration.specs.Checks as checks
use Rattle.elaboration.specs.Checks.{Named, and, around_all, check, check_all}
use Rattle.elaboration.specs.Elaboration.{BodiesElaborated, elaborate_functions}
use Rattle.elaboration.specs.Scopes.{Scope}
use Rattle.core_layers.specs.declared.layer.Checked.{Checked}
use Rattle.core_layers.specs.Layers.{Adds, layered}
use Rattle.core_layers.proofs.Adding.{adds_both}
use Rattle.core_parts.specs.Making.{BodiesMade, BodyMade, Groups, elaborate_body}
use Rattle.core_parts.proofs.Going.{Bodies, all_bodies, next_body}
use Rattle.core_blocks.proofs.Writing.{function_is}
use Rattle.core_methods.specs.Behind.{method_function}

pub method_is : (m : Method) → method_function m ≡ record { how = m.function.sort; nodes = m.function.nodes; parameters = APat (context_pattern m.context) (patterns m.function.parameters); body = expression m.function.body }
method_is m =
    let F : FunctionView → FunctionView = λ f. record { how = f.how; nodes = f.nodes; parameters = APat (context_pattern m.context) f.parameters; body = f.body } in
    ap F (function_is m.function)

-- ---- the context and the parameters

pub record Bound (d : checks.Checked) (z : Checked) : Type 0 where
  pub checks : (fails e : Exp) → layered z.layers.items fails e ≡ around_all d.checks fails e
  pub names : z.names ≡ d.names
  pub bound : z.bound.items ≡ d.bound

pub both_bound : (p : Pat) (ps : Pats) (n l m : ℕ) (x y z : Checked) → l ≡ n - 1 → m ≡ l - 1 → x.names ≡ n → x.layers.items ≡ [] → x.bound.items ≡ []
    → Adds (check p (Named l) x.names) x y → Adds (check_all ps m y.names) y z → Bound (check_all (APat p ps) (n - 1) n) z
both_bound p ps n l m x y z level next names layers bound first others =
    let c : checks.Checked = check p (Named (n - 1)) n in
    let below : m ≡ n - 1 - 1 = next ∙ ap (λ k. k - 1) level in
    let Of : checks.Checked → Type 0 = λ d. Adds d x y in
    let one : Adds c x y = subst Of (ap₂ (λ k i. check p (Named k) i) level names) first in
    let To : checks.Checked → Type 0 = λ d. Adds d y z in
    let two : Adds (check_all ps (n - 1 - 1) c.names) y z = subst To (ap₂ (λ k i. check_all ps k i) below one.names) others in
    let both = adds_both c (check_all ps (n - 1 - 1) c.names) x y z one two in
    record {
      checks = λ fails e. both.layers fails e ∙ ap (λ ls. layered ls fails (around_all (and c (check_all ps (n - 1 - 1) c.names)).checks fails e)) layers;
      names = both.names;
      bound = both.bound ∙ ap (λ b. b ++ (and c (check_all ps (n - 1 - 1) c.names)).bound) bound;
    }

-- ---- the rest of a list

pub more_methods : (xs : List Method) (i : ℕ) (x : Method) (s t : Scope) (whole : BodiesElaborated) (old now new : Groups) (made more : List CoreBody) (b : CoreBody)
    → i < length xs → x ≡ get_or xs i x → t ≡ s → more ≡ made ++ b ∷ [] → Bodies whole (elaborate_functions s (length now) (group (map method_function (drop i xs)))) old now made
    → BodyMade (elaborate_body s (length now) (method_function x)) now new b → Bodies whole (elaborate_functions t (length new) (group (map method_function (drop (i + 1) xs)))) old new more
more_methods xs i x s t whole old now new made more b below is same longer so one =
    let F : List Method → BodiesElaborated = λ ys. elaborate_functions s (length now) (group (map method_function ys)) in
    let Of : BodiesElaborated → Type 0 = λ r. Bodies whole r old now made in
    let At : Method → Type 0 = λ y. Bodies whole (F (y ∷ drop (i + 1) xs)) old now made in
    let To : Scope → Type 0 = λ u. Bodies whole (elaborate_functions u (length new) (group (map method_function (drop (i + 1) xs)))) old new (made ++ b ∷ []) in
    let With : List CoreBody → Type 0 = λ bs. Bodies whole (elaborate_functions t (length new) (group (map method_function (drop (i + 1) xs)))) old new bs in
    subst With (sym longer) (subst To (sym same)
    (next_body (λ n. elaborate_functions s n (group (map method_function (drop (i + 1) xs)))) (elaborate_body s (length now) (method_function x)) whole old now new made b
    (subst At (sym is) (subst Of (at_drop_more F xs i x below) so)) one))

pub no_more_methods : (xs : List Method) (i : ℕ) (s : Scope) (whole : BodiesElaborated) (old now : Groups) (made : List CoreBody)
    → length xs ≤ i → Bodies whole (elaborate_functions s (length now) (group (map method_function (drop i xs)))) old now made → BodiesMade whole old now made
no_more_methods xs i s whole old now made past so =
    let F : List Method → BodiesElaborated = λ ys. elaborate_functions s (length now) (group (map method_function ys)) in
    let Of : BodiesElaborated → Type 0 = λ r. Bodies whole r old now made in
    all_bodies whole old now made (subst Of (at_drop_all F xs i past) so)
