-- Operations cost the same with other functions in the operands.
use Rattle.std.proofs.Common.{◌≡◌, ℕ, List, [], ◌∷◌, refl, ap, ◌∙◌}
use Rattle.std.specs.Prelude.{◌+◌, max}
use Rattle.mo_values.specs.declared.operation.Operation.{Operation}
use Rattle.mo_values.specs.declared.operation.Operation.TheVariants as op
use Rattle.mo_values.specs.Costs.{Cost, weighing, scalar_weight, sizes, most_levels, made, comparing, putting, operation_cost}
use Rattle.mo_values.specs.Recoding.{recode, recode_all, recodes, recode_answer}
use Rattle.mo_values.specs.Shapes.{Shape, Shapes, Made, Function, NoShape, AShape, head_bytes, size, size_all, levels, levels_all}
use Rattle.mo_values.specs.Views.{Answer, Gives, Traps, Stuck}
use Rattle.mo_values.proofs.Natural.{length_same}

abbrev cost : ℕ → ℕ → Cost
cost w l = record { weight = w; levels = l }

module _ {F G : Type 0} (code : F → G) where
  mutual
    size_same : (v : Shape F) → size (recode code v) ≡ size v
    size_same (Made head inside) = ap (λ n. 1 + head_bytes head + n) (size_all_same inside)
    size_same (Function f) = refl

    size_all_same : (vs : Shapes F) → size_all (recode_all code vs) ≡ size_all vs
    size_all_same NoShape = refl
    size_all_same (AShape v vs) = ap (λ n. n + size_all (recode_all code vs)) (size_same v) ∙ ap (λ n. size v + n) (size_all_same vs)

  mutual
    levels_same : (v : Shape F) → levels (recode code v) ≡ levels v
    levels_same (Made head inside) = ap (λ n. 1 + n) (levels_all_same inside)
    levels_same (Function f) = refl

    levels_all_same : (vs : Shapes F) → levels_all (recode_all code vs) ≡ levels_all vs
    levels_all_same NoShape = refl
    levels_all_same (AShape v vs) = ap (λ n. max n (levels_all (recode_all code vs))) (levels_same v) ∙ ap (λ n. max (levels v) n) (levels_all_same vs)

  sizes_same : (vs : List (Shape F)) → sizes (recodes code vs) ≡ sizes vs
  sizes_same [] = refl
  sizes_same (v ∷ vs) = ap (λ n. n + sizes (recodes code vs)) (size_same v) ∙ ap (λ n. size v + n) (sizes_same vs)

  most_same : (vs : List (Shape F)) → most_levels (recodes code vs) ≡ most_levels vs
  most_same [] = refl
  most_same (v ∷ vs) = ap (λ n. max n (most_levels (recodes code vs))) (levels_same v) ∙ ap (λ n. max (levels v) n) (most_same vs)

  made_same : (answer : Answer F) → made (recode_answer code answer) ≡ made answer
  made_same (Gives v) = size_same v
  made_same (Traps text) = refl
  made_same Stuck = refl

  comparing_same : (vs : List (Shape F)) → comparing (recodes code vs) ≡ comparing vs
  comparing_same vs = ap (λ n. cost (1 + n) (most_levels (recodes code vs))) (sizes_same vs) ∙ ap (λ n. cost (1 + sizes vs) n) (most_same vs)

  putting_same : (vs : List (Shape F)) → putting (recodes code vs) ≡ putting vs
  putting_same vs = ap (λ n. weighing (2 + n)) (length_same code vs)

  sized : (vs : List (Shape F)) → weighing (1 + sizes (recodes code vs)) ≡ weighing (1 + sizes vs)
  sized vs = ap (λ n. weighing (1 + n)) (sizes_same vs)

  making : (answer : Answer F) → weighing (1 + made (recode_answer code answer)) ≡ weighing (1 + made answer)
  making answer = ap (λ n. weighing (1 + n)) (made_same answer)

  pub same_cost : (o : Operation) (vs : List (Shape F)) (answer : Answer F) → operation_cost o (recodes code vs) (recode_answer code answer) ≡ operation_cost o vs answer
  same_cost (op.Compare c s) vs answer = ap (λ n. weighing (scalar_weight s n)) (sizes_same vs)
  same_cost (op.Same s) vs answer = ap (λ n. weighing (scalar_weight s n)) (sizes_same vs)
  same_cost (op.Equal t) vs answer = comparing_same vs
  same_cost (op.Unequal t) vs answer = comparing_same vs
  same_cost op.Concat vs answer = making answer
  same_cost op.TextSize vs answer = sized vs
  same_cost (op.ToText k) vs answer = making answer
  same_cost op.MakeTuple vs answer = putting_same vs
  same_cost op.MakeOption vs answer = putting_same vs
  same_cost (op.MakeTag l) vs answer = putting_same vs
  same_cost op.MakeArray vs answer = putting_same vs
  same_cost (op.MakeObject ls) vs answer = putting_same vs
  same_cost (op.Method name) vs answer = making answer
  same_cost op.PrincipalOf vs answer = making answer
  same_cost op.RejectError vs answer = making answer
  same_cost op.Code vs answer = making answer
  same_cost op.Trap vs answer = sized vs
  same_cost _ vs answer = refl
