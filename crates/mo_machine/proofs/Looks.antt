-- What the machine sees of values, the language sees of those that they stand for.
use Rattle.std.proofs.Common.{◌≡◌, suc, ◌+◌, max, List, [], ◌∷◌, length, Option, Some, None, refl, ap, ap₂, ◌∙◌}
use Rattle.mo_num.specs.declared.kind.Kind.TheVariants as kind
use Rattle.mo_types.specs.declared.node.Node.{Node}
use Rattle.mo_values.specs.declared.operation.Scalar.TheVariants as scalar
use Rattle.mo_values.specs.Costs.{sizes, most_levels}
use Rattle.mo_values.specs.Messages.{count, part_at, types_inside, message_of, both, plain_at, plain_each}
use Rattle.mo_values.specs.Recoding.{recode, recode_all, recodes}
use Rattle.mo_values.specs.Shapes.{Shape, Shapes, Made, Function, NoShape, AShape, head_bytes, size, size_all, levels, levels_all}
use Rattle.mo_values.specs.Views.{leaf_if, natural_in, text_in, scalar_type, natural_of, text_of}
use Rattle.typed_tree.proofs.Seen.{leaf_seen}

module _ {F G : Type 0} (code : F → G) where
  pub natural_same : (v : Shape F) → natural_of (recode code v) ≡ natural_of v
  natural_same v = ap (λ o. natural_in (leaf_if (scalar_type (scalar.Number kind.Nat)) o)) (leaf_seen code v)

  pub text_same : (v : Shape F) → text_of (recode code v) ≡ text_of v
  text_same v = ap (λ o. text_in (leaf_if (scalar_type scalar.Text) o)) (leaf_seen code v)

  mutual
    pub size_same : (v : Shape F) → size (recode code v) ≡ size v
    size_same (Made head inside) = ap (λ n. 1 + head_bytes head + n) (size_all_same inside)
    size_same (Function f) = refl

    size_all_same : (vs : Shapes F) → size_all (recode_all code vs) ≡ size_all vs
    size_all_same NoShape = refl
    size_all_same (AShape v vs) = ap₂ (λ m n. m + n) (size_same v) (size_all_same vs)

  mutual
    levels_same : (v : Shape F) → levels (recode code v) ≡ levels v
    levels_same (Made head inside) = ap (λ n. 1 + n) (levels_all_same inside)
    levels_same (Function f) = refl

    levels_all_same : (vs : Shapes F) → levels_all (recode_all code vs) ≡ levels_all vs
    levels_all_same NoShape = refl
    levels_all_same (AShape v vs) = ap₂ (λ m n. max m n) (levels_same v) (levels_all_same vs)

  pub sizes_same : (vs : List (Shape F)) → sizes (recodes code vs) ≡ sizes vs
  sizes_same [] = refl
  sizes_same (v ∷ vs) = ap₂ (λ m n. m + n) (size_same v) (sizes_same vs)

  pub most_levels_same : (vs : List (Shape F)) → most_levels (recodes code vs) ≡ most_levels vs
  most_levels_same [] = refl
  most_levels_same (v ∷ vs) = ap₂ (λ m n. max m n) (levels_same v) (most_levels_same vs)

  pub length_same : (vs : List (Shape F)) → length (recodes code vs) ≡ length vs
  length_same [] = refl
  length_same (v ∷ vs) = ap suc (length_same vs)

  -- ---- messages

  count_same : (vs : Shapes F) → count (recode_all code vs) ≡ count vs
  count_same NoShape = refl
  count_same (AShape v vs) = ap suc (count_same vs)

  module _ {A : Type 0} (head : A → Node A) where
    mutual
      plain_at_same : (t : Option A) (v : Shape F) → plain_at head t (recode code v) ≡ plain_at head t v
      plain_at_same None v = refl
      plain_at_same (Some t) (Made h inside) =
          ap (λ n. message_of (head t) h (part_at (head t) h n) (plain_each head (types_inside (head t) h n) (recode_all code inside))) (count_same inside)
          ∙ ap (message_of (head t) h (part_at (head t) h (count inside))) (plain_each_same (types_inside (head t) h (count inside)) inside)
      plain_at_same (Some t) (Function f) = refl

      pub plain_each_same : (ts : List (Option A)) (vs : Shapes F) → plain_each head ts (recode_all code vs) ≡ plain_each head ts vs
      plain_each_same [] vs = refl
      plain_each_same (t ∷ ts) NoShape = refl
      plain_each_same (t ∷ ts) (AShape v vs) = ap₂ (λ x r. both x r) (plain_at_same t v) (plain_each_same ts vs)
