-- Values that belong together go into messages alike, and weigh the same.
use Rattle.std.proofs.Common.{◌≡◌, ◌+◌, List, [], ◌∷◌, Option, Some, None, refl, ap, ap₂, ◌∙◌}
use Rattle.std.specs.Prelude.{suc, max}
use Rattle.mo_types.specs.declared.node.Node.{Node}
use Rattle.mo_types.specs.declared.node.TypeId.{TypeId}
use Rattle.mo_values.specs.Alike.{Alike, AlikeAll, AlikeEach}
use Rattle.mo_values.specs.Costs.{sizes, most_levels}
use Rattle.mo_values.specs.Messages.{count, both, message_of, part_at, types_inside, plain_at, plain_each}
use Rattle.mo_values.specs.Shapes.{head_bytes, size, size_all, levels, levels_all, Shape, Shapes, Made, Function, NoShape, AShape, shapes}
use Rattle.core_ir.specs.Values.{Handle}
use Rattle.mo_machine.specs.Values.{Code}
use Rattle.elaboration_values.specs.Belonging.{Known, Names, MessagesBelong}

module _ (known : List Known) where
  mutual
    same_size : (v : Shape Code) (w : Shape Handle) → Alike (Names known) v w → size v ≡ size w
    same_size (Made head vs) (Made other ws) a = ap₂ (λ h n. 1 + head_bytes h + n) (a.0) (same_size_all vs ws (a.1))
    same_size (Made head vs) (Function g) a = absurd a
    same_size (Function f) (Made other ws) a = absurd a
    same_size (Function f) (Function g) a = refl

    same_size_all : (vs : Shapes Code) (ws : Shapes Handle) → AlikeAll (Names known) vs ws → size_all vs ≡ size_all ws
    same_size_all NoShape NoShape a = refl
    same_size_all NoShape (AShape w ws) a = absurd a
    same_size_all (AShape v vs) NoShape a = absurd a
    same_size_all (AShape v vs) (AShape w ws) a = ap₂ (λ m n. m + n) (same_size v w (a.0)) (same_size_all vs ws (a.1))

  mutual
    same_levels : (v : Shape Code) (w : Shape Handle) → Alike (Names known) v w → levels v ≡ levels w
    same_levels (Made head vs) (Made other ws) a = ap (λ n. 1 + n) (same_levels_all vs ws (a.1))
    same_levels (Made head vs) (Function g) a = absurd a
    same_levels (Function f) (Made other ws) a = absurd a
    same_levels (Function f) (Function g) a = refl

    same_levels_all : (vs : Shapes Code) (ws : Shapes Handle) → AlikeAll (Names known) vs ws → levels_all vs ≡ levels_all ws
    same_levels_all NoShape NoShape a = refl
    same_levels_all NoShape (AShape w ws) a = absurd a
    same_levels_all (AShape v vs) NoShape a = absurd a
    same_levels_all (AShape v vs) (AShape w ws) a = ap₂ (λ m n. max m n) (same_levels v w (a.0)) (same_levels_all vs ws (a.1))

  as_many : (vs : Shapes Code) (ws : Shapes Handle) → AlikeAll (Names known) vs ws → count vs ≡ count ws
  as_many NoShape NoShape a = refl
  as_many NoShape (AShape w ws) a = absurd a
  as_many (AShape v vs) NoShape a = absurd a
  as_many (AShape v vs) (AShape w ws) a = ap (λ n. suc n) (as_many vs ws (a.1))

  module _ (head : TypeId → Node TypeId) where
    mutual
      plain_alike : (t : Option TypeId) (v : Shape Code) (w : Shape Handle) → Alike (Names known) v w → plain_at head t v ≡ plain_at head t w
      plain_alike None v w a = refl
      plain_alike (Some t) (Made h vs) (Made other ws) a =
          ap (λ n. message_of (head t) h (part_at (head t) h n) (plain_each head (types_inside (head t) h n) vs)) (as_many vs ws (a.1))
          ∙ (ap (message_of (head t) h (part_at (head t) h (count ws))) (each_alike (types_inside (head t) h (count ws)) vs ws (a.1))
          ∙ ap (λ i. message_of (head t) i (part_at (head t) i (count ws)) (plain_each head (types_inside (head t) i (count ws)) ws)) (a.0))
      plain_alike (Some t) (Made h vs) (Function g) a = absurd a
      plain_alike (Some t) (Function f) (Made other ws) a = absurd a
      plain_alike (Some t) (Function f) (Function g) a = refl

      each_alike : (ts : List (Option TypeId)) (vs : Shapes Code) (ws : Shapes Handle) → AlikeAll (Names known) vs ws → plain_each head ts vs ≡ plain_each head ts ws
      each_alike [] vs ws a = refl
      each_alike (t ∷ ts) NoShape NoShape a = refl
      each_alike (t ∷ ts) NoShape (AShape w ws) a = absurd a
      each_alike (t ∷ ts) (AShape v vs) NoShape a = absurd a
      each_alike (t ∷ ts) (AShape v vs) (AShape w ws) a = ap₂ both (plain_alike t v w (a.0)) (each_alike ts vs ws (a.1))

  listed_alike : (vs : List (Shape Code)) (ws : List (Shape Handle)) → AlikeEach (Names known) vs ws → AlikeAll (Names known) (shapes vs) (shapes ws)
  listed_alike [] [] a = tt
  listed_alike [] (w ∷ ws) a = absurd a
  listed_alike (v ∷ vs) [] a = absurd a
  listed_alike (v ∷ vs) (w ∷ ws) a = (a.0, listed_alike vs ws (a.1))

  sizes_alike : (vs : List (Shape Code)) (ws : List (Shape Handle)) → AlikeEach (Names known) vs ws → sizes vs ≡ sizes ws
  sizes_alike [] [] a = refl
  sizes_alike [] (w ∷ ws) a = absurd a
  sizes_alike (v ∷ vs) [] a = absurd a
  sizes_alike (v ∷ vs) (w ∷ ws) a = ap₂ (λ m n. m + n) (same_size v w (a.0)) (sizes_alike vs ws (a.1))

  most_alike : (vs : List (Shape Code)) (ws : List (Shape Handle)) → AlikeEach (Names known) vs ws → most_levels vs ≡ most_levels ws
  most_alike [] [] a = refl
  most_alike [] (w ∷ ws) a = absurd a
  most_alike (v ∷ vs) [] a = absurd a
  most_alike (v ∷ vs) (w ∷ ws) a = ap₂ (λ m n. max m n) (same_levels v w (a.0)) (most_alike vs ws (a.1))

  pub messages : MessagesBelong known
  messages vs ws a = (λ head ts. each_alike head ts (shapes vs) (shapes ws) (listed_alike vs ws a), sizes_alike vs ws a, most_alike vs ws a)
