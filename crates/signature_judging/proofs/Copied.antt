-- Signatures once more.
use Rattle.std.proofs.Common.{◌≡◌, ◌+◌, ◌∙◌, List, [], ◌∷◌, ◌++◌, Option, ap, map, sym}
use Rattle.std.proofs.lemmas.List.{map-append}
use Rattle.typing_rules.specs.AbstractSyntax.{Named, Patterns, Signature, TypeNode, TypeParameter}
use Rattle.typing_rules.specs.TypedTrees.{Note}
use Rattle.abstract_types.specs.declared.names.PlacedName.{PlacedName}
use Rattle.abstract_types.specs.declared.types.TypeParameter as value
use Rattle.abstract_types.specs.TypeView.{named, parameter}

abbrev parameter_of : Named → Option TypeNode → TypeParameter
parameter_of x bound = record { name = x; bound = bound }

pub parameter_again : (x y : PlacedName) (a b : Option TypeNode) → x ≡ y → a ≡ b → parameter_of (named x) a ≡ parameter_of (named y) b
parameter_again x y a b e f = ap (λ (z : PlacedName). parameter_of (named z) a) e ∙ ap (parameter_of (named y)) f

-- the next of several
pub next_again : (made more xs ys : List value.TypeParameter) (x y : value.TypeParameter) → more ≡ made ++ x ∷ [] → ys ≡ xs ++ y ∷ [] → parameter x ≡ parameter y → map parameter made ≡ map parameter xs → map parameter more ≡ map parameter ys
next_again made more xs ys x y e f g h =
    ap (map parameter) e
    ∙ (map-append parameter made (x ∷ [])
    ∙ (ap (λ (zs : List TypeParameter). zs ++ parameter x ∷ []) h
    ∙ (ap (λ (z : TypeParameter). map parameter xs ++ z ∷ []) g ∙ sym (ap (map parameter) f ∙ map-append parameter xs (y ∷ [])))))

abbrev signature_of : List TypeParameter → Patterns Note → Option TypeNode → Signature Note
signature_of gs qs r = record { generics = gs; parameters = qs; result = r }

pub signature_again : (gs hs : List TypeParameter) (qs : Patterns Note) (a b : Option TypeNode) → gs ≡ hs → a ≡ b → signature_of gs qs a ≡ signature_of hs qs b
signature_again gs hs qs a b e f = ap (λ (zs : List TypeParameter). signature_of zs qs a) e ∙ ap (signature_of hs qs) f
