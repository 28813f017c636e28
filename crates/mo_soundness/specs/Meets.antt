-- What arithmetic and equality meet (Motoko language manual, sections "Binary operators" and "Relational operators").
use Rattle.std.specs.Prelude.{◌≡◌, List, [], ◌∷◌, ℤ}
use Rattle.mo_num.specs.Kinds.{InRange}
use Rattle.mo_num.specs.declared.kind.Kind.{Kind}
use Rattle.mo_types.specs.declared.datum.Datum.TheVariants as part
use Rattle.mo_types.specs.declared.node.TypeId.{TypeId}
use Rattle.typed_tree.specs.Language.{Value, leaf}
use Rattle.typed_tree.specs.Shareable.{IsComparable}
use Rattle.typed_tree.specs.Wants.{Of}
use Rattle.mo_soundness.specs.Running.{AnswerTypes, SameEquality, HasValue}
use Rattle.mo_soundness.specs.Worlds.{World}

-- two numbers in the range of the kind
abbrev pub MeetsNumbers : Kind → List Value → Type 0
MeetsNumbers k vs = (m n : ℤ) × (vs ≡ leaf (part.Number m) ∷ leaf (part.Number n) ∷ []) × InRange k m × InRange k n

-- two values of one type that is compared, at which equality is that of the type of the program
abbrev pub MeetsComparable : World → AnswerTypes → List TypeId → TypeId → List Value → Type 0
MeetsComparable world answers kinds t vs =
    (u : TypeId) × SameEquality world t u × IsComparable world.head u × (v x : Value) × (vs ≡ v ∷ x ∷ []) × HasValue world answers kinds (Of u) v × HasValue world answers kinds (Of u) x
