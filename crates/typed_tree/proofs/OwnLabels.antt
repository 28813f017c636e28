-- The labels of a program's types tell their fields apart.
use Rattle.std.proofs.Common.{◌≡◌, ◌≢◌, List, [], ◌∷◌, map, Bool, true, false, Some, refl, ap}
use Rattle.std.specs.Prelude.{nat_eq, if◌then◌else◌}
use Rattle.std.specs.Cmp.Lexicographic.{pointwise}
use Rattle.std.proofs.lemmas.Slice.Eq.{bytes_eq-Decides}
use Rattle.mo_types.specs.declared.node.Field.{Field}
use Rattle.mo_types.specs.declared.node.Node.{Node}
use Rattle.mo_types.specs.declared.node.Node.TheVariants as node
use Rattle.mo_types.specs.declared.node.TypeId.{TypeId}
use Rattle.mo_types.specs.Graph.{Slot, head_at}
use Rattle.mo_types.specs.Label.{label_id}
use Rattle.mo_types.specs.Sub.{Each, find}
use Rattle.subtype_laws.specs.Labels.{AreOwn, OwnLabels}
use Rattle.typed_tree.specs.Types.{LabelsDiffer, IsLawfulNode, AreLawful}

found_here : (f : Field TypeId) (rest : List (Field TypeId)) → find f.label (f ∷ rest) ≡ Some f
found_here f rest = ap (λ b. if b then Some f else find f.label rest) ((bytes_eq-Decides f.label f.label).1 refl)

found_later : (f g : Field TypeId) (rest : List (Field TypeId)) → label_id f.label ≢ label_id g.label → find g.label rest ≡ Some g → find g.label (f ∷ rest) ≡ Some g
found_later f g rest d e = by (pointwise nat_eq f.label g.label) refl
  where
    by : (b : Bool) → pointwise nat_eq f.label g.label ≡ b → (if b then Some f else find g.label rest) ≡ Some g
    by true q = absurd (d (ap label_id ((bytes_eq-Decides f.label g.label).0 q)))
    by false q = e

all_later : (f : Field TypeId) (rest gs : List (Field TypeId)) → Each (λ y. label_id f.label ≢ y) (map (λ g. label_id g.label) gs) → Each (λ g. find g.label rest ≡ Some g) gs → Each (λ g. find g.label (f ∷ rest) ≡ Some g) gs
all_later f rest [] d h = tt
all_later f rest (g ∷ gs) d h = (found_later f g rest d.0 h.0, all_later f rest gs d.1 h.1)

own : (fs : List (Field TypeId)) → LabelsDiffer fs → AreOwn fs
own [] d = tt
own (f ∷ fs) d = (found_here f fs, all_later f fs fs d.0 (own fs d.1))

own_labels : (head : TypeId → Node TypeId) (x : Node TypeId) → IsLawfulNode head x → OwnLabels x
own_labels head (node.Object fs) h = own fs h
own_labels head (node.Variant fs) h = own fs h.0
own_labels head (node.Actor fs) h = own fs h.0
own_labels head x h = tt

pub labels_own : (types : List Slot) → AreLawful types → (t : TypeId) → OwnLabels (head_at types t)
labels_own types lawful t = own_labels (head_at types) (head_at types t) (lawful.nodes t).0
