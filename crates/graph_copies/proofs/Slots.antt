-- What stands under the numbers of graphs.
use Rattle.std.proofs.Common.{◌≡◌, ◌∙◌, ℕ, zero, suc, ◌+◌, ◌<◌, ◌≤◌, List, [], ◌∷◌, ◌++◌, Option, Some, None, length, map, slice_get, slice_set, take, refl, sym, ap, arith}
use Rattle.std.proofs.Math.Path.{fun_ext}
use Rattle.std.proofs.lemmas.List.{map-append, take_more, take_all}
use Rattle.mo_types.specs.declared.node.TypeId.{TypeId}
use Rattle.mo_types.specs.declared.node.Node.{Node}
use Rattle.mo_types.specs.Graph.{Slot, Open, Defined, head_at, node_at, node_of, node_of_slot, node_or_bottom, IsAdded}

-- the slot behind all others is set
pub set_last : (old : List Slot) (s t : Slot) → slice_set (old ++ s ∷ []) (length old) t ≡ old ++ t ∷ []
set_last [] s t = refl
set_last (x ∷ old) s t = ap (λ l. x ∷ l) (set_last old s t)

pub get_last : (old : List Slot) (s : Slot) → slice_get (old ++ s ∷ []) (length old) ≡ Some s
get_last [] s = refl
get_last (x ∷ old) s = get_last old s

-- the node under a number by the nodes alone
node_in : List (Option (Node TypeId)) → ℕ → Option (Node TypeId)
node_in [] i = None
node_in (n ∷ ns) zero = n
node_in (n ∷ ns) (suc i) = node_in ns i

node_is : (slots : List Slot) (i : ℕ) → node_of_slot (slice_get slots i) ≡ node_in (map node_of slots) i
unfolding node_in
node_is [] i = refl
node_is (s ∷ slots) zero = refl
node_is (s ∷ slots) (suc i) = node_is slots i

pub heads_same : (a b : List Slot) → map node_of a ≡ map node_of b → head_at a ≡ head_at b
heads_same a b e = fun_ext (λ id. ap node_or_bottom (node_is a id.index ∙ (ap (λ ns. node_in ns id.index) e ∙ sym (node_is b id.index))))

-- one more
pub next_node : (slots : List Slot) (i : ℕ) (made : List (Option (Node TypeId))) → i < length slots → made ≡ map node_of (take i slots)
    → made ++ node_of_slot (slice_get slots i) ∷ [] ≡ map node_of (take (i + 1) slots)
next_node [] i made below e = absurd (omega arith)
next_node (s ∷ slots) zero made below e = ap (λ m. m ++ node_of s ∷ []) e
next_node (s ∷ slots) (suc i) [] below e = absurd (let z : [] ≡ node_of s ∷ map node_of (take i slots) = e in cc)
next_node (s ∷ slots) (suc i) (m ∷ made) below e =
    let z : m ∷ made ≡ node_of s ∷ map node_of (take i slots) = e in
    let first : m ≡ node_of s = cc in
    let rest : made ≡ map node_of (take i slots) = cc in
    let below' : i < length slots = omega arith in
    let r : made ++ node_of_slot (slice_get slots i) ∷ [] ≡ map node_of (take (i + 1) slots) = next_node slots i made below' rest in
    let more : suc i + 1 ≡ suc (i + 1) = omega arith in
    rw more (ap (λ l. l ∷ (made ++ node_of_slot (slice_get slots i) ∷ [])) first ∙ ap (λ l. node_of s ∷ l) r)

-- a type that is added and then defined
pub defined_behind : (old fresh last : List Slot) (id : TypeId) (n m : Node TypeId) (x : Option (Node TypeId)) → IsAdded old Open id fresh → last ≡ slice_set fresh id.index (Defined n) → n ≡ m → Some m ≡ x
    → map node_of last ≡ map node_of old ++ x ∷ []
defined_behind old fresh last id n m x added set same is =
    let at : last ≡ old ++ Defined n ∷ [] =
    set ∙ (ap (λ s. slice_set s id.index (Defined n)) added.slots ∙ (ap (λ i. slice_set (old ++ Open ∷ []) i (Defined n)) added.number ∙ set_last old Open (Defined n))) in
    ap (map node_of) at ∙ (map-append node_of old (Defined n ∷ []) ∙ ap (λ y. map node_of old ++ y ∷ []) (ap (λ k. Some k) same ∙ is))
