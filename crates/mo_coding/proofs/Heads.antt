-- Heads of finitely many parts.
use Rattle.std.proofs.Common.{◌≡◌, ℕ, zero, suc, inl, inr, List, [], ◌∷◌, ◌++◌, map, slice_get, refl, sym, ap, subst, arith}
use Rattle.std.specs.Prelude.{flat_map}
use Rattle.mo_types.specs.declared.node.TypeId.{TypeId}
use Rattle.mo_types.specs.declared.wire.Entry.{Entry}
use Rattle.mo_types.specs.declared.wire.Method.{Method}
use Rattle.mo_types.specs.declared.wire.Ref.{Ref}
use Rattle.mo_types.specs.declared.wire.Ref.TheVariants.{Of, Just}
use Rattle.mo_types.specs.declared.wire.Wire.{Wire}
use Rattle.mo_types.specs.declared.wire.Wire.TheVariants.{Simple, Opt, Vec, Record, Variant, Func, Service}
use Rattle.mo_types.specs.declared.wire.TableRef.{TableRef}
use Rattle.mo_types.specs.declared.wire.TableRef.TheVariants.{Plainly, At}
use Rattle.mo_types.specs.Graph.{node_of, node_of_slot, node_or_bottom, head_at}
use Rattle.mo_types.specs.Wire.{wire_of_node, map_wire, map_entry, map_method}
use Rattle.mo_types.specs.Header.{parts_of, or_empty}
use Rattle.mo_types.specs.Code.{Saved, Whole, Inner, Variable, saved_head}
use Rattle.candid_header.proofs.Refs.{code_range}
use Rattle.candid_equal.specs.Pairs.{code_once}
use Rattle.candid_equal.specs.Refs.{ref_number}
use Rattle.mo_meaning.specs.Coding.{Types}
use Rattle.mo_coding.specs.Heads.{Heads, type_number, graph_parts, of_graph, of_table, saved_number, of_saved}
use Rattle.mo_coding.proofs.Members.{Has, has_left, has_right}

-- numbers tell types apart, and all parts are there
pub record AreFinite {A : Type 0} (g : Heads A) : Type 0 where
  pub once : (a b : A) → g.number a ≡ g.number b → a ≡ b
  pub closed : (a x : A) → Has (parts_of (g.head a)) x → Has g.parts x

-- ---- of a graph

type_once : (a b : Ref TypeId) → type_number a ≡ type_number b → a ≡ b
type_once (Just p) (Just q) e = ap (λ x. Just x) (code_once p q e)
type_once (Of s) (Of t) e = let i : s.index ≡ t.index = omega (arith, e) in ap (λ (n : ℕ). let u : TypeId = record { index = n } in Of u) i
type_once (Just p) (Of t) e = let h = code_range p in absurd (omega (arith, h.1, e))
type_once (Of s) (Just q) e = let h = code_range q in absurd (omega (arith, h.1, e))

node_parts : (slots all : Types) (i : ℕ) (x : Ref TypeId) → Has (parts_of (wire_of_node (head_at all) (node_or_bottom (node_of_slot (slice_get slots i))))) x → Has (flat_map (λ s. parts_of (wire_of_node (head_at all) (node_or_bottom (node_of s)))) slots) x
node_parts [] all i x h = absurd h
node_parts (s ∷ slots) all zero x h = has_left (parts_of (wire_of_node (head_at all) (node_or_bottom (node_of s)))) (flat_map (λ s. parts_of (wire_of_node (head_at all) (node_or_bottom (node_of s)))) slots) x h
node_parts (s ∷ slots) all (suc i) x h = has_right (parts_of (wire_of_node (head_at all) (node_or_bottom (node_of s)))) (flat_map (λ s. parts_of (wire_of_node (head_at all) (node_or_bottom (node_of s)))) slots) x (node_parts slots all i x h)

graph_closed : (slots : Types) (a x : Ref TypeId) → Has (parts_of ((of_graph slots).head a)) x → Has (graph_parts slots) x
graph_closed slots (Just p) x h = absurd h
graph_closed slots (Of t) x h = node_parts slots slots t.index x h

pub graph_finite : (slots : Types) → AreFinite (of_graph slots)
graph_finite slots = record { once = type_once; closed = graph_closed slots }

-- ---- of a table

ref_once : (a b : TableRef) → ref_number a ≡ ref_number b → a ≡ b
ref_once (Plainly p) (Plainly q) e = ap (λ x. Plainly x) (code_once p q e)
ref_once (At i) (At j) e = let h : i ≡ j = omega (arith, e) in ap (λ x. At x) h
ref_once (Plainly p) (At j) e = let h = code_range p in absurd (omega (arith, h.1, e))
ref_once (At i) (Plainly q) e = let h = code_range q in absurd (omega (arith, h.1, e))

entry_parts : (table : List (Wire TableRef)) (i : ℕ) (x : TableRef) → Has (parts_of (or_empty (slice_get table i))) x → Has (flat_map (λ w. parts_of w) table) x
entry_parts [] i x h = absurd h
entry_parts (w ∷ table) zero x h = has_left (parts_of w) (flat_map (λ w. parts_of w) table) x h
entry_parts (w ∷ table) (suc i) x h = has_right (parts_of w) (flat_map (λ w. parts_of w) table) x (entry_parts table i x h)

table_closed : (table : List (Wire TableRef)) (a x : TableRef) → Has (parts_of ((of_table table).head a)) x → Has (of_table table).parts x
table_closed table (Plainly p) x h = absurd h
table_closed table (At i) x h = entry_parts table i x h

pub table_finite : (table : List (Wire TableRef)) → AreFinite (of_table table)
table_finite table = record { once = ref_once; closed = table_closed table }

-- ---- of stable variables

saved_once : (a b : Saved TypeId) → saved_number a ≡ saved_number b → a ≡ b
saved_once Whole Whole e = refl
saved_once (Inner r) (Inner s) e = let h : type_number r ≡ type_number s = omega (arith, e) in ap (λ x. Inner x) (type_once r s h)
saved_once Whole (Inner s) e = absurd (omega (arith, e))
saved_once (Inner r) Whole e = absurd (omega (arith, e))

module _ {A B : Type 0} (f : A → B) where
  map_join : (xs ys : List A) → map f (xs ++ ys) ≡ map f xs ++ map f ys
  map_join [] ys = refl
  map_join (x ∷ xs) ys = ap (λ l. f x ∷ l) (map_join xs ys)

  entries_parts : (es : List (Entry A)) → map (λ e. e.part) (map (map_entry f) es) ≡ map f (map (λ e. e.part) es)
  entries_parts [] = refl
  entries_parts (e ∷ es) = ap (λ l. f e.part ∷ l) (entries_parts es)

  methods_parts : (ms : List (Method A)) → map (λ m. m.part) (map (map_method f) ms) ≡ map f (map (λ m. m.part) ms)
  methods_parts [] = refl
  methods_parts (m ∷ ms) = ap (λ l. f m.part ∷ l) (methods_parts ms)

  parts_mapped : (w : Wire A) → parts_of (map_wire f w) ≡ map f (parts_of w)
  parts_mapped (Simple p) = refl
  parts_mapped (Opt a) = refl
  parts_mapped (Vec a) = refl
  parts_mapped (Record es) = entries_parts es
  parts_mapped (Variant es) = entries_parts es
  parts_mapped (Func ps rs ns) = sym (map_join ps rs)
  parts_mapped (Service ms) = methods_parts ms

  pub mapped : (xs : List A) (x : A) → Has xs x → Has (map f xs) (f x)
  mapped [] x i = absurd i
  mapped (w ∷ xs) x (inl e) = inl (ap f e)
  mapped (w ∷ xs) x (inr i) = inr (mapped xs x i)

  image : (xs ys : List A) → ((x : A) → Has xs x → Has ys x) → (y : B) → Has (map f xs) y → Has (map f ys) y
  image [] ys h y i = absurd i
  image (x ∷ xs) ys h y (inl e) = subst (λ z. Has (map f ys) z) e (mapped ys x (h x (inl refl)))
  image (x ∷ xs) ys h y (inr i) = image xs ys (λ z j. h z (inr j)) y i

saved_closed : (slots : Types) (variables : List (Variable TypeId)) (a x : Saved TypeId) → Has (parts_of ((of_saved slots variables).head a)) x → Has (of_saved slots variables).parts x
saved_closed slots variables Whole x h = has_left (parts_of (saved_head (head_at slots) variables Whole)) (map (λ r. Inner r) (graph_parts slots)) x h
saved_closed slots variables (Inner r) x h =
    has_right (parts_of (saved_head (head_at slots) variables Whole)) (map (λ r. Inner r) (graph_parts slots)) x
    (image (λ r. Inner r) (parts_of ((of_graph slots).head r)) (graph_parts slots) (graph_closed slots r) x (subst (λ l. Has l x) (parts_mapped (λ r. Inner r) ((of_graph slots).head r)) h))

pub saved_finite : (slots : Types) (variables : List (Variable TypeId)) → AreFinite (of_saved slots variables)
saved_finite slots variables = record { once = saved_once; closed = saved_closed slots variables }
