-- The graph that is kept of the types that were met.
use Rattle.std.proofs.Common.{◌≡◌, ℕ, ◌<◌, List, [], length, Option, Some, None, slice_get, refl, sym, ap, ◌∙◌, subst, arith}
use Rattle.mo_types.specs.declared.node.Node.{Node}
use Rattle.mo_types.specs.declared.node.TypeId.{TypeId}
use Rattle.mo_types.specs.Graph.{Slot, Defined, node_of_slot, node_at}
use Rattle.mo_types.specs.Sub.{Each}
use Rattle.mo_subtype.specs.Renamed.{on_node}
use Rattle.subtype_laws.specs.Reached.{Among}
use Rattle.typed_tree.specs.Instances.{types_in}
use Rattle.typing_rules.specs.Counts.{Reached, Met, Part}
use Rattle.typing_rules.specs.Definitions.{Definitions}
use Rattle.typing_rules.specs.Graphs.{Tied, term_of}
use Rattle.typing_rules.specs.Heads.{head}
use Rattle.typing_rules.specs.Terms.{Term}
use Rattle.type_definitions.specs.Meanings.{term}
use Rattle.type_definitions.specs.Tables.{Later}
use Rattle.met_types.specs.Closing.{Ready}
use Rattle.met_types.specs.States.{State, Stands}
use Rattle.met_types.proofs.Counted.{among_place, graph_term, map_from, map_many, map_there, place_among, terms_differ}
use Rattle.met_types.proofs.Indexing.{in_range, there}
use Rattle.kernel_types.specs.Numbers.{Holds, definitions, graph_terms, number}
use Rattle.kernel_types.proofs.Numbered.{its_number}
use Rattle.graph_laws.specs.Laws.{GraphsAreKept, IsGraph}
use Rattle.graph_laws.proofs.Lists.{IsDefined, all_defined, among_mapped, each_among, without_end}
use Rattle.graph_laws.proofs.Nodes.{parts_are}

same_node : {n m : Node TypeId} → Some n ≡ Some m → n ≡ m
same_node e = cc

module _ (s : State) (h : Holds s) (met : List Term) (c : Stands met s) where
  abbrev defs : Definitions
  defs = definitions s

  abbrev slots : List Slot
  slots = s.slots

  abbrev terms : List Term
  terms = graph_terms s

  abbrev type_of : TypeId → Term
  type_of = term_of terms

  -- a number of the graph
  abbrev IsNumber : TypeId → Type 0
  IsNumber id = id.index < length s.reached

  itself : Later s.forms s.forms
  itself = record { grows = ([], sym (without_end s.forms)); founded = h.founded; distinct = h.distinct }

  many : length s.reached ≡ length slots
  many = h.kept.formed.many

  in_graph : (i : ℕ) (x : Slot) → slice_get slots i ≡ Some x → i < length s.reached
  in_graph i x e = let l : i < length slots = in_range slots i x e in let m : length s.reached ≡ length slots = many in omega (arith, l, m)

  -- what stands under a number of the graph
  record Standing (id : TypeId) : Type 0 where
    node : Node TypeId
    slot : slice_get slots id.index ≡ Some (Defined node)
    seen : head defs (type_of id) ≡ on_node type_of node
    parts : Each IsNumber (types_in node)

  standing : (id : TypeId) → IsNumber id → Standing id
  standing id l =
      let r : Ready s.listed s.forms slots s.reached id.index = h.kept.formed.ready id.index l in record {
        node = r.node;
        slot = r.slot;
        seen = ap (λ u. head defs u) (graph_term s.forms s.reached id r.own r.there) ∙ r.is s.forms itself;
        parts = r.parts;
      }

  type_there : (id : TypeId) → IsNumber id → Among (type_of id) terms
  type_there id l =
      let t = there s.reached id.index l in
      subst (λ u. Among u terms) (sym (graph_term s.forms s.reached id t.0 t.1)) (place_among (term s.forms t.0) terms id.index (map_there (term s.forms) s.reached id.index t.0 t.1))

  -- the number of a type of the graph
  numbered : (u : Term) → Among u terms → (id : TypeId) × IsNumber id × (type_of id ≡ u)
  numbered u m =
      let p = among_place u terms m in
      let r = map_from (term s.forms) s.reached p.0 u p.1 in
      let id : TypeId = record { index = p.0 } in
      (id, in_range s.reached p.0 r.0 r.1, graph_term s.forms s.reached id r.0 r.1 ∙ r.2)

  part_there : (t u : Term) → Among t terms → Among u (types_in (head defs t)) → Among u terms
  part_there t u m i =
      let x = numbered t m in
      let y = standing x.0 x.1 in
      let e : head defs t ≡ on_node type_of y.node = ap (λ z. head defs z) (sym x.2) ∙ y.seen in
      let q = among_mapped type_of (types_in y.node) u (subst (λ zs. Among u zs) (parts_are type_of y.node) (subst (λ z. Among u (types_in z)) e i)) in
      subst (λ z. Among z terms) q.2 (type_there q.0 (each_among IsNumber (types_in y.node) y.parts q.0 q.1))

  all_reached : (u : Term) → Reached defs met u → Among u terms
  all_reached u (Met v m) = c.all s.forms itself u m
  all_reached u (Part t v r m) = part_there t u (all_reached t r) m

  each_reached : (u : Term) → Among u terms → Reached defs met u
  each_reached u m =
      let p = among_place u terms m in
      let r = map_from (term s.forms) s.reached p.0 u p.1 in
      subst (λ z. Reached defs met z) r.2 (c.from s.forms itself p.0 r.0 r.1)

  tied_heads : (id : TypeId) (n : Node TypeId) → node_at slots id ≡ Some n → head defs (type_of id) ≡ on_node type_of n
  tied_heads id n e = by (slice_get slots id.index) refl where
    by : (o : Option Slot) → slice_get slots id.index ≡ o → head defs (type_of id) ≡ on_node type_of n
    by None f = let k : None ≡ Some n = sym (ap node_of_slot f) ∙ e in cc
    by (Some x) f =
        let y = standing id (in_graph id.index x f) in
        y.seen ∙ ap (λ z. on_node type_of z) (same_node (sym (ap node_of_slot y.slot) ∙ e))

  tied : Tied defs slots terms
  tied = record {
    as_many = map_many (term s.forms) s.reached ∙ many;
    different = terms_differ s.forms s.forms itself s.reached h.kept.formed.different h.kept.formed.within;
    heads = tied_heads;
  }

  same_slot : {x y : Slot} → Some x ≡ Some y → x ≡ y
  same_slot e = cc

  defined : (i : ℕ) (x : Slot) → slice_get slots i ≡ Some x → IsDefined (length slots) x
  defined i x e =
      let y = standing (record { index = i }) (in_graph i x e) in
      subst (λ z. IsDefined (length slots) z) (same_slot (sym y.slot ∙ e)) (subst (λ n. Each (λ p. p.index < n) (types_in y.node)) many y.parts)

  found : (u : Term) → Among u terms → slice_get terms (number s u).index ≡ Some u
  found u m =
      let p = among_place u terms m in
      let r = map_from (term s.forms) s.reached p.0 u p.1 in
      let id : TypeId = record { index = p.0 } in
      let e : id ≡ number s u = its_number s h.kept h.founded h.distinct id r.0 r.1 ∙ ap (λ z. number s z) r.2 in
      subst (λ (z : TypeId). slice_get terms z.index ≡ Some u) e p.1

  pub is_graph : IsGraph defs met slots terms (number s)
  is_graph = record {
    whole = record { tied = tied; each = each_reached; all = all_reached };
    defined = all_defined slots slots defined;
    numbered = found;
  }

pub graphs_are_kept : GraphsAreKept
graphs_are_kept s h met c = is_graph s h met c
