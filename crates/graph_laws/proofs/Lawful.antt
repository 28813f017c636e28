-- The graph of lawful types is lawful.
use Rattle.std.proofs.Common.{◌≡◌, inl, ℕ, ◌<◌, List, length, Option, Some, None, slice_get, refl, sym, ap, ◌∙◌, subst, arith}
use Rattle.mo_types.specs.declared.node.Node.{Node}
use Rattle.mo_types.specs.declared.node.Node.TheVariants as node
use Rattle.mo_types.specs.declared.node.TypeId.{TypeId}
use Rattle.mo_types.specs.Graph.{Slot, node_of, node_of_slot, node_or_bottom, head_at}
use Rattle.mo_types.specs.Sub.{AtSome, Each}
use Rattle.mo_subtype.specs.Renamed.{on_node}
use Rattle.subtype_laws.specs.Reached.{Among}
use Rattle.typed_tree.specs.Instances.{types_in}
use Rattle.typed_tree.specs.Types.{AreLawful, HasNoFuture, IsLawfulNode}
use Rattle.typing_rules.specs.Counts.{Reached, Met}
use Rattle.typing_rules.specs.Definitions.{Definitions}
use Rattle.typing_rules.specs.Graphs.{or_none, term_of}
use Rattle.typing_rules.specs.Heads.{head}
use Rattle.typing_rules.specs.Terms.{Term}
use Rattle.met_types.proofs.Counted.{place_among}
use Rattle.met_types.proofs.Indexing.{in_range, there}
use Rattle.desugaring_laws.specs.GraphOf.{IsGraphOf}
use Rattle.proper_laws.specs.Lawful.{AreTypesLawful}
use Rattle.graph_laws.specs.Laws.{GraphsAreLawful, IsGraph}
use Rattle.graph_laws.proofs.Lists.{IsDefined, defined_at, each_among, one_place}
use Rattle.graph_laws.proofs.Nodes.{futureless_from, lawful_from}

module _ (defs : Definitions) (met : List Term) (slots : List Slot) (terms : List Term) (number : Term → TypeId) (g : IsGraph defs met slots terms number) (w : AreTypesLawful defs met) where
  abbrev type_of : TypeId → Term
  type_of = term_of terms

  -- a number of the graph
  abbrev IsNumber : TypeId → Type 0
  IsNumber id = id.index < length slots

  -- what stands under a number of the graph
  record Standing (id : TypeId) : Type 0 where
    seen : head defs (type_of id) ≡ on_node type_of (head_at slots id)
    parts : Each IsNumber (types_in (head_at slots id))

  standing : (id : TypeId) → IsNumber id → Standing id
  standing id l =
      let x = there slots id.index l in
      of_slot x.0 x.1 (defined_at slots slots g.defined id.index x.0 x.1)
    where
      of_node : (x : Slot) → slice_get slots id.index ≡ Some x → (o : Option (Node TypeId)) → node_of x ≡ o → AtSome o (λ y. Each IsNumber (types_in y)) → Standing id
      of_node x e None f d = absurd d
      of_node x e (Some n) f d =
          let at : head_at slots id ≡ n = ap (λ z. node_or_bottom (node_of_slot z)) e ∙ ap node_or_bottom f in record {
            seen = g.whole.tied.heads id n (ap node_of_slot e ∙ f) ∙ ap (λ z. on_node type_of z) (sym at);
            parts = subst (λ z. Each IsNumber (types_in z)) (sym at) d;
          }

      of_slot : (x : Slot) → slice_get slots id.index ≡ Some x → IsDefined (length slots) x → Standing id
      of_slot x e d = of_node x e (node_of x) refl d

  seen : (id : TypeId) → IsNumber id → head defs (type_of id) ≡ on_node type_of (head_at slots id)
  seen id l = (standing id l).seen

  inside : (id u : TypeId) → IsNumber id → Among u (types_in (head_at slots id)) → IsNumber u
  inside id u l m = each_among IsNumber (types_in (head_at slots id)) (standing id l).parts u m

  -- the type of a number
  type_at : (id : TypeId) → IsNumber id → slice_get terms id.index ≡ Some (type_of id)
  type_at id l =
      let m : length terms ≡ length slots = g.whole.tied.as_many in
      let x = there terms id.index (omega (arith, l, m)) in
      x.1 ∙ ap (λ (u : Term). Some u) (sym (ap or_none x.1))

  reached : (id : TypeId) → IsNumber id → Reached defs met (type_of id)
  reached id l = g.whole.each (type_of id) (place_among (type_of id) terms id.index (type_at id l))

  -- what is not in the graph has the head of None
  by_number : (P : Node TypeId → Type 0) → P node.Bottom → (id : TypeId) → (IsNumber id → P (head_at slots id)) → P (head_at slots id)
  by_number P none id f = by (slice_get slots id.index) refl where
    by : (o : Option Slot) → slice_get slots id.index ≡ o → P (head_at slots id)
    by None e = subst (λ z. P (node_or_bottom (node_of_slot z))) (sym e) none
    by (Some x) e = f (in_range slots id.index x e)

  nodes : (id : TypeId) → IsLawfulNode (head_at slots) (head_at slots id) × HasNoFuture (head_at slots) (head_at slots id)
  nodes id = by_number (λ y. IsLawfulNode (head_at slots) y × HasNoFuture (head_at slots) y) (tt, tt) id (λ l.
      let k = w.nodes (type_of id) (reached id l) in (
        lawful_from (head_at slots) (head defs) type_of IsNumber seen inside (head_at slots id) (λ u m. inside id u l m) (subst (λ y. IsLawfulNode (head defs) y) (seen id l) k.0),
        futureless_from (head_at slots) (head defs) type_of IsNumber seen inside (head_at slots id) (λ u m. inside id u l m) (subst (λ y. HasNoFuture (head defs) y) (seen id l) k.1),
      ))

  -- a type parameter is a type of the graph, and so is its bound
  parameter_there : (id b : TypeId) (v : ℕ) → head_at slots id ≡ node.Variable v b → IsNumber id
  parameter_there id b v = by_number (λ y. y ≡ node.Variable v b → IsNumber id) (λ e. cc) id (λ l e. l)

  bound_there : (id b : TypeId) (v : ℕ) → head_at slots id ≡ node.Variable v b → IsNumber id → IsNumber b
  bound_there id b v e l = inside id b l (subst (λ y. Among b (types_in y)) (sym e) (inl refl))

  seen_parameter : (id b : TypeId) (v : ℕ) → head_at slots id ≡ node.Variable v b → IsNumber id → head defs (type_of id) ≡ node.Variable v (type_of b)
  seen_parameter id b v e l = seen id l ∙ ap (λ y. on_node type_of y) e

  same_number : (b d : TypeId) → b.index ≡ d.index → b ≡ d
  same_number b d e = ap (λ (n : ℕ). record { index = n }) e

  same_type : (b d : TypeId) → IsNumber b → IsNumber d → type_of b ≡ type_of d → b ≡ d
  same_type b d k l e =
      same_number b d (one_place terms g.whole.tied.different b.index d.index (type_of d) (type_at b k ∙ ap (λ (u : Term). Some u) e) (type_at d l))

  lawful : AreLawful slots
  lawful = record {
    defined = g.defined;
    nodes = nodes;
    bounds = λ t u b d v e f.
        let k = parameter_there t b v e in
        let l = parameter_there u d v f in
        same_type b d (bound_there t b v e k) (bound_there u d v f l)
        (w.bounds (type_of t) (type_of u) (type_of b) (type_of d) v (reached t k) (reached u l) (seen_parameter t b v e k) (seen_parameter u d v f l));
    rank = w.rank;
    bounds_end = λ t b d v x e f.
        let k = parameter_there t b v e in
        w.bounds_end (type_of t) (type_of b) (type_of d) v x (reached t k) (seen_parameter t b v e k) (seen_parameter b d x f (bound_there t b v e k));
  }

  pub of_types : IsGraphOf defs slots terms number
  of_types = record { tied = g.whole.tied; lawful = lawful; numbered = g.numbered }

pub graphs_are_lawful : GraphsAreLawful
graphs_are_lawful defs met slots terms number g w = (of_types defs met slots terms number g w, λ u m. g.whole.all u (Met u m))
