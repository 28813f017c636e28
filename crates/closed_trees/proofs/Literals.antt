-- Literals, and elements of iterators, in an environment.
use Rattle.std.proofs.Common.{◌≡◌, ◌⊎◌, ◌∙◌, ◌<◌, ◌≤◌, inl, inr, ℕ, List, [], map, length, refl, sym, subst}
use Rattle.std.specs.Prelude.{codes}
use Rattle.std.proofs.lemmas.List.{length-map}
use Rattle.mo_types.specs.declared.datum.Datum.{Datum}
use Rattle.mo_types.specs.declared.datum.Datum.TheVariants as part
use Rattle.mo_types.specs.declared.node.Node.{Node}
use Rattle.mo_types.specs.declared.node.Node.TheVariants as node
use Rattle.mo_types.specs.declared.node.TypeId.{TypeId}
use Rattle.mo_types.specs.Graph.{Slot, head_at}
use Rattle.mo_types.specs.Values.{IsPartOf}
use Rattle.mo_subtype.specs.Renamed.{on_field, on_node}
use Rattle.mo_values.specs.Shapes.{Leaf}
use Rattle.typed_tree.specs.declared.literal.Literal.{Literal}
use Rattle.typed_tree.specs.declared.literal.Literal.TheVariants as literal
use Rattle.typed_tree.specs.Has.{IsLeafPart}
use Rattle.typed_tree.specs.MemberTypes as member
use Rattle.typed_tree.specs.PatternTypes.{LiteralOf}
use Rattle.typed_tree.specs.PatternView.{literal_part, literal_value}
use Rattle.typed_tree.specs.Typing.{GivesElements}
use Rattle.typed_tree.specs.Wants.{Of}
use Rattle.closed_types.specs.Closings.{IsNoVariable, Closing}
use Rattle.closed_types.specs.Expanded.{Environment, close_in, expanded}
use Rattle.closed_types.proofs.Expanded.{closing}
use Rattle.closed_rules.proofs.Heads.{at, field_at}
use Rattle.mo_soundness.specs.Running.{AnswerTypes, Fits, HasValue}
use Rattle.mo_soundness.proofs.Found.{unit_fits}
use Rattle.closed_trees.specs.Worlds.{closed_world}

part_plain : (x : Node TypeId) (p : Datum) → IsPartOf x p → IsNoVariable x
part_plain (node.Variable v b) part.Null h = absurd h
part_plain (node.Variable v b) p h = absurd h
part_plain x p h = refl

module _ (f : TypeId → TypeId) where
  part_closed : (x : Node TypeId) (p : Datum) → IsPartOf x p → IsPartOf (on_node f x) p
  part_closed (node.Opt a) part.Null h = tt
  part_closed (node.Opt a) part.Present h = tt
  part_closed (node.Opt a) p h = absurd h
  part_closed (node.Array a) (part.Many n) h = tt
  part_closed (node.Array a) p h = absurd h
  part_closed (node.Tuple ts) (part.Record n) h = h ∙ sym (length-map ts f)
  part_closed (node.Tuple ts) p h = absurd h
  part_closed (node.Object fs) (part.Record n) h = h ∙ sym (length-map fs (on_field f))
  part_closed (node.Object fs) p h = absurd h
  part_closed (node.Actor fs) (part.Actor q) h = h
  part_closed (node.Actor fs) p h = absurd h
  part_closed (node.Variant fs) (part.Tag i) h = subst (λ n. i < n) (sym (length-map fs (on_field f))) h
  part_closed (node.Variant fs) p h = absurd h
  part_closed (node.Func s ps rs) (part.Method q name) h = h
  part_closed (node.Func s ps rs) p h = absurd h
  part_closed (node.MutArray a) part.Null h = absurd h
  part_closed (node.MutArray a) p h = absurd h
  part_closed (node.Async a) part.Null h = absurd h
  part_closed (node.Async a) p h = absurd h
  part_closed (node.Variable v b) part.Null h = absurd h
  part_closed (node.Variable v b) p h = absurd h
  part_closed x p h = h

leaf_fits : (head : TypeId → Node TypeId) (answers : AnswerTypes) (x : Node TypeId) (l : Literal) → IsLeafPart (literal_part l) → IsPartOf x (literal_part l) → Fits head answers x (Leaf (literal_part l))
leaf_fits head answers node.Any literal.Unit i h = tt
leaf_fits head answers node.Any literal.Null i h = absurd h
leaf_fits head answers node.Any (literal.Flag b) i h = absurd h
leaf_fits head answers node.Any (literal.Number n) i h = absurd h
leaf_fits head answers node.Any (literal.Character c) i h = absurd h
leaf_fits head answers node.Any (literal.Text t) i h = absurd h
leaf_fits head answers node.Any (literal.Blob t) i h = absurd h
leaf_fits head answers node.Any (literal.Actor p) i h = absurd h
leaf_fits head answers (node.Variable v b) literal.Unit i h = absurd h
leaf_fits head answers (node.Variable v b) literal.Null i h = absurd h
leaf_fits head answers (node.Variable v b) (literal.Flag f) i h = absurd h
leaf_fits head answers (node.Variable v b) (literal.Number n) i h = absurd h
leaf_fits head answers (node.Variable v b) (literal.Character c) i h = absurd h
leaf_fits head answers (node.Variable v b) (literal.Text t) i h = absurd h
leaf_fits head answers (node.Variable v b) (literal.Blob t) i h = absurd h
leaf_fits head answers (node.Variable v b) (literal.Actor p) i h = absurd h
leaf_fits head answers x l i h = (i, h)

module _ (types : List Slot) (first : ℕ) (past : length types ≤ first) (e : Environment) where
  abbrev c : Closing (head_at types) (expanded types first)
  c = closing types first past e

  abbrev close : TypeId → TypeId
  close t = close_in types first e t

  module _ (answers : AnswerTypes) (kinds : List TypeId) where
    literal_fits : (l : Literal) (t : TypeId) → IsLeafPart (literal_part l) → IsPartOf (head_at types t) (literal_part l) → Fits (expanded types first) answers (expanded types first (close t)) (Leaf (literal_part l))
    literal_fits l t i h =
        subst (λ (x : Node TypeId). Fits (expanded types first) answers x (Leaf (literal_part l))) (sym (c.others t (part_plain (head_at types t) (literal_part l) h)))
        (leaf_fits (expanded types first) answers (on_node close (head_at types t)) l i (part_closed close (head_at types t) (literal_part l) h))

    pub literal_has : (l : Literal) (t : TypeId) → LiteralOf (head_at types) l t → HasValue (closed_world types first) answers kinds (Of (close t)) (literal_value l)
    literal_has literal.Unit t h = unit_fits (closed_world types first) answers kinds (close t) (at (head_at types) (expanded types first) c t (node.Tuple []) h refl)
    literal_has literal.Null t h = (literal_fits literal.Null t h.0 h.1, tt)
    literal_has (literal.Flag b) t h = (literal_fits (literal.Flag b) t h.0 h.1, tt)
    literal_has (literal.Number n) t h = (literal_fits (literal.Number n) t h.0 h.1, tt)
    literal_has (literal.Character k) t h = (literal_fits (literal.Character k) t h.0 h.1, tt)
    literal_has (literal.Text x) t h = (literal_fits (literal.Text x) t h.0 h.1, tt)
    literal_has (literal.Blob x) t h = (literal_fits (literal.Blob x) t h.0 h.1, tt)
    literal_has (literal.Actor p) t h = (literal_fits (literal.Actor p) t h.0 h.1, tt)

  -- the outermost part of a literal, where its type comes to another
  pub part_there : (p : Datum) (t : TypeId) → IsPartOf (head_at types t) p → IsPartOf (expanded types first (close t)) p
  part_there p t h = subst (λ (x : Node TypeId). IsPartOf x p) (sym (c.others t (part_plain (head_at types t) p h))) (part_closed close (head_at types t) p h)

  pub elements_there : (i t : TypeId) → GivesElements (head_at types) i t → GivesElements (expanded types first) (close i) (close t)
  elements_there i t h = (
    map (on_field close) h.0,
    close h.1,
    close h.2,
    at (head_at types) (expanded types first) c i (node.Object h.0) h.3 refl,
    field_at (head_at types) (expanded types first) c h.0 (codes "next") h.1 h.4,
    at (head_at types) (expanded types first) c h.1 (member.Function [] h.2) h.5 refl,
    by h.6,
  ) where
    none : (head_at types h.2 ≡ node.Null) ⊎ (head_at types h.2 ≡ node.Bottom) → (expanded types first (close h.2) ≡ node.Null) ⊎ (expanded types first (close h.2) ≡ node.Bottom)
    none (inl e) = inl (at (head_at types) (expanded types first) c h.2 node.Null e refl)
    none (inr e) = inr (at (head_at types) (expanded types first) c h.2 node.Bottom e refl)

    by : (head_at types h.2 ≡ node.Opt t) ⊎ (((head_at types h.2 ≡ node.Null) ⊎ (head_at types h.2 ≡ node.Bottom)) × (head_at types t ≡ node.Bottom))
        → (expanded types first (close h.2) ≡ node.Opt (close t)) ⊎ (((expanded types first (close h.2) ≡ node.Null) ⊎ (expanded types first (close h.2) ≡ node.Bottom)) × (expanded types first (close t) ≡ node.Bottom))
    by (inl e) = inl (at (head_at types) (expanded types first) c h.2 (node.Opt t) e refl)
    by (inr e) = inr (none e.0, at (head_at types) (expanded types first) c t node.Bottom e.1 refl)
