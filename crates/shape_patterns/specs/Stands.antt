-- The pattern that stands for a shape: it matches values of this shape alone. Where nothing is known it is `_`, and of the type `()` its one
-- value; of literals and tags that are left, one is named. A shape that is none of the type has a pattern that matches nothing.
use Rattle.std.specs.Prelude.{List, [], ◌∷◌, Bool, cond, Option, Some, None}
use Rattle.mo_types.specs.declared.datum.Datum.{Datum}
use Rattle.mo_types.specs.declared.node.Field.{Field}
use Rattle.mo_types.specs.declared.node.Node.{Node}
use Rattle.mo_types.specs.declared.node.Node.TheVariants as node
use Rattle.mo_types.specs.Sub.{find}
use Rattle.mo_values.specs.Shapes.{Bytes}
use Rattle.typed_tree.specs.Patterns.{Pat, Pats, Wildcard, Constant, Present?, Tagged, Parts, Fields, NoPat, APat}
use Rattle.pattern_coverage.specs.Known.{Known, Knowns, Unknown, Is, IsNot, Holds, Under, NotUnder, NoKnown, AKnown}
use Rattle.pattern_coverage.specs.Known as known
use Rattle.pattern_coverage.specs.Leaves.{is_among}
use Rattle.shape_patterns.specs.Choice.{literal_left, tag_left}

-- it matches nothing
abbrev pub never : Pat
never = Fields ([] ∷ []) NoPat

-- a literal that is none of these
abbrev pub if_new : Datum → List Datum → Pat
if_new c cs = cond (is_among c cs) never (Constant c)

module _ {A : Type 0} where
  abbrev pub any_of : Node A → Pat
  any_of (node.Tuple []) = Parts NoPat
  any_of _ = Wildcard

  abbrev pub option_pattern : (A → Pat) → Node A → Pat
  option_pattern f (node.Opt u) = Present? (f u)
  option_pattern f _ = never

  abbrev pub tagged : (A → Pat) → Bytes → Option (Field A) → Pat
  tagged f l None = never
  tagged f l (Some g) = Tagged l (f g.part)

  abbrev pub under : (A → Pat) → Bytes → Node A → Pat
  under f l (node.Variant fs) = tagged f l (find l fs)
  under f l _ = never

  abbrev pub other_of : (A → Pat) → Option (Field A) → Pat
  other_of f None = never
  other_of f (Some g) = Tagged g.label (f g.part)

  abbrev pub other_tag : (A → Bool) → (A → Pat) → List Bytes → Node A → Pat
  other_tag has f ls (node.Variant fs) = other_of f (tag_left has fs ls)
  other_tag has f ls _ = never

  abbrev pub tuple_pattern : (List A → Pats) → Node A → Pat
  tuple_pattern f (node.Tuple ts) = Parts (f ts)
  tuple_pattern f _ = never

  abbrev pub object_pattern : (List (Field A) → Pats) → List Bytes → Node A → Pat
  object_pattern f ls (node.Object fs) = Fields ls (f fs)
  object_pattern f ls _ = never

  abbrev pub field_pattern : (A → Pat) → Option (Field A) → Pat
  field_pattern f None = never
  field_pattern f (Some g) = f g.part

module _ {A : Type 0} (head : A → Node A) (has : A → Bool) where
  abbrev mutual
    -- of a type with this head
    pub at_node : Known → Node A → Pat
    at_node Unknown x = any_of x
    at_node (Is c) x = Constant c
    at_node (IsNot cs) x = if_new (literal_left x cs) cs
    at_node (Holds k) x = option_pattern (λ u. at_node k (head u)) x
    at_node (Under l k) x = under (λ u. at_node k (head u)) l x
    at_node (NotUnder ls) x = other_tag has (λ u. any_of (head u)) ls x
    at_node (known.Parts ks) x = tuple_pattern (λ ts. part_patterns ks ts) x
    at_node (known.Fields ls ks) x = object_pattern (λ fs. field_patterns ls ks fs) ls x

    pub part_patterns : Knowns → List A → Pats
    part_patterns NoKnown ts = NoPat
    part_patterns (AKnown k ks) [] = APat never (part_patterns ks [])
    part_patterns (AKnown k ks) (t ∷ ts) = APat (at_node k (head t)) (part_patterns ks ts)

    pub field_patterns : List Bytes → Knowns → List (Field A) → Pats
    field_patterns [] NoKnown fs = NoPat
    field_patterns [] (AKnown k ks) fs = APat never NoPat
    field_patterns (l ∷ ls) NoKnown fs = NoPat
    field_patterns (l ∷ ls) (AKnown k ks) fs = APat (field_pattern (λ u. at_node k (head u)) (find l fs)) (field_patterns ls ks fs)

  abbrev pub shape_pattern : Known → A → Pat
  shape_pattern k t = at_node k (head t)
