-- The heads of arrays and variants, with the terms of their parts.
use Rattle.std.proofs.Common.{◌≡◌, ◌∙◌, ℕ, ◌<◌, Bool, true, false, List, ◌∷◌, [], map, slice_get, Option, Some, None, IfSome, option_map, refl, sym, ap}
use Rattle.std.specs.Prelude.{if◌then◌else◌, nat_eq}
use Rattle.std.specs.Cmp.Lexicographic.{pointwise}
use Rattle.mo_types.specs.declared.node.Node.{Node}
use Rattle.mo_types.specs.declared.node.Node.TheVariants as node
use Rattle.mo_types.specs.declared.node.Field.{Field}
use Rattle.mo_types.specs.declared.node.TypeId.{TypeId}
use Rattle.mo_types.specs.Heads.{array_of, mut_array_of, variant_of}
use Rattle.mo_types.specs.Sub.{Each, find}
use Rattle.mo_subtype.specs.Renamed.{on_field, on_node}
use Rattle.typed_tree.specs.Instances.{types_in}
use Rattle.type_terms.specs.declared.form.Form.{Form}
use Rattle.type_terms.specs.declared.form.TermId.{TermId}
use Rattle.typing_rules.specs.Terms.{Term}
use Rattle.typing_rules.specs.Graphs.{term_of}
use Rattle.type_definitions.specs.Meanings.{term}
use Rattle.met_types.specs.Closing.{terms_in}
use Rattle.met_types.specs.States.{State, IsReached, IsNodeOf}
use Rattle.judging.specs.Heads.{HeadHas}
use Rattle.judging.proofs.NodeParts.{OnePart, part_is}
use Rattle.data_parts.specs.Tags.{IsPart, own_part, part_among, tag_of}

module _ {A B : Type 0} (f : A → B) where
  record Mapped (y : Node A) : Type 0 where
    array : array_of (on_node f y) ≡ option_map f (array_of y)
    mutable_array : mut_array_of (on_node f y) ≡ option_map f (mut_array_of y)
    variant : variant_of (on_node f y) ≡ option_map (map (on_field f)) (variant_of y)

  mapped : (y : Node A) → Mapped y
  mapped (node.Number k) = record { array = refl; mutable_array = refl; variant = refl }
  mapped node.Bool = record { array = refl; mutable_array = refl; variant = refl }
  mapped node.Char = record { array = refl; mutable_array = refl; variant = refl }
  mapped node.Text = record { array = refl; mutable_array = refl; variant = refl }
  mapped node.Blob = record { array = refl; mutable_array = refl; variant = refl }
  mapped node.Principal = record { array = refl; mutable_array = refl; variant = refl }
  mapped node.Error = record { array = refl; mutable_array = refl; variant = refl }
  mapped node.Null = record { array = refl; mutable_array = refl; variant = refl }
  mapped node.Any = record { array = refl; mutable_array = refl; variant = refl }
  mapped node.Bottom = record { array = refl; mutable_array = refl; variant = refl }
  mapped (node.Opt a) = record { array = refl; mutable_array = refl; variant = refl }
  mapped (node.Array a) = record { array = refl; mutable_array = refl; variant = refl }
  mapped (node.MutArray a) = record { array = refl; mutable_array = refl; variant = refl }
  mapped (node.Tuple ts) = record { array = refl; mutable_array = refl; variant = refl }
  mapped (node.Object fs) = record { array = refl; mutable_array = refl; variant = refl }
  mapped (node.Actor fs) = record { array = refl; mutable_array = refl; variant = refl }
  mapped (node.Variant fs) = record { array = refl; mutable_array = refl; variant = refl }
  mapped (node.Func s ps rs) = record { array = refl; mutable_array = refl; variant = refl }
  mapped (node.Async a) = record { array = refl; mutable_array = refl; variant = refl }
  mapped (node.Variable v b) = record { array = refl; mutable_array = refl; variant = refl }

  -- a tag among others
  found : (l : List ℕ) (fs : List (Field A)) → part_among l (map (on_field f) fs) ≡ option_map f (part_among l fs)
  found l [] = refl
  found l (m ∷ fs) = pick (pointwise nat_eq m.label l) (find l (map (on_field f) fs)) (find l fs) (found l fs) where
    pick : (b : Bool) (o : Option (Field B)) (q : Option (Field A)) → option_map own_part o ≡ option_map f (option_map own_part q)
        → option_map own_part (if b then Some (on_field f m) else o) ≡ option_map f (option_map own_part (if b then Some m else q))
    pick true o q e = refl
    pick false o q e = e

  tags_of : (x : List ℕ) (o : Option (List (Field A))) → option_map (part_among x) (option_map (map (on_field f)) o) ≡ option_map (option_map f) (option_map (part_among x) o)
  tags_of x None = refl
  tags_of x (Some tags) = ap (λ (q : Option B). Some q) (found x tags)

  tag_mapped : (x : List ℕ) (y : Node A) → tag_of x (on_node f y) ≡ option_map (option_map f) (tag_of x y)
  tag_mapped x y = ap (option_map (part_among x)) (mapped y).variant ∙ tags_of x (variant_of y)

pub array_one : OnePart array_of array_of
array_one = record { same = λ f y. (mapped f y).array; among = among } where
  among : (n : ℕ) (y : Node TypeId) → Each (λ p. p.index < n) (types_in y) → IfSome (array_of y) (λ p. p.index < n)
  among n (node.Array a) h = h.0
  among n _ h = tt

pub mutable_array_one : OnePart mut_array_of mut_array_of
mutable_array_one = record { same = λ f y. (mapped f y).mutable_array; among = among } where
  among : (n : ℕ) (y : Node TypeId) → Each (λ p. p.index < n) (types_in y) → IfSome (mut_array_of y) (λ p. p.index < n)
  among n (node.MutArray a) h = h.0
  among n _ h = tt

-- ---- tags

pub no_part : (s : State) (q : Option TypeId) → q ≡ None → IsPart s q None
no_part s None e = tt
no_part s (Some p) e = cc

pub some_part : (s : State) (q : Option TypeId) (p : TypeId) (id : TermId) → q ≡ Some p → slice_get s.reached p.index ≡ Some id → IsPart s q (Some id)
some_part s None p id e g = cc
some_part s (Some r) p id e g = let z : r ≡ p = cc in ap (λ (t : TypeId). slice_get s.reached t.index) z ∙ g

pub tag_reached : (s : State) (q : Option TypeId) (o : Option TermId) → IsPart s q o → IfSome o (IsReached s)
tag_reached s None None h = tt
tag_reached s None (Some id) h = absurd h
tag_reached s (Some p) None h = absurd h
tag_reached s (Some p) (Some id) h = (p.index, h)

part_terms : (s : State) (q : Option TypeId) (o : Option TermId) (later : List Form) → IsPart s q o → option_map (term_of (terms_in later s.reached)) q ≡ option_map (term later) o
part_terms s None None later h = refl
part_terms s None (Some id) later h = absurd h
part_terms s (Some p) None later h = absurd h
part_terms s (Some p) (Some id) later h = ap (λ (u : Term). Some u) (part_is s p id later h)

module _ (s : State) (id : TermId) (n : Node TypeId) (h : IsNodeOf s id n) (x : List ℕ) where
  tags_are : (o : Option (List (Field TypeId))) → o ≡ variant_of n → HeadHas (tag_of x) s id (λ later. option_map (option_map (term_of (terms_in later s.reached))) (option_map (part_among x) o))
  tags_are o e later l =
      ap (tag_of x) (h.is later l)
      ∙ (tag_mapped (term_of (terms_in later s.reached)) x n
      ∙ ap (λ (q : Option (List (Field TypeId))). option_map (option_map (term_of (terms_in later s.reached))) (option_map (part_among x) q)) (sym e))

  pub tag_is : (tags : List (Field TypeId)) (o : Option TermId) → Some tags ≡ variant_of n → IsPart s (part_among x tags) o → HeadHas (tag_of x) s id (λ later. option_map (option_map (term later)) (Some o))
  tag_is tags o e g later l = tags_are (Some tags) e later l ∙ ap (λ (q : Option Term). Some q) (part_terms s (part_among x tags) o later g)

  pub no_variant : None ≡ variant_of n → HeadHas (tag_of x) s id (λ later. option_map (option_map (term later)) None)
  no_variant e later l = tags_are None e later l
