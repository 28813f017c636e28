-- What a literal cuts.
use Rattle.std.proofs.Common.{◌≡◌, inl, inr, List, [], ◌∷◌, Bool, true, false, Option, Some, None, refl, sym, ap, ◌∙◌, subst}
use Rattle.std.specs.Prelude.{◌&&◌, not, cond, is_some}
use Rattle.mo_types.specs.declared.datum.Datum.{Datum}
use Rattle.mo_types.specs.declared.datum.Datum.TheVariants as part
use Rattle.mo_types.specs.declared.node.Field.{Field}
use Rattle.mo_types.specs.declared.node.Node.{Node}
use Rattle.mo_types.specs.declared.node.Node.TheVariants as node
use Rattle.mo_types.specs.declared.node.TypeId.{TypeId}
use Rattle.mo_types.specs.Heads.{opt_of}
use Rattle.mo_types.specs.Sub.{Each}
use Rattle.mo_values.specs.Parts.{is_leaf_of, same_part}
use Rattle.mo_values.specs.Shapes.{Leaf, Present, Shape, Shapes, Made, NoShape, AShape}
use Rattle.mo_values.specs.Views.{leaf_of}
use Rattle.typed_tree.specs.Patterns.{Constant, is_literal, where_true, matches}
use Rattle.pattern_coverage.specs.Cover.{Tells}
use Rattle.pattern_coverage.specs.Cutting.{Piece, piece, where_known, besides, cut_literal, cut}
use Rattle.pattern_coverage.specs.Inhabited.{HasValues, everything}
use Rattle.pattern_coverage.specs.Known.{Known, Unknown, Is, IsNot, Holds, Under, NotUnder, Parts, Fields, Describes}
use Rattle.pattern_coverage.specs.Leaves.{is_among, remains}
use Rattle.pattern_coverage.specs.Suited.{IsTold, IsConstantOn, IsOn}
use Rattle.pattern_coverage.proofs.Counted.{IsNone, among_none, none_among, remains_by}
use Rattle.pattern_coverage.proofs.Numbered.{not_same}
use Rattle.pattern_coverage.proofs.Pieces.{Feasible, In, Val, IsSure, Cuts, one, asked, there, in_there}
use Rattle.pattern_coverage.proofs.Same.{both, part_same}
use Rattle.pattern_coverage.proofs.Seen.{no, is_counted, counted_seen, leaf_seen, OptionSeen, NullSeen, PresentSeen, option_seen, TagSeen, TagIs, tag_seen, TupleSeen, TupleIs, tuple_seen, ObjectSeen, ObjectIs, object_seen}

-- the leaf that a literal is
pub literal_leaf : (c : Datum) (o : Option Datum) → is_literal c o ≡ true → o ≡ Some c
literal_leaf c None e = cc
literal_leaf c (Some d) e = ap (λ d. Some d) (sym (part_same c d e))

told_by : (x : Node TypeId) (c : Datum) → IsConstantOn x c → IsTold x
told_by x (part.Actor p) h = absurd h
told_by x (part.Principal p) h = absurd h
told_by x (part.Method p m) h = absurd h
told_by x c h = h

none_each : (F : Type 0) (o : Option Datum) (c : Datum) (ds : List Datum) → is_literal c o ≡ true → is_among c ds ≡ false → Each (λ d. is_literal d o ≡ false) ds
none_each F o c ds e h = subst (λ o. Each (λ d. is_literal d o ≡ false) ds) (sym (literal_leaf c o e)) (among_none c ds h)

none_at_all : (ds : List Datum) (o : Option Datum) → o ≡ None → Each (λ d. is_literal d o ≡ false) ds
none_at_all [] o e = tt
none_at_all (d ∷ ds) o e = (ap (is_literal d) e, none_at_all ds o e)

null_only : (u : TypeId) (c : Datum) → is_leaf_of (node.Opt u) c ≡ true → c ≡ part.Null
null_only u part.Null e = refl
null_only u c e = absurd (no e)

counted_by : (x : Node TypeId) (c : Datum) → IsConstantOn x c → is_leaf_of x c ≡ true → opt_of x ≡ None → is_counted x ≡ true
counted_by (node.Number k) c i l o = refl
counted_by node.Bool c i l o = refl
counted_by node.Char c i l o = refl
counted_by node.Text c i l o = refl
counted_by node.Blob c i l o = refl
counted_by node.Null c i l o = refl
counted_by (node.Opt u) c i l o = cc
counted_by node.Principal (part.Principal p) i l o = absurd i
counted_by (node.Actor fs) (part.Actor p) i l o = absurd i
counted_by (node.Func s ps rs) (part.Method p m) i l o = absurd i
counted_by x c i l o = absurd (no l)

where_some : (F : Type 0) (b : Bool) → is_some (where_true {F = F} b) ≡ b
where_some F true = refl
where_some F false = refl

module _ {F : Type 0} (head : TypeId → Node TypeId) (has : TypeId → Bool) (tells : Tells head has) (kinds : List TypeId) (type_has : (t : TypeId) (v : Shape F) → Val head has kinds t v → HasValues head t) where
  abbrev Is? : Datum → Shape F → Bool
  Is? c v = is_literal c (leaf_of v)

  abbrev Cut : (Shape F → Type 0) → (Shape F → Bool) → TypeId → List Piece → Type 0
  Cut = Cuts head has kinds

  abbrev Seen : TypeId → Shape F → Type 0
  Seen t v = Val head has kinds t v

  holds_no_leaf : (u : TypeId) (k : Known) (v : Shape F) → OptionSeen head (everything head) kinds u v → Describes (Holds k) v → leaf_of v ≡ None
  holds_no_leaf u k v NullSeen d = absurd d
  holds_no_leaf u k v (PresentSeen w a) d = refl

  tag_no_leaf : (fs : List (Field TypeId)) (v : Shape F) → TagSeen head (everything head) kinds fs v → leaf_of v ≡ None
  tag_no_leaf fs v (TagIs l g w e a) = refl

  tuple_no_leaf : (ts : List TypeId) (v : Shape F) → TupleSeen head (everything head) kinds ts v → leaf_of v ≡ None
  tuple_no_leaf ts v (TupleIs vs a) = refl

  object_no_leaf : (fs : List (Field TypeId)) (v : Shape F) → ObjectSeen head (everything head) kinds fs v → leaf_of v ≡ None
  object_no_leaf fs v (ObjectIs ls vs i a) = refl

  -- what cannot be a literal stays as it is
  no_literal : (c : Datum) (k : Known) (t : TypeId) → Feasible head has k t → ((v : Shape F) → Seen t v → Describes k v → leaf_of v ≡ None) → Cut (λ v. Describes k v) (Is? c) t (piece false k ∷ [])
  no_literal c k t f h = one head has kinds k false t (Is? c) f (λ v a d. ap (is_literal c) (h v a d))

  -- ---- a literal of the type that is new

  -- that it is the literal
  is_piece : (c : Datum) (ds : List Datum) (t : TypeId) → is_leaf_of (head t) c ≡ true → is_among c ds ≡ false → IsSure head has kinds (λ v. Describes (IsNot ds) v) (Is? c) t (piece true (Is c))
  is_piece c ds t e h = record { feasible = e; sure = λ v a d. (none_each F (leaf_of v) c ds d h, d) }

  option_all : (c : Datum) (ds : List Datum) (u : TypeId) (v : Shape F) → c ≡ part.Null → OptionSeen head (everything head) kinds u v → In (piece true (Is c) ∷ where_known (has u) (Holds Unknown)) v
  option_all c ds u v e NullSeen = inl (ap (λ c. is_literal c (Some part.Null)) e)
  option_all c ds u v e (PresentSeen w a) = inr (in_there head has kinds (has u) (Holds Unknown) (Made Present (AShape w NoShape)) ((tells u).1 (type_has u w a)) tt)

  counted_all : (c : Datum) (ds : List Datum) (x : Node TypeId) (t : TypeId) → head t ≡ x → is_counted x ≡ true → (v : Shape F) → Seen t v → Describes (IsNot ds) v → In (piece true (Is c) ∷ where_known (remains x (c ∷ ds)) (IsNot (c ∷ ds))) v
  counted_all c ds x t e i v a d = by (Is? c v) refl
    where
      s : (d : Datum) × (v ≡ Made (Leaf d) NoShape) × (is_leaf_of (head t) d ≡ true)
      s = counted_seen head (everything head) kinds t v (ap is_counted e ∙ i) a

      none : Each (λ c. is_literal c (leaf_of v) ≡ false) (c ∷ ds) → IsNone s.0 (c ∷ ds)
      none h = subst (λ v. Each (λ c. is_literal c (leaf_of v) ≡ false) (c ∷ ds)) s.1 h

      by : (b : Bool) → Is? c v ≡ b → In (piece true (Is c) ∷ where_known (remains x (c ∷ ds)) (IsNot (c ∷ ds))) v
      by true q = inl q
      by false q =
          inr (in_there head has kinds (remains x (c ∷ ds)) (IsNot (c ∷ ds)) v (remains_by x s.0 (c ∷ ds) i (subst (λ x. is_leaf_of x s.0 ≡ true) e s.2) (none (q, d))) (q, d))

  -- it is the literal, or it is not
  new_literal : (c : Datum) (ds : List Datum) (x : Node TypeId) (t : TypeId) → head t ≡ x → IsConstantOn x c → is_leaf_of x c ≡ true → is_among c ds ≡ false
      → Cut (λ v. Describes (IsNot ds) v) (Is? c) t (piece true (Is c) ∷ besides head has c ds x)
  new_literal c ds (node.Opt u) t e i l h =
      record {
        each = (
          is_piece c ds t (ap (λ x. is_leaf_of x c) e ∙ l) h,
          there head has kinds (has u) (λ v. Describes (IsNot ds) v) (Is? c) t (Holds Unknown) (λ q. (u, e, (tells u).0 q))
              (λ v a d. let n : leaf_of v ≡ None = holds_no_leaf u Unknown v (option_seen head (everything head) kinds t u v e a) d in (none_at_all ds (leaf_of v) n, ap (is_literal c) n)),
        );
        all = λ v a d. option_all c ds u v (null_only u c l) (option_seen head (everything head) kinds t u v e a);
      }
  new_literal c ds x t e i l h = counted c ds x t e (counted_by x c i l refl) l h
    where
      counted : (c : Datum) (ds : List Datum) (x : Node TypeId) (t : TypeId) → head t ≡ x → is_counted x ≡ true → is_leaf_of x c ≡ true → is_among c ds ≡ false
          → Cut (λ v. Describes (IsNot ds) v) (Is? c) t (piece true (Is c) ∷ where_known (remains x (c ∷ ds)) (IsNot (c ∷ ds)))
      counted c ds x t e n l h =
          record {
            each = (
              is_piece c ds t (ap (λ x. is_leaf_of x c) e ∙ l) h,
              there head has kinds (remains x (c ∷ ds)) (λ v. Describes (IsNot ds) v) (Is? c) t (IsNot (c ∷ ds)) (λ q. ap (λ x. remains x (c ∷ ds)) e ∙ q) (λ v a d. (d.1, d.0)),
            );
            all = counted_all c ds x t e n;
          }

  -- ---- a literal that is new or not

  leaf_value : (c : Datum) (v : Shape F) → Is? c v ≡ true → (vs : Shapes F) × (v ≡ Made (Leaf c) vs)
  leaf_value c (Made (Leaf d) NoShape) e = (NoShape, ap (λ d. Made (Leaf d) NoShape) (sym (part_same c d e)))
  leaf_value c v e = absurd (no e)

  not_it : (c : Datum) (ds : List Datum) (x : Node TypeId) (t : TypeId) → head t ≡ x → IsConstantOn x c → (is_leaf_of x c ≡ true → is_among c ds ≡ false → ⊥) → (v : Shape F) → Seen t v → Describes (IsNot ds) v → Is? c v ≡ false
  not_it c ds x t e i h v a d = not_same (Is? c v) (λ q. h (leaf q) (none_among c ds (none q)))
    where
      leaf : Is? c v ≡ true → is_leaf_of x c ≡ true
      leaf q = let s = leaf_value c v q in subst (λ x. is_leaf_of x c ≡ true) e (leaf_seen head (everything head) kinds t c s.0 (subst IsTold (sym e) (told_by x c i)) (subst (Seen t) s.1 a))

      none : Is? c v ≡ true → IsNone c ds
      none q = subst (λ o. Each (λ c. is_literal c o ≡ false) ds) (literal_leaf c (leaf_of v) q) d

  same_either : (c d : Datum) (v : Shape F) → is_literal d (leaf_of v) ≡ true → Is? c v ≡ same_part c d
  same_either c d v e = ap (is_literal c) (literal_leaf d (leaf_of v) e)

  literal_by : (c : Datum) (x : Node TypeId) (t : TypeId) (k : Known) → head t ≡ x → IsConstantOn x c → Feasible head has k t → Cut (λ v. Describes k v) (Is? c) t (cut_literal head has c x k)
  literal_by c x t Unknown e i f = by (is_leaf_of x c) refl
    where
      by : (b : Bool) → is_leaf_of x c ≡ b → Cut (λ v. Describes Unknown v) (Is? c) t (cond b (piece true (Is c) ∷ besides head has c [] x) (piece false Unknown ∷ []))
      by true q = new_literal c [] x t e i q refl
      by false q = one head has kinds Unknown false t (Is? c) f (not_it c [] x t e i (λ p n. no (sym q ∙ p)))
  literal_by c x t (IsNot ds) e i f = by (is_leaf_of x c && not (is_among c ds)) refl
    where
      absent : (b : Bool) → not b ≡ true → b ≡ false
      absent true e = cc
      absent false e = refl

      by : (b : Bool) → (is_leaf_of x c && not (is_among c ds)) ≡ b → Cut (λ v. Describes (IsNot ds) v) (Is? c) t (cond b (piece true (Is c) ∷ besides head has c ds x) (piece false (IsNot ds) ∷ []))
      by true q = let b = both (is_leaf_of x c) (not (is_among c ds)) q in new_literal c ds x t e i b.0 (absent (is_among c ds) b.1)
      by false q = one head has kinds (IsNot ds) false t (Is? c) f (not_it c ds x t e i (λ p n. no (sym q ∙ (ap (λ b. b && not (is_among c ds)) p ∙ ap not n))))
  literal_by c x t (Is d) e i f = one head has kinds (Is d) (same_part c d) t (Is? c) f (λ v a s. same_either c d v s)
  literal_by c x t (Holds k) e i f = no_literal c (Holds k) t f (λ v a d. holds_no_leaf f.0 k v (option_seen head (everything head) kinds t f.0 v f.1 a) d)
  literal_by c x t (Under l k) e i f = no_literal c (Under l k) t f (λ v a d. tag_no_leaf f.0 v (tag_seen head (everything head) kinds t f.0 v f.2 a))
  literal_by c x t (NotUnder ls) e i f = no_literal c (NotUnder ls) t f (λ v a d. tag_no_leaf f.0 v (tag_seen head (everything head) kinds t f.0 v f.1 a))
  literal_by c x t (Parts ks) e i f = no_literal c (Parts ks) t f (λ v a d. tuple_no_leaf f.0 v (tuple_seen head (everything head) kinds t f.0 v f.1 a))
  literal_by c x t (Fields ls ks) e i f = no_literal c (Fields ls ks) t f (λ v a d. object_no_leaf f.0 v (object_seen head (everything head) kinds t f.0 v f.1 a))

  pub literal_cuts : (c : Datum) (t : TypeId) (k : Known) → IsOn head (Constant c) t → Feasible head has k t → Cut (λ v. Describes k v) (λ v. is_some (matches (Constant c) v)) t (cut head has (Constant c) t k)
  literal_cuts c t k i f =
      asked head has kinds (λ v. Describes k v) (Is? c) (λ v. is_some (matches (Constant c) v)) t (cut_literal head has c (head t) k) (λ v. where_some F (Is? c v)) (literal_by c (head t) t k refl i f)
