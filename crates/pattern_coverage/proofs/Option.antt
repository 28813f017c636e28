-- What an option pattern and a tag cut.
use Rattle.std.proofs.Common.{◌≡◌, inl, inr, List, [], ◌∷◌, Bool, true, false, None, refl, sym, ap, ◌∙◌, subst}
use Rattle.std.specs.Prelude.{cond, is_some}
use Rattle.std.specs.Str.{bytes_eq}
use Rattle.std.proofs.lemmas.Slice.Eq.{bytes_eq-Decides}
use Rattle.mo_types.specs.declared.datum.Datum.{Datum}
use Rattle.mo_types.specs.declared.datum.Datum.TheVariants as part
use Rattle.mo_types.specs.declared.node.Field.{Field}
use Rattle.mo_types.specs.declared.node.Node.{Node}
use Rattle.mo_types.specs.declared.node.Node.TheVariants as node
use Rattle.mo_types.specs.declared.node.TypeId.{TypeId}
use Rattle.mo_types.specs.Heads.{opt_of, variant_of}
use Rattle.mo_types.specs.Sub.{Each, IsSomething}
use Rattle.mo_values.specs.Parts.{is_leaf_of}
use Rattle.mo_values.specs.Shapes.{Bytes, Present, Tag, Shape, Shapes, Made, NoShape, AShape}
use Rattle.typed_tree.specs.Has.{Fits}
use Rattle.typed_tree.specs.Patterns.{Pat, Present?, matches, where_there, present_of}
use Rattle.pattern_coverage.specs.Cover.{Tells}
use Rattle.pattern_coverage.specs.Cutting.{Piece, piece, around, cut_option, cut}
use Rattle.pattern_coverage.specs.Inhabited.{HasValues, everything}
use Rattle.pattern_coverage.specs.Known.{Known, Unknown, Is, IsNot, Holds, Under, NotUnder, Parts, Fields, Describes}
use Rattle.pattern_coverage.specs.Leaves.{remains}
use Rattle.pattern_coverage.specs.Suited.{IsTold, OnOption, IsOn}
use Rattle.pattern_coverage.proofs.Pieces.{Feasible, In, Val, IsSure, Cuts, one}
use Rattle.pattern_coverage.proofs.Seen.{no, HasAt, at_head, OptionSeen, NullSeen, PresentSeen, option_seen}

module _ (F : Type 0) (head : TypeId → Node TypeId) (has : TypeId → Bool) (kinds : List TypeId) where
  -- what is shown of a pattern
  abbrev pub Claim : Pat → Type 0
  Claim p = (t : TypeId) (k : Known) → IsOn head p t → Feasible head has k t → Cuts {F = F} head has kinds (λ v. Describes k v) (λ v. is_some (matches p v)) t (cut head has p t k)

pub same_option : (t u : TypeId) (x : Node TypeId) → x ≡ node.Opt t → x ≡ node.Opt u → t ≡ u
same_option t u x e f = cc

pub same_variant : (fs gs : List (Field TypeId)) (x : Node TypeId) → x ≡ node.Variant fs → x ≡ node.Variant gs → fs ≡ gs
same_variant fs gs x e f = cc

pub bytes_same : (l m : Bytes) → bytes_eq l m ≡ true → l ≡ m
bytes_same l m e = (bytes_eq-Decides l m).0 e

pub bytes_self : (l : Bytes) → bytes_eq l l ≡ true
bytes_self l = (bytes_eq-Decides l l).1 refl

module _ {F : Type 0} (head : TypeId → Node TypeId) (has : TypeId → Bool) (tells : Tells head has) (kinds : List TypeId) (type_has : (t : TypeId) (v : Shape F) → Val head has kinds t v → HasValues head t) where
  abbrev Cut : (Shape F → Type 0) → (Shape F → Bool) → TypeId → List Piece → Type 0
  Cut = Cuts head has kinds

  abbrev Sure : (Shape F → Type 0) → (Shape F → Bool) → TypeId → Piece → Type 0
  Sure = IsSure head has kinds

  abbrev Seen : TypeId → Shape F → Type 0
  Seen t v = Val head has kinds t v

  abbrev present : Shape F → Shape F
  present w = Made Present (AShape w NoShape)

  abbrev tagged : Bytes → Shape F → Shape F
  tagged l w = Made (Tag l) (AShape w NoShape)

  -- ---- options

  holds_sure : (t u : TypeId) (D E : Shape F → Type 0) (P Q : Shape F → Bool) → head t ≡ node.Opt u → ((w : Shape F) → E w → D (present w)) → ((w : Shape F) → Q (present w) ≡ P w) → (c : Piece) → Sure E P u c
      → (v : Shape F) → OptionSeen head (everything head) kinds u v → Describes (Holds c.known) v → D v × (Q v ≡ c.matched)
  holds_sure t u D E P Q e f q c s v NullSeen d = absurd d
  holds_sure t u D E P Q e f q c s v (PresentSeen w a) d = let r = s.sure w a d in (f w r.0, q w ∙ r.1)

  holds_each : (t u : TypeId) (D E : Shape F → Type 0) (P Q : Shape F → Bool) → head t ≡ node.Opt u → ((w : Shape F) → E w → D (present w)) → ((w : Shape F) → Q (present w) ≡ P w) → (cs : List Piece)
      → Each (Sure E P u) cs → Each (Sure D Q t) (around Holds cs)
  holds_each t u D E P Q e f q [] h = tt
  holds_each t u D E P Q e f q (c ∷ cs) h =
      let s : Sure E P u c = h.0 in
      (record { feasible = (u, e, s.feasible); sure = λ v a d. holds_sure t u D E P Q e f q c s v (option_seen head (everything head) kinds t u v e a) d }, holds_each t u D E P Q e f q cs h.1)

  holds_in : (cs : List Piece) (w : Shape F) → In cs w → In (around Holds cs) (present w)
  holds_in [] w h = absurd h
  holds_in (c ∷ cs) w (inl d) = inl d
  holds_in (c ∷ cs) w (inr h) = inr (holds_in cs w h)

  module _ (p : Pat) (claim : Claim F head has kinds p) where
    abbrev Asks : Shape F → Bool
    Asks v = is_some (where_there (λ w. matches p w) (present_of v))

    unknown_in : (u : TypeId) → IsOn head p u → (v : Shape F) → OptionSeen head (everything head) kinds u v → In (piece false (Is part.Null) ∷ cond (has u) (around Holds (cut head has p u Unknown)) []) v
    unknown_in u i v NullSeen = inl refl
    unknown_in u i v (PresentSeen w a) = inr (by (has u) ((tells u).1 (type_has u w a)))
      where
        by : (b : Bool) → b ≡ true → In (cond b (around Holds (cut head has p u Unknown)) []) (present w)
        by true e = holds_in (cut head has p u Unknown) w ((claim u Unknown i (type_has u w a)).all w a tt)
        by false e = cc

    null_sure : (u : TypeId) (v : Shape F) → OptionSeen head (everything head) kinds u v → Describes (Is part.Null) v → Asks v ≡ false
    null_sure u v NullSeen d = refl
    null_sure u v (PresentSeen w a) d = absurd (no d)

    unknown_each : (t u : TypeId) → head t ≡ node.Opt u → IsOn head p u → (b : Bool) → has u ≡ b → Each (Sure (λ v. Unit {0}) Asks t) (cond b (around Holds (cut head has p u Unknown)) [])
    unknown_each t u e i true q = holds_each t u (λ v. Unit {0}) (λ v. Unit {0}) (λ w. is_some (matches p w)) Asks e (λ w d. tt) (λ w. refl) (cut head has p u Unknown) (claim u Unknown i ((tells u).0 q)).each
    unknown_each t u e i false q = tt

    is_leaf_option : (u : TypeId) (c : Datum) (v : Shape F) → OptionSeen head (everything head) kinds u v → Describes (Is c) v → Asks v ≡ false
    is_leaf_option u c v NullSeen d = refl
    is_leaf_option u c v (PresentSeen w a) d = absurd (no d)

    known_in : (u : TypeId) (k : Known) → IsOn head p u → Feasible head has k u → (v : Shape F) → OptionSeen head (everything head) kinds u v → Describes (Holds k) v → In (around Holds (cut head has p u k)) v
    known_in u k i f v NullSeen d = absurd d
    known_in u k i f v (PresentSeen w a) d = holds_in (cut head has p u k) w ((claim u k i f).all w a d)

    -- no value of another type is an option
    other_root : (x : Node TypeId) (vs : Shapes F) → IsTold x → Fits head (everything head) kinds x Present vs → IsSomething (opt_of x)
    other_root node.Any vs i a = absurd i
    other_root (node.Variable v b) vs i a = absurd i
    other_root x vs i a = a

    other_option : (x : Node TypeId) (t : TypeId) (v : Shape F) → IsTold x → opt_of x ≡ None → HasAt head (everything head) kinds x t v → Asks v ≡ false
    other_option x t (Made Present (AShape w NoShape)) i e a = absurd (subst IsSomething e (other_root x (AShape w NoShape) i a.0))
    other_option x t v i e a = refl

    not_option : (x : Node TypeId) (t : TypeId) (k : Known) → head t ≡ x → IsTold x → opt_of x ≡ None → Feasible head has k t → Cut (λ v. Describes k v) Asks t (piece false k ∷ [])
    not_option x t k e i o f = one head has kinds k false t Asks f (λ v a d. other_option x t v i o (at_head head (everything head) kinds x t v e a))

    option_by : (x : Node TypeId) (t : TypeId) (k : Known) → head t ≡ x → OnOption (λ u. IsOn head p u) x → Feasible head has k t → Cut (λ v. Describes k v) Asks t (cut_option head has (λ u j. cut head has p u j) x k)
    option_by (node.Opt u) t Unknown e i f =
        record {
          each = (record { feasible = ap (λ x. is_leaf_of x part.Null) e; sure = λ v a d. (tt, null_sure u v (option_seen head (everything head) kinds t u v e a) d) }, unknown_each t u e i (has u) refl);
          all = λ v a d. unknown_in u i v (option_seen head (everything head) kinds t u v e a);
        }
    option_by (node.Opt u) t (Holds k) e i f =
        let s : f.0 ≡ u = same_option f.0 u (head t) f.1 e in
        let g : Feasible head has k u = subst (Feasible head has k) s f.2 in
        record {
          each = holds_each t u (λ v. Describes (Holds k) v) (λ w. Describes k w) (λ w. is_some (matches p w)) Asks e (λ w d. d) (λ w. refl) (cut head has p u k) (claim u k i g).each;
          all = λ v a d. known_in u k i g v (option_seen head (everything head) kinds t u v e a) d;
        }
    option_by (node.Opt u) t (Is c) e i f = one head has kinds (Is c) false t Asks f (λ v a d. is_leaf_option u c v (option_seen head (everything head) kinds t u v e a) d)
    option_by (node.Opt u) t (IsNot cs) e i f = absurd (no (ap (λ x. remains x cs) (sym e) ∙ f))
    option_by (node.Opt u) t (Under l k) e i f = let g : head t ≡ node.Variant f.0 = f.2 in absurd (subst IsSomething (sym (ap variant_of g) ∙ ap variant_of e) tt)
    option_by (node.Opt u) t (NotUnder ls) e i f = let g : head t ≡ node.Variant f.0 = f.1 in absurd (subst IsSomething (sym (ap variant_of g) ∙ ap variant_of e) tt)
    option_by (node.Opt u) t (Parts ks) e i f = absurd (subst IsSomething (ap opt_of (sym e ∙ f.1)) tt)
    option_by (node.Opt u) t (Fields ls ks) e i f = absurd (subst IsSomething (ap opt_of (sym e ∙ f.1)) tt)
    option_by x t k e i f = not_option x t k e i refl f

    pub option_cuts : Claim F head has kinds (Present? p)
    option_cuts t k i f = option_by (head t) t k refl i f
