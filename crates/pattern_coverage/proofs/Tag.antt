-- What a tag cuts.
use Rattle.std.proofs.Common.{◌≡◌, inl, inr, List, [], ◌∷◌, ◌++◌, Bool, true, false, Option, Some, None, refl, sym, ap, ◌∙◌, subst}
use Rattle.std.specs.Prelude.{◌&&◌, ◌||◌, not, cond, is_some, if◌then◌else◌, nat_eq}
use Rattle.std.specs.Cmp.Lexicographic.{pointwise}
use Rattle.std.specs.Str.{bytes_eq}
use Rattle.std.proofs.lemmas.Bool.{or_left, or_right, and_from}
use Rattle.mo_types.specs.declared.node.Field.{Field}
use Rattle.mo_types.specs.declared.node.Node.{Node}
use Rattle.mo_types.specs.declared.node.Node.TheVariants as node
use Rattle.mo_types.specs.declared.node.TypeId.{TypeId}
use Rattle.mo_types.specs.Heads.{variant_of}
use Rattle.mo_types.specs.Sub.{AtSome, Each, IsSomething, find}
use Rattle.mo_values.specs.Parts.{is_leaf_of}
use Rattle.mo_values.specs.Shapes.{Bytes, Tag, Shape, Shapes, Made, NoShape, AShape}
use Rattle.typed_tree.specs.Has.{Fits}
use Rattle.typed_tree.specs.Patterns.{Pat, Tagged, matches, where_there, tagged_of}
use Rattle.pattern_coverage.specs.Cover.{Tells}
use Rattle.pattern_coverage.specs.Cutting.{Piece, piece, around, where_known, cut_tag, cut_new, cut_old, tag_remains, is_label_among, cut}
use Rattle.pattern_coverage.specs.Inhabited.{HasValues, everything}
use Rattle.pattern_coverage.specs.Known.{Known, Unknown, Is, IsNot, Holds, Under, NotUnder, Parts, Fields, Describes}
use Rattle.pattern_coverage.specs.Leaves.{remains}
use Rattle.pattern_coverage.specs.Suited.{IsTold, OnPart, OnVariant, IsOn}
use Rattle.pattern_coverage.proofs.Numbered.{not_same}
use Rattle.pattern_coverage.proofs.Option.{Claim, bytes_same, bytes_self, same_variant}
use Rattle.pattern_coverage.proofs.Pieces.{Feasible, both_lists, In, in_left, in_right, Val, IsSure, Cuts, one, there, in_there}
use Rattle.pattern_coverage.proofs.Seen.{no, HasAt, at_head, TagSeen, TagIs, tag_seen}

pub found_label : (l : Bytes) (fs : List (Field TypeId)) (g : Field TypeId) → find l fs ≡ Some g → g.label ≡ l
found_label l [] g e = cc
found_label l (f ∷ fs) g e = by (pointwise nat_eq f.label l) refl e (found_label l fs g)
  where
    by : (b : Bool) → pointwise nat_eq f.label l ≡ b → (if b then Some f else find l fs) ≡ Some g → (find l fs ≡ Some g → g.label ≡ l) → g.label ≡ l
    by true q e k = let i : f ≡ g = cc in subst (λ f. f.label ≡ l) i (bytes_same f.label l q)
    by false q e k = k e

same_found : (l : Bytes) (fs : List (Field TypeId)) (f g : Field TypeId) → find l fs ≡ Some f → find l fs ≡ Some g → f ≡ g
same_found l fs f g d e = cc

pub different : (l m : Bytes) → bytes_eq l m ≡ false → bytes_eq m l ≡ false
different l m e = not_same (bytes_eq m l) (λ q. no (sym e ∙ subst (λ k. bytes_eq l k ≡ true) (sym (bytes_same m l q)) (bytes_self l)))

module _ {F : Type 0} (head : TypeId → Node TypeId) (has : TypeId → Bool) (tells : Tells head has) (kinds : List TypeId) (type_has : (t : TypeId) (v : Shape F) → Val head has kinds t v → HasValues head t) where
  abbrev Cut : (Shape F → Type 0) → (Shape F → Bool) → TypeId → List Piece → Type 0
  Cut = Cuts head has kinds

  abbrev Sure : (Shape F → Type 0) → (Shape F → Bool) → TypeId → Piece → Type 0
  Sure = IsSure head has kinds

  abbrev Seen : TypeId → Shape F → Type 0
  Seen t v = Val head has kinds t v

  abbrev Tags : List (Field TypeId) → Shape F → Type 0
  Tags fs v = TagSeen head (everything head) kinds fs v

  abbrev tagged : Bytes → Shape F → Shape F
  tagged l w = Made (Tag l) (AShape w NoShape)

  -- ---- a tag among others

  other_tag : (l m : Bytes) (w : Shape F) → bytes_eq l m ≡ false → tagged_of l (tagged m w) ≡ None
  other_tag l m w e = ap (λ b. cond b (Some w) None) e

  own_tag : (l : Bytes) (w : Shape F) → tagged_of l (tagged l w) ≡ Some w
  own_tag l w = ap (λ b. cond b (Some w) None) (bytes_self l)

  not_among : (l : Bytes) (ls : List Bytes) (w : Shape F) → is_label_among l ls ≡ false → Each (λ m. tagged_of m (tagged l w) ≡ None) ls
  not_among l [] w e = tt
  not_among l (m ∷ ms) w e = by (bytes_eq l m) refl e (not_among l ms w)
    where
      by : (b : Bool) → bytes_eq l m ≡ b → (b || is_label_among l ms) ≡ false → (is_label_among l ms ≡ false → Each (λ m. tagged_of m (tagged l w) ≡ None) ms)
          → (tagged_of m (tagged l w) ≡ None) × Each (λ m. tagged_of m (tagged l w) ≡ None) ms
      by true q e k = cc
      by false q e k = (other_tag m l w (different l m q), k e)

  among_not : (l : Bytes) (ls : List Bytes) (w : Shape F) → Each (λ m. tagged_of m (tagged l w) ≡ None) ls → is_label_among l ls ≡ false
  among_not l [] w h = refl
  among_not l (m ∷ ms) w h = by (bytes_eq l m) refl (among_not l ms w h.1)
    where
      by : (b : Bool) → bytes_eq l m ≡ b → is_label_among l ms ≡ false → (b || is_label_among l ms) ≡ false
      by true q e = absurd (subst IsSomething (sym (subst (λ k. tagged_of k (tagged l w) ≡ Some w) (bytes_same l m q) (own_tag l w)) ∙ h.0) tt)
      by false q e = e

  not_in : (l : Bytes) (ls : List Bytes) (v : Shape F) → is_label_among l ls ≡ true → Each (λ m. tagged_of m v ≡ None) ls → tagged_of l v ≡ None
  not_in l [] v e h = cc
  not_in l (m ∷ ms) v e h = by (bytes_eq l m) refl e (λ e. not_in l ms v e h.1)
    where
      by : (b : Bool) → bytes_eq l m ≡ b → (b || is_label_among l ms) ≡ true → (is_label_among l ms ≡ true → tagged_of l v ≡ None) → tagged_of l v ≡ None
      by true q e k = subst (λ m. tagged_of m v ≡ None) (sym (bytes_same l m q)) h.0
      by false q e k = k e

  -- the tag is one that remains
  tag_there : (m : Bytes) (ls : List Bytes) (g : Field TypeId) (fs : List (Field TypeId)) → find m fs ≡ Some g → has g.part ≡ true → is_label_among m ls ≡ false → tag_remains head has fs ls ≡ true
  tag_there m ls g [] e h i = cc
  tag_there m ls g (f ∷ fs) e h i = by (pointwise nat_eq f.label m) refl e (λ e. tag_there m ls g fs e h i)
    where
      by : (b : Bool) → pointwise nat_eq f.label m ≡ b → (if b then Some f else find m fs) ≡ Some g → (find m fs ≡ Some g → tag_remains head has fs ls ≡ true)
          → ((has f.part && not (is_label_among f.label ls)) || tag_remains head has fs ls) ≡ true
      by true q e k =
          let s : f ≡ g = cc in
          or_left (has f.part && not (is_label_among f.label ls)) (tag_remains head has fs ls)
          (and_from (has f.part) (not (is_label_among f.label ls)) (ap (λ f. has f.part) s ∙ h) (ap (λ l. not (is_label_among l ls)) (bytes_same f.label m q) ∙ ap not i))
      by false q e k = or_right (has f.part && not (is_label_among f.label ls)) (tag_remains head has fs ls) (k e)

  -- ---- under a tag

  under_sure : (fs : List (Field TypeId)) (l : Bytes) (g : Field TypeId) (D E : Shape F → Type 0) (P Q : Shape F → Bool) → find l fs ≡ Some g → ((w : Shape F) → E w → D (tagged l w)) → ((w : Shape F) → Q (tagged l w) ≡ P w)
      → (c : Piece) → Sure E P g.part c → (v : Shape F) → Tags fs v → Describes (Under l c.known) v → D v × (Q v ≡ c.matched)
  under_sure fs l g D E P Q e f q c s v (TagIs m h w i a) d = by (bytes_eq l m) refl d
    where
      by : (b : Bool) → bytes_eq l m ≡ b → AtSome (cond b (Some w) None) (λ w. Describes c.known w) → D (tagged m w) × (Q (tagged m w) ≡ c.matched)
      by true r d =
          let j : l ≡ m = bytes_same l m r in
          let k : h ≡ g = same_found m fs h g i (subst (λ l. find l fs ≡ Some g) j e) in
          let y = s.sure w (subst (λ h. Seen h.part w) k a) d in
          subst (λ m. D (tagged m w) × (Q (tagged m w) ≡ c.matched)) j (f w y.0, q w ∙ y.1)
      by false r d = absurd d

  under_each : (t : TypeId) (fs : List (Field TypeId)) (l : Bytes) (g : Field TypeId) (D E : Shape F → Type 0) (P Q : Shape F → Bool) → head t ≡ node.Variant fs → find l fs ≡ Some g → ((w : Shape F) → E w → D (tagged l w))
      → ((w : Shape F) → Q (tagged l w) ≡ P w) → (cs : List Piece) → Each (Sure E P g.part) cs → Each (Sure D Q t) (around (Under l) cs)
  under_each t fs l g D E P Q n e f q [] h = tt
  under_each t fs l g D E P Q n e f q (c ∷ cs) h =
      let s : Sure E P g.part c = h.0 in
      (record { feasible = (fs, g, n, e, s.feasible); sure = λ v a d. under_sure fs l g D E P Q e f q c s v (tag_seen head (everything head) kinds t fs v n a) d }, under_each t fs l g D E P Q n e f q cs h.1)

  under_in : (l : Bytes) (cs : List Piece) (w : Shape F) → In cs w → In (around (Under l) cs) (tagged l w)
  under_in l [] w h = absurd h
  under_in l (c ∷ cs) w (inl d) = inl (subst (λ o. AtSome o (λ w. Describes c.known w)) (sym (own_tag l w)) d)
  under_in l (c ∷ cs) w (inr h) = inr (under_in l cs w h)

  module _ (p : Pat) (claim : Claim F head has kinds p) (l : Bytes) where
    abbrev Inner : Shape F → Bool
    Inner w = is_some (matches p w)

    abbrev Asks : Shape F → Bool
    Asks v = is_some (where_there (λ w. matches p w) (tagged_of l v))

    own_asks : (w : Shape F) → Asks (tagged l w) ≡ Inner w
    own_asks w = ap (λ o. is_some (where_there (λ w. matches p w) o)) (own_tag l w)

    not_asked : (v : Shape F) → tagged_of l v ≡ None → Asks v ≡ false
    not_asked v e = ap (λ o. is_some (where_there (λ w. matches p w) o)) e

    on_part : (fs : List (Field TypeId)) (g : Field TypeId) → find l fs ≡ Some g → OnPart (λ u. IsOn head p u) (find l fs) → IsOn head p g.part
    on_part fs g e i = subst (OnPart (λ u. IsOn head p u)) e i

    no_such_tag : (fs : List (Field TypeId)) → find l fs ≡ None → (v : Shape F) → Tags fs v → Asks v ≡ false
    no_such_tag fs n v (TagIs m g w e a) = not_asked (tagged m w) (other_tag l m w (not_same (bytes_eq l m) (λ q. subst IsSomething (sym e ∙ subst (λ l. find l fs ≡ None) (bytes_same l m q) n) tt)))

    -- the tag is none of those that were met
    new_each : (t : TypeId) (fs : List (Field TypeId)) (g : Field TypeId) (ls : List Bytes) → head t ≡ node.Variant fs → find l fs ≡ Some g → IsOn head p g.part → is_label_among l ls ≡ false
        → (b : Bool) → has g.part ≡ b → Each (Sure (λ v. Describes (NotUnder ls) v) Asks t) (cond b (around (Under l) (cut head has p g.part Unknown)) [])
    new_each t fs g ls n e i s true q =
        under_each t fs l g (λ v. Describes (NotUnder ls) v) (λ w. Unit {0}) Inner Asks n e (λ w d. not_among l ls w s) own_asks (cut head has p g.part Unknown) (claim g.part Unknown i ((tells g.part).0 q)).each
    new_each t fs g ls n e i s false q = tt

    new_in : (fs : List (Field TypeId)) (g : Field TypeId) (ls : List Bytes) → find l fs ≡ Some g → IsOn head p g.part → (v : Shape F) → Tags fs v → Describes (NotUnder ls) v
        → In (cond (has g.part) (around (Under l) (cut head has p g.part Unknown)) [] ++ where_known (tag_remains head has fs (l ∷ ls)) (NotUnder (l ∷ ls))) v
    new_in fs g ls e i v (TagIs m h w f a) d = by (bytes_eq l m) refl
      where
        here : (b : Bool) → has g.part ≡ b → Seen g.part w → In (cond b (around (Under l) (cut head has p g.part Unknown)) []) (tagged l w)
        here true q a = under_in l (cut head has p g.part Unknown) w ((claim g.part Unknown i (type_has g.part w a)).all w a tt)
        here false q a = absurd (no (sym q ∙ (tells g.part).1 (type_has g.part w a)))

        by : (b : Bool) → bytes_eq l m ≡ b → In (cond (has g.part) (around (Under l) (cut head has p g.part Unknown)) [] ++ where_known (tag_remains head has fs (l ∷ ls)) (NotUnder (l ∷ ls))) (tagged m w)
        by true q =
            let j : l ≡ m = bytes_same l m q in
            let k : h ≡ g = same_found m fs h g f (subst (λ l. find l fs ≡ Some g) j e) in
            in_left (cond (has g.part) (around (Under l) (cut head has p g.part Unknown)) []) (where_known (tag_remains head has fs (l ∷ ls)) (NotUnder (l ∷ ls))) (tagged m w)
            (subst (λ m. In (cond (has g.part) (around (Under l) (cut head has p g.part Unknown)) []) (tagged m w)) j (here (has g.part) refl (subst (λ h. Seen h.part w) k a)))
        by false q =
            in_right (cond (has g.part) (around (Under l) (cut head has p g.part Unknown)) []) (where_known (tag_remains head has fs (l ∷ ls)) (NotUnder (l ∷ ls))) (tagged m w)
            (in_there head has kinds (tag_remains head has fs (l ∷ ls)) (NotUnder (l ∷ ls)) (tagged m w)
            (tag_there m (l ∷ ls) h fs f ((tells h.part).1 (type_has h.part w a)) (ap (λ b. b || is_label_among m ls) (different l m q) ∙ among_not m ls w d)) (other_tag l m w q, d))

    new_cuts : (t : TypeId) (fs : List (Field TypeId)) (ls : List Bytes) (k : Known) → head t ≡ node.Variant fs → OnPart (λ u. IsOn head p u) (find l fs) → is_label_among l ls ≡ false → Feasible head has k t
        → ((v : Shape F) → Describes k v → Describes (NotUnder ls) v) → ((v : Shape F) → Describes (NotUnder ls) v → Describes k v)
        → (o : Option (Field TypeId)) → find l fs ≡ o → Cut (λ v. Describes k v) Asks t (cut_new head has (λ u j. cut head has p u j) l ls k fs o)
    new_cuts t fs ls k n i s f to back None e = one head has kinds k false t Asks f (λ v a d. no_such_tag fs e v (tag_seen head (everything head) kinds t fs v n a))
    new_cuts t fs ls k n i s f to back (Some g) e =
        let front : List Piece = cond (has g.part) (around (Under l) (cut head has p g.part Unknown)) [] in
        let rest : List Piece = where_known (tag_remains head has fs (l ∷ ls)) (NotUnder (l ∷ ls)) in
        record {
          each = renamed (front ++ rest) (both_lists (Sure (λ v. Describes (NotUnder ls) v) Asks t) front rest (new_each t fs g ls n e (on_part fs g e i) s (has g.part) refl)
              (there head has kinds (tag_remains head has fs (l ∷ ls)) (λ v. Describes (NotUnder ls) v) Asks t (NotUnder (l ∷ ls)) (λ q. (fs, n, q)) (λ v a d. (d.1, not_asked v d.0))));
          all = λ v a d. new_in fs g ls e (on_part fs g e i) v (tag_seen head (everything head) kinds t fs v n a) (to v d);
        }
      where
        renamed : (cs : List Piece) → Each (Sure (λ v. Describes (NotUnder ls) v) Asks t) cs → Each (Sure (λ v. Describes k v) Asks t) cs
        renamed [] h = tt
        renamed (c ∷ cs) h =
            let r : Sure (λ v. Describes (NotUnder ls) v) Asks t c = h.0 in
            (record { feasible = r.feasible; sure = λ v a d. let y = r.sure v a d in (back v y.0, y.1) }, renamed cs h.1)

    -- the tag is known
    known_in : (fs : List (Field TypeId)) (g : Field TypeId) (k : Known) → find l fs ≡ Some g → IsOn head p g.part → Feasible head has k g.part → (v : Shape F) → Tags fs v → Describes (Under l k) v → In (around (Under l) (cut head has p g.part k)) v
    known_in fs g k e i f v (TagIs m h w j a) d = by (bytes_eq l m) refl d
      where
        by : (b : Bool) → bytes_eq l m ≡ b → AtSome (cond b (Some w) None) (λ w. Describes k w) → In (around (Under l) (cut head has p g.part k)) (tagged m w)
        by true q d =
            let r : l ≡ m = bytes_same l m q in
            let s : h ≡ g = same_found m fs h g j (subst (λ l. find l fs ≡ Some g) r e) in
            subst (λ m. In (around (Under l) (cut head has p g.part k)) (tagged m w)) r (under_in l (cut head has p g.part k) w ((claim g.part k i f).all w (subst (λ h. Seen h.part w) s a) d))
        by false q d = absurd d

    known_cuts : (t : TypeId) (fs : List (Field TypeId)) (k : Known) (g : Field TypeId) → head t ≡ node.Variant fs → find l fs ≡ Some g → IsOn head p g.part → Feasible head has k g.part
        → Cut (λ v. Describes (Under l k) v) Asks t (around (Under l) (cut head has p g.part k))
    known_cuts t fs k g n e i f =
        record {
          each = under_each t fs l g (λ v. Describes (Under l k) v) (λ w. Describes k w) Inner Asks n e (λ w d. subst (λ o. AtSome o (λ w. Describes k w)) (sym (own_tag l w)) d) own_asks (cut head has p g.part k) (claim g.part k i f).each;
          all = λ v a d. known_in fs g k e i f v (tag_seen head (everything head) kinds t fs v n a) d;
        }

    old_cuts : (t : TypeId) (fs : List (Field TypeId)) (k : Known) (g : Field TypeId) → head t ≡ node.Variant fs → OnPart (λ u. IsOn head p u) (find l fs) → find l fs ≡ Some g → Feasible head has k g.part
        → Cut (λ v. Describes (Under l k) v) Asks t (cut_old head has (λ u j. cut head has p u j) l k (find l fs))
    old_cuts t fs k g n i e f = subst (λ o. Cut (λ v. Describes (Under l k) v) Asks t (cut_old head has (λ u j. cut head has p u j) l k o)) (sym e) (known_cuts t fs k g n e (on_part fs g e i) f)

    other_in : (fs : List (Field TypeId)) (m : Bytes) (k : Known) → bytes_eq l m ≡ false → (v : Shape F) → Tags fs v → Describes (Under m k) v → Asks v ≡ false
    other_in fs m k e v (TagIs n g w i a) d = by (bytes_eq m n) refl d
      where
        by : (b : Bool) → bytes_eq m n ≡ b → AtSome (cond b (Some w) None) (λ w. Describes k w) → Asks (tagged n w) ≡ false
        by true q d = not_asked (tagged n w) (other_tag l n w (subst (λ n. bytes_eq l n ≡ false) (bytes_same m n q) e))
        by false q d = absurd d

    -- no value of another type has a tag
    other_root : (x : Node TypeId) (m : Bytes) (vs : Shapes F) → IsTold x → Fits head (everything head) kinds x (Tag m) vs → IsSomething (variant_of x)
    other_root node.Any m vs i a = absurd i
    other_root (node.Variable v b) m vs i a = absurd i
    other_root (node.Variant fs) m vs i a = tt
    other_root x m vs i a = a

    other_variant : (x : Node TypeId) (t : TypeId) (v : Shape F) → IsTold x → variant_of x ≡ None → HasAt head (everything head) kinds x t v → Asks v ≡ false
    other_variant x t (Made (Tag m) (AShape w NoShape)) i e a = absurd (subst IsSomething e (other_root x m (AShape w NoShape) i a.0))
    other_variant x t v i e a = refl

    tag_by : (x : Node TypeId) (t : TypeId) (k : Known) → head t ≡ x → OnVariant (λ u. IsOn head p u) l x → Feasible head has k t → Cut (λ v. Describes k v) Asks t (cut_tag head has (λ u j. cut head has p u j) l x k)
    tag_by (node.Variant fs) t Unknown e i f = new_cuts t fs [] Unknown e i refl f (λ v d. tt) (λ v d. tt) (find l fs) refl
    tag_by (node.Variant fs) t (NotUnder ls) e i f = by (is_label_among l ls) refl
      where
        by : (b : Bool) → is_label_among l ls ≡ b → Cut (λ v. Describes (NotUnder ls) v) Asks t (cond b (piece false (NotUnder ls) ∷ []) (cut_new head has (λ u j. cut head has p u j) l ls (NotUnder ls) fs (find l fs)))
        by true q = one head has kinds (NotUnder ls) false t Asks f (λ v a d. not_asked v (not_in l ls v q d))
        by false q = new_cuts t fs ls (NotUnder ls) e i q f (λ v d. d) (λ v d. d) (find l fs) refl
    tag_by (node.Variant fs) t (Under m k) e i f = by (bytes_eq l m) refl
      where
        by : (b : Bool) → bytes_eq l m ≡ b → Cut (λ v. Describes (Under m k) v) Asks t (cond b (cut_old head has (λ u j. cut head has p u j) m k (find m fs)) (piece false (Under m k) ∷ []))
        by true q =
            let r : l ≡ m = bytes_same l m q in
            let s : f.0 ≡ fs = same_variant f.0 fs (head t) f.2 e in
            let g : find m fs ≡ Some f.1 = subst (λ fs. find m fs ≡ Some f.1) s f.3 in
            subst (λ m. Cut (λ v. Describes (Under m k) v) Asks t (cut_old head has (λ u j. cut head has p u j) m k (find m fs))) r
            (old_cuts t fs k f.1 e i (subst (λ l. find l fs ≡ Some f.1) (sym r) g) f.4)
        by false q = one head has kinds (Under m k) false t Asks f (λ v a d. other_in fs m k q v (tag_seen head (everything head) kinds t fs v e a) d)
    tag_by (node.Variant fs) t (Is c) e i f = absurd (no (ap (λ x. is_leaf_of x c) (sym e) ∙ f))
    tag_by (node.Variant fs) t (IsNot cs) e i f = absurd (no (ap (λ x. remains x cs) (sym e) ∙ f))
    tag_by (node.Variant fs) t (Holds k) e i f = absurd (subst IsSomething (ap variant_of (sym e ∙ f.1)) tt)
    tag_by (node.Variant fs) t (Parts ks) e i f = absurd (subst IsSomething (ap variant_of (sym e ∙ f.1)) tt)
    tag_by (node.Variant fs) t (Fields ls ks) e i f = absurd (subst IsSomething (ap variant_of (sym e ∙ f.1)) tt)
    tag_by x t k e i f = one head has kinds k false t Asks f (λ v a d. other_variant x t v i refl (at_head head (everything head) kinds x t v e a))

    pub tag_cuts : Claim F head has kinds (Tagged l p)
    tag_cuts t k i f = tag_by (head t) t k refl i f
