-- What a tuple pattern cuts.
use Rattle.std.proofs.Common.{◌≡◌, ◌⊎◌, inl, inr, List, [], ◌∷◌, ◌++◌, map, Bool, true, false, Some, None, refl, sym, ap, ◌∙◌, subst}
use Rattle.std.specs.Prelude.{cond, is_some}
use Rattle.mo_types.specs.declared.node.Node.{Node}
use Rattle.mo_types.specs.declared.node.Node.TheVariants as node
use Rattle.mo_types.specs.declared.node.TypeId.{TypeId}
use Rattle.mo_types.specs.Heads.{tuple_of}
use Rattle.mo_types.specs.Sub.{Each, IsSomething}
use Rattle.mo_values.specs.Parts.{is_leaf_of}
use Rattle.mo_values.specs.Shapes.{Tuple, Shape, Shapes, Made, NoShape, AShape, listed}
use Rattle.mo_values.specs.Views as value
use Rattle.typed_tree.specs.Has.{HasEach}
use Rattle.typed_tree.specs.Patterns.{Pat, Pats, NoPat, APat, Found, all_of, matches, matches_all, where_there}
use Rattle.typed_tree.specs.Patterns as pattern
use Rattle.typed_tree.specs.Wants.{Of}
use Rattle.pattern_coverage.specs.Cutting.{Piece, Pieces, pieces, of_parts, behind, first_then, unknowns, cut_tuple, cut, cut_parts}
use Rattle.pattern_coverage.specs.Inhabited.{always, HasValues, ByForm, ByParts, ByFields, ByTag, ByBound, EachHasValues, NoType, AType, everything}
use Rattle.pattern_coverage.specs.Known.{Known, Knowns, Unknown, Is, IsNot, Holds, Under, NotUnder, Parts, Fields, NoKnown, AKnown, Describes, DescribeAll}
use Rattle.pattern_coverage.specs.Leaves.{remains}
use Rattle.pattern_coverage.specs.Suited.{OnTuple, AreOn}
use Rattle.pattern_coverage.proofs.Option.{Claim}
use Rattle.pattern_coverage.proofs.Pieces.{Feasible, AllFeasible, In, IsSure, Cuts, one}
use Rattle.pattern_coverage.proofs.Seen.{no, TupleSeen, TupleIs, tuple_seen, bottom_seen}

same_tuple : (ts us : List TypeId) (x : Node TypeId) → x ≡ node.Tuple ts → x ≡ node.Tuple us → ts ≡ us
same_tuple ts us x e f = cc

is_tuple : (x : Node TypeId) (ts : List TypeId) → x ≡ node.Tuple ts → tuple_of x ≡ None → ⊥
is_tuple x ts e f = subst IsSomething (sym (ap tuple_of e) ∙ f) tt

pub parts_have : (head : TypeId → Node TypeId) (t : TypeId) (ts : List TypeId) → head t ≡ node.Tuple ts → HasValues head t → EachHasValues head ts
parts_have head t ts e (ByForm _ h) = absurd (no (sym (ap always e) ∙ h))
parts_have head t ts e (ByParts _ us f h) = subst (EachHasValues head) (same_tuple us ts (head t) f e) h
parts_have head t ts e (ByFields _ fs f h) = absurd (is_tuple (head t) ts e (ap tuple_of f))
parts_have head t ts e (ByTag _ fs l g f i h) = absurd (is_tuple (head t) ts e (ap tuple_of f))
parts_have head t ts e (ByBound _ b v f h) = absurd (is_tuple (head t) ts e (ap tuple_of f))

module _ {F : Type 0} where
  abbrev InAll : List Pieces → Shapes F → Type 0
  InAll [] vs = ⊥
  InAll (c ∷ cs) vs = DescribeAll c.known (listed vs) ⊎ InAll cs vs

  in_all_left : (cs ds : List Pieces) (vs : Shapes F) → InAll cs vs → InAll (cs ++ ds) vs
  in_all_left [] ds vs h = absurd h
  in_all_left (c ∷ cs) ds vs (inl h) = inl h
  in_all_left (c ∷ cs) ds vs (inr h) = inr (in_all_left cs ds vs h)

  in_all_right : (cs ds : List Pieces) (vs : Shapes F) → InAll ds vs → InAll (cs ++ ds) vs
  in_all_right [] ds vs h = h
  in_all_right (c ∷ cs) ds vs h = inr (in_all_right cs ds vs h)

  none_and : (a b : Found F) → is_some a ≡ false → is_some (all_of a b) ≡ false
  none_and None b e = refl
  none_and (Some vs) b e = cc

  some_and : (a b : Found F) → is_some a ≡ true → is_some (all_of a b) ≡ is_some b
  some_and None b e = cc
  some_and (Some vs) None e = refl
  some_and (Some vs) (Some ws) e = refl

  pub both_and : (a b : Found F) (m : Bool) → is_some a ≡ true → is_some b ≡ m → is_some (all_of a b) ≡ m
  both_and a b m e f = some_and a b e ∙ f

  pub neither_and : (a b : Found F) → is_some a ≡ false → is_some (all_of a b) ≡ false
  neither_and a b e = none_and a b e

pub each_of_both : {V : Type 0} (P : V → Type 0) (xs ys : List V) → Each P xs → Each P ys → Each P (xs ++ ys)
each_of_both P [] ys h k = k
each_of_both P (x ∷ xs) ys h k = (h.0, each_of_both P xs ys h.1 k)

module _ (F : Type 0) (head : TypeId → Node TypeId) (has : TypeId → Bool) (kinds : List TypeId) where
  abbrev Cut : (Shape F → Type 0) → (Shape F → Bool) → TypeId → List Piece → Type 0
  Cut = Cuts head has kinds

  abbrev Vals : List TypeId → Shapes F → Type 0
  Vals ts vs = HasEach head (everything head) kinds (map (λ t. Of t) ts) vs

  record IsSureAll (D : Shapes F → Type 0) (Q : Shapes F → Bool) (ts : List TypeId) (c : Pieces) : Type 0 where
    feasible : AllFeasible head has c.known ts
    sure : (vs : Shapes F) → Vals ts vs → DescribeAll c.known (listed vs) → D vs × (Q vs ≡ c.matched)

  pub record CutsAll (D : Shapes F → Type 0) (Q : Shapes F → Bool) (ts : List TypeId) (cs : List Pieces) : Type 0 where
    each : Each (IsSureAll D Q ts) cs
    all : (vs : Shapes F) → Vals ts vs → D vs → InAll cs vs

  abbrev pub ClaimAll : Pats → Type 0
  ClaimAll ps = (ts : List TypeId) (ks : Knowns) → AreOn head ps ts → AllFeasible head has ks ts
      → CutsAll (λ vs. DescribeAll ks (listed vs)) (λ vs. is_some (matches_all ps (listed vs))) ts (cut_parts head has ps ts ks)

  pub no_parts : ClaimAll NoPat
  no_parts [] ks i f = record { each = (record { feasible = f; sure = λ vs a d. (d, none vs a) }, tt); all = λ vs a d. inl d }
    where
      none : (vs : Shapes F) → Vals [] vs → is_some (matches_all {F = F} NoPat (listed vs)) ≡ true
      none NoShape a = refl
      none (AShape v vs) a = absurd a
  no_parts (t ∷ ts) ks i f = absurd i

  module _ (p : Pat) (ps : Pats) (t : TypeId) (ts : List TypeId) (k : Known) (ks : Knowns) where
    abbrev First : Shape F → Bool
    First v = is_some (matches p v)

    abbrev Others : Shapes F → Bool
    Others vs = is_some (matches_all ps (listed vs))

    abbrev All : Shapes F → Bool
    All vs = is_some (matches_all (APat p ps) (listed vs))

    abbrev Before : Shapes F → Type 0
    Before vs = DescribeAll (AKnown k ks) (listed vs)

    behind_each : (c : Piece) → IsSure head has kinds (λ v. Describes k v) First t c → c.matched ≡ true → (rest : List Pieces) → Each (IsSureAll (λ vs. DescribeAll ks (listed vs)) Others ts) rest
        → Each (IsSureAll Before All (t ∷ ts)) (behind c.known rest)
    behind_each c s e [] h = tt
    behind_each c s e (r ∷ rest) h =
        let u : IsSureAll (λ vs. DescribeAll ks (listed vs)) Others ts r = h.0 in
        (record { feasible = (s.feasible, u.feasible); sure = sure u }, behind_each c s e rest h.1)
      where
        sure : IsSureAll (λ vs. DescribeAll ks (listed vs)) Others ts r → (vs : Shapes F) → Vals (t ∷ ts) vs → DescribeAll (AKnown c.known r.known) (listed vs) → Before vs × (All vs ≡ r.matched)
        sure u NoShape a d = absurd a
        sure u (AShape v vs) a d =
            let x = s.sure v a.0 d.0 in
            let y = u.sure vs a.1 d.1 in
            ((x.0, y.0), both_and (matches p v) (matches_all ps (listed vs)) r.matched (x.1 ∙ e) y.1)

    missed_each : (c : Piece) → IsSure head has kinds (λ v. Describes k v) First t c → c.matched ≡ false → AllFeasible head has ks ts → Each (IsSureAll Before All (t ∷ ts)) (pieces false (AKnown c.known ks) ∷ [])
    missed_each c s e f = (record { feasible = (s.feasible, f); sure = sure }, tt)
      where
        sure : (vs : Shapes F) → Vals (t ∷ ts) vs → DescribeAll (AKnown c.known ks) (listed vs) → Before vs × (All vs ≡ false)
        sure NoShape a d = absurd a
        sure (AShape v vs) a d = let x = s.sure v a.0 d.0 in ((x.0, d.1), neither_and (matches p v) (matches_all ps (listed vs)) (x.1 ∙ e))

    first_each : (rest : List Pieces) → Each (IsSureAll (λ vs. DescribeAll ks (listed vs)) Others ts) rest → AllFeasible head has ks ts → (cs : List Piece) → Each (IsSure head has kinds (λ v. Describes k v) First t) cs
        → Each (IsSureAll Before All (t ∷ ts)) (first_then cs rest ks)
    first_each rest r f [] h = tt
    first_each rest r f (c ∷ cs) h =
        each_of_both (IsSureAll Before All (t ∷ ts)) (cond c.matched (behind c.known rest) (pieces false (AKnown c.known ks) ∷ [])) (first_then cs rest ks) (by c.matched refl) (first_each rest r f cs h.1)
      where
        by : (b : Bool) → c.matched ≡ b → Each (IsSureAll Before All (t ∷ ts)) (cond b (behind c.known rest) (pieces false (AKnown c.known ks) ∷ []))
        by true e = behind_each c h.0 e rest r
        by false e = missed_each c h.0 e f

    behind_in : (j : Known) (v : Shape F) (vs : Shapes F) → Describes j v → (rest : List Pieces) → InAll rest vs → InAll (behind j rest) (AShape v vs)
    behind_in j v vs d [] h = absurd h
    behind_in j v vs d (r ∷ rest) (inl h) = inl (d, h)
    behind_in j v vs d (r ∷ rest) (inr h) = inr (behind_in j v vs d rest h)

    first_in : (rest : List Pieces) (v : Shape F) (vs : Shapes F) → InAll rest vs → DescribeAll ks (listed vs) → (cs : List Piece) → In cs v → InAll (first_then cs rest ks) (AShape v vs)
    first_in rest v vs r d [] h = absurd h
    first_in rest v vs r d (c ∷ cs) (inl h) = in_all_left (cond c.matched (behind c.known rest) (pieces false (AKnown c.known ks) ∷ [])) (first_then cs rest ks) (AShape v vs) (by c.matched)
      where
        by : (b : Bool) → InAll (cond b (behind c.known rest) (pieces false (AKnown c.known ks) ∷ [])) (AShape v vs)
        by true = behind_in c.known v vs h rest r
        by false = inl (h, d)
    first_in rest v vs r d (c ∷ cs) (inr h) = in_all_right (cond c.matched (behind c.known rest) (pieces false (AKnown c.known ks) ∷ [])) (first_then cs rest ks) (AShape v vs) (first_in rest v vs r d cs h)

  pub more_parts : (p : Pat) (ps : Pats) → Claim F head has kinds p → ClaimAll ps → ClaimAll (APat p ps)
  more_parts p ps claim claims [] ks i f = absurd i
  more_parts p ps claim claims (t ∷ ts) NoKnown i f = absurd f
  more_parts p ps claim claims (t ∷ ts) (AKnown k ks) i f =
      let c : Cuts head has kinds (λ v. Describes k v) (λ v. is_some (matches p v)) t (cut head has p t k) = claim t k i.0 f.0 in
      let r : CutsAll (λ vs. DescribeAll ks (listed vs)) (λ vs. is_some (matches_all ps (listed vs))) ts (cut_parts head has ps ts ks) = claims ts ks i.1 f.1 in
      record { each = first_each p ps t ts k ks (cut_parts head has ps ts ks) r.each f.1 (cut head has p t k) c.each; all = all c r }
    where
      all : Cut (λ v. Describes k v) (λ v. is_some (matches p v)) t (cut head has p t k) → CutsAll (λ vs. DescribeAll ks (listed vs)) (λ vs. is_some (matches_all ps (listed vs))) ts (cut_parts head has ps ts ks)
          → (vs : Shapes F) → Vals (t ∷ ts) vs → DescribeAll (AKnown k ks) (listed vs) → InAll (cut_parts head has (APat p ps) (t ∷ ts) (AKnown k ks)) vs
      all c r NoShape a d = absurd a
      all c r (AShape v vs) a d = first_in p ps t ts k ks (cut_parts head has ps ts ks) v vs (r.all vs a.1 d.1) d.1 (cut head has p t k) (c.all v a.0 d.0)

  -- ---- the whole tuple

  all_unknown : (ts : List TypeId) → EachHasValues head ts → AllFeasible head has (unknowns ts) ts
  all_unknown [] NoType = tt
  all_unknown (t ∷ ts) (AType _ _ h hs) = (h, all_unknown ts hs)

  unknown_all : (ts : List TypeId) (vs : Shapes F) → Vals ts vs → DescribeAll (unknowns ts) (listed vs)
  unknown_all [] NoShape a = tt
  unknown_all [] (AShape v vs) a = absurd a
  unknown_all (t ∷ ts) NoShape a = absurd a
  unknown_all (t ∷ ts) (AShape v vs) a = (tt, unknown_all ts vs a.1)

  module _ (ps : Pats) (claims : ClaimAll ps) where
    abbrev Asks : Shape F → Bool
    Asks v = is_some (where_there (λ vs. matches_all ps vs) (value.tuple_of v))

    whole_each : (t : TypeId) (ts : List TypeId) (ks : Knowns) (D : Shape F → Type 0) → head t ≡ node.Tuple ts → ((vs : Shapes F) → DescribeAll ks (listed vs) → D (Made Tuple vs)) → (cs : List Pieces)
        → Each (IsSureAll (λ vs. DescribeAll ks (listed vs)) (λ vs. is_some (matches_all ps (listed vs))) ts) cs → Each (IsSure head has kinds D Asks t) (of_parts Parts cs)
    whole_each t ts ks D e g [] h = tt
    whole_each t ts ks D e g (c ∷ cs) h =
        let s : IsSureAll (λ vs. DescribeAll ks (listed vs)) (λ vs. is_some (matches_all ps (listed vs))) ts c = h.0 in
        (record { feasible = (ts, e, s.feasible); sure = λ v a d. sure s v (tuple_seen head (everything head) kinds t ts v e a) d }, whole_each t ts ks D e g cs h.1)
      where
        sure : IsSureAll (λ vs. DescribeAll ks (listed vs)) (λ vs. is_some (matches_all ps (listed vs))) ts c → (v : Shape F) → TupleSeen head (everything head) kinds ts v → Describes (Parts c.known) v → D v × (Asks v ≡ c.matched)
        sure s v (TupleIs vs a) d = let x = s.sure vs a d in (g vs x.0, x.1)

    whole_in : (cs : List Pieces) (vs : Shapes F) → InAll cs vs → In (of_parts Parts cs) (Made Tuple vs)
    whole_in [] vs h = absurd h
    whole_in (c ∷ cs) vs (inl h) = inl h
    whole_in (c ∷ cs) vs (inr h) = inr (whole_in cs vs h)

    whole_cuts : (t : TypeId) (ts : List TypeId) (k : Known) (ks : Knowns) → head t ≡ node.Tuple ts → AreOn head ps ts → AllFeasible head has ks ts
        → ((vs : Shapes F) → DescribeAll ks (listed vs) → Describes k (Made Tuple vs)) → ((vs : Shapes F) → Vals ts vs → Describes k (Made Tuple vs) → DescribeAll ks (listed vs))
        → Cut (λ v. Describes k v) Asks t (of_parts Parts (cut_parts head has ps ts ks))
    whole_cuts t ts k ks e i f to back =
        let c : CutsAll (λ vs. DescribeAll ks (listed vs)) (λ vs. is_some (matches_all ps (listed vs))) ts (cut_parts head has ps ts ks) = claims ts ks i f in
        record { each = whole_each t ts ks (λ v. Describes k v) e to (cut_parts head has ps ts ks) c.each; all = λ v a d. all c v (tuple_seen head (everything head) kinds t ts v e a) d }
      where
        all : CutsAll (λ vs. DescribeAll ks (listed vs)) (λ vs. is_some (matches_all ps (listed vs))) ts (cut_parts head has ps ts ks) → (v : Shape F) → TupleSeen head (everything head) kinds ts v → Describes k v
            → In (of_parts Parts (cut_parts head has ps ts ks)) v
        all c v (TupleIs vs a) d = whole_in (cut_parts head has ps ts ks) vs (c.all vs a (back vs a d))

    tuple_by : (x : Node TypeId) (t : TypeId) (k : Known) → head t ≡ x → OnTuple (λ ts. AreOn head ps ts) x → Feasible head has k t → Cut (λ v. Describes k v) Asks t (cut_tuple (λ ts ks. cut_parts head has ps ts ks) x k)
    tuple_by (node.Tuple ts) t Unknown e i f = whole_cuts t ts Unknown (unknowns ts) e i (all_unknown ts (parts_have head t ts e f)) (λ vs d. tt) (λ vs a d. unknown_all ts vs a)
    tuple_by (node.Tuple ts) t (Parts ks) e i f = whole_cuts t ts (Parts ks) ks e i (subst (AllFeasible head has ks) (same_tuple f.0 ts (head t) f.1 e) f.2) (λ vs d. d) (λ vs a d. d)
    tuple_by (node.Tuple ts) t (Is c) e i f = absurd (no (ap (λ x. is_leaf_of x c) (sym e) ∙ f))
    tuple_by (node.Tuple ts) t (IsNot cs) e i f = absurd (no (ap (λ x. remains x cs) (sym e) ∙ f))
    tuple_by (node.Tuple ts) t (Holds k) e i f = absurd (is_tuple (head t) ts e (ap tuple_of f.1))
    tuple_by (node.Tuple ts) t (Under l k) e i f = absurd (is_tuple (head t) ts e (ap tuple_of f.2))
    tuple_by (node.Tuple ts) t (NotUnder ls) e i f = absurd (is_tuple (head t) ts e (ap tuple_of f.1))
    tuple_by (node.Tuple ts) t (Fields ls ks) e i f = absurd (is_tuple (head t) ts e (ap tuple_of f.1))
    tuple_by node.Bottom t k e i f = one head has kinds k false t Asks f (λ v a d. absurd (bottom_seen head (everything head) kinds t v e a))
    tuple_by x t k e i f = absurd i

    pub tuple_cuts : Claim F head has kinds (pattern.Parts ps)
    tuple_cuts t k i f = tuple_by (head t) t k refl i f
