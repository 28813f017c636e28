-- Pieces of what is known of a value: of each it is sure whether its values match, and each value lies in one.
use Rattle.std.proofs.Common.{◌≡◌, ◌⊎◌, inl, inr, List, [], ◌∷◌, ◌++◌, Bool, true, false, Some, refl, sym, ◌∙◌}
use Rattle.std.specs.Prelude.{cond}
use Rattle.mo_types.specs.declared.node.Field.{Field}
use Rattle.mo_types.specs.declared.node.Node.{Node}
use Rattle.mo_types.specs.declared.node.Node.TheVariants as node
use Rattle.mo_types.specs.declared.node.TypeId.{TypeId}
use Rattle.mo_types.specs.Sub.{Each, find}
use Rattle.mo_values.specs.Messages.{labels}
use Rattle.mo_values.specs.Parts.{is_leaf_of}
use Rattle.mo_values.specs.Shapes.{Shape}
use Rattle.typed_tree.specs.Has.{Has}
use Rattle.typed_tree.specs.Wants.{Of}
use Rattle.pattern_coverage.specs.Cutting.{Piece, piece, where_known, or_else, tag_remains}
use Rattle.pattern_coverage.specs.Inhabited.{HasValues, everything}
use Rattle.pattern_coverage.specs.Known.{Known, Knowns, Unknown, Is, IsNot, Holds, Under, NotUnder, Parts, Fields, NoKnown, AKnown, Describes}
use Rattle.pattern_coverage.specs.Leaves.{remains}

module _ (head : TypeId → Node TypeId) (has : TypeId → Bool) where
  abbrev mutual
    -- some value of the type has this shape
    pub Feasible : Known → TypeId → Type 0
    Feasible Unknown t = HasValues head t
    Feasible (Is c) t = is_leaf_of (head t) c ≡ true
    Feasible (IsNot cs) t = remains (head t) cs ≡ true
    Feasible (Holds k) t = (u : TypeId) × (head t ≡ node.Opt u) × Feasible k u
    Feasible (Under l k) t = (fs : List (Field TypeId)) × (g : Field TypeId) × (head t ≡ node.Variant fs) × (find l fs ≡ Some g) × Feasible k g.part
    Feasible (NotUnder ls) t = (fs : List (Field TypeId)) × (head t ≡ node.Variant fs) × (tag_remains head has fs ls ≡ true)
    Feasible (Parts ks) t = (ts : List TypeId) × (head t ≡ node.Tuple ts) × AllFeasible ks ts
    Feasible (Fields ls ks) t = (fs : List (Field TypeId)) × (head t ≡ node.Object fs) × (ls ≡ labels fs) × FieldsFeasible ks fs

    pub AllFeasible : Knowns → List TypeId → Type 0
    AllFeasible NoKnown [] = Unit {0}
    AllFeasible NoKnown (t ∷ ts) = ⊥
    AllFeasible (AKnown k ks) [] = ⊥
    AllFeasible (AKnown k ks) (t ∷ ts) = Feasible k t × AllFeasible ks ts

    -- of a `var` field nothing is known
    pub FieldsFeasible : Knowns → List (Field TypeId) → Type 0
    FieldsFeasible NoKnown [] = Unit {0}
    FieldsFeasible NoKnown (f ∷ fs) = ⊥
    FieldsFeasible (AKnown k ks) [] = ⊥
    FieldsFeasible (AKnown k ks) (f ∷ fs) = (Feasible k f.part × (f.mutable ≡ true → k ≡ Unknown)) × FieldsFeasible ks fs

pub both_lists : {V : Type 0} (P : V → Type 0) (xs ys : List V) → Each P xs → Each P ys → Each P (xs ++ ys)
both_lists P [] ys h k = k
both_lists P (x ∷ xs) ys h k = (h.0, both_lists P xs ys h.1 k)

module _ {F : Type 0} where
  -- it lies in one of them
  abbrev pub In : List Piece → Shape F → Type 0
  In [] v = ⊥
  In (c ∷ cs) v = Describes c.known v ⊎ In cs v

  pub in_left : (cs ds : List Piece) (v : Shape F) → In cs v → In (cs ++ ds) v
  in_left [] ds v h = absurd h
  in_left (c ∷ cs) ds v (inl h) = inl h
  in_left (c ∷ cs) ds v (inr h) = inr (in_left cs ds v h)

  pub in_right : (cs ds : List Piece) (v : Shape F) → In ds v → In (cs ++ ds) v
  in_right [] ds v h = h
  in_right (c ∷ cs) ds v h = inr (in_right cs ds v h)

module _ {F : Type 0} (head : TypeId → Node TypeId) (has : TypeId → Bool) (kinds : List TypeId) where
  abbrev pub Val : TypeId → Shape F → Type 0
  Val t v = Has head (everything head) kinds (Of t) v

  -- each of its values is as was known before, and it is known whether Q holds of it
  pub record IsSure (D : Shape F → Type 0) (Q : Shape F → Bool) (t : TypeId) (c : Piece) : Type 0 where
    pub feasible : Feasible head has c.known t
    pub sure : (v : Shape F) → Val t v → Describes c.known v → D v × (Q v ≡ c.matched)

  pub record Cuts (D : Shape F → Type 0) (Q : Shape F → Bool) (t : TypeId) (cs : List Piece) : Type 0 where
    pub each : Each (IsSure D Q t) cs
    pub all : (v : Shape F) → Val t v → D v → In cs v

  -- what is known stays as it is
  pub one : (k : Known) (b : Bool) (t : TypeId) (Q : Shape F → Bool) → Feasible head has k t → ((v : Shape F) → Val t v → Describes k v → Q v ≡ b) → Cuts (λ v. Describes k v) Q t (piece b k ∷ [])
  one k b t Q f q = record { each = (record { feasible = f; sure = λ v a d. (d, q v a d) }, tt); all = λ v a d. inl d }

  asked_each : (D : Shape F → Type 0) (Q R : Shape F → Bool) (t : TypeId) (cs : List Piece) → ((v : Shape F) → R v ≡ Q v) → Each (IsSure D Q t) cs → Each (IsSure D R t) cs
  asked_each D Q R t [] e h = tt
  asked_each D Q R t (c ∷ cs) e h =
      let s : IsSure D Q t c = h.0 in
      (record { feasible = s.feasible; sure = λ v a d. let p = s.sure v a d in (p.0, e v ∙ p.1) }, asked_each D Q R t cs e h.1)

  pub asked : (D : Shape F → Type 0) (Q R : Shape F → Bool) (t : TypeId) (cs : List Piece) → ((v : Shape F) → R v ≡ Q v) → Cuts D Q t cs → Cuts D R t cs
  asked D Q R t cs e c = record { each = asked_each D Q R t cs e c.each; all = c.all }

  -- a piece that is there if it has values
  pub there : (b : Bool) (D : Shape F → Type 0) (Q : Shape F → Bool) (t : TypeId) (k : Known) → (b ≡ true → Feasible head has k t) → ((v : Shape F) → Val t v → Describes k v → D v × (Q v ≡ false)) → Each (IsSure D Q t) (where_known b k)
  there true D Q t k f s = (record { feasible = f refl; sure = s }, tt)
  there false D Q t k f s = tt

  pub in_there : (b : Bool) (k : Known) (v : Shape F) → b ≡ true → Describes k v → In (where_known b k) v
  in_there true k v e d = inl d
  in_there false k v e d = cc

  -- ---- one pattern, and else another

  or_each : (D : Shape F → Type 0) (P R Q : Shape F → Bool) (t : TypeId) (f : Known → List Piece) → ((k : Known) → Feasible head has k t → Cuts (λ v. Describes k v) R t (f k))
      → ((v : Shape F) → P v ≡ true → Q v ≡ true) → ((v : Shape F) → P v ≡ false → Q v ≡ R v) → (cs : List Piece) → Each (IsSure D P t) cs → Each (IsSure D Q t) (or_else cs f)
  or_each D P R Q t f g if_so else_so [] h = tt
  or_each D P R Q t f g if_so else_so (c ∷ cs) h = both_lists (IsSure D Q t) (cond c.matched (c ∷ []) (f c.known)) (or_else cs f) (by c.matched refl h.0) (or_each D P R Q t f g if_so else_so cs h.1)
    where
      later : (c : Piece) → c.matched ≡ false → IsSure D P t c → (ds : List Piece) → Each (IsSure (λ v. Describes c.known v) R t) ds → Each (IsSure D Q t) ds
      later c e s [] h = tt
      later c e s (d ∷ ds) h =
          let r : IsSure (λ v. Describes c.known v) R t d = h.0 in
          (record { feasible = r.feasible; sure = λ v a x. let y = r.sure v a x in let z = s.sure v a y.0 in (z.0, else_so v (z.1 ∙ e) ∙ y.1) }, later c e s ds h.1)

      by : (b : Bool) → c.matched ≡ b → IsSure D P t c → Each (IsSure D Q t) (cond b (c ∷ []) (f c.known))
      by true e s = (record { feasible = s.feasible; sure = λ v a x. let z = s.sure v a x in (z.0, if_so v (z.1 ∙ e) ∙ sym e) }, tt)
      by false e s = later c e s (f c.known) (g c.known s.feasible).each

  or_all : (D : Shape F → Type 0) (P R : Shape F → Bool) (t : TypeId) (f : Known → List Piece) → ((k : Known) → Feasible head has k t → Cuts (λ v. Describes k v) R t (f k))
      → (v : Shape F) → Val t v → (cs : List Piece) → Each (IsSure D P t) cs → In cs v → In (or_else cs f) v
  or_all D P R t f g v a [] h i = absurd i
  or_all D P R t f g v a (c ∷ cs) h (inl d) = in_left (cond c.matched (c ∷ []) (f c.known)) (or_else cs f) v (by c.matched h.0)
    where
      by : (b : Bool) → IsSure D P t c → In (cond b (c ∷ []) (f c.known)) v
      by true s = inl d
      by false s = (g c.known s.feasible).all v a d
  or_all D P R t f g v a (c ∷ cs) h (inr i) = in_right (cond c.matched (c ∷ []) (f c.known)) (or_else cs f) v (or_all D P R t f g v a cs h.1 i)

  pub or_cuts : (D : Shape F → Type 0) (P R Q : Shape F → Bool) (t : TypeId) (f : Known → List Piece) → ((k : Known) → Feasible head has k t → Cuts (λ v. Describes k v) R t (f k))
      → ((v : Shape F) → P v ≡ true → Q v ≡ true) → ((v : Shape F) → P v ≡ false → Q v ≡ R v) → (cs : List Piece) → Cuts D P t cs → Cuts D Q t (or_else cs f)
  or_cuts D P R Q t f g if_so else_so cs c = record { each = or_each D P R Q t f g if_so else_so cs c.each; all = λ v a d. or_all D P R t f g v a cs c.each (c.all v a d) }
