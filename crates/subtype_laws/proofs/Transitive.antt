-- Subtyping is transitive, where type parameters of one number have equal bounds.
use Rattle.std.proofs.Common.{◌≡◌, inl, inr, ℕ, zero, suc, List, [], ◌∷◌, Bool, true, false, true≢false, Option, Some, None, refl, sym, ap, ◌∙◌, subst, nat_eq, if◌then◌else◌}
use Rattle.std.specs.Cmp.Lexicographic.{pointwise}
use Rattle.std.specs.Cmp.{unsigned_Decides}
use Rattle.std.proofs.lemmas.Slice.Eq.{bytes_eq-Decides}
use Rattle.mo_num.specs.declared.kind.Kind.{Kind}
use Rattle.mo_types.specs.declared.node.Node.{Node}
use Rattle.mo_types.specs.declared.node.Node.TheVariants as node
use Rattle.mo_types.specs.declared.node.Field.{Field}
use Rattle.mo_types.specs.Heads.{is_any, variable_of}
use Rattle.mo_types.specs.Sub.{AtSome, IsSubtype, Unless, Each, Pairwise, find, Sub, NodeBelow, HeadBelow, FieldsBelow, TagsBelow, Fitting, NumberBelow, VariableBelow}
use Rattle.subtype_laws.specs.Bounds.{OneBound}
use Rattle.subtype_laws.proofs.Monotone.{at_map, unless_map, unless}
use Rattle.subtype_laws.proofs.Depths.{sub_less}

-- a field of this label, of which both hold
pub record Found {A : Type 0} (l : List ℕ) (P Q : Field A → Type 0) : Type 0 where
  pub field : Field A
  pub label : field.label ≡ l
  pub first : P field
  pub second : Q field

pub found : {A : Type 0} (gs : List (Field A)) (l : List ℕ) (P Q : Field A → Type 0) → Each P gs → AtSome (find l gs) Q → Found l P Q
found [] l P Q h s = absurd s
found (g ∷ gs) l P Q h s = by (pointwise nat_eq g.label l) refl s (λ s. found gs l P Q h.1 s) where
  by : (b : Bool) → pointwise nat_eq g.label l ≡ b → AtSome (if b then Some g else find l gs) Q → (AtSome (find l gs) Q → Found l P Q) → Found l P Q
  by true e s k = record { field = g; label = (bytes_eq-Decides g.label l).0 e; first = h.0; second = s }
  by false e s k = k s

module _ {A : Type 0} (R : A → A → Type 0) (trans : (t u v : A) → R t u → R u v → R t v) where
  pairs_trans : (xs ys zs : List A) → Pairwise R xs ys → Pairwise R ys zs → Pairwise R xs zs
  pairs_trans [] [] [] p q = tt
  pairs_trans [] [] (z ∷ zs) p q = absurd q
  pairs_trans [] (y ∷ ys) zs p q = absurd p
  pairs_trans (x ∷ xs) [] zs p q = absurd p
  pairs_trans (x ∷ xs) (y ∷ ys) [] p q = absurd q
  pairs_trans (x ∷ xs) (y ∷ ys) (z ∷ zs) p q = (trans x y z p.0 q.0, pairs_trans xs ys zs p.1 q.1)

  fitting_trans : (a b c : Field A) (l m n : Bool) → Fitting R a b l m → Fitting R b c m n → Fitting R a c l n
  fitting_trans a b c true true true p q = (trans a.part b.part c.part p.0 q.0, trans c.part b.part a.part q.1 p.1)
  fitting_trans a b c false false false p q = trans a.part b.part c.part p q
  fitting_trans a b c true false n p q = absurd p
  fitting_trans a b c false true n p q = absurd p
  fitting_trans a b c true true false p q = absurd q
  fitting_trans a b c false false true p q = absurd q

  fields_trans : (fs gs hs : List (Field A)) → FieldsBelow R fs gs → FieldsBelow R gs hs → FieldsBelow R fs hs
  fields_trans fs gs [] p q = tt
  fields_trans fs gs (h ∷ hs) p q =
      let r = found gs h.label (λ g. AtSome (find g.label fs) (λ f. Fitting R f g f.mutable g.mutable)) (λ g. Fitting R g h g.mutable h.mutable) p q.0 in
      let g = r.field in (
        at_map (find h.label fs) (λ f. Fitting R f g f.mutable g.mutable) (λ f. Fitting R f h f.mutable h.mutable) (λ f s. fitting_trans f g h f.mutable g.mutable h.mutable s r.second)
            (subst (λ l. AtSome (find l fs) (λ f. Fitting R f g f.mutable g.mutable)) r.label r.first),
        fields_trans fs gs hs p q.1,
      )

  tags_trans : (fs gs hs : List (Field A)) → TagsBelow R fs gs → TagsBelow R gs hs → TagsBelow R fs hs
  tags_trans [] gs hs p q = tt
  tags_trans (f ∷ fs) gs hs p q =
      let r = found gs f.label (λ g. AtSome (find g.label hs) (λ h. R g.part h.part)) (λ g. R f.part g.part) q p.0 in
      (at_map (find f.label hs) (λ h. R r.field.part h.part) (λ h. R f.part h.part) (λ h s. trans f.part r.field.part h.part r.second s) (subst (λ l. AtSome (find l hs) (λ h. R r.field.part h.part)) r.label r.first), tags_trans fs gs hs p.1 q)

  number_trans : (i j k : Kind) → NumberBelow i j → NumberBelow j k → NumberBelow i k
  number_trans i j k (inl p) (inl q) = inl (p ∙ q)
  number_trans i j k (inl p) (inr q) = inr (p ∙ q.0, q.1)
  number_trans i j k (inr p) (inl q) = inr (p.0, sym q ∙ p.1)
  number_trans i j k (inr p) (inr q) = inr (p.0, q.1)

  variable_at : (b v : A) (o : Option ℕ) (n : ℕ) → R b v → VariableBelow R b v o n
  variable_at b v None n h = h
  variable_at b v (Some w) n h = unless (nat_eq n w) (R b v) h

  -- a bound below the one that is below
  variable_on : (b c v : A) (o : Option ℕ) (n : ℕ) → R b c → VariableBelow R c v o n → VariableBelow R b v o n
  variable_on b c v None n r h = trans b c v r h
  variable_on b c v (Some w) n r h = unless_map (nat_eq n w) (R c v) (R b v) (λ s. trans b c v r s) h

  -- u and v are the types with the heads y and z
  head_trans : (u v : A) (x y z : Node A) → R u v → ((n : ℕ) (b c : A) → x ≡ node.Variable n b → y ≡ node.Variable n c → R b c) → HeadBelow R u x y → HeadBelow R v y z → HeadBelow R v x z
  head_trans u v (node.Number i) (node.Number j) (node.Number k) r s p q = number_trans i j k p q
  head_trans u v (node.Number i) (node.Number j) z r s p q = absurd q
  head_trans u v (node.Number i) y z r s p q = absurd p
  head_trans u v node.Bool node.Bool z r s p q = q
  head_trans u v node.Bool y z r s p q = absurd (true≢false (sym p))
  head_trans u v node.Char node.Char z r s p q = q
  head_trans u v node.Char y z r s p q = absurd (true≢false (sym p))
  head_trans u v node.Text node.Text z r s p q = q
  head_trans u v node.Text y z r s p q = absurd (true≢false (sym p))
  head_trans u v node.Blob node.Blob z r s p q = q
  head_trans u v node.Blob y z r s p q = absurd (true≢false (sym p))
  head_trans u v node.Principal node.Principal z r s p q = q
  head_trans u v node.Principal y z r s p q = absurd (true≢false (sym p))
  head_trans u v node.Error node.Error z r s p q = q
  head_trans u v node.Error y z r s p q = absurd (true≢false (sym p))
  head_trans u v node.Null node.Null z r s p q = q
  head_trans u v node.Null (node.Opt b) (node.Opt c) r s p q = inr tt
  head_trans u v node.Null (node.Opt b) z r s p q = absurd q
  head_trans u v node.Null y z r s (inl p) q = absurd (true≢false (sym p))
  head_trans u v node.Null y z r s (inr p) q = absurd p
  head_trans u v node.Any y z r s p q = absurd p
  head_trans u v node.Bottom y z r s p q = tt
  head_trans u v (node.Opt a) (node.Opt b) (node.Opt c) r s p q = trans a b c p q
  head_trans u v (node.Opt a) (node.Opt b) z r s p q = absurd q
  head_trans u v (node.Opt a) y z r s p q = absurd p
  head_trans u v (node.Array a) (node.Array b) (node.Array c) r s p q = trans a b c p q
  head_trans u v (node.Array a) (node.Array b) z r s p q = absurd q
  head_trans u v (node.Array a) y z r s p q = absurd p
  head_trans u v (node.MutArray a) (node.MutArray b) (node.MutArray c) r s p q = (trans a b c p.0 q.0, trans c b a q.1 p.1)
  head_trans u v (node.MutArray a) (node.MutArray b) z r s p q = absurd q
  head_trans u v (node.MutArray a) y z r s p q = absurd p
  head_trans u v (node.Tuple a) (node.Tuple b) (node.Tuple c) r s p q = pairs_trans a b c p q
  head_trans u v (node.Tuple a) (node.Tuple b) z r s p q = absurd q
  head_trans u v (node.Tuple a) y z r s p q = absurd p
  head_trans u v (node.Object a) (node.Object b) (node.Object c) r s p q = fields_trans a b c p q
  head_trans u v (node.Object a) (node.Object b) z r s p q = absurd q
  head_trans u v (node.Object a) y z r s p q = absurd p
  head_trans u v (node.Actor a) (node.Actor b) (node.Actor c) r s p q = fields_trans a b c p q
  head_trans u v (node.Actor a) (node.Actor b) z r s p q = absurd q
  head_trans u v (node.Actor a) y z r s p q = absurd p
  head_trans u v (node.Variant a) (node.Variant b) (node.Variant c) r s p q = tags_trans a b c p q
  head_trans u v (node.Variant a) (node.Variant b) z r s p q = absurd q
  head_trans u v (node.Variant a) y z r s p q = absurd p
  head_trans u v (node.Func i a b) (node.Func j c d) (node.Func k e f) r s p q = (p.0 ∙ q.0, pairs_trans e c a q.1 p.1, pairs_trans b d f p.2 q.2)
  head_trans u v (node.Func i a b) (node.Func j c d) z r s p q = absurd q
  head_trans u v (node.Func i a b) y z r s p q = absurd p
  head_trans u v (node.Async a) (node.Async b) (node.Async c) r s p q = trans a b c p q
  head_trans u v (node.Async a) (node.Async b) z r s p q = absurd q
  head_trans u v (node.Async a) y z r s p q = absurd p
  head_trans u v (node.Variable n b) (node.Variable m c) z r s p q = by (nat_eq n m) refl p where
    by : (e : Bool) → nat_eq n m ≡ e → Unless e (R b u) → VariableBelow R b v (variable_of z) n
    by false e h = variable_at b v (variable_of z) n (trans b u v h r)
    by true e h =
        let same : n ≡ m = (unsigned_Decides n m).0 e in
        let bound : R b c = s n b c refl (ap (λ k. node.Variable k c) (sym same)) in
        variable_on b c v (variable_of z) n bound (subst (λ k. VariableBelow R c v (variable_of z) k) (sym same) q)
  head_trans u v (node.Variable n b) y z r s p q = variable_at b v (variable_of z) n (trans b u v p r)

  any_above : (v : A) (x y z : Node A) → is_any y ≡ true → NodeBelow R v y z → NodeBelow R v x z
  any_above v x y z e (inl a) = inl a
  any_above v x node.Any z e (inr h) = absurd h
  any_above v x y z e (inr h) = absurd (true≢false (sym e))

  node_trans : (u v : A) (x y z : Node A) → R u v → ((n : ℕ) (b c : A) → x ≡ node.Variable n b → y ≡ node.Variable n c → R b c) → NodeBelow R u x y → NodeBelow R v y z → NodeBelow R v x z
  node_trans u v x y z r s (inl e) q = any_above v x y z e q
  node_trans u v x y z r s (inr p) (inl e) = inl e
  node_trans u v x y z r s (inr p) (inr q) = inr (head_trans u v x y z r s p q)

module _ {A : Type 0} (head : A → Node A) (one : OneBound head) where
  sub_trans : (n : ℕ) (t u v : A) → Sub head n t u → Sub head n u v → Sub head n t v
  unfolding Sub
  sub_trans zero t u v p q = tt
  sub_trans (suc n) t u v p q = node_trans (Sub head n) (sub_trans n) u v (head t) (head u) (head v) (sub_less head n u v q) (λ k b c e f. (one t u b c k e f).by n) p q

  pub transitive : (t u v : A) → IsSubtype head t u → IsSubtype head u v → IsSubtype head t v
  transitive t u v p q = record { by = λ n. sub_trans n t u v (p.by n) (q.by n) }
