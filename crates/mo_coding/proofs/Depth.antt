-- How deep values are, by their types and their bytes.
use Rattle.std.proofs.Common.{◌≡◌, ℕ, zero, suc, ◌+◌, ◌<◌, ◌≤◌, ◌⊎◌, inl, inr, Bool, true, false, List, [], ◌∷◌, ◌++◌, length, refl, ap, ◌∙◌, subst, arith, length-append}
use Rattle.mo_num.specs.Leb.{IsLeb}
use Rattle.mo_types.specs.declared.datum.Datum.{Datum}
use Rattle.mo_types.specs.declared.datum.Datum.TheVariants as part
use Rattle.mo_types.specs.declared.node.Node.{Node}
use Rattle.mo_types.specs.declared.node.Node.TheVariants as node
use Rattle.mo_types.specs.declared.node.Sort.TheVariants as sort
use Rattle.mo_types.specs.declared.node.TypeId.{TypeId}
use Rattle.mo_types.specs.declared.wire.Ref.{Ref}
use Rattle.mo_types.specs.declared.wire.Ref.TheVariants.{Of, Just}
use Rattle.mo_types.specs.declared.wire.Wire.{Wire}
use Rattle.mo_types.specs.declared.wire.Wire.TheVariants.{Simple, Opt, Vec, Record, Variant, Func, Service}
use Rattle.mo_types.specs.Graph.{head_at}
use Rattle.mo_types.specs.Spelling.{padded, IsWirePart, FewEmpty, wire_inside}
use Rattle.mo_types.specs.Values.{Values, Nil, Value, IsPartOf}
use Rattle.mo_types.specs.Wire.{wire, wire_of_node}
use Rattle.candid_forms.specs.Forms.{Forms, IsPartAt, IsSpelledBy, inside_ref}
use Rattle.mo_meaning.specs.Coding.{Types}
use Rattle.mo_coding.specs.Heads.{of_graph}
use Rattle.mo_coding.specs.Levels.{by_level, all_levels, record_parts, is_ending}
use Rattle.mo_coding.specs.Reading.{budget, most_depth}
use Rattle.mo_coding.proofs.Members.{Has}
use Rattle.mo_coding.proofs.Heads.{graph_finite}
use Rattle.mo_coding.proofs.Truths.{all_true, true_all}
use Rattle.mo_coding.proofs.Levels.{ending_settled}

-- values within one another to this depth at most
abbrev pub Within : ℕ → Values → Type 0
Within depth Nil = Unit {0}
Within zero (Value p inner others) = ⊥
Within (suc depth) (Value p inner others) = Within depth inner × Within (suc depth) others

pub deeper : (v : Values) (m n : ℕ) → m ≤ n → Within m v → Within n v
deeper Nil m n l h = tt
deeper (Value p i o) zero n l h = absurd h
deeper (Value p i o) (suc m) zero l h = absurd (omega (arith, l))
deeper (Value p i o) (suc m) (suc n) l h = (deeper i m n (omega (arith, l)) h.0, deeper o (suc m) (suc n) l h.1)

depth : Values → ℕ
depth Nil = 0
depth (Value p i o) = suc (depth i) + depth o

within_depth : (v : Values) → Within (depth v) v
unfolding depth
within_depth Nil = tt
within_depth (Value p i o) = by (suc (depth i) + depth o) refl (within_depth i) (within_depth o) where
  by : (n : ℕ) → suc (depth i) + depth o ≡ n → Within (depth i) i → Within (depth o) o → Within n (Value p i o)
  by zero e h k = absurd (omega (arith, e))
  by (suc n) e h k = (deeper i (depth i) n (omega (arith, e)) h, deeper o (depth o) (suc n) (omega (arith, e)) k)

budget_less : (m j k : ℕ) → j ≤ k → budget m j ≤ budget m k
budget_less m zero k l = omega arith
budget_less m (suc j) zero l = absurd (omega (arith, l))
budget_less m (suc j) (suc k) l = let h = budget_less m j k (omega (arith, l)) in omega (arith, h)

budget_more : (m j k : ℕ) → j < k → suc m + budget m j ≤ budget m k
budget_more m j zero l = absurd (omega (arith, l))
budget_more m j (suc k) l = let h = budget_less m j k (omega (arith, l)) in omega (arith, h)

-- ---- parts

some_bytes : (n : ℕ) (b : List ℕ) → IsLeb b n → 1 ≤ length b
some_bytes n [] h = absurd h
some_bytes n (x ∷ b) h = omega arith

module _ {B : Type 0} (Allowed : ℕ → B → Type 0) where
  -- a part has bytes, or what is inside it is of the parts of a record
  has_bytes : (w : Wire B) (p : Datum) (a : List ℕ) → IsWirePart padded Allowed w p a → (1 ≤ length a) ⊎ ((q : B) → Has (wire_inside w p) q → Has (record_parts w) q)
  has_bytes (Simple s) p a h = inr (λ q i. i)
  has_bytes (Opt b) part.Null a h = inl (let e = ap length h in omega (arith, e))
  has_bytes (Opt b) part.Present a h = inl (let e = ap length h in omega (arith, e))
  has_bytes (Opt b) p a h = absurd h
  has_bytes (Vec b) (part.Many n) a h = inl (some_bytes n a h.1.0)
  has_bytes (Vec b) p a h = absurd h
  has_bytes (Record es) (part.Record n) a h = inr (λ q i. i)
  has_bytes (Record es) p a h = absurd h
  has_bytes (Variant es) (part.Tag i) a h = inl (some_bytes i a h.1.0)
  has_bytes (Variant es) p a h = absurd h
  has_bytes (Func ps rs m) p a h = inr (λ q i. absurd i)
  has_bytes (Service ms) p a h = inr (λ q i. absurd i)

  -- the parts of a record are inside each of its values
  has_parts : (w : Wire B) (p : Datum) (a : List ℕ) → IsWirePart padded Allowed w p a → (q : B) → Has (record_parts w) q → Has (wire_inside w p) q
  has_parts (Record es) (part.Record n) a h q i = i
  has_parts (Record es) p a h q i = absurd h
  has_parts w p a h q i = absurd i

module _ (slots : Types) where
  abbrev Few : ℕ → Ref TypeId → Type 0
  Few n r = FewEmpty (wire (head_at slots)) n r

  abbrev Part : Ref TypeId → Datum → List ℕ → Type 0
  Part r p a = IsPartAt padded Few (head_at slots) r p a

  abbrev head : Ref TypeId → Wire (Ref TypeId)
  head r = wire (head_at slots) r

  abbrev Bytes : Wire (Ref TypeId) → Datum → List ℕ → Type 0
  Bytes w p a = (1 ≤ length a) ⊎ ((q : Ref TypeId) → Has (wire_inside w p) q → Has (record_parts w) q)

  node_bytes : (n : Node TypeId) (p : Datum) (a : List ℕ) → IsPartOf n p → IsSpelledBy padded Few (head_at slots) n p a → Bytes (wire_of_node (head_at slots) n) p a
  node_bytes node.Blob (part.Blob b) a t h = inr (λ q i. absurd i)
  node_bytes node.Blob p a t h = absurd t
  node_bytes node.Char p a t h = inr (λ q i. absurd i)
  node_bytes node.Any p a t h = inr (λ q i. absurd i)
  node_bytes (node.Number k) p a t h = has_bytes Few (wire_of_node (head_at slots) (node.Number k)) p a h
  node_bytes node.Bool p a t h = has_bytes Few (wire_of_node (head_at slots) node.Bool) p a h
  node_bytes node.Text p a t h = has_bytes Few (wire_of_node (head_at slots) node.Text) p a h
  node_bytes node.Principal p a t h = has_bytes Few (wire_of_node (head_at slots) node.Principal) p a h
  node_bytes node.Error p a t h = has_bytes Few (wire_of_node (head_at slots) node.Error) p a h
  node_bytes node.Null p a t h = has_bytes Few (wire_of_node (head_at slots) node.Null) p a h
  node_bytes node.Bottom p a t h = has_bytes Few (wire_of_node (head_at slots) node.Bottom) p a h
  node_bytes (node.Opt b) p a t h = has_bytes Few (wire_of_node (head_at slots) (node.Opt b)) p a h
  node_bytes (node.Array b) p a t h = has_bytes Few (wire_of_node (head_at slots) (node.Array b)) p a h
  node_bytes (node.MutArray b) p a t h = has_bytes Few (wire_of_node (head_at slots) (node.MutArray b)) p a h
  node_bytes (node.Tuple ts) p a t h = has_bytes Few (wire_of_node (head_at slots) (node.Tuple ts)) p a h
  node_bytes (node.Object fs) p a t h = has_bytes Few (wire_of_node (head_at slots) (node.Object fs)) p a h
  node_bytes (node.Actor fs) p a t h = has_bytes Few (wire_of_node (head_at slots) (node.Actor fs)) p a h
  node_bytes (node.Variant fs) p a t h = has_bytes Few (wire_of_node (head_at slots) (node.Variant fs)) p a h
  node_bytes (node.Func s ps rs) p a t h = has_bytes Few (wire_of_node (head_at slots) (node.Func s ps rs)) p a h
  node_bytes (node.Async b) p a t h = has_bytes Few (wire_of_node (head_at slots) (node.Async b)) p a h
  node_bytes (node.Variable v b) p a t h = has_bytes Few (wire_of_node (head_at slots) (node.Variable v b)) p a h

  part_bytes : (r : Ref TypeId) (p : Datum) (a : List ℕ) → Part r p a → Bytes (head r) p a
  part_bytes (Of t) p a h = node_bytes (head_at slots t) p a h.0 h.1
  part_bytes (Just s) p a h = inr (λ q i. i)

  node_parts : (n : Node TypeId) (p : Datum) (a : List ℕ) → IsPartOf n p → IsSpelledBy padded Few (head_at slots) n p a → (q : Ref TypeId) → Has (record_parts (wire_of_node (head_at slots) n)) q → Has (wire_inside (wire_of_node (head_at slots) n) p) q
  node_parts (node.Tuple ts) p a t h q i = has_parts Few (wire_of_node (head_at slots) (node.Tuple ts)) p a h q i
  node_parts (node.Object fs) p a t h q i = has_parts Few (wire_of_node (head_at slots) (node.Object fs)) p a h q i
  node_parts (node.Func sort.Local ps rs) p a t h q i = absurd i
  node_parts (node.Func sort.Shared ps rs) p a t h q i = absurd i
  node_parts (node.Func sort.Query ps rs) p a t h q i = absurd i
  node_parts n p a t h q i = absurd i

  part_parts : (r : Ref TypeId) (p : Datum) (a : List ℕ) → Part r p a → (q : Ref TypeId) → Has (record_parts (head r)) q → Has (inside_ref (head_at slots) r p) q
  part_parts (Of t) p a h q i = node_parts (head_at slots t) p a h.0 h.1 q i
  part_parts (Just s) p a h q i = absurd i

  -- ---- values

  abbrev Formed : List (Ref TypeId) → Values → List ℕ → Type 0
  Formed rs v b = Forms padded Few (head_at slots) rs v b

  abbrev level : ℕ → Ref TypeId → Bool
  level n r = by_level is_ending (of_graph slots).head n r

  abbrev levels : ℕ
  levels = all_levels (of_graph slots)

  -- types that have values end
  value_level : (v : Values) (rs : List (Ref TypeId)) (b : List ℕ) (n : ℕ) → Formed rs v b → Within n v → (r : Ref TypeId) → Has rs r → level n r ≡ true
  value_level v [] b n h w r i = absurd i
  value_level Nil (s ∷ rs) b n h w r i = absurd h
  value_level (Value p inner others) (s ∷ rs) b zero h w r i = absurd w
  value_level (Value p inner others) (s ∷ rs) b (suc n) h w r (inl e) =
      subst (λ z. level (suc n) z ≡ true) e (true_all (level n) (record_parts (head s)) (λ q j. value_level inner (inside_ref (head_at slots) s p) h.second.front n h.second.first w.0 q (part_parts s p h.front h.first q j)))
  value_level (Value p inner others) (s ∷ rs) b (suc n) h w r (inr i) = value_level others rs h.second.back (suc n) h.second.second w.1 r i

  all_end : (v : Values) (rs : List (Ref TypeId)) (b : List ℕ) → Formed rs v b → (r : Ref TypeId) → Has rs r → level levels r ≡ true
  all_end v rs b h r i = ending_settled (of_graph slots) (graph_finite slots) (depth v) r (value_level v rs b (depth v) h (within_depth v) r i)

  pieces : (x y z b c : List ℕ) → b ≡ x ++ c → c ≡ y ++ z → length b ≡ length x + (length y + length z)
  pieces x y z b c e f = ap length e ∙ length-append x c ∙ ap (λ n. length x + n) (ap length f ∙ length-append y z)

  -- where the values inside and the others are not too deep
  module _ (r : Ref TypeId) (p : Datum) (inner others : Values) (n x y z b : ℕ) (size : b ≡ x + (y + z)) where
    rest_within : Within (suc n + budget levels z) others → Within (suc n + budget levels b) others
    rest_within k = let m = budget_less levels z b (omega (arith, size)) in deeper others (suc n + budget levels z) (suc n + budget levels b) (omega (arith, m)) k

    value_within : Within (n + budget levels b) inner → Within (suc n + budget levels b) others → Within (suc n + budget levels b) (Value p inner others)
    value_within i o = at (suc n + budget levels b) refl where
      at : (k : ℕ) → suc n + budget levels b ≡ k → Within k (Value p inner others)
      at zero f = absurd (omega (arith, f))
      at (suc k) f = (deeper inner (n + budget levels b) k (omega (arith, f)) i, subst (λ m. Within m others) f o)

    inner_fed : 1 ≤ x → Within (levels + budget levels y) inner → Within (n + budget levels b) inner
    inner_fed some i = let m = budget_more levels y b (omega (arith, size, some)) in deeper inner (levels + budget levels y) (n + budget levels b) (omega (arith, m)) i

    inner_part : Within (n + budget levels y) inner → Within (n + budget levels b) inner
    inner_part i = let m = budget_less levels y b (omega (arith, size)) in deeper inner (n + budget levels y) (n + budget levels b) (omega (arith, m)) i

  bounded : (v : Values) (rs : List (Ref TypeId)) (b : List ℕ) (n : ℕ) → n ≤ levels → Formed rs v b → ((r : Ref TypeId) → Has rs r → level n r ≡ true) → Within (n + budget levels (length b)) v
  bounded Nil rs b n l h e = tt
  bounded (Value p inner others) [] b n l h e = absurd h
  bounded (Value p inner others) (r ∷ rs) b zero l h e = absurd (let f : false ≡ true = e r (inl refl) in cc)
  bounded (Value p inner others) (r ∷ rs) b (suc n) l h e =
      let x = length h.front in
      let y = length h.second.front in
      let z = length h.second.back in
      let size = pieces h.front h.second.front h.second.back b h.back h.whole h.second.whole in
      let us = inside_ref (head_at slots) r p in
      value_within r p inner others n x y z (length b) size
      (elim (part_bytes r p h.front h.first) [
        | inl some ↦ inner_fed r p inner others n x y z (length b) size some (bounded inner us h.second.front levels (omega arith) h.second.first (all_end inner us h.second.front h.second.first))
        | inr parts ↦ inner_part r p inner others n x y z (length b) size (bounded inner us h.second.front n (omega (arith, l)) h.second.first (λ q j. all_true (level n) (record_parts (head r)) (e r (inl refl)) q (parts q j)))
      ])
      (rest_within r p inner others n x y z (length b) size (bounded others rs h.second.back (suc n) l h.second.second (λ q i. e q (inr i))))

  pub deepest : (v : Values) (rs : List (Ref TypeId)) (b : List ℕ) → Formed rs v b → Within (most_depth slots (length b)) v
  deepest v rs b h = bounded v rs b levels (omega arith) h (all_end v rs b h)
