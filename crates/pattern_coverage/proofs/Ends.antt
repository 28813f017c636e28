-- Bounds come to an end within as many steps as there are types.
use Rattle.std.proofs.Common.{◌≡◌, ◌⊎◌, inl, inr, ℕ, zero, suc, ◌+◌, ◌-◌, ◌<◌, ◌≤◌, List, [], ◌∷◌, length, Bool, true, false, arith, Some, None, refl, sym, ap, ◌∙◌, subst, slice_get}
use Rattle.std.specs.List.{IsDistinct, list_any, AllByRecursion}
use Rattle.std.specs.Prelude.{◌||◌}
use Rattle.std.proofs.Math.Dec.{eqb}
use Rattle.std.proofs.lemmas.Bool.{ne_eqb, eqb-true}
use Rattle.std.proofs.lemmas.Map.Steps.{length-le_from_distinct_below}
use Rattle.std.proofs.lemmas.Option.{slice_get_past}
use Rattle.mo_types.specs.declared.node.Node.{Node}
use Rattle.mo_types.specs.declared.node.Node.TheVariants as node
use Rattle.mo_types.specs.declared.node.TypeId.{TypeId}
use Rattle.mo_types.specs.Graph.{Slot, node_of_slot, node_or_bottom, head_at}
use Rattle.mo_types.specs.Heads.{variable_of}
use Rattle.mo_types.specs.Sub.{Each, IsSomething}
use Rattle.typed_tree.specs.Types.{AreLawful}
use Rattle.pattern_coverage.specs.Followed.{along, followed, end_of, value_head}
use Rattle.pattern_coverage.specs.Inhabited.{type_at}
use Rattle.pattern_coverage.specs.Suited.{IsNoParameter}
use Rattle.pattern_coverage.proofs.Seen.{no}

same_parameter : (v w : ℕ) (b c : TypeId) → node.Variable v b ≡ node.Variable w c → v ≡ w
same_parameter v w b c e = cc

module _ (types : List Slot) where
  past_head : (t : TypeId) → length types ≤ t.index → head_at types t ≡ node.Bottom
  past_head t l = ap (λ o. node_or_bottom (node_of_slot o)) (slice_get_past types t.index l)

  -- nothing is followed from where nothing stands
  stays : (n : ℕ) (t : TypeId) → head_at types t ≡ node.Bottom → followed types n t ≡ t
  stays zero t e = refl
  stays (suc n) t e = ap (λ x. along (followed types n) t x) e

  pub past : (t : TypeId) → length types ≤ t.index → value_head types t ≡ node.Bottom
  past t l = ap (λ u. head_at types u) (stays (length types) t (past_head t l)) ∙ past_head t l

  -- ---- bounds followed one by one

  idle : (n : ℕ) (t : TypeId) (x : Node TypeId) → head_at types t ≡ x → IsNoParameter x → followed types n t ≡ t
  idle zero t x e k = refl
  idle (suc n) t x e k = ap (λ y. along (followed types n) t y) e ∙ by x k
    where
      by : (x : Node TypeId) → IsNoParameter x → along (followed types n) t x ≡ t
      by (node.Variable v b) k = absurd k
      by x k = refl

  rest : (n : ℕ) (t : TypeId) → followed types (suc n) t ≡ followed types n (along (λ b. b) t (head_at types t))
  rest n t = by (head_at types t) refl
    where
      by : (x : Node TypeId) → head_at types t ≡ x → along (followed types n) t x ≡ followed types n (along (λ b. b) t x)
      by (node.Variable v b) e = refl
      by x e = sym (idle n t x e tt)

  pub one_further : (n c : ℕ) (t : TypeId) → c < n → followed types (n - c) t ≡ followed types (n - (c + 1)) (along (λ b. b) t (head_at types t))
  one_further n c t l = let e : n - c ≡ suc (n - (c + 1)) = omega (arith, l) in ap (λ m. followed types m t) e ∙ rest (n - (c + 1)) t

  pub stopped : (n : ℕ) (t : TypeId) → along (λ b. b) t (head_at types t) ≡ t → followed types n t ≡ t
  stopped zero t h = refl
  stopped (suc n) t h = rest n t ∙ ap (followed types n) h ∙ stopped n t h

  -- ---- the type parameters on the way

  abbrev on_way : (TypeId → List ℕ) → TypeId → Node TypeId → List ℕ
  on_way f t (node.Variable v b) = t.index ∷ f b
  on_way f t _ = []

  abbrev way : ℕ → TypeId → List ℕ
  way zero t = []
  way (suc n) t = on_way (way n) t (head_at types t)

  long : (n : ℕ) (t b : TypeId) (v : ℕ) → head_at types (followed types n t) ≡ node.Variable v b → length (way (suc n) t) ≡ suc n
  long zero t b v e = ap (λ x. length (on_way (λ u. []) t x)) e
  long (suc n) t b v e = by (head_at types t) refl e (λ c r. long n c b v r)
    where
      other : (x : Node TypeId) → head_at types t ≡ x → variable_of x ≡ None → head_at types t ≡ node.Variable v b → ⊥
      other x q o r = subst IsSomething (sym (ap variable_of r) ∙ ap variable_of q ∙ o) tt

      by : (x : Node TypeId) → head_at types t ≡ x → head_at types (along (followed types n) t x) ≡ node.Variable v b
          → ((c : TypeId) → head_at types (followed types n c) ≡ node.Variable v b → length (way (suc n) c) ≡ suc n) → length (on_way (way (suc n)) t x) ≡ suc (suc n)
      by (node.Variable w c) q r k = ap suc (k c r)
      by x q r k = absurd (other x q refl r)

  less_or : (j r : ℕ) → (j < r) ⊎ (r ≤ j)
  less_or j zero = inr (omega arith)
  less_or zero (suc r) = inl (omega arith)
  less_or (suc j) (suc r) = by (less_or j r)
    where
      by : (j < r) ⊎ (r ≤ j) → (suc j < suc r) ⊎ (suc r ≤ suc j)
      by (inl h) = inl (omega (arith, h))
      by (inr h) = inr (omega (arith, h))

  module _ (lawful : AreLawful types) where
    -- the type of the number is a type parameter of a rank below r
    abbrev IsLower : ℕ → ℕ → Type 0
    IsLower r x = (w : ℕ) × (c : TypeId) × (head_at types (type_at x) ≡ node.Variable w c) × (lawful.rank w < r)

    weaker : (r s : ℕ) (xs : List ℕ) → r < s → Each (IsLower r) xs → Each (IsLower s) xs
    weaker r s [] l h = tt
    weaker r s (x ∷ xs) l h = let a = h.0.3 in ((h.0.0, h.0.1, h.0.2, omega (arith, a, l)), weaker r s xs l h.1)

    lower : (n : ℕ) (t b : TypeId) (v : ℕ) → head_at types t ≡ node.Variable v b → Each (IsLower (lawful.rank v)) (way n b)
    lower zero t b v e = tt
    lower (suc n) t b v e = by (head_at types b) refl (λ c w q. lower n b c w q)
      where
        by : (x : Node TypeId) → head_at types b ≡ x → ((c : TypeId) (w : ℕ) → head_at types b ≡ node.Variable w c → Each (IsLower (lawful.rank w)) (way n c)) → Each (IsLower (lawful.rank v)) (on_way (way n) b x)
        by (node.Variable w c) q k = ((w, c, q, lawful.bounds_end t b c v w e q), weaker (lawful.rank w) (lawful.rank v) (way n c) (lawful.bounds_end t b c v w e q) (k c w q))
        by x q k = tt

    -- none of lower rank is the same
    apart : (t b : TypeId) (v : ℕ) (xs : List ℕ) → head_at types t ≡ node.Variable v b → Each (IsLower (lawful.rank v)) xs → AllByRecursion (λ x. eqb t.index x ≡ false) xs
    apart t b v [] e h = tt
    apart t b v (x ∷ xs) e h = (ne_eqb t.index x differ, apart t b v xs e h.1)
      where
        differ : t.index ≡ x → ⊥
        differ s =
            let q : v ≡ h.0.0 = same_parameter v h.0.0 b h.0.1 (sym e ∙ ap (λ i. head_at types (type_at i)) s ∙ h.0.2) in
            let l : lawful.rank h.0.0 < lawful.rank v = h.0.3 in
            let r : lawful.rank v ≡ lawful.rank h.0.0 = ap lawful.rank q in
            absurd (omega (arith, l, r))

    distinct : (n : ℕ) (t : TypeId) → IsDistinct eqb (way n t)
    unfolding IsDistinct
    distinct zero t = tt
    distinct (suc n) t = by (head_at types t) refl (λ b. distinct n b)
      where
        by : (x : Node TypeId) → head_at types t ≡ x → ((b : TypeId) → IsDistinct eqb (way n b)) → IsDistinct eqb (on_way (way n) t x)
        by (node.Variable v b) q k = (apart t b v (way n b) q (lower n t b v q), k b)
        by x q k = tt

    -- what stands on the way is in the graph
    there : (n : ℕ) (t : TypeId) (x : ℕ) → list_any (eqb x) (way n t) ≡ true → x < length types
    there zero t x e = absurd (no e)
    there (suc n) t x e = by (head_at types t) refl e (λ b r. there n b x r)
      where
        here : (v : ℕ) (b : TypeId) → head_at types t ≡ node.Variable v b → (t.index < length types) ⊎ (length types ≤ t.index) → t.index < length types
        here v b q (inl l) = l
        here v b q (inr l) = absurd (subst IsSomething (sym (ap variable_of q) ∙ ap variable_of (past_head t l)) tt)

        first : (v : ℕ) (b : TypeId) → head_at types t ≡ node.Variable v b → (c : Bool) → eqb x t.index ≡ c → (c || list_any (eqb x) (way n b)) ≡ true → (list_any (eqb x) (way n b) ≡ true → x < length types) → x < length types
        first v b q true s r k = subst (λ i. i < length types) (sym (eqb-true x t.index s)) (here v b q (less_or t.index (length types)))
        first v b q false s r k = k r

        by : (y : Node TypeId) → head_at types t ≡ y → list_any (eqb x) (on_way (way n) t y) ≡ true → ((b : TypeId) → list_any (eqb x) (way n b) ≡ true → x < length types) → x < length types
        by (node.Variable v b) q r k = first v b q (eqb x t.index) refl r (k b)
        by y q r k = absurd (no r)

    pub ends : (t : TypeId) → IsNoParameter (value_head types t)
    ends t = by (value_head types t) refl
      where
        by : (x : Node TypeId) → value_head types t ≡ x → IsNoParameter x
        by (node.Variable v b) q =
            let l : length (way (suc (length types)) t) ≡ suc (length types) = long (length types) t b v q in
            let m : length (way (suc (length types)) t) ≤ length types = length-le_from_distinct_below (way (suc (length types)) t) (length types) (distinct (suc (length types)) t) (there (suc (length types)) t) in
            absurd (omega (arith, l, m))
        by x q = tt
