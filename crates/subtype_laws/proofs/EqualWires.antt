-- Equal types have equal Candid types.
use Rattle.std.proofs.Common.{◌≡◌, inl, inr, ℕ, zero, suc, ◌+◌, Bool, true, false, true≢false, List, [], ◌∷◌, map, nat_lt, refl, sym, ap, subst, if◌then◌else◌}
use Rattle.mo_types.specs.declared.node.Node.{Node}
use Rattle.mo_types.specs.declared.node.Node.TheVariants as node
use Rattle.mo_types.specs.declared.node.Field.{Field}
use Rattle.mo_types.specs.declared.node.Sort.{Sort}
use Rattle.mo_types.specs.declared.node.Sort.TheVariants as sorts
use Rattle.mo_types.specs.declared.wire.Plain.{Plain}
use Rattle.mo_types.specs.declared.wire.Plain.TheVariants as plain
use Rattle.mo_types.specs.declared.wire.Ref.{Ref}
use Rattle.mo_types.specs.declared.wire.Ref.TheVariants.{Of, Just}
use Rattle.mo_types.specs.Label.{label_id}
use Rattle.mo_types.specs.Sub.{Each}
use Rattle.mo_types.specs.Values.{by_label}
use Rattle.mo_types.specs.Wire.{name_before, by_name, refs, numbered, entry_of, method_of, payload_by, payload, tag_of, wire_of_node, wire, function, SameParts, SameEntries, SameMethods, SameHead, SameTo, SameWire}
use Rattle.subtype_laws.specs.Equal.{Distinct, AreTold, AreEqual, IsTold}
use Rattle.subtype_laws.specs.Reached.{Itself}
use Rattle.subtype_laws.proofs.Sorting.{PlaceByPlace, sort, sorted_lines}
use Rattle.subtype_laws.proofs.KeyOrders.{numbers, names, id_of, name_of, by_label_is, by_name_is}
use Rattle.subtype_laws.proofs.Matching.{Match, Matched}
use Rattle.subtype_laws.proofs.EqualHeads.{Hidden, Both, Alike}
use Rattle.subtype_laws.proofs.ToldHeads.{Told, told_alike, both_told}

-- ---- ()

abbrev pub is_unit : {A : Type 0} → Node A → Bool
is_unit (node.Tuple []) = true
is_unit _ = false

pub same_bools : (b c : Bool) → (b ≡ true → c ≡ true) → (c ≡ true → b ≡ true) → b ≡ c
same_bools true c f g = sym (f refl)
same_bools false true f g = g refl
same_bools false false f g = refl

module _ {A : Type 0} (S : A → A → Type 0) where
  no_parts : (us : List A) → SameParts (Both S) [] us → is_unit (node.Tuple us) ≡ true
  no_parts [] h = refl
  no_parts (u ∷ us) h = absurd h

  pub unit_to : (x y : Node A) → Alike S x y → is_unit x ≡ true → is_unit y ≡ true
  unit_to (node.Tuple []) y (us, e, s) h = subst (λ y. is_unit y ≡ true) (sym e) (no_parts us s)
  unit_to x y a h = absurd (true≢false (sym h))

  -- ---- labels

  pub label_lines : (fs gs : List (Field A)) → Distinct (map (λ f. label_id f.label) fs) → Distinct (map (λ f. label_id f.label) gs) → Matched S fs gs → PlaceByPlace (Match S) (by_label fs) (by_label gs)
  label_lines fs gs d e m =
      subst (λ l. PlaceByPlace (Match S) l (by_label gs)) (sym (by_label_is fs))
      (subst (λ l. PlaceByPlace (Match S) (sort id_of nat_lt fs) l) (sym (by_label_is gs))
      (sorted_lines id_of nat_lt numbers (Match S) (λ f g m. ap label_id m.0) fs gs d e m.0 m.1))

  pub name_lines : (fs gs : List (Field A)) → Distinct (map (λ f. f.label) fs) → Distinct (map (λ f. f.label) gs) → Matched S fs gs → PlaceByPlace (Match S) (sort name_of name_before fs) (sort name_of name_before gs)
  name_lines fs gs d e m = sorted_lines name_of name_before names (Match S) (λ f g m. m.0) fs gs d e m.0 m.1

module _ {A : Type 0} (head : A → Node A) where
  pub same_unit : (a b : A) → Both (Told head) a b → is_unit (head a) ≡ is_unit (head b)
  same_unit a b e =
      same_bools (is_unit (head a)) (is_unit (head b)) (unit_to (Told head) (head a) (head b) (told_alike head a b e)) (unit_to (Told head) (head b) (head a) (told_alike head b a (e.1, e.0)))

  payload_is : (t : A) (x : Node A) → payload_by head t x ≡ (if is_unit x then Just plain.Null else Of t)
  payload_is t (node.Tuple []) = refl
  payload_is t x = refl

  -- ---- one head

  module _ (T : Ref A → Ref A → Type 0) (of : (a b : A) → Both (Told head) a b → T (Of a) (Of b)) (just : (p : Plain) → T (Just p) (Just p)) where
    payloads : (a b : A) → Both (Told head) a b → T (payload head a) (payload head b)
    payloads a b e =
        subst (λ r. T r (payload head b)) (sym (payload_is a (head a)))
        (subst (λ r. T (if is_unit (head a) then Just plain.Null else Of a) r) (sym (payload_is b (head b))) (by (is_unit (head a)) (is_unit (head b)) (same_unit a b e))) where
          by : (v w : Bool) → v ≡ w → T (if v then Just plain.Null else Of a) (if w then Just plain.Null else Of b)
          by true true h = just plain.Null
          by false false h = of a b e
          by true false h = cc
          by false true h = cc

    parts : (ts us : List A) → SameParts (Both (Told head)) ts us → SameParts T (refs ts) (refs us)
    parts [] [] h = tt
    parts [] (u ∷ us) h = absurd h
    parts (t ∷ ts) [] h = absurd h
    parts (t ∷ ts) (u ∷ us) h = (of t u h.0, parts ts us h.1)

    places : (n : ℕ) (ts us : List A) → SameParts (Both (Told head)) ts us → SameEntries T (numbered n ts) (numbered n us)
    places n [] [] h = tt
    places n [] (u ∷ us) h = absurd h
    places n (t ∷ ts) [] h = absurd h
    places n (t ∷ ts) (u ∷ us) h = (refl, of t u h.0, places (n + 1) ts us h.1)

    entries : (fs gs : List (Field A)) → PlaceByPlace (Match (Told head)) fs gs → SameEntries T (map entry_of fs) (map entry_of gs)
    entries [] [] h = tt
    entries [] (g ∷ gs) h = absurd h
    entries (f ∷ fs) [] h = absurd h
    entries (f ∷ fs) (g ∷ gs) h = (ap label_id h.0.0, of f.part g.part (h.0.1, h.0.2), entries fs gs h.1)

    tags : (fs gs : List (Field A)) → PlaceByPlace (Match (Told head)) fs gs → SameEntries T (map (tag_of head) fs) (map (tag_of head) gs)
    tags [] [] h = tt
    tags [] (g ∷ gs) h = absurd h
    tags (f ∷ fs) [] h = absurd h
    tags (f ∷ fs) (g ∷ gs) h = (ap label_id h.0.0, payloads f.part g.part (h.0.1, h.0.2), tags fs gs h.1)

    methods : (fs gs : List (Field A)) → PlaceByPlace (Match (Told head)) fs gs → SameMethods T (map method_of fs) (map method_of gs)
    methods [] [] h = tt
    methods [] (g ∷ gs) h = absurd h
    methods (f ∷ fs) [] h = absurd h
    methods (f ∷ fs) (g ∷ gs) h = (h.0.0, of f.part g.part (h.0.1, h.0.2), methods fs gs h.1)

    services : (fs gs : List (Field A)) → PlaceByPlace (Match (Told head)) (sort name_of name_before fs) (sort name_of name_before gs) → SameMethods T (by_name (map method_of fs)) (by_name (map method_of gs))
    services fs gs h =
        subst (λ l. SameMethods T l (by_name (map method_of gs))) (sym (by_name_is fs))
        (subst (λ l. SameMethods T (map method_of (sort name_of name_before fs)) l) (sym (by_name_is gs))
        (methods (sort name_of name_before fs) (sort name_of name_before gs) h))

    functions : (k : Sort) (ps rs qs ss : List A) → SameParts (Both (Told head)) ps qs → SameParts (Both (Told head)) rs ss → SameHead T (function k (refs ps) (refs rs)) (function k (refs qs) (refs ss))
    functions sorts.Local ps rs qs ss p r = refl
    functions sorts.Shared ps rs qs ss p r = (parts ps qs p, parts rs ss r, refl)
    functions sorts.Query ps rs qs ss p r = (parts ps qs p, parts rs ss r, refl)

    abbrev To : Node A → Node A → Type 0
    To x y = SameHead T (wire_of_node head x) (wire_of_node head y)

    hidden : (x y : Node A) → To x node.Bottom → ((v : ℕ) (b : A) → To x (node.Variable v b)) → Hidden y → To x y
    hidden x y f g (inl e) = subst (To x) (sym e) f
    hidden x y f g (inr (v, b, e)) = subst (To x) (sym e) (g v b)

    wires : (x y : Node A) → AreTold x → Alike (Told head) x y → To x y
    wires (node.Number k) y d e = subst (To (node.Number k)) (sym e) refl
    wires node.Bool y d e = subst (To node.Bool) (sym e) refl
    wires node.Char y d e = subst (To node.Char) (sym e) refl
    wires node.Text y d e = subst (To node.Text) (sym e) refl
    wires node.Principal y d e = subst (To node.Principal) (sym e) refl
    wires node.Error y d e = subst (To node.Error) (sym e) refl
    wires node.Null y d e = subst (To node.Null) (sym e) refl
    wires node.Any y d e = subst (To node.Any) (sym e) refl
    wires node.Blob y d e = subst (To node.Blob) (sym e) (just plain.Nat8)
    wires node.Bottom y d h = hidden node.Bottom y refl (λ v b. refl) h
    wires (node.Variable v b) y d h = hidden (node.Variable v b) y refl (λ v b. refl) h
    wires (node.Opt a) y d (b, e, r) = subst (To (node.Opt a)) (sym e) (of a b r)
    wires (node.Array a) y d (b, e, r) = subst (To (node.Array a)) (sym e) (of a b r)
    wires (node.MutArray a) y d (b, e) = subst (To (node.MutArray a)) (sym e) refl
    wires (node.Async a) y d (b, e) = subst (To (node.Async a)) (sym e) refl
    wires (node.Tuple ts) y d (us, e, s) = subst (To (node.Tuple ts)) (sym e) (places 0 ts us s)
    wires (node.Object fs) y d (gs, e, f, m) = subst (To (node.Object fs)) (sym e) (entries (by_label fs) (by_label gs) (label_lines (Told head) fs gs d f m))
    wires (node.Variant fs) y d (gs, e, f, m) = subst (To (node.Variant fs)) (sym e) (tags (by_label fs) (by_label gs) (label_lines (Told head) fs gs d f m))
    wires (node.Actor fs) y d (gs, e, f, m) = subst (To (node.Actor fs)) (sym e) (services fs gs (name_lines (Told head) fs gs d f m))
    wires (node.Func k ps rs) y d (qs, ss, e, p, r) = subst (To (node.Func k ps rs)) (sym e) (functions k ps rs qs ss p r)

  -- ---- all depths

  just_to : (n : ℕ) (p : Plain) → SameTo (wire head) (wire head) n (Just p) (Just p)
  unfolding SameTo
  just_to zero p = tt
  just_to (suc n) p = refl

  same_to : (n : ℕ) (t u : A) → Both (Told head) t u → SameTo (wire head) (wire head) n (Of t) (Of u)
  unfolding SameTo
  same_to zero t u e = tt
  same_to (suc n) t u e = wires (SameTo (wire head) (wire head) n) (same_to n) (just_to n) (head t) (head u) (e.0.1 t Itself) (told_alike head t u e)

  told_wires : (ts us : List A) → SameParts (Both (Told head)) ts us → SameParts (SameWire (wire head) (wire head)) (refs ts) (refs us)
  told_wires [] [] h = tt
  told_wires [] (u ∷ us) h = absurd h
  told_wires (t ∷ ts) [] h = absurd h
  told_wires (t ∷ ts) (u ∷ us) h = (record { to = λ n. same_to n t u h.0 }, told_wires ts us h.1)

  pub same_wires : (ts us : List A) → SameParts (AreEqual head) ts us → Each (IsTold head) ts → Each (IsTold head) us → SameParts (SameWire (wire head) (wire head)) (refs ts) (refs us)
  same_wires ts us s p q = told_wires ts us (both_told head ts us s p q)
