-- Heads with other references.
use Rattle.std.proofs.Common.{◌≡◌, List, [], ◌∷◌, map, refl, sym, ap, ◌∙◌}
use Rattle.mo_types.specs.declared.wire.Entry.{Entry}
use Rattle.mo_types.specs.declared.wire.Method.{Method}
use Rattle.mo_types.specs.declared.wire.Wire.{Wire}
use Rattle.mo_types.specs.declared.wire.Wire.TheVariants.{Simple, Opt, Vec, Record, Variant, Func, Service}
use Rattle.mo_types.specs.Wire.{map_entry, map_method, map_wire}

module _ {A B C : Type 0} (f : A → B) (g : B → C) where
  abbrev both : A → C
  both a = g (f a)

  refs_twice : (rs : List A) → map both rs ≡ map g (map f rs)
  refs_twice [] = refl
  refs_twice (r ∷ rs) = ap (λ (l : List C). g (f r) ∷ l) (refs_twice rs)

  entries_twice : (es : List (Entry A)) → map (map_entry both) es ≡ map (map_entry g) (map (map_entry f) es)
  entries_twice [] = refl
  entries_twice (e ∷ es) = ap (λ (l : List (Entry C)). map_entry both e ∷ l) (entries_twice es)

  methods_twice : (ms : List (Method A)) → map (map_method both) ms ≡ map (map_method g) (map (map_method f) ms)
  methods_twice [] = refl
  methods_twice (m ∷ ms) = ap (λ (l : List (Method C)). map_method both m ∷ l) (methods_twice ms)

  pub wire_twice : (w : Wire A) → map_wire both w ≡ map_wire g (map_wire f w)
  wire_twice (Simple p) = refl
  wire_twice (Opt a) = refl
  wire_twice (Vec a) = refl
  wire_twice (Record es) = ap (λ (l : List (Entry C)). Record l) (entries_twice es)
  wire_twice (Variant es) = ap (λ (l : List (Entry C)). Variant l) (entries_twice es)
  wire_twice (Func ps rs ns) = ap (λ (l : List C). Func l (map both rs) ns) (refs_twice ps) ∙ ap (λ (l : List C). Func (map g (map f ps)) l ns) (refs_twice rs)
  wire_twice (Service ms) = ap (λ (l : List (Method C)). Service l) (methods_twice ms)

module _ {A : Type 0} where
  abbrev pub self : A → A
  self a = a

  refs_same : (rs : List A) → map self rs ≡ rs
  refs_same [] = refl
  refs_same (r ∷ rs) = ap (λ (l : List A). r ∷ l) (refs_same rs)

  entries_same : (es : List (Entry A)) → map (map_entry self) es ≡ es
  entries_same [] = refl
  entries_same (e ∷ es) = ap (λ (l : List (Entry A)). e ∷ l) (entries_same es)

  methods_same : (ms : List (Method A)) → map (map_method self) ms ≡ ms
  methods_same [] = refl
  methods_same (m ∷ ms) = ap (λ (l : List (Method A)). m ∷ l) (methods_same ms)

  pub wire_same : (w : Wire A) → w ≡ map_wire self w
  wire_same (Simple p) = refl
  wire_same (Opt a) = refl
  wire_same (Vec a) = refl
  wire_same (Record es) = ap (λ (l : List (Entry A)). Record l) (sym (entries_same es))
  wire_same (Variant es) = ap (λ (l : List (Entry A)). Variant l) (sym (entries_same es))
  wire_same (Func ps rs ns) = ap (λ (l : List A). Func l rs ns) (sym (refs_same ps)) ∙ ap (λ (l : List A). Func (map self ps) l ns) (sym (refs_same rs))
  wire_same (Service ms) = ap (λ (l : List (Method A)). Service l) (sym (methods_same ms))
