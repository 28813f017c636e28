-- Signatures are equal exactly where heads are, up to the classes of the parts.
use Rattle.std.proofs.Common.{◌≡◌, ℕ, suc, ◌+◌, List, [], ◌∷◌, ◌++◌, length, Some, refl, sym, ap, ◌∙◌, arith, length-append, append_assoc}
use Rattle.std.specs.List.{flat_map}
use Rattle.mo_types.specs.declared.wire.Plain.{Plain}
use Rattle.mo_types.specs.declared.wire.Plain.TheVariants as plain
use Rattle.mo_types.specs.declared.wire.Entry.{Entry}
use Rattle.mo_types.specs.declared.wire.Method.{Method}
use Rattle.mo_types.specs.declared.wire.Wire.{Wire}
use Rattle.mo_types.specs.declared.wire.Wire.TheVariants.{Simple, Opt, Vec, Record, Variant, Func, Service}
use Rattle.mo_types.specs.Wire.{plain_code, plain_of_code, SameParts, SameEntries, SameMethods, SameHead}
use Rattle.candid_write.specs.Classes.{class_at}
use Rattle.candid_write.specs.Signature.{class_list, entry_numbers, method_numbers, signature}

code_back : (p : Plain) → plain_of_code (plain_code p) ≡ Some p
code_back plain.Null = refl
code_back plain.Bool = refl
code_back plain.Nat = refl
code_back plain.Int = refl
code_back plain.Nat8 = refl
code_back plain.Nat16 = refl
code_back plain.Nat32 = refl
code_back plain.Nat64 = refl
code_back plain.Int8 = refl
code_back plain.Int16 = refl
code_back plain.Int32 = refl
code_back plain.Int64 = refl
code_back plain.Float32 = refl
code_back plain.Float64 = refl
code_back plain.Text = refl
code_back plain.Reserved = refl
code_back plain.Empty = refl
code_back plain.Principal = refl

pub one_code : (p q : Plain) → plain_code p ≡ plain_code q → p ≡ q
one_code p q h = let e : Some p ≡ Some q = sym (code_back p) ∙ ap plain_of_code h ∙ code_back q in cc

-- lists of one length in front of others
front_same : {X : Type 0} (as_ bs xs ys : List X) → length as_ ≡ length bs → as_ ++ xs ≡ bs ++ ys → as_ ≡ bs
front_same [] [] xs ys l h = refl
front_same [] (b ∷ bs) xs ys l h = absurd (omega arith)
front_same (a ∷ as_) [] xs ys l h = absurd (omega arith)
front_same (a ∷ as_) (b ∷ bs) xs ys l h =
    let t : as_ ++ xs ≡ bs ++ ys = cc in
    let e : a ≡ b = cc in
    ap (λ z. z ∷ as_) e ∙ ap (λ zs. b ∷ zs) (front_same as_ bs xs ys (omega arith) t)

back_same : {X : Type 0} (as_ bs xs ys : List X) → length as_ ≡ length bs → as_ ++ xs ≡ bs ++ ys → xs ≡ ys
back_same [] [] xs ys l h = h
back_same [] (b ∷ bs) xs ys l h = absurd (omega arith)
back_same (a ∷ as_) [] xs ys l h = absurd (omega arith)
back_same (a ∷ as_) (b ∷ bs) xs ys l h = let t : as_ ++ xs ≡ bs ++ ys = cc in back_same as_ bs xs ys (omega arith) t

module _ (classes : List ℕ) where
  abbrev pub OneClass : ℕ → ℕ → Type 0
  OneClass a b = class_at classes a ≡ class_at classes b

  list_length : (ps : List ℕ) → length (class_list classes ps) ≡ length ps
  list_length [] = refl
  list_length (p ∷ ps) = ap suc (list_length ps)

  parts_same : (ps qs : List ℕ) → class_list classes ps ≡ class_list classes qs → SameParts OneClass ps qs
  parts_same [] [] h = tt
  parts_same [] (q ∷ qs) h = cc
  parts_same (p ∷ ps) [] h = cc
  parts_same (p ∷ ps) (q ∷ qs) h = let t : class_list classes ps ≡ class_list classes qs = cc in let e : class_at classes p ≡ class_at classes q = cc in (e, parts_same ps qs t)

  same_parts : (ps qs : List ℕ) → SameParts OneClass ps qs → class_list classes ps ≡ class_list classes qs
  same_parts [] [] h = refl
  same_parts [] (q ∷ qs) h = absurd h
  same_parts (p ∷ ps) [] h = absurd h
  same_parts (p ∷ ps) (q ∷ qs) h = ap (λ c. c ∷ class_list classes ps) h.0 ∙ ap (λ l. class_at classes q ∷ l) (same_parts ps qs h.1)

  entries_same : (es fs : List (Entry ℕ)) → flat_map (entry_numbers classes) es ≡ flat_map (entry_numbers classes) fs → SameEntries OneClass es fs
  entries_same [] [] h = tt
  entries_same [] (f ∷ fs) h = cc
  entries_same (e ∷ es) [] h = cc
  entries_same (e ∷ es) (f ∷ fs) h =
      let i : e.id ≡ f.id = cc in
      let r : class_at classes e.part ∷ flat_map (entry_numbers classes) es ≡ class_at classes f.part ∷ flat_map (entry_numbers classes) fs = cc in
      let p : class_at classes e.part ≡ class_at classes f.part = cc in
      let t : flat_map (entry_numbers classes) es ≡ flat_map (entry_numbers classes) fs = cc in
      (i, p, entries_same es fs t)

  same_entries : (es fs : List (Entry ℕ)) → SameEntries OneClass es fs → flat_map (entry_numbers classes) es ≡ flat_map (entry_numbers classes) fs
  same_entries [] [] h = refl
  same_entries [] (f ∷ fs) h = absurd h
  same_entries (e ∷ es) [] h = absurd h
  same_entries (e ∷ es) (f ∷ fs) h =
      ap (λ i. i ∷ class_at classes e.part ∷ flat_map (entry_numbers classes) es) h.0 ∙ ap (λ c. f.id ∷ c ∷ flat_map (entry_numbers classes) es) h.1 ∙ ap (λ l. f.id ∷ class_at classes f.part ∷ l) (same_entries es fs h.2)

  methods_same : (ms ns : List (Method ℕ)) → flat_map (method_numbers classes) ms ≡ flat_map (method_numbers classes) ns → SameMethods OneClass ms ns
  methods_same [] [] h = tt
  methods_same [] (n ∷ ns) h = cc
  methods_same (m ∷ ms) [] h = cc
  methods_same (m ∷ ms) (n ∷ ns) h =
      let c : ℕ = class_at classes m.part in
      let d : ℕ = class_at classes n.part in
      let l : length m.name ≡ length n.name = cc in
      let t : (m.name ++ c ∷ []) ++ flat_map (method_numbers classes) ms ≡ (n.name ++ d ∷ []) ++ flat_map (method_numbers classes) ns = cc in
      let k : length (m.name ++ c ∷ []) ≡ length (n.name ++ d ∷ []) = length-append m.name (c ∷ []) ∙ ap (λ z. z + 1) l ∙ sym (length-append n.name (d ∷ [])) in
      let f : m.name ++ c ∷ [] ≡ n.name ++ d ∷ [] = front_same (m.name ++ c ∷ []) (n.name ++ d ∷ []) (flat_map (method_numbers classes) ms) (flat_map (method_numbers classes) ns) k t in
      let g : c ∷ [] ≡ d ∷ [] = back_same m.name n.name (c ∷ []) (d ∷ []) l f in
      let p : c ≡ d = cc in
      (front_same m.name n.name (c ∷ []) (d ∷ []) l f, p, methods_same ms ns (back_same (m.name ++ c ∷ []) (n.name ++ d ∷ []) (flat_map (method_numbers classes) ms) (flat_map (method_numbers classes) ns) k t))

  same_methods : (ms ns : List (Method ℕ)) → SameMethods OneClass ms ns → flat_map (method_numbers classes) ms ≡ flat_map (method_numbers classes) ns
  same_methods [] [] h = refl
  same_methods [] (n ∷ ns) h = absurd h
  same_methods (m ∷ ms) [] h = absurd h
  same_methods (m ∷ ms) (n ∷ ns) h =
      ap (λ s. ((length s ∷ s) ++ class_at classes m.part ∷ []) ++ flat_map (method_numbers classes) ms) h.0 ∙ ap (λ c. ((length n.name ∷ n.name) ++ c ∷ []) ++ flat_map (method_numbers classes) ms) h.1
      ∙ ap (λ l. ((length n.name ∷ n.name) ++ class_at classes n.part ∷ []) ++ l) (same_methods ms ns h.2)

  abbrev func_numbers : List ℕ → List ℕ → List ℕ → List ℕ
  func_numbers ps rs ns = ((5 ∷ length ps ∷ length rs ∷ []) ++ class_list classes ps) ++ class_list classes rs ++ ns

  func_same : (ps rs ns qs ss ms : List ℕ) → func_numbers ps rs ns ≡ func_numbers qs ss ms → SameHead OneClass (Func ps rs ns) (Func qs ss ms)
  func_same ps rs ns qs ss ms h =
      let lp : length ps ≡ length qs = cc in
      let lr : length rs ≡ length ss = cc in
      let t : (class_list classes ps ++ class_list classes rs) ++ ns ≡ (class_list classes qs ++ class_list classes ss) ++ ms = cc in
      let u : class_list classes ps ++ (class_list classes rs ++ ns) ≡ class_list classes qs ++ (class_list classes ss ++ ms) = sym (append_assoc (class_list classes ps) (class_list classes rs) ns) ∙ t ∙ append_assoc (class_list classes qs) (class_list classes ss) ms in
      let kp : length (class_list classes ps) ≡ length (class_list classes qs) = list_length ps ∙ lp ∙ sym (list_length qs) in
      let kr : length (class_list classes rs) ≡ length (class_list classes ss) = list_length rs ∙ lr ∙ sym (list_length ss) in
      let v : class_list classes rs ++ ns ≡ class_list classes ss ++ ms = back_same (class_list classes ps) (class_list classes qs) (class_list classes rs ++ ns) (class_list classes ss ++ ms) kp u in (
        parts_same ps qs (front_same (class_list classes ps) (class_list classes qs) (class_list classes rs ++ ns) (class_list classes ss ++ ms) kp u),
        parts_same rs ss (front_same (class_list classes rs) (class_list classes ss) ns ms kr v),
        back_same (class_list classes rs) (class_list classes ss) ns ms kr v,
      )

  parts_long : (ps qs : List ℕ) → SameParts OneClass ps qs → length ps ≡ length qs
  parts_long ps qs h = sym (list_length ps) ∙ ap length (same_parts ps qs h) ∙ list_length qs

  same_func : (ps rs ns qs ss ms : List ℕ) → SameHead OneClass (Func ps rs ns) (Func qs ss ms) → func_numbers ps rs ns ≡ func_numbers qs ss ms
  same_func ps rs ns qs ss ms h =
      ap (λ n. ((5 ∷ n ∷ length rs ∷ []) ++ class_list classes ps) ++ class_list classes rs ++ ns) (parts_long ps qs h.0) ∙ ap (λ n. ((5 ∷ length qs ∷ n ∷ []) ++ class_list classes ps) ++ class_list classes rs ++ ns) (parts_long rs ss h.1)
      ∙ ap (λ l. ((5 ∷ length qs ∷ length ss ∷ []) ++ l) ++ class_list classes rs ++ ns) (same_parts ps qs h.0) ∙ ap (λ l. ((5 ∷ length qs ∷ length ss ∷ []) ++ class_list classes qs) ++ l ++ ns) (same_parts rs ss h.1)
      ∙ ap (λ l. ((5 ∷ length qs ∷ length ss ∷ []) ++ class_list classes qs) ++ class_list classes ss ++ l) h.2

  pub signature_same : (w v : Wire ℕ) → signature classes w ≡ signature classes v → SameHead OneClass w v
  signature_same (Simple p) (Simple q) h = let e : plain_code p ≡ plain_code q = cc in one_code p q e
  signature_same (Opt a) (Opt b) h = let e : class_at classes a ≡ class_at classes b = cc in e
  signature_same (Vec a) (Vec b) h = let e : class_at classes a ≡ class_at classes b = cc in e
  signature_same (Record es) (Record fs) h = let e : flat_map (entry_numbers classes) es ≡ flat_map (entry_numbers classes) fs = cc in entries_same es fs e
  signature_same (Variant es) (Variant fs) h = let e : flat_map (entry_numbers classes) es ≡ flat_map (entry_numbers classes) fs = cc in entries_same es fs e
  signature_same (Func ps rs ns) (Func qs ss ms) h = func_same ps rs ns qs ss ms h
  signature_same (Service ms) (Service ns) h = let e : flat_map (method_numbers classes) ms ≡ flat_map (method_numbers classes) ns = cc in methods_same ms ns e
  signature_same w v h = cc

  pub same_signature : (w v : Wire ℕ) → SameHead OneClass w v → signature classes w ≡ signature classes v
  same_signature (Simple p) (Simple q) h = ap (λ z. 0 ∷ plain_code z ∷ []) h
  same_signature (Opt a) (Opt b) h = ap (λ c. 1 ∷ c ∷ []) h
  same_signature (Vec a) (Vec b) h = ap (λ c. 2 ∷ c ∷ []) h
  same_signature (Record es) (Record fs) h = ap (λ l. 3 ∷ l) (same_entries es fs h)
  same_signature (Variant es) (Variant fs) h = ap (λ l. 4 ∷ l) (same_entries es fs h)
  same_signature (Func ps rs ns) (Func qs ss ms) h = same_func ps rs ns qs ss ms h
  same_signature (Service ms) (Service ns) h = ap (λ l. 6 ∷ l) (same_methods ms ns h)
  same_signature w v h = absurd h
