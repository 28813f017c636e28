-- The heads of types of a graph, with the terms of the types that stand there.
use Rattle.std.proofs.Common.{◌≡◌, ◌∙◌, ℕ, zero, suc, ◌<◌, ◌≤◌, List, [], ◌∷◌, ◌++◌, length, map, slice_get, take, Option, Some, None, IfSome, option_map, refl, sym, ap, subst, arith}
use Rattle.mo_types.specs.declared.node.Node.{Node}
use Rattle.mo_types.specs.declared.node.Node.TheVariants as node
use Rattle.mo_types.specs.declared.node.TypeId.{TypeId}
use Rattle.mo_types.specs.Heads.{number_of, opt_of, tuple_of}
use Rattle.mo_types.specs.Sub.{Each}
use Rattle.mo_subtype.specs.Renamed.{on_node}
use Rattle.typed_tree.specs.Instances.{types_in}
use Rattle.type_terms.specs.declared.form.Form.{Form}
use Rattle.type_terms.specs.declared.form.TermId.{TermId}
use Rattle.typing_rules.specs.Terms.{Term}
use Rattle.typing_rules.specs.Graphs.{term_of, or_none}
use Rattle.typing_rules.specs.Literals.{blob_of}
use Rattle.type_definitions.specs.Meanings.{term}
use Rattle.met_types.specs.Closing.{terms_in}
use Rattle.met_types.specs.States.{State, IsReached, IsNodeOf}
use Rattle.judging.specs.Heads.{HeadHas, PartsFound, blob_at, part_in}

module _ {A B : Type 0} (f : A → B) where
  pub record Mapped (y : Node A) : Type 0 where
    pub number : number_of (on_node f y) ≡ number_of y
    pub blob : blob_at (on_node f y) ≡ blob_at y
    pub option : opt_of (on_node f y) ≡ option_map f (opt_of y)
    pub tuple : tuple_of (on_node f y) ≡ option_map (map f) (tuple_of y)

  pub mapped : (y : Node A) → Mapped y
  mapped (node.Number k) = record { number = refl; blob = refl; option = refl; tuple = refl }
  mapped node.Bool = record { number = refl; blob = refl; option = refl; tuple = refl }
  mapped node.Char = record { number = refl; blob = refl; option = refl; tuple = refl }
  mapped node.Text = record { number = refl; blob = refl; option = refl; tuple = refl }
  mapped node.Blob = record { number = refl; blob = refl; option = refl; tuple = refl }
  mapped node.Principal = record { number = refl; blob = refl; option = refl; tuple = refl }
  mapped node.Error = record { number = refl; blob = refl; option = refl; tuple = refl }
  mapped node.Null = record { number = refl; blob = refl; option = refl; tuple = refl }
  mapped node.Any = record { number = refl; blob = refl; option = refl; tuple = refl }
  mapped node.Bottom = record { number = refl; blob = refl; option = refl; tuple = refl }
  mapped (node.Opt a) = record { number = refl; blob = refl; option = refl; tuple = refl }
  mapped (node.Array a) = record { number = refl; blob = refl; option = refl; tuple = refl }
  mapped (node.MutArray a) = record { number = refl; blob = refl; option = refl; tuple = refl }
  mapped (node.Tuple ts) = record { number = refl; blob = refl; option = refl; tuple = refl }
  mapped (node.Object fs) = record { number = refl; blob = refl; option = refl; tuple = refl }
  mapped (node.Actor fs) = record { number = refl; blob = refl; option = refl; tuple = refl }
  mapped (node.Variant fs) = record { number = refl; blob = refl; option = refl; tuple = refl }
  mapped (node.Func s ps rs) = record { number = refl; blob = refl; option = refl; tuple = refl }
  mapped (node.Async a) = record { number = refl; blob = refl; option = refl; tuple = refl }
  mapped (node.Variable v b) = record { number = refl; blob = refl; option = refl; tuple = refl }

-- the term of a type of the graph
pub part_is : (s : State) (p : TypeId) (id : TermId) (later : List Form) → slice_get s.reached p.index ≡ Some id → term_of (terms_in later s.reached) p ≡ term later id
part_is s p id later e = ap or_none (mapped_get (term later) s.reached p.index id e) where
  mapped_get : {A B : Type 0} (f : A → B) (xs : List A) (i : ℕ) (x : A) → slice_get xs i ≡ Some x → slice_get (map f xs) i ≡ Some (f x)
  mapped_get f [] i x e = cc
  mapped_get {A} f (y ∷ xs) zero x e = let g : y ≡ x = cc in ap (λ (z : A). Some (f z)) g
  mapped_get f (y ∷ xs) (suc i) x e = mapped_get f xs i x e

pub parts_are : (s : State) (ps : List TypeId) (ids : List TermId) (later : List Form) → PartsFound s ps ids → map (term_of (terms_in later s.reached)) ps ≡ map (term later) ids
parts_are s [] [] later h = refl
parts_are s [] (id ∷ ids) later h = absurd h
parts_are s (p ∷ ps) [] later h = absurd h
parts_are s (p ∷ ps) (id ∷ ids) later h = ap (λ (u : Term). u ∷ map (term_of (terms_in later s.reached)) ps) (part_is s p id later h.0) ∙ ap (λ (us : List Term). term later id ∷ us) (parts_are s ps ids later h.1)

pub parts_reached : (s : State) (ps : List TypeId) (ids : List TermId) → PartsFound s ps ids → Each (IsReached s) ids
parts_reached s [] [] h = tt
parts_reached s [] (id ∷ ids) h = absurd h
parts_reached s (p ∷ ps) [] h = absurd h
parts_reached s (p ∷ ps) (id ∷ ids) h = ((p.index, h.0), parts_reached s ps ids h.1)

pub one_more_found : (s : State) (ps : List TypeId) (ids : List TermId) (p : TypeId) (id : TermId) → PartsFound s ps ids → slice_get s.reached p.index ≡ Some id → PartsFound s (ps ++ p ∷ []) (ids ++ id ∷ [])
one_more_found s [] [] p id h e = (e, tt)
one_more_found s [] (i ∷ ids) p id h e = absurd h
one_more_found s (q ∷ ps) [] p id h e = absurd h
one_more_found s (q ∷ ps) (i ∷ ids) p id h e = (h.0, one_more_found s ps ids p id h.1 e)

module _ (s : State) (id : TermId) (n : Node TypeId) (h : IsNodeOf s id n) where
  pub number_is : HeadHas number_of s id (λ later. number_of n)
  number_is later l = ap number_of (h.is later l) ∙ (mapped (term_of (terms_in later s.reached)) n).number

  pub blob_is : (o : Option (Unit {0})) → o ≡ blob_at n → HeadHas blob_of s id (λ later. o)
  blob_is o e later l = ap blob_of (h.is later l) ∙ ((mapped (term_of (terms_in later s.reached)) n).blob ∙ sym e)

  pub tuple_is : (o : Option (List TypeId)) → o ≡ tuple_of n → HeadHas tuple_of s id (λ later. option_map (map (term_of (terms_in later s.reached))) o)
  tuple_is o e later l = ap tuple_of (h.is later l) ∙ ((mapped (term_of (terms_in later s.reached)) n).tuple ∙ ap (option_map (map (term_of (terms_in later s.reached)))) (sym e))

  pub tuple_found : (ps : List TypeId) (ids : List TermId) → Some ps ≡ tuple_of n → PartsFound s ps ids → HeadHas tuple_of s id (λ later. Some (map (term later) ids))
  tuple_found ps ids e g later l = tuple_is (Some ps) e later l ∙ ap (λ (us : List Term). Some us) (parts_are s ps ids later g)

  pub no_tuple : None ≡ tuple_of n → HeadHas tuple_of s id (λ later. None)
  no_tuple e later l = tuple_is None e later l

pub tuple_within : (n : ℕ) (y : Node TypeId) (ps : List TypeId) → Some ps ≡ tuple_of y → Each (λ p. p.index < n) (types_in y) → Each (λ p. p.index < n) ps
tuple_within n (node.Tuple ts) ps e h = let z : ps ≡ ts = cc in subst (λ (qs : List TypeId). Each (λ p. p.index < n) qs) (sym z) h
tuple_within n _ ps e h = cc

-- ---- heads of one part

pub take_all : {A : Type 0} (xs : List A) (i : ℕ) → length xs ≤ i → take i xs ≡ xs
take_all [] zero h = refl
take_all [] (suc i) h = refl
take_all (x ∷ xs) zero h = absurd (omega arith)
take_all (x ∷ xs) (suc i) h = ap (λ ys. x ∷ ys) (take_all xs i (omega arith))

get_there : {A : Type 0} (xs : List A) (i : ℕ) → i < length xs → (x : A) × (slice_get xs i ≡ Some x)
get_there [] i h = absurd (omega arith)
get_there (x ∷ xs) zero h = (x, refl)
get_there (x ∷ xs) (suc i) h = get_there xs i (omega arith)

pub part_reached : (s : State) (q : Option TypeId) (o : Option TermId) → o ≡ part_in s q → IfSome o (IsReached s)
part_reached s q None e = tt
part_reached s None (Some id) e = cc
part_reached s (Some p) (Some id) e = (p.index, sym e)

-- which one part a head has
pub record OnePart (of : Node Term → Option Term) (at : Node TypeId → Option TypeId) : Type 0 where
  pub same : (f : TypeId → Term) (y : Node TypeId) → of (on_node f y) ≡ option_map f (at y)
  pub among : (n : ℕ) (y : Node TypeId) → Each (λ p. p.index < n) (types_in y) → IfSome (at y) (λ p. p.index < n)

pub one_part : (of : Node Term → Option Term) (at : Node TypeId → Option TypeId) → OnePart of at → (s : State) (id : TermId) (n : Node TypeId) → IsNodeOf s id n → (q : Option TypeId) (o : Option TermId) → q ≡ at n → o ≡ part_in s q
    → HeadHas of s id (λ later. option_map (term later) o)
one_part of at x s id n h q o e f later l =
    ap of (h.is later l) ∙ (x.same (term_of (terms_in later s.reached)) n
    ∙ (ap (option_map (term_of (terms_in later s.reached))) (sym e) ∙ (by q (subst (λ (r : Option TypeId). IfSome r (λ p. p.index < length s.reached)) (sym e) (x.among (length s.reached) n h.parts)) ∙ ap (option_map (term later)) (sym f))))
  where
    by : (q : Option TypeId) → IfSome q (λ p. p.index < length s.reached) → option_map (term_of (terms_in later s.reached)) q ≡ option_map (term later) (part_in s q)
    by None g = refl
    by (Some p) g =
        let y = get_there s.reached p.index g in
        ap (λ (u : Term). Some u) (part_is s p y.0 later y.1) ∙ ap (option_map (term later)) (sym y.1)

pub option_one : OnePart opt_of opt_of
option_one = record { same = λ f y. (mapped f y).option; among = among } where
  among : (n : ℕ) (y : Node TypeId) → Each (λ p. p.index < n) (types_in y) → IfSome (opt_of y) (λ p. p.index < n)
  among n (node.Opt a) h = h.0
  among n _ h = tt
