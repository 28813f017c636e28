-- The values of parts are those of the tree that they write.
use Rattle.std.proofs.Common.{◌≡◌, ℕ, suc, ◌+◌, ◌-◌, ◌<◌, ◌≤◌, List, [], ◌∷◌, ◌++◌, length, take, drop, get_or, refl, sym, ap, ap₂, ◌∙◌, arith, append_assoc}
use Rattle.std.proofs.Math.ListN.{drop_of_length-le}
use Rattle.std.proofs.Math.Seq.{drop-cons}
use Rattle.std.proofs.lemmas.List.{append-nil}
use Rattle.mo_types.specs.declared.datum.Datum.{Datum}
use Rattle.mo_types.specs.declared.node.Node.{Node}
use Rattle.mo_types.specs.declared.node.TypeId.{TypeId}
use Rattle.mo_types.specs.Values.{Values, Nil, Value, arity, flat, inside, HaveTypes}
use Rattle.mo_values.specs.Messages.{head_of, opened}
use Rattle.mo_values.specs.Shapes as shape
use Rattle.typed_tree.specs.Opening.{values_of}
use Rattle.mo_meaning.specs.Messages.{as_values}
use Rattle.mo_machine.specs.Values as machine
use Rattle.mo_machine.specs.Values.{gathered, load_all, load_list}
use Rattle.arena_reading.specs.Opening.{built, put_on, types_along}
use Rattle.kept_forms.proofs.Trees.{length_inside}

take_front : {A : Type 0} (xs ys : List A) → take (length xs) (xs ++ ys) ≡ xs
take_front [] ys = refl
take_front (x ∷ xs) ys = ap (λ l. x ∷ l) (take_front xs ys)

drop_front : {A : Type 0} (xs ys : List A) → drop (length xs) (xs ++ ys) ≡ ys
drop_front [] ys = refl
drop_front (x ∷ xs) ys = drop_front xs ys

module _ (head : TypeId → Node TypeId) where
  -- the values of a tree
  abbrev grown : List TypeId → Values → List machine.Value
  grown [] v = []
  grown (t ∷ ts) Nil = []
  grown (t ∷ ts) (Value p i o) = machine.Made (head_of (head t) p) (gathered (grown (inside (head t) p) i)) ∷ grown ts o

  length_grown : (ts : List TypeId) (v : Values) → HaveTypes head ts v → length (grown ts v) ≡ length ts
  length_grown [] Nil h = refl
  length_grown [] (Value p i o) h = absurd h
  length_grown (t ∷ ts) Nil h = absurd h
  length_grown (t ∷ ts) (Value p i o) h = ap suc (length_grown ts o h.2)

  put_front : (n : Node TypeId) (p : Datum) (xs ys : List machine.Value) → length xs ≡ arity p → put_on n p (xs ++ ys) ≡ machine.Made (head_of n p) (gathered xs) ∷ ys
  put_front n p xs ys many =
      ap (λ (k : ℕ). machine.Made (head_of n p) (gathered (take k (xs ++ ys))) ∷ drop k (xs ++ ys)) (sym many)
      ∙ ap₂ (λ (us vs : List machine.Value). machine.Made (head_of n p) (gathered us) ∷ vs) (take_front xs ys) (drop_front xs ys)

  along : List TypeId → List Datum → List machine.Value
  along ts ps = built head (types_along head ts ps) ps

  built_grown : (ts us : List TypeId) (v : Values) (ps : List Datum) → HaveTypes head ts v
      → built head (types_along head (ts ++ us) (flat v ++ ps)) (flat v ++ ps) ≡ grown ts v ++ built head (types_along head us ps) ps
  built_grown [] us Nil ps h = refl
  built_grown [] us (Value p i o) ps h = absurd h
  built_grown (t ∷ ts) us Nil ps h = absurd h
  built_grown (t ∷ ts) us (Value p i o) ps h =
      let inner : List TypeId = inside (head t) p in
      let behind : List machine.Value = grown ts o ++ built head (types_along head us ps) ps in
      let rest : built head (types_along head (inner ++ (ts ++ us)) ((flat i ++ flat o) ++ ps)) ((flat i ++ flat o) ++ ps) ≡ grown inner i ++ behind =
      ap (λ (l : List Datum). built head (types_along head (inner ++ (ts ++ us)) l) l) (append_assoc (flat i) (flat o) ps)
      ∙ built_grown inner (ts ++ us) i (flat o ++ ps) h.1
      ∙ ap (λ (l : List machine.Value). grown inner i ++ l) (built_grown ts us o ps h.2) in
      ap (put_on (head t) p) rest ∙ put_front (head t) p (grown inner i) behind (length_grown inner i h.1 ∙ length_inside (head t) p h.0)

  gathered_opened : (ts : List TypeId) (v : Values) → gathered (grown ts v) ≡ load_all (values_of (opened head ts v))
  gathered_opened [] v = refl
  gathered_opened (t ∷ ts) Nil = refl
  gathered_opened (t ∷ ts) (Value p i o) =
      ap₂ (λ (x y : machine.Values). machine.AValue (machine.Made (head_of (head t) p) x) y) (gathered_opened (inside (head t) p) i) (gathered_opened ts o)

  grown_opened : (ts : List TypeId) (v : Values) → grown ts v ≡ load_list (as_values (shape.listed (opened head ts v)))
  grown_opened [] v = refl
  grown_opened (t ∷ ts) Nil = refl
  grown_opened (t ∷ ts) (Value p i o) =
      ap₂ (λ (x : machine.Values) (l : List machine.Value). machine.Made (head_of (head t) p) x ∷ l) (gathered_opened (inside (head t) p) i) (grown_opened ts o)

  -- the values whose parts these are
  pub built_opened : (ts : List TypeId) (v : Values) → HaveTypes head ts v → built head (types_along head ts (flat v)) (flat v) ≡ load_list (as_values (shape.listed (opened head ts v)))
  built_opened ts v h =
      ap₂ (λ (us : List TypeId) (ps : List Datum). built head (types_along head us ps) ps) (sym (append-nil ts)) (sym (append-nil (flat v)))
      ∙ built_grown ts [] v [] h
      ∙ append-nil (grown ts v)
      ∙ grown_opened ts v

  -- ---- one part after the other

  no_types : (ps : List Datum) → built head [] ps ≡ []
  no_types [] = refl
  no_types (p ∷ ps) = refl

  pub no_parts : (ts : List TypeId) → [] ≡ built head ts []
  no_parts ts = refl

  module _ (ts : List TypeId) (ps : List Datum) (i : ℕ) (p : Datum) (there : drop i ps ≡ p ∷ drop (suc i) ps) where
    pub built_next : (d : TypeId) → i < length ts → built head (drop i ts) (drop i ps) ≡ put_on (head (get_or ts i d)) p (built head (drop (suc i) ts) (drop (suc i) ps))
    built_next d h = ap₂ (λ (us : List TypeId) (qs : List Datum). built head us qs) (drop-cons ts i d h) there

    pub built_none : length ts ≤ i → built head (drop i ts) (drop i ps) ≡ built head (drop (suc i) ts) (drop (suc i) ps)
    built_none h =
        ap₂ (λ (us : List TypeId) (qs : List Datum). built head us qs) (drop_of_length-le ts h) there
        ∙ sym (ap (λ (us : List TypeId). built head us (drop (suc i) ps)) (drop_of_length-le ts {i = suc i} (omega arith)) ∙ no_types (drop (suc i) ps))
