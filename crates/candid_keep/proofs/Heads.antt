-- The table of a graph has its types.
use Rattle.std.proofs.Common.{◌≡◌, ℕ, zero, suc, ◌+◌, Bool, true, false, List, [], ◌∷◌, map, drop, Option, Some, None, Result, Ok, Err, refl, sym, ap, ◌∙◌, subst, arith}
use Rattle.std.specs.Prelude.{option_map, slice_get, IfOk}
use Rattle.std.proofs.lemmas.Option.{slice_get-map}
use Rattle.mo_num.specs.declared.memory.Memory.{Memory}
use Rattle.mo_types.specs.declared.node.Node.{Node}
use Rattle.mo_types.specs.declared.node.TypeId.{TypeId}
use Rattle.mo_types.specs.declared.wire.Ref.{Ref}
use Rattle.mo_types.specs.declared.wire.Ref.TheVariants.{Just, Of}
use Rattle.mo_types.specs.declared.wire.TableRef.{TableRef}
use Rattle.mo_types.specs.declared.wire.Wire.{Wire}
use Rattle.mo_types.specs.Code.{SameEach}
use Rattle.mo_types.specs.Graph.{Slot, head_at}
use Rattle.mo_types.specs.Header as header
use Rattle.mo_types.specs.Header.{table_head}
use Rattle.mo_types.specs.Wire.{map_wire, wire, SameWire}
use Rattle.candid_types.specs.Shapes.{or_empty, ref_of, shape_at, IsTableOf}
use Rattle.candid_types.proofs.Natural.{same_wire_from, same_wire_to}
use Rattle.candid_types.proofs.NumberLemmas.{ref_of_id}
use Rattle.candid_keep.specs.Refs.{entries_of, graph_ref, ref_in, table_ref, AreSame, IsTableBy}
use Rattle.candid_keep.proofs.Alike.{self, wire_same, wire_twice}

behind : {A : Type 0} (xs : List A) (n i : ℕ) → slice_get (drop n xs) i ≡ slice_get xs (n + i)
behind xs zero i = let same : i ≡ 0 + i = omega arith in ap (λ (k : ℕ). slice_get xs k) same
behind [] (suc n) i = refl
behind {A = A} (x ∷ xs) (suc n) i =
    let same : suc (n + i) ≡ suc n + i = omega arith in
    behind xs n i ∙ ap (λ (k : ℕ). slice_get {X = A} (x ∷ xs) k) same

module _ (slots : List Slot) (shapes : List (Wire ℕ)) (is : IsTableOf slots shapes) (table : List (Wire TableRef)) (made : table ≡ entries_of shapes) where
  -- what is not there is empty
  there : (o : Option (Wire ℕ)) (p : Option (Wire TableRef)) → p ≡ option_map (map_wire table_ref) o → header.or_empty p ≡ map_wire table_ref (or_empty o)
  there None p same = ap header.or_empty same
  there (Some w) p same = ap header.or_empty same

  entry_is : (t : TypeId) → table_head table (graph_ref t) ≡ map_wire table_ref (shape_at shapes (18 + t.index))
  entry_is t =
      there (slice_get shapes (18 + t.index)) (slice_get table t.index)
      (ap (λ (l : List (Wire TableRef)). slice_get l t.index) made
      ∙ slice_get-map (map_wire table_ref) (drop 18 shapes) t.index
      ∙ ap (λ (o : Option (Wire ℕ)). option_map (map_wire table_ref) o) (behind shapes 18 t.index))

  heads_so : (r : Ref TypeId) → table_head table (ref_in r) ≡ map_wire ref_in (wire (head_at slots) r)
  heads_so (Just p) = refl
  heads_so (Of t) =
      entry_is t
      ∙ wire_twice ref_of ref_in (shape_at shapes (18 + t.index))
      ∙ ap (map_wire ref_in) (sym (is.heads (18 + t.index)) ∙ ap (λ (r : Ref TypeId). wire (head_at slots) r) (ref_of_id t))

  pub table_so : IsTableBy (head_at slots) table
  table_so = record { heads = heads_so }

module _ (head next : TypeId → Node TypeId) (table : List (Wire TableRef)) (is : IsTableBy head table) where
  to_same : (t u : TypeId) → SameWire (table_head table) (wire next) (graph_ref t) (Of u) → SameWire (wire head) (wire next) (Of t) (Of u)
  to_same t u s = same_wire_to ref_in (self {A = Ref TypeId}) (wire head) (wire next) (table_head table) (wire next) is.heads (λ b. wire_same (wire next b)) (Of t) (Of u) s

  from_same : (t u : TypeId) → SameWire (wire head) (wire next) (Of t) (Of u) → SameWire (table_head table) (wire next) (graph_ref t) (Of u)
  from_same t u s = same_wire_from ref_in (self {A = Ref TypeId}) (wire head) (wire next) (table_head table) (wire next) is.heads (λ b. wire_same (wire next b)) (Of t) (Of u) s

  each_to : (ts us : List TypeId) → SameEach next table (map graph_ref ts) us → AreSame head next ts us
  each_to [] [] h = tt
  each_to [] (u ∷ us) h = absurd h
  each_to (t ∷ ts) [] h = absurd h
  each_to (t ∷ ts) (u ∷ us) h = (to_same t u h.0, each_to ts us h.1)

  each_from : (ts us : List TypeId) → AreSame head next ts us → SameEach next table (map graph_ref ts) us
  each_from [] [] h = tt
  each_from [] (u ∷ us) h = absurd h
  each_from (t ∷ ts) [] h = absurd h
  each_from (t ∷ ts) (u ∷ us) h = (from_same t u h.0, each_from ts us h.1)

  pub says_yes : (ts us : List TypeId) (rs : List TableRef) (o : Result Bool Memory) → rs ≡ map graph_ref ts → IfOk o (λ b. b ≡ true → SameEach next table rs us) → IfOk o (λ b. b ≡ true → AreSame head next ts us)
  says_yes ts us rs (Ok b) same h = λ t. let Of_refs : List TableRef → Type 0 = λ l. SameEach next table l us in each_to ts us (subst Of_refs same (h t))
  says_yes ts us rs (Err m) same h = tt

  pub says_no : (ts us : List TypeId) (rs : List TableRef) (o : Result Bool Memory) → rs ≡ map graph_ref ts → IfOk o (λ b. b ≡ false → SameEach next table rs us → ⊥)
      → IfOk o (λ b. b ≡ false → AreSame head next ts us → ⊥)
  says_no ts us rs (Ok b) same h = λ t s. let Of_refs : List TableRef → Type 0 = λ l. SameEach next table l us in h t (subst Of_refs (sym same) (each_from ts us s))
  says_no ts us rs (Err m) same h = tt
