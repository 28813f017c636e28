-- The parts of several values, one value after the other.
use Rattle.std.proofs.Common.{◌≡◌, ℕ, zero, suc, ◌<◌, ◌≤◌, List, [], ◌∷◌, ◌++◌, length, drop, get_or, Option, Some, None, refl, sym, ap, ap₂, ◌∙◌, append_assoc, arith}
use Rattle.std.proofs.Math.ListN.{drop_of_length-le}
use Rattle.std.proofs.Math.Seq.{drop-cons}
use Rattle.std.proofs.lemmas.List.{append-nil}
use Rattle.mo_types.specs.declared.datum.Datum.{Datum}
use Rattle.mo_types.specs.declared.node.TypeId.{TypeId}
use Rattle.mo_types.specs.Graph.{Slot, head_at}
use Rattle.mo_types.specs.Heads.{map_option}
use Rattle.mo_types.specs.Values.{Values, flat}
use Rattle.mo_values.specs.Messages.{both, joined, plain}
use Rattle.mo_meaning.specs.Messages.{joined_values}
use Rattle.mo_machine.specs.Messages.{plain_values}
use Rattle.mo_machine.specs.Values.{listed, shape_of}
use Rattle.typed_tree.specs.Language.{Functions}
use Rattle.arena_messages.proofs.Labelled.{flat_beside}
use Rattle.value_arena.specs.declared.node.Node.{Node}
use Rattle.value_arena.specs.declared.node.ValueId.{ValueId}
use Rattle.value_arena.specs.Growth.{AreBelow}
use Rattle.value_arena.specs.Meaning.{value_of, values_of}

-- parts before others
abbrev pub behind : List Datum → Option (List Datum) → Option (List Datum)
behind ps o = map_option (λ r. ps ++ r) o

abbrev next : Option (List Datum) → Option (List Datum) → Option (List Datum)
next None r = None
next (Some ps) r = behind ps r

behind_both : (ps qs : List Datum) (o : Option (List Datum)) → behind ps (behind qs o) ≡ behind (ps ++ qs) o
behind_both ps qs None = refl
behind_both ps qs (Some r) = ap (λ (l : List Datum). Some l) (sym (append_assoc ps qs r))

one_more : (x : Option Values) (y : Option (List Values)) → map_option flat (joined_values (both x y)) ≡ next (map_option flat x) (map_option flat (joined_values y))
one_more None y = refl
one_more (Some v) None = refl
one_more (Some v) (Some ws) = ap (λ (l : List Datum). Some l) (flat_beside v (joined ws))

-- all of them are among the first n nodes, so this one is
pub one_below : (n i : ℕ) (d : ValueId) (ids : List ValueId) → AreBelow n ids → i < length ids → (get_or ids i d).index < n
one_below n i d [] h k = absurd (omega arith)
one_below n zero d (id ∷ ids) h k = h.0
one_below n (suc i) d (id ∷ ids) h k = one_below n i d ids h.1 (omega arith)

module _ (types : List Slot) (ns : List Node) (groups : ℕ → Functions) where
  -- the parts of these values
  abbrev pub parts_at : List TypeId → List ValueId → Option (List Datum)
  parts_at ts ids = map_option flat (plain_values types ts (listed (values_of groups ns ids)))

  abbrev pub own : TypeId → ValueId → Option (List Datum)
  own t id = map_option flat (plain (head_at types) t (shape_of (value_of groups ns id)))

  parts_next : (t : TypeId) (id : ValueId) (ts : List TypeId) (ids : List ValueId) → parts_at (t ∷ ts) (id ∷ ids) ≡ next (own t id) (parts_at ts ids)
  parts_next t id ts ids = one_more (plain (head_at types) t (shape_of (value_of groups ns id))) _

  -- where no value is left
  no_values : (ts : List TypeId) → parts_at ts [] ≡ Some []
  no_values [] = refl
  no_values (t ∷ ts) = refl

  module _ (ts : List TypeId) (ids : List ValueId) (i : ℕ) (d : TypeId) (e : ValueId) (there : i < length ids) where
    here : i < length ts → parts_at (drop i ts) (drop i ids) ≡ next (own (get_or ts i d) (get_or ids i e)) (parts_at (drop (suc i) ts) (drop (suc i) ids))
    here k = ap₂ (λ (us : List TypeId) (xs : List ValueId). parts_at us xs) (drop-cons ts i d k) (drop-cons ids i e there) ∙ parts_next (get_or ts i d) (get_or ids i e) (drop (suc i) ts) (drop (suc i) ids)

    -- the parts of one value more
    pub parts_on : (before more : List Datum) → i < length ts → Some more ≡ own (get_or ts i d) (get_or ids i e) → behind before (parts_at (drop i ts) (drop i ids)) ≡ behind (before ++ more) (parts_at (drop (suc i) ts) (drop (suc i) ids))
    parts_on before more k is =
        ap (behind before) (here k ∙ ap (λ (o : Option (List Datum)). next o (parts_at (drop (suc i) ts) (drop (suc i) ids))) (sym is))
        ∙ behind_both before more (parts_at (drop (suc i) ts) (drop (suc i) ids))

    pub parts_none : (before : List Datum) → i < length ts → None ≡ own (get_or ts i d) (get_or ids i e) → None ≡ behind before (parts_at (drop i ts) (drop i ids))
    parts_none before k is = sym (ap (behind before) (here k ∙ ap (λ (o : Option (List Datum)). next o (parts_at (drop (suc i) ts) (drop (suc i) ids))) (sym is)))

    -- no type is left
    pub parts_over : length ts ≤ i → parts_at (drop i ts) (drop i ids) ≡ parts_at (drop (suc i) ts) (drop (suc i) ids)
    parts_over k =
        ap (λ (us : List TypeId). parts_at us (drop i ids)) (drop_of_length-le ts k)
        ∙ sym (ap (λ (us : List TypeId). parts_at us (drop (suc i) ids)) (drop_of_length-le ts {i = suc i} (omega arith)))

  pub parts_end : (ts : List TypeId) (ids : List ValueId) (i : ℕ) (before : List Datum) → length ids ≤ i → Some before ≡ behind before (parts_at (drop i ts) (drop i ids))
  parts_end ts ids i before k =
      ap (λ (l : List Datum). Some l) (sym (append-nil before))
      ∙ sym (ap (behind before) (ap (λ (xs : List ValueId). parts_at (drop i ts) xs) (drop_of_length-le ids k) ∙ no_values (drop i ts)))

  pub parts_begin : (ts : List TypeId) (ids : List ValueId) → parts_at ts ids ≡ behind [] (parts_at ts ids)
  parts_begin ts ids = by (parts_at ts ids) where
    by : (o : Option (List Datum)) → o ≡ behind [] o
    by None = refl
    by (Some l) = refl
