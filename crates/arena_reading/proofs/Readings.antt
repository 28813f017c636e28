-- Messages as they are read.
use Rattle.std.proofs.Common.{◌≡◌, ℕ, zero, suc, ◌<◌, ◌≤◌, List, [], ◌∷◌, length, get_or, take, drop, Option, Some, None, refl, sym, ap, ap₂, ◌∙◌, subst}
use Rattle.std.proofs.Math.Seq.{drop-cons}
use Rattle.mo_types.specs.declared.datum.Datum.{Datum}
use Rattle.mo_types.specs.declared.datum.Datum.TheVariants as part
use Rattle.mo_types.specs.declared.node.Node.{Node}
use Rattle.mo_types.specs.declared.node.TypeId.{TypeId}
use Rattle.mo_types.specs.Code.{Reads}
use Rattle.mo_types.specs.Graph.{Slot, head_at}
use Rattle.mo_types.specs.Values.{Values as Trees, arity, tree}
use Rattle.mo_types.proofs.Candid.{flat_tree}
use Rattle.mo_values.specs.Messages.{head_of}
use Rattle.mo_values.specs.Shapes.{Bytes, Head}
use Rattle.typed_tree.specs.Language as typed
use Rattle.mo_meaning.specs.Coding.{Coding, IsFaithful}
use Rattle.mo_meaning.specs.Messages.{as_values, read_values, values_at}
use Rattle.mo_machine.specs.Values.{Value, Values, AValue, Made, gathered, listed}
use Rattle.value_arena.specs.declared.node.Node.{Node as ArenaNode}
use Rattle.value_arena.specs.declared.node.ValueHead.{ValueHead}
use Rattle.value_arena.specs.declared.node.ValueId.{ValueId}
use Rattle.value_arena.specs.Growth.{AreBelow, AreWithin, IsValueAdded}
use Rattle.value_arena.specs.Heads.{head_of as head_kept}
use Rattle.value_arena.specs.Meaning.{value_at, values, values_at as ids_at, values_of}
use Rattle.value_arena.proofs.Growing.{begins, composes, values_stay, values_there}
use Rattle.arena_reading.specs.Opening.{built, put_on, types_along, AreOpened, AreRead, IsPut, IsReadAs}
use Rattle.arena_reading.proofs.Opened.{built_next, built_none, built_opened}

-- ---- a part is put

listed_take : (vs : List Value) (n : ℕ) (ids : List ValueId) → ids_at vs (take n ids) ≡ gathered (take n (listed (ids_at vs ids)))
listed_take vs zero ids = refl
listed_take vs (suc n) [] = refl
listed_take vs (suc n) (id ∷ ids) = ap (λ (x : Values). AValue (value_at vs id) x) (listed_take vs n ids)

listed_drop : (vs : List Value) (n : ℕ) (ids : List ValueId) → listed (ids_at vs (drop n ids)) ≡ drop n (listed (ids_at vs ids))
listed_drop vs zero ids = refl
listed_drop vs (suc n) [] = refl
listed_drop vs (suc n) (id ∷ ids) = listed_drop vs n ids

pub below_take : (m n : ℕ) (ids : List ValueId) → AreBelow m ids → AreBelow m (take n ids)
below_take m zero ids h = tt
below_take m (suc n) [] h = tt
below_take m (suc n) (id ∷ ids) h = (h.0, below_take m n ids h.1)

pub below_drop : (m n : ℕ) (ids : List ValueId) → AreBelow m ids → AreBelow m (drop n ids)
below_drop m zero ids h = h
below_drop m (suc n) [] h = tt
below_drop m (suc n) (id ∷ ids) h = below_drop m n ids h.1

pub put_so : (old new : List ArenaNode) (n : Node TypeId) (p : Datum) (count : ℕ) (before inside left after : List ValueId) (head : ValueHead) (id : ValueId) → AreWithin old before → count ≡ arity p
    → inside ≡ take count before → left ≡ drop count before → head_kept head ≡ head_of n p
    → IsValueAdded old (λ groups. Made (head_kept head) (values_of groups old inside)) id new → after ≡ id ∷ left → IsPut old n p before new after
put_so old new n p count before inside left after head id there many first rest is added put =
    let Of : List ValueId → Type 0 = λ l. AreWithin new l in
    let same : left ≡ drop (arity p) before = rest ∙ ap (λ (k : ℕ). drop k before) many in
    record {
      grows = added.grows;
      within = subst Of (sym put) (added.within, subst Of (sym same) (values_there old new added.grows (drop (arity p) before) (below_drop (length old) (arity p) before there)));
      means = λ groups.
          let vs : List Value = values groups old in
          ap (λ (l : List ValueId). listed (values_of groups new l)) put
          ∙ ap₂ (λ (v : Value) (l : List Value). v ∷ l)
          (added.means groups
          ∙ ap₂ (λ (h : Head) (l : List ValueId). Made h (values_of groups old l)) is (first ∙ ap (λ (k : ℕ). take k before) many)
          ∙ ap (λ (x : Values). Made (head_of n p) x) (listed_take vs (arity p) before))
          (ap (λ (l : List ValueId). listed (values_of groups new l)) same
          ∙ ap listed (values_stay old new added.grows groups (drop (arity p) before) (below_drop (length old) (arity p) before there))
          ∙ listed_drop vs (arity p) before);
    }

-- ---- all parts

pub opened_first : (ns : List ArenaNode) (vs : List Value) (ids : List ValueId) → ids ≡ [] → [] ≡ vs → AreOpened ns vs ns ids
opened_first ns vs ids none is =
    let Of : List ValueId → Type 0 = λ l. AreOpened ns vs ns l in
    subst Of (sym none) (record { grows = begins ns; within = tt; means = λ groups. is })

pub opened_on : (first old new : List ArenaNode) (n : Node TypeId) (p : Datum) (vs ws : List Value) (before after : List ValueId) → AreOpened first vs old before → IsPut old n p before new after → ws ≡ put_on n p vs
    → AreOpened first ws new after
opened_on first old new n p vs ws before after h put is = record {
  grows = composes first old new h.grows put.grows;
  within = put.within;
  means = λ groups. put.means groups ∙ ap (put_on n p) (h.means groups) ∙ sym is;
}

pub opened_as : (first new : List ArenaNode) (vs ws : List Value) (before after : List ValueId) → AreOpened first vs new before → ws ≡ vs → after ≡ before → AreOpened first ws new after
opened_as first new vs ws before after h is same =
    let Of : List ValueId → Type 0 = λ l. AreOpened first ws new l in
    subst Of (sym same) (record { grows = h.grows; within = h.within; means = λ groups. h.means groups ∙ sym is })

-- one part less is left
module _ (types : List Slot) (ts : List TypeId) (ps : List Datum) (left less : ℕ) (is : left ≡ suc less) (there : less < length ps) (first : List ArenaNode) where
  abbrev from : ℕ → List Value
  from i = built (head_at types) (drop i ts) (drop i ps)

  pub opened_over : (ns : List ArenaNode) (ids : List ValueId) → length ts ≤ less → AreOpened first (from left) ns ids → AreOpened first (from less) ns ids
  opened_over ns ids none h =
      let Of : List Value → Type 0 = λ vs. AreOpened first vs ns ids in
      subst Of (sym (built_none (head_at types) ts ps less (get_or ps less part.Null) (drop-cons ps less part.Null there) none ∙ ap from (sym is))) h

  pub opened_next : (old new : List ArenaNode) (d : TypeId) (e : Datum) (n : Node TypeId) (p : Datum) (before after : List ValueId) → less < length ts → n ≡ head_at types (get_or ts less d) → p ≡ get_or ps less e
      → AreOpened first (from left) old before → IsPut old n p before new after → AreOpened first (from less) new after
  opened_next old new d e n p before after some node one h put =
      opened_on first old new n p (from left) (from less) before after h put
      (built_next (head_at types) ts ps less (get_or ps less e) (drop-cons ps less e there) d some
      ∙ ap₂ (λ (m : Node TypeId) (q : Datum). put_on m q (from (suc less))) (sym node) (sym one)
      ∙ ap (λ (k : ℕ). put_on n p (from k)) (sym is))

-- the parts that were read, along their types
pub opened_parts : (types : List Slot) (ids at along : List TypeId) (parts whole : List Datum) (old new : List ArenaNode) (found : List ValueId) → at ≡ along → along ≡ types_along (head_at types) ids parts → parts ≡ whole
    → AreOpened old (built (head_at types) at parts) new found → AreOpened old (built (head_at types) (types_along (head_at types) ids whole) whole) new found
opened_parts types ids at along parts whole old new found one two three h =
    let Of : List Value → Type 0 = λ vs. AreOpened old vs new found in
    subst Of
    (ap (λ (ts : List TypeId). built (head_at types) ts parts) (one ∙ two) ∙ ap (λ (ps : List Datum). built (head_at types) (types_along (head_at types) ids ps) ps) three) h

-- ---- messages

module _ (types : List Slot) (ids : List TypeId) (bytes : Bytes) where
  read_as : (coding : Coding) (v : Trees) → coding.read types ids bytes ≡ Some v → read_values coding types ids bytes ≡ Some (as_values (values_at types ids v))
  read_as coding v is = rw (is, read_values) refl

  read_not : (coding : Coding) → coding.read types ids bytes ≡ None → read_values coding types ids bytes ≡ None
  read_not coding is = rw (is, read_values) refl

  pub is_read : (parts : List Datum) (old new : List ArenaNode) (found : List ValueId) → Reads (head_at types) ids bytes (tree parts) → AreOpened old (built (head_at types) (types_along (head_at types) ids parts) parts) new found
      → AreRead types ids bytes old (Some found) new
  is_read parts old new found reads h = record {
    grows = h.grows;
    means = λ coding faithful.
        let is : read_values coding types ids bytes ≡ Some (as_values (values_at types ids (tree parts))) = read_as coding (tree parts) (faithful.complete types ids bytes (tree parts) reads) in
        let Of : Option (List typed.Value) → Type 0 = λ o. IsReadAs new o (Some found) in
        subst Of (sym is) (
          h.within,
          λ groups.
              h.means groups
              ∙ ap (λ (ps : List Datum). built (head_at types) (types_along (head_at types) ids ps) ps) (sym (flat_tree parts))
              ∙ built_opened (head_at types) ids (tree parts) reads.typed,
        );
  }

  not_read : (coding : Coding) → IsFaithful coding → ((v : Trees) → Reads (head_at types) ids bytes v → ⊥) → (o : Option Trees) → coding.read types ids bytes ≡ o → coding.read types ids bytes ≡ None
  not_read coding faithful none None is = is
  not_read coding faithful none (Some v) is = absurd (none v (faithful.sound types ids bytes v is))

  pub is_not_read : (ns : List ArenaNode) → ((v : Trees) → Reads (head_at types) ids bytes v → ⊥) → AreRead types ids bytes ns None ns
  is_not_read ns none = record {
    grows = begins ns;
    means = λ coding faithful.
        let is : read_values coding types ids bytes ≡ None = read_not coding (not_read coding faithful none (coding.read types ids bytes) refl) in
        let Of : Option (List typed.Value) → Type 0 = λ o. IsReadAs ns o None in
        subst Of (sym is) tt;
  }
