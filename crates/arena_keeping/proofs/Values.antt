-- A value that is kept.
use Rattle.std.proofs.Common.{◌≡◌, ℕ, List, [], ◌∷◌, Option, Some, None, refl, sym, ap, ◌∙◌, subst}
use Rattle.mo_types.specs.declared.datum.Datum.{Datum}
use Rattle.mo_types.specs.declared.node.TypeId.{TypeId}
use Rattle.mo_types.specs.Code.{Keep}
use Rattle.mo_types.specs.Graph.{head_at}
use Rattle.mo_types.specs.Values.{HaveTypes, Values as Trees, flat, tree}
use Rattle.mo_types.proofs.Candid.{flat_tree}
use Rattle.typed_tree.specs.Language.{Functions, NoFunction}
use Rattle.typed_tree.specs.Language as typed
use Rattle.mo_meaning.specs.Coding.{Coding, IsFaithful, Types}
use Rattle.mo_meaning.specs.Messages.{as_values, values_at}
use Rattle.mo_meaning.specs.Starting as starting
use Rattle.mo_meaning.specs.Starting.{first_value, taken_values}
use Rattle.mo_machine.specs.Values.{listed, load, load_list}
use Rattle.value_arena.specs.declared.node.Node.{Node as ArenaNode}
use Rattle.value_arena.specs.declared.node.ValueId.{ValueId}
use Rattle.value_arena.specs.Growth.{AreWithin}
use Rattle.value_arena.specs.Meaning.{value_of, values_of}
use Rattle.value_arena.proofs.Growing.{begins}
use Rattle.arena_reading.specs.Opening.{built, types_along, AreOpened}
use Rattle.arena_reading.proofs.Opened.{built_opened}
use Rattle.kept_parts.specs.Keeping.{IsKeptAs}
use Rattle.arena_keeping.specs.declared.taken.Taken.{Taken}
use Rattle.arena_keeping.specs.declared.taken.Taken.TheVariants as taken
use Rattle.arena_keeping.specs.Taking.{first_taken, kept_wanted, value_wanted, IsTaken, IsTakenOver, IsTakenWithin}

-- ---- the first of the values

first_within : (ns : List ArenaNode) (ids : List ValueId) → AreWithin ns ids → IsTakenWithin ns (first_taken ids)
first_within ns [] h = tt
first_within ns (id ∷ ids) h = h.0

first_means : (ns : List ArenaNode) (vs : List typed.Value) (ids : List ValueId) → ((groups : ℕ → Functions) → listed (values_of groups ns ids) ≡ load_list vs) → IsTaken ns (first_value vs) (first_taken ids)
first_means ns [] [] h = tt
first_means ns [] (id ∷ ids) h = absurd (let e : value_of (λ n. NoFunction) ns id ∷ listed (values_of (λ n. NoFunction) ns ids) ≡ [] = h (λ n. NoFunction) in cc)
first_means ns (v ∷ vs) [] h = absurd (let e : [] ≡ load v ∷ load_list vs = h (λ n. NoFunction) in cc)
first_means ns (v ∷ vs) (id ∷ ids) h = λ groups. let e : value_of groups ns id ∷ listed (values_of groups ns ids) ≡ load v ∷ load_list vs = h groups in cc

-- the value with these parts
pub value_taken : (types : Types) (t : TypeId) (parts : List Datum) (old new : List ArenaNode) (ids : List ValueId) (r : Taken) → AreOpened old (built (head_at types) (types_along (head_at types) (t ∷ []) parts) parts) new ids → r ≡ first_taken ids
    → IsTakenOver old (value_wanted types t parts) r new
value_taken types t parts old new ids r opened is =
    let Of : Taken → Type 0 = λ z. IsTakenOver old (value_wanted types t parts) z new in
    subst Of (sym is) (record {
      grows = opened.grows;
      within = first_within new ids opened.within;
      means = λ w wanted.
          let vs : List typed.Value = as_values (values_at types (t ∷ []) wanted.value) in
          let same : built (head_at types) (types_along (head_at types) (t ∷ []) parts) parts ≡ load_list vs =
          ap (λ (ps : List Datum). built (head_at types) (types_along (head_at types) (t ∷ []) ps) ps) wanted.spelled ∙ built_opened (head_at types) (t ∷ []) wanted.value wanted.typed in
          let At : starting.Taken → Type 0 = λ z. IsTaken new z (first_taken ids) in
          subst At (sym wanted.is) (first_means new vs ids (λ groups. opened.means groups ∙ same));
    })

-- ---- what is kept

module _ (old new : Types) (from to : TypeId) (parts : List Datum) where
  module _ (coding : Coding) (faithful : IsFaithful coding) (v : Trees) where
    none_kept : ((w : Trees) → Keep (head_at old) (head_at new) from to v w → ⊥) → coding.keep old new from to v ≡ None
    none_kept none = by (coding.keep old new from to v) refl
      where
        by : (o : Option Trees) → coding.keep old new from to v ≡ o → coding.keep old new from to v ≡ None
        by None is = is
        by (Some w) is = absurd (none w (faithful.keeps old new from to v w is))

  -- it is kept as no value
  pub not_kept : (ns : List ArenaNode) → ((v : Trees) → HaveTypes (head_at old) (from ∷ []) v → parts ≡ flat v → IsKeptAs (head_at old) (head_at new) from to v None) → IsTakenOver ns (kept_wanted old new from to parts) taken.Incompatible ns
  not_kept ns none = record {
    grows = begins ns;
    within = tt;
    means = λ w wanted.
        let At : starting.Taken → Type 0 = λ z. IsTaken ns z taken.Incompatible in
        subst At (sym (wanted.is ∙ ap (taken_values new to) (none_kept wanted.coding wanted.faithful wanted.value (none wanted.value wanted.typed wanted.spelled)))) tt;
  }

  -- it is kept as the value with these parts
  pub is_kept : (kept : List Datum) (first second : List ArenaNode) (r : Taken) → ((v : Trees) → HaveTypes (head_at old) (from ∷ []) v → parts ≡ flat v → IsKeptAs (head_at old) (head_at new) from to v (Some kept)) → IsTakenOver first (value_wanted new to kept) r second
      → IsTakenOver first (kept_wanted old new from to parts) r second
  is_kept kept first second r some h = record {
    grows = h.grows;
    within = h.within;
    means = λ w wanted.
        let keep : Keep (head_at old) (head_at new) from to wanted.value (tree kept) = some wanted.value wanted.typed wanted.spelled in
        h.means w (record {
          value = tree kept;
          typed = keep.new;
          spelled = sym (flat_tree kept);
          is = wanted.is ∙ ap (taken_values new to) (wanted.faithful.kept old new from to wanted.value (tree kept) keep);
        });
  }
