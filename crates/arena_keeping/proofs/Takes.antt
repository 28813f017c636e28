-- All stable variables, one after the other.
use Rattle.std.proofs.Common.{◌≡◌, ℕ, zero, suc, ◌+◌, ◌<◌, ◌≤◌, List, [], ◌∷◌, ◌++◌, get_or, drop, length, map, take, true, false, Option, Some, None, refl, sym, ap, ap₂, ◌∙◌, subst, add-one, arith}
use Rattle.std.specs.Prelude.{nat_eq}
use Rattle.std.specs.List.{find}
use Rattle.mo_types.specs.declared.datum.Datum.{Datum}
use Rattle.mo_types.specs.declared.node.TypeId.{TypeId}
use Rattle.mo_types.specs.Code.{Variable}
use Rattle.mo_types.specs.Label.{label_id}
use Rattle.typed_tree.specs.declared.program.Program.{Program}
use Rattle.typed_tree.specs.declared.program.StableVariable.{StableVariable as Written}
use Rattle.typed_tree.specs.Language.{Functions}
use Rattle.typed_tree.specs.Language as typed
use Rattle.typed_tree.specs.ProgramView.{stable_variable}
use Rattle.mo_meaning.specs.Coding.{Coding, IsFaithful}
use Rattle.mo_meaning.specs.Starting as starting
use Rattle.mo_meaning.specs.Starting.{all_kept, all_taken, and_taken}
use Rattle.mo_machine.specs.Starting.{kept_value}
use Rattle.mo_machine.specs.Values.{Made, NoValue, AValue, Value}
use Rattle.mo_values.specs.Shapes.{Present}
use Rattle.value_arena.specs.declared.node.Node.{Node as ArenaNode}
use Rattle.value_arena.specs.declared.node.ValueId.{ValueId}
use Rattle.value_arena.specs.Growth.{Grows}
use Rattle.value_arena.proofs.Growing.{begins, composes}
use Rattle.arena_bodies.specs.Restarting.{kept_at, AreKeptWithin, IsKeptWithin}
use Rattle.arena_bodies.proofs.Kept.{all_stay, all_there}
use Rattle.arena_saving.specs.Saving.{AreVariables}
use Rattle.arena_keeping.specs.declared.taken.Taken.{Taken}
use Rattle.arena_keeping.specs.declared.taken.Taken.TheVariants as taken
use Rattle.arena_keeping.specs.Keeping.{AreTakenOver, AreTakenTo, IsKept, IsPut}
use Rattle.arena_keeping.specs.Taking.{taken_wanted, IsTaken, IsTakenOver, IsTakenWithin}

-- ---- all of them, the last one apart

abbrev and_last : Option (List (Option typed.Value)) → starting.Taken → Option (List (Option typed.Value))
and_last None t = None
and_last (Some ks) starting.Fresh = Some (ks ++ None ∷ [])
and_last (Some ks) (starting.Value? v) = Some (ks ++ Some v ∷ [])
and_last (Some ks) starting.Incompatible = None

first_last : (x : starting.Taken) (o : Option (List (Option typed.Value))) (t : starting.Taken) → and_taken x (and_last o t) ≡ and_last (and_taken x o) t
first_last x None t = refl
first_last starting.Fresh (Some ks) starting.Fresh = refl
first_last starting.Fresh (Some ks) (starting.Value? v) = refl
first_last starting.Fresh (Some ks) starting.Incompatible = refl
first_last (starting.Value? u) (Some ks) starting.Fresh = refl
first_last (starting.Value? u) (Some ks) (starting.Value? v) = refl
first_last (starting.Value? u) (Some ks) starting.Incompatible = refl
first_last starting.Incompatible (Some ks) starting.Fresh = refl
first_last starting.Incompatible (Some ks) (starting.Value? v) = refl
first_last starting.Incompatible (Some ks) starting.Incompatible = refl

only_one : (t : starting.Taken) → and_taken t (Some []) ≡ and_last (Some []) t
only_one starting.Fresh = refl
only_one (starting.Value? v) = refl
only_one starting.Incompatible = refl

kept_last : (xs : List starting.Taken) (t : starting.Taken) → all_kept (xs ++ t ∷ []) ≡ and_last (all_kept xs) t
kept_last [] t = only_one t
kept_last (x ∷ xs) t = ap (and_taken x) (kept_last xs t) ∙ first_last x (all_kept xs) t

none_first : (o : Option (List (Option typed.Value))) → and_taken starting.Incompatible o ≡ None
none_first None = refl
none_first (Some ks) = refl

none_kept : (xs ys : List starting.Taken) → all_kept (xs ++ starting.Incompatible ∷ ys) ≡ None
none_kept [] ys = none_first (all_kept ys)
none_kept (x ∷ xs) ys = ap (and_taken x) (none_kept xs ys)

-- ---- in the arena

map_last : {A B : Type 0} (f : A → B) (xs : List A) (x : A) → map f (xs ++ x ∷ []) ≡ map f xs ++ f x ∷ []
map_last f [] x = refl
map_last f (y ∷ ys) x = ap (λ l. f y ∷ l) (map_last f ys x)

module _ (ns : List ArenaNode) where
  one_more : (ks : List (Option typed.Value)) (os after : List (Option ValueId)) (k : Option typed.Value) (o : Option ValueId) → after ≡ os ++ o ∷ [] → ((groups : ℕ → Functions) → kept_value k ≡ kept_at groups ns o)
      → ((groups : ℕ → Functions) → map kept_value ks ≡ map (kept_at groups ns) os) → (groups : ℕ → Functions) → map kept_value (ks ++ k ∷ []) ≡ map (kept_at groups ns) after
  one_more ks os after k o put one all groups =
      map_last kept_value ks k
      ∙ ap₂ (λ (vs : List Value) (v : Value). vs ++ v ∷ []) (all groups) (one groups)
      ∙ sym (map_last (kept_at groups ns) os o)
      ∙ ap (map (kept_at groups ns)) (sym put)

  kept_on : (o : Option (List (Option typed.Value))) (w : starting.Taken) (t : Taken) (os after : List (Option ValueId)) → IsKept ns o (Some os) → IsTaken ns w t → IsPut t true os after → IsKept ns (and_last o w) (Some after)
  kept_on None w t os after all one put = absurd all
  kept_on (Some ks) starting.Fresh taken.Fresh os after all one put = one_more ks os after None None put.1 (λ groups. refl) all
  kept_on (Some ks) (starting.Value? v) (taken.Kept id) os after all one put = one_more ks os after (Some v) (Some id) put.1 (λ groups. ap (λ (x : Value). Made Present (AValue x NoValue)) (sym (one groups))) all
  kept_on (Some ks) starting.Incompatible taken.Incompatible os after all one put = absurd (let e : true ≡ false = put in cc)
  kept_on (Some ks) starting.Fresh (taken.Kept id) os after all one put = absurd one
  kept_on (Some ks) starting.Fresh taken.Incompatible os after all one put = absurd one
  kept_on (Some ks) (starting.Value? v) taken.Fresh os after all one put = absurd one
  kept_on (Some ks) (starting.Value? v) taken.Incompatible os after all one put = absurd one
  kept_on (Some ks) starting.Incompatible taken.Fresh os after all one put = absurd one
  kept_on (Some ks) starting.Incompatible (taken.Kept id) os after all one put = absurd one

  within_last : (os : List (Option ValueId)) (o : Option ValueId) → AreKeptWithin ns os → IsKeptWithin ns o → AreKeptWithin ns (os ++ o ∷ [])
  within_last [] o h k = (k, tt)
  within_last (p ∷ os) o h k = (h.0, within_last os o h.1 k)

  within_on : (t : Taken) (os after : List (Option ValueId)) → AreKeptWithin ns os → IsTakenWithin ns t → IsPut t true os after → AreKeptWithin ns after
  within_on taken.Fresh os after h k put = let Of : List (Option ValueId) → Type 0 = λ l. AreKeptWithin ns l in subst Of (sym put.1) (within_last os None h tt)
  within_on (taken.Kept id) os after h k put = let Of : List (Option ValueId) → Type 0 = λ l. AreKeptWithin ns l in subst Of (sym put.1) (within_last os (Some id) h k)
  within_on taken.Incompatible os after h k put = absurd (let e : true ≡ false = put in cc)

  kept_none : (w : starting.Taken) (t : Taken) (os after : List (Option ValueId)) → IsTaken ns w t → IsPut t false os after → w ≡ starting.Incompatible
  kept_none starting.Incompatible t os after one put = refl
  kept_none starting.Fresh taken.Fresh os after one put = absurd (let e : false ≡ true = put.0 in cc)
  kept_none (starting.Value? v) (taken.Kept id) os after one put = absurd (let e : false ≡ true = put.0 in cc)
  kept_none starting.Fresh (taken.Kept id) os after one put = absurd one
  kept_none starting.Fresh taken.Incompatible os after one put = absurd one
  kept_none (starting.Value? v) taken.Fresh os after one put = absurd one
  kept_none (starting.Value? v) taken.Incompatible os after one put = absurd one

-- what was kept is the same in an arena that has grown
kept_grown : (old new : List ArenaNode) → Grows old new → (o : Option (List (Option typed.Value))) (os : List (Option ValueId)) → AreKeptWithin old os → IsKept old o (Some os) → IsKept new o (Some os)
kept_grown old new grows None os within h = absurd h
kept_grown old new grows (Some ks) os within h = λ groups. h groups ∙ sym (all_stay old new grows groups os within)

-- ---- variable by variable

module _ (p q : Program) (parts : List (List Datum)) where
  module _ (coding : Coding) (variables : List (Variable TypeId)) where
    abbrev one_of : Written → starting.Taken
    one_of v = starting.taken coding p.types q.types (stable_variable v) (find (λ x. nat_eq (label_id x.name) (label_id v.name)) variables)

    abbrev some_of : List Written → List starting.Taken
    some_of stable = all_taken coding p.types q.types variables (map stable_variable stable)

    take_next : (stable : List Written) (i : ℕ) (d : Written) → i < length stable → take (suc i) (some_of stable) ≡ take i (some_of stable) ++ one_of (get_or stable i d) ∷ []
    take_next [] i d h = absurd (omega (arith, h))
    take_next (v ∷ stable) zero d h = refl
    take_next (v ∷ stable) (suc i) d h = ap (λ (l : List starting.Taken). one_of v ∷ l) (take_next stable i d (omega (arith, h)))

    take_whole : (stable : List Written) (i : ℕ) → length stable ≤ i → take i (some_of stable) ≡ some_of stable
    take_whole [] zero h = refl
    take_whole [] (suc i) h = refl
    take_whole (v ∷ stable) zero h = absurd (omega (arith, h))
    take_whole (v ∷ stable) (suc i) h = ap (λ (l : List starting.Taken). one_of v ∷ l) (take_whole stable i (omega (arith, h)))

    take_apart : (stable : List Written) (i : ℕ) (d : Written) → i < length stable → some_of stable ≡ take i (some_of stable) ++ one_of (get_or stable i d) ∷ drop (suc i) (some_of stable)
    take_apart [] i d h = absurd (omega (arith, h))
    take_apart (v ∷ stable) zero d h = refl
    take_apart (v ∷ stable) (suc i) d h = ap (λ (l : List starting.Taken). one_of v ∷ l) (take_apart stable i d (omega (arith, h)))

  -- none is looked at yet
  pub taken_first : (ns : List ArenaNode) (os : List (Option ValueId)) → os ≡ [] → AreTakenTo p q parts 0 ns os ns
  taken_first ns os none =
      let Of : List (Option ValueId) → Type 0 = λ l. AreTakenTo p q parts 0 ns l ns in
      subst Of (sym none) (record { grows = begins ns; within = tt; means = λ coding faithful variables are groups. refl })

  module _ (first old new : List ArenaNode) (i : ℕ) (v : Written) (t : Taken) (os after : List (Option ValueId)) (below : i < length q.stable) (read : v ≡ get_or q.stable i v) (so : AreTakenTo p q parts i first os old)
      (over : IsTakenOver old (taken_wanted p.types q.types p.stable parts v) t new) where
    means_one : (coding : Coding) → IsFaithful coding → (variables : List (Variable TypeId)) → AreVariables p.types (map stable_variable p.stable) parts variables → IsTaken new (one_of coding variables (get_or q.stable i v)) t
    means_one coding faithful variables are =
        over.means (one_of coding variables (get_or q.stable i v))
        (record { coding = coding; faithful = faithful; variables = variables; saved = are; is = ap (λ (x : Written). one_of coding variables x) (sym read) })

    -- one more
    pub taken_on : IsPut t true os after → AreTakenTo p q parts (i + 1) first after new
    taken_on put = record {
      grows = composes first old new so.grows over.grows;
      within = within_on new t os after (all_there old new over.grows os so.within) over.within put;
      means = λ coding faithful variables are.
          let before : List starting.Taken = take i (some_of coding variables q.stable) in
          let w : starting.Taken = one_of coding variables (get_or q.stable i v) in
          let Of : Option (List (Option typed.Value)) → Type 0 = λ o. IsKept new o (Some after) in
          let grown : IsKept new (all_kept before) (Some os) = kept_grown old new over.grows (all_kept before) os so.within (so.means coding faithful variables are) in
          subst Of
          (sym (ap (λ (n : ℕ). all_kept (take n (some_of coding variables q.stable))) (add-one i) ∙ ap all_kept (take_next coding variables q.stable i v below) ∙ kept_last before w))
          (kept_on new (all_kept before) w t os after grown (means_one coding faithful variables are) put);
    }

    -- one is incompatible
    pub taken_none : IsPut t false os after → AreTakenOver first p q parts None new
    taken_none put = record {
      grows = composes first old new so.grows over.grows;
      within = tt;
      means = λ coding faithful variables are.
          let ts : List starting.Taken = some_of coding variables q.stable in
          let w : starting.Taken = one_of coding variables (get_or q.stable i v) in
          let Of : Option (List (Option typed.Value)) → Type 0 = λ o. IsKept new o None in
          let bad : w ≡ starting.Incompatible = kept_none new w t os after (means_one coding faithful variables are) put in
          subst Of
          (sym (ap all_kept (take_apart coding variables q.stable i v below ∙ ap (λ (x : starting.Taken). take i ts ++ x ∷ drop (suc i) ts) bad) ∙ none_kept (take i ts) (drop (suc i) ts))) tt;
    }

  pub taken_all : (first new : List ArenaNode) (i : ℕ) (os : List (Option ValueId)) → length q.stable ≤ i → AreTakenTo p q parts i first os new → AreTakenOver first p q parts (Some os) new
  taken_all first new i os all so = record {
    grows = so.grows;
    within = so.within;
    means = λ coding faithful variables are.
        let Of : List starting.Taken → Type 0 = λ l. IsKept new (all_kept l) (Some os) in
        subst Of (take_whole coding variables q.stable i all) (so.means coding faithful variables are);
  }
