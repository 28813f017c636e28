-- The old variable of a name.
use Rattle.std.proofs.Common.{◌≡◌, ℕ, suc, ◌+◌, ◌<◌, ◌≤◌, List, [], ◌∷◌, get_or, drop, length, map, Bool, true, false, Option, Some, None, refl, sym, ap, ◌∙◌, subst, arith}
use Rattle.std.specs.Prelude.{cond, nat_eq, slice_get}
use Rattle.std.specs.List.{find}
use Rattle.std.proofs.Math.ListN.{drop_of_length-le}
use Rattle.std.proofs.Math.Seq.{drop-cons}
use Rattle.mo_types.specs.declared.datum.Datum.{Datum}
use Rattle.mo_types.specs.declared.node.TypeId.{TypeId}
use Rattle.mo_types.specs.Code.{Variable}
use Rattle.mo_types.specs.Graph.{head_at}
use Rattle.mo_types.specs.Heads.{map_option}
use Rattle.mo_types.specs.Label.{label_id}
use Rattle.mo_types.specs.Values.{HaveTypes}
use Rattle.mo_values.specs.Shapes.{Bytes}
use Rattle.typed_tree.specs.declared.program.StableVariable.{StableVariable as Written}
use Rattle.typed_tree.specs.ProgramView.{stable_variable}
use Rattle.mo_meaning.specs.Coding.{Types}
use Rattle.mo_meaning.specs.Starting as starting
use Rattle.value_arena.specs.declared.node.Node.{Node as ArenaNode}
use Rattle.value_arena.proofs.Growing.{begins}
use Rattle.arena_saving.specs.Saving.{AreVariables, IsVariable}
use Rattle.arena_keeping.specs.declared.taken.Taken.{Taken}
use Rattle.arena_keeping.specs.declared.taken.Taken.TheVariants as taken
use Rattle.arena_keeping.specs.Taking.{kept_wanted, place_from, taken_wanted, IsTaken, IsTakenOver}

-- ---- the first of a name

module _ (name : Bytes) where
  abbrev named : Written → Bool
  named v = nat_eq (label_id v.name) (label_id name)

  module _ (stable : List Written) (i : ℕ) (v : Written) (h : i < length stable) (read : v ≡ get_or stable i v) where
    opens : drop i stable ≡ v ∷ drop (suc i) stable
    opens = drop-cons stable i v h ∙ ap (λ (x : Written). x ∷ drop (suc i) stable) (sym read)

    step : (b : Bool) → named v ≡ b → place_from i (drop i stable) name ≡ cond b (Some i) (place_from (suc i) (drop (suc i) stable) name)
    step b is = ap (λ (l : List Written). place_from i l name) opens ∙ ap (λ (c : Bool). cond c (Some i) (place_from (suc i) (drop (suc i) stable) name)) is

    pub place_here : named v ≡ true → place_from i (drop i stable) name ≡ Some i
    place_here is = step true is

    pub place_behind : named v ≡ false → place_from i (drop i stable) name ≡ place_from (suc i) (drop (suc i) stable) name
    place_behind is = step false is

  pub place_none : (stable : List Written) (i : ℕ) → length stable ≤ i → place_from i (drop i stable) name ≡ None
  place_none stable i h = ap (λ (l : List Written). place_from i l name) (drop_of_length-le stable h)

  -- ---- its variable

  abbrev among : List (Variable TypeId) → Option (Variable TypeId)
  among variables = find (λ x. nat_eq (label_id x.name) (label_id name)) variables

  module _ (types : Types) where
    -- a variable that was saved, at this place behind so many others
    pub record IsSavedAt (stable : List Written) (parts : List (List Datum)) (variables : List (Variable TypeId)) (k place : ℕ) : Type 0 where
      pub at : ℕ
      pub is : place ≡ k + at
      pub written : Written
      pub saved : List Datum
      pub variable : Variable TypeId
      pub there : slice_get stable at ≡ Some written
      pub has : slice_get parts at ≡ Some saved
      pub found : among variables ≡ Some variable
      pub so : IsVariable types (stable_variable written) saved variable

    found_next : (w : Variable TypeId) (ws : List (Variable TypeId)) (b : Bool) → nat_eq (label_id w.name) (label_id name) ≡ b → among (w ∷ ws) ≡ cond b (Some w) (among ws)
    found_next w ws b is = ap (λ (c : Bool). cond c (Some w) (among ws)) is

    pub saved_at : (stable : List Written) (parts : List (List Datum)) (variables : List (Variable TypeId)) (k place : ℕ) → AreVariables types (map stable_variable stable) parts variables → place_from k stable name ≡ Some place → IsSavedAt stable parts variables k place
    saved_at [] parts variables k place are is = absurd (let e : None ≡ Some place = is in cc)
    saved_at (v ∷ vs) [] variables k place are is = absurd are
    saved_at (v ∷ vs) (p ∷ ps) [] k place are is = absurd are
    saved_at (v ∷ vs) (p ∷ ps) (w ∷ ws) k place are is = by (named v) refl is (λ h. saved_at vs ps ws (suc k) place are.1 h)
      where
        by : (b : Bool) → named v ≡ b → cond b (Some k) (place_from (suc k) vs name) ≡ Some place → (place_from (suc k) vs name ≡ Some place → IsSavedAt vs ps ws (suc k) place) → IsSavedAt (v ∷ vs) (p ∷ ps) (w ∷ ws) k place
        by true e h behind =
            let f : Some k ≡ Some place = h in
            let same : k ≡ place = cc in
            record {
              at = 0;
              is = let more : k ≡ k + 0 = omega arith in sym same ∙ more;
              written = v;
              saved = p;
              variable = w;
              there = refl;
              has = refl;
              found = found_next w ws true (ap (λ (n : Bytes). nat_eq (label_id n) (label_id name)) are.0.name ∙ e);
              so = are.0;
            }
        by false e h behind =
            let rest : IsSavedAt vs ps ws (suc k) place = behind h in
            record {
              at = suc rest.at;
              is = let more : suc k + rest.at ≡ k + suc rest.at = omega arith in rest.is ∙ more;
              written = rest.written;
              saved = rest.saved;
              variable = rest.variable;
              there = rest.there;
              has = rest.has;
              found = found_next w ws false (ap (λ (n : Bytes). nat_eq (label_id n) (label_id name)) are.0.name ∙ e) ∙ rest.found;
              so = rest.so;
            }

    pub saved_nowhere : (stable : List Written) (parts : List (List Datum)) (variables : List (Variable TypeId)) (k : ℕ) → AreVariables types (map stable_variable stable) parts variables → place_from k stable name ≡ None → among variables ≡ None
    saved_nowhere [] [] [] k are is = refl
    saved_nowhere [] [] (w ∷ ws) k are is = absurd are
    saved_nowhere [] (p ∷ ps) variables k are is = absurd are
    saved_nowhere (v ∷ vs) [] variables k are is = absurd are
    saved_nowhere (v ∷ vs) (p ∷ ps) [] k are is = absurd are
    saved_nowhere (v ∷ vs) (p ∷ ps) (w ∷ ws) k are is = by (named v) refl is (λ h. saved_nowhere vs ps ws (suc k) are.1 h)
      where
        by : (b : Bool) → named v ≡ b → cond b (Some k) (place_from (suc k) vs name) ≡ None → (place_from (suc k) vs name ≡ None → among ws ≡ None) → among (w ∷ ws) ≡ None
        by true e h behind = absurd (let f : Some k ≡ None = h in cc)
        by false e h behind = found_next w ws false (ap (λ (n : Bytes). nat_eq (label_id n) (label_id name)) are.0.name ∙ e) ∙ behind h

-- ---- what is taken over of it

module _ (old new : Types) (stable : List Written) (parts : List (List Datum)) (v : Written) where
  pub taken_fresh : (ns : List ArenaNode) → place_from 0 stable v.name ≡ None → IsTakenOver ns (taken_wanted old new stable parts v) taken.Fresh ns
  taken_fresh ns none = record {
    grows = begins ns;
    within = tt;
    means = λ w wanted.
        let At : starting.Taken → Type 0 = λ z. IsTaken ns z taken.Fresh in
        subst At (sym (wanted.is ∙ ap (starting.taken wanted.coding old new (stable_variable v)) (saved_nowhere v.name old stable parts wanted.variables 0 wanted.saved none))) tt;
  }

  pub taken_there : (place : ℕ) (from : TypeId) (saved : List Datum) (first second : List ArenaNode) (r : Taken) → place_from 0 stable v.name ≡ Some place → Some from ≡ map_option (λ x. x.of_type) (slice_get stable place) → Some saved ≡ slice_get parts place
      → IsTakenOver first (kept_wanted old new from v.of_type saved) r second → IsTakenOver first (taken_wanted old new stable parts v) r second
  taken_there place from saved first second r some typed_by has h = record {
    grows = h.grows;
    within = h.within;
    means = λ w wanted.
        let s = saved_at v.name old stable parts wanted.variables 0 place wanted.saved some in
        let none_before : 0 + s.at ≡ s.at = omega arith in
        let at : place ≡ s.at = s.is ∙ none_before in
        let e : Some from ≡ Some s.written.of_type = typed_by ∙ ap (λ (n : ℕ). map_option (λ (x : Written). x.of_type) (slice_get stable n)) at ∙ ap (map_option (λ (x : Written). x.of_type)) s.there in
        let f : Some saved ≡ Some s.saved = has ∙ ap (λ (n : ℕ). slice_get parts n) at ∙ s.has in
        let typed_as : from ≡ s.written.of_type = cc in
        let same : saved ≡ s.saved = cc in
        let Of : TypeId → Type 0 = λ t. HaveTypes (head_at old) (t ∷ []) s.variable.value in
        h.means w (record {
          coding = wanted.coding;
          faithful = wanted.faithful;
          value = s.variable.value;
          typed = subst Of (sym typed_as) s.so.typed;
          spelled = same ∙ s.so.value;
          is =
              wanted.is
              ∙ ap (starting.taken wanted.coding old new (stable_variable v)) s.found
              ∙ ap (λ (t : TypeId). starting.taken_values new v.of_type (wanted.coding.keep old new t v.of_type s.variable.value)) (s.so.type ∙ sym typed_as);
        });
  }
