-- What a body goes on with.
use Rattle.std.proofs.Common.{◌≡◌, ℕ, List, [], ◌∷◌, length, get_or, Option, Some, None, refl, sym, ap, ap₂, ◌∙◌, subst, arith}
use Rattle.mo_types.specs.declared.node.TypeId.{TypeId}
use Rattle.mo_types.specs.Graph.{Slot}
use Rattle.mo_values.specs.declared.error_code.ErrorCode.{ErrorCode}
use Rattle.mo_values.specs.Shapes.{Bytes, Error, Tuple}
use Rattle.typed_tree.specs.Language.{Functions}
use Rattle.typed_tree.specs.Language as typed
use Rattle.mo_meaning.specs.Actor.{reject_code, results_given}
use Rattle.mo_meaning.specs.Acts as acts
use Rattle.mo_meaning.specs.Coding.{Coding}
use Rattle.mo_meaning.specs.Messages as meaning
use Rattle.mo_meaning.specs.Messages.{read_values}
use Rattle.mo_meaning.specs.Places.{values_of_list}
use Rattle.mo_machine.specs.Values.{Values, Made, AValue, NoValue, gathered, listed, load, load_all, load_list}
use Rattle.value_arena.specs.declared.node.Node.{Node}
use Rattle.value_arena.specs.declared.node.ValueId.{ValueId}
use Rattle.value_arena.specs.Growth.{AreWithin, IsValueAdded}
use Rattle.value_arena.specs.Meaning.{values_of}
use Rattle.value_arena.proofs.Growing.{begins, composes}
use Rattle.arena_states.specs.Standing.{list_of}
use Rattle.arena_executions.specs.declared.giving.Given.{Given}
use Rattle.arena_executions.specs.declared.giving.Given.TheVariants as given
use Rattle.arena_reading.specs.Opening.{AreRead, IsReadAs}
use Rattle.arena_actors.specs.declared.actor.Filled.{Filled}
use Rattle.arena_actors.specs.declared.actor.Filled.TheVariants as filled
use Rattle.arena_actors.specs.States.{answer_of}
use Rattle.arena_events.specs.Filling.{packed, AreGiven, IsGivenAs}

-- the parts of a tuple are loaded one by one
loaded : (vs : List typed.Value) → load_all (values_of_list vs) ≡ gathered (load_list vs)
loaded [] = refl
loaded (v ∷ vs) = ap (λ (inside : Values). AValue (load v) inside) (loaded vs)

packed_is : (vs : List typed.Value) → load (meaning.packed vs) ≡ packed (load_list vs)
packed_is [] = refl
packed_is (v ∷ []) = refl
packed_is (v ∷ w ∷ vs) = ap (λ (inside : Values). Made Tuple inside) (loaded (v ∷ w ∷ vs))

inside_again : (vs : Values) → gathered (listed vs) ≡ vs
inside_again NoValue = refl
inside_again (AValue v vs) = ap (λ (inside : Values). AValue v inside) (inside_again vs)

pub tuple_made : (old new : List Node) (ids parts : List ValueId) (v : ValueId) → parts ≡ ids → IsValueAdded old (λ groups. Made Tuple (values_of groups old parts)) v new
    → IsValueAdded old (λ groups. Made Tuple (gathered (list_of groups old ids))) v new
tuple_made old new ids parts v same added = record {
  grows = added.grows;
  within = added.within;
  means = λ groups.
      added.means groups
      ∙ ap (λ (l : List ValueId). Made Tuple (values_of groups old l)) same
      ∙ ap (λ (inside : Values). Made Tuple inside) (sym (inside_again (values_of groups old ids)));
}

pub packed_one : (ns : List Node) (ids : List ValueId) (d : ValueId) → length ids ≡ 1 → AreWithin ns ids → IsValueAdded ns (λ groups. packed (list_of groups ns ids)) (get_or ids 0 d) ns
packed_one ns [] d h k = absurd (omega (arith, h))
packed_one ns (id ∷ []) d h k = record { grows = begins ns; within = k.0; means = λ groups. refl }
packed_one ns (id ∷ other ∷ ids) d h k = absurd (omega (arith, h))

packed_tuple : (groups : ℕ → Functions) (ns : List Node) (ids : List ValueId) → (length ids ≡ 1 → ⊥) → Made Tuple (gathered (list_of groups ns ids)) ≡ packed (list_of groups ns ids)
packed_tuple groups ns [] h = refl
packed_tuple groups ns (id ∷ []) h = absurd (h refl)
packed_tuple groups ns (id ∷ other ∷ ids) h = refl

pub packed_many : (old new : List Node) (ids : List ValueId) (v : ValueId) → (length ids ≡ 1 → ⊥) → IsValueAdded old (λ groups. Made Tuple (gathered (list_of groups old ids))) v new
    → IsValueAdded old (λ groups. packed (list_of groups old ids)) v new
packed_many old new ids v h added = record { grows = added.grows; within = added.within; means = λ groups. added.means groups ∙ packed_tuple groups old ids h }

module _ (types : List Slot) (ts : List TypeId) (bytes : Bytes) (old mid : List Node) where
  read_given : (new : List Node) (ids : List ValueId) (v : ValueId) → AreRead types ts bytes old (Some ids) mid → IsValueAdded mid (λ groups. packed (list_of groups mid ids)) v new
      → AreGiven types (filled.Replied ts bytes) old (Some (given.Gets v)) new
  read_given new ids v read added = record {
    grows = composes old mid new read.grows added.grows;
    within = added.within;
    means = λ coding faithful groups. by groups (read_values coding types ts bytes) (read.means coding faithful);
  }
    where
      by : (groups : ℕ → Functions) (o : Option (List typed.Value)) → IsReadAs mid o (Some ids) → IsGivenAs groups new (results_given o) (Some (given.Gets v))
      by groups (Some vs) h = packed_is vs ∙ ap packed (sym (h.1 groups)) ∙ sym (added.means groups)
      by groups None h = absurd h

  unread_given : AreRead types ts bytes old None mid → AreGiven types (filled.Replied ts bytes) old None mid
  unread_given read = record { grows = read.grows; within = tt; means = λ coding faithful groups. by groups (read_values coding types ts bytes) (read.means coding faithful) }
    where
      by : (groups : ℕ → Functions) (o : Option (List typed.Value)) → IsReadAs mid o None → IsGivenAs groups mid (results_given o) None
      by groups (Some vs) h = absurd h
      by groups None h = tt

module _ (types : List Slot) (ts us : List TypeId) (bytes cs : Bytes) (old mid : List Node) (typed_so : us ≡ ts) (spelled : cs ≡ bytes) where
  along : (o : Option (List ValueId)) → AreRead types us cs old o mid → AreRead types ts bytes old o mid
  along o read =
      let Of : List TypeId → Type 0 = λ l. AreRead types l bytes old o mid in
      let At : Bytes → Type 0 = λ b. AreRead types us b old o mid in
      subst Of typed_so (subst At spelled read)

  pub reply_given : (new : List Node) (ids ks : List ValueId) (v : ValueId) → ks ≡ ids → AreRead types us cs old (Some ids) mid → IsValueAdded mid (λ groups. packed (list_of groups mid ks)) v new
      → AreGiven types (filled.Replied ts bytes) old (Some (given.Gets v)) new
  reply_given new ids ks v same read added =
      let Of : List ValueId → Type 0 = λ l. IsValueAdded mid (λ groups. packed (list_of groups mid l)) v new in
      read_given types ts bytes old mid new ids v (along (Some ids) read) (subst Of same added)

  pub reply_unread : AreRead types us cs old None mid → AreGiven types (filled.Replied ts bytes) old None mid
  reply_unread read = unread_given types ts bytes old mid (along None read)

pub reject_given : (types : List Slot) (code : ℕ) (text copy : Bytes) (number : ErrorCode) (old new : List Node) (v : ValueId) → copy ≡ text → number ≡ reject_code code
    → IsValueAdded old (λ groups. Made (Error number copy) NoValue) v new → AreGiven types (filled.Rejected code text) old (Some (given.Fails v)) new
reject_given types code text copy number old new v said counted added = record {
  grows = added.grows;
  within = added.within;
  means = λ coding faithful groups. ap₂ (λ (k : ErrorCode) (t : Bytes). Made (Error k t) NoValue) (sym counted) (sym said) ∙ sym (added.means groups);
}

pub nothing_given : (types : List Slot) (f : Filled) (old : List Node) → ((coding : Coding) → answer_of coding types f ≡ None) → AreGiven types f old None old
nothing_given types f old none = record {
  grows = begins old;
  within = tt;
  means = λ coding faithful groups. let Of : Option acts.Given → Type 0 = λ o. IsGivenAs groups old o None in subst Of (sym (none coding)) tt;
}

-- it is what the future was filled with
pub given_so : (types : List Slot) (f form : Filled) (old new : List Node) (o : Option Given) → f ≡ form → AreGiven types form old o new → AreGiven types f old o new
given_so types f form old new o is h = let Of : Filled → Type 0 = λ x. AreGiven types x old o new in subst Of (sym is) h
