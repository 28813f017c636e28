-- What meeting a type makes of the state.
use Rattle.std.proofs.Common.{◌≡◌, ℕ, Bool, List, [], ◌∷◌, ◌++◌, length, slice_get, Option, Some, None, ◌<◌, refl, sym, ap, ◌∙◌, subst}
use Rattle.std.specs.Prelude.{Result, Ok, Err, IfOk, OnOk, IfSome, IfNone}
use Rattle.mo_types.specs.Heads.{map_option}
use Rattle.mo_types.specs.declared.node.TypeId.{TypeId}
use Rattle.mo_types.specs.declared.node.Node.{Node}
use Rattle.mo_types.specs.Graph.{Slot, head_at, node_at, node_of_slot}
use Rattle.mo_types.specs.Sub.{Each, IsSubtype}
use Rattle.mo_subtype.specs.Renamed.{on_node}
use Rattle.typed_tree.specs.Instances.{types_in}
use Rattle.typing_rules.specs.Heads.{head}
use Rattle.typing_rules.specs.Graphs.{term_of}
use Rattle.type_terms.specs.declared.form.Form.{Form}
use Rattle.type_terms.specs.declared.form.TermId.{TermId}
use Rattle.typing_rules.specs.Terms.{Term}
use Rattle.type_definitions.specs.declared.chains.Outcome.{Outcome}
use Rattle.type_definitions.specs.Tables.{Grows, Within, Makes}
use Rattle.type_definitions.specs.Definitions.{Listed, rules_in}
use Rattle.type_definitions.specs.Meanings.{term}
use Rattle.type_definitions.specs.Outcomes.{AreOutcomes}
use Rattle.type_definitions.proofs.Meanings.{later_on, within_on}
use Rattle.type_definitions.proofs.Unfolded.{stand_on, outcomes_on}
use Rattle.met_types.specs.Closing.{Covers, Formed, Extends, Keeps, NoRoom, Ready, terms_in}
use Rattle.met_types.specs.Reached.{IsMissing}
use Rattle.met_types.proofs.Indexing.{in_range}
use Rattle.met_types.specs.Overflowing.{Overflows}
use Rattle.met_types.specs.States.{State, state, Kept, Stands, Goes, Left, IsTerm, IsReached, MeetsFew, IsSo, IsBelowAnswer, IsNodeOf}
use Rattle.met_types.proofs.Meeting.{formed_one, covers_one, one_overflows, few_types, below_answer}

module _ (T : List Form) (D : Listed) (O : List Outcome) (R : List TermId) (G : List Slot) (id : TermId) where
  -- there is no room for the type
  pub overflows : (s : State) → state T D O R G ≡ s → Kept s → Within s.forms id → (R1 : List TermId) → NoRoom (id ∷ []) R1 → R1 ≡ R
      → (met : List Term) (t : Term) → Stands met s → IsTerm s id t → Overflows D (met ++ t ∷ []) T
  overflows s e = subst (λ (s : State). Kept s → Within s.forms id → (R1 : List TermId) → NoRoom (id ∷ []) R1 → R1 ≡ R → (met : List Term) (t : Term) → Stands met s → IsTerm s id t → Overflows D (met ++ t ∷ []) T) e
      (λ k w R1 r q met t c i. one_overflows D T G R id (length R) k.formed w (subst (NoRoom (id ∷ [])) q r) met t c i)

  pub outcomes_kept : (s : State) → state T D O R G ≡ s → Kept s → (os : List Outcome) → os ≡ O → AreOutcomes T D os
  outcomes_kept s e = subst (λ (s : State). Kept s → (os : List Outcome) → os ≡ O → AreOutcomes T D os) e (λ k os q. subst (AreOutcomes T D) (sym q) k.outcomes)

  pub formed_kept : (s : State) → state T D O R G ≡ s → Kept s → Within s.forms id → (R1 : List TermId) (G1 : List Slot) (n : ℕ) → Extends (id ∷ []) R R1 G G1 → n ≡ length R → Formed D T G1 R1 n
  formed_kept s e = subst (λ (s : State). Kept s → Within s.forms id → (R1 : List TermId) (G1 : List Slot) (n : ℕ) → Extends (id ∷ []) R R1 G G1 → n ≡ length R → Formed D T G1 R1 n) e
      (λ k w R1 G1 n x q. subst (Formed D T G1 R1) (sym q) (formed_one D T G G1 R R1 id k.formed w x))

  -- closing fails
  pub close_overflows : (s : State) → state T D O R G ≡ s → Kept s → Within s.forms id → (T2 : List Form) (R1 : List TermId) (G1 : List Slot) (n : TypeId) → slice_get R1 n.index ≡ Some id → Extends (id ∷ []) R R1 G G1
      → ((met : List Term) → Covers D met T R1 → Overflows D met T2) → (met : List Term) (t : Term) → Stands met s → IsTerm s id t → Overflows D (met ++ t ∷ []) T2
  close_overflows s e = subst (λ (s : State). Kept s → Within s.forms id → (T2 : List Form) (R1 : List TermId) (G1 : List Slot) (n : TypeId) → slice_get R1 n.index ≡ Some id → Extends (id ∷ []) R R1 G G1
      → ((met : List Term) → Covers D met T R1 → Overflows D met T2) → (met : List Term) (t : Term) → Stands met s → IsTerm s id t → Overflows D (met ++ t ∷ []) T2) e
      (λ k w T2 R1 G1 n at x f met t c i. f (met ++ t ∷ []) (covers_one D T G G1 R R1 id k.formed w x met t c i (n.index, at)))

  -- it is closed
  pub record Closed (s : State) (T2 : List Form) (R2 : List TermId) (G2 : List Slot) : Type 0 where
    pub kept : Kept (state T2 D O R2 G2)
    pub goes : Goes s (state T2 D O R2 G2)
    pub reached : IsReached (state T2 D O R2 G2) id
    pub stands : (met : List Term) (t : Term) → Stands met s → IsTerm s id t → Stands (met ++ t ∷ []) (state T2 D O R2 G2)
    pub few : (met : List Term) (t : Term) → Stands met s → IsTerm s id t → MeetsFew (state T2 D O R2 G2) (met ++ t ∷ [])

  pub closed : (s : State) → state T D O R G ≡ s → Kept s → Within s.forms id → (T2 : List Form) (R1 R2 : List TermId) (G1 G2 : List Slot) (n : TypeId) → slice_get R1 n.index ≡ Some id → Extends (id ∷ []) R R1 G G1
      → Grows T T2 → Keeps R1 R2 → Formed D T2 G2 R2 (length R2) → ((met : List Term) → Covers D met T R1 → Covers D met T2 R2) → Closed s T2 R2 G2
  closed s e = subst (λ (s : State). Kept s → Within s.forms id → (T2 : List Form) (R1 R2 : List TermId) (G1 G2 : List Slot) (n : TypeId) → slice_get R1 n.index ≡ Some id → Extends (id ∷ []) R R1 G G1
      → Grows T T2 → Keeps R1 R2 → Formed D T2 G2 R2 (length R2) → ((met : List Term) → Covers D met T R1 → Covers D met T2 R2) → Closed s T2 R2 G2) e
      (λ k w T2 R1 R2 G1 G2 n at x g keep formed cover.
      let one = λ (met : List Term) (t : Term) (c : Covers D met T R) (i : IsTerm (state T D O R G) id t). cover (met ++ t ∷ []) (covers_one D T G G1 R R1 id k.formed w x met t c i (n.index, at)) in
      record {
        kept = record { stand = stand_on T T2 D g k.stand; outcomes = outcomes_on T T2 D O g k.outcomes; formed = formed };
        goes = record { forms = g; listed = refl; outcomes = refl; reached = λ i t h. keep i t (x.keeps i t h) };
        reached = (n.index, keep n.index id at);
        stands = one;
        few = λ met t c i later h. few_types D T2 G2 R2 formed later h (met ++ t ∷ []) (one met t c i);
      })

-- an answer on subtyping
pub below : (T : List Form) (D : Listed) (O : List Outcome) (R : List TermId) (G : List Slot) (s : State) → state T D O R G ≡ s → Kept s → (x y : TermId) (a b : TypeId) → slice_get R a.index ≡ Some x → slice_get R b.index ≡ Some y
    → (is : Bool) → IsSo is (IsSubtype (head_at G) a b) → IsBelowAnswer s x y is
below T D O R G s e = subst (λ (s : State). Kept s → (x y : TermId) (a b : TypeId) → slice_get R a.index ≡ Some x → slice_get R b.index ≡ Some y
    → (is : Bool) → IsSo is (IsSubtype (head_at G) a b) → IsBelowAnswer s x y is) e
    (λ k x y a b p q is h later l. below_answer D T G R k.formed later l a b x y is p q h)

pub if_ok : {A E : Type 0} (r : Result A E) (P Q : A → Type 0) → IfOk r P → ((a : A) → P a → Q a) → IfOk r Q
if_ok (Ok a) P Q h k = k a h
if_ok (Err e) P Q h k = tt

pub on_ok_four : {A E : Type 0} (r : Result A E) (P Q S U V : Type 0) → OnOk r P → OnOk r Q → OnOk r S → OnOk r U → (P → Q → S → U → V) → OnOk r V
on_ok_four (Ok a) P Q S U V p q s u k = k p q s u
on_ok_four (Err e) P Q S U V p q s u k = tt

-- more terms are made
pub record Grown (s : State) (T2 : List Form) (D : Listed) (O : List Outcome) (R : List TermId) (G : List Slot) : Type 0 where
  pub kept : Kept (state T2 D O R G)
  pub goes : Goes s (state T2 D O R G)
  pub stands : (met : List Term) → Stands met s → Stands met (state T2 D O R G)

pub grown : (T T2 : List Form) (D : Listed) (O : List Outcome) (R : List TermId) (G : List Slot) (s : State) → state T D O R G ≡ s → Kept s → Grows T T2 → Grown s T2 D O R G
grown T T2 D O R G s e = subst (λ (s : State). Kept s → Grows T T2 → Grown s T2 D O R G) e
    (λ k g. record {
      kept = record {
        stand = stand_on T T2 D g k.stand;
        outcomes = outcomes_on T T2 D O g k.outcomes;
        formed = record {
          many = k.formed.many;
          different = k.formed.different;
          fits = k.formed.fits;
          within = λ i t h. within_on T T2 t g (k.formed.within i t h);
          ready = λ i b. (let r = k.formed.ready i b in record { own = r.own; node = r.node; there = r.there; slot = r.slot; parts = r.parts; is = λ later h. r.is later (later_on T T2 later g h) });
          waiting = k.formed.waiting;
        };
      };
      goes = record { forms = g; listed = refl; outcomes = refl; reached = λ i t h. h };
      stands = λ met c. record {
        from = λ later h. c.from later (later_on T T2 later g h);
        all = λ later h. c.all later (later_on T T2 later g h);
      };
    })

pub makes_at : (T : List Form) (D : Listed) (O : List Outcome) (R : List TermId) (G : List Slot) (s : State) → state T D O R G ≡ s → (P : List Form → Type 0) (id : TermId) (T2 : List Form) → Makes T P id T2 → Makes s.forms P id T2
makes_at T D O R G s e P id T2 = subst (λ (s : State). Makes T P id T2 → Makes s.forms P id T2) e (λ m. m)

pub if_ok_on : {A E : Type 0} (r : Result A E) (P : A → Type 0) (Q : Type 0) → IfOk r P → ((a : A) → P a → Q) → OnOk r Q
if_ok_on (Ok a) P Q h k = k a h
if_ok_on (Err e) P Q h k = tt

-- the head of a type of the graph
pub node_there : (T : List Form) (D : Listed) (O : List Outcome) (R : List TermId) (G : List Slot) (s : State) → state T D O R G ≡ s → Kept s → (id : TermId) (at : TypeId) (n : Node TypeId) → slice_get R at.index ≡ Some id → node_at G at ≡ Some n → IsNodeOf s id n
node_there T D O R G s e = subst (λ (s : State). Kept s → (id : TermId) (at : TypeId) (n : Node TypeId) → slice_get R at.index ≡ Some id → node_at G at ≡ Some n → IsNodeOf s id n) e
    (λ k id at n h g. same k id at n h g (k.formed.ready at.index (in_range R at.index id h)))
  where
    same : Kept (state T D O R G) → (id : TermId) (at : TypeId) (n : Node TypeId) → slice_get R at.index ≡ Some id → node_at G at ≡ Some n → Ready D T G R at.index → IsNodeOf (state T D O R G) id n
    same k id at n h g r =
        let own : Some r.own ≡ Some id = sym r.there ∙ h in
        let e : r.own ≡ id = cc in
        let slot : Some r.node ≡ Some n = sym (ap node_of_slot r.slot) ∙ g in
        let f : r.node ≡ n = cc in
        record {
          parts = subst (λ (m : Node TypeId). Each (λ p. p.index < length R) (types_in m)) f r.parts;
          is = λ later l. ap (λ (t : TermId). head (rules_in later D) (term later t)) (sym e) ∙ (r.is later l ∙ ap (on_node (term_of (terms_in later R))) f);
        }

pub no_node : (T : List Form) (D : Listed) (O : List Outcome) (R : List TermId) (G : List Slot) (s : State) → state T D O R G ≡ s → Kept s → (id : TermId) (at : TypeId) → slice_get R at.index ≡ Some id → node_at G at ≡ None → ⊥
no_node T D O R G s e = subst (λ (s : State). Kept s → (id : TermId) (at : TypeId) → slice_get R at.index ≡ Some id → node_at G at ≡ None → ⊥) e
    (λ k id at h g. (let r = k.formed.ready at.index (in_range R at.index id h) in let z : Some r.node ≡ None = sym (ap node_of_slot r.slot) ∙ g in cc))

pub not_reached : (T : List Form) (D : Listed) (O : List Outcome) (R : List TermId) (G : List Slot) (s : State) → state T D O R G ≡ s → (id : TermId) → IsMissing R id → IsReached s id → ⊥
not_reached T D O R G s e = subst (λ (s : State). (id : TermId) → IsMissing R id → IsReached s id → ⊥) e (λ id m r. m r.0 r.1)

-- ---- what is found of a head

module _ {A B : Type 0} (f : A → B) where
  pub some_of : (o : Option A) (P : A → Type 0) → ((a : A) → map_option f o ≡ Some (f a) → P a) → IfSome o P
  some_of None P k = tt
  some_of (Some a) P k = k a refl

  pub none_of : (o : Option A) (P : Type 0) → (map_option f o ≡ None → P) → IfNone o P
  none_of None P k = k refl
  none_of (Some a) P k = tt

pub left_on : (T T2 : List Form) (D : Listed) (O : List Outcome) (R R2 : List TermId) (G G2 : List Slot) (s : State) → state T D O R G ≡ s → Grows T T2 → Left s (state T2 D O R2 G2)
left_on T T2 D O R R2 G G2 s e = subst (λ (s : State). Grows T T2 → Left s (state T2 D O R2 G2)) e (λ g. record { forms = g; listed = refl })
