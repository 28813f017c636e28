-- A list whose declarations are typed by themselves, and whose names are used where they stand, is typed in the order of evaluation.
use Rattle.std.proofs.Common.{◌≡◌, ◌⊎◌, inl, inr, ℕ, zero, suc, ◌<◌, Bool, true, false, List, [], ◌∷◌, ◌++◌, length, map, Option, Some, refl, sym, ap, ◌∙◌, subst, arith}
use Rattle.std.proofs.lemmas.Bool.{eqb-true}
use Rattle.std.proofs.lemmas.Slice.Eq.{bytes_eq-Decides}
use Rattle.std.specs.Prelude.{cond, nat_eq, filter, flat_map}
use Rattle.std.specs.Str.{bytes_eq}
use Rattle.mo_scopes.specs.Scopes.{named}
use Rattle.mo_types.specs.declared.node.TypeId.{TypeId}
use Rattle.mo_types.specs.Graph.{Slot, head_at}
use Rattle.subtype_laws.specs.Reached.{Among}
use Rattle.typed_tree.specs.declared.expression.Form.TheOpen as F
use Rattle.typed_tree.specs.declared.expression.Function.{Function}
use Rattle.typed_tree.specs.declared.expression.TypedExpression.{TypedExpression}
use Rattle.typed_tree.specs.ActionTypes.{Context}
use Rattle.typed_tree.specs.Placing.{Declared, place}
use Rattle.typed_tree.specs.Typing.{GroupStands, IsFunctionOf, Typed, with_names}
use Rattle.typed_tree.specs.Wants.{Want}
use Rattle.typed_tree.proofs.Rules.{steps}
use Rattle.typing_rules.specs.AbstractSyntax.{Bytes}
use Rattle.typing_rules.specs.AsyncPlaces.{Body}
use Rattle.typing_rules.specs.Contexts.{Bound, Scope}
use Rattle.typing_rules.specs.Definitions.{Definitions}
use Rattle.typing_rules.specs.Terms.{Term}
use Rattle.desugaring.specs.Frames.{Entry, value, Frame, with_entries, found_from}
use Rattle.desugaring.specs.Pieces.{Becomes, AStep, AFunction, AnExpression, Nothing, Piece, Named, function_of, group_at, names_of, is_end, arranged_from}
use Rattle.expression_laws.specs.Fitting.{StandsFor}
use Rattle.expression_laws.proofs.Naming.{found_next, same_bytes}
use Rattle.function_laws.proofs.Instances.{eqb-self}
use Rattle.list_laws.specs.Facts.{Fact, Evaluates, IsFunction, Other, scope_at, DefinedBefore, FunctionBefore, nth}
use Rattle.list_laws.specs.Facts as facts_of
use Rattle.list_laws.specs.Laws.{Walked, ListsAreTyped}
use Rattle.list_laws.specs.Standing.{entry_names, NoneKept, StandsAt, StandsIn}
use Rattle.list_laws.proofs.Reaching.{stands_beyond, kept_beyond}
use Rattle.list_laws.proofs.Stages as stages

lt_or_eq : (p n : ℕ) → p < suc n → (p < n) ⊎ (p ≡ n)
lt_or_eq p n h = by (nat_eq p n) refl where
  by : (b : Bool) → nat_eq p n ≡ b → (p < n) ⊎ (p ≡ n)
  by true e = inr (eqb-true p n e)
  by false e = inl (below (λ q. other q e)) where
    other : p ≡ n → nat_eq p n ≡ false → ⊥
    other q e = let t : true ≡ false = sym (subst (λ k. nat_eq p k ≡ true) q (eqb-self p)) ∙ e in cc

    below : (p ≡ n → ⊥) → p < n
    below absent = omega (arith, h, absent)

-- ---- what is known of each declaration

scope_next : (n : ℕ) (facts : List Fact) (base : Scope) (xs : List Bytes) (s : Scope) → nth n facts ≡ Some (Evaluates xs s) → scope_at (suc n) facts base ≡ s ++ scope_at n facts base
scope_next n [] base xs s e = cc
scope_next zero (Evaluates ys u ∷ facts) base xs s e = let f : Evaluates ys u ≡ Evaluates xs s = cc in scope_of f where
  scope_of : Evaluates ys u ≡ Evaluates xs s → scope_at zero facts (u ++ base) ≡ s ++ base
  scope_of f = let g : u ≡ s = cc in ap (λ z. z ++ base) g
scope_next zero (IsFunction y p b w ∷ facts) base xs s e = cc
scope_next zero (Other ∷ facts) base xs s e = cc
scope_next (suc n) (Evaluates ys u ∷ facts) base xs s e = scope_next n facts (u ++ base) xs s e
scope_next (suc n) (IsFunction y p b w ∷ facts) base xs s e = scope_next n facts base xs s e
scope_next (suc n) (Other ∷ facts) base xs s e = scope_next n facts base xs s e

-- another declaration enters nothing
abbrev EntersNone : Fact → Type 0
EntersNone (Evaluates xs s) = ⊥
EntersNone x = Unit {0}

scope_same : (n : ℕ) (facts : List Fact) (base : Scope) (x : Fact) → nth n facts ≡ Some x → EntersNone x → scope_at (suc n) facts base ≡ scope_at n facts base
scope_same n [] base x e h = cc
scope_same zero (Evaluates ys u ∷ facts) base x e h = let f : Evaluates ys u ≡ x = cc in absurd (subst EntersNone (sym f) h)
scope_same zero (IsFunction y p b w ∷ facts) base x e h = refl
scope_same zero (Other ∷ facts) base x e h = refl
scope_same (suc n) (Evaluates ys u ∷ facts) base x e h = scope_same n facts (u ++ base) x e h
scope_same (suc n) (IsFunction y p b w ∷ facts) base x e h = scope_same n facts base x e h
scope_same (suc n) (Other ∷ facts) base x e h = scope_same n facts base x e h

defined_next : (n : ℕ) (y : Bytes) (facts : List Fact) (xs : List Bytes) (s : Scope) → nth n facts ≡ Some (Evaluates xs s) → DefinedBefore (suc n) y facts → Among y xs ⊎ DefinedBefore n y facts
defined_next n y [] xs s e m = cc
defined_next zero y (Evaluates ys u ∷ facts) xs s e (inl m) = let f : Evaluates ys u ≡ Evaluates xs s = cc in let g : ys ≡ xs = cc in inl (subst (λ z. Among y z) g m)
defined_next zero y (Evaluates ys u ∷ facts) xs s e (inr m) = absurd m
defined_next zero y (IsFunction z p b w ∷ facts) xs s e m = cc
defined_next zero y (Other ∷ facts) xs s e m = cc
defined_next (suc n) y (Evaluates ys u ∷ facts) xs s e (inl m) = inr (inl m)
defined_next (suc n) y (Evaluates ys u ∷ facts) xs s e (inr m) = on (defined_next n y facts xs s e m) where
  on : Among y xs ⊎ DefinedBefore n y facts → Among y xs ⊎ (Among y ys ⊎ DefinedBefore n y facts)
  on (inl q) = inl q
  on (inr q) = inr (inr q)
defined_next (suc n) y (IsFunction z p b w ∷ facts) xs s e m = defined_next n y facts xs s e m
defined_next (suc n) y (Other ∷ facts) xs s e m = defined_next n y facts xs s e m

defined_same : (n : ℕ) (y : Bytes) (facts : List Fact) (x : Fact) → nth n facts ≡ Some x → EntersNone x → DefinedBefore (suc n) y facts → DefinedBefore n y facts
defined_same n y [] x e h m = cc
defined_same zero y (Evaluates ys u ∷ facts) x e h m = let f : Evaluates ys u ≡ x = cc in absurd (subst EntersNone (sym f) h)
defined_same zero y (IsFunction z p b w ∷ facts) x e h m = m
defined_same zero y (Other ∷ facts) x e h m = m
defined_same (suc n) y (Evaluates ys u ∷ facts) x e h (inl m) = inl m
defined_same (suc n) y (Evaluates ys u ∷ facts) x e h (inr m) = inr (defined_same n y facts x e h m)
defined_same (suc n) y (IsFunction z p b w ∷ facts) x e h m = defined_same n y facts x e h m
defined_same (suc n) y (Other ∷ facts) x e h m = defined_same n y facts x e h m

decided : (y : Bytes) (xs : List Bytes) → Among y xs ⊎ (Among y xs → ⊥)
decided y [] = inr (λ m. m)
decided y (x ∷ xs) = by (bytes_eq x y) refl (decided y xs) where
  by : (b : Bool) → bytes_eq x y ≡ b → Among y xs ⊎ (Among y xs → ⊥) → Among y (x ∷ xs) ⊎ (Among y (x ∷ xs) → ⊥)
  by true e rest = inl (inl (same_bytes x y e))
  by false e (inl m) = inl (inr m)
  by false e (inr n) = inr other where
    other : Among y (x ∷ xs) → ⊥
    other (inl q) = let t : true ≡ false = sym ((bytes_eq-Decides x y).1 q) ∙ e in absurd (let z : true ≡ false = t in cc)
    other (inr m) = n m

module _ (defs : Definitions) (slots : List Slot) (terms : List Term) (number : Term → TypeId) (body : Body) (base : Scope) (f0 : Frame) (c0 : Context) (outer : List Bytes) (facts : List Fact) where
  abbrev vs : List ℕ
  vs = c0.parameters

  abbrev Stands : Frame → Context → Bytes → Bound → Type 0
  Stands f c y b = StandsIn defs slots terms number vs body f.names c.names y b

  abbrev Around : List Bytes → Scope → Frame → Context → Type 0
  Around = facts_of.Around defs slots terms number body base f0 c0 outer facts

  abbrev Reach : ℕ → ℕ → Bytes → Type 0
  Reach = facts_of.Reach defs slots terms number body base f0 c0 outer facts

  abbrev At : ℕ → ℕ → Frame → Context → Type 0
  At = facts_of.At defs slots terms number body base f0 c0 outer facts

  around_at : (k n : ℕ) (f : Frame) (c : Context) → At k n f c → (uses : List Bytes) → ((y : Bytes) → Among y uses → Reach k n y) → Around uses (scope_at n facts base) f c
  around_at k n f c h uses r = record { stand = λ y m b e. h.stand y (r y m) b e; kept = h.kept; exits = h.exits; labels = h.labels; body_is = h.body_is; parameters = h.parameters }

  module _ (all : List Declared) (pieces : List Piece) (has_value : Bool) (of_list : Want TypeId) where
    -- the value of the list
    abbrev Last : TypedExpression → Context → Type 0
    Last e d = Typed slots e d of_list

    abbrev IsFact : ℕ → Bool → Declared → Becomes → Fact → Type 0
    IsFact = facts_of.IsFact defs slots terms number body base f0 c0 outer facts all pieces has_value of_list

    abbrev AreFacts : ℕ → List Piece → List Fact → Type 0
    AreFacts = facts_of.AreFacts defs slots terms number body base f0 c0 outer facts all pieces has_value of_list

    abbrev FunctionFact : Declared → Bytes → (Frame → Function) → Bytes → ℕ → Bound → Want TypeId → Type 0
    FunctionFact = facts_of.FunctionFact defs slots terms number body base f0 c0 outer facts all

    -- ---- one declaration

    -- one that enters no names
    stays : (n : ℕ) (x : Fact) → nth n facts ≡ Some x → EntersNone x → (f : Frame) (c : Context) → At (suc n) n f c → At (suc n) (suc n) f c
    stays n x e none f c h = record {
      stand = λ y r b k. h.stand y (same y r) b (ap (λ z. named z y) (sym (scope_same n facts base x e none)) ∙ k);
      kept = h.kept;
      exits = h.exits;
      labels = h.labels;
      body_is = h.body_is;
      parameters = h.parameters;
    }
      where
        same : (y : Bytes) → Reach (suc n) (suc n) y → Reach (suc n) n y
        same y (inl o) = inl o
        same y (inr (inl m)) = inr (inl (defined_same n y facts x e none m))
        same y (inr (inr m)) = inr (inr m)

    passes : (n : ℕ) (last : Bool) (d : Declared) (b : Becomes) (x : Fact) → nth n facts ≡ Some x → IsFact n last d b x → stages.Passes slots all pieces has_value At of_list n last b
    passes n last d (AStep binds step) (Evaluates xs s) e i = λ f c h.
        let q = i.typed f c (around_at (suc n) n f c h i.uses i.there) in (
          q.0,
          q.1,
          record {
            stand = λ y r b k. on f c h q.0 q.2 q.3 y r b k (decided y xs);
            kept = λ x. kept_beyond binds f.names q.0 c.names x i.none_kept q.2 ∙ h.kept x;
            exits = h.exits;
            labels = h.labels;
            body_is = h.body_is;
            parameters = h.parameters;
          },
        )
      where
        earlier : (y : Bytes) → (Among y xs → ⊥) → Reach (suc n) (suc n) y → Reach (suc n) n y
        earlier y absent (inl o) = inl o
        earlier y absent (inr (inr k)) = inr (inr k)
        earlier y absent (inr (inl k)) = by (defined_next n y facts xs s e k) where
          by : Among y xs ⊎ DefinedBefore n y facts → Reach (suc n) n y
          by (inl m) = absurd (absent m)
          by (inr m) = inr (inl m)

        on : (f : Frame) (c : Context) → At (suc n) n f c → (ns : List (Want TypeId)) → length ns ≡ length binds
            → ((y : Bytes) → Among y xs → (u : Scope) (b : Bound) → named (s ++ u) y ≡ Some b → (rest : List Entry) (ms : List (Want TypeId)) → StandsIn defs slots terms number vs body (binds ++ rest) (ns ++ ms) y b)
            → (y : Bytes) → Reach (suc n) (suc n) y → (b : Bound) → named (scope_at (suc n) facts base) y ≡ Some b → Among y xs ⊎ (Among y xs → ⊥) → Stands (with_entries binds f) (with_names ns c) y b
        on f c h ns many new y r b k (inl m) = new y m (scope_at n facts base) b (ap (λ z. named z y) (sym (scope_next n facts base xs s e)) ∙ k) f.names c.names
        on f c h ns many new y r b k (inr absent) =
            stands_beyond defs slots terms number vs body binds f.names ns c.names y b (λ m. absent (subst (λ z. Among y z) i.names m)) many
            (h.stand y (earlier y absent r) b (sym (i.others y absent (scope_at n facts base)) ∙ (ap (λ z. named z y) (sym (scope_next n facts base xs s e)) ∙ k)))
    passes n last d (AFunction y g) (IsFunction x p b w) e i = λ f c h. stays n (IsFunction x p b w) e tt f c h
    passes n true d (AnExpression v) Other e i = λ f c h. i.typed f c (around_at (suc n) n f c h i.uses i.there)
    passes n false d (AnExpression v) Other e i = λ f c h. (i.typed f c (around_at (suc n) n f c h i.uses i.there), stays n Other e tt f c h)
    passes n last d Nothing Other e i = λ f c h. stays n Other e tt f c h
    passes n last d (AStep binds step) (IsFunction x p b w) e i = absurd i
    passes n last d (AStep binds step) Other e i = absurd i
    passes n last d (AFunction y g) (Evaluates xs s) e i = absurd i
    passes n last d (AFunction y g) Other e i = absurd i
    passes n last d (AnExpression v) (Evaluates xs s) e i = absurd i
    passes n last d (AnExpression v) (IsFunction x p b w) e i = absurd i
    passes n last d Nothing (Evaluates xs s) e i = absurd i
    passes n last d Nothing (IsFunction x p b w) e i = absurd i

    all_pass : (n : ℕ) (bs : List Piece) (xs : List Fact) → AreFacts n bs xs → stages.AllPass slots all pieces has_value At of_list n bs
    all_pass n [] xs h = tt
    all_pass n (b ∷ bs) [] h = absurd h
    all_pass n (b ∷ bs) (x ∷ xs) h = (passes n (is_end all pieces has_value bs) b.declared b.becomes x h.0 h.1, all_pass (suc n) bs xs h.2)

    -- ---- the functions that have one place

    abbrev choose : {A : Type 0} → ℕ → ℕ → A → List A → List A
    choose p n a rest = cond (nat_eq p n) (a ∷ rest) rest

    -- what their names stand for
    abbrev wants_at : ℕ → List Fact → List (Want TypeId)
    wants_at n [] = []
    wants_at n (IsFunction x p b w ∷ xs) = choose p n w (wants_at n xs)
    wants_at n (_ ∷ xs) = wants_at n xs

    abbrev chosen : ℕ → List Piece → List Piece
    chosen n bs = filter (λ b. nat_eq (place all b.declared) n) bs

    abbrev group : ℕ → List Piece → List Named
    group n bs = flat_map (λ b. function_of b.becomes) (chosen n bs)

    abbrev cut : ℕ → Piece → List Piece → List Piece
    cut n b rest = cond (nat_eq (place all b.declared) n) (b ∷ rest) rest

    -- a property of the group and of what its names stand for, piece by piece
    module _ (P : List Named → List (Want TypeId) → Type 0) (n : ℕ) (none : P [] [])
        (one : (m : ℕ) (b : Piece) (y : Bytes) (g : Frame → Function) (x : Bytes) (b' : Bound) (w : Want TypeId) → b.becomes ≡ AFunction y g → FunctionFact b.declared y g x n b' w → (gs : List Named) (ws : List (Want TypeId)) → P gs ws → P ((y, g) ∷ gs) (w ∷ ws)) where
      by_piece : (bs : List Piece) (xs : List Fact) (m : ℕ) → AreFacts m bs xs → P (group n bs) (wants_at n xs)
      by_piece [] [] m h = none
      by_piece [] (x ∷ xs) m h = absurd h
      by_piece (b ∷ bs) [] m h = absurd h
      by_piece (b ∷ bs) (x ∷ xs) m h = on (nat_eq (place all b.declared) n) refl (is_end all pieces has_value bs) b.becomes x refl h.1 (by_piece bs xs (suc m) h.2) where
        skipped : (t : Bool) (e : Becomes) → function_of e ≡ [] → P (group n bs) (wants_at n xs) → P (flat_map (λ z. function_of z.becomes) (cond t (record b { becomes = e } ∷ chosen n bs) (chosen n bs))) (wants_at n xs)
        skipped true e q k = subst (λ fs. P (fs ++ group n bs) (wants_at n xs)) (sym q) k
        skipped false e q k = k

        on : (t : Bool) → nat_eq (place all b.declared) n ≡ t → (l : Bool) (e : Becomes) (z : Fact) → b.becomes ≡ e → IsFact m l b.declared e z → P (group n bs) (wants_at n xs)
            → P (flat_map (λ z. function_of z.becomes) (cond (nat_eq (place all b.declared) n) (record b { becomes = e } ∷ chosen n bs) (chosen n bs))) (wants_at n (z ∷ xs))
        on t q l (AStep binds step) (Evaluates ys s) a i k = skipped (nat_eq (place all b.declared) n) (AStep binds step) refl k
        on t q l (AnExpression v) Other a i k = skipped (nat_eq (place all b.declared) n) (AnExpression v) refl k
        on t q l Nothing Other a i k = skipped (nat_eq (place all b.declared) n) Nothing refl k
        on t q l (AFunction y g) (IsFunction x' p b' w) a i k =
            subst (λ r. P (flat_map (λ z. function_of z.becomes) (cond (nat_eq (place all b.declared) n) (record b { becomes = AFunction y g } ∷ chosen n bs) (chosen n bs))) (cond r (w ∷ wants_at n xs) (wants_at n xs))) (ap (λ r. nat_eq r n) i.place_is)
            (subst (λ r. P (flat_map (λ z. function_of z.becomes) (cond r (record b { becomes = AFunction y g } ∷ chosen n bs) (chosen n bs))) (cond r (w ∷ wants_at n xs) (wants_at n xs))) (sym q) (taken t q))
          where
            taken : (t : Bool) → nat_eq (place all b.declared) n ≡ t → P (flat_map (λ z. function_of z.becomes) (cond t (record b { becomes = AFunction y g } ∷ chosen n bs) (chosen n bs))) (cond t (w ∷ wants_at n xs) (wants_at n xs))
            taken true q = one m b y g x' b' w a (subst (λ r. FunctionFact b.declared y g x' r b' w) (sym i.place_is ∙ eqb-true (place all b.declared) n q) i) (group n bs) (wants_at n xs) k
            taken false q = k
        on t q l (AStep binds step) (IsFunction x' p b' w) a i k = absurd i
        on t q l (AStep binds step) Other a i k = absurd i
        on t q l (AFunction y g) (Evaluates ys s) a i k = absurd i
        on t q l (AFunction y g) Other a i k = absurd i
        on t q l (AnExpression v) (Evaluates ys s) a i k = absurd i
        on t q l (AnExpression v) (IsFunction x' p b' w) a i k = absurd i
        on t q l Nothing (Evaluates ys s) a i k = absurd i
        on t q l Nothing (IsFunction x' p b' w) a i k = absurd i

    -- ---- what stands around behind a group

    abbrev first : List Named → List Bytes
    first [] = []
    first (g ∷ gs) = g.0 ∷ first gs

    first_names : (gs : List Named) → entry_names (names_of gs) ≡ first gs
    first_names [] = refl
    first_names (g ∷ gs) = ap (λ l. g.0 ∷ l) (first_names gs)

    none_kept : (gs : List Named) → NoneKept (names_of gs)
    none_kept [] = tt
    none_kept (g ∷ gs) = none_kept gs

    first_both : (gs hs : List Named) (y : Bytes) → Among y (first hs) → Among y (first (gs ++ hs))
    first_both [] hs y m = m
    first_both (g ∷ gs) hs y m = inr (first_both gs hs y m)

    -- as many names as what they stand for
    abbrev AsMany : List Named → List (Want TypeId) → Type 0
    AsMany gs ws = length ws ≡ length (names_of gs)

    -- each name of the group stands among them
    abbrev GroupStandsIn : ℕ → List Named → List (Want TypeId) → Type 0
    GroupStandsIn n gs ws =
        (y : Bytes) → Among y (first gs) → (b : Bound) → named (scope_at n facts base) y ≡ Some b → (rest : List Entry) (ms : List (Want TypeId)) → StandsIn defs slots terms number vs body (names_of gs ++ rest) (ws ++ ms) y b

    same_bound : (b c : Bound) (o : Option Bound) → o ≡ Some b → o ≡ Some c → b ≡ c
    same_bound b c o e f = let g : Some b ≡ Some c = sym e ∙ f in cc

    one_stands : (n : ℕ) (d : Declared) (y : Bytes) (g : Frame → Function) (x : Bytes) (b' : Bound) (w : Want TypeId) → FunctionFact d y g x n b' w → (gs : List Named) (ws : List (Want TypeId)) → GroupStandsIn n gs ws → GroupStandsIn n ((y, g) ∷ gs) (w ∷ ws)
    one_stands n d y g x b' w i gs ws k z m b e rest ms = by (bytes_eq y z) refl m where
      here : y ≡ z → StandsAt defs slots terms number vs body (record { index = zero; cell = false }) (w ∷ (ws ++ ms)) b
      here q =
          let at_x : named (scope_at n facts base) z ≡ Some b' = ap (λ v. named (scope_at n facts base) v) (sym q ∙ i.name) ∙ i.bound n in
          (w, refl, subst (λ v. StandsFor defs slots terms number vs body v false w) (same_bound b' b (named (scope_at n facts base) z) at_x e) i.stands)

      by : (t : Bool) → bytes_eq y z ≡ t → Among z (y ∷ first gs) → StandsAt defs slots terms number vs body (cond (bytes_eq y z) (record { index = zero; cell = false }) (found_from 1 (names_of gs ++ rest) z)) (w ∷ (ws ++ ms)) b
      by true q m = subst (λ t. StandsAt defs slots terms number vs body (cond t (record { index = zero; cell = false }) (found_from 1 (names_of gs ++ rest) z)) (w ∷ (ws ++ ms)) b) (sym q) (here (same_bytes y z q))
      by false q (inl r) = let t : true ≡ false = sym ((bytes_eq-Decides y z).1 r) ∙ q in absurd (let v : true ≡ false = t in cc)
      by false q (inr r) =
          subst (λ t. StandsAt defs slots terms number vs body (cond t (record { index = zero; cell = false }) (found_from 1 (names_of gs ++ rest) z)) (w ∷ (ws ++ ms)) b) (sym q)
          (subst (λ u. StandsAt defs slots terms number vs body u (w ∷ (ws ++ ms)) b) (sym (found_next zero (names_of gs ++ rest) z)) (k z r b e rest ms))

    -- the functions of the place are all in the group
    abbrev FunctionAt : ℕ → Bytes → List Fact → Type 0
    FunctionAt n y [] = ⊥
    FunctionAt n y (IsFunction x p b w ∷ xs) = ((y ≡ x) × (p ≡ n)) ⊎ FunctionAt n y xs
    FunctionAt n y (_ ∷ xs) = FunctionAt n y xs

    apart_from : (n : ℕ) (y : Bytes) (xs : List Fact) → FunctionBefore (suc n) y xs → FunctionBefore n y xs ⊎ FunctionAt n y xs
    apart_from n y [] m = absurd m
    apart_from n y (Evaluates ys s ∷ xs) m = apart_from n y xs m
    apart_from n y (Other ∷ xs) m = apart_from n y xs m
    apart_from n y (IsFunction x p b w ∷ xs) (inl q) = by (lt_or_eq p n q.1) where
      by : (p < n) ⊎ (p ≡ n) → (((y ≡ x) × (p < n)) ⊎ FunctionBefore n y xs) ⊎ (((y ≡ x) × (p ≡ n)) ⊎ FunctionAt n y xs)
      by (inl h) = inl (inl (q.0, h))
      by (inr h) = inr (inl (q.0, h))
    apart_from n y (IsFunction x p b w ∷ xs) (inr m) = on (apart_from n y xs m) where
      on : FunctionBefore n y xs ⊎ FunctionAt n y xs → (((y ≡ x) × (p < n)) ⊎ FunctionBefore n y xs) ⊎ (((y ≡ x) × (p ≡ n)) ⊎ FunctionAt n y xs)
      on (inl h) = inl (inr h)
      on (inr h) = inr (inr h)

    behind_one : (n : ℕ) (t : Bool) (b : Piece) (bs : List Piece) (y : Bytes) → Among y (first (group n bs)) → Among y (first (flat_map (λ z. function_of z.becomes) (cond t (b ∷ chosen n bs) (chosen n bs))))
    behind_one n true b bs y m = first_both (function_of b.becomes) (group n bs) y m
    behind_one n false b bs y m = m

    in_group : (n : ℕ) (y : Bytes) (bs : List Piece) (xs : List Fact) (m : ℕ) → AreFacts m bs xs → FunctionAt n y xs → Among y (first (group n bs))
    in_group n y [] [] m h q = absurd q
    in_group n y [] (x ∷ xs) m h q = absurd h
    in_group n y (b ∷ bs) [] m h q = absurd h
    in_group n y (b ∷ bs) (Evaluates ys s ∷ xs) m h q = behind_one n (nat_eq (place all b.declared) n) b bs y (in_group n y bs xs (suc m) h.2 q)
    in_group n y (b ∷ bs) (Other ∷ xs) m h q = behind_one n (nat_eq (place all b.declared) n) b bs y (in_group n y bs xs (suc m) h.2 q)
    in_group n y (b ∷ bs) (IsFunction x p c w ∷ xs) m h (inr q) = behind_one n (nat_eq (place all b.declared) n) b bs y (in_group n y bs xs (suc m) h.2 q)
    in_group n y (b ∷ bs) (IsFunction x p c w ∷ xs) m h (inl q) = by b.becomes refl h.1 where
      by : (e : Becomes) → b.becomes ≡ e → IsFact m (is_end all pieces has_value bs) b.declared e (IsFunction x p c w) → Among y (first (group n (b ∷ bs)))
      by (AStep binds step) a i = absurd i
      by (AnExpression v) a i = absurd i
      by Nothing a i = absurd i
      by (AFunction z g) a i =
          let here : nat_eq (place all b.declared) n ≡ true = subst (λ k. nat_eq k n ≡ true) (sym (i.place_is ∙ q.1)) (eqb-self n) in
          subst (λ t. Among y (first (flat_map (λ v. function_of v.becomes) (cond t (b ∷ chosen n bs) (chosen n bs))))) (sym here)
          (subst (λ v. Among y (first (function_of v ++ group n bs))) (sym a) (inl (i.name ∙ sym q.0)))

    module _ (given : AreFacts zero pieces facts) where
      behind_group : (n : ℕ) (f : Frame) (c : Context) → At n n f c → At (suc n) n (with_entries (names_of (group n pieces)) f) (with_names (wants_at n facts) c)
      behind_group n f c h = record {
        stand = λ y r b e. on y r b e (decided y (first (group n pieces)));
        kept = λ x. kept_beyond (names_of (group n pieces)) f.names (wants_at n facts) c.names x (none_kept (group n pieces)) many ∙ h.kept x;
        exits = h.exits;
        labels = h.labels;
        body_is = h.body_is;
        parameters = h.parameters;
      }
        where
          many : AsMany (group n pieces) (wants_at n facts)
          many = by_piece AsMany n refl (λ m b y g x b' w a i gs ws k. ap suc k) pieces facts zero given

          stand_in : GroupStandsIn n (group n pieces) (wants_at n facts)
          stand_in = by_piece (GroupStandsIn n) n (λ y m b e rest ms. absurd m) (λ m b y g x b' w a i gs ws k. one_stands n b.declared y g x b' w i gs ws k) pieces facts zero given

          earlier : (y : Bytes) → (Among y (first (group n pieces)) → ⊥) → Reach (suc n) n y → Reach n n y
          earlier y absent (inl o) = inl o
          earlier y absent (inr (inl m)) = inr (inl m)
          earlier y absent (inr (inr m)) = by (apart_from n y facts m) where
            by : FunctionBefore n y facts ⊎ FunctionAt n y facts → Reach n n y
            by (inl k) = inr (inr k)
            by (inr k) = absurd (absent (in_group n y pieces facts zero given k))

          on : (y : Bytes) → Reach (suc n) n y → (b : Bound) → named (scope_at n facts base) y ≡ Some b → Among y (first (group n pieces)) ⊎ (Among y (first (group n pieces)) → ⊥)
              → StandsIn defs slots terms number vs body (names_of (group n pieces) ++ f.names) (wants_at n facts ++ c.names) y b
          on y r b e (inl m) = stand_in y m b e f.names c.names
          on y r b e (inr absent) =
              stands_beyond defs slots terms number vs body (names_of (group n pieces)) f.names (wants_at n facts) c.names y b (λ m. absent (subst (λ z. Among y z) (first_names (group n pieces)) m)) many
              (h.stand y (earlier y absent r) b e)

      -- the functions of a group, all of which stand around each
      group_stands : (n : ℕ) (fi : Frame) (ci : Context) → At (suc n) n fi ci → GroupStands (head_at slots) (IsFunctionOf slots) ci (map (λ h. h.1 fi) (group n pieces)) (wants_at n facts)
      group_stands n fi ci h = by_piece (λ gs ws. GroupStands (head_at slots) (IsFunctionOf slots) ci (map (λ g. g.1 fi) gs) ws) n tt (λ m b y g x b' w a i gs ws k. (
        (
          i.signature,
          i.local,
          i.no_context,
          i.typed fi ci (record {
            stand = λ z q v e. h.stand z (i.there z q).0 v (sym (i.there z q).1 ∙ e);
            kept = h.kept;
            exits = h.exits;
            labels = h.labels;
            body_is = h.body_is;
            parameters = h.parameters;
          }),
          i.named_so,
        ),
        k,
      )) pieces facts zero given

      grouped : (n : ℕ) (f : Frame) (c : Context) → At n n f c → stages.Grouped slots all pieces has_value At of_list (group_at all n pieces) n f c
      grouped n f c h = by (group n pieces) (wants_at n facts) (behind_group n f c h) (λ fi ci k. group_stands n fi ci k) where
        by : (gs : List Named) (ws : List (Want TypeId)) → At (suc n) n (with_entries (names_of gs) f) (with_names ws c)
            → ((fi : Frame) (ci : Context) → At (suc n) n fi ci → GroupStands (head_at slots) (IsFunctionOf slots) ci (map (λ g. g.1 fi) gs) ws) → stages.Grouped slots all pieces has_value At of_list gs n f c
        by [] [] k s = record { stand = k.stand; kept = k.kept; exits = k.exits; labels = k.labels; body_is = k.body_is; parameters = k.parameters }
        by [] (w ∷ ws) k s = absurd (s (with_entries [] f) (with_names (w ∷ ws) c) k)
        by (g ∷ gs) ws k s =
            let fi = with_entries (names_of (g ∷ gs)) f in
            let ci = with_names ws c in
            (ws, (steps slots (F.Functions (map (λ h. h.1 fi) (g ∷ gs))) c ws).1 (s fi ci k), k)

      -- the whole list
      pub walked : At zero zero f0 c0 → Walked slots pieces At of_list (arranged_from all pieces has_value zero pieces f0) c0
      walked h = stages.walk slots all pieces has_value At of_list grouped zero pieces (omega arith) (all_pass zero pieces facts given) f0 c0 h

pub lists_are_typed : ListsAreTyped
lists_are_typed defs slots terms number body base f c outer facts pieces has_value of_list given around =
    walked defs slots terms number body base f c outer facts (map (λ b. b.declared) pieces) pieces has_value of_list given
    (record { stand = λ y r b e. by y r b e; kept = λ x. refl; exits = refl; labels = refl; body_is = refl; parameters = refl })
  where
    no_function : (y : Bytes) (xs : List Fact) → FunctionBefore zero y xs → ⊥
    no_function y [] m = m
    no_function y (Evaluates ys s ∷ xs) m = no_function y xs m
    no_function y (Other ∷ xs) m = no_function y xs m
    no_function y (IsFunction x p b w ∷ xs) (inl q) = absurd (omega (arith, q.1))
    no_function y (IsFunction x p b w ∷ xs) (inr m) = no_function y xs m

    by : (y : Bytes) → Among y outer ⊎ (DefinedBefore zero y facts ⊎ FunctionBefore zero y facts) → (b : Bound) → named base y ≡ Some b → StandsIn defs slots terms number c.parameters body f.names c.names y b
    by y (inl o) b e = around y o b e
    by y (inr (inl m)) b e = absurd m
    by y (inr (inr m)) b e = absurd (no_function y facts m)
