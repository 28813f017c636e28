-- Calls and activations through each change, seen side by side in two languages.
use Rattle.std.proofs.Common.{◌≡◌, ℕ, suc, zero, ◌+◌, Bool, true, false, ◌&&◌, ◌||◌, cond, if◌then◌else◌, List, [], ◌∷◌, ◌++◌, length, map, Option, Some, None, refl, sym, ap, ap₂, ◌∙◌, nat_eq, slice_set, eq-eqb, true≢false}
use Rattle.std.specs.List.{list_any}
use Rattle.play_script.specs.declared.item.Item.TheVariants as item
use Rattle.mo_types.specs.Calls.{State, Call, is_open_state, call_from, set_from}
use Rattle.mo_actor.specs.Languages.{Language}
use Rattle.mo_actor.specs.Programs.{Replies, Rejects, OutgoingCall, Ending, Answers, Awaits, AwaitsNothing, Unchanged}
use Rattle.mo_actor.specs.States.{Activation, IsAnswered, IsDead, WaitsFor, WaitsForNothing, or_answered, activation_at, is_answered, waiting_on}
use Rattle.mo_actor.specs.Outcomes.{call_items, answer_items}
use Rattle.mo_actor.specs.Completions.{activation_after, open_call}
use Rattle.mo_actor.specs.Passes.{held_calls, CallShape, call_shapes, AlikeActivations, AlikeCalls, AlikeEndings}
use Rattle.mo_actor.proofs.Lists.{get_set_other}

-- ---- shapes of calls

abbrev pub set_shape : ℕ → ℕ → Bool → List CallShape → List CallShape
set_shape n number b [] = []
set_shape n number b (h ∷ hs) = if nat_eq n number then record h { is_open = b } ∷ hs else h ∷ set_shape (suc n) number b hs

abbrev pub shape_from : ℕ → List CallShape → ℕ → Option CallShape
shape_from n [] number = None
shape_from n (h ∷ hs) number = if nat_eq n number then Some h else shape_from (suc n) hs number

module _ {T V : Type 0} where
  abbrev pub shape : Call T V → CallShape
  shape c = record { owner = c.owner; is_open = is_open_state c.state }

  abbrev pub shape_of : Option (Call T V) → Option CallShape
  shape_of None = None
  shape_of (Some c) = Some (shape c)

  pub owns_by : (owner : ℕ) (calls : List (Call T V)) → list_any (λ c. is_open_state c.state && nat_eq c.owner owner) calls ≡ list_any (λ h. h.is_open && nat_eq h.owner owner) (call_shapes calls)
  owns_by owner [] = refl
  owns_by owner (c ∷ calls) = ap (λ t. (is_open_state c.state && nat_eq c.owner owner) || t) (owns_by owner calls)

  pub length_by : (calls : List (Call T V)) → length calls ≡ length (call_shapes calls)
  length_by [] = refl
  length_by (c ∷ calls) = ap suc (length_by calls)

  pub set_by : (n number : ℕ) (st : State V) (calls : List (Call T V)) → call_shapes (set_from n calls number st) ≡ set_shape n number (is_open_state st) (call_shapes calls)
  set_by n number st [] = refl
  set_by n number st (c ∷ calls) = by (nat_eq n number) (set_by (suc n) number st calls)
    where
      by : (t : Bool) → call_shapes (set_from (suc n) calls number st) ≡ set_shape (suc n) number (is_open_state st) (call_shapes calls)
          → call_shapes (if t then record c { state = st } ∷ calls else c ∷ set_from (suc n) calls number st)
          ≡ (if t then record (shape c) { is_open = is_open_state st } ∷ call_shapes calls else shape c ∷ set_shape (suc n) number (is_open_state st) (call_shapes calls))
      by true next = refl
      by false next = ap (λ hs. shape c ∷ hs) next

  pub at_by : (n number : ℕ) (calls : List (Call T V)) → shape_of (call_from n calls number) ≡ shape_from n (call_shapes calls) number
  at_by n number [] = refl
  at_by n number (c ∷ calls) = by (nat_eq n number) (at_by (suc n) number calls)
    where
      by : (t : Bool) → shape_of (call_from (suc n) calls number) ≡ shape_from (suc n) (call_shapes calls) number
          → shape_of (if t then Some c else call_from (suc n) calls number) ≡ (if t then Some (shape c) else shape_from (suc n) (call_shapes calls) number)
      by true next = refl
      by false next = next

  pub shapes_both : (xs ys : List (Call T V)) → call_shapes (xs ++ ys) ≡ call_shapes xs ++ call_shapes ys
  shapes_both [] ys = refl
  shapes_both (c ∷ xs) ys = ap (λ hs. shape c ∷ hs) (shapes_both xs ys)

-- ---- activations side by side

module _ {S T : Language} where
  pub alike_push : (xs : List (Activation S)) (ys : List (Activation T)) (x : Activation S) (y : Activation T) → AlikeActivations xs ys → is_answered x ≡ is_answered y → AlikeActivations (xs ++ x ∷ []) (ys ++ y ∷ [])
  alike_push [] [] x y same e = (e, tt)
  alike_push (k ∷ xs) (l ∷ ys) x y same e = (same.0, alike_push xs ys x y same.1 e)
  alike_push _ _ x y same e = absurd same

  pub alike_length : (xs : List (Activation S)) (ys : List (Activation T)) → AlikeActivations xs ys → length xs ≡ length ys
  alike_length [] [] same = refl
  alike_length (k ∷ xs) (l ∷ ys) same = ap suc (alike_length xs ys same.1)
  alike_length _ _ same = absurd same

  pub alike_at : (xs : List (Activation S)) (ys : List (Activation T)) (i : ℕ) → AlikeActivations xs ys → is_answered (activation_at xs i) ≡ is_answered (activation_at ys i)
  alike_at [] [] i same = refl
  alike_at (k ∷ xs) (l ∷ ys) zero same = same.0
  alike_at (k ∷ xs) (l ∷ ys) (suc i) same = alike_at xs ys i same.1
  alike_at [] (l ∷ ys) i same = absurd same
  alike_at (k ∷ xs) [] i same = absurd same

  pub alike_set : (xs : List (Activation S)) (ys : List (Activation T)) (i : ℕ) (x : Activation S) (y : Activation T) → AlikeActivations xs ys → is_answered x ≡ is_answered y → AlikeActivations (slice_set xs i x) (slice_set ys i y)
  alike_set [] [] i x y same e = tt
  alike_set (k ∷ xs) (l ∷ ys) zero x y same e = (e, same.1)
  alike_set (k ∷ xs) (l ∷ ys) (suc i) x y same e = (same.0, alike_set xs ys i x y same.1 e)
  alike_set [] (l ∷ ys) i x y same e = absurd same
  alike_set (k ∷ xs) [] i x y same e = absurd same

  -- an activation that changes without being answered
  pub alike_left : (xs : List (Activation S)) (ys : List (Activation T)) (i : ℕ) (x : Activation S) → AlikeActivations xs ys → is_answered x ≡ is_answered (activation_at xs i) → AlikeActivations (slice_set xs i x) ys
  alike_left [] [] i x same e = tt
  alike_left (k ∷ xs) (l ∷ ys) zero x same e = (e ∙ same.0, same.1)
  alike_left (k ∷ xs) (l ∷ ys) (suc i) x same e = (same.0, alike_left xs ys i x same.1 e)
  alike_left [] (l ∷ ys) i x same e = absurd same
  alike_left (k ∷ xs) [] i x same e = absurd same

  pub alike_right : (xs : List (Activation S)) (ys : List (Activation T)) (i : ℕ) (y : Activation T) → AlikeActivations xs ys → is_answered y ≡ is_answered (activation_at ys i) → AlikeActivations xs (slice_set ys i y)
  alike_right [] [] i y same e = tt
  alike_right (k ∷ xs) (l ∷ ys) zero y same e = (same.0 ∙ sym e, same.1)
  alike_right (k ∷ xs) (l ∷ ys) (suc i) y same e = (same.0, alike_right xs ys i y same.1 e)
  alike_right [] (l ∷ ys) i y same e = absurd same
  alike_right (k ∷ xs) [] i y same e = absurd same

  -- ---- effects side by side

  pub alike_shapes : (owner : ℕ) (cs : List (OutgoingCall S)) (ds : List (OutgoingCall T)) → AlikeCalls cs ds → call_shapes (map (open_call owner) cs) ≡ call_shapes (map (open_call owner) ds)
  alike_shapes owner [] [] same = refl
  alike_shapes owner (c ∷ cs) (d ∷ ds) same = ap (λ hs. record { owner = owner; is_open = true } ∷ hs) (alike_shapes owner cs ds same.3)
  alike_shapes owner _ _ same = absurd same

  pub alike_call_items : (n : ℕ) (cs : List (OutgoingCall S)) (ds : List (OutgoingCall T)) → AlikeCalls cs ds → call_items n cs ≡ call_items n ds
  alike_call_items n [] [] same = refl
  alike_call_items n (c ∷ cs) (d ∷ ds) same =
      ap₂ (λ i is. i ∷ is) (ap₂ (λ x y. item.Call n x y c.argument) same.0 same.1 ∙ ap (λ z. item.Call n d.callee d.method z) same.2) (alike_call_items (n + 1) cs ds same.3)
  alike_call_items n _ _ same = absurd same

  pub alike_answer_items : (owner : ℕ) (x : Ending S) (y : Ending T) → AlikeEndings x y → answer_items owner x ≡ answer_items owner y
  alike_answer_items owner (Answers (Replies bytes)) (Answers other) same = ap (λ z. answer_items {L = T} owner (Answers z)) same
  alike_answer_items owner (Answers (Rejects code text)) (Answers other) same = ap (λ z. answer_items {L = T} owner (Answers z)) same
  alike_answer_items owner (Awaits m v) (Awaits n w) same = refl
  alike_answer_items owner AwaitsNothing AwaitsNothing same = refl
  alike_answer_items owner Unchanged Unchanged same = refl
  alike_answer_items owner _ _ same = absurd same

  pub alike_after : (x : Ending S) (y : Ending T) (k : Activation S) (l : Activation T) → AlikeEndings x y → is_answered k ≡ is_answered l → is_answered (activation_after x k) ≡ is_answered (activation_after y l)
  alike_after (Answers answer) (Answers other) k l same e = refl
  alike_after (Awaits m v) (Awaits n w) k l same e = refl
  alike_after AwaitsNothing AwaitsNothing k l same e = refl
  alike_after Unchanged Unchanged k l same e = e
  alike_after _ _ k l same e = absurd same

-- ---- what a committed state holds

module _ {L : Language} where
  waiting_pushed : (number : ℕ) (activations : List (Activation L)) (k : ℕ) → waiting_on number (activation_at (activations ++ IsDead ∷ []) k) ≡ waiting_on number (activation_at activations k)
  waiting_pushed number [] zero = refl
  waiting_pushed number [] (suc k) = refl
  waiting_pushed number (x ∷ activations) zero = refl
  waiting_pushed number (x ∷ activations) (suc k) = waiting_pushed number activations k

  -- a new activation holds nothing
  pub held_pushed : (n : ℕ) (calls : List (Call L.results L.value)) (activations : List (Activation L)) → held_calls n calls (activations ++ IsDead ∷ []) ≡ held_calls n calls activations
  held_pushed n [] activations = refl
  held_pushed n (c ∷ calls) activations =
      ap₂ (λ w rest. record { call = c; waiting = cond (is_open_state c.state) w None } ∷ rest) (waiting_pushed n activations c.owner) (held_pushed (suc n) calls activations)

  -- nor does one that owns no open call
  pub held_closed : (n owner : ℕ) (calls : List (Call L.results L.value)) (activations : List (Activation L)) (activation : Activation L)
      → list_any (λ c. is_open_state c.state && nat_eq c.owner owner) calls ≡ false → held_calls n calls (slice_set activations owner activation) ≡ held_calls n calls activations
  held_closed n owner [] activations activation e = refl
  held_closed n owner (c ∷ calls) activations activation e = by (is_open_state c.state) (nat_eq c.owner owner) refl (λ q. held_closed (suc n) owner calls activations activation q) e
    where
      by : (b t : Bool) → nat_eq c.owner owner ≡ t
          → (list_any (λ c. is_open_state c.state && nat_eq c.owner owner) calls ≡ false → held_calls (suc n) calls (slice_set activations owner activation) ≡ held_calls (suc n) calls activations)
          → ((b && t) || list_any (λ c. is_open_state c.state && nat_eq c.owner owner) calls) ≡ false
          → (record { call = c; waiting = cond b (waiting_on n (activation_at (slice_set activations owner activation) c.owner)) None } ∷ held_calls (suc n) calls (slice_set activations owner activation))
          ≡ (record { call = c; waiting = cond b (waiting_on n (activation_at activations c.owner)) None } ∷ held_calls (suc n) calls activations)
      by false t is next e = ap (λ rest. record { call = c; waiting = None } ∷ rest) (next e)
      by true true is next e = absurd (true≢false e)
      by true false is next e =
          let apart : (c.owner ≡ owner) → ⊥ = λ q. true≢false (sym (eq-eqb c.owner owner q) ∙ is) in
          ap₂ (λ x rest. record { call = c; waiting = waiting_on n (or_answered x) } ∷ rest) (get_set_other activations owner c.owner activation apart) (next e)

  waiting_quiet : (number : ℕ) (activations : List (Activation L)) (owner k : ℕ) (activation : Activation L) → waiting_on number activation ≡ waiting_on number (activation_at activations owner)
      → waiting_on number (activation_at (slice_set activations owner activation) k) ≡ waiting_on number (activation_at activations k)
  waiting_quiet number [] owner k activation e = refl
  waiting_quiet number (x ∷ activations) zero zero activation e = e
  waiting_quiet number (x ∷ activations) zero (suc k) activation e = refl
  waiting_quiet number (x ∷ activations) (suc owner) zero activation e = refl
  waiting_quiet number (x ∷ activations) (suc owner) (suc k) activation e = waiting_quiet number activations owner k activation e

  -- an activation that changes without waiting
  pub held_quiet : (n owner : ℕ) (calls : List (Call L.results L.value)) (activations : List (Activation L)) (activation : Activation L)
      → ((k : ℕ) → waiting_on k activation ≡ waiting_on k (activation_at activations owner)) → held_calls n calls (slice_set activations owner activation) ≡ held_calls n calls activations
  held_quiet n owner [] activations activation e = refl
  held_quiet n owner (c ∷ calls) activations activation e =
      ap₂ (λ w rest. record { call = c; waiting = cond (is_open_state c.state) w None } ∷ rest) (waiting_quiet n activations owner c.owner activation (e n)) (held_quiet (suc n) owner calls activations activation e)

  pub waits_unanswered : (number : ℕ) (activation : Activation L) (w : L.waiting) → waiting_on number activation ≡ Some w → is_answered activation ≡ false
  waits_unanswered number IsAnswered w e = absurd (cc)
  waits_unanswered number IsDead w e = refl
  waits_unanswered number (WaitsFor k v) w e = refl
  waits_unanswered number WaitsForNothing w e = refl

  pub last_dead : (activations : List (Activation L)) → activation_at (activations ++ IsDead ∷ []) (length activations) ≡ IsDead
  last_dead [] = refl
  last_dead (x ∷ activations) = last_dead activations
