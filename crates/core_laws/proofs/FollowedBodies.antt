-- Turns of the new program's bodies, saves and starts are where those of the old program are.
use Rattle.std.proofs.Common.{◌≡◌, ℕ, ◌+◌, ◌*◌, ◌≤◌, refl, sym, ap, ◌∙◌, subst, List, [], ◌∷◌, length, map, Option, Some, None, Bool, true, false, arith as arithmetic}
use Rattle.std.specs.Prelude.{cond, max, nat_lt}
use Rattle.std.proofs.Math.Nat.{mul-add, mul-le-mul_right}
use Rattle.mo_types.specs.declared.node.TypeId.{TypeId}
use Rattle.mo_values.specs.Costs.{Cost, weighing, sizes, most_levels}
use Rattle.mo_values.specs.Shapes.{Bytes}
use Rattle.mo_values.specs.Views.{tuple_of, message_in}
use Rattle.mo_actor.specs.Executions.{Completion, Completes, Progress, Execution}
use Rattle.mo_actor.specs.Executions as actor_end
use Rattle.mo_actor.specs.Programs.{Ending, Answers, Awaits, AwaitsNothing, Unchanged, Effects}
use Rattle.mo_actor.specs.Programs as actor
use Rattle.core_ir.specs.Choices.{on_some}
use Rattle.core_ir.specs.Values.{Value}
use Rattle.core_ir.specs.Programs.{Program}
use Rattle.core_ir.specs.Worlds.{Request, World, Context}
use Rattle.core_ir.specs.Executions.{Replies, Rejects, Waits, Traps, Breaks, Stand, Still, Over, Machine}
use Rattle.core_ir.specs.Calls.{most_bytes, too_long, message_cost}
use Rattle.core_ir.specs.Messages.{Saved, Messages}
use Rattle.core_ir.specs.Actor.{Fields, core_language, progress, unpacked, call_of, effects, if_short, replied, rejected, waiting_ending, body_progress, saved, save_progress, fields_of, start_progress}
use Rattle.core_laws.specs.Carried.{GoesOn}
use Rattle.core_laws.specs.Following.{CompletionsAlike, ProgressAlike}
use Rattle.core_laws.specs.Followed.{next, Moves, FieldsAlike, call_alike, EndingsAlike, EffectsAlike}
use Rattle.core_laws.proofs.SeenRuns.{Seen}

sum : (w' c x y z : ℕ) → w' ≤ x → 1 * c ≤ y → z ≡ x + y → w' + c ≤ z
sum w' c x y z h b a = omega (arithmetic, h, b, a)

-- the same cost on top
pub heavier_alike : (t w w' c : ℕ) → 1 ≤ t → w' ≤ t * w → w' + c ≤ t * (w + c)
heavier_alike t w w' c l h = sum w' c (t * w) (t * c) (t * (w + c)) h (mul-le-mul_right c l) (mul-add t w c)

deeper_alike : (d d' x : ℕ) → d' ≤ d → max d' x ≤ max d x
deeper_alike d d' x h = omega (arithmetic, h)

module _ (times : ℕ) (one : 1 ≤ times) {A B : Type 0} (Both : A → B → Type 0) where
  pub lifted : (w d w' d' : ℕ) (o o' : List Bytes) (cost : Cost) (x : Option (Completion A)) (y : Option (Completion B)) → o' ≡ o → w' ≤ times * w → d' ≤ d → CompletionsAlike times Both x y
      → ProgressAlike times Both (progress w d o cost x) (progress w' d' o' cost y)
  lifted w d w' d' o o' cost x y po wl dl h =
      record { prints_are = po; weight = heavier_alike times w w' cost.weight one wl; depth = deeper_alike d d' (16 * cost.levels) dl; completion = h }

  pub nothing_yet : ProgressAlike times Both (record { prints = []; weight = 0; depth = 0; completion = None }) (record { prints = []; weight = 0; depth = 0; completion = None })
  nothing_yet = record { prints_are = refl; weight = omega arithmetic; depth = omega arithmetic; completion = tt }

  pub if_alike : (b : Bool) (text : List ℕ) (x : Option (Completion A)) (y : Option (Completion B)) → CompletionsAlike times Both x y
      → CompletionsAlike times Both (cond b (Some (actor_end.Traps text)) x) (cond b (Some (actor_end.Traps text)) y)
  if_alike true text x y h = refl
  if_alike false text x y h = h

module _ {S T V W K B C : Type 0} (times : ℕ) (one : 1 ≤ times) (moved : World → World) (moves : Moves moved) (old : Machine S V) (new : Machine T W) (messages : Messages K) (p : Program B) (q : Program C) where
  requests_are : (w w' : World) → w' ≡ moved w → w'.requests ≡ w.requests
  requests_are w w' e = ap (λ (w : World). w.requests) e ∙ moves.requests w

  calls_are : (rs : List Request) → map (call_of new messages q) rs ≡ map (call_alike times moved old new messages p q) (map (call_of old messages p) rs)
  calls_are [] = refl
  calls_are (r ∷ rs) = ap (λ cs. call_of new messages q r ∷ cs) (calls_are rs)

  next_is : (w w' : World) → w' ≡ moved w → next w' ≡ moved (next w)
  next_is w w' e = ap next e ∙ moves.later w

  module _ (c : Context) (f g : Fields) (names : g.names ≡ f.names) (results : List TypeId) where
    abbrev E : Effects (core_language V K) → Effects (core_language W K) → Type 0
    E = EffectsAlike times moved old new messages p q c

    abbrev Fit : Option (Completion (Effects (core_language V K))) → Option (Completion (Effects (core_language W K))) → Type 0
    Fit = CompletionsAlike times E

    abbrev PA : Progress (Effects (core_language V K)) → Progress (Effects (core_language W K)) → Type 0
    PA = ProgressAlike times E

    effects_alike : (wd wd' : World) → wd' ≡ moved wd → (x : Ending (core_language V K)) (y : Ending (core_language W K)) → EndingsAlike times moved old new messages p q c x y
        → Fit (effects old messages p f wd x) (effects new messages q g wd' y)
    effects_alike wd wd' e x y h =
        record { store = (next_is wd wd' e, names); calls = ap (map (call_of new messages q)) (requests_are wd wd' e) ∙ calls_are wd.requests; ending = h }

    short_alike : (bytes : Bytes) (x : Option (Completion (Effects (core_language V K)))) (y : Option (Completion (Effects (core_language W K)))) → Fit x y
        → Fit (if_short old messages p bytes x) (if_short new messages q bytes y)
    short_alike bytes x y h = if_alike times one E (nat_lt most_bytes (length bytes)) too_long x y h

    module _ (w d w' d' : ℕ) (o o' : List Bytes) (wd wd' : World) (po : o' ≡ o) (e : wd' ≡ moved wd) (wl : w' ≤ times * w) (dl : d' ≤ d) where
      replied_alike : (vs : List Value) (b : Option Bytes) → PA (replied old messages p f results w d o wd vs b) (replied new messages q g results w' d' o' wd' vs b)
      replied_alike vs None = lifted times one E w d w' d' o o' (weighing 0) None None po wl dl tt
      replied_alike vs (Some bytes) =
          lifted times one E w d w' d' o o' (message_cost vs bytes) _ _ po wl dl
          (short_alike bytes (effects old messages p f wd (Answers (actor.Replies bytes))) (effects new messages q g wd' (Answers (actor.Replies bytes))) (effects_alike wd wd' e (Answers (actor.Replies bytes)) (Answers (actor.Replies bytes)) refl))

      rejected_alike : (b : Option Bytes) → PA (rejected old messages p f results w d o wd b) (rejected new messages q g results w' d' o' wd' b)
      rejected_alike None = lifted times one E w d w' d' o o' (weighing 0) None None po wl dl tt
      rejected_alike (Some text) =
          lifted times one E w d w' d' o o' (weighing (length text)) _ _ po wl dl
          (short_alike text (effects old messages p f wd (Answers (actor.Rejects 4 text))) (effects new messages q g wd' (Answers (actor.Rejects 4 text))) (effects_alike wd wd' e (Answers (actor.Rejects 4 text)) (Answers (actor.Rejects 4 text)) refl))

      waiting_alike : (on : Option ℕ) (x : V) (y : W) → GoesOn times moved old new c x y → EndingsAlike times moved old new messages p q c (waiting_ending old messages p f results on x) (waiting_ending new messages q g results on y)
      waiting_alike None x y h = refl
      waiting_alike (Some n) x y h = (record { results = results; waiting = y }, refl, (refl, h))

      waits_alike : (on at : Option ℕ) (x : V) (y : W) → at ≡ on → GoesOn times moved old new c x y
          → PA (progress w d o (weighing 0) (effects old messages p f wd (waiting_ending old messages p f results on x))) (progress w' d' o' (weighing 0) (effects new messages q g wd' (waiting_ending new messages q g results at y)))
      waits_alike on at x y i h =
          lifted times one E w d w' d' o o' (weighing 0) _ _ po wl dl
          (subst (λ at. Fit (effects old messages p f wd (waiting_ending old messages p f results on x)) (effects new messages q g wd' (waiting_ending new messages q g results at y))) (sym i)
          (effects_alike wd wd' e (waiting_ending old messages p f results on x) (waiting_ending new messages q g results on y) (waiting_alike on x y h)))

    abbrev Of : Stand S V → Stand T W → Type 0
    Of a b = PA (body_progress old messages p f results a) (body_progress new messages q g results b)

    -- at is the context with the calls of the execution
    module _ (at : Context) (same : (x : V) (y : W) → GoesOn times moved old new at x y → GoesOn times moved old new c x y) where
      pub body_alike : (a : Stand S V) (b : Stand T W) → Seen times moved old new at a b → Of a b
      body_alike (Still w d o wd s) (Still w' d' o' wd' t) h = lifted times one E w d w' d' o o' (weighing 0) None None h.prints_are h.weight h.depth tt
      body_alike (Still w d o wd s) (Over w' d' o' wd' r) h = absurd h
      body_alike (Over w d o wd Breaks) b h = absurd h
      body_alike (Over w d o wd (Replies v)) (Still w' d' o' wd' t) h = absurd h
      body_alike (Over w d o wd (Replies v)) (Over w' d' o' wd' r) h =
          subst (λ r. Of (Over w d o wd (Replies v)) (Over w' d' o' wd' r)) (sym h.ends)
          (replied_alike w d w' d' o o' wd wd' h.prints_are h.world_is h.weight h.depth (unpacked results v) (messages.spell results (unpacked results v)))
      body_alike (Over w d o wd (Rejects v)) (Still w' d' o' wd' t) h = absurd h
      body_alike (Over w d o wd (Rejects v)) (Over w' d' o' wd' r) h =
          subst (λ r. Of (Over w d o wd (Rejects v)) (Over w' d' o' wd' r)) (sym h.ends) (rejected_alike w d w' d' o o' wd wd' h.prints_are h.world_is h.weight h.depth (message_in v))
      body_alike (Over w d o wd (Traps text)) (Still w' d' o' wd' t) h = absurd h
      body_alike (Over w d o wd (Traps text)) (Over w' d' o' wd' r) h =
          subst (λ r. Of (Over w d o wd (Traps text)) (Over w' d' o' wd' r)) (sym h.ends)
          (lifted times one E w d w' d' o o' (weighing 0) (Some (actor_end.Traps text)) (Some (actor_end.Traps text)) h.prints_are h.weight h.depth refl)
      body_alike (Over w d o wd (Waits on x)) (Still w' d' o' wd' t) h = absurd h
      body_alike (Over w d o wd (Waits on x)) (Over w' d' o' wd' (Waits at y)) h =
          waits_alike w d w' d' o o' wd wd' h.prints_are h.world_is h.weight h.depth on at x y (h.ends.0) (same x y (h.ends.1))
      body_alike (Over w d o wd (Waits on x)) (Over w' d' o' wd' (Replies y)) h = absurd h.ends
      body_alike (Over w d o wd (Waits on x)) (Over w' d' o' wd' (Rejects y)) h = absurd h.ends
      body_alike (Over w d o wd (Waits on x)) (Over w' d' o' wd' (Traps y)) h = absurd h.ends
      body_alike (Over w d o wd (Waits on x)) (Over w' d' o' wd' Breaks) h = absurd h.ends

  -- ---- saves

  module _ (at : Context) where
    abbrev Kept : Progress K → Progress K → Type 0
    Kept = ProgressAlike times (λ x y. y ≡ x)

    saved_alike : (w d w' d' : ℕ) (o o' : List Bytes) → o' ≡ o → w' ≤ times * w → d' ≤ d → (vs : List Value) (s : Option (Saved K)) → Kept (saved old messages p w d o vs s) (saved new messages q w' d' o' vs s)
    saved_alike w d w' d' o o' po wl dl vs None = lifted times one (λ x y. y ≡ x) w d w' d' o o' (weighing 0) None None po wl dl tt
    saved_alike w d w' d' o o' po wl dl vs (Some s) =
        lifted times one (λ x y. y ≡ x) w d w' d' o o' (record { weight = sizes vs + s.size; levels = most_levels vs }) (Some (Completes s.kept)) (Some (Completes s.kept)) po wl dl refl

    values_alike : (w d w' d' : ℕ) (o o' : List Bytes) → o' ≡ o → w' ≤ times * w → d' ≤ d → (vs : Option (List Value))
        → Kept (on_some (progress w d o (weighing 0) None) vs (λ vs. saved old messages p w d o vs (messages.save vs))) (on_some (progress w' d' o' (weighing 0) None) vs (λ vs. saved new messages q w' d' o' vs (messages.save vs)))
    values_alike w d w' d' o o' po wl dl None = lifted times one (λ x y. y ≡ x) w d w' d' o o' (weighing 0) None None po wl dl tt
    values_alike w d w' d' o o' po wl dl (Some vs) = saved_alike w d w' d' o o' po wl dl vs (messages.save vs)

    abbrev OfSave : Stand S V → Stand T W → Type 0
    OfSave a b = Kept (save_progress old messages p a) (save_progress new messages q b)

    none_saved : (w d w' d' : ℕ) (o o' : List Bytes) → o' ≡ o → w' ≤ times * w → d' ≤ d → Kept (progress w d o (weighing 0) None) (progress w' d' o' (weighing 0) None)
    none_saved w d w' d' o o' po wl dl = lifted times one (λ x y. y ≡ x) w d w' d' o o' (weighing 0) None None po wl dl tt

    pub save_alike : (a : Stand S V) (b : Stand T W) → Seen times moved old new at a b → OfSave a b
    save_alike (Still w d o wd s) (Still w' d' o' wd' t) h = none_saved w d w' d' o o' h.prints_are h.weight h.depth
    save_alike (Still w d o wd s) (Over w' d' o' wd' r) h = absurd h
    save_alike (Over w d o wd Breaks) b h = absurd h
    save_alike (Over w d o wd (Replies v)) (Still w' d' o' wd' t) h = absurd h
    save_alike (Over w d o wd (Replies v)) (Over w' d' o' wd' r) h =
        subst (λ r. OfSave (Over w d o wd (Replies v)) (Over w' d' o' wd' r)) (sym h.ends) (values_alike w d w' d' o o' h.prints_are h.weight h.depth (tuple_of v))
    save_alike (Over w d o wd (Rejects v)) (Still w' d' o' wd' t) h = absurd h
    save_alike (Over w d o wd (Rejects v)) (Over w' d' o' wd' r) h =
        subst (λ r. OfSave (Over w d o wd (Rejects v)) (Over w' d' o' wd' r)) (sym h.ends) (none_saved w d w' d' o o' h.prints_are h.weight h.depth)
    save_alike (Over w d o wd (Traps text)) (Still w' d' o' wd' t) h = absurd h
    save_alike (Over w d o wd (Traps text)) (Over w' d' o' wd' r) h =
        subst (λ r. OfSave (Over w d o wd (Traps text)) (Over w' d' o' wd' r)) (sym h.ends)
        (lifted times one (λ x y. y ≡ x) w d w' d' o o' (weighing 0) (Some (actor_end.Traps text)) (Some (actor_end.Traps text)) h.prints_are h.weight h.depth refl)
    save_alike (Over w d o wd (Waits on x)) (Still w' d' o' wd' t) h = absurd h
    save_alike (Over w d o wd (Waits on x)) (Over w' d' o' wd' (Waits at y)) h = none_saved w d w' d' o o' h.prints_are h.weight h.depth
    save_alike (Over w d o wd (Waits on x)) (Over w' d' o' wd' (Replies y)) h = absurd h.ends
    save_alike (Over w d o wd (Waits on x)) (Over w' d' o' wd' (Rejects y)) h = absurd h.ends
    save_alike (Over w d o wd (Waits on x)) (Over w' d' o' wd' (Traps y)) h = absurd h.ends
    save_alike (Over w d o wd (Waits on x)) (Over w' d' o' wd' Breaks) h = absurd h.ends

    -- ---- starts

    abbrev F : Fields → Fields → Type 0
    F = FieldsAlike times moved old new messages p q

    abbrev Begun : Progress Fields → Progress Fields → Type 0
    Begun = ProgressAlike times F

    fields_alike : (wd wd' : World) → wd' ≡ moved wd → (vs : Option (List Value))
        → CompletionsAlike times F (on_some None vs (λ names. Some (Completes (fields_of old messages p wd names)))) (on_some None vs (λ names. Some (Completes (fields_of new messages q wd' names))))
    fields_alike wd wd' e None = tt
    fields_alike wd wd' e (Some vs) = (next_is wd wd' e, refl)

    abbrev OfStart : Stand S V → Stand T W → Type 0
    OfStart a b = Begun (start_progress old messages p a) (start_progress new messages q b)

    none_started : (w d w' d' : ℕ) (o o' : List Bytes) → o' ≡ o → w' ≤ times * w → d' ≤ d → Begun (progress w d o (weighing 0) None) (progress w' d' o' (weighing 0) None)
    none_started w d w' d' o o' po wl dl = lifted times one F w d w' d' o o' (weighing 0) None None po wl dl tt

    pub start_alike : (a : Stand S V) (b : Stand T W) → Seen times moved old new at a b → OfStart a b
    start_alike (Still w d o wd s) (Still w' d' o' wd' t) h = none_started w d w' d' o o' h.prints_are h.weight h.depth
    start_alike (Still w d o wd s) (Over w' d' o' wd' r) h = absurd h
    start_alike (Over w d o wd Breaks) b h = absurd h
    start_alike (Over w d o wd (Replies v)) (Still w' d' o' wd' t) h = absurd h
    start_alike (Over w d o wd (Replies v)) (Over w' d' o' wd' r) h =
        subst (λ r. OfStart (Over w d o wd (Replies v)) (Over w' d' o' wd' r)) (sym h.ends)
        (lifted times one F w d w' d' o o' (weighing 0) _ _ h.prints_are h.weight h.depth (fields_alike wd wd' h.world_is (tuple_of v)))
    start_alike (Over w d o wd (Rejects v)) (Still w' d' o' wd' t) h = absurd h
    start_alike (Over w d o wd (Rejects v)) (Over w' d' o' wd' r) h =
        subst (λ r. OfStart (Over w d o wd (Rejects v)) (Over w' d' o' wd' r)) (sym h.ends) (none_started w d w' d' o o' h.prints_are h.weight h.depth)
    start_alike (Over w d o wd (Traps text)) (Still w' d' o' wd' t) h = absurd h
    start_alike (Over w d o wd (Traps text)) (Over w' d' o' wd' r) h =
        subst (λ r. OfStart (Over w d o wd (Traps text)) (Over w' d' o' wd' r)) (sym h.ends)
        (lifted times one F w d w' d' o o' (weighing 0) (Some (actor_end.Traps text)) (Some (actor_end.Traps text)) h.prints_are h.weight h.depth refl)
    start_alike (Over w d o wd (Waits on x)) (Still w' d' o' wd' t) h = absurd h
    start_alike (Over w d o wd (Waits on x)) (Over w' d' o' wd' (Waits at y)) h = none_started w d w' d' o o' h.prints_are h.weight h.depth
    start_alike (Over w d o wd (Waits on x)) (Over w' d' o' wd' (Replies y)) h = absurd h.ends
    start_alike (Over w d o wd (Waits on x)) (Over w' d' o' wd' (Rejects y)) h = absurd h.ends
    start_alike (Over w d o wd (Waits on x)) (Over w' d' o' wd' (Traps y)) h = absurd h.ends
    start_alike (Over w d o wd (Waits on x)) (Over w' d' o' wd' Breaks) h = absurd h.ends
