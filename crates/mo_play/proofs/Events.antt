-- What was put of a transcript, event by event.
use Rattle.std.proofs.Common.{◌≡◌, ℕ, zero, suc, ◌+◌, ◌<◌, List, [], ◌∷◌, ◌++◌, length, drop, get_or, refl, sym, ap, subst, ◌∙◌, Option, arith, add-one, drop-cons, ◌⊎◌, inl, inr}
use Rattle.std.proofs.lemmas.List.{append_assoc, append-nil}
use Rattle.std.specs.Io.KnownBytes.{Appends}
use Rattle.std.specs.List.{AllByRecursion}
use Rattle.outer.specs.Sinks.{AppendsPrefix}
use Rattle.play_script.specs.declared.event.Event.{Event}
use Rattle.play_script.specs.declared.item.Item.{Item}
use Rattle.play_script.specs.Events.{IsNoInstall}
use Rattle.play_script.specs.Items.{ItemsText}
use Rattle.wasm_tree.specs.declared.module_parts.Module.{Module}
use Rattle.wasm_tree.specs.Exec.{ExecutionLimits}
use Rattle.canister_host.specs.State.{HostState, first_state}
use Rattle.canister_host.specs.HostRun.{Outcome, outcome, step, items_from, host_run}
use Rattle.mo_play.proofs.Runs.{HasPut, none_put, more_put, put_begun, begun_more}

-- The items of the first events were put, and the others go on from this state.
pub record HasPlayed (modules : List Module) (limits : ExecutionLimits) (own : List ℕ) (events : List Event) (first : HostState) (count : ℕ) (s : HostState) (old now : Option (List ℕ)) : Type 0 where
  pub done : List Item
  pub rest_are : items_from modules limits own events first ≡ done ++ items_from modules limits own (drop count events) s
  pub put : HasPut done old now

pub none_played : (modules : List Module) (limits : ExecutionLimits) (own : List ℕ) (events : List Event) (first : HostState) (old : Option (List ℕ)) → HasPlayed modules limits own events first 0 first old old
none_played modules limits own events first old = record { done = []; rest_are = refl; put = none_put old }

-- The items of the event at a place, and those behind it.
event_at : (modules : List Module) (limits : ExecutionLimits) (own : List ℕ) (events : List Event) (i : ℕ) (e : Event) (s next : HostState) (items : List Item) → i < length events → e ≡ get_or events i e
    → step modules limits own e s ≡ outcome items next → items_from modules limits own (drop i events) s ≡ items ++ items_from modules limits own (drop (i + 1) events) next
event_at modules limits own events i e s next items lt is h =
    let here : drop i events ≡ e ∷ drop (i + 1) events = rw (add-one, drop-cons events i e) (ap (λ (x : Event). x ∷ drop (suc i) events) (sym is)) in
    ap (λ (es : List Event). items_from modules limits own es s) here ∙ ap (λ (o : Outcome). o.items ++ items_from modules limits own (drop (i + 1) events) o.next) h

pub event_played : (modules : List Module) (limits : ExecutionLimits) (own : List ℕ) (events : List Event) (first : HostState) (i : ℕ) (e : Event) (s next : HostState) (items : List Item) (old middle new : Option (List ℕ))
    → i < length events → e ≡ get_or events i e → step modules limits own e s ≡ outcome items next → HasPlayed modules limits own events first i s old middle
    → (text : List ℕ) × ItemsText items text × Appends middle new text → HasPlayed modules limits own events first (i + 1) next old new
event_played modules limits own events first i e s next items old middle new lt is h p t = record {
  done = p.done ++ items;
  rest_are = p.rest_are ∙ ap (λ (xs : List Item). p.done ++ xs) (event_at modules limits own events i e s next items lt is h)
      ∙ sym (append_assoc p.done items (items_from modules limits own (drop (i + 1) events) next));
  put = more_put p.done items old middle new p.put (record { text = t.0; lines = t.1; put = t.2 });
}

-- Where an event's lines broke off, or memory was wanting, a prefix of the transcript was put.
pub event_broken : (modules : List Module) (limits : ExecutionLimits) (own : List ℕ) (events : List Event) (first : HostState) (i : ℕ) (e : Event) (s next : HostState) (items : List Item) (old middle new : Option (List ℕ))
    → i < length events → e ≡ get_or events i e → step modules limits own e s ≡ outcome items next → HasPlayed modules limits own events first i s old middle
    → (text : List ℕ) × ItemsText items text × AppendsPrefix middle new text → (text : List ℕ) × ItemsText (items_from modules limits own events first) text × AppendsPrefix old new text
event_broken modules limits own events first i e s next items old middle new lt is h p t =
    let rest = items_from modules limits own (drop (i + 1) events) next in
    let b = begun_more p.done items rest old middle new p.put (record { text = t.0; lines = t.1; put = t.2 }) in
    let whole : items_from modules limits own events first ≡ p.done ++ (items ++ rest) = p.rest_are ∙ ap (λ (xs : List Item). p.done ++ xs) (event_at modules limits own events i e s next items lt is h) in
    (b.text, subst (λ (xs : List Item). ItemsText xs b.text) (sym whole) b.lines, b.put)

pub played_stopped : (modules : List Module) (limits : ExecutionLimits) (own : List ℕ) (events : List Event) (first : HostState) (i : ℕ) (s : HostState) (old now : Option (List ℕ))
    → HasPlayed modules limits own events first i s old now → (text : List ℕ) × ItemsText (items_from modules limits own events first) text × AppendsPrefix old now text
played_stopped modules limits own events first i s old now p =
    let b = put_begun p.done (items_from modules limits own (drop i events) s) old now p.put in
    (b.text, subst (λ (xs : List Item). ItemsText xs b.text) (sym p.rest_are) b.lines, b.put)

pub all_played : (modules : List Module) (limits : ExecutionLimits) (own : List ℕ) (events : List Event) (first : HostState) (i : ℕ) (s : HostState) (old now : Option (List ℕ))
    → drop i events ≡ [] → HasPlayed modules limits own events first i s old now → (text : List ℕ) × ItemsText (items_from modules limits own events first) text × Appends old now text
all_played modules limits own events first i s old now none p =
    let whole : items_from modules limits own events first ≡ p.done = p.rest_are ∙ ap (λ (es : List Event). p.done ++ items_from modules limits own es s) none ∙ append-nil p.done in
    (p.put.text, subst (λ (xs : List Item). ItemsText xs p.put.text) (sym whole) p.put.lines, p.put.put)

-- An install is the first event.
all_at : {X : Type 0} (P : X → Type 0) (xs : List X) (i : ℕ) (x : X) → i < length xs → x ≡ get_or xs i x → AllByRecursion P xs → P x
all_at P [] i x lt e h = absurd (omega arith)
all_at P (y ∷ ys) zero x lt e h = subst P (sym e) h.0
all_at P (y ∷ ys) (suc i) x lt e h = all_at P ys i x (omega arith) e h.1

pub install_first : (events : List Event) (i n : ℕ) (e : Event) → i < length events → e ≡ get_or events i e → n ≡ i → AllByRecursion IsNoInstall (drop 1 events) → IsNoInstall e ⊎ (n ≡ 0)
install_first [] i n e lt is same h = absurd (omega arith)
install_first (first ∷ events) zero n e lt is same h = inr same
install_first (first ∷ events) (suc i) n e lt is same h = inl (all_at IsNoInstall events i e (omega arith) is h)

pub step_with : (modules : List Module) (l m : ExecutionLimits) (own other : List ℕ) (e : Event) (s : HostState) (o : Outcome) → l ≡ m → own ≡ other → step modules l own e s ≡ o → step modules m other e s ≡ o
step_with modules l m own other e s o p q h = subst (λ (x : List ℕ). step modules m x e s ≡ o) q (subst (λ (x : ExecutionLimits). step modules x own e s ≡ o) p h)

pub items_with : (modules : List Module) (l m : ExecutionLimits) (own other : List ℕ) (events : List Event) (s : HostState) → l ≡ m → own ≡ other → s ≡ first_state
    → items_from modules l own events s ≡ host_run modules m other events
items_with modules l m own other events s p q r =
    ap (λ (x : ExecutionLimits). items_from modules x own events s) p ∙ ap (λ (x : List ℕ). items_from modules m x events s) q ∙ ap (λ (x : HostState). items_from modules m other events x) r
