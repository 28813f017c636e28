-- What is taken over by an actor that keeps the machine's states stands for what is taken over by that of the meaning.
use Rattle.std.proofs.Common.{◌≡◌, ℕ, zero, suc, ◌+◌, List, [], ◌∷◌, ◌++◌, length, Option, Some, None, Bool, true, false, refl, sym, ap, ap₂, ◌∙◌, subst, slice_get, slice_set}
use Rattle.std.specs.Prelude.{cond, not, ◌&&◌, map, nat_eq, codes}
use Rattle.mo_types.specs.Calls.{next_number}
use Rattle.mo_types.specs.Heads.{map_option}
use Rattle.play_script.specs.declared.item.Item.{Item}
use Rattle.play_script.specs.declared.item.Item.TheVariants as item
use Rattle.mo_actor.specs.Completions.{activation_after, open_call, committed, complete, update_outcome, after_query, query_outcome}
use Rattle.mo_actor.specs.CallAnswers.{broken_by, broken, filled, answer_outcome}
use Rattle.mo_actor.specs.IncomingCalls.{arrived}
use Rattle.mo_actor.specs.Outcomes.{Outcome, outcome, print_items, call_items, answer_items, rejected, close}
use Rattle.mo_actor.specs.Programs.{OutgoingCall, Ending, Answers, Awaits, AwaitsNothing, Unchanged, Effects, Replies, Rejects}
use Rattle.mo_actor.specs.Results.{Result, Completed, Trapped, Exhausted}
use Rattle.mo_actor.specs.States.{Activation, IsAnswered, IsDead, WaitsFor, WaitsForNothing, Actor, or_answered, activation_at, is_answered, waiting_on, with_activation, is_starved, owns_open}
use Rattle.mo_meaning.specs.Acts.{Given}
use Rattle.mo_meaning.specs.Kernel.{kernel}
use Rattle.mo_machine.specs.ActorLanguage.{machine, Waiting, unload_fields, unload_waiting, call_of_meaning, unload_ending, unload_effects}
use Rattle.mo_machine.specs.States.{unload_activation, unload_actor}
use Rattle.mo_machine.proofs.CoursesAlike.{on_result}

-- ---- lists

pub get_map : {A B : Type 0} (f : A → B) (xs : List A) (n : ℕ) → slice_get (map f xs) n ≡ map_option f (slice_get xs n)
get_map f [] n = refl
get_map f (x ∷ xs) zero = refl
get_map f (x ∷ xs) (suc n) = get_map f xs n

set_map : {A B : Type 0} (f : A → B) (xs : List A) (n : ℕ) (x : A) → map f (slice_set xs n x) ≡ slice_set (map f xs) n (f x)
set_map f [] n x = refl
set_map f (y ∷ xs) zero x = refl
set_map f (y ∷ xs) (suc n) x = ap (λ r. f y ∷ r) (set_map f xs n x)

pub length_map : {A B : Type 0} (f : A → B) (xs : List A) → length (map f xs) ≡ length xs
length_map f [] = refl
length_map f (x ∷ xs) = ap suc (length_map f xs)

pub append_map : {A B : Type 0} (f : A → B) (xs ys : List A) → map f (xs ++ ys) ≡ map f xs ++ map f ys
append_map f [] ys = refl
append_map f (x ∷ xs) ys = ap (λ r. f x ∷ r) (append_map f xs ys)

-- ---- activations

or_answered_same : (o : Option (Activation machine)) → or_answered (map_option unload_activation o) ≡ unload_activation (or_answered o)
or_answered_same None = refl
or_answered_same (Some x) = refl

pub activation_same : (xs : List (Activation machine)) (n : ℕ) → activation_at (map unload_activation xs) n ≡ unload_activation (activation_at xs n)
activation_same xs n = ap or_answered (get_map unload_activation xs n) ∙ or_answered_same (slice_get xs n)

is_answered_same : (x : Activation machine) → is_answered (unload_activation x) ≡ is_answered x
is_answered_same IsAnswered = refl
is_answered_same IsDead = refl
is_answered_same (WaitsFor number w) = refl
is_answered_same WaitsForNothing = refl

waiting_if : (b : Bool) (w : Waiting) → cond b (Some (unload_waiting w)) None ≡ map_option unload_waiting (cond b (Some w) None)
waiting_if true w = refl
waiting_if false w = refl

waits_same : (number : ℕ) (x : Activation machine) → waiting_on number (unload_activation x) ≡ map_option unload_waiting (waiting_on number x)
waits_same number IsAnswered = refl
waits_same number IsDead = refl
waits_same number (WaitsFor other w) = waiting_if (nat_eq other number) w
waits_same number WaitsForNothing = refl

pub waiting_same : (number owner : ℕ) (a : Actor machine)
    → waiting_on number (activation_at (map unload_activation a.activations) owner) ≡ map_option unload_waiting (waiting_on number (activation_at a.activations owner))
waiting_same number owner a = ap (waiting_on number) (activation_same a.activations owner) ∙ waits_same number (activation_at a.activations owner)

with_activation_same : (owner : ℕ) (x : Activation machine) (a : Actor machine) → with_activation owner (unload_activation x) (unload_actor a) ≡ unload_actor (with_activation owner x a)
with_activation_same owner x a = ap (λ xs. record (unload_actor a) { activations = xs }) (sym (set_map unload_activation a.activations owner x))

pub arrived_same : (a : Actor machine) → arrived (unload_actor a) ≡ unload_actor (arrived a)
arrived_same a = ap (λ xs. record (unload_actor a) { activations = xs }) (sym (append_map unload_activation a.activations (IsDead ∷ [])))

-- ---- outcomes

abbrev pub AlikeOutcomes : Outcome (Actor machine) → Outcome (Actor kernel) → Type 0
AlikeOutcomes o other = (other.items ≡ o.items) × (other.next ≡ unload_actor o.next)

pub rejected_alike : (owner code : ℕ) (text : List ℕ) (items others : List Item) (a : Actor machine) → others ≡ items → AlikeOutcomes (rejected owner code text items a) (rejected owner code text others (unload_actor a))
rejected_alike owner code text items others a h = (ap (λ is. is ++ item.Rejected owner code text ∷ []) h, with_activation_same owner IsAnswered a)

starved_same : (owner : ℕ) (a : Actor machine) → is_starved owner (unload_actor a) ≡ is_starved owner a
starved_same owner a =
    ap (λ x. not (is_answered x) && not (owns_open a.table owner)) (activation_same a.activations owner)
    ∙ ap (λ b. not b && not (owns_open a.table owner)) (is_answered_same (activation_at a.activations owner))

close_by : (starved : Bool) (owner : ℕ) (items others : List Item) (a : Actor machine) → others ≡ items
    → AlikeOutcomes (cond starved (rejected owner 5 (codes "no answer") items a) (outcome items a)) (cond starved (rejected owner 5 (codes "no answer") others (unload_actor a)) (outcome others (unload_actor a)))
close_by true owner items others a h = rejected_alike owner 5 (codes "no answer") items others a h
close_by false owner items others a h = (h, refl)

close_same : (owner : ℕ) (items others : List Item) (a : Actor machine) → others ≡ items → AlikeOutcomes (close owner items a) (close owner others (unload_actor a))
close_same owner items others a h =
    subst (λ b. AlikeOutcomes (close owner items a) (cond b (rejected owner 5 (codes "no answer") others (unload_actor a)) (outcome others (unload_actor a)))) (sym (starved_same owner a))
    (close_by (is_starved owner a) owner items others a h)

close_alike : (owner : ℕ) (items others : List Item) (a : Actor machine) (b : Actor kernel) → others ≡ items → b ≡ unload_actor a → AlikeOutcomes (close owner items a) (close owner others b)
close_alike owner items others a b h e = subst (λ x. AlikeOutcomes (close owner items a) (close owner others x)) (sym e) (close_same owner items others a h)

-- ---- what is taken over

opened_same : (owner : ℕ) (calls : List (OutgoingCall machine)) → map (open_call owner) (map call_of_meaning calls) ≡ map (open_call owner) calls
opened_same owner [] = refl
opened_same owner (c ∷ calls) = ap (λ r. open_call owner c ∷ r) (opened_same owner calls)

items_same : (next : ℕ) (calls : List (OutgoingCall machine)) → call_items next (map call_of_meaning calls) ≡ call_items next calls
items_same next [] = refl
items_same next (c ∷ calls) = ap (λ r. item.Call next c.callee c.method c.argument ∷ r) (items_same (next + 1) calls)

answers_same : (owner : ℕ) (e : Ending machine) → answer_items owner (unload_ending e) ≡ answer_items owner e
answers_same owner (Answers (Replies bytes)) = refl
answers_same owner (Answers (Rejects code text)) = refl
answers_same owner (Awaits number w) = refl
answers_same owner AwaitsNothing = refl
answers_same owner Unchanged = refl

after_same : (e : Ending machine) (x : Activation machine) → activation_after (unload_ending e) (unload_activation x) ≡ unload_activation (activation_after e x)
after_same (Answers answer) x = refl
after_same (Awaits number w) x = refl
after_same AwaitsNothing x = refl
after_same Unchanged x = refl

committed_same : (owner weight : ℕ) (e : Effects machine) (a : Actor machine) → committed owner weight (unload_effects e) (unload_actor a) ≡ unload_actor (committed owner weight e a)
committed_same owner weight e a =
    let xs = map unload_activation a.activations in
    ap₂ (λ cs ys. record { store = unload_fields e.store; table = record a.table { calls = a.table.calls ++ cs }; activations = ys; charged = a.charged + weight }) (opened_same owner e.calls)
    (ap (λ x. slice_set xs owner (activation_after (unload_ending e.ending) x)) (activation_same a.activations owner)
    ∙ ap (slice_set xs owner) (after_same e.ending (activation_at a.activations owner))
    ∙ sym (set_map unload_activation a.activations owner (activation_after e.ending (activation_at a.activations owner))))

complete_alike : (owner : ℕ) (prints : List (List ℕ)) (weight : ℕ) (e : Effects machine) (a : Actor machine)
    → AlikeOutcomes (complete owner prints weight e a) (complete owner prints weight (unload_effects e) (unload_actor a))
complete_alike owner prints weight e a =
    close_alike owner _ _ (committed owner weight e a) (committed owner weight (unload_effects e) (unload_actor a))
    (ap₂ (λ x y. print_items prints ++ (x ++ y)) (items_same (next_number a.table) e.calls) (answers_same owner e.ending)) (committed_same owner weight e a)

pub update_alike : (owner : ℕ) (a : Actor machine) (r : Result (Effects machine)) → AlikeOutcomes (update_outcome owner a r) (update_outcome owner (unload_actor a) (on_result unload_effects r))
update_alike owner a (Completed prints weight e) = complete_alike owner prints weight e a
update_alike owner a (Trapped prints text) = close_same owner _ _ a refl
update_alike owner a (Exhausted prints cause) = close_same owner _ _ a refl

after_query_same : (owner : ℕ) (e : Ending machine) (a : Actor machine) → after_query owner (unload_ending e) (unload_actor a) ≡ unload_actor (after_query owner e a)
after_query_same owner (Answers answer) a = with_activation_same owner IsAnswered a
after_query_same owner (Awaits number w) a = refl
after_query_same owner AwaitsNothing a = refl
after_query_same owner Unchanged a = refl

pub query_alike : (owner : ℕ) (a : Actor machine) (r : Result (Effects machine)) → AlikeOutcomes (query_outcome owner a r) (query_outcome owner (unload_actor a) (on_result unload_effects r))
query_alike owner a (Completed prints weight e) =
    close_alike owner _ _ (after_query owner e.ending a) (after_query owner (unload_ending e.ending) (unload_actor a)) (ap (λ x. print_items prints ++ x) (answers_same owner e.ending)) (after_query_same owner e.ending a)
query_alike owner a (Trapped prints text) = close_same owner _ _ a refl
query_alike owner a (Exhausted prints cause) = close_same owner _ _ a refl

broken_by_same : (number owner : ℕ) (a : Actor machine) (o : Option Waiting) → broken_by number owner (unload_actor a) (map_option unload_waiting o) ≡ unload_actor (broken_by number owner a o)
broken_by_same number owner a None = refl
broken_by_same number owner a (Some w) = with_activation_same owner IsDead (filled number None a)

broken_same : (number owner : ℕ) (a : Actor machine) → broken number owner (unload_actor a) ≡ unload_actor (broken number owner a)
broken_same number owner a =
    ap (broken_by number owner (unload_actor a)) (waiting_same number owner a) ∙ broken_by_same number owner a (waiting_on number (activation_at a.activations owner))

pub answer_alike : (number owner : ℕ) (value : Option Given) (a : Actor machine) (r : Result (Effects machine))
    → AlikeOutcomes (answer_outcome number owner value a r) (answer_outcome number owner value (unload_actor a) (on_result unload_effects r))
answer_alike number owner value a (Completed prints weight e) = complete_alike owner prints weight e (filled number value a)
answer_alike number owner value a (Trapped prints text) = close_alike owner _ _ (broken number owner a) (broken number owner (unload_actor a)) refl (broken_same number owner a)
answer_alike number owner value a (Exhausted prints cause) = close_alike owner _ _ (broken number owner a) (broken number owner (unload_actor a)) refl (broken_same number owner a)
