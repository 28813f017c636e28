-- What a finished execution leaves of the calls.
use Rattle.std.proofs.Common.{◌≡◌, ℕ, zero, suc, ◌+◌, Bool, true, false, cond, List, [], ◌∷◌, ◌++◌, length, map, Option, Some, None, nat_eq, refl, sym, ap, ◌∙◌, append-nil, eq-eqb}
use Rattle.std.specs.Prelude.{◌==◌, ◌&&◌, ◌||◌, not, slice_get, slice_set, codes}
use Rattle.std.specs.List.{list_any}
use Rattle.std.proofs.lemmas.List.Folds.{list_any-append}
use Rattle.std.proofs.Math.Bool.{and-false, or-true}
use Rattle.std.proofs.Math.Dec.{eqb-suc-zero}
use Rattle.play_script.specs.declared.item.Item.{Item}
use Rattle.play_script.specs.declared.item.Item.TheVariants as item
use Rattle.ic0_world.specs.declared.world.Answer.{Answer}
use Rattle.ic0_world.specs.declared.world.OutgoingCall.{OutgoingCall}
use Rattle.canister_host.specs.declared.calls.IncomingCall.{IncomingCall}
use Rattle.canister_host.specs.declared.calls.OpenCall.{OpenCall}
use Rattle.canister_host.specs.State.{HostState}
use Rattle.canister_host.specs.State as host
use Rattle.canister_host.specs.HostRun.{outcome, numbered, call_item, answer_items, is_answer, is_answered, answered_call, set_answered, lacks_answer, closing}
use Rattle.canister_calls.specs.Calling.{with_made, finished}

abbrev pub no_answer : ℕ → Item
no_answer owner = item.Rejected owner 5 (codes "no answer")

abbrev pub set_at : List IncomingCall → ℕ → List IncomingCall
set_at calls owner = slice_set calls owner (answered_call (slice_get calls owner))

set_is_answered : (calls : List IncomingCall) (owner : ℕ) (before : Option IncomingCall) → is_answered (slice_get (slice_set calls owner (answered_call before)) owner) ≡ true
set_is_answered [] owner before = refl
set_is_answered (c ∷ calls) zero before = refl
set_is_answered (c ∷ calls) (suc owner) before = set_is_answered calls owner before

own_number : (n : ℕ) → nat_eq n n ≡ true
own_number n = eq-eqb n n refl

not_none : (n : ℕ) → nat_eq (suc n) 0 ≡ false
not_none n = eqb-suc-zero n

-- An execution leaves its call without an answer exactly so.
pub lacks_made : (owner : ℕ) (performed : List OutgoingCall) (answer : Option Answer) (s : HostState)
    → lacks_answer owner (with_made owner performed answer s) ≡ cond (is_answer answer) false (cond (length (numbered owner s.made performed) == 0) (lacks_answer owner s) false)
lacks_made owner performed (Some a) s =
    ap (λ b. not b && not (list_any (λ c. nat_eq c.owner owner) (s.waiting ++ numbered owner s.made performed))) (set_is_answered s.incoming owner (slice_get s.incoming owner))
lacks_made owner [] None s = ap (λ w. not (is_answered (slice_get s.incoming owner)) && not (list_any (λ c. nat_eq c.owner owner) w)) (append-nil s.waiting)
lacks_made owner (c ∷ performed) None s =
    let p : OpenCall → Bool = λ c. nat_eq c.owner owner in
    let rest : List OpenCall = numbered owner (s.made + 1) performed in
    let first : OpenCall = record { number = s.made; owner = owner; call = c } in
    let any : list_any p (s.waiting ++ first ∷ rest) ≡ true =
    list_any-append p s.waiting (first ∷ rest) ∙ ap (λ b. list_any p s.waiting || (b || list_any p rest)) (own_number owner) ∙ or-true (list_any p s.waiting) in
    ap (λ b. not (is_answered (slice_get s.incoming owner)) && not b) any ∙ and-false (not (is_answered (slice_get s.incoming owner)))
    ∙ sym (ap (λ b. cond b (lacks_answer owner s) false) (not_none (length rest)))

closing_so : (owner : ℕ) (items : List Item) (s : HostState) (b : Bool) → lacks_answer owner s ≡ b
    → closing owner items s ≡ cond b (outcome (items ++ no_answer owner ∷ []) (set_answered owner s)) (outcome items s)
closing_so owner items s b h = ap (λ b. cond b (outcome (items ++ no_answer owner ∷ []) (set_answered owner s)) (outcome items s)) h

abbrev all_items : ℕ → List Item → ℕ → List OutgoingCall → Option Answer → List Item
all_items owner items made performed answer = items ++ map call_item (numbered owner made performed) ++ answer_items owner answer

-- By what the code has decided.
by_decision : (c : Option host.Canister) (owner : ℕ) (items : List Item) (performed : List OutgoingCall) (answer : Option Answer) (incoming : List IncomingCall) (made : ℕ) (waiting : List OpenCall) (is_left : Bool)
    → lacks_answer owner (with_made owner performed answer (record { canister = c; incoming = incoming; made = made; waiting = waiting })) ≡ is_left
    → finished owner items performed answer (record { canister = c; incoming = incoming; made = made; waiting = waiting })
    ≡ outcome (cond is_left (all_items owner items made performed answer ++ no_answer owner ∷ []) (all_items owner items made performed answer))
    (record { canister = c; incoming = cond is_left (set_at (cond (is_answer answer) (set_at incoming owner) incoming) owner) (cond (is_answer answer) (set_at incoming owner) incoming); made = made + length performed; waiting = waiting ++ numbered owner made performed })
by_decision c owner items performed None incoming made waiting true h = closing_so owner (all_items owner items made performed None) (with_made owner performed None (record { canister = c; incoming = incoming; made = made; waiting = waiting })) true h
by_decision c owner items performed None incoming made waiting false h = closing_so owner (all_items owner items made performed None) (with_made owner performed None (record { canister = c; incoming = incoming; made = made; waiting = waiting })) false h
by_decision c owner items performed (Some a) incoming made waiting true h = closing_so owner (all_items owner items made performed (Some a)) (with_made owner performed (Some a) (record { canister = c; incoming = incoming; made = made; waiting = waiting })) true h
by_decision c owner items performed (Some a) incoming made waiting false h = closing_so owner (all_items owner items made performed (Some a)) (with_made owner performed (Some a) (record { canister = c; incoming = incoming; made = made; waiting = waiting })) false h

pub finish_so : (c : Option host.Canister) (owner : ℕ) (items before done : List Item) (performed : List OutgoingCall) (answer : Option Answer) (incoming middle new : List IncomingCall) (made after : ℕ) (waiting open_after : List OpenCall) (answers is_left : Bool)
    → answers ≡ is_answer answer
    → is_left ≡ cond answers false (cond (length (numbered owner made performed) == 0) (lacks_answer owner (record { canister = None; incoming = incoming; made = made; waiting = waiting })) false)
    → before ≡ all_items owner items made performed answer
    → done ≡ cond is_left (before ++ no_answer owner ∷ []) before
    → middle ≡ cond answers (set_at incoming owner) incoming → new ≡ cond is_left (set_at middle owner) middle
    → after ≡ made + length performed → open_after ≡ waiting ++ numbered owner made performed
    → finished owner items performed answer (record { canister = c; incoming = incoming; made = made; waiting = waiting })
    ≡ outcome done (record { canister = c; incoming = new; made = after; waiting = open_after })
finish_so c owner items before done performed answer incoming middle new made after waiting open_after answers is_left a l b d m n k w =
    let s : HostState = record { canister = c; incoming = incoming; made = made; waiting = waiting } in
    let left : lacks_answer owner (with_made owner performed answer s) ≡ is_left =
    lacks_made owner performed answer s ∙ ap (λ v. cond v false (cond (length (numbered owner made performed) == 0) (lacks_answer owner s) false)) (sym a) ∙ sym l in
    let items_so : cond is_left (all_items owner items made performed answer ++ no_answer owner ∷ []) (all_items owner items made performed answer) ≡ done =
    ap (λ i. cond is_left (i ++ no_answer owner ∷ []) i) (sym b) ∙ sym d in
    let middle_so : cond (is_answer answer) (set_at incoming owner) incoming ≡ middle = ap (λ v. cond v (set_at incoming owner) incoming) (sym a) ∙ sym m in
    let incoming_so : cond is_left (set_at (cond (is_answer answer) (set_at incoming owner) incoming) owner) (cond (is_answer answer) (set_at incoming owner) incoming) ≡ new =
    ap (λ i. cond is_left (set_at i owner) i) middle_so ∙ sym n in
    by_decision c owner items performed answer incoming made waiting is_left left
    ∙ ap (λ i. outcome i (record { canister = c; incoming = cond is_left (set_at (cond (is_answer answer) (set_at incoming owner) incoming) owner) (cond (is_answer answer) (set_at incoming owner) incoming); made = made + length performed; waiting = waiting ++ numbered owner made performed })) items_so
    ∙ ap (λ i. outcome done (record { canister = c; incoming = i; made = made + length performed; waiting = waiting ++ numbered owner made performed })) incoming_so
    ∙ ap (λ i. outcome done (record { canister = c; incoming = new; made = i; waiting = waiting ++ numbered owner made performed })) (sym k)
    ∙ ap (λ i. outcome done (record { canister = c; incoming = new; made = after; waiting = i })) (sym w)
