-- Executions only grow.
use Rattle.std.proofs.Common.{◌≡◌, ℕ, zero, suc, ◌+◌, ◌≤◌, List, [], ◌∷◌, ◌++◌, length, Bool, true, false, cond, nat_lt, Option, Some, None, refl, sym, ap, ◌∙◌, subst, append_assoc, append-nil, arith}
use Rattle.mo_types.specs.declared.node.TypeId.{TypeId}
use Rattle.mo_types.specs.Calls.{State, Open, Answered, Lost}
use Rattle.mo_types.specs.Code.{Variable}
use Rattle.mo_types.specs.Graph.{head_at}
use Rattle.mo_values.specs.Costs.{Cost, weighing}
use Rattle.mo_values.specs.Shapes.{Bytes, Error, Future}
use Rattle.mo_actor.specs.Executions.{Progress, Completion}
use Rattle.typed_tree.specs.Language.{Value, Exp, Made, NoValue, Val}
use Rattle.typed_tree.specs.Programs.{Program}
use Rattle.mo_meaning.specs.Acts.{Store, Request, Given, Gets, Fails, Act, Goes, Prints, Asks, Awaits, Leaves, Throws}
use Rattle.mo_meaning.specs.Acts as act
use Rattle.mo_meaning.specs.Actor.{meaning, surroundings}
use Rattle.mo_meaning.specs.Bodies.{progress, effects, shared_progress, body_execution}
use Rattle.mo_meaning.specs.Coding.{Types, Coding}
use Rattle.mo_meaning.specs.Configurations.{Configuration, End, Returns, Responds, Suspends, Sleeps, Traps, Breaks, Run, Still, Ended, Surroundings, weighed, moved, open_now, next_call, state_now, with_call}
use Rattle.mo_meaning.specs.Exports.{stable_cells}
use Rattle.mo_meaning.specs.Growth.{Precedes, Grows, AllGrow}
use Rattle.mo_meaning.specs.Kernel.{Fields, Body, Enters, Resumes, Kept}
use Rattle.mo_meaning.specs.Messages.{message_cost, unpacked}
use Rattle.mo_meaning.specs.Places.{value_or}
use Rattle.mo_meaning.specs.Reduce.{reduce}
use Rattle.mo_meaning.specs.Saving.{alone, saving_from, held_in, variables_of, saved_progress, kept_progress, save}
use Rattle.mo_meaning.specs.Starting.{start_from, fields_progress, start}
use Rattle.mo_meaning.specs.Turns.{most_calls, most_bytes, too_long, refused, rejects, call_cost, call_of, message, given_turn, give, if_room, send, resumes, awaits, turn, turns, turns_given, then_turns, replies, as_reply}
use Rattle.mo_meaning.proofs.Settled.{stays, given_stays}

record Grew (c d : Configuration) : Type 0 where
  weight : c.weight ≤ d.weight
  depth : c.depth ≤ d.depth
  more : List Bytes
  prints : d.prints ≡ c.prints ++ more

same : (c : Configuration) → Grew c c
same c = record { weight = omega arith; depth = omega arith; more = []; prints = sym (append-nil c.prints) }

grew_on : (a b c : Configuration) → Grew a b → Grew b c → Grew a c
grew_on a b c g h = record {
  weight = omega (arith, g.weight, h.weight);
  depth = omega (arith, g.depth, h.depth);
  more = g.more ++ h.more;
  prints = h.prints ∙ ap (λ ps. ps ++ h.more) g.prints ∙ append_assoc a.prints g.more h.more;
}

weighed_grew : (cost : Cost) (c : Configuration) → Grew c (weighed cost c)
weighed_grew cost c = record { weight = omega arith; depth = omega arith; more = []; prints = sym (append-nil c.prints) }

moved_grew : (cost : Cost) (store : Store) (e : Exp) (c : Configuration) → Grew c (moved cost store e c)
moved_grew cost store e c = record { weight = omega arith; depth = omega arith; more = []; prints = sym (append-nil c.prints) }

abbrev configuration : Run → Configuration
configuration (Still c) = c
configuration (Ended c end) = c

abbrev To : Configuration → Run → Type 0
To c r = Grew c (configuration r)

by_cond : (b : Bool) (c : Configuration) (x y : Run) → To c x → To c y → To c (cond b x y)
by_cond true c x y p q = p
by_cond false c x y p q = q

-- ---- one turn

rejects_grew : (c : Configuration) (v : Value) → To c (rejects c v)
rejects_grew c (Made (Error k text) NoValue) =
    by_cond (nat_lt most_bytes (length text)) c _ _ (weighed_grew (weighing (length text)) c) (weighed_grew (weighing (length text)) c)
rejects_grew c v = same c

module _ (s : Surroundings) where
  given_grew : (c : Configuration) (a : Act) → To c (given_turn s c a)
  given_grew c (Goes cost store e) = moved_grew cost store e c
  given_grew c (Throws cost error) = grew_on c (weighed cost c) _ (weighed_grew cost c) (rejects_grew (weighed cost c) error)
  given_grew c (act.Traps cost text) = weighed_grew cost c
  given_grew c (Prints cost text e) = same c
  given_grew c (Asks request) = same c
  given_grew c (Awaits nodes call) = same c
  given_grew c (Leaves labels v) = same c
  given_grew c act.Stuck = same c

  give_grew : (g : Given) (c : Configuration) → To c (give s g c)
  give_grew g c = given_grew c (reduce (head_at s.types) (Some g) c.store c.at)

  room_grew : (c : Configuration) (r : Run) → To c r → To c (if_room s c r)
  room_grew c r h = by_cond (nat_lt (open_now s c) most_calls) c r (give s (Fails refused) c) h (give_grew (Fails refused) c)

  send_grew : (r : Request) (m : Option Bytes) (c : Configuration) → To c (send s r m c)
  send_grew r None c = same c
  send_grew r (Some bytes) c =
      let d = with_call (call_of r bytes) (weighed (call_cost r.callee r.method r.arguments bytes) c) in
      let g = Gets (Made (Future (next_call s c)) NoValue) in
      by_cond (nat_lt most_bytes (length bytes)) c (Ended (weighed (message_cost r.arguments bytes) c) (Traps too_long)) (give s g d) (weighed_grew (message_cost r.arguments bytes) c)
      (grew_on c d (configuration (give s g d)) (record { weight = omega arith; depth = omega arith; more = []; prints = sym (append-nil c.prints) }) (give_grew g d))

  resumes_grew : (nodes future : ℕ) (m : Option Bytes) (c : Configuration) → To c (resumes s nodes future m c)
  resumes_grew nodes future None c = same c
  resumes_grew nodes future (Some bytes) c = record { weight = omega arith; depth = omega arith; more = []; prints = sym (append-nil c.prints) }

  awaits_grew : (nodes future : ℕ) (state : Option (State Given)) (c : Configuration) → To c (awaits s nodes future state c)
  awaits_grew nodes future None c = same c
  awaits_grew nodes future (Some Open) c = weighed_grew (weighing (1 + nodes)) c
  awaits_grew nodes future (Some (Answered g)) c = room_grew c _ (resumes_grew nodes future (message s [] []) c)
  awaits_grew nodes future (Some Lost) c = weighed_grew (weighing (1 + nodes)) c

  turn_grew : (c : Configuration) (a : Act) → To c (turn s c a)
  turn_grew c (Goes cost store e) = moved_grew cost store e c
  turn_grew c (Prints cost text e) = record { weight = omega arith; depth = omega arith; more = text ∷ []; prints = refl }
  turn_grew c (Asks r) = room_grew c _ (send_grew r (message s r.parameters r.arguments) c)
  turn_grew c (Awaits nodes future) = awaits_grew nodes future (state_now s c future) c
  turn_grew c (Leaves labels v) = same c
  turn_grew c (Throws cost error) = grew_on c (weighed cost c) _ (weighed_grew cost c) (rejects_grew (weighed cost c) error)
  turn_grew c (act.Traps cost text) = weighed_grew cost c
  turn_grew c act.Stuck = same c

  -- ---- turns

  by_value : (c : Configuration) (e : Exp) (on : Value → Run) (otherwise : Run) → ((v : Value) → To c (on v)) → To c otherwise → To c (value_or e on otherwise)
  by_value c (Val v) on otherwise p q = p v
  by_value c e on otherwise p q = q

  first_grew : (c : Configuration) → To c (value_or c.at (λ v. Ended c (Returns v)) (turn s c (reduce (head_at s.types) None c.store c.at)))
  first_grew c = by_value c c.at (λ v. Ended c (Returns v)) _ (λ v. same c) (turn_grew c (reduce (head_at s.types) None c.store c.at))

  after_none : (c : Configuration) (r : Run) → To c r → To c (then_turns s (turns s zero) r)
  after_none c (Still d) h = h
  after_none c (Ended d end) h = h

  abbrev GrowsAt : ℕ → Type 0
  GrowsAt n = (c : Configuration) → Grew (configuration (turns s n c)) (configuration (turns s (suc n) c))

  after_more : (n : ℕ) → GrowsAt n → (r : Run) → Grew (configuration (then_turns s (turns s n) r)) (configuration (then_turns s (turns s (suc n)) r))
  after_more n ih (Still d) = ih d
  after_more n ih (Ended d end) = same d

  turns_grow : (n : ℕ) → GrowsAt n
  turns_grow zero c = after_none c (value_or c.at (λ v. Ended c (Returns v)) (turn s c (reduce (head_at s.types) None c.store c.at))) (first_grew c)
  turns_grow (suc n) c = after_more n (turns_grow n) (value_or c.at (λ v. Ended c (Returns v)) (turn s c (reduce (head_at s.types) None c.store c.at)))

  given_grow : (g : Given) (n : ℕ) (c : Configuration) → Grew (configuration (turns_given s g n c)) (configuration (turns_given s g (suc n) c))
  given_grow g zero c = after_none c (give s g c) (give_grew g c)
  given_grow g (suc n) c = after_more n (turns_grow n) (give s g c)

-- ---- what is made of them

record Above {A : Type 0} (c : Configuration) (p : Progress A) : Type 0 where
  weight : c.weight ≤ p.weight
  depth : c.depth ≤ p.depth
  more : List Bytes
  prints : p.prints ≡ c.prints ++ more

above : {A : Type 0} (c d : Configuration) (completion : Option (Completion A)) → Grew c d → Above c (progress d completion)
above c d completion g = record { weight = g.weight; depth = g.depth; more = g.more; prints = g.prints }

itself : {A : Type 0} (p : Progress A) → Precedes p p
itself p = record { weight = omega arith; depth = omega arith; prints = ([], sym (append-nil p.prints)) }

module _ {A : Type 0} (x : ℕ → Run) (f : Run → Progress A)
    (stay : (n : ℕ) (d : Configuration) (end : End) → x n ≡ Ended d end → x (suc n) ≡ Ended d end)
    (grow : (n : ℕ) → Grew (configuration (x n)) (configuration (x (suc n))))
    (going : (c : Configuration) → f (Still c) ≡ progress c None)
    (on : (c : Configuration) (r : Run) → Grew c (configuration r) → Above c (f r)) where
  preceded : (c : Configuration) (p q : Progress A) → p ≡ progress c None → Above c q → Precedes p q
  preceded c p q e a = subst (λ p. Precedes p q) (sym e) (record { weight = a.weight; depth = a.depth; prints = (a.more, a.prints) })

  grows_at : (n : ℕ) (r : Run) → x n ≡ r → Precedes (f r) (f (x (suc n)))
  grows_at n (Still c) e = preceded c (f (Still c)) (f (x (suc n))) (going c) (on c (x (suc n)) (subst (λ r. Grew (configuration r) (configuration (x (suc n)))) e (grow n)))
  grows_at n (Ended c end) e = subst (λ r. Precedes (f (Ended c end)) (f r)) (sym (stay n c end e)) (itself (f (Ended c end)))

  grows : Grows (λ n. f (x n))
  grows n = grows_at n (x n) refl

-- ---- the executions of a program

module _ (s : Surroundings) where
  replies_grew : (vs : List Value) (m : Option Bytes) (c : Configuration) → To c (replies s vs m c)
  replies_grew vs None c = same c
  replies_grew vs (Some bytes) c = by_cond (nat_lt most_bytes (length bytes)) c _ _ (weighed_grew _ c) (weighed_grew _ c)

  reply_grew : (results : List TypeId) (r : Run) → Grew (configuration r) (configuration (as_reply s results r))
  reply_grew results (Still c) = same c
  reply_grew results (Ended c (Returns v)) = replies_grew (unpacked results v) (message s results (unpacked results v)) c
  reply_grew results (Ended c (Responds answer)) = same c
  reply_grew results (Ended c (Suspends call nodes)) = same c
  reply_grew results (Ended c Sleeps) = same c
  reply_grew results (Ended c (Traps text)) = same c
  reply_grew results (Ended c Breaks) = same c

shared_above : (fields : Fields) (results : List TypeId) (c : Configuration) (r : Run) → Grew c (configuration r) → Above c (shared_progress fields results r)
shared_above fields results c (Still d) g = above c d None g
shared_above fields results c (Ended d end) g = above c d (effects fields results d end) g

fields_above : (c : Configuration) (r : Run) → Grew c (configuration r) → Above c (fields_progress r)
fields_above c (Still d) g = above c d None g
fields_above c (Ended d (Returns v)) g = above c d _ g
fields_above c (Ended d (Traps text)) g = above c d _ g
fields_above c (Ended d (Responds answer)) g = above c d None g
fields_above c (Ended d (Suspends call nodes)) g = above c d None g
fields_above c (Ended d Sleeps) g = above c d None g
fields_above c (Ended d Breaks) g = above c d None g

module _ (coding : Coding) (types : Types) (p : Program) where
  saved_above : (vs : List Value) (c d : Configuration) (variables : Option (List (Variable TypeId))) → Grew c d → Above c (saved_progress coding types p vs d variables)
  saved_above vs c d None g = above c d None g
  saved_above vs c d (Some variables) g = above c _ _ (grew_on c d _ g (weighed_grew _ d))

  kept_above : (exports : Value) (c : Configuration) (r : Run) → Grew c (configuration r) → Above c (kept_progress coding types p exports r)
  kept_above exports c (Still d) g = above c d None g
  kept_above exports c (Ended d (Returns v)) g =
      saved_above (held_in d.store (stable_cells exports)) c d (variables_of types p.stable (held_in d.store (stable_cells exports))) g
  kept_above exports c (Ended d (Traps text)) g = above c d _ g
  kept_above exports c (Ended d (Responds answer)) g = above c d None g
  kept_above exports c (Ended d (Suspends call nodes)) g = above c d None g
  kept_above exports c (Ended d Sleeps) g = above c d None g
  kept_above exports c (Ended d Breaks) g = above c d None g

  body_grows : (s : Surroundings) (fields : Fields) (body : Body) → Grows (body_execution s fields body)
  body_grows s fields (Enters entry caller vs) =
      grows (λ n. turns s n _) (λ r. shared_progress fields entry.results (as_reply s entry.results r)) (λ n d end h. stays s n _ d end h) (λ n. turns_grow s n _)
      (λ c. refl) (λ c r g. shared_above fields entry.results c (as_reply s entry.results r) (grew_on c _ _ g (reply_grew s entry.results r)))
  body_grows s fields (Resumes w g) =
      grows (λ n. turns_given s g n _) (λ r. shared_progress fields w.results (as_reply s w.results r)) (λ n d end h. given_stays s g n _ d end h) (λ n. given_grow s g n _)
      (λ c. refl) (λ c r h. shared_above fields w.results c (as_reply s w.results r) (grew_on c _ _ h (reply_grew s w.results r)))

  start_grows : (own : Bytes) (kept : Option Kept) → Grows (start coding types p own kept)
  start_grows own kept =
      grows (λ n. turns (alone coding types own) n (start_from coding types p own kept)) fields_progress
      (λ n d end h. stays (alone coding types own) n (start_from coding types p own kept) d end h) (λ n. turns_grow (alone coding types own) n (start_from coding types p own kept))
      (λ c. refl) fields_above

  save_grows : (own : Bytes) (fields : Fields) → Grows (save coding types p own fields)
  save_grows own fields =
      let c = saving_from p fields in
      grows (λ n. turns (alone coding types own) n c) (kept_progress coding types p fields.exports)
      (λ n d end h. stays (alone coding types own) n c d end h) (λ n. turns_grow (alone coding types own) n c)
      (λ c. refl) (kept_above fields.exports)

  pub all_grow : (first : ℕ) → AllGrow (meaning coding first types p)
  all_grow first = record {
    run = λ own table fields body. body_grows (surroundings coding types own table) fields body;
    start = λ own kept. start_grows own kept;
    save = λ own fields. save_grows own fields;
  }
