-- Each turn is paid.
use Rattle.std.proofs.Common.{ℕ, zero, suc, ◌+◌, ◌≤◌, [], length, Bool, true, false, cond, nat_lt, Option, Some, None, subst, arith}
use Rattle.mo_types.specs.Calls.{State, Open, Answered, Lost}
use Rattle.mo_types.specs.Graph.{head_at}
use Rattle.mo_values.specs.Shapes.{Bytes, Error, Future}
use Rattle.typed_tree.specs.Language.{Value, Exp, Made, NoValue, Val}
use Rattle.mo_meaning.specs.Acts.{Request, Given, Gets, Fails, Act, Goes, Prints, Asks, Awaits, Leaves, Throws}
use Rattle.mo_meaning.specs.Acts as act
use Rattle.mo_meaning.specs.Configurations.{Configuration, Returns, Traps, Run, Still, Ended, Surroundings, weighed, open_now, next_call, state_now, with_call}
use Rattle.mo_meaning.specs.Messages.{message_cost}
use Rattle.mo_meaning.specs.Payment.{IsPaid}
use Rattle.mo_meaning.specs.Places.{value_or}
use Rattle.mo_meaning.specs.Reduce.{reduce}
use Rattle.mo_meaning.specs.Turns.{most_calls, most_bytes, too_long, refused, rejects, call_cost, call_of, message, given_turn, give, if_room, send, resumes, awaits, turn, turns, then_turns}
use Rattle.mo_meaning.proofs.Paid.{Paid, reduce_paid}

-- so much more at least, where it still goes on
abbrev More : ℕ → Configuration → Run → Type 0
More n c (Still d) = c.weight + n ≤ d.weight
More n c (Ended d end) = Unit {0}

by_cond : (b : Bool) (n : ℕ) (c : Configuration) (x y : Run) → More n c x → More n c y → More n c (cond b x y)
by_cond true n c x y p q = p
by_cond false n c x y p q = q

rejects_more : (n : ℕ) (c d : Configuration) (v : Value) → More n c (rejects d v)
rejects_more n c d (Made (Error k text) NoValue) = by_cond (nat_lt most_bytes (length text)) n c _ _ tt tt
rejects_more n c d v = tt

module _ (s : Surroundings) where
  given_more : (c : Configuration) (a : Act) → Paid a → More 1 c (given_turn s c a)
  given_more c (Goes cost store e) h = omega (arith, h)
  given_more c (Throws cost error) h = rejects_more 1 c (weighed cost c) error
  given_more c (act.Traps cost text) h = tt
  given_more c (Prints cost text e) h = tt
  given_more c (Asks request) h = tt
  given_more c (Awaits nodes call) h = tt
  given_more c (Leaves labels v) h = tt
  given_more c act.Stuck h = tt

  -- of a configuration that weighs no less
  from : (c d : Configuration) (r : Run) → c.weight ≤ d.weight → More 1 d r → More 1 c r
  from c d (Still e) h k = omega (arith, h, k)
  from c d (Ended e end) h k = tt

  give_more : (g : Given) (c : Configuration) → More 1 c (give s g c)
  give_more g c = given_more c (reduce (head_at s.types) (Some g) c.store c.at) (reduce_paid c.store (head_at s.types) (Some g) c.at)

  room_more : (c : Configuration) (r : Run) → More 1 c r → More 1 c (if_room s c r)
  room_more c r h = by_cond (nat_lt (open_now s c) most_calls) 1 c r (give s (Fails refused) c) h (give_more (Fails refused) c)

  send_more : (r : Request) (m : Option Bytes) (c : Configuration) → More 1 c (send s r m c)
  send_more r None c = tt
  send_more r (Some bytes) c = let d = with_call (call_of r bytes) (weighed (call_cost r.callee r.method r.arguments bytes) c) in
      let g = Gets (Made (Future (next_call s c)) NoValue) in
      by_cond (nat_lt most_bytes (length bytes)) 1 c (Ended (weighed (message_cost r.arguments bytes) c) (Traps too_long)) (give s g d) tt
      (from c d (give s g d) (omega arith) (give_more g d))

  resumes_more : (nodes future : ℕ) (m : Option Bytes) (c : Configuration) → More 1 c (resumes s nodes future m c)
  resumes_more nodes future None c = tt
  resumes_more nodes future (Some bytes) c = tt

  awaits_more : (nodes future : ℕ) (state : Option (State Given)) (c : Configuration) → More 1 c (awaits s nodes future state c)
  awaits_more nodes future None c = tt
  awaits_more nodes future (Some Open) c = tt
  awaits_more nodes future (Some (Answered g)) c = room_more c _ (resumes_more nodes future (message s [] []) c)
  awaits_more nodes future (Some Lost) c = tt

  turn_more : (c : Configuration) (a : Act) → Paid a → More 1 c (turn s c a)
  turn_more c (Goes cost store e) h = omega (arith, h)
  turn_more c (Prints cost text e) h = omega (arith, h)
  turn_more c (Asks r) h = room_more c _ (send_more r (message s r.parameters r.arguments) c)
  turn_more c (Awaits nodes future) h = awaits_more nodes future (state_now s c future) c
  turn_more c (Leaves labels v) h = tt
  turn_more c (Throws cost error) h = rejects_more 1 c (weighed cost c) error
  turn_more c (act.Traps cost text) h = tt
  turn_more c act.Stuck h = tt

  by_value : (c : Configuration) (e : Exp) (on : Value → Run) (otherwise : Run) → ((v : Value) → More 1 c (on v)) → More 1 c otherwise → More 1 c (value_or e on otherwise)
  by_value c (Val v) on otherwise p q = p v
  by_value c e on otherwise p q = q

  onward : (n : ℕ) (c d : Configuration) (r : Run) → c.weight + 1 ≤ d.weight → More n d r → More (suc n) c r
  onward n c d (Still e) h k = omega (arith, h, k)
  onward n c d (Ended e end) h k = tt

  then_more : (n : ℕ) → ((d : Configuration) → More n d (turns s n d)) → (c : Configuration) (r : Run) → More 1 c r → More (suc n) c (then_turns s (turns s n) r)
  then_more n ih c (Still d) h = onward n c d (turns s n d) h (ih d)
  then_more n ih c (Ended d end) h = tt

  turns_more : (n : ℕ) (c : Configuration) → More n c (turns s n c)
  turns_more zero c = omega arith
  turns_more (suc n) c =
      then_more n (turns_more n) c (value_or c.at (λ v. Ended c (Returns v)) (turn s c (reduce (head_at s.types) None c.store c.at)))
      (by_value c c.at (λ v. Ended c (Returns v)) _ (λ v. tt) (turn_more c (reduce (head_at s.types) None c.store c.at) (reduce_paid c.store (head_at s.types) None c.at)))

pub all_paid : (s : Surroundings) → IsPaid s
all_paid s n c d e = subst (More n c) e (turns_more s n c)
