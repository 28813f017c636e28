-- A ledger that asks another actor before it pays: functions that call themselves, jumps out of a handler, a stable variable
-- over an upgrade. Motoko language manual, sections "Functions", "Return", "Try" and "Stable variables".
use Rattle.std.specs.Prelude.{ℕ, [], ◌∷◌, ◌++◌, Option, Some, codes}
use Rattle.play_script.specs.declared.event.Event.{Event}
use Rattle.play_script.specs.declared.event.Event.TheVariants as event
use Rattle.play_script.specs.declared.item.Item.TheVariants as item
use Rattle.mo_types.specs.Graph.{head_at}
use Rattle.mo_values.specs.declared.operation.Operation.TheVariants as op
use Rattle.mo_values.specs.Shapes.{Bytes}
use Rattle.typed_tree.specs.declared.action.Member.TheVariants as member
use Rattle.typed_tree.specs.Patterns.{Pat, Bind, Parts}
use Rattle.typed_tree.specs.Language.{Exp, Val, Name, If, Group, Try, NoFunction, null, unit, let_in, then, var_in}
use Rattle.typed_tree.specs.Programs.{Program}
use Rattle.mo_meaning.specs.ExampleTypes.{graph, nat, text, bool, outcome, book}
use Rattle.mo_meaning.specs.Playing.{Items, plays, calls_with, queries_with, installed, replied, didl, nat_message}
use Rattle.mo_meaning.specs.Writing.{number, string, the_actor, operate, tuple, some, tagged, plus, minus, less, read, write, call, built_in, ask, await, break, by_option, local, shared, update, query, variable, kept_or, exports, pats}

abbrev pub ok : Exp → Exp
ok e = tagged (codes "ok") e

abbrev pub err : Exp → Exp
err e = tagged (codes "err") e

abbrev pub poor : Exp
poor = break 0 (err (string (codes "poor")))

-- `if (a < b) return #err "poor"`
abbrev pub if_poor : Exp → Exp → Exp
if_poor a b = If (less a b) poor (Val unit)

abbrev pub same_text : Exp → Exp → Exp
same_text e f = operate (op.Equal text) (e ∷ f ∷ [])

-- `case (?(k, v, rest))`
abbrev pub of_entry : Pat
of_entry = Parts (pats (Bind ∷ Bind ∷ Bind ∷ []))

-- `switch b { case null 0; case (?(k, v, rest)) { if (k == who) v else get(rest, who) } }`, of b 0, who 1, get 2, put 3
abbrev pub get : Exp
get = by_option (Name 0) (number 0) of_entry (If (same_text (Name 0) (Name 4)) (Name 1) (call (Name 5) (Name 2 ∷ Name 4 ∷ [])))

-- `switch b { case null { ?(who, n, null) }; case (?(k, v, rest)) { if (k == who) ?(k, n, rest) else ?(k, v, put(rest, who, n)) } }`,
-- of b 0, who 1, n 2, get 3, put 4
abbrev pub put : Exp
put =
    by_option (Name 0) (some (tuple (Name 1 ∷ Name 2 ∷ Val null ∷ []))) of_entry
    (If (same_text (Name 0) (Name 4)) (some (tuple (Name 0 ∷ Name 5 ∷ Name 2 ∷ [])))
    (some (tuple (Name 0 ∷ Name 1 ∷ call (Name 7) (Name 2 ∷ Name 4 ∷ Name 5 ∷ []) ∷ []))))

-- who 0, n 1, deposit 2, pay 3, balance 4, audit 5, book 6, get 7, put 8
abbrev pub deposit : Exp
deposit =
    let_in Bind (plus (call (Name 7) (read (Name 6) ∷ Name 0 ∷ [])) (Name 1))
    (then (write (Name 7) (call (Name 9) (read (Name 7) ∷ Name 1 ∷ Name 0 ∷ [])))
    (ok (Name 0)))

-- `audit.note(to, n)`, where these are the names
abbrev pub note : ℕ → ℕ → ℕ → Exp
note audit to n = ask (text ∷ nat ∷ []) (bool ∷ []) (codes "note") (Name audit) (Name to ∷ Name n ∷ [])

-- from 0, to 1, n 2, deposit 3, pay 4, balance 5, audit 6, book 7, get 8, put 9
abbrev pub pay : Exp
pay =
    then (if_poor (call (Name 8) (read (Name 7) ∷ Name 0 ∷ [])) (Name 2))
    (then (Try (If (operate op.Not (await (note 6 1 2) ∷ [])) (break 0 (err (string (codes "denied")))) (Val unit)) Bind (break 0 (err (call (built_in member.ErrorMessage) (Name 0 ∷ [])))))
    -- now 0, and the others one further
    (let_in Bind (call (Name 8) (read (Name 7) ∷ Name 0 ∷ []))
    (then (if_poor (Name 0) (Name 3))
    -- b 0, now 1, and the others two further
    (let_in Bind (call (Name 10) (read (Name 8) ∷ Name 1 ∷ minus (Name 0) (Name 3) ∷ []))
    (then (write (Name 9) (call (Name 11) (Name 0 ∷ Name 3 ∷ plus (call (Name 10) (Name 0 ∷ Name 3 ∷ [])) (Name 4) ∷ [])))
    (ok (minus (Name 1) (Name 4))))))))

abbrev pub auditor : Bytes
auditor = 0 ∷ 0 ∷ 0 ∷ 0 ∷ 0 ∷ 0 ∷ 0 ∷ 2 ∷ 1 ∷ 1 ∷ []

abbrev pub ledger : Program
ledger = record {
  head = head_at graph;
  stable = variable (codes "book") book ∷ [];
  methods = update (codes "deposit") (text ∷ nat ∷ []) (outcome ∷ []) ∷ update (codes "pay") (text ∷ text ∷ nat ∷ []) (outcome ∷ []) ∷ query (codes "balance") (text ∷ []) (nat ∷ []) ∷ [];
  nodes = 10;
  -- the actor 0, deposit 1, pay 2, balance 3, what was kept of book 4
  body =
      Group (local 22 (Bind ∷ Bind ∷ []) get (local 32 (Bind ∷ Bind ∷ Bind ∷ []) put NoFunction))
      (var_in (kept_or 6 (Val null))
      (let_in Bind (the_actor auditor)
      (Group (shared 24 (Bind ∷ Bind ∷ []) deposit
      (shared 70 (Bind ∷ Bind ∷ Bind ∷ []) pay
      -- who 0, deposit 1, pay 2, balance 3, audit 4, book 5, get 6
      (shared 8 (Bind ∷ []) (call (Name 6) (read (Name 5) ∷ Name 0 ∷ [])) NoFunction)))
      -- deposit 0, pay 1, balance 2, audit 3, book 4
      (exports (Name 0 ∷ Name 1 ∷ Name 2 ∷ []) (Val null) (Val null) (codes "book" ∷ []) (Name 4 ∷ [])))));
}

-- ---- messages

abbrev pub ann : Bytes
ann = 3 ∷ 0x61 ∷ 0x6e ∷ 0x6e ∷ []

abbrev pub bob : Bytes
bob = 3 ∷ 0x62 ∷ 0x6f ∷ 0x62 ∷ []

abbrev pub pays : Bytes → Bytes → ℕ → Event
pays from to n = calls_with (codes "pay") (didl (0 ∷ 3 ∷ 0x71 ∷ 0x71 ∷ 0x7d ∷ (from ++ (to ++ n ∷ []))))

abbrev pub balances : Bytes → Event
balances who = queries_with (codes "balance") (didl (0 ∷ 1 ∷ 0x71 ∷ who))

-- `{#ok : Nat; #err : Text}`, of which `#ok` has the lesser number
abbrev pub outcome_message : Bytes → Bytes
outcome_message bytes = didl (1 ∷ 0x6b ∷ 2 ∷ 0x9c ∷ 0xc2 ∷ 1 ∷ 0x7d ∷ 0xe5 ∷ 0x8e ∷ 0xb4 ∷ 2 ∷ 0x71 ∷ 1 ∷ 0 ∷ bytes)

abbrev pub the_ledger : Option Items
the_ledger =
    plays 200 (ledger ∷ [])
    (calls_with (codes "deposit") (didl (0 ∷ 2 ∷ 0x71 ∷ 0x7d ∷ (ann ++ 5 ∷ []))) ∷ pays ann bob 3 ∷ balances bob ∷ event.Reply 0 (didl (0 ∷ 1 ∷ 0x7e ∷ 1 ∷ [])) ∷ balances bob ∷ pays bob ann 9 ∷ event.Upgrade 0 ∷ balances ann ∷ [])

abbrev pub wanted_ledger : Option Items
wanted_ledger =
    Some (installed ∷ replied 0 (outcome_message (0 ∷ 5 ∷ []))
    ∷ (item.Call 0 auditor (codes "note") (didl (0 ∷ 2 ∷ 0x71 ∷ 0x7d ∷ (bob ++ 3 ∷ []))) ∷ [])
    ∷ replied 2 (nat_message 0) ∷ replied 1 (outcome_message (0 ∷ 2 ∷ [])) ∷ replied 3 (nat_message 3)
    ∷ replied 4 (outcome_message (1 ∷ 4 ∷ codes "poor")) ∷ (item.Upgraded ∷ []) ∷ replied 5 (nat_message 2) ∷ [])
