-- Errors and jumps on their way outward: Motoko language manual, sections "Try", "Throw", "Return" and "Labels"; base library,
-- `Error`.
use Rattle.std.specs.Prelude.{ℕ, List, [], ◌∷◌, Option, codes}
use Rattle.play_script.specs.declared.event.Event.TheVariants as event
use Rattle.play_script.specs.declared.item.Item.TheVariants as item
use Rattle.mo_values.specs.declared.operation.Operation.TheVariants as op
use Rattle.mo_values.specs.Shapes.{Bytes}
use Rattle.typed_tree.specs.declared.action.Member.TheVariants as member
use Rattle.typed_tree.specs.Patterns.{Bind, Wildcard, Tagged, Parts, NoPat}
use Rattle.typed_tree.specs.Language.{Exp, Cases, Val, Name, If, Switch, Label, Try, ACase, NoCase, unit, let_in, then}
use Rattle.mo_meaning.specs.ExampleTypes.{nat, nat32, text}
use Rattle.mo_meaning.specs.BenchRows.{goes, comes, the_variable, ask_f, ask_g}
use Rattle.mo_meaning.specs.Playing.{Items, calls, replied, trapped_call, called, nat_message, text_message}
use Rattle.mo_meaning.specs.Writing.{number, string, operate, read, write, await, throw, break, call, built_in, method_of}

-- `Error.reject(t)`, `Error.message(e)`
abbrev pub reject : Bytes → Exp
reject t = call (built_in member.ErrorReject) (string t ∷ [])

abbrev pub message : Exp → Exp
message e = call (built_in member.ErrorMessage) (e ∷ [])

-- ---- `try { let n = await o.g(); if (n == 0) throw Error.reject("zero"); "ok" } catch (e) { "caught " # Error.message(e) }`

abbrev pub catching : Exp
catching =
    Try (let_in Bind (await (ask_g 0))
    (then (If (operate (op.Equal nat) (Name 0 ∷ number 0 ∷ [])) (throw (reject (codes "zero"))) (Val unit)) (string (codes "ok"))))
    Bind (operate op.Concat (string (codes "caught ") ∷ message (Name 0) ∷ []))

abbrev pub caught : Option Items
caught =
    goes (text ∷ []) catching
    (event.Reply 0 (nat_message 0) ∷ calls (codes "go") ∷ event.Reply 1 (nat_message 1) ∷ calls (codes "go") ∷ event.Reject 2 4 (codes "bad")
    ∷ calls (codes "go") ∷ event.Reply 3 (text_message (codes "x")) ∷ [])

abbrev pub wanted_caught : Option Items
wanted_caught =
    comes (called 0 (codes "g") ∷ replied 0 (text_message (codes "caught zero")) ∷ called 1 (codes "g") ∷ replied 1 (text_message (codes "ok"))
    ∷ called 2 (codes "g") ∷ replied 2 (text_message (codes "caught bad")) ∷ called 3 (codes "g") ∷ trapped_call 3 (codes "bad reply") ∷ [])

-- ---- `try { await o.f(); 0 } catch (e) { switch (Error.code(e)) { case (#system_fatal) 1; .. case (#canister_error) 5;`
-- `case (#future n) { if (n == 4294967295) 7 else 6 }; case (#call_error _) 8 } }`

abbrev pub plain_case : Bytes → ℕ → Cases → Cases
plain_case l n cases = ACase (Tagged l (Parts NoPat)) (number n) cases

abbrev pub by_code : Exp
by_code =
    Switch (call (built_in member.ErrorCode) (Name 0 ∷ []))
    (plain_case (codes "system_fatal") 1 (plain_case (codes "system_transient") 2 (plain_case (codes "destination_invalid") 3
    (plain_case (codes "canister_reject") 4 (plain_case (codes "canister_error") 5
    (ACase (Tagged (codes "future") Bind) (If (operate (op.Equal nat32) (Name 0 ∷ number 4294967295 ∷ [])) (number 7) (number 6))
    (ACase (Tagged (codes "call_error") Wildcard) (number 8) NoCase)))))))

abbrev pub code_of : ℕ → Option Items
code_of n = goes (nat ∷ []) (Try (then (await (ask_f 0)) (number 0)) Bind by_code) (event.Reject 0 n (codes "m") ∷ [])

abbrev pub wanted_code : ℕ → Option Items
wanted_code n = comes (called 0 (codes "f") ∷ replied 0 (nat_message n) ∷ [])

-- ---- what is passed on the way outward

-- `try { return 5 } catch (_) {}; 7`
abbrev pub returns : Exp
returns = then (Try (break 0 (number 5)) Wildcard (Val unit)) (number 7)

-- `label l { try { break l } catch (_) { n := 3 } }; n`
abbrev pub breaks : Exp
breaks = then (Label (Try (break 0 (Val unit)) Wildcard (write (the_variable 0) (number 3)))) (read (the_variable 0))

-- `try { label l { throw Error.reject("no") }; 1 } catch (e) { Error.message(e).size() }`
abbrev pub over_label : Exp
over_label = Try (then (Label (throw (reject (codes "no")))) (number 1)) Bind (call (method_of member.TextSize (message (Name 0))) [])

-- `try { try { throw Error.reject("a") } catch (_) { throw Error.reject("bcd") } } catch (e) { Error.message(e).size() }`
abbrev pub in_handler : Exp
in_handler = Try (Try (throw (reject (codes "a"))) Wildcard (throw (reject (codes "bcd")))) Bind (call (method_of member.TextSize (message (Name 0))) [])

abbrev pub gives : Exp → Option Items
gives body = goes (nat ∷ []) body []

abbrev pub number_is : ℕ → Option Items
number_is n = comes (replied 0 (nat_message n) ∷ [])

-- `throw Error.reject("no")`
abbrev pub leaves : Option Items
leaves = goes [] (throw (reject (codes "no"))) []

abbrev pub wanted_leaves : Option Items
wanted_leaves = comes ((item.Rejected 0 4 (codes "no") ∷ []) ∷ [])

-- ---- all of them

abbrev pub catches : List (Option Items)
catches =
    caught ∷ code_of 1 ∷ code_of 2 ∷ code_of 3 ∷ code_of 4 ∷ code_of 5 ∷ code_of 6 ∷ code_of 4294967295
    ∷ gives returns ∷ gives breaks ∷ gives over_label ∷ gives in_handler ∷ leaves ∷ []

abbrev pub wanted_catches : List (Option Items)
wanted_catches =
    wanted_caught ∷ wanted_code 1 ∷ wanted_code 2 ∷ wanted_code 3 ∷ wanted_code 4 ∷ wanted_code 5 ∷ wanted_code 6 ∷ wanted_code 7
    ∷ number_is 5 ∷ number_is 1 ∷ number_is 2 ∷ number_is 3 ∷ wanted_leaves ∷ []
