-- The 501st open call is refused: IC interface specification, section "Inter-canister calls"; Motoko base library,
-- `Error.ErrorCode`.
use Rattle.std.specs.Prelude.{ℕ, zero, suc, List, [], ◌∷◌, ◌++◌, Option, Some, codes}
use Rattle.play_script.specs.declared.event.Event.TheVariants as event
use Rattle.play_script.specs.declared.item.Item.{Item}
use Rattle.play_script.specs.declared.item.Item.TheVariants as item
use Rattle.typed_tree.specs.declared.action.Member.TheVariants as member
use Rattle.typed_tree.specs.Patterns.{Bind, Wildcard, Tagged}
use Rattle.typed_tree.specs.Language.{Exp, Val, Name, Switch, While, Try, ACase, NoCase, unit, let_in, then, var_in}
use Rattle.mo_meaning.specs.ExampleTypes.{nat32, text}
use Rattle.mo_meaning.specs.BenchRows.{bench, the_variable, ask_f, ask_g}
use Rattle.mo_meaning.specs.Playing.{Items, plays, calls, queries, installed, replied, trapped_call, called, empty, didl, nat_message, text_message}
use Rattle.mo_meaning.specs.Writing.{number, string, read, write, add_to, less, field_of, call, built_in, await, assert_false}

-- `var i = 0; while (i < n) { ignore o.f(); i += 1 }; try { await o.f(); v } catch (e) { .. }`
abbrev pub many_calls : ℕ → Exp → Exp → Exp
many_calls n v handler = var_in (number 0) (then
    (While (less (read (Name 0)) (number n)) (then (ask_f 1) (add_to (Name 0) (number 1))))
    (Try (then (await (ask_f 1)) v) Bind handler))

-- `switch (Error.code(e)) { case (#call_error x) x.err_code; case _ 1 }`, and `Error.message(e)`
abbrev pub by_code : Exp
by_code =
    Switch (call (built_in member.ErrorCode) (Name 0 ∷ [])) (ACase (Tagged (codes "call_error") Bind) (field_of (codes "err_code") (Name 0)) (ACase Wildcard (number 1) NoCase))

abbrev pub by_message : Exp
by_message = call (built_in member.ErrorMessage) (Name 0 ∷ [])

abbrev pub call_list : ℕ → ℕ → List Item
call_list n zero = []
call_list n (suc k) = item.Call n [] (codes "f") empty ∷ call_list (suc n) k

abbrev pub refused : Option Items
refused = plays 6600 (bench (nat32 ∷ []) (many_calls 500 (number 0) by_code) ∷ []) (calls (codes "go") ∷ [])

-- the number of the code is 2
abbrev pub wanted_refused : Option Items
wanted_refused = Some (installed ∷ (call_list 0 500 ++ item.Replied 0 (didl (0 ∷ 1 ∷ 0x79 ∷ 2 ∷ 0 ∷ 0 ∷ 0 ∷ [])) ∷ []) ∷ [])

abbrev pub refused_text : Option Items
refused_text = plays 6600 (bench (text ∷ []) (many_calls 500 (string []) by_message) ∷ []) (calls (codes "go") ∷ [])

abbrev pub wanted_refused_text : Option Items
wanted_refused_text = Some (installed ∷ (call_list 0 500 ++ replied 0 (text_message (codes "call refused"))) ∷ [])

-- ---- a `__resume` that is refused throws, and commits nothing: `let a = o.g(); let b = o.f(); await b; n := 7; var i = 0;`
-- `while (i < 500) { ignore o.f(); i += 1 }; try { ignore (await a) } catch (_) {}; assert false`, and reads n

abbrev pub refused_in_vain : Exp
refused_in_vain =
    let_in Bind (ask_g 0) (let_in Bind (ask_f 1) (then (await (Name 0)) (then (write (the_variable 2) (number 7))
    (var_in (number 0)
    (then (While (less (read (Name 0)) (number 500)) (then (ask_f 3) (add_to (Name 0) (number 1))))
    (then (Try (then (await (Name 2)) (Val unit)) Wildcard (Val unit)) assert_false))))))

abbrev pub refused_resume : Option Items
refused_resume =
    plays 6600 (bench [] refused_in_vain ∷ [])
    (calls (codes "go") ∷ event.Reply 0 (nat_message 5) ∷ event.Reply 1 empty ∷ queries (codes "get") ∷ [])

abbrev pub wanted_refused_resume : Option Items
wanted_refused_resume =
    Some (installed ∷ (called 0 (codes "g") ++ called 1 (codes "f")) ∷ [] ∷ trapped_call 0 (codes "assertion failed") ∷ replied 1 (nat_message 1) ∷ [])
