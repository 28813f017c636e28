use Rattle.std.proofs.Common.{◌+◌, ℕ, List, length, arith, sym, ap, ◌∙◌}
use Rattle.wasm_numeric.specs.Memory.{loaded}
use Rattle.wasm_machine.proofs.Arms.{select_on, load_on, load_past, store_on, store_past, compare_on, binary_on, binary_fails, table_ready, address_is}
use Rattle.wasm_machine.proofs.advance.take_step.Goals as goal

pub table_label-label-requires-clause-entries : goal.table_label-label-requires-clause-entries
table_label-label-requires-clause-entries c = let r = rw c.in-BrTable.is at c.requires.ready in λ i h. let at = r.2 i h in (at.0, at.1)

pub branch-stack-requires-in-BrTable-clause-ready : goal.branch-stack-requires-in-BrTable-clause-ready
branch-stack-requires-in-BrTable-clause-ready c =
    table_ready _ (length c.args.locals.now) (length c.args.globals.now) (length c.args.stack.now) _ _ _ _ _ (rw c.in-BrTable.is at c.requires.ready) c.table_label-label.ensures

pub returns-in-BrTable-clause-held : goal.returns-in-BrTable-clause-held
returns-in-BrTable-clause-held c =
    let r = table_ready _ (length c.args.locals.now) (length c.args.globals.now) (length c.args.stack.now) _ _ _ _ _ (rw c.in-BrTable.is at c.requires.ready) c.table_label-label.ensures in
    rw c.branch-stack-in-BrTable.ensures.to (omega (arith, r.0, c.requires.within))

pub returns-in-Some-clause-moves : goal.returns-in-Some-clause-moves
returns-in-Some-clause-moves c = λ g e.
    let r = rw c.in-Load.is at c.requires.ready in
    let at = address_is _ _ _ _ _ c.low32.ensures c.from.ensures c.top-in-Load.ensures in
    let got = ap (λ (m : List ℕ). loaded c.in-Load.kind m (c.low32.result + c.from.result)) (sym c.bytes.ensures.value) ∙ sym c.load.ensures ∙ c.in-Some.is in
    load_on g _ _ _ _ _ _ _ _ _ _ _ _ _ _ c.in-Load.is r.1 at got c.put-in-Some.ensures.next c.put-in-Some.ensures.tops

pub returns-in-None-clause-moves : goal.returns-in-None-clause-moves
returns-in-None-clause-moves c = λ g e.
    let r = rw c.in-Load.is at c.requires.ready in
    let at = address_is _ _ _ _ _ c.low32.ensures c.from.ensures c.top-in-Load.ensures in
    let got = ap (λ (m : List ℕ). loaded c.in-Load.kind m (c.low32.result + c.from.result)) (sym c.bytes.ensures.value) ∙ sym c.load.ensures ∙ c.in-None.is in
    load_past g _ _ _ _ _ _ _ _ _ _ _ c.in-Load.is r.1 at got

pub returns-in-true-clause-moves : goal.returns-in-true-clause-moves
returns-in-true-clause-moves c = λ g e.
    let r = rw c.in-Store.is at c.requires.ready in
    let at = address_is _ _ _ _ _ c.low32-in-Store.ensures c.from-in-Store.ensures c.second-in-Store.ensures in
    store_on g _ _ _ _ _ _ _ _ _ _ _ _ _ c.in-Store.is r.1 at c.top-in-Store.ensures (rw c.in-true.is at c.store_in.ensures.inside) (rw c.in-true.is at c.store_in.ensures.written)

pub returns-in-false-clause-moves : goal.returns-in-false-clause-moves
returns-in-false-clause-moves c = λ g e.
    let r = rw c.in-Store.is at c.requires.ready in
    let at = address_is _ _ _ _ _ c.low32-in-Store.ensures c.from-in-Store.ensures c.second-in-Store.ensures in
    store_past g _ _ _ _ _ _ _ _ _ _ _ _ _ c.in-Store.is r.1 at c.top-in-Store.ensures (rw c.in-false.is at c.store_in.ensures.inside) (rw c.in-false.is at c.store_in.ensures.written)

pub returns-in-Compare-clause-moves : goal.returns-in-Compare-clause-moves
returns-in-Compare-clause-moves c = λ g e.
    let r = rw c.in-Compare.is at c.requires.ready in
    compare_on g _ _ _ _ _ _ _ _ _ _ _ _ _ c.in-Compare.is r.1 (rw (← c.second-in-Compare.ensures, ← c.top-in-Compare.ensures) c.compare-value.ensures) c.put-in-Compare.ensures.next c.put-in-Compare.ensures.tops

pub returns-in-Ok-clause-moves : goal.returns-in-Ok-clause-moves
returns-in-Ok-clause-moves c = λ g e.
    let r = rw c.in-Binary.is at c.requires.ready in
    binary_on g _ _ _ _ _ _ _ _ _ _ _ _ _ c.in-Binary.is r.1 (rw (← c.second-in-Binary.ensures, ← c.top-in-Binary.ensures) (sym c.binary.ensures ∙ c.in-Ok.is)) c.put-in-Ok.ensures.next c.put-in-Ok.ensures.tops

pub returns-in-Err-clause-moves : goal.returns-in-Err-clause-moves
returns-in-Err-clause-moves c = λ g e.
    let r = rw c.in-Binary.is at c.requires.ready in
    binary_fails g _ _ _ _ _ _ _ _ _ _ _ c.in-Binary.is r.1 (rw (← c.second-in-Binary.ensures, ← c.top-in-Binary.ensures) (sym c.binary.ensures ∙ c.in-Err.is))

pub returns-in-Select-clause-moves : goal.returns-in-Select-clause-moves
returns-in-Select-clause-moves c = λ g e.
    let r = rw c.in-Select.is at c.requires.ready in
    select_on g _ _ _ _ _ _ _ _ _ _ _ _ _ _ c.in-Select.is r.1 c.top.ensures c.third.ensures c.second.ensures c.select-value.ensures c.put.ensures.next c.put.ensures.tops
