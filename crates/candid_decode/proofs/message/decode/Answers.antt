use Rattle.std.proofs.Common.{rules, ◌≡◌, ◌≢◌, Err, [], sym, ◌∙◌, subst}
use Rattle.mo_types.specs.Graph.{head_at}
use Rattle.mo_types.specs.Values.{tree}
use Rattle.mo_types.specs.Code.{Reads}
use Rattle.candid_decode.specs.Faults.{OtherTypes, Behind}
use Rattle.candid_decode.proofs.Messages.{makes, no_header, not_other, not_over, nothing_left, no_values, same_values, in_header, in_values, no_bytes}
use Rattle.candid_decode.proofs.message.decode.Goals as goal

pub returns-in_err-header-clause-only : goal.returns-in_err-header-clause-only
returns-in_err-header-clause-only c values r =
    let e : c.from_residual.result ≡ Err c.in_err-header.field-0.0 = search rules in
    rw e (no_header c.args.types.now c.args.ids.now c.args.bytes.now values r c.in_err-header.field-0.0 c.in_err-header.ensures.only)

pub returns-in_err-header-clause-fault : goal.returns-in_err-header-clause-fault
returns-in_err-header-clause-fault c =
    let e : c.from_residual.result ≡ Err c.in_err-header.field-0.0 = search rules in
    rw e (in_header c.args.types.now c.args.ids.now c.args.bytes.now c.in_err-header.field-0.0 c.in_err-header.ensures.fault)

pub returns-then-not-branch-clause-only : goal.returns-then-not-branch-clause-only
returns-then-not-branch-clause-only c values r =
    not_other c.args.types.now c.args.ids.now c.args.bytes.now values r c.in_ok-header.header c.in_ok-header.rest.now c.in_ok-header.ensures.only (c.in_ok-has_types.ensures.no c.if-not-branch.true)

pub returns-then-not-branch-clause-fault : goal.returns-then-not-branch-clause-fault
returns-then-not-branch-clause-fault c = OtherTypes c.in_ok-header.header c.in_ok-header.rest.now c.in_ok-header.ensures.fault (c.in_ok-has_types.ensures.no c.if-not-branch.true)

pub returns-in_err-left-clause-only : goal.returns-in_err-left-clause-only
returns-in_err-left-clause-only c values r =
    let e : c.from_residual-in_err-left.result ≡ Err c.in_err-left.field-0.0 = search rules in
    rw e (not_over c.args.types.now c.args.ids.now c.args.bytes.now values r c.in_ok-header.header c.in_ok-header.rest.now c.in_ok-header.ensures.only c.in_err-left.field-0.0 c.in_err-left.ensures.only)

pub returns-in_err-left-clause-fault : goal.returns-in_err-left-clause-fault
returns-in_err-left-clause-fault c =
    let e : c.from_residual-in_err-left.result ≡ Err c.in_err-left.field-0.0 = search rules in
    rw e (in_values c.args.types.now c.args.ids.now c.args.bytes.now c.in_ok-header.header c.in_ok-header.rest.now c.in_err-left.field-0.0 c.in_ok-header.ensures.fault (c.in_ok-has_types.ensures.yes c.if-not-branch.false) c.in_err-left.ensures.fault)

pub returns-then-not-is_empty-clause-only : goal.returns-then-not-is_empty-clause-only
returns-then-not-is_empty-clause-only c values r =
    let some : c.in_ok-left.left.now ≢ [] = search rules in
    some (nothing_left c.args.types.now c.args.ids.now c.args.bytes.now values r c.in_ok-header.header c.in_ok-header.rest.now c.in_ok-header.ensures.only c.in_ok-left.left.now c.in_ok-left.ensures.only)

pub returns-then-not-is_empty-clause-fault : goal.returns-then-not-is_empty-clause-fault
returns-then-not-is_empty-clause-fault c =
    let some : c.in_ok-left.left.now ≢ [] = search rules in
    let v = c.in_ok-left.ensures.found in
    Behind c.in_ok-header.header c.in_ok-header.rest.now c.in_ok-left.left.now v.0 c.in_ok-header.ensures.fault (c.in_ok-has_types.ensures.yes c.if-not-branch.false) v.1 some

pub returns-in_err-parts-clause-only : goal.returns-in_err-parts-clause-only
returns-in_err-parts-clause-only c values r =
    let e : c.from_residual-in_err-parts.result ≡ Err c.in_err-parts.field-0.0 = search rules in
    rw e (no_values c.args.types.now c.args.ids.now c.args.bytes.now values r c.in_ok-header.header c.in_ok-header.rest.now c.in_ok-header.ensures.only c.in_err-parts.field-0.0 c.in_err-parts.ensures.only)

pub returns-in_err-parts-clause-fault : goal.returns-in_err-parts-clause-fault
returns-in_err-parts-clause-fault c =
    let e : c.from_residual-in_err-parts.result ≡ Err c.in_err-parts.field-0.0 = search rules in
    rw e (in_values c.args.types.now c.args.ids.now c.args.bytes.now c.in_ok-header.header c.in_ok-header.rest.now c.in_err-parts.field-0.0 c.in_ok-header.ensures.fault (c.in_ok-has_types.ensures.yes c.if-not-branch.false) c.in_err-parts.ensures.fault)

pub returns-clause-found : goal.returns-clause-found
returns-clause-found c =
    let none : c.in_ok-left.left.now ≡ [] = no_bytes c.in_ok-left.left.now (sym c.if-not-is_empty.ensures) in
    let t = c.in_ok-parts.ensures.found in
    let same = c.in_ok-left.ensures.only (tree c.in_ok-parts.parts.items) t.front c.in_ok-parts.field-0-1.now t.holds t.whole in
    subst (λ ps. Reads (head_at c.args.types.now) c.args.ids.now c.args.bytes.now (tree ps)) (sym c.from_vec.ensures)
    (makes c.args.types.now c.args.ids.now c.args.bytes.now c.in_ok-header.header c.in_ok-header.rest.now c.in_ok-parts.field-0-1.now (tree c.in_ok-parts.parts.items) c.in_ok-header.ensures.found (c.in_ok-has_types.ensures.yes c.if-not-branch.false) t (sym same ∙ none))

pub returns-clause-only : goal.returns-clause-only
returns-clause-only c values r =
    c.from_vec.ensures ∙ (same_values c.args.types.now c.args.ids.now c.args.bytes.now values r c.in_ok-header.header c.in_ok-header.rest.now c.in_ok-header.ensures.only c.in_ok-parts.parts.items c.in_ok-parts.field-0-1.now c.in_ok-parts.ensures.only).0
