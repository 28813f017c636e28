use Rattle.std.proofs.Common.{[], ◌++◌, ◌∙◌, ap, List, ℕ, unwrap_or}
use Rattle.std.specs.Global.{Vec}
use Rattle.std.specs.Str.{bytes_eq}
use Rattle.std.proofs.lemmas.List.{map-append}
use Rattle.indexmap.specs.IndexMap.{get_by}
use Rattle.mo_name_table.specs.Places.{texts}
use Rattle.mo_scopes.specs.Findings.{Names, Texts}
use Rattle.mo_order.specs.Calls.{functions_at}
use Rattle.mo_order.proofs.Noting.{added, same_bytes}
use Rattle.mo_order.proofs.calls.add.Goals as goal

pub returns : goal.returns
returns c = λ (q : Vec ℕ).
    added c.put.result c.in_ok-key.key.items c.args.name.now.bytes q.items (functions_at c.args.functions.now q) (functions_at c.take-names.new.functions q) (functions_at c.put.new.functions q)
    (functions_at c.args.functions.now c.in_ok-key.key) (texts c.push_copies.new.names) (texts c.args.more.now)
    (c.in_ok-key.ensures.items ∙ c.as_slice.ensures)
    (ap (λ (t : Names). texts t) c.in_ok-push_copies.ensures ∙ map-append (λ x. x.bytes) c.take-names.result c.args.more.now ∙ ap (λ (t : Texts). t ++ texts c.args.more.now) c.take-names.ensures.taken)
    (λ h. ap (λ (z : List ℕ). texts (unwrap_or (get_by (λ b. bytes_eq z b.items) c.args.functions.now) [])) (same_bytes c.in_ok-key.key.items q.items h))
    (c.take-names.ensures.others q) (c.put.ensures q)
