use Rattle.std.proofs.Common.{[], ◌∷◌, ◌++◌, ◌∙◌, ap, List, ℕ, unwrap_or}
use Rattle.std.specs.Global.{Vec}
use Rattle.std.specs.Str.{bytes_eq}
use Rattle.indexmap.specs.IndexMap.{get_by}
use Rattle.kernel_places.specs.Using.{users_at}
use Rattle.kernel_places.proofs.Noting.{added, same_bytes}
use Rattle.kernel_places.proofs.users.add.Goals as goal

pub returns : goal.returns
returns c = λ (q : Vec ℕ).
    added c.put.result c.in_ok-key.key.items c.args.name.now q.items (users_at c.args.functions.now q) (users_at c.take-places.new.functions q) (users_at c.put.new.functions q)
    (users_at c.args.functions.now c.in_ok-key.key) c.push.new.self (c.args.index ∷ [])
    (c.in_ok-key.ensures.items ∙ c.as_slice.ensures)
    (c.in_ok-push.ensures.ok ∙ ap (λ (t : List ℕ). t ++ c.args.index ∷ []) c.take-places.ensures.taken)
    (λ h. ap (λ (z : List ℕ). unwrap_or (get_by (λ b. bytes_eq z b.items) c.args.functions.now) []) (same_bytes c.in_ok-key.key.items q.items h))
    (c.take-places.ensures.others q) (c.put.ensures q)
