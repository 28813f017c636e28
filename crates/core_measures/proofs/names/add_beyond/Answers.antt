use Rattle.std.proofs.Common.{◌++◌, ◌-◌, ◌∙◌, sym, ap, ℕ, List, arith}
use Rattle.std.proofs.lemmas.List.{append-nil}
use Rattle.std.proofs.lemmas.Result.{IfOk-weaker}
use Rattle.core_measures.proofs.Bindings.{not_beyond, is_beyond}
use Rattle.core_measures.proofs.names.add_beyond.Goals as goal

pub returns-then-place-near : goal.returns-then-place-near
returns-then-place-near c =
    let old : List ℕ = c.args.names.now in
    sym (ap (λ (xs : List ℕ). old ++ xs) (not_beyond c.args.near c.args.place (let z = c.if-place-near.true in omega (arith, z))) ∙ append-nil old)

pub returns : goal.returns
returns c =
    let old : List ℕ = c.args.names.now in
    IfOk-weaker c.add.result _ _ (λ u h. h ∙ ap (λ (xs : List ℕ). old ++ xs) (sym (is_beyond c.args.near c.args.place (c.args.place - c.args.near) (let z = c.if-place-near.false in omega (arith, z))))) c.add.ensures
