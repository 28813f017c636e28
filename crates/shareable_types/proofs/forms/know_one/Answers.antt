use Rattle.std.proofs.Common.{◌≡◌, ℕ, Bool, sym, subst}
use Rattle.shareable_types.specs.Sharing.{allowed}
use Rattle.shareable_types.specs.Settled.{Knows}
use Rattle.shareable_types.specs.Parts.{form_allowed}
use Rattle.shareable_types.proofs.Parts.{one_more}
use Rattle.shareable_types.proofs.forms.know_one.Goals as goal

pub returns-clause-knows : goal.returns-clause-knows
returns-clause-knows c =
    subst (Knows c.args.any c.args.definitions.now c.args.needed.now c.args.terms.now) (sym c.in_ok-push.ensures.items)
    (one_more c.args.any c.args.definitions.now c.args.needed.now c.args.terms.now c.args.known.now.items c.args.form.now c.in_ok-needs.needs c.requires.knows c.requires.there c.requires.below
    (subst (λ known. (x : ℕ → Bool) → allowed x c.in_ok-needs.needs ≡ form_allowed c.args.any c.args.definitions.now c.args.needed.now known x c.args.form.now) c.as_slice.ensures.value c.in_ok-needs.ensures))
