use Rattle.std.proofs.Common.{◌∙◌, ap, suc, map, length}
use Rattle.body_lists.specs.declared.known.Known.{Known}
use Rattle.module_bodies.proofs.Plans.{is_known}
use Rattle.module_bodies.proofs.knowing.known_of.Goals as goal

pub returns : goal.returns
returns c = λ more own e.
    let known : Known = record { types = c.in_ok-types.types; links = c.in_ok-links.links; groups = c.in_ok-groups.groups; hidden = c.in_ok-hidden.hidden; first_arity = c.in_ok-first_arity.first_arity } in
    is_known c.args.program.now more own known c.args.further c.in_ok-types.ensures (c.in_ok-links.ensures ∙ c.in_ok-texts.ensures)
    (c.in_ok-groups.ensures ∙ ap (λ gs. map (λ g. length g.bodies) gs) c.as_slice.ensures)
    (c.in_ok-hidden.ensures ∙ ap suc c.len.ensures) c.in_ok-first_arity.ensures e
