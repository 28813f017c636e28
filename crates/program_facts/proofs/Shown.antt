-- What it means that names are bound.
use Rattle.std.proofs.Common.{inl, inr, List, [], ◌∷◌, refl, ap}
use Rattle.mo_names.specs.Bound.{Bound}
use Rattle.mo_names.specs.Order.{Step, Among, lists_in}
use Rattle.mo_names.specs.ProgramNames.{findings, breaches}
use Rattle.mo_scopes.specs.declared.finding.Finding.{Finding}
use Rattle.mo_scopes.specs.declared.finding.Finding.TheVariants as finding
use Rattle.mo_scopes.specs.declared.rule.Rule.TheVariants as rule
use Rattle.mo_scopes.specs.declared.rule.Breach.{Breach}
use Rattle.mo_syntax.specs.declared.program.Tree.{Tree}
use Rattle.source_facts.specs.Laws.{AreMeanings, IsListFine, AreListsFine}

unbroken : (fs : List Finding) → ((b : Breach) → Among b (breaches fs) → ⊥) → AreMeanings fs
unbroken [] h = tt
unbroken (finding.Meaning m ∷ fs) h = (tt, unbroken fs h)
unbroken (finding.Breach b ∷ fs) h = absurd (h b ([], breaches fs, refl))

pub meanings : (tree : Tree) → Bound tree → AreMeanings (findings tree)
meanings tree bound = unbroken (findings tree) (λ b m. bound b (inl m))

each_fine : (lists : List (List Step)) → ((steps : List Step) → Among steps lists → IsListFine steps) → AreListsFine lists
each_fine [] h = tt
each_fine (steps ∷ lists) h = (h steps ([], lists, refl), each_fine lists (λ s m. h s (steps ∷ m.0, m.1, ap (λ z. steps ∷ z) m.2)))

pub lists_fine : (tree : Tree) → Bound tree → AreListsFine (lists_in tree)
lists_fine tree bound =
    each_fine (lists_in tree) (λ steps m. λ name e. bound (record { rule = rule.UsedBeforeDefined; place = name.place }) (inr (refl, record { steps = steps; name = name; listed = m; early = e; here = refl })))
