use Rattle.std.proofs.Common.{ap, ◌∙◌, unwrap_or, None}
use Rattle.std.specs.Map.{lookup}
use Rattle.std.specs.Str.{bytes_eq}
use Rattle.mo_name_table.proofs.Finding.{written}
use Rattle.type_scopes.proofs.names.keep.Goals as goal

pub returns-in-Some : goal.returns-in-Some
returns-in-Some c = λ x.
    ap (λ es. unwrap_or (lookup (λ k. bytes_eq x k.items) es) None) (c.get_mut.follows.holds c.args.place).0
    ∙ written (λ k. k.items) c.args.places.now.entries c.args.name.now c.args.place x c.requires
