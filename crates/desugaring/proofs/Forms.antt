-- Forms, by evaluation.
use Rattle.std.proofs.Common.{◌≡◌, map, refl}
use Rattle.typing_rules.specs.Heads.{head, members_head}
use Rattle.desugaring.specs.FormRows.{declarations, jumps, operators, written}

pub operators_written : map (λ r. written r.from) operators ≡ map (λ r. r.to) operators
unfolding head members_head
operators_written = refl

pub jumps_written : map (λ r. written r.from) jumps ≡ map (λ r. r.to) jumps
unfolding head members_head
jumps_written = refl

pub declarations_written : map (λ r. written r.from) declarations ≡ map (λ r. r.to) declarations
unfolding head members_head
declarations_written = refl
