-- The tags of the codes of errors.
use Rattle.std.specs.Prelude.{List, [], ◌∷◌, codes}
use Rattle.mo_types.specs.declared.node.Field.{Field}
use Rattle.type_terms.specs.declared.form.TermId.{TermId}
use Rattle.built_in_members.specs.Written.{plain_field}

-- where these are the types of their values
abbrev pub code_tags : TermId → TermId → TermId → List (Field TermId)
code_tags unit number refusal =
    plain_field (codes "system_fatal") unit ∷ plain_field (codes "system_transient") unit ∷ plain_field (codes "destination_invalid") unit ∷ plain_field (codes "canister_reject") unit
    ∷ plain_field (codes "canister_error") unit ∷ plain_field (codes "future") number ∷ plain_field (codes "call_error") refusal ∷ []
