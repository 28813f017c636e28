-- What reading and the rules say of bytes.
use Rattle.std.proofs.Common.{◌≡◌, ◌≤◌, ◌<◌, ℕ, List, length, Result, Ok, Err, IfOk, IfErr, inl, inr, true, nat_lt, refl, sym, ◌∙◌, subst, arith}
use Rattle.std.proofs.lemmas.Bool.Decides.{nat_tests}
use Rattle.std.proofs.lemmas.Bool.{cases_lt}
use Rattle.wasm_tree.specs.declared.module_parts.Module.{Module}
use Rattle.wasm_tree.specs.Binary.{Written}
use Rattle.wasm_tree.specs.Valid.{ValidModule}
use Rattle.wasm_read.specs.declared.fault.Fault.TheVariants.{TooLarge, NotWasm, Malformed, Floats}
use Rattle.wasm_read.specs.declared.fault.ReadFault.{ReadFault}
use Rattle.wasm_read.specs.declared.fault.ReadFault.TheVariants as read
use Rattle.wasm_read.specs.Sections.{module_at, largest, Answers}
use Rattle.mo_play.specs.declared.judging.ModuleFault.TheVariants.{Read, Valid}
use Rattle.mo_play.specs.declared.judging.JudgeFault.{JudgeFault}
use Rattle.mo_play.specs.declared.judging.JudgeFault.TheVariants.{Bad, Memory}
use Rattle.mo_play.specs.Modules.{file_limit, IsModule, IsBadModule, IsJudged, Judged, unread_fault}

-- More bytes than a module has.
pub long_at : (bytes : List ℕ) → file_limit < length bytes → module_at bytes ≡ Err TooLarge
unfolding module_at
long_at bytes long = let test : nat_lt largest (length bytes) ≡ true = grind (arith, nat_tests) in rw test refl

pub is_short : (bytes : List ℕ) (m : Module) → module_at bytes ≡ Ok m → length bytes ≤ file_limit
is_short bytes m e =
    elim (cases_lt file_limit (length bytes)) [
      | inl long ↦ (let both : Err TooLarge ≡ Ok m = sym (long_at bytes long) ∙ e in absurd (cc))
      | inr short ↦ short
    ]

-- A file with more bytes than a module has.
pub too_large : (bytes : List ℕ) → file_limit < length bytes → IsBadModule bytes (Read read.TooLarge)
too_large bytes long = record { none = λ m h. let short : length bytes ≤ file_limit = h.short in omega arith; named = (λ e. absurd (cc), long_at bytes long) }

-- What is read is judged by the rules.
pub judged_module : (bytes : List ℕ) (tree : Module) (r : Result Module JudgeFault) → Written tree bytes → module_at bytes ≡ Ok tree → Judged tree r → IfOk r (IsModule bytes)
judged_module bytes tree (Ok m) w e j = subst (IsModule bytes) (sym j.0) (record { short = is_short bytes tree e; written = w; valid = j.1 })
judged_module bytes tree (Err fault) w e j = tt

pub judged_fault : (bytes : List ℕ) (tree : Module) (r : Result Module JudgeFault) → Written tree bytes → module_at bytes ≡ Ok tree → ((m : Module) → length bytes ≤ file_limit → Written m bytes → Answers (Ok tree) (Ok m)) → Judged tree r
    → IfErr r (IsJudged bytes)
judged_fault bytes tree (Ok m) w e one j = tt
judged_fault bytes tree (Err (Bad (Read fault))) w e one j = absurd j
judged_fault bytes tree (Err (Bad (Valid rule))) w e one j = record {
  none = λ m h. let both : Ok m ≡ Ok tree = one m h.short h.written in let same : m ≡ tree = cc in j.0 (subst ValidModule same h.valid);
  named = (is_short bytes tree e, tree, w, j.1, j.2);
}
judged_fault bytes tree (Err Memory) w e one j = tt

-- What cannot be read is no module.
pub unread_judged : (bytes : List ℕ) (fault : ReadFault) → Answers (Err fault) (module_at bytes) → ((m : Module) → length bytes ≤ file_limit → Written m bytes → Answers (Err fault) (Ok m))
    → IsJudged bytes (unread_fault fault)
unread_judged bytes read.Memory a only = tt
unread_judged bytes read.TooLarge a only = record { none = λ m h. let e : Ok m ≡ Err TooLarge = only m h.short h.written in absurd (cc); named = (λ e. absurd (cc), a) }
unread_judged bytes read.NotWasm a only = record { none = λ m h. let e : Ok m ≡ Err NotWasm = only m h.short h.written in absurd (cc); named = (λ e. absurd (cc), a) }
unread_judged bytes read.Malformed a only = record { none = λ m h. let e : Ok m ≡ Err Malformed = only m h.short h.written in absurd (cc); named = (λ e. absurd (cc), a) }
unread_judged bytes read.Floats a only = record { none = λ m h. let e : Ok m ≡ Err Floats = only m h.short h.written in absurd (cc); named = (λ e. absurd (cc), a) }
