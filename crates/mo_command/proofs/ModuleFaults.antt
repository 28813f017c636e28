-- What is named of bytes that are no valid module.
use Rattle.std.proofs.Common.{◌≡◌, ℕ, List, Result, Ok, Err, refl, sym, ap, ◌∙◌, inl, inr}
use Rattle.wasm_tree.specs.declared.module_parts.Module.{Module}
use Rattle.wasm_tree.specs.declared.rule.Rule.{Rule}
use Rattle.wasm_read.specs.declared.fault.Fault.{Fault}
use Rattle.wasm_read.specs.declared.fault.Fault.TheVariants.{TooLarge, NotWasm, Malformed, Floats}
use Rattle.wasm_read.specs.declared.fault.ReadFault.{ReadFault}
use Rattle.wasm_read.specs.declared.fault.ReadFault.TheVariants as read
use Rattle.wasm_read.specs.Sections.{module_at, Answers}
use Rattle.wasm_read.proofs.Whole.{only}
use Rattle.mo_play.specs.declared.judging.ModuleFault.{ModuleFault}
use Rattle.mo_play.specs.declared.judging.ModuleFault.TheVariants.{Read, Valid}
use Rattle.mo_play.specs.Modules.{IsNamed}
use Rattle.mo_command.specs.declared.status.Status.TheVariants.{BadModule}
use Rattle.mo_command.specs.OneStatus.{AreAlike}

-- The fault of a reading, or want of memory where it has none.
abbrev fault_of : Result Module Fault → ReadFault
fault_of (Ok m) = read.Memory
fault_of (Err TooLarge) = read.TooLarge
fault_of (Err NotWasm) = read.NotWasm
fault_of (Err Malformed) = read.Malformed
fault_of (Err Floats) = read.Floats

is_fault : (f : ReadFault) (reading : Result Module Fault) → (f ≡ read.Memory → ⊥) → Answers (Err f) reading → fault_of reading ≡ f
is_fault read.TooLarge reading some a = ap fault_of a
is_fault read.NotWasm reading some a = ap fault_of a
is_fault read.Malformed reading some a = ap fault_of a
is_fault read.Floats reading some a = ap fault_of a
is_fault read.Memory reading some a = absurd (some refl)

-- What reads as a module has no such fault.
unread : (bytes : List ℕ) (f : ReadFault) (rule : Rule) → IsNamed bytes (Read f) → IsNamed bytes (Valid rule) → ⊥
unread bytes f rule r v = r.0 (sym (is_fault f (module_at bytes) r.0 r.1) ∙ ap fault_of (only v.1 bytes v.0 v.2))

pub one_named : (bytes : List ℕ) (number : ℕ) (f g : ModuleFault) → IsNamed bytes f → IsNamed bytes g → AreAlike (BadModule number f) (BadModule number g)
one_named bytes number (Read f) (Read g) p q =
    inl (ap (λ (h : ReadFault). BadModule number (Read h)) (sym (is_fault f (module_at bytes) p.0 p.1) ∙ is_fault g (module_at bytes) q.0 q.1))
one_named bytes number (Read f) (Valid rule) p q = absurd (unread bytes f rule p q)
one_named bytes number (Valid rule) (Read g) p q = absurd (unread bytes g rule q p)
one_named bytes number (Valid rule) (Valid second) p q = inr (inl (number, rule, second, refl, refl))
